-- The two halves are written one after the other.
-- Assumes nothing.
use mathlib.Core.Path.{ap, sym, ◌∙◌}
use Prim.Native.Nat.{◌+◌}
use native.Mathlib.Omega.{arith}
use Rattle.text.specs.Bytes.{written}
use Rattle.text.specs.Uuid.{hex_text}
use Rattle.text.proofs.BytesLaws.{written-append}
use Rattle.text.proofs.UuidLaws.{hex_text-length, uuid_text-length}
use Rattle.text.proofs.uuid.put_simple.Goals as goal

pub returns : goal.returns
returns c =
    let a = c.args in
    let high = hex_text 16 a.id.high in
    let low = hex_text 16 a.id.low in (
      ap (λ k. a.at + k) (sym (uuid_text-length a.id)),
      c.put_half-2.ensures
          ∙ ap (λ l. written l (a.at + 16) low) c.put_half.ensures
          ∙ written-append a.out.now a.at high low (a.at + 16)
          (ap (λ k. a.at + k) (sym (hex_text-length 16 a.id.high)))
          (omega (arith, hex_text-length 16 a.id.low)),
    )
