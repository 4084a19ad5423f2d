-- The first field goes to the text layer's reader.
use mathlib.Core.Path.{sym, ap, ◌∙◌}
use Prim.Native.Nat.{ℕ}
use native.Mathlib.Nat.{sub-zero}
use native.Mathlib.Omega.{arith}
use lib.ListN.{take}
use Rattle.text.specs.Bytes.{byte}
use Rattle.text.specs.Uuid.{uuid_of}
use Rattle.text.proofs.BytesLaws.{first_le}
use Rattle.store.proofs.WantedLaws.{wanted-not, wanted_is}
use Rattle.store.proofs.lines.wanted.Goals as goal

pub returns-then-not-for_platform : goal.returns-then-not-for_platform
returns-then-not-for_platform c =
    let l = c.args.line.now in
    sym (wanted-not l (sym c.for_platform.ensures ∙ c.if-not-for_platform.true))

pub slice_bounds-parse_str-end : goal.slice_bounds-parse_str-end
slice_bounds-parse_str-end c =
    omega (arith, c.find_far-end.ensures, first_le (byte ",") c.args.line.now)

pub returns : goal.returns
returns c =
    let l = c.args.line.now in
    let end = c.find_far-end in
    let here = c.for_platform in
    c.parse_str.ensures
    ∙ ap (λ (n : ℕ). uuid_of (take n l)) (sub-zero end.result ∙ end.ensures)
    ∙ sym (wanted_is l (sym here.ensures ∙ c.if-not-for_platform.false))
