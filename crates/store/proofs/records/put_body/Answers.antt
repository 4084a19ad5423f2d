-- Four numbers written one behind the other are the body.
use mathlib.Core.Path.{ap}
use Prim.Native.Nat.{ℕ, ◌+◌}
use Rattle.store.proofs.BodyLaws.{body_put}
use Rattle.store.proofs.records.put_body.Goals as goal

pub returns : goal.returns
returns c =
    let args = c.args in
    body_put args.long args.s.now _ _ _ _ args.uuid args.off args.len c.requires c.put_u64.ensures c.put_u64-2.ensures
    c.put_offset.ensures (16 + c.offset_width.result) (ap (λ (n : ℕ). 16 + n) c.offset_width.ensures) c.put_word.ensures
