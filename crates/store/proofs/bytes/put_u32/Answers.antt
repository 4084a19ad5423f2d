-- The bytes stand where they were lent.
use mathlib.Core.Path.{◌∙◌}
use native.Mathlib.Omega.{arith}
use Rattle.store.proofs.BufferLaws.{put_between}
use Rattle.store.proofs.ByteLaws.{four_bytes}
use Rattle.store.proofs.bytes.put_u32.Goals as goal

pub returns : goal.returns
returns c =
    let args = c.args in
    put_between args.to.now args.k _ _ _ (omega arith) (c.copy_from_slice.ensures.after ∙ c.to_be_bytes.ensures ∙ four_bytes c.args.x)
