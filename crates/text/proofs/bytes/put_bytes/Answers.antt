use mathlib.Core.Path.{refl}
use native.Mathlib.Omega.{arith}
use Rattle.text.proofs.BytesLaws.{mid_written}
use Rattle.text.proofs.bytes.put_bytes.Goals as goal

pub returns : goal.returns
returns c = (refl, mid_written c.args.out.now c.args.at c.args.v.now _ _ (omega arith) c.copy_from_slice.ensures.after)
