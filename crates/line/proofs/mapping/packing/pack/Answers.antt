use mathlib.Core.Path.{refl}
use native.Mathlib.Omega.{arith}
use Rattle.line.proofs.NumberLaws.{packed_in}
use Rattle.line.proofs.mapping.packing.pack.Goals as goal

pub returns : goal.returns
returns c = (refl, packed_in c.args.code c.args.shape c.args.number (omega arith) (omega arith))
