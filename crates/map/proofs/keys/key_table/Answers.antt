-- The program's table is the rule's list: the checker computes both. Assumes nothing.
use mathlib.Core.Path.{refl}
use Rattle.map.specs.Keys.{keys}
use Rattle.map.proofs.keys.key_table.Goals as goal

pub returns : goal.returns
unfolding keys
returns c = refl
