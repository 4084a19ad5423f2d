-- The number formula is the definition's.
use mathlib.Core.Path.{refl}
use Rattle.text.specs.Uuid.{without_checksum}
use Rattle.text.proofs.uuid.Uuid.without_checksum.Goals as goal

pub returns : goal.returns
unfolding without_checksum
returns c = refl
