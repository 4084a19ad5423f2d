-- The body is the definition.
use mathlib.Core.Path.{refl}
use Rattle.store.specs.Keys.{sum_of, bucket, tag_of}
use borrow.Author.Rules.{rules}
use Rattle.store.proofs.chains.hash_of.Goals as goal

pub returns : goal.returns
unfolding sum_of bucket tag_of
returns g c = record { bucket = (refl, search rules); tag = refl }
