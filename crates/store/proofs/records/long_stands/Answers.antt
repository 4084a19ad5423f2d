-- The kind, and behind kind 5 the owner decide.
use mathlib.Core.Bool.{true}
use Rattle.store.proofs.HeadLaws.{hall_told, owned_told, long_other, long_zero}
use Rattle.store.proofs.records.long_stands.Goals as goal

pub holds_long-requires : goal.holds_long-requires
holds_long-requires c = hall_told c.args.index.now true c.if-index-eq2.true

pub returns-then-index-ne5 : goal.returns-then-index-ne5
returns-then-index-ne5 c = long_other c.args.index.now c.requires.not_short c.if-index-eq2.false c.if-index-ne5.true

pub returns-then-index-eq0 : goal.returns-then-index-eq0
returns-then-index-eq0 c = long_zero c.args.index.now c.requires.not_short c.if-index-eq2.false c.if-index-eq0.true

pub holds_long-requires-2 : goal.holds_long-requires-2
holds_long-requires-2 c = owned_told c.args.index.now true c.if-index-ne5.false c.if-index-eq0.false
