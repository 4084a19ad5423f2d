-- The first byte tells whether the record is long.
use mathlib.Core.Bool.{true, false}
use Rattle.store.proofs.HeadLaws.{kind_short, kind_long}
use Rattle.store.proofs.records.whole_head.Goals.{then-index-eq1-via-then-index-eq1}
use Rattle.store.proofs.records.whole_head.Goals.{then-index-eq1-via-else-index-eq1+then-index-eq3}
use Rattle.store.proofs.records.whole_head.Goals as goal

pub head_in-requires : goal.head_in-requires
head_in-requires c = elim c.then-index-eq1.branch [
  | then-index-eq1-via-then-index-eq1 w ↦ kind_short c.args.index.now c.requires false w.if-index-eq1.true
  | then-index-eq1-via-else-index-eq1+then-index-eq3 w ↦ kind_short c.args.index.now c.requires true w.if-index-eq3.true
]

pub head_in-requires-2 : goal.head_in-requires-2
head_in-requires-2 c = kind_long c.args.index.now c.requires c.if-index-eq1.false c.if-index-eq3.false
