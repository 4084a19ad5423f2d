-- The length and the offset decide.
use native.Mathlib.Omega.{arith}
use Rattle.text.proofs.ListLaws.{part_to_end}
use Rattle.store.proofs.HeadLaws.{long_cut, long_holds}
use Rattle.store.proofs.records.holds_long.Goals as goal

pub returns-then-index-size_by : goal.returns-then-index-size_by
returns-then-index-size_by c =
    let args = c.args in
    long_cut args.index.now args.owner c.requires (omega (arith, c.size_by.ensures, c.if-index-size_by.true))

pub returns : goal.returns
returns c =
    let args = c.args in
    let start = c.body_start-start in
    long_holds args.index.now args.owner c.requires (omega (arith, c.size_by.ensures, c.if-index-size_by.false))
    start.result start.ensures _ (part_to_end args.index.now start.result) c.read_offset.result c.read_offset.ensures
