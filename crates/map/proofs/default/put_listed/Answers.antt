-- By the test of its code. Assumes nothing.
use Rattle.std.proofs.Common.{sym, ◌∙◌}
use Rattle.line.proofs.ViewLaws.{put_map}
use Rattle.map.specs.Default.{flagged_map, put_kept}
use Rattle.map.proofs.default.put_listed.Goals as goal

pub returns-then-contains : goal.returns-then-contains
unfolding put_kept
returns-then-contains c =
    λ es few is.
    rw (sym c.contains.ensures ∙ c.if-contains.true)
    (rw is at c.put.ensures.1 ∙ put_map (flagged_map es) c.args.e few)

pub returns-else-contains : goal.returns-else-contains
unfolding put_kept
returns-else-contains c = λ es few is. rw (sym c.contains.ensures ∙ c.if-contains.false) is
