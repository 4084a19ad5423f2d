use mathlib.Core.Bool.{true}
use borrow.Author.Rules.{rules}
use Rattle.text.proofs.SeekLaws.{byte_passes}
use Rattle.text.proofs.search.passed_end.Goals as goal

pub loop-at-preserved : goal.loop-at-preserved
loop-at-preserved g c =
    byte_passes (λ b. goal.F-post g c.args.test b true) c.args.s.now c.loop-at.at (search rules) c.loop-at.invariant
    c.if-not-test.ensures
