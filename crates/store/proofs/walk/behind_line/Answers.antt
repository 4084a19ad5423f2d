-- The first LF from the place on is the text's, if one follows.
use Rattle.store.proofs.StepLaws.{behind_end, behind_lf}
use Rattle.store.proofs.walk.behind_line.Goals as goal

pub returns-then-text-at : goal.returns-then-text-at
returns-then-text-at c =
    behind_end c.args.text.now c.args.at c.args.end c.requires.1 c.if-text-at.true

pub returns : goal.returns
returns c = behind_lf c.args.text.now c.args.at c.args.end c.requires.1 c.if-text-at.false
