use borrow.Author.Rules.{rules}
use Rattle.text.proofs.SeekLaws.{others_passed}
use Rattle.text.proofs.search.find_far.Goals as goal

pub returns : goal.returns
returns c = others_passed _ c.args.byte c.args.s.now c.passed_end.result c.passed_end.ensures (λ b t p. search rules)
