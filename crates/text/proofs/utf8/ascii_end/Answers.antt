-- The search in the part from there on, counted from the front.
use borrow.Author.Rules.{rules}
use Rattle.text.proofs.AsciiLaws.{asciis_passed}
use Rattle.text.proofs.utf8.ascii_end.Goals as goal

pub returns : goal.returns
returns c =
    asciis_passed _ c.args.s.now c.args.from c.passed_end.result (search rules) c.passed_end.ensures (λ b t p. search rules)
