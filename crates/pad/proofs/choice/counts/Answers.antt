-- By its code, and by those before it. Assumes nothing.
use Rattle.std.proofs.Common.{sym, ap, ◌∙◌}
use borrow.Author.Tests.{le-leb}
use Rattle.line.specs.declared.mapping.Entry.{Entry}
use Rattle.pad.specs.Inner.{is_wanted}
use Rattle.pad.proofs.ListedLaws.{fresh_counts}
use Rattle.pad.proofs.choice.counts.Goals as goal

pub returns-then-fresh-x : goal.returns-then-fresh-x
returns-then-fresh-x c =
    let a = c.args in
    fresh_counts a.of a.before.now a.fresh a.x _ c.requires c.if-fresh-x.true
    (le-leb a.fresh _ c.if-fresh-x.true ∙ sym c.if-is_wanted.true ∙ c.is_wanted.ensures
    ∙ ap (λ (y : Entry). is_wanted a.of y.element) c.of_number-e.ensures)
