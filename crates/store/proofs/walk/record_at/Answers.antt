-- Behind the end no byte stands, and so no record.
use mathlib.Core.Path.{sym, ap, ◌∙◌}
use Rattle.store.specs.Walks.{record_told}
use Rattle.text.proofs.ListLaws.{part_to_end}
use Rattle.store.proofs.StepLaws.{place_none, place_is}
use Rattle.store.proofs.walk.record_at.Goals as goal

pub returns-then-index-at : goal.returns-then-index-at
returns-then-index-at c = place_none c.args.index.now c.args.at c.if-index-at.true

pub returns : goal.returns
returns c =
    c.record_told.ensures ∙ ap record_told (part_to_end c.args.index.now c.args.at)
    ∙ sym (place_is c.args.index.now c.args.at)
