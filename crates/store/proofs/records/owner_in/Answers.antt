-- The first byte tells the hall's records.
use mathlib.Core.Path.{sym, ◌∙◌}
use Rattle.store.proofs.HeadLaws.{hall_told, owned_in}
use Rattle.store.proofs.records.owner_in.Goals as goal

pub returns-then-index-hall_kind : goal.returns-then-index-hall_kind
returns-then-index-hall_kind c =
    hall_told c.args.index.now c.args.long (c.if-index-hall_kind.true ∙ c.hall_kind.ensures)

pub returns : goal.returns
returns c =
    owned_in c.args.index.now c.args.long c.requires (λ e. c.if-index-hall_kind.false (e ∙ sym c.hall_kind.ensures))
