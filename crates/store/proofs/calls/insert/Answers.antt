-- 24 where the party is nobody; else what the walk comes to, with the number beside it.
use mathlib.Core.Path.{sym, ◌∙◌}
use Rattle.store.proofs.OtherLaws.{insert_told}
use Rattle.store.proofs.PartyLaws.{insert_nobody}
use Rattle.store.proofs.calls.insert.Goals as goal

pub returns-in_default : goal.returns-in_default
returns-in_default c =
    let args = c.args in
    insert_nobody args.party args.index.now args.text.now
    (sym c.owner_of.ensures ∙ c.in_default.is) args.lines.now

pub returns : goal.returns
returns c =
    let args = c.args in
    let walk = c.walk_insert-walked in
    insert_told args.party _ (sym c.owner_of.ensures
    ∙ c.in-Some.is)
    args.index.now args.text.now args.lines.now _ _ walk.result c.other_spellings-not_simple.result
    walk.ensures c.other_spellings-not_simple.ensures
