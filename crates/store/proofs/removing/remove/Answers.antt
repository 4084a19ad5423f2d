-- 24 where the party is nobody; else as `remove_by` says.
use mathlib.Core.Path.{sym, ◌∙◌}
use Rattle.map.proofs.FilledLaws.{none_refused}
use Rattle.store.proofs.PartyLaws.{remove_nobody, remove_owner}
use Rattle.store.proofs.removing.remove.Goals as goal

pub returns-in_err-owner : goal.returns-in_err-owner
returns-in_err-owner c =
    let args = c.args in
    let w = none_refused _ _ _ c.in_err-owner.ensures.value _ c.from_residual.ensures.1 in
    rw w.0 (remove_nobody args.party args.index.now args.text.now (sym c.owner_of.ensures ∙ w.1) args.uuid)

pub returns : goal.returns
returns c =
    let args = c.args in
    c.remove_by.ensures
    ∙ remove_owner args.party args.index.now args.text.now _ (sym c.owner_of.ensures ∙ c.in_ok-owner.ensures.ok_part)
    args.uuid
