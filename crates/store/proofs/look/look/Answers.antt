-- 24 where the party is nobody; else as `look_by` says.
use mathlib.Core.Path.{refl, sym, subst, ◌∙◌}
use Rattle.std.specs.Prelude.{Err}
use Rattle.store.specs.declared.calls.LookError.TheVariants as L
use Rattle.store.specs.Store.{Looked}
use Rattle.store.specs.Sights.{Sees}
use Rattle.store.proofs.PartyLaws.{look_nobody, look_owner}
use Rattle.map.proofs.FilledLaws.{none_refused}
use Rattle.store.proofs.look.look.Goals as goal

pub returns-in_err-owner : goal.returns-in_err-owner
returns-in_err-owner c =
    let args = c.args in
    let w = none_refused _ _ _ c.in_err-owner.ensures.value _ c.from_residual.ensures.1 in
    rw w.0 (subst (λ (x : Looked). Sees args.text.now x (Err L.NoOwner))
    (look_nobody args.party args.index.now args.text.now (sym c.owner_of.ensures ∙ w.1) args.uuid)
    (record { how = refl; within = tt; line = refl }))

pub returns : goal.returns
returns c =
    let args = c.args in
    subst (λ (x : Looked). Sees args.text.now x c.look_by.result)
    (look_owner args.party args.index.now args.text.now _ (sym c.owner_of.ensures ∙ c.in_ok-owner.ensures.ok_part)
    args.uuid)
    c.look_by.ensures
