-- 24 where the party is nobody. Build's answer and what it left in the scratch array say what the save attempts; the
-- end of the save is `file_built`.
use mathlib.Core.Path.{sym, ap, ◌∙◌}
use native.Mathlib.Omega.{arith}
use Rattle.store.specs.declared.calls.Saved.{Saved}
use Rattle.store.specs.Saves.{save_args}
use Rattle.store.proofs.PartyLaws.{save_nobody}
use Rattle.store.proofs.SaveCallLaws.{save_refused, Made, made, save_unsaved, save_filed}
use Rattle.store.proofs.calls.save.Goals.{In_default-answer}
use Rattle.store.proofs.calls.save.Goals as goal

pub returns-in_default : goal.returns-in_default
returns-in_default c =
    let a = c.args in
    ap (λ (x : Saved). record { answer = x; index = a.index.now; text = a.text.now }) c.refused_save.ensures
    ∙ save_nobody a.party a.index.now a.text.now (sym c.owner_of.ensures ∙ c.in_default.is)
    (save_args a.«data» a.buttons.now a.axes.now a.name.now a.uuid)

pub returns-in-Err : goal.returns-in-Err
returns-in-Err c =
    let a = c.args in
    ap (λ (x : Saved). record { answer = x; index = a.index.now; text = a.text.now }) c.refused_save-in-Err.ensures
    ∙ save_refused a.party _ (sym c.owner_of.ensures ∙ c.in-Some.is)
    (save_args a.«data» a.buttons.now a.axes.now a.name.now a.uuid) _ c.from_data-built.result _ (omega arith)
    c.from_data-built.ensures _ c.in-Err.is a.index.now a.text.now

-- the line is built
built : (c : In_default-answer)
    → Made (save_args c.args.«data» c.args.buttons.now c.args.axes.now c.args.name.now c.args.uuid)
    c.from_data-built.result c.from_data-built.new.out
built c = made c.args.party _ (sym c.owner_of.ensures ∙ c.in-Some.is) _ _ _ _ (omega arith) c.from_data-built.ensures
    c.in_default-answer.is

pub returns-then-unsaved_name : goal.returns-then-unsaved_name
returns-then-unsaved_name c =
    let a = c.args in
    ap (λ (x : Saved). record { answer = x; index = a.index.now; text = a.text.now })
    c.refused_save-then-unsaved_name.ensures
    ∙ save_unsaved a.party _ (sym c.owner_of.ensures ∙ c.in-Some.is) _
    (built (goal.at.returns-then-unsaved_name c).In_default-answer) a.index.now a.text.now
    (sym c.unsaved_name.ensures ∙ c.if-unsaved_name.true)

pub slice_bounds-file_built-end : goal.slice_bounds-file_built-end
slice_bounds-file_built-end c =
    omega (arith, (built (goal.at.slice_bounds-file_built-end c).In_default-answer).within)

pub file_built-filed-requires : goal.file_built-filed-requires
file_built-filed-requires c =
    let m = built (goal.at.file_built-filed-requires c).In_default-answer in
    (omega (arith, m.some, m.within), omega (arith, m.most, m.within))

pub returns : goal.returns
returns c =
    let filed = c.file_built-filed in
    ap (λ (x : Saved). record { answer = x; index = filed.new.index; text = filed.new.text }) c.saved_as.ensures
    ∙ save_filed c.args.party _ (sym c.owner_of.ensures ∙ c.in-Some.is) _
    (built (goal.at.returns c).In_default-answer) c.args.index.now c.args.text.now
    (sym c.unsaved_name.ensures ∙ c.if-unsaved_name.false) _ filed.ensures
