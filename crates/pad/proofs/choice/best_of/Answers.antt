-- One held code more. Assumes nothing.
use Rattle.std.proofs.Common.{ℕ, ◌≡◌, ◌/◌, ◌%◌, false, get_or, map, rules, refl, sym, ap, ◌∙◌}
use lib.IntN.{ℤ}
use mir.Syntax.{w16}
use mir.Val.{SFits}
use mir.ValLaws.{to_z-of_z}
use Rattle.line.specs.Numbers.{code_unit, entry_in}
use Rattle.pad.specs.States.{held_in}
use Rattle.pad.specs.Pads.{choose, preferred}
use Rattle.pad.specs.Inner.{chosen_by}
use Rattle.pad.proofs.MarkLaws.{held_passed}
use Rattle.pad.proofs.NumberLaws.{one_more, none_more}
use Rattle.pad.proofs.choice.best_of.Goals as goal

pub loop-x-init : goal.loop-x-init
unfolding choose
loop-x-init c = refl

pub loop-x-preserved-in-Some-given : goal.loop-x-preserved-in-Some-given
loop-x-preserved-in-Some-given c =
    let v = c.in-Some-given.value in
    let f : SFits w16 v = search rules in
    c.prefer.ensures
    ∙ ap (λ (z : ℤ). preferred c.held_of-h.result.code.0 z (chosen_by c.loop-x.best)) (to_z-of_z w16 v f)
    ∙ one_more c.loop-x.yielded c.in-Some.x (map entry_in c.args.entries.now) c.args.el _ c.held_of-h.ensures _
    c.loop-x.invariant v (sym c.given.ensures ∙ c.in-Some-given.is)

pub loop-x-preserved-in_default : goal.loop-x-preserved-in_default
loop-x-preserved-in_default c =
    none_more c.loop-x.yielded c.in-Some.x (map entry_in c.args.entries.now) c.args.el _ c.held_of-h.ensures _
    c.loop-x.invariant (sym c.given.ensures ∙ c.in_default.is)

pub loop-x-preserved : goal.loop-x-preserved
loop-x-preserved c =
    let x = c.in-Some.x.now in
    let q : get_or c.mark.new.marks (x / code_unit % 256) false ≡ false =
    ap (λ (j : ℕ). get_or c.mark.new.marks j false) (sym c.mark_of.ensures) ∙ c.if-marks-mark_of.false in
    none_more c.loop-x.yielded c.in-Some.x (map entry_in c.args.entries.now) c.args.el (held_in x) refl _
    c.loop-x.invariant (held_passed c.args.el c.args.entries.now c.mark.new.marks c.mark.ensures x q)
