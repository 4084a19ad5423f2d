-- By whether the value is another. Assumes nothing.
use Rattle.std.proofs.Common.{arith, rules, sym, ap, ◌∙◌}
use mathlib.Core.Logic.{inl, inr, ⊎_elim}
use lib.IntN.{ℤ}
use mir.Syntax.{w16}
use mir.Val.{SFits, to_z, of_z}
use mir.ValLaws.{to_z-of_z}
use Rattle.line.specs.declared.ev.AxisOrBtn.{AxisOrBtn}
use Rattle.pad.specs.Pads.{element_at}
use Rattle.pad.specs.Inner.{one_event}
use Rattle.pad.proofs.ListLaws.{listed_same, listed_other, all_listed, events_many}
use Rattle.pad.proofs.telling.differences.Goals as goal

pub push-requires : goal.push-requires
push-requires c =
    let s = c.in-Some.ensures.steps in
    let h = rw (s.0.0, s.0.1) at c.loop-k.invariant in
    omega (arith, h.few, h.all, events_many _ _ h.are)

pub loop-k-preserved-then-old-value : goal.loop-k-preserved-then-old-value
loop-k-preserved-then-old-value c =
    let s = c.in-Some.ensures.steps in
    let a = c.in-Some.later.now in
    let fa : SFits w16 a = search rules in
    rw s.2
    (listed_other c.args.before.now c.args.after.now _ _ c.in-Some.old.now a c.loop-k.k-iterator.count _ _ _
    (rw (s.0.0, s.0.1) at c.loop-k.invariant) (λ q. c.if-old-value.true (ap (of_z w16) q))
    (ap (λ (el : AxisOrBtn). one_event el (to_z w16 (of_z w16 a))) (rw s.1 at c.element_at-element.ensures)
    ∙ ap (λ (z : ℤ). one_event (element_at c.loop-k.k-iterator.count) z) (to_z-of_z w16 a fa)) c.push.ensures)

pub loop-k-preserved : goal.loop-k-preserved
loop-k-preserved c =
    let s = c.in-Some.ensures.steps in
    let b = c.in-Some.old.now in
    let a = c.in-Some.later.now in
    let fb : SFits w16 b = search rules in
    let fa : SFits w16 a = search rules in
    rw s.2
    (listed_same c.args.before.now c.args.after.now _ _ b a c.loop-k.k-iterator.count _
    (rw (s.0.0, s.0.1) at c.loop-k.invariant)
    (sym (to_z-of_z w16 b fb) ∙ ap (to_z w16) c.if-old-value.false ∙ to_z-of_z w16 a fa))

pub returns : goal.returns
returns c =
    all_listed c.args.before.now c.args.after.now _ _ _ _
    (⊎_elim (λ p. inl p.1.0) (λ p. inr p.1.0) c.in-None.ensures.steps.0) c.loop-k.invariant
