-- One entry more. Assumes nothing.
use Rattle.std.proofs.Common.{◌≡◌, arith, rules, sym, ◌∙◌}
use borrow.Author.Tests.{tests}
use lib.ListN.{length-set}
use Rattle.line.specs.Elements.{same_element}
use Rattle.pad.proofs.MarkLaws.{none_marked, marked_passed, marked_taken, code_marked}
use Rattle.pad.proofs.choice.mark.Goals as goal

pub loop-x-init : goal.loop-x-init
loop-x-init c = (search rules, none_marked c.args.el c.args.marks.now)

pub loop-x-preserved-then-eq : goal.loop-x-preserved-then-eq
loop-x-preserved-then-eq c =
    let i = c.loop-x.invariant in (
      length-set c.loop-x.marks _ _ ∙ i.0,
      marked_taken c.args.el c.loop-x.yielded c.in-Some.x c.loop-x.marks c.of_number-e.result c.of_number-e.ensures i.1
          c.mark_of.result (c.mark_of.ensures ∙ code_marked _ c.of_number-e.result c.of_number-e.ensures)
          (omega (arith, c.mark_of.ensures, i.0)),
    )

pub loop-x-preserved : goal.loop-x-preserved
loop-x-preserved c =
    let i = c.loop-x.invariant in
    let q : c.eq.result ≡ same_element c.of_number-e.result.element c.args.el = search (rules, tests) in (
      i.0,
      marked_passed c.args.el c.loop-x.yielded c.in-Some.x c.loop-x.marks c.of_number-e.result c.of_number-e.ensures i.1
          (sym q ∙ c.if-eq.false),
    )
