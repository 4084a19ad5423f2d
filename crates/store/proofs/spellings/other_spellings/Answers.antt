use mathlib.Core.Path.{◌≡◌, ap, subst, ◌∙◌}
use Prim.Native.Nat.{ℕ, ◌+◌, ◌-◌}
use native.Mathlib.Omega.{arith}
use lib.ListN.{take, drop}
use Rattle.text.specs.Bytes.{first_of}
use Rattle.text.specs.Search.{lf}
use Rattle.text.proofs.ListLaws.{part_to_end}
use Rattle.store.proofs.BatchLaws.{line_part, end_within}
use Rattle.store.proofs.OtherLaws.{Othering, other_turn, other_end, other_all, other_part}
use Rattle.store.proofs.spellings.other_spellings.Goals as goal

pub overflow_add-at : goal.overflow_add-at
overflow_add-at c = omega (arith, end_within c.loop.at c.args.lines.now _ c.find_far-end.ensures, c.well_formed.0)

pub overflow_add-at-in-loop : goal.overflow_add-at-in-loop
overflow_add-at-in-loop c = omega (arith, end_within c.loop.at c.args.lines.now _ c.find_far-end.ensures, c.well_formed.0)

pub loop-preserved : goal.loop-preserved
loop-preserved c =
    let args = c.args in
    let loop = c.loop in
    let cut = c.line_length-len in
    let found = c.find_far-end in
    let e : args.count - loop.counter - 1 ≡ args.count - (loop.counter + 1) = omega arith in
    subst (λ (n : ℕ). Othering args.lines.now args.count (loop.at + (found.result + 1)) n
    (loop.other + c.other_spelling-other.result)) e
    (other_turn args.lines.now args.count loop.at _ loop.other loop.invariant
    c.if-lines-at.false (omega arith) found.result
    (found.ensures ∙ ap (first_of lf) (part_to_end args.lines.now loop.at))
    (omega (arith, end_within loop.at args.lines.now _ found.ensures))
    (take cut.result (drop loop.at args.lines.now))
    (line_part args.lines.now loop.at cut.result cut.ensures.1) c.other_spelling-other.result
    (other_part args.lines.now loop.at cut.result c.other_spelling-other.result c.other_spelling-other.ensures.0)
    c.other_spelling-other.ensures.1)

pub returns-then-lines-at : goal.returns-then-lines-at
returns-then-lines-at c =
    let loop = c.loop in
    other_end c.args.lines.now c.args.count loop.at _ loop.other loop.invariant c.if-lines-at.true

pub returns-after-loop : goal.returns-after-loop
returns-after-loop c =
    let loop = c.loop in
    other_all c.args.lines.now c.args.count loop.at _ loop.other loop.invariant (omega arith)
