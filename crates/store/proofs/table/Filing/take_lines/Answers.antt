use Prim.Native.Nat.{◌≤◌}
use borrow.Author.Rules.{rules}
use lib.ListN.{length}
use mathlib.Core.Logic.{⊎_elim}
use mathlib.Core.Path.{◌≡◌, sym, ◌∙◌}
use native.Mathlib.Nat.{eq-or-lt_of_le}
use native.Mathlib.Omega.{arith}
use Rattle.text.proofs.LentLaws.{tail_length}
use Rattle.store.proofs.BatchLaws.{take_on, first_at_lem, taken, end_within, take_off, take-turn}
use Rattle.store.proofs.table.Filing.take_lines.Goals as goal

pub reach_row-requires : goal.reach_row-requires
reach_row-requires g c =
    let some = taken c.loop-at.invariant.0 c.requires.some_rows in
    let long : length c.args.table.now.heads ≡ g.row.N = search rules in
    let most : g.row.N ≤ 65535 = omega (arith, c.requires.some_rows.1.1.1.1.in_rows.chained.most, long) in (
      search rules,
      (
        (
          omega (arith, c.if-standing.true, c.loop-at.invariant.1.0),
          omega (arith, tail_length c.loop-at.at c.args.self.now.lines.now, c.line_length-len.ensures.0),
        ),
        (search rules, (some, c.loop-at.invariant.1.1)),
      ),
    )

pub returns-in-Err : goal.returns-in-Err
returns-in-Err g c =
    let r = take_off c.loop-at.invariant.0 c.loop-at-test.true c.find_far-end.ensures c.line_length-len.result
    c.line_length-len.ensures.1 c.reach_row.result _ _ _ c.reach_row.ensures.reaches _ c.in-Err.is in
    record { takes_lines = r.0; went = r.1 }

pub loop-at-preserved : goal.loop-at-preserved
loop-at-preserved g c =
    let good = c.type_inv in (
      take-turn c.loop-at.invariant.0 c.loop-at-test.true c.find_far-end.ensures c.line_length-len.result
          c.line_length-len.ensures.1 c.reach_row.result _ _ _ c.reach_row.ensures.reaches (omega arith) _ c.in-Ok.is,
      (c.reach_row.ensures.rows_kept ∙ c.loop-at.invariant.1.0, c.in-Ok.ensures.searched_2),
    )

pub overflow_add-at : goal.overflow_add-at
overflow_add-at g c =
    omega (arith, end_within c.loop-at.at c.args.self.now.lines.now _ c.find_far-end.ensures, c.loop-at-test.true, c.well_formed)

pub overflow_add-at-in-loop-at : goal.overflow_add-at-in-loop-at
overflow_add-at-in-loop-at g c =
    omega (arith, end_within c.loop-at.at c.args.self.now.lines.now _ c.find_far-end.ensures, c.loop-at-test.true, c.well_formed)

-- the end, or no number is left
pub returns-after-loop-at : goal.returns-after-loop-at
returns-after-loop-at g c =
    let r = take_on c.loop-at.invariant.0 (λ p q. omega (arith, c.loop-at-test.false)) in
    record { takes_lines = r.0; went = r.1 }

pub returns-else-standing : goal.returns-else-standing
returns-else-standing g c =
    let long : length c.args.table.now.rows ≡ g.row.N = search rules in
    let r = take_on c.loop-at.invariant.0
    (λ p q. ⊎_elim
    (λ e. absurd (omega (arith, p, long, c.loop-at.invariant.0.still (sym e), c.if-standing.false))) (λ l. l)
    (eq-or-lt_of_le (first_at_lem c.loop-at.invariant.0))) in
    record { takes_lines = r.0; went = r.1 }

-- rows don't hold where the next line starts
pub returns-else-at-le-START_MAX : goal.returns-else-at-le-START_MAX
returns-else-at-le-START_MAX g c =
    let r = take_on c.loop-at.invariant.0 (λ p q. omega (arith, c.requires.from_in_bounds.1, c.if-at-le-START_MAX.false)) in
    record { takes_lines = r.0; went = r.1 }

-- a chain was too long
pub returns-then-table : goal.returns-then-table
returns-then-table g c =
    let good = c.type_inv in
    let on = take-turn c.loop-at.invariant.0 c.loop-at-test.true c.find_far-end.ensures c.line_length-len.result
    c.line_length-len.ensures.1 c.reach_row.result _ _ _ c.reach_row.ensures.reaches (omega arith) _ c.in-Ok.is in
    let r = take_on on (λ p q. omega (arith, on.counted)) in
    record { takes_lines = r.0; went = r.1 }
