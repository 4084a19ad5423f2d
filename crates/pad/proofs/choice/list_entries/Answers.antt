-- The entry at j counts, or is passed over. Assumes nothing.
use Rattle.std.proofs.Common.{◌<◌, length, arith, rules, sym, ◌∙◌}
use lib.ListN.{length-set}
use Rattle.std.proofs.Math.Nat.{le-max_left, le-max_right}
use Rattle.pad.proofs.ListedLaws.{none_listed, none_fresh, entry_listed, entry_passed, fresh_on}
use Rattle.pad.proofs.choice.list_entries.Goals as goal
use Rattle.pad.proofs.choice.list_entries.Goals.{then-counts, else-counts}

pub loop-j-init : goal.loop-j-init
loop-j-init c = (search rules, omega arith, none_listed c.args.of, none_fresh)

pub loop-j-preserved : goal.loop-j-preserved
loop-j-preserved c =
    let a = c.args in
    let i = c.loop-j.invariant in
    let l : c.loop-j.j < length a.entries.now = omega arith in
    let f = fresh_on a.of a.entries.now c.loop-j.room c.loop-j.j c.loop-j.count 0 l i.2 c.loop-j.fresh _ i.3
    (rw c.max-fresh.ensures (le-max_left _ _)) (rw c.max-fresh.ensures (le-max_right _ _)) in
    elim c.if-counts.branch [
      | then-counts w ↦
          rw (w.room-is, w.count-is) (
            length-set c.loop-j.room c.loop-j.count _ ∙ i.0,
            omega (arith, i.1),
            entry_listed a.of a.entries.now c.loop-j.room c.loop-j.j c.loop-j.count _ l i.2
                (sym w.if-counts.true ∙ c.counts.ensures) (omega (arith, i.0, i.1, c.requires)),
            f,
          )
      | else-counts w ↦
          rw (w.room-is, w.count-is) (
            i.0,
            omega (arith, i.1),
            entry_passed a.of a.entries.now c.loop-j.room c.loop-j.j c.loop-j.count _ l i.2
                (sym w.if-counts.false ∙ c.counts.ensures),
            f,
          )
    ]
