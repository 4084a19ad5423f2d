-- By the byte: a comma, a colon, or another.
use mathlib.Core.Path.{sym, ◌∙◌}
use native.Mathlib.Omega.{arith}
use Rattle.line.proofs.CutLaws.{cut_stop, cut_colon, cut_other, cut_end, cut_told}
use Rattle.line.proofs.parser.pair.cut_pair.Goals as goal
use Rattle.line.proofs.parser.pair.cut_pair.Goals.{then-b-eq58, else-b-eq58}

pub returns-then-b-eq44 : goal.returns-then-b-eq44
returns-then-b-eq44 c =
    let s = c.args.s.now in
    let l = c.loop-b in
    cut_told s l.pair (sym (cut_stop s l.b-index l.pair c.loop-b-test.true c.if-b-eq44.true) ∙ l.invariant.1.1)

pub loop-b-preserved : goal.loop-b-preserved
loop-b-preserved c =
    let s = c.args.s.now in
    let l = c.loop-b in
    let h = c.loop-b-test.true in
    elim c.if-b-eq58.branch [
      | then-b-eq58 w ↦
          rw w.pair-is (
            omega arith,
            (omega arith, sym (cut_colon s l.b-index l.pair h w.if-b-eq58.true) ∙ l.invariant.1.1),
          )
      | else-b-eq58 w ↦
          rw w.pair-is (
            omega arith,
            (omega arith, sym (cut_other s l.b-index l.pair h c.if-b-eq44.false w.if-b-eq58.false) ∙ l.invariant.1.1),
          )
    ]

pub returns : goal.returns
returns c =
    let s = c.args.s.now in
    let l = c.loop-b in
    cut_told s l.pair (sym (cut_end s l.b-index l.pair c.loop-b-test.false (omega arith)) ∙ l.invariant.1.1)
