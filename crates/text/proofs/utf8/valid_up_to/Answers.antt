use mathlib.Core.Path.{sym, ◌∙◌}
use native.Mathlib.Omega.{arith}
use Rattle.text.proofs.Utf8Laws.{no_some, run_ends, run_goes}
use Rattle.text.proofs.utf8.valid_up_to.Goals as goal

pub overflow_add-at : goal.overflow_add-at
overflow_add-at c = omega (arith, (run_goes c.args.s.now c.loop-n.at c.in-Some.n _ c.char_length.ensures c.in-Some.is (omega arith)).1)

pub ascii_end-at-requires-in-Some : goal.ascii_end-at-requires-in-Some
ascii_end-at-requires-in-Some c = (run_goes c.args.s.now c.loop-n.at c.in-Some.n _ c.char_length.ensures c.in-Some.is (omega arith)).1

pub loop-n-smaller : goal.loop-n-smaller
loop-n-smaller c =
    let more = run_goes c.args.s.now c.loop-n.at c.in-Some.n _ c.char_length.ensures c.in-Some.is (omega arith) in
    omega (arith, c.ascii_end-at-in-Some.ensures.0)

pub loop-n-preserved : goal.loop-n-preserved
loop-n-preserved c =
    let more = run_goes c.args.s.now c.loop-n.at c.in-Some.n _ c.char_length.ensures c.in-Some.is (omega arith) in
    let past = c.ascii_end-at-in-Some.ensures in
    (past.1, past.2 ∙ more.2 ∙ c.loop-n.invariant.1)

pub returns : goal.returns
returns c =
    let e = no_some c.char_length.result c.in_default.not-Some in
    sym (run_ends c.args.s.now c.loop-n.at _ c.char_length.ensures e) ∙ c.loop-n.invariant.1
