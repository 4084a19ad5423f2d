use mathlib.Core.Path.{◌∙◌}
use Prim.Native.Nat.{◌+◌, ◌≤◌}
use native.Mathlib.Omega.{arith}
use lib.ListN.{length}
use borrow.Author.Rules.{rules}
use Rattle.text.proofs.BytesLaws.{starts_same}
use Rattle.text.proofs.SeekLaws.{rare_place, first_empty, rare_none, rare_within, rare_last, rare_here, rare_on}
use Rattle.text.proofs.search.find_text.Goals.{After-find_far}
use Rattle.text.proofs.search.find_text.Goals as goal

pub returns-in_default : goal.returns-in_default
returns-in_default c = first_empty c.args.p.now c.args.s.now c.in_default.ensures

pub loop-i-init : goal.loop-i-init
loop-i-init c = (search rules, omega arith)

-- the rare byte is sought within the text
within : (c : After-find_far) → c.loop-i.i + c.find_far.result + c.min-k.result ≤ length c.args.s.now
within c =
    rare_within c.args.p.now c.args.s.now c.min-k.result (rare_place c.args.d c.min-k.ensures c.in-Some.ensures) c.loop-i.i c.find_far.result
    c.loop-i.invariant.1
    (search rules) c.find_far.ensures

pub overflow_add-at : goal.overflow_add-at
overflow_add-at c = omega (arith, within (goal.at.overflow_add-at c).After-find_far)

pub overflow_add-at-in-loop-i : goal.overflow_add-at-in-loop-i
overflow_add-at-in-loop-i c = omega (arith, within (goal.at.overflow_add-at-in-loop-i c).After-find_far)

pub returns-then-s-at : goal.returns-then-s-at
returns-then-s-at c =
    let a = c.args in
    let loop = c.loop-i in
    let far = c.find_far in
    rare_last a.p.now a.s.now c.min-k.result (rare_place c.args.d c.min-k.ensures c.in-Some.ensures) loop.i far.result loop.invariant.1
    (search rules) far.ensures c.if-s-at.true

pub returns-then-starts_with : goal.returns-then-starts_with
returns-then-starts_with c =
    let a = c.args in
    let loop = c.loop-i in
    let far = c.find_far in
    rare_here a.p.now a.s.now c.min-k.result (rare_place c.args.d c.min-k.ensures c.in-Some.ensures) loop.i far.result loop.invariant.1
    (search rules) far.ensures c.if-s-at.false
    _ (c.starts_with.ensures.value ∙ starts_same a.p.now _) c.if-starts_with.true

pub loop-i-preserved : goal.loop-i-preserved
loop-i-preserved c =
    let a = c.args in
    let loop = c.loop-i in
    let far = c.find_far in (
      search rules,
      rare_on a.p.now a.s.now c.min-k.result (rare_place c.args.d c.min-k.ensures c.in-Some.ensures) loop.i far.result loop.invariant.1
          (search rules) far.ensures c.if-s-at.false
          _ (c.starts_with.ensures.value ∙ starts_same a.p.now _) c.if-starts_with.false,
    )

pub returns : goal.returns
returns c =
    let a = c.args in
    let loop = c.loop-i in
    rare_none a.p.now a.s.now c.min-k.result (rare_place c.args.d c.min-k.ensures c.in-Some.ensures) loop.i (search rules) (omega (arith, loop.invariant.1))
