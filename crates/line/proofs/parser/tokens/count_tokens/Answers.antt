use mathlib.Core.Path.{refl, ap, ◌∙◌}
use mathlib.Core.List.{List}
use Prim.Native.Nat.{ℕ}
use Rattle.line.specs.Parser.{step_from}
use Rattle.line.specs.Walker.{step_of}
use Rattle.line.proofs.TokenLaws.{counted-first, counted_stays, counted_on, counted-done}
use Rattle.line.proofs.parser.tokens.count_tokens.Goals as goal

pub loop-walker-init : goal.loop-walker-init
loop-walker-init c = rw c.new-walker.ensures (refl, counted-first c.args.line.now _ refl)

pub returns-then-walker-pos : goal.returns-then-walker-pos
returns-then-walker-pos c =
    let l = c.loop-walker in
    let w = l.walker in
    let n = c.next_token.ensures in
    c.counted-tokens.ensures
    ∙ rw n.0 (counted_stays c.args.line.now w.pos w.state l.tokens c.loop-walker-test.true (step_from w)
    (ap (λ (s : List ℕ). step_of s w.pos w.state) l.invariant.0) l.invariant.1 (rw n.1 at c.if-walker-pos.true))

pub loop-walker-preserved : goal.loop-walker-preserved
loop-walker-preserved c =
    let l = c.loop-walker in
    let w = l.walker in
    let n = c.next_token.ensures in
    rw (n.1, c.counted-tokens.ensures, n.0) (
      l.invariant.0,
      counted_on c.args.line.now w.pos w.state l.tokens c.loop-walker-test.true (step_from w)
          (ap (λ (s : List ℕ). step_of s w.pos w.state) l.invariant.0) l.invariant.1 (rw n.1 at c.if-walker-pos.false),
    )

pub returns : goal.returns
returns c =
    let l = c.loop-walker in
    let w = l.walker in
    counted-done c.args.line.now w.pos w.state l.tokens c.loop-walker-test.false l.invariant.1
