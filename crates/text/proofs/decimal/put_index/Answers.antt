use Prim.Native.Nat.{ℕ, ◌+◌, ◌-◌, ◌/◌, ◌%◌}
use mathlib.Core.Path.{◌≡◌, ap, ◌∙◌}
use native.Mathlib.Omega.{arith}
use lib.ListN.{length}
use Rattle.text.specs.Decimal.{decimal}
use Rattle.text.proofs.BytesLaws.{backward_none, backward_put, backward_end}
use Rattle.text.proofs.DecimalLaws.{last_digits, last_digits_all, last_digits_length, last_digits_more, last_digits_none}
use Rattle.text.proofs.decimal.put_index.Goals as goal

pub overflow_add-end : goal.overflow_add-end
overflow_add-end c = omega (arith, c.requires)

pub loop-place-init : goal.loop-place-init
loop-place-init c =
    let a = c.args in
    let k : a.at + c.index_len.result - a.at ≡ length (decimal a.n) = omega (arith, c.index_len.ensures) in
    let d : last_digits (a.at + c.index_len.result - a.at) a.n ≡ decimal a.n =
    ap (λ (i : ℕ). last_digits i a.n) k ∙ last_digits_all a.n in
    (omega arith, rw d (backward_none a.out.now a.at (decimal a.n) c.requires))

pub loop-place-preserved : goal.loop-place-preserved
loop-place-preserved c =
    let a = c.args in
    let l = c.loop-place in
    let k = l.place - a.at in
    let left = last_digits (k - 1) (l.upper / 10) in
    let e : l.place - 1 - a.at ≡ k - 1 = omega arith in
    let i : l.place - 1 ≡ a.at + length left = omega (arith, last_digits_length (k - 1) (l.upper / 10)) in (
      omega arith,
      rw e
          (backward_put a.out.now l.out a.at (decimal a.n) (last_digits k l.upper) left (l.place - 1) (48 + l.upper % 10)
          l.invariant.1 (last_digits_more k l.upper (omega arith)) i),
    )

pub returns : goal.returns
returns c =
    let a = c.args in
    let l = c.loop-place in
    let z : l.place - a.at ≡ 0 = omega arith in (
      ap (λ (k : ℕ). a.at + k) c.index_len.ensures,
      backward_end a.out.now l.out a.at (decimal a.n) (rw (← last_digits_none l.upper) (rw z at l.invariant.1)),
    )
