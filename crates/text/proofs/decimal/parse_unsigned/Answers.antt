-- A number over the largest is refused, whatever digits follow.
use mathlib.Core.Path.{◌≡◌, sym, ◌∙◌}
use mathlib.Core.Logic.{⊎_elim}
use mathlib.Core.Bool.{Bool, true, false}
use Prim.Native.Nat.{ℕ, ◌≤◌, ◌<◌}
use Rattle.std.specs.Bool.{MatchBool}
use Rattle.std.specs.Char.{IsAsciiDigit, IsNotAsciiDigit}
use Rattle.std.specs.Prelude.{Option, Some, None, SomeIff}
use Rattle.text.proofs.ListLaws.{lt_or_le}
use native.Mathlib.Omega.{arith}
use lib.ListN.{drop_of_length-le}
use Rattle.text.proofs.DecimalLaws.{read_past, read_end}
use Rattle.text.proofs.decimal.parse_unsigned.Goals as goal

-- what `is_ascii_digit`, and what an operation that is checked says
in_digit : (r : Bool) (b : ℕ) → MatchBool r (IsAsciiDigit b) (IsNotAsciiDigit b) → r ≡ true → (48 ≤ b) × (b ≤ 57)
in_digit true b h e = h
in_digit false b h e = absurd (let z : ◌≡◌ {A = ℕ} 0 1 = cc in omega arith)

none_iff : {P : Type 0} (v : ℕ) (r : Option ℕ) → SomeIff r P v → r ≡ None → P → ⊥
none_iff v None h e p = h p
none_iff v (Some x) h e p = absurd (let z : ◌≡◌ {A = ℕ} 0 1 = cc in omega arith)

some_iff : (P : Type 0) (v w : ℕ) (r : Option ℕ) → SomeIff r P v → r ≡ Some w → w ≡ v
some_iff P v w None h e = absurd (let z : ◌≡◌ {A = ℕ} 0 1 = cc in omega arith)
some_iff P v w (Some x) h e = let z : x ≡ w = cc in sym z ∙ h.1

not_below : {a n : ℕ} → (a < n → ⊥) → n ≤ a
not_below {a} {n} h = ⊎_elim (λ l. absurd (h l)) (λ l. l) (lt_or_le a n)

pub returns-in_err-checked_mul : goal.returns-in_err-checked_mul
returns-in_err-checked_mul c =
    let l = c.loop-b in
    let d = in_digit c.is_ascii_digit.result _ c.is_ascii_digit.ensures.cases c.if-not-is_ascii_digit.false in
    let no = none_iff _ c.checked_mul.result c.checked_mul.ensures c.in_err-checked_mul.was in
    c.from_residual.ensures
    ∙ read_past c.args.s.now l.value l.b-index l.invariant.1 (omega arith) d.0 d.1 (omega (arith, not_below no))

pub returns-in_err-value : goal.returns-in_err-value
returns-in_err-value c =
    let l = c.loop-b in
    let d = in_digit c.is_ascii_digit.result _ c.is_ascii_digit.ensures.cases c.if-not-is_ascii_digit.false in
    let ten = some_iff _ _ _ c.checked_mul.result c.checked_mul.ensures c.in_ok-checked_mul.was in
    let no = none_iff _ c.checked_add.result c.checked_add.ensures c.in_err-value.was in
    c.from_residual-in_err-value.ensures
    ∙ read_past c.args.s.now l.value l.b-index l.invariant.1 (omega arith) d.0 d.1 (omega (arith, not_below no, ten))

pub returns : goal.returns
returns c =
    let l = c.loop-b in
    sym (read_end l.value (omega arith)) ∙ rw (← drop_of_length-le c.args.s.now c.loop-b-test.false) l.invariant.1
