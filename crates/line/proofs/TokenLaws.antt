-- Counting answers from where the walker stands: a turn takes one answer, and what is left comes to the same. Assumes
-- nothing.
use Rattle.std.specs.Prelude.{Option, Some, None, Result, Ok, Err}
use Prim.Native.Nat.{ℕ, zero, suc, ◌+◌, ◌≤◌, ◌<◌}
use mathlib.Core.Path.{◌≡◌, refl, sym, ◌∙◌}
use mathlib.Core.List.{List}
use native.Mathlib.Omega.{arith}
use borrow.Author.Tests.{lt-ltb, le-ltb}
use lib.ListN.{length}
use Rattle.line.specs.declared.parser.Error.{Error}
use Rattle.line.specs.declared.parser.Token.{Token}
use Rattle.line.specs.declared.parser.State.{State}
use Rattle.line.specs.declared.parser.Stepped.{Stepped}
use Rattle.line.specs.declared.parser.tokens.Tokens.{Tokens}
use Rattle.line.specs.Walker.{start_of, step_of}
use Rattle.line.specs.Parser.{answers_from, with_answer, count_all, tokens_of}

-- t was counted before p, and with what is left from p on it is all of the line's
pub record Counted (s : List ℕ) (p : ℕ) (st : State) (t : Tokens) : Type 0 where
  pub fuel : ℕ
  pub enough : length s ≤ p + fuel
  pub few : t.count ≤ p
  pub is : count_all t (answers_from fuel s p st) ≡ tokens_of s

counted_few : (t : Tokens) (a : Option (Result Token Error)) → (with_answer t a).count ≤ t.count + 1
counted_few t (Some (Ok k)) = omega arith
counted_few t (Some (Err e)) = omega arith
counted_few t None = omega arith

-- at the end
module _ (s : List ℕ) (p : ℕ) (st : State) (t : Tokens) (h : length s ≤ p) where
  none_left : (n : ℕ) → count_all t (answers_from n s p st) ≡ t
  unfolding answers_from count_all
  none_left zero = refl
  none_left (suc n) = rw (le-ltb p (length s) h)

  pub counted-done : Counted s p st t → t ≡ tokens_of s
  counted-done c = sym (none_left c.fuel) ∙ c.is

-- a turn: x is the step that was taken
module _ (s : List ℕ) (p : ℕ) (st : State) (t : Tokens) (h : p < length s) (x : Stepped) (was : x ≡ step_of s p st) where
  stays : (n : ℕ) → x.pos ≤ p → count_all t (answers_from (suc n) s p st) ≡ with_answer t x.answer
  unfolding answers_from count_all
  stays n k = rw was (let j : (step_of s p st).pos ≤ p = rw was at k in
      rw (lt-ltb p (length s) h, le-ltb p (step_of s p st).pos j))

  leads_on : (n : ℕ) → p < x.pos → count_all t (answers_from (suc n) s p st)
      ≡ count_all (with_answer t x.answer) (answers_from n s x.pos x.state)
  unfolding answers_from count_all
  leads_on n k = rw was (let j : p < (step_of s p st).pos = rw was at k in
      rw (lt-ltb p (length s) h, lt-ltb p (step_of s p st).pos j))

  pub counted_stays : Counted s p st t → x.pos ≤ p → with_answer t x.answer ≡ tokens_of s
  counted_stays c k = from c.fuel c.enough c.is
    where
      from : (n : ℕ) → length s ≤ p + n → count_all t (answers_from n s p st) ≡ tokens_of s
          → with_answer t x.answer ≡ tokens_of s
      from zero e i = absurd (omega (arith, h, e))
      from (suc n) e i = sym (stays n k) ∙ i

  pub counted_on : Counted s p st t → p < x.pos → Counted s x.pos x.state (with_answer t x.answer)
  counted_on c k = from c.fuel c.enough c.is
    where
      from : (n : ℕ) → length s ≤ p + n → count_all t (answers_from n s p st) ≡ tokens_of s
          → Counted s x.pos x.state (with_answer t x.answer)
      from zero e i = absurd (omega (arith, h, e))
      from (suc n) e i = record {
        fuel = n;
        enough = omega (arith, e, k);
        few = omega (arith, counted_few t x.answer, c.few, k);
        is = sym (leads_on n k) ∙ i;
      }

-- before the first call
pub counted-first : (s : List ℕ) (st : State) → st ≡ start_of s
    → Counted s 0 st (record { count = 0; last = None })
unfolding tokens_of
counted-first s st e = rw e (record { fuel = length s; enough = omega arith; few = omega arith; is = refl })
