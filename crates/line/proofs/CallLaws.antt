-- A walker that has stopped stays where it is, so that each call makes the step of the call before. Assumes nothing.
use Rattle.std.specs.Prelude.{Option, Some, None, Result, Ok, Err, ⊤}
use Prim.Native.Nat.{ℕ, zero, suc, ◌+◌, ◌<◌, ◌≤◌}
use mathlib.Core.Path.{◌≡◌, refl, sym, ap, ◌∙◌}
use mathlib.Core.Logic.{⊎_elim}
use mathlib.Core.Bool.{Bool, true, false}
use mathlib.Core.List.{List, [], ◌∷◌}
use native.Mathlib.Omega.{arith}
use borrow.Author.Tests.{lt-ltb, le-ltb}
use denote.Ref.{Bor}
use lib.Dec.{eqb}
use lib.ListN.{length}
use Rattle.text.specs.declared.uuid.Spelled.{Spelled}
use Rattle.line.specs.declared.refusal.Refusal.{Refusal}
use Rattle.text.specs.Bytes.{pick, byte}
use Rattle.text.specs.Utf8.{run_of, valid_run, is_utf8}
use Rattle.text.proofs.ListLaws.{off, lt_or_le}
use Rattle.line.specs.declared.parser.Parser.{Parser}
use Rattle.line.specs.declared.parser.State.{State}
use Rattle.line.specs.declared.parser.State.TheVariants as St
use Rattle.line.specs.declared.parser.Stepped.{Stepped}
use Rattle.line.specs.declared.parser.Token.TheVariants as Tk
use Rattle.line.specs.Fields.{field, find_from}
use Rattle.line.specs.Pairs.{refuse}
use Rattle.line.specs.Parser.{parser_of, moved}
use Rattle.line.specs.Refusals.{refusal_at, answer_outcome}
use Rattle.line.specs.Walker.{guid_of, start_of, stepped, uuid_step, field_step_of, step_of}
use Rattle.line.specs.Calls.{after_calls, saying_of, StoppedWalker}

-- the number of a refusal, 0 where there is none
abbrev number_of : Result ⊤ Refusal → ℕ
number_of (Ok u) = 0
number_of (Err r) = r.number

some_bytes : (s : List ℕ) → is_utf8 s ≡ false → 0 < length s
unfolding is_utf8 valid_run run_of
some_bytes [] e = absurd (off (sym e))
some_bytes (b ∷ s) e = omega arith

module _ (s : Bor (List ℕ)) (h : 0 < length s.now) where
  -- the walker after a step
  abbrev standing : Stepped → Parser
  standing x = record { «data» = s; pos = x.pos; state = x.state }

  step_10 : step_of s.now 0 St.NotUtf8 ≡ stepped (Some (refuse 10 (valid_run s.now))) 0 St.NotUtf8
  unfolding step_of field_step_of
  step_10 = rw (lt-ltb 0 (length s.now) h)

  again_10 : (n : ℕ) → saying_of n (record { «data» = s; pos = 0; state = St.NotUtf8 })
      ≡ Err (refusal_at 10 (valid_run s.now))
  unfolding after_calls
  again_10 zero = ap (λ (x : Stepped). answer_outcome x.answer) step_10
  again_10 (suc n) = ap (λ (x : Stepped). saying_of n (standing x)) step_10 ∙ again_10 n

  step_9 : step_of s.now 0 St.Invalid ≡ stepped (Some (refuse 9 0)) 0 St.Invalid
  unfolding step_of field_step_of
  step_9 = rw (lt-ltb 0 (length s.now) h)

  again_9 : (n : ℕ) → saying_of n (record { «data» = s; pos = 0; state = St.Invalid }) ≡ Err (refusal_at 9 0)
  unfolding after_calls
  again_9 zero = ap (λ (x : Stepped). answer_outcome x.answer) step_9
  again_9 (suc n) = ap (λ (x : Stepped). saying_of n (standing x)) step_9 ∙ again_9 n

  -- where the first field is refused the walker stays
  broken : (g : Option Spelled) (e m k n : ℕ) → 0 < k → number_of (answer_outcome (uuid_step g 0 e m).answer) ≡ k
      → saying_of n (standing (uuid_step g 0 e m)) ≡ Err (refusal_at 9 0)
  broken None e m k n p q = again_9 n
  broken (Some u) e m k n p q = by (eqb e m) q
    where
      by : (t : Bool) → number_of (answer_outcome (pick t (stepped (Some (refuse 2 0)) 0 St.Invalid)
          (stepped (Some (Ok (Tk.Uuid u.id))) (e + 1) St.Name)).answer) ≡ k
          → saying_of n (standing (pick t (stepped (Some (refuse 2 0)) 0 St.Invalid)
          (stepped (Some (Ok (Tk.Uuid u.id))) (e + 1) St.Name))) ≡ Err (refusal_at 9 0)
      by true q = again_9 n
      by false q = absurd (omega (arith, q))

  abbrev end : ℕ
  end = find_from (byte ",") s.now 0

  first_step : is_utf8 s.now ≡ true
      → step_of s.now 0 (start_of s.now) ≡ uuid_step (guid_of (field s.now 0 end)) 0 end (length s.now)
  unfolding start_of step_of field_step_of
  first_step e = rw (e, lt-ltb 0 (length s.now) h)

  start_10 : is_utf8 s.now ≡ false → start_of s.now ≡ St.NotUtf8
  unfolding start_of
  start_10 e = rw e

  walker_10 : is_utf8 s.now ≡ false → (n : ℕ) → saying_of n (parser_of s) ≡ Err (refusal_at 10 (valid_run s.now))
  walker_10 e n = ap (λ (x : State). saying_of n (record { «data» = s; pos = 0; state = x })) (start_10 e) ∙ again_10 n

  walker_9 : (k n : ℕ) → 0 < k → (k ≡ 10 → ⊥) → saying_of 0 (parser_of s) ≡ Err (refusal_at k 0)
      → saying_of (suc n) (parser_of s) ≡ Err (refusal_at 9 0)
  unfolding after_calls
  walker_9 k n p d q = by (is_utf8 s.now) refl
    where
      by : (t : Bool) → is_utf8 s.now ≡ t → saying_of n (moved (parser_of s)) ≡ Err (refusal_at 9 0)
      by true e =
          let f = first_step e in
          let number : number_of (answer_outcome (uuid_step (guid_of (field s.now 0 end)) 0 end (length s.now)).answer) ≡ k =
          ap (λ (x : Stepped). number_of (answer_outcome x.answer)) (sym f) ∙ ap number_of q in
          ap (λ (x : Stepped). saying_of n (standing x)) f
          ∙ broken (guid_of (field s.now 0 end)) end (length s.now) k n p number
      by false e = absurd (d (sym (ap number_of q) ∙ ap number_of (walker_10 e 0)))

no_bytes : (s : Bor (List ℕ)) → length s.now ≤ 0 → saying_of 0 (parser_of s) ≡ Ok tt
unfolding after_calls step_of
no_bytes s h = rw (le-ltb 0 (length s.now) h)

after-refusal : (s : Bor (List ℕ)) (k n : ℕ) → 0 < k → (k ≡ 10 → ⊥) → saying_of 0 (parser_of s) ≡ Err (refusal_at k 0)
    → saying_of (suc n) (parser_of s) ≡ Err (refusal_at 9 0)
after-refusal s k n p d q =
    ⊎_elim (λ h. walker_9 s h k n p d q)
    (λ h. let z : 0 ≡ k = sym (ap number_of (no_bytes s h)) ∙ ap number_of q in absurd (omega (arith, z)))
    (lt_or_le 0 (length s.now))

pub stopped_walker : (s : Bor (List ℕ)) → StoppedWalker s
stopped_walker s =
    record {
      every_10 = λ e n. walker_10 s (some_bytes s.now e) e n;
      after_1 = λ q n. after-refusal s 1 n (omega arith) (λ z. omega (arith, z)) q;
      after_2 = λ q n. after-refusal s 2 n (omega arith) (λ z. omega (arith, z)) q;
    }
