-- The lines that an insert walks: the walk over these alone answers done and leaves the same, and a walk answers done,
-- 20, 21 or 25.
-- Assumes nothing.
use Rattle.std.specs.Prelude.{Result, Ok, Err, ⊤, Option, Some, None}
use mathlib.Core.Bool.{Bool, true, false}
use mathlib.Core.List.{List, [], ◌∷◌}
use mathlib.Core.Path.{◌≡◌, sym, ap, ◌∙◌}
use Prim.Native.Nat.{ℕ, zero, suc, ◌+◌, ◌≤◌}
use native.Mathlib.Omega.{arith}
use lib.Dec.{ltb}
use lib.ListN.{length, take}
use Rattle.text.specs.Bytes.{pick}
use Rattle.text.specs.declared.uuid.Spelled.{Spelled}
use Rattle.store.specs.Held.{line_max, Held, file}
use Rattle.store.specs.Lines.{wanted}
use Rattle.store.specs.Refusals.{number}
use Rattle.store.specs.Book.{Caller, room_for, by_room, under, Reached, after, stopped, reach_wanted}
use Rattle.store.specs.Book.{reach, insert_turn, on_reached, insert_lines}
use Rattle.store.specs.declared.calls.StoreError.TheVariants as E
use Rattle.store.specs.declared.table.Full.TheVariants as R
use Rattle.store.specs.declared.calls.StoreError.{StoreError}
use Rattle.store.specs.declared.table.Full.{Full}

module _ (by : Caller) where
  pub count_least : (ls : List (List ℕ)) (hs : List Held) (c : ℕ) → c ≤ (insert_lines by hs c ls).answer.count
  unfolding insert_lines
  count_least [] hs c = omega arith
  count_least (l ∷ ls) hs c = go (reach by hs l) (λ (ks : List Held). count_least ls ks (suc c))
    where
      go : (r : Reached) → ((ks : List Held) → suc c ≤ (insert_lines by ks (suc c) ls).answer.count)
          → c ≤ (on_reached r (λ a. insert_turn hs a c) (λ ks. insert_lines by ks (suc c) ls)).answer.count
      go (stopped a) ih = omega arith
      go (after ks) ih = omega (arith, ih ks)

  -- those that were walked, walked alone: done, and the same lines held
  pub lines_before : (ls : List (List ℕ)) (hs : List Held) (c k : ℕ)
      → (insert_lines by hs c ls).answer.count ≡ c + k
      → insert_lines by hs c (take k ls) ≡ insert_turn (insert_lines by hs c ls).held (Ok tt) (c + k)
  unfolding insert_lines
  lines_before [] hs c zero e = ap (λ (x : ℕ). insert_turn hs (Ok tt) x) e
  lines_before [] hs c (suc k) e = absurd (omega (arith, e))
  lines_before (l ∷ ls) hs c zero e =
      go (reach by hs l) (λ (ks : List Held). count_least ls ks (suc c)) e
    where
      z : c ≡ c + 0
      z = omega arith

      go : (r : Reached) → ((ks : List Held) → suc c ≤ (insert_lines by ks (suc c) ls).answer.count)
          → (on_reached r (λ a. insert_turn hs a c) (λ ks. insert_lines by ks (suc c) ls)).answer.count ≡ c + 0
          → insert_turn hs (Ok tt) c
          ≡ insert_turn (on_reached r (λ a. insert_turn hs a c) (λ ks. insert_lines by ks (suc c) ls)).held (Ok tt) (c + 0)
      go (stopped a) ih q = ap (λ (x : ℕ). insert_turn hs (Ok tt) x) z
      go (after ks) ih q = absurd (omega (arith, q, ih ks))
  lines_before (l ∷ ls) hs c (suc k) e =
      go (reach by hs l) (λ (ks : List Held) (q : (insert_lines by ks (suc c) ls).answer.count ≡ suc c + k).
      lines_before ls ks (suc c) k q) e
    where
      z : suc c + k ≡ c + suc k
      z = omega arith

      go : (r : Reached)
          → ((ks : List Held) → (insert_lines by ks (suc c) ls).answer.count ≡ suc c + k
          → insert_lines by ks (suc c) (take k ls)
          ≡ insert_turn (insert_lines by ks (suc c) ls).held (Ok tt) (suc c + k))
          → (on_reached r (λ a. insert_turn hs a c) (λ ks. insert_lines by ks (suc c) ls)).answer.count ≡ c + suc k
          → on_reached r (λ a. insert_turn hs a c) (λ ks. insert_lines by ks (suc c) (take k ls))
          ≡ insert_turn (on_reached r (λ a. insert_turn hs a c) (λ ks. insert_lines by ks (suc c) ls)).held (Ok tt)
          (c + suc k)
      go (stopped a) ih q = absurd (omega (arith, q))
      go (after ks) ih q =
          ih ks (q ∙ sym z) ∙ ap (λ (x : ℕ). insert_turn (insert_lines by ks (suc c) ls).held (Ok tt) x) z

  -- a walk over lines answers done, 20, 21 or 25
  abbrev pub Walks : Result ⊤ StoreError → Type 0
  Walks a = (number a ≡ 10 → ⊥) × (number a ≡ 19 → ⊥) × (number a ≡ 24 → ⊥)

  abbrev Stops : Reached → Type 0
  Stops (after hs) = Unit {0}
  Stops (stopped a) = Walks a

  stops : (hs : List Held) (l : List ℕ) → Stops (reach by hs l)
  unfolding reach
  stops hs l = go (wanted l)
    where
      its : Spelled → Held
      its u = under by.owner u.id l

      full : (u : Spelled) (r : Result ⊤ Full)
          → Stops (by_room r (stopped (Err E.NoRoom)) (stopped (Err E.NoText)) (after (file (its u) hs)))
      full u (Err R.Index) = (λ e. omega (arith, e), λ e. omega (arith, e), λ e. omega (arith, e))
      full u (Err R.Text) = (λ e. omega (arith, e), λ e. omega (arith, e), λ e. omega (arith, e))
      full u (Ok _) = tt

      long : (u : Spelled) (b : Bool) → Stops (pick b (stopped (Err E.LineTooLong))
          (by_room (room_for by (its u) hs) (stopped (Err E.NoRoom)) (stopped (Err E.NoText)) (after (file (its u) hs))))
      long u true = (λ e. omega (arith, e), λ e. omega (arith, e), λ e. omega (arith, e))
      long u false = full u (room_for by (its u) hs)

      go : (p : Option Spelled) → Stops (reach_wanted by hs l p)
      go None = tt
      go (Some u) = long u (ltb line_max (length l))

  pub walks : (ls : List (List ℕ)) (hs : List Held) (c : ℕ) → Walks (insert_lines by hs c ls).answer.answer
  unfolding insert_lines
  walks [] hs c = (λ e. omega (arith, e), λ e. omega (arith, e), λ e. omega (arith, e))
  walks (l ∷ ls) hs c = go (reach by hs l) (stops hs l) (λ (ks : List Held). walks ls ks (suc c))
    where
      go : (r : Reached) → Stops r → ((ks : List Held) → Walks (insert_lines by ks (suc c) ls).answer.answer)
          → Walks (on_reached r (λ a. insert_turn hs a c) (λ ks. insert_lines by ks (suc c) ls)).answer.answer
      go (stopped a) w ih = w
      go (after ks) w ih = ih ks
