-- General laws: a case split on two numbers, tests, and parts of a list.
-- Assumes nothing.
use mathlib.Core.Path.{◌≡◌, refl, sym}
use mathlib.Core.Bool.{Bool, true, false}
use mathlib.Core.Logic.{◌⊎◌, inl, inr}
use mathlib.Core.List.{List, ◌∷◌}
use Prim.Native.Nat.{ℕ, suc, ◌+◌, ◌-◌, ◌<◌, ◌≤◌}
use native.Mathlib.Numerals.{add-one}
use native.Mathlib.Omega.{arith}
use borrow.Author.Tests.{ltb-true, ltb-false, leb-true, leb-false, le-leb, lt-leb}
use lib.Dec.{ltb, leb}
use lib.ListN.{length, take, drop, get_or, length-drop}
use lib.Seq.{drop-cons, length-take-le, take_all}
use Rattle.std.specs.Prelude.{cond}
use Rattle.text.specs.Bytes.{pick, both}

-- ---- numbers and tests

pub lt_or_le : (a b : ℕ) → (a < b) ⊎ (b ≤ a)
lt_or_le a b = go (ltb a b) refl
  where
    go : (t : Bool) → ltb a b ≡ t → (a < b) ⊎ (b ≤ a)
    go true e = inl (ltb-true a b e)
    go false e = inr (ltb-false a b e)

pub off : false ≡ true → ⊥
off e = let z : ◌≡◌ {A = ℕ} 0 1 = cc in omega arith

pub both_true : (t : Bool) → both t true ≡ t
both_true true = refl
both_true false = refl

pub both_parts : (a b : Bool) → both a b ≡ true → (a ≡ true) × (b ≡ true)
both_parts true b h = (refl, h)
both_parts false b h = absurd (off h)

-- what is left after a place, compared without a difference
pub room_left : (room at len : ℕ) → at ≤ room → leb len (room - at) ≡ leb (at + len) room
room_left room at len h = go (leb len (room - at)) refl
  where
    go : (t : Bool) → leb len (room - at) ≡ t → t ≡ leb (at + len) room
    go true e = let p = leb-true len (room - at) e in sym (le-leb (at + len) room (omega arith))
    go false e = let p = leb-false len (room - at) e in sym (lt-leb (at + len) room (omega arith))

-- ---- parts of a list

-- the list from i on: what stands at i, and the list from i + 1 on
pub at_next : (s : List ℕ) (i : ℕ) → i < length s → drop i s ≡ get_or s i 0 ∷ drop (i + 1) s
at_next s i h = rw (add-one, drop-cons s i 0)

-- a part that goes to the end
pub part_to_end : (s : List ℕ) (i : ℕ) → take (length s - i) (drop i s) ≡ drop i s
part_to_end s i = take_all (length s - i) (drop i s) (simp length-drop (omega arith))

-- how long a part is
pub part_length : (s : List ℕ) (n i : ℕ) → i + n ≤ length s → length (take n (drop i s)) ≡ n
part_length s n i h = length-take-le n (drop i s) (simp length-drop (omega arith))

-- ---- a first place, here or further on
pub place_turn : (t : Bool) (n : ℕ) → pick t 0 (suc n) ≡ cond t 0 (1 + n)
place_turn true n = refl
place_turn false n = omega arith
