-- A UUID that is read has 128 bits.
-- Assumes nothing.
use Rattle.std.specs.Prelude.{Option, Some, None}
use mathlib.Core.Path.{◌≡◌, refl, subst}
use mathlib.Core.Bool.{Bool, true, false}
use mathlib.Core.List.{List, ◌++◌}
use Prim.Native.Nat.{ℕ, ◌<◌, ◌≤◌, ◌^◌}
use native.Mathlib.Omega.{arith}
use lib.Dec.{eqb}
use lib.ListN.{length, take, drop, length-append, length-take, length-drop}
use borrow.Author.Tests.{eqb-true}
use Rattle.text.specs.Bytes.{pick, both}
use Rattle.text.specs.Uuid.{read_hex, with_low, joined, of_digits, simple, hyphen_at, first_groups, last_groups, Small}
use Rattle.text.specs.Uuid.{hyphenated, in_braces, after_urn, uuid_of}
use Rattle.text.specs.declared.uuid.Spelled.{Spelled}
use Rattle.text.specs.declared.uuid.Form.{Form}
use Rattle.text.specs.declared.uuid.Form.TheVariants as F
use Rattle.text.proofs.UuidLaws.{room_for}

-- a half of at most sixteen digits fits 64 bits
half_small : (ds : List ℕ) (v : ℕ) → length ds ≤ 16 → read_hex 0 ds ≡ Some v → v < 2 ^ 64
half_small ds v h e = room_for ds (read_hex 0 ds) 16 refl h v e

digits_small : (f : Form) (xs ys : List ℕ) (u : Spelled) → length xs ≤ 16 → length ys ≤ 16
    → of_digits f xs ys ≡ Some u → Small u.id
digits_small f xs ys u h k e = high (read_hex 0 xs) refl e
  where
    low : (x : ℕ) → x < 2 ^ 64 → (t : Option ℕ) → read_hex 0 ys ≡ t → with_low f x t ≡ Some u → Small u.id
    low x b (Some y) p q =
        let w : record { id = record { high = x; low = y }; form = f } ≡ u = cc in
        subst (λ (v : Spelled). Small v.id) w (record { high = b; low = half_small ys y k p })
    low x b None p q = let z : ◌≡◌ {A = ℕ} 0 1 = cc in absurd (omega arith)

    high : (t : Option ℕ) → read_hex 0 xs ≡ t → joined f t (read_hex 0 ys) ≡ Some u → Small u.id
    high (Some x) p q = low x (half_small xs x h p) (read_hex 0 ys) refl q
    high None p q = let z : ◌≡◌ {A = ℕ} 0 1 = cc in absurd (omega arith)

take_short : (n : ℕ) (s : List ℕ) → length (take n s) ≤ n
take_short n s = simp length-take (omega arith)

hyphenated_small : (f : Form) (s : List ℕ) (u : Spelled) → hyphenated f s ≡ Some u → Small u.id
unfolding hyphenated
hyphenated_small f s u e = go (both (hyphen_at s 8) (both (hyphen_at s 13) (both (hyphen_at s 18) (hyphen_at s 23)))) e
  where
    go : (t : Bool) → pick t (of_digits f (first_groups s) (last_groups s)) None ≡ Some u → Small u.id
    go true q =
        digits_small f (first_groups s) (last_groups s) u
        (omega (
          arith,
          length-append (take 8 s) (take 4 (drop 9 s) ++ take 4 (drop 14 s)),
          length-append
              (take 4 (drop 9 s)) (take 4 (drop 14 s)),
          take_short 8 s,
          take_short 4 (drop 9 s),
          take_short 4
              (drop 14 s),
        ))
        (omega (
          arith,
          length-append (take 4 (drop 19 s)) (take 12 (drop 24 s)),
          take_short 4 (drop 19 s),
          take_short
              12 (drop 24 s),
        )) q
    go false q = let z : ◌≡◌ {A = ℕ} 0 1 = cc in absurd (omega arith)

pub uuid_small : (s : List ℕ) (u : Spelled) → uuid_of s ≡ Some u → Small u.id
unfolding uuid_of
uuid_small s u e = go32 (eqb (length s) 32) refl e
  where
    go45 : (t : Bool) → pick t (hyphenated F.Urn (drop 9 s)) None ≡ Some u → Small u.id
    go45 true q = hyphenated_small F.Urn (drop 9 s) u q
    go45 false q = let z : ◌≡◌ {A = ℕ} 0 1 = cc in absurd (omega arith)

    go38 : (t : Bool)
        → pick t (hyphenated F.Braced (take 36 (drop 1 s)))
        (pick (both (eqb (length s) 45) (after_urn s)) (hyphenated F.Urn (drop 9 s)) None) ≡ Some u
        → Small u.id
    go38 true q = hyphenated_small F.Braced (take 36 (drop 1 s)) u q
    go38 false q = go45 (both (eqb (length s) 45) (after_urn s)) q

    go36 : (t : Bool)
        → pick t (hyphenated F.Hyphenated s)
        (pick (both (eqb (length s) 38) (in_braces s)) (hyphenated F.Braced (take 36 (drop 1 s)))
        (pick (both (eqb (length s) 45) (after_urn s)) (hyphenated F.Urn (drop 9 s)) None)) ≡ Some u
        → Small u.id
    go36 true q = hyphenated_small F.Hyphenated s u q
    go36 false q = go38 (both (eqb (length s) 38) (in_braces s)) q

    go32 : (t : Bool) → eqb (length s) 32 ≡ t
        → pick t (simple s)
        (pick (eqb (length s) 36) (hyphenated F.Hyphenated s)
        (pick (both (eqb (length s) 38) (in_braces s)) (hyphenated F.Braced (take 36 (drop 1 s)))
        (pick (both (eqb (length s) 45) (after_urn s)) (hyphenated F.Urn (drop 9 s)) None))) ≡ Some u
        → Small u.id
    go32 true p q =
        digits_small F.Simple (take 16 s) (drop 16 s) u (take_short 16 s)
        (omega (arith, length-drop 16 s, eqb-true (length s) 32 p)) q
    go32 false p q = go36 (eqb (length s) 36) q
