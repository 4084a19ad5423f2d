-- The text of the first lines of a text: its lines are those, and it is UTF-8 where the whole text is, since it ends
-- behind an LF, which is a character by itself.
-- Assumes nothing.
use mathlib.Core.Bool.{Bool, true, false, ◌&&◌}
use mathlib.Core.List.{List, [], ◌∷◌, ◌++◌}
use mathlib.Core.Path.{◌≡◌, refl, sym, ap, subst, ◌∙◌}
use Prim.Native.Nat.{ℕ, zero, suc}
use native.Mathlib.Omega.{arith}
use borrow.Author.Tests.{eqb-true}
use lib.Dec.{eqb}
use lib.ListN.{take, get_or}
use Rattle.text.specs.Bytes.{pick}
use Rattle.text.specs.Search.{lf}
use Rattle.text.specs.Utf8.{is_utf8}
use Rattle.text.proofs.AsciiLaws.{Valid, none_valid, valid_join, valid_split, valid_is, is_valid}
use Rattle.line.specs.Fields.{before}
use Rattle.store.specs.Lines.{cr, lines_of}
use Rattle.store.specs.Promises.{first_lines}

-- ---- its lines

head_same : (k : ℕ) (s : List ℕ) → get_or (first_lines (suc k) s) 0 0 ≡ get_or s 0 0
unfolding first_lines
head_same k [] = refl
head_same k (b ∷ s) = refl

before-take : (b k : ℕ) (ls : List (List ℕ)) → before b (take (suc k) ls) ≡ take (suc k) (before b ls)
before-take b zero [] = refl
before-take b (suc k) [] = refl
before-take b k (l ∷ ls) = refl

lines_none : lines_of [] ≡ []
unfolding lines_of
lines_none = refl

pub front_lines : (s : List ℕ) (k : ℕ) → lines_of (first_lines k s) ≡ take k (lines_of s)
unfolding first_lines
front_lines [] zero = lines_none
front_lines [] (suc k) = lines_none ∙ sym (ap (take (suc k)) lines_none)
front_lines (b ∷ s) zero = lines_none
front_lines (b ∷ s) (suc k) =
    go (eqb b lf) refl (eqb b cr && eqb (get_or s 0 0) lf) refl (front_lines s k) (front_lines s (suc k))
  where
    go : (x : Bool) → eqb b lf ≡ x → (y : Bool) → eqb b cr && eqb (get_or s 0 0) lf ≡ y
        → lines_of (first_lines k s) ≡ take k (lines_of s) → lines_of (first_lines (suc k) s) ≡ take (suc k) (lines_of s)
        → lines_of (b ∷ pick x (first_lines k s) (first_lines (suc k) s)) ≡ take (suc k) (lines_of (b ∷ s))
    go true e y f ih jh = unfold lines_of in (rw e (ap (λ (ls : List (List ℕ)). [] ∷ ls) ih))
    go false e true f ih jh = unfold lines_of in (rw (e, head_same k s, f) jh)
    go false e false f ih jh =
        unfold lines_of in (rw (e, head_same k s, f) (ap (before b) jh ∙ before-take b k (lines_of s)))

-- ---- its characters

-- a text without LF, or one that is cut at its first LF
data Cut (s : List ℕ) : Type 0 where
  whole : ((k : ℕ) → first_lines (suc k) s ≡ s) → Cut s
  at : (a r : List ℕ) → s ≡ a ++ (lf ∷ r) → ((k : ℕ) → first_lines (suc k) s ≡ a ++ (lf ∷ first_lines k r)) → Cut s

cut : (s : List ℕ) → Cut s
unfolding first_lines
cut [] = whole (λ k. refl)
cut (b ∷ s) = go (eqb b lf) refl (cut s)
  where
    go : (x : Bool) → eqb b lf ≡ x → Cut s → Cut (b ∷ s)
    go true e c =
        let q : b ≡ lf = eqb-true b lf e in
        at [] s (ap (λ (y : ℕ). y ∷ s) q)
        (λ k. unfold first_lines in (rw e (ap (λ (y : ℕ). y ∷ first_lines k s) q)))
    go false e (whole f) = whole (λ k. unfold first_lines in (rw e (ap (λ (q : List ℕ). b ∷ q) (f k))))
    go false e (at a r p f) =
        at (b ∷ a) r (ap (λ (q : List ℕ). b ∷ q) p)
        (λ k. unfold first_lines in (rw e (ap (λ (q : List ℕ). b ∷ q) (f k))))

front_valid : (k : ℕ) (s : List ℕ) → Valid s → Valid (first_lines k s)
front_valid zero s v = subst Valid (sym (none s)) none_valid
  where
    none : (s : List ℕ) → first_lines zero s ≡ []
    none s = unfold first_lines in refl
front_valid (suc k) s v = go (cut s) (front_valid k)
  where
    go : Cut s → ((r : List ℕ) → Valid r → Valid (first_lines k r)) → Valid (first_lines (suc k) s)
    go (whole f) ih = subst Valid (sym (f k)) v
    go (at a r p f) ih =
        let w : Valid a × Valid r = valid_split lf (omega arith) a r (subst Valid p v) in
        subst Valid (sym (f k)) (valid_join lf (omega arith) a (first_lines k r) w.0 (ih r w.1))

pub front_utf8 : (k : ℕ) (s : List ℕ) → is_utf8 s ≡ true → is_utf8 (first_lines k s) ≡ true
front_utf8 k s e = valid_is (first_lines k s) (front_valid k s (is_valid s e))
