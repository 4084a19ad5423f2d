-- What the parties claim of the text: a filing changes its own party's part alone, and all lines are claimed.
-- Assumes nothing.
use mathlib.Core.Bool.{Bool, true, false}
use mathlib.Core.List.{List, [], ◌∷◌, ◌++◌, append-nil}
use mathlib.Core.Logic.{⊎_elim}
use mathlib.Core.Path.{◌≡◌, refl, sym, ap, ap₂, ◌∙◌, subst}
use Prim.Native.Nat.{ℕ, zero, suc, ◌+◌, ◌≤◌, ◌<◌}
use native.Mathlib.Nat.{zero-add, add-zero, eq-or-lt_of_le}
use native.Mathlib.Omega.{arith}
use lib.Dec.{eqb, ltb}
use lib.ListN.{length, get_or, replicate}
use borrow.Author.Tests.{eqb-true, eqb-false, eq-eqb, ne_eqb, ltb-true, ltb-false, le-ltb}
use Rattle.text.specs.Bytes.{pick}
use Rattle.store.specs.Held.{Key, Held, same_key, strike, file}
use Rattle.store.specs.Inner.{lengths}
use Rattle.store.specs.Layout.{texts}
use Rattle.store.specs.Shares.{owners, use_of, larger, claims_from, claims}
use Rattle.store.specs.Claims.{not_of, OwnersBelow}
use Rattle.store.proofs.HeldLaws.{same_eq}
use Rattle.store.proofs.RowLaws.{texts_cons, texts-none}

-- ---- the larger of two

pub larger-none : (x : ℕ) → larger x 0 ≡ x
larger-none x = ap (λ (b : Bool). pick b 0 x) (le-ltb x 0 (omega arith))

pub larger_used : (x b : ℕ) → x ≤ larger x b
larger_used x b = go (ltb x b) refl
  where
    go : (c : Bool) → ltb x b ≡ c → x ≤ pick c b x
    go true e = omega (arith, ltb-true x b e)
    go false e = omega arith

pub larger_share : (x b : ℕ) → b ≤ larger x b
larger_share x b = go (ltb x b) refl
  where
    go : (c : Bool) → ltb x b ≡ c → b ≤ pick c b x
    go true e = omega arith
    go false e = ltb-false x b e

pub larger_most : (x b m : ℕ) → x ≤ m → b ≤ m → larger x b ≤ m
larger_most x b m p q = go (ltb x b)
  where
    go : (c : Bool) → pick c b x ≤ m
    go true = q
    go false = p

-- ---- the lines of one party, and those of the others

not_of-append : (o : ℕ) (hs ks : List Held) → not_of o (hs ++ ks) ≡ not_of o hs ++ not_of o ks
unfolding not_of
not_of-append o [] ks = refl
not_of-append o (h ∷ hs) ks = go (eqb h.key.owner o) (not_of-append o hs ks)
  where
    go : (b : Bool) → not_of o (hs ++ ks) ≡ not_of o hs ++ not_of o ks
        → pick b (not_of o (hs ++ ks)) (h ∷ not_of o (hs ++ ks))
        ≡ pick b (not_of o hs) (h ∷ not_of o hs) ++ not_of o ks
    go true e = e
    go false e = ap (λ (q : List Held). h ∷ q) e

not_of-strike : (k : Key) (hs : List Held) → not_of k.owner (strike k hs) ≡ not_of k.owner hs
unfolding not_of strike
not_of-strike k [] = refl
not_of-strike k (h ∷ hs) = go (same_key k h.key) refl (not_of-strike k hs)
  where
    go : (b : Bool) → same_key k h.key ≡ b → not_of k.owner (strike k hs) ≡ not_of k.owner hs
        → not_of k.owner (pick b (strike k hs) (h ∷ strike k hs))
        ≡ pick (eqb h.key.owner k.owner) (not_of k.owner hs) (h ∷ not_of k.owner hs)
    go true p e = e ∙ sym (ap (λ (c : Bool). pick c (not_of k.owner hs) (h ∷ not_of k.owner hs))
        (eq-eqb h.key.owner k.owner (sym (ap (λ (q : Key). q.owner) (same_eq k h.key p)))))
    go false p e = ap (λ (q : List Held). pick (eqb h.key.owner k.owner) q (h ∷ q)) e

not_of_one : (h : Held) → not_of h.key.owner (h ∷ []) ≡ []
unfolding not_of
not_of_one h = ap (λ (b : Bool). pick b [] (h ∷ [])) (eq-eqb h.key.owner h.key.owner refl)

pub not_of-file : (h : Held) (hs : List Held) → not_of h.key.owner (file h hs) ≡ not_of h.key.owner hs
unfolding file
not_of-file h hs =
    not_of-append h.key.owner (strike h.key hs) (h ∷ [])
    ∙ ap₂ (λ (x y : List Held). x ++ y) (not_of-strike h.key hs) (not_of_one h)
    ∙ append-nil (not_of h.key.owner hs)

-- the use of another party is told by the lines of the others
use_not : (o q : ℕ) (hs : List Held) → (q ≡ o → ⊥) → use_of q (not_of o hs) ≡ use_of q hs
unfolding not_of use_of
use_not o q [] n = refl
use_not o q (h ∷ hs) n = go (eqb h.key.owner o) refl (use_not o q hs n)
  where
    go : (b : Bool) → eqb h.key.owner o ≡ b → use_of q (not_of o hs) ≡ use_of q hs
        → use_of q (pick b (not_of o hs) (h ∷ not_of o hs))
        ≡ pick (eqb h.key.owner q) (length h.line) 0 + use_of q hs
    go true p e = e ∙ sym (zero-add (use_of q hs)) ∙ sym (ap (λ (c : Bool). pick c (length h.line) 0 + use_of q hs)
        (ne_eqb h.key.owner q (λ z. n (sym z ∙ eqb-true h.key.owner o p))))
    go false p e = ap (λ (x : ℕ). pick (eqb h.key.owner q) (length h.line) 0 + x) e

pub use_other : (o q : ℕ) (hs ks : List Held) → not_of o ks ≡ not_of o hs → (q ≡ o → ⊥) → use_of q ks ≡ use_of q hs
use_other o q hs ks e n = sym (use_not o q ks n) ∙ ap (use_of q) e ∙ use_not o q hs n

-- its own use is what the lines take but for the others
pub use_own : (o : ℕ) (hs : List Held) → lengths hs ≡ use_of o hs + lengths (not_of o hs)
unfolding not_of use_of lengths
use_own o [] = refl
use_own o (h ∷ hs) = go (eqb h.key.owner o) (use_own o hs)
  where
    go : (b : Bool) → lengths hs ≡ use_of o hs + lengths (not_of o hs)
        → length h.line + lengths hs
        ≡ pick b (length h.line) 0 + use_of o hs + lengths (pick b (not_of o hs) (h ∷ not_of o hs))
    go true e = omega (arith, e)
    go false e = omega (arith, e)

-- the owners of lines are bytes where those of the others' lines are
owners_others : (o : ℕ) (hs : List Held) → OwnersBelow hs → OwnersBelow (not_of o hs)
unfolding not_of
owners_others o [] w = tt
owners_others o (h ∷ hs) w = go (eqb h.key.owner o) (owners_others o hs w.1)
  where
    go : (b : Bool) → OwnersBelow (not_of o hs) → OwnersBelow (pick b (not_of o hs) (h ∷ not_of o hs))
    go true ih = ih
    go false ih = (w.0, ih)

owners_all : (o : ℕ) (hs : List Held) → o < owners → OwnersBelow (not_of o hs) → OwnersBelow hs
unfolding not_of
owners_all o [] l w = tt
owners_all o (h ∷ hs) l w = go (eqb h.key.owner o) refl w (λ v. owners_all o hs l v)
  where
    go : (b : Bool) → eqb h.key.owner o ≡ b → OwnersBelow (pick b (not_of o hs) (h ∷ not_of o hs))
        → (OwnersBelow (not_of o hs) → OwnersBelow hs) → OwnersBelow (h ∷ hs)
    go true e v f = (omega (arith, eqb-true h.key.owner o e), f v)
    go false e v f = (v.0, f v.1)

pub owners_swap : (o : ℕ) (hs ks : List Held) → o < owners → not_of o ks ≡ not_of o hs → OwnersBelow hs → OwnersBelow ks
owners_swap o hs ks l e w =
    owners_all o ks l (subst (λ (v : List Held). OwnersBelow v) (sym e) (owners_others o hs w))

-- ---- what all claim

-- parties from p on, of which o is none
claims_past : (p : ℕ) (g : List ℕ) (hs ks : List Held) → ((q : ℕ) → p ≤ q → use_of q ks ≡ use_of q hs)
    → claims_from p g ks ≡ claims_from p g hs
unfolding claims_from
claims_past p [] hs ks f = refl
claims_past p (b ∷ g) hs ks f =
    ap₂ (λ (x y : ℕ). larger x b + y) (f p (omega arith)) (claims_past (suc p) g hs ks (λ q l. f q (omega arith)))

-- the party k behind p files
claims_at : (p k : ℕ) (g : List ℕ) (hs ks : List Held) → k < length g
    → ((q : ℕ) → (q ≡ p + k → ⊥) → use_of q ks ≡ use_of q hs)
    → claims_from p g ks + larger (use_of (p + k) hs) (get_or g k 0)
    ≡ claims_from p g hs + larger (use_of (p + k) ks) (get_or g k 0)
unfolding claims_from
claims_at p k [] hs ks l f = absurd (omega arith)
claims_at p zero (b ∷ g) hs ks l f =
    let z : p + 0 ≡ p = add-zero p in
    let e : claims_from (suc p) g ks ≡ claims_from (suc p) g hs
    = claims_past (suc p) g hs ks (λ q m. f q (λ v. omega arith)) in
    ap₂ (λ (x y : ℕ). larger (use_of p ks) b + x + larger (use_of y hs) b) e z
    ∙ order (larger (use_of p ks) b) (claims_from (suc p) g hs) (larger (use_of p hs) b)
    ∙ ap (λ (y : ℕ). larger (use_of p hs) b + claims_from (suc p) g hs + larger (use_of y ks) b) (sym z)
  where
    order : (x y z : ℕ) → x + y + z ≡ z + y + x
    order x y z = omega arith
claims_at p (suc k) (b ∷ g) hs ks l f =
    let z : suc p + k ≡ p + suc k = omega arith in
    let ih : claims_from (suc p) g ks + larger (use_of (suc p + k) hs) (get_or g k 0)
    ≡ claims_from (suc p) g hs + larger (use_of (suc p + k) ks) (get_or g k 0)
    = claims_at (suc p) k g hs ks (omega arith) (λ q n. f q (λ v. n (v ∙ sym z))) in
    ap₂ (λ (x y : ℕ). larger x b + claims_from (suc p) g ks + larger (use_of y hs) (get_or g k 0))
    (f p (λ v. omega arith)) (sym z)
    ∙ order (larger (use_of p hs) b) (claims_from (suc p) g ks) (larger (use_of (suc p + k) hs) (get_or g k 0))
    (claims_from (suc p) g hs) (larger (use_of (suc p + k) ks) (get_or g k 0)) ih
    ∙ ap (λ (y : ℕ). larger (use_of p hs) b + claims_from (suc p) g hs + larger (use_of y ks) (get_or g k 0)) z
  where
    order : (x y z v w : ℕ) → y + z ≡ v + w → x + y + z ≡ x + v + w
    order x y z v w e = omega arith

pub claims_swap : (o : ℕ) (g : List ℕ) (hs ks : List Held) → o < length g → not_of o ks ≡ not_of o hs
    → claims g ks + larger (use_of o hs) (get_or g o 0) ≡ claims g hs + larger (use_of o ks) (get_or g o 0)
claims_swap o g hs ks l e =
    subst (λ (q : ℕ). claims g ks + larger (use_of q hs) (get_or g o 0) ≡ claims g hs + larger (use_of q ks) (get_or g o 0))
    (zero-add o)
    (claims_at 0 o g hs ks l (λ q n. use_other o q hs ks e (λ v. n (v ∙ sym (zero-add o)))))

least_at : (p k : ℕ) (g : List ℕ) (hs : List Held) → k < length g
    → larger (use_of (p + k) hs) (get_or g k 0) ≤ claims_from p g hs
unfolding claims_from
least_at p k [] hs l = absurd (omega arith)
least_at p zero (b ∷ g) hs l =
    subst (λ (q : ℕ). larger (use_of q hs) b ≤ larger (use_of p hs) b + claims_from (suc p) g hs) (sym (add-zero p))
    (omega arith)
least_at p (suc k) (b ∷ g) hs l =
    let z : suc p + k ≡ p + suc k = omega arith in
    let ih : larger (use_of (suc p + k) hs) (get_or g k 0) ≤ claims_from (suc p) g hs
    = least_at (suc p) k g hs (omega arith) in
    subst (λ (q : ℕ). larger (use_of q hs) (get_or g k 0) ≤ larger (use_of p hs) b + claims_from (suc p) g hs) z
    (omega (arith, ih))

pub one_least : (o : ℕ) (g : List ℕ) (hs : List Held) → o < length g → larger (use_of o hs) (get_or g o 0) ≤ claims g hs
one_least o g hs l =
    subst (λ (q : ℕ). larger (use_of q hs) (get_or g o 0) ≤ claims g hs) (zero-add o) (least_at 0 o g hs l)

-- ---- without shares all that is claimed is in use

none_more : (p : ℕ) (g : List ℕ) (hs : List Held) → claims_from p (replicate (length g) 0) hs ≤ claims_from p g hs
unfolding claims_from
none_more p [] hs = omega arith
none_more p (b ∷ g) hs = omega (
  arith,
  larger-none (use_of p hs),
  larger_used (use_of p hs) b,
  none_more (suc p) g hs,
)

none_empty : (p n : ℕ) → claims_from p (replicate n 0) [] ≡ 0
unfolding claims_from use_of
none_empty p zero = refl
none_empty p (suc n) = zero-add _ ∙ none_empty (suc p) n

use_first : (q : ℕ) (h : Held) (hs : List Held) → h.key.owner ≡ q → use_of q (h ∷ hs) ≡ length h.line + use_of q hs
unfolding use_of
use_first q h hs e = ap (λ (c : Bool). pick c (length h.line) 0 + use_of q hs) (eq-eqb h.key.owner q e)

use_past : (q : ℕ) (h : Held) (hs : List Held) → (h.key.owner ≡ q → ⊥) → use_of q (h ∷ hs) ≡ use_of q hs
unfolding use_of
use_past q h hs n = ap (λ (c : Bool). pick c (length h.line) 0 + use_of q hs) (ne_eqb h.key.owner q n)
    ∙ zero-add (use_of q hs)

none_past : (p n : ℕ) (h : Held) (hs : List Held) → h.key.owner < p
    → claims_from p (replicate n 0) (h ∷ hs) ≡ claims_from p (replicate n 0) hs
none_past p n h hs l = claims_past p (replicate n 0) hs (h ∷ hs) (λ q m. use_past q h hs (λ e. omega arith))

none_first : (p n : ℕ) (h : Held) (hs : List Held) → p ≤ h.key.owner → h.key.owner < p + n
    → claims_from p (replicate n 0) (h ∷ hs) ≡ length h.line + claims_from p (replicate n 0) hs
unfolding claims_from
none_first p zero h hs l m = absurd (omega arith)
none_first p (suc n) h hs l m =
    go (eqb h.key.owner p) refl (λ v. none_first (suc p) n h hs v (omega arith))
  where
    go : (b : Bool) → eqb h.key.owner p ≡ b
        → (suc p ≤ h.key.owner → claims_from (suc p) (replicate n 0) (h ∷ hs)
        ≡ length h.line + claims_from (suc p) (replicate n 0) hs)
        → larger (use_of p (h ∷ hs)) 0 + claims_from (suc p) (replicate n 0) (h ∷ hs)
        ≡ length h.line + (larger (use_of p hs) 0 + claims_from (suc p) (replicate n 0) hs)
    go true e f =
        let q : h.key.owner ≡ p = eqb-true h.key.owner p e in
        let r : claims_from (suc p) (replicate n 0) (h ∷ hs) ≡ claims_from (suc p) (replicate n 0) hs
        = none_past (suc p) n h hs (omega arith) in
        omega (arith, larger-none (use_of p (h ∷ hs)), larger-none (use_of p hs), use_first p h hs q, r)
    go false e f =
        let q : h.key.owner ≡ p → ⊥ = eqb-false h.key.owner p e in
        let r : claims_from (suc p) (replicate n 0) (h ∷ hs)
        ≡ length h.line + claims_from (suc p) (replicate n 0) hs
        = f (⊎_elim (λ z. absurd (q (sym z))) (λ z. z) (eq-or-lt_of_le l)) in
        omega (arith, larger-none (use_of p (h ∷ hs)), larger-none (use_of p hs), use_past p h hs q, r)

pub none-lengths : (hs : List Held) → OwnersBelow hs → claims_from 0 (replicate owners 0) hs ≡ lengths hs
unfolding lengths
none-lengths [] w = none_empty 0 owners
none-lengths (h ∷ hs) w =
    none_first 0 owners h hs (omega arith) (omega (arith, w.0))
    ∙ ap (λ (x : ℕ). length h.line + x) (none-lengths hs w.1)

pub lengths_least : (g : List ℕ) (hs : List Held) → length g ≡ owners → OwnersBelow hs → lengths hs ≤ claims g hs
lengths_least g hs e w =
    omega (
      arith,
      none-lengths hs w,
      ap (λ (n : ℕ). claims_from 0 (replicate n 0) hs) (sym e),
      none_more 0 g hs,
    )

pub lengths-texts : (hs : List Held) → lengths hs ≡ length (texts hs)
unfolding lengths
lengths-texts [] = sym texts-none
lengths-texts (h ∷ hs) = ap (λ (k : ℕ). length h.line + k) (lengths-texts hs) ∙ sym (texts_cons h hs)
