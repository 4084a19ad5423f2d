-- A raw event changes no element but that of its code. Assumes nothing.
use Rattle.std.specs.Prelude.{Some, None, Option}
use Prim.Native.Nat.{ℕ, zero, suc, ◌+◌, ◌<◌, ◌≤◌}
use mathlib.Core.Path.{◌≡◌, refl, sym, ap, subst, ◌∙◌}
use mathlib.Core.Bool.{Bool, true, false}
use mathlib.Core.Logic.{⊎_elim, ◌⊎◌, inl, inr}
use mathlib.Core.List.{List, [], ◌∷◌}
use native.Mathlib.Omega.{arith}
use borrow.Author.Tests.{eqb-true, eqb-false, eq-eqb, leb-true, leb-false}
use lib.Dec.{eqb, leb}
use lib.IntN.{ℤ, pos, negsuc}
use Rattle.text.specs.Bytes.{pick}
use Rattle.line.specs.declared.ev.Code.{Code}
use Rattle.line.specs.declared.ev.AxisOrBtn.{AxisOrBtn}
use Rattle.line.specs.declared.mapping.Entry.{Entry}
use Rattle.line.specs.Elements.{code_of, same_element}
use Rattle.line.specs.Maps.{entry_at}
use Rattle.pad.specs.declared.events.Raw.{Raw}
use Rattle.pad.specs.declared.events.Held.{Held}
use Rattle.pad.specs.declared.events.Event.{Event}
use Rattle.pad.specs.Pads.{put_held, given_by, gives, Chosen, prefer, choose, tabulate, element_at, sameℤ, changes}

-- whether an entry is of an element
abbrev pub is_of : Option Entry → AxisOrBtn → Bool
is_of (Some e) el = same_element e.element el
is_of None el = false

gives_nothing : (w : Option Entry) (raw : Raw) (el : AxisOrBtn) → is_of w el ≡ false → given_by w raw el ≡ None
gives_nothing (Some e) raw el t = rw t
gives_nothing None raw el t = refl

pub untouched : (hs : List Held) (es : List Entry) (h : Held) (el : AxisOrBtn)
    → is_of (entry_at es h.code) el ≡ false → choose (put_held h hs) es el ≡ choose hs es el
unfolding put_held choose
untouched [] es h el t = rw (gives_nothing (entry_at es h.code) h.raw el t)
untouched (x ∷ hs) es h el t = by (eqb x.code.0 h.code.0) refl (untouched hs es h el t)
  where
    by : (a : Bool) → eqb x.code.0 h.code.0 ≡ a → choose (put_held h hs) es el ≡ choose hs es el
        → choose (put_held h (x ∷ hs)) es el ≡ choose (x ∷ hs) es el
    by true p ih =
        let s : x.code ≡ h.code = ap code_of (eqb-true x.code.0 h.code.0 p) in
        let q : is_of (entry_at es x.code) el ≡ false =
        subst (λ (c : Code). is_of (entry_at es c) el ≡ false) (sym s) t in
        rw (p, gives_nothing (entry_at es h.code) h.raw el t, gives_nothing (entry_at es x.code) x.raw el q)
    by false p ih = rw p (ap (λ (r : Chosen). prefer x.code.0 (gives es x el) r) ih)

less_or : (a b : ℕ) → (suc a ≤ b) ⊎ (b ≤ a)
less_or a b = by (leb (suc a) b) refl
  where
    by : (t : Bool) → leb (suc a) b ≡ t → (suc a ≤ b) ⊎ (b ≤ a)
    by true e = inl (leb-true (suc a) b e)
    by false e = inr (omega (arith, leb-false (suc a) b e))

-- ---- two lists of values that differ at one place at most
pub same_refl : (x : ℤ) → sameℤ x x ≡ true
same_refl (pos a) = eq-eqb a a refl
same_refl (negsuc a) = eq-eqb a a refl

pub none-changed : (f g : ℕ → ℤ) (n i : ℕ) → ((j : ℕ) → i ≤ j → j < i + n → f j ≡ g j)
    → changes i (tabulate f n i) (tabulate g n i) ≡ []
unfolding changes tabulate
none-changed f g zero i h = refl
none-changed f g (suc n) i h =
    rw (h i (omega arith) (omega arith), same_refl (g i))
    (none-changed f g n (suc i) (λ j l m. h j (omega arith) (omega arith)))

-- the event of a place, if its value changed
abbrev pub change_at : ℕ → ℤ → ℤ → List Event
change_at k v w = pick (sameℤ v w) [] (record { element = element_at k; value = w } ∷ [])

-- at place k itself
here : (f g : ℕ → ℤ) (n i k : ℕ) → ((j : ℕ) → (j ≡ k → ⊥) → j < i + suc n → f j ≡ g j) → i ≡ k
    → changes i (tabulate f (suc n) i) (tabulate g (suc n) i) ≡ change_at k (f k) (g k)
unfolding changes tabulate
here f g n i k h e =
    let rest = none-changed f g n (suc k) (λ j l m. h j (λ q. omega arith) (omega arith)) in
    rw (e, rest)

-- before it
before : (f g : ℕ → ℤ) (n i k : ℕ) → ((j : ℕ) → (j ≡ k → ⊥) → j < i + suc n → f j ≡ g j) → (i ≡ k → ⊥)
    → changes i (tabulate f (suc n) i) (tabulate g (suc n) i)
    ≡ changes (suc i) (tabulate f n (suc i)) (tabulate g n (suc i))
unfolding changes tabulate
before f g n i k h e = rw (h i e (omega arith), same_refl (g i))

pub one_changed : (f g : ℕ → ℤ) (n i k : ℕ) → ((j : ℕ) → (j ≡ k → ⊥) → j < i + n → f j ≡ g j) → i ≤ k → k < i + n
    → changes i (tabulate f n i) (tabulate g n i) ≡ change_at k (f k) (g k)
one_changed f g zero i k h a b = absurd (omega arith)
one_changed f g (suc n) i k h a b =
    by (eqb i k) refl (λ l. one_changed f g n (suc i) k (λ j d m. h j d (omega arith)) l (omega arith))
  where
    by : (t : Bool) → eqb i k ≡ t
        → (suc i ≤ k → changes (suc i) (tabulate f n (suc i)) (tabulate g n (suc i)) ≡ change_at k (f k) (g k))
        → changes i (tabulate f (suc n) i) (tabulate g (suc n) i) ≡ change_at k (f k) (g k)
    by true e ih = here f g n i k h (eqb-true i k e)
    by false e ih =
        let d = eqb-false i k e in
        let l : suc i ≤ k = ⊎_elim (λ q. q) (λ q. absurd (d (omega arith))) (less_or i k) in
        before f g n i k h d ∙ ih l
