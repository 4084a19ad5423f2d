-- The entries that count give an element what all entries give it. Assumes nothing.
use Rattle.std.specs.Prelude.{Bool, true, false, Option, Some, None, List, [], ◌∷◌, ◌++◌, map, eqb, get_or, ◌&&◌, is_none}
use Prim.Native.Nat.{ℕ, ◌+◌, ◌/◌, ◌<◌, ◌≤◌}
use mathlib.Core.Path.{◌≡◌, refl, sym, ap, ◌∙◌}
use mathlib.Core.List.{map-append}
use native.Mathlib.Omega.{arith}
use borrow.Author.Tests.{eqb-true, ne_eqb}
use lib.IntN.{ℤ}
use lib.ListN.{length, take, set}
use lib.Seq.{take-suc}
use native.Mathlib.Numerals.{add-one}
use Rattle.std.proofs.lemmas.List.{take_more_set}
use Rattle.text.specs.Bytes.{pick}
use Rattle.line.specs.declared.ev.Code.{Code}
use Rattle.line.specs.declared.ev.AxisOrBtn.{AxisOrBtn}
use Rattle.line.specs.declared.mapping.Entry.{Entry}
use Rattle.line.specs.Elements.{same_element}
use Rattle.line.specs.Maps.{entry_at}
use Rattle.line.specs.Numbers.{code_unit, entry_in, shaped_entry}
use Rattle.pad.specs.declared.events.Raw.{Raw}
use Rattle.pad.specs.declared.events.Held.{Held}
use Rattle.pad.specs.Pads.{given_by, gives, Chosen, prefer, choose}
use Rattle.pad.specs.Pads.{element_at, place_of}
use Rattle.pad.specs.Inner.{is_wanted, if_wanted, Listed_in, FreshFrom, Counts}
use Rattle.pad.proofs.PlaceLaws.{place_element, same_is}
use borrow.Author.Tests.{lt-ltb}
use lib.Dec.{ltb}

-- ---- an entry after others: the first of a code, or else the next one
abbrev or_next : Option Entry → Option Entry → Option Entry
or_next (Some e) o = Some e
or_next None o = o

or_none : (o : Option Entry) → or_next o None ≡ o
or_none (Some e) = refl
or_none None = refl

at_more : (es : List Entry) (e : Entry) (c : Code)
    → entry_at (es ++ e ∷ []) c ≡ or_next (entry_at es c) (pick (eqb e.code.0 c.0) (Some e) None)
unfolding entry_at
at_more [] e c = refl
at_more (x ∷ xs) e c = by (eqb x.code.0 c.0) (at_more xs e c)
  where
    by : (t : Bool) → entry_at (xs ++ e ∷ []) c ≡ or_next (entry_at xs c) (pick (eqb e.code.0 c.0) (Some e) None)
        → pick t (Some x) (entry_at (xs ++ e ∷ []) c)
        ≡ or_next (pick t (Some x) (entry_at xs c)) (pick (eqb e.code.0 c.0) (Some e) None)
    by true ih = refl
    by false ih = ih

in_more : (ys : List ℕ) (x : ℕ) (c : Code) → entry_at (map entry_in (ys ++ x ∷ [])) c
    ≡ or_next (entry_at (map entry_in ys) c) (pick (eqb (entry_in x).code.0 c.0) (Some (entry_in x)) None)
in_more ys x c =
    ap (λ (es : List Entry). entry_at es c) (map-append entry_in ys (x ∷ [])) ∙ at_more (map entry_in ys) (entry_in x) c

at_same : (es : List Entry) (a b : Code) → a.0 ≡ b.0 → entry_at es a ≡ entry_at es b
at_same es a b q = ap (λ (n : ℕ). entry_at es (record { 0 = n })) q

-- ---- whether it counts
both_hold : (w : Bool) (o : Option Entry) → true ≡ (w && is_none o) → (w ≡ true) × (o ≡ None)
both_hold true None q = (refl, refl)
both_hold true (Some e) q = absurd cc
both_hold false o q = absurd cc

not_wanted : (w : Bool) (o : Option Entry) → false ≡ (w && is_none o) → o ≡ None → w ≡ false
not_wanted true None q n = absurd cc
not_wanted true (Some e) q n = absurd cc
not_wanted false o q n = refl

pub none_listed : (of : Option AxisOrBtn) → Listed_in of [] []
unfolding entry_at
none_listed of c = refl

module _ (of : Option AxisOrBtn) (ys own : List ℕ) (x : ℕ) (all : Listed_in of ys own) where
  abbrev e : Entry
  e = entry_in x

  taken_at : (o : Option Entry) (s : Bool) → (s ≡ true → o ≡ None) → is_wanted of e.element ≡ true
      → or_next (if_wanted of o) (pick s (Some e) None) ≡ if_wanted of (or_next o (pick s (Some e) None))
  taken_at o false f w = or_none (if_wanted of o) ∙ sym (ap (if_wanted of) (or_none o))
  taken_at None true f w = rw w
  taken_at (Some y) true f w = let z = f refl in absurd cc

  passed_at : (o : Option Entry) (s : Bool) → (s ≡ true → o ≡ None → is_wanted of e.element ≡ false)
      → if_wanted of o ≡ if_wanted of (or_next o (pick s (Some e) None))
  passed_at (Some y) s f = refl
  passed_at None false f = refl
  passed_at None true f = rw (f refl refl)

  same_code : (c : Code) → eqb e.code.0 c.0 ≡ true
      → entry_at (map entry_in ys) e.code ≡ entry_at (map entry_in ys) c
  same_code c q = at_same (map entry_in ys) e.code c (eqb-true e.code.0 c.0 q)

  pub listed_taken : Counts of ys x true → Listed_in of (ys ++ x ∷ []) (own ++ x ∷ [])
  listed_taken t c =
      let b = both_hold (is_wanted of e.element) (entry_at (map entry_in ys) e.code) t in
      in_more own x c ∙ ap (λ (o : Option Entry). or_next o (pick (eqb e.code.0 c.0) (Some e) None)) (all c)
      ∙ taken_at (entry_at (map entry_in ys) c) (eqb e.code.0 c.0) (λ q. sym (same_code c q) ∙ b.1) b.0
      ∙ sym (ap (if_wanted of) (in_more ys x c))

  pub listed_passed : Counts of ys x false → Listed_in of (ys ++ x ∷ []) own
  listed_passed t c =
      all c
      ∙ passed_at (entry_at (map entry_in ys) c) (eqb e.code.0 c.0)
      (λ q n. not_wanted (is_wanted of e.element) (entry_at (map entry_in ys) e.code) t (same_code c q ∙ n))
      ∙ sym (ap (if_wanted of) (in_more ys x c))

-- ---- codes that have not been met
pub none_fresh : FreshFrom 0 []
unfolding entry_at
none_fresh c l = refl

code_in : (x : ℕ) → (entry_in x).code.0 ≡ x / code_unit
unfolding entry_in shaped_entry
code_in x = refl

pub fresh_counts : (of : Option AxisOrBtn) (ys : List ℕ) (n x : ℕ) (w : Bool) → FreshFrom n ys → n ≤ x / code_unit
    → w ≡ is_wanted of (entry_in x).element → Counts of ys x w
fresh_counts of ys n x w f l q = rw (f (entry_in x).code (rw (code_in x) l)) (by w q)
  where
    by : (w : Bool) → w ≡ is_wanted of (entry_in x).element → w ≡ (is_wanted of (entry_in x).element && true)
    by true q = rw (sym q)
    by false q = rw (sym q)

fresh_next : (ys : List ℕ) (n x : ℕ) → FreshFrom n ys → (m : ℕ) → n ≤ m → x / code_unit + 1 ≤ m
    → FreshFrom m (ys ++ x ∷ [])
fresh_next ys n x f m a b c l =
    in_more ys x c
    ∙ rw (f c (omega (arith, a, l)), code_in x, ne_eqb (x / code_unit) c.0 (λ q. omega (arith, b, l, q)))

-- those before j, and the one there
module _ (of : Option AxisOrBtn) (es room : List ℕ) (j n d : ℕ) (l : j < length es)
    (all : Listed_in of (take j es) (take n room)) where
  next : take (j + 1) es ≡ take j es ++ get_or es j d ∷ []
  next = rw add-one (take-suc es j d l)

  pub entry_listed : Counts of (take j es) (get_or es j d) true → n < length room
      → Listed_in of (take (j + 1) es) (take (n + 1) (set room n (get_or es j d)))
  entry_listed t f =
      rw (next, take_more_set room n (get_or es j d) f) (listed_taken of (take j es) (take n room) (get_or es j d) all t)

  pub entry_passed : Counts of (take j es) (get_or es j d) false → Listed_in of (take (j + 1) es) (take n room)
  entry_passed t = rw next (listed_passed of (take j es) (take n room) (get_or es j d) all t)

  pub fresh_on : (top m : ℕ) → FreshFrom top (take j es) → top ≤ m → get_or es j d / code_unit + 1 ≤ m
      → FreshFrom m (take (j + 1) es)
  fresh_on top m f a b = rw next (fresh_next (take j es) top (get_or es j d) f m a b)

-- ---- what they give to an element whose entries are wanted
module _ (of : Option AxisOrBtn) (xs own : List ℕ) (all : Listed_in of xs own) (el : AxisOrBtn)
    (wanted : (e : Entry) → same_element e.element el ≡ true → is_wanted of e.element ≡ true) where
  given_same : (o : Option Entry) (raw : Raw) → given_by (if_wanted of o) raw el ≡ given_by o raw el
  given_same None raw = refl
  given_same (Some e) raw = by (is_wanted of e.element) (same_element e.element el) refl refl
    where
      by : (w s : Bool) → is_wanted of e.element ≡ w → same_element e.element el ≡ s
          → given_by (pick w (Some e) None) raw el ≡ given_by (Some e) raw el
      by true s p q = refl
      by false true p q = let z : false ≡ true = sym p ∙ wanted e q in absurd cc
      by false false p q = rw q

  pub listed_choose : (hs : List Held) → choose hs (map entry_in own) el ≡ choose hs (map entry_in xs) el
  unfolding choose
  listed_choose [] = refl
  listed_choose (h ∷ hs) =
      ap (λ (o : Option Entry). prefer h.code.0 (given_by o h.raw el) (choose hs (map entry_in own) el)) (all h.code)
      ∙ ap (λ (v : Option ℤ). prefer h.code.0 v (choose hs (map entry_in own) el))
      (given_same (entry_at (map entry_in xs) h.code) h.raw)
      ∙ ap (λ (r : Chosen). prefer h.code.0 (gives (map entry_in xs) h el) r) (listed_choose hs)

-- those of one element, and those of each that has a place
pub own_wanted : (el : AxisOrBtn) (e : Entry) → same_element e.element el ≡ true
    → is_wanted (Some el) e.element ≡ true
own_wanted el e q = q

pub placed_wanted : (k : ℕ) → k < 27 → (e : Entry) → same_element e.element (element_at k) ≡ true
    → is_wanted None e.element ≡ true
placed_wanted k l e q =
    ap (λ (el : AxisOrBtn). ltb (place_of el) 27) (same_is e.element (element_at k) q)
    ∙ ap (λ (p : ℕ). ltb p 27) (place_element k l) ∙ lt-ltb k 27 l
