-- Laws of the filled slots: how they are gathered, slot after slot, and how many there are.
-- Assumes nothing.
use Rattle.text.proofs.ListLaws.{place_turn}
use Rattle.std.proofs.Common.{ap, ℕ, zero, suc, ◌+◌, ◌-◌, ◌<◌, ◌≤◌, ◌≡◌, Bool, true, false, cond, Option, Some, None, List, [], ◌∷◌, ◌++◌, length, get_or, eqb, ltb, refl, sym, ◌∙◌, append_assoc, append-nil, length-append, add-one, arith, lt-ltb, position, is_some}
use Rattle.std.specs.Prelude.{Result, Err, ok_or, IsErrAnd}
use Rattle.std.specs.List.{position_or_len}
use Rattle.std.proofs.lemmas.Result.{err_from_is_err_and}
use Rattle.std.proofs.lemmas.List.Recursion.{is_position_or_len}
use Rattle.text.specs.Bytes.{first_of}
use Rattle.line.specs.declared.ev.Code.{Code}
use Rattle.line.specs.declared.ev.AxisOrBtn.{AxisOrBtn}
use Rattle.line.specs.declared.mapping.Entry.{Entry}
use Rattle.line.specs.Maps.{entry_of}
use Rattle.line.specs.Tables.{as_button, as_axis}
use Rattle.map.specs.declared.from_data.filled.Placed.{Placed}
use Rattle.map.specs.declared.from_data.gather.Kind.{Kind}
use Rattle.map.specs.declared.from_data.gather.Kind.TheVariants as Kd
use Rattle.map.specs.declared.mapping_data.MappingData.{MappingData}
use Rattle.map.specs.Slots.{button_slots, axis_slots, empty_slot, button_of, axis_of}
use Rattle.map.specs.Build.{also, filled_from, filled_buttons, filled_axes, missing_of}
use Rattle.map.specs.Lists.{place_of, in_list}
use Rattle.map.specs.Inner.{placed_at, placed_in, element_of, filled_after}

-- ---- a code's first place
pub place_is : (c : ℕ) (xs : List ℕ) → first_of c xs ≡ position_or_len (λ x. eqb x c) xs
unfolding first_of
place_is c xs = is_position_or_len (first_of c) (λ x. eqb x c) refl (λ x s. place_turn (eqb x c) (first_of c s)) xs

module _ (c : Code) (codes : List ℕ) where
  -- it is found, or it is not in the list
  pub found : (k : ℕ) → position (λ x. eqb x c.0) codes ≡ Some k → (place_of c codes ≡ k) × (in_list c codes ≡ true)
  found k h = by (ltb (place_of c codes) (length codes)) refl
    where
      e : cond (ltb (place_of c codes) (length codes)) (Some (place_of c codes)) None ≡ Some k
      e = rw (place_is c.0 codes) h

      by : (t : Bool) → in_list c codes ≡ t → (place_of c codes ≡ k) × (in_list c codes ≡ true)
      by true p = let q : Some (place_of c codes) ≡ Some k = rw p at e in (cc, p)
      by false p = let q : None ≡ Some k = rw p at e in absurd cc

  pub not_found : position (λ x. eqb x c.0) codes ≡ None → in_list c codes ≡ false
  not_found h = by (ltb (place_of c codes) (length codes)) refl
    where
      e : cond (ltb (place_of c codes) (length codes)) (Some (place_of c codes)) None ≡ None
      e = rw (place_is c.0 codes) h

      by : (t : Bool) → in_list c codes ≡ t → in_list c codes ≡ false
      by true p = let q : Some (place_of c codes) ≡ None = rw p at e in absurd cc
      by false p = p

  pub some_place : (o : Option ℕ) → o ≡ position (λ x. eqb x c.0) codes → is_some o ≡ in_list c codes
  some_place None h = sym (not_found (sym h))
  some_place (Some k) h = sym (found k (sym h)).1

-- what `?` hands on where none is told as the error x
pub none_refused : {A B E : Type 0} (o : Option B) (x y : E) → Err y ≡ ok_or o x → (r : Result A E)
    → IsErrAnd r (λ e. e ≡ y) → (r ≡ Err x) × (o ≡ None)
none_refused None x y e r f =
    let p = err_from_is_err_and r f in
    let q : y ≡ x = cc in
    (p.1 ∙ ap (λ z. Err z) (p.2 ∙ q), refl)
none_refused (Some s) x y e r f = absurd cc

-- ---- slots of one kind, of which those before i are gathered
module _ (codes : List ℕ) (kind : Kind) (slots : List (Option Code)) where
  pub record Gathering (i : ℕ) (f : List Placed) : Type 0 where
    pub few : length f ≤ i
    pub are : f ++ placed_in codes (filled_after kind slots i) ≡ placed_in codes (filled_after kind slots 0)
    pub listed : missing_of (filled_after kind slots i) codes ≡ missing_of (filled_after kind slots 0) codes

  module _ (i : ℕ) (h : i < length slots) where
    after_next : filled_after kind slots i
        ≡ also (get_or slots i empty_slot) (element_of kind i) (filled_after kind slots (i + 1))
    unfolding filled_from
    after_next =
        let e : length slots - i ≡ suc (length slots - (i + 1)) = omega arith in
        rw (e, add-one)

    module _ (f : List Placed) (p : Gathering i f) where
      pub gather_empty : get_or slots i empty_slot ≡ None → Gathering (i + 1) f
      gather_empty q =
          let n : filled_after kind slots i ≡ filled_after kind slots (i + 1) = after_next ∙ rw q in
          record { few = omega (arith, p.few); are = rw n at p.are; listed = rw n at p.listed }

      module _ (c : Code) (q : get_or slots i empty_slot ≡ Some c) where
        one_more : filled_after kind slots i ≡ entry_of c (element_of kind i) ∷ filled_after kind slots (i + 1)
        one_more = after_next ∙ rw q

        pub gather_filled : (k : ℕ) → position (λ x. eqb x c.0) codes ≡ Some k → (x : Entry)
            → x ≡ entry_of c (element_of kind i) → Gathering (i + 1) (f ++ record { entry = x; place = k } ∷ [])
        unfolding missing_of
        gather_filled k s x y =
            let at = found c codes k s in
            record {
              few = simp length-append (omega (arith, p.few));
              are = rw (y, sym at.0) (append_assoc f (placed_at codes (entry_of c (element_of kind i)) ∷ [])
                  (placed_in codes (filled_after kind slots (i + 1))) ∙ (rw one_more at p.are));
              listed = rw at.1 at (rw one_more at p.listed);
            }

        pub gather_missing : position (λ x. eqb x c.0) codes ≡ None → missing_of (filled_after kind slots 0) codes ≡ Some c
        unfolding missing_of
        gather_missing s = sym p.listed ∙ rw (one_more, not_found c codes s)

  pub gather_end : (i : ℕ) (f : List Placed) → length slots ≤ i → Gathering i f
      → (missing_of (filled_after kind slots 0) codes ≡ None)
      × (f ≡ placed_in codes (filled_after kind slots 0))
  unfolding filled_from missing_of
  gather_end i f h p =
      let e : length slots - i ≡ 0 = omega arith in
      (sym p.listed ∙ rw e, sym (append-nil f) ∙ (rw e at p.are))

-- ---- the slots of a mapping are those
same_filled : (f g : ℕ → Option Code) (to : ℕ → AxisOrBtn) (m n k : ℕ) → k + n ≤ m → ((i : ℕ) → i < m → f i ≡ g i)
    → filled_from f to n k ≡ filled_from g to n k
unfolding filled_from
same_filled f g to m zero k h e = refl
same_filled f g to m (suc n) k h e =
    rw (e k (omega arith), same_filled f g to m n (suc k) (omega arith) e)

after_is : (kind : Kind) (slots : List (Option Code)) (f : ℕ → Option Code) (n : ℕ) → length slots ≡ n
    → ((i : ℕ) → i < n → get_or slots i empty_slot ≡ f i)
    → filled_after kind slots 0 ≡ filled_from f (element_of kind) n 0
after_is kind slots f n e h =
    let z : n - 0 ≡ n = omega arith in
    rw (e, z) (same_filled (λ k. get_or slots k empty_slot) f (element_of kind) n n 0 (omega arith) h)

pub buttons_after : (d : MappingData) → length d.buttons ≡ button_slots
    → filled_after Kd.Button d.buttons 0 ≡ filled_buttons d
unfolding button_of
buttons_after d n =
    after_is Kd.Button d.buttons (λ k. button_of d (record { 0 = k })) button_slots n
    (λ i h. rw (lt-ltb i button_slots h))

pub axes_after : (d : MappingData) → length d.axes ≡ axis_slots → filled_after Kd.Axis d.axes 0 ≡ filled_axes d
unfolding axis_of
axes_after d n =
    after_is Kd.Axis d.axes (λ k. axis_of d (record { 0 = k })) axis_slots n (λ i h. rw (lt-ltb i axis_slots h))

-- ---- there are no more than slots
also_few : (s : Option Code) (to : AxisOrBtn) (rest : List Entry) → length (also s to rest) ≤ suc (length rest)
also_few (Some c) to rest = omega arith
also_few None to rest = omega arith

filled_few : (code : ℕ → Option Code) (to : ℕ → AxisOrBtn) (n k : ℕ) → length (filled_from code to n k) ≤ n
unfolding filled_from
filled_few code to zero k = omega arith
filled_few code to (suc n) k =
    omega (arith, also_few (code k) (to k) (filled_from code to n (suc k)), filled_few code to n (suc k))

pub buttons_few : (d : MappingData) → length (filled_buttons d) ≤ button_slots
buttons_few d = filled_few (λ k. button_of d (record { 0 = k })) as_button button_slots 0

pub axes_few : (d : MappingData) → length (filled_axes d) ≤ axis_slots
axes_few d = filled_few (λ k. axis_of d (record { 0 = k })) as_axis axis_slots 0
