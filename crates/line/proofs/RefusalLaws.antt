-- The places of every step's refusals and texts, and the order of a reading's: "1 and 2 at 0; 3, 5, 6, 8 .. at p; 4 as
-- the walker's paragraph says; .. 9 at 0; 10 at the length of the longest valid run". Assumes nothing.
use Rattle.std.specs.Prelude.{Option, Some, None, Result, Err, Ok}
use Prim.Native.Nat.{ℕ, suc, ◌+◌, ◌-◌, ◌<◌, ◌≤◌}
use mathlib.Core.Path.{◌≡◌, refl}
use mathlib.Core.Logic.{⊎_elim}
use mathlib.Core.List.{List, [], ◌∷◌}
use mathlib.Core.Bool.{Bool, true, false}
use native.Mathlib.Omega.{arith}
use borrow.Author.Tests.{eqb-true, eqb-false, ltb-true}
use lib.Dec.{eqb, ltb}
use lib.ListN.{length, take, drop, get_or, length-drop}
use Rattle.line.specs.declared.ev.AxisOrBtn.{AxisOrBtn}
use Rattle.text.specs.declared.uuid.Spelled.{Spelled}
use Rattle.line.specs.declared.parser.Error.{Error}
use Rattle.line.specs.declared.parser.Token.{Token}
use Rattle.text.specs.Bytes.{pick, byte, ascii, same, first_of}
use Rattle.text.specs.Decimal.{index_number}
use Rattle.text.specs.Utf8.{valid_run, is_utf8}
use Rattle.text.proofs.AsciiLaws.{valid_le}
use Rattle.text.proofs.BytesLaws.{first_le}
use Rattle.text.proofs.ListLaws.{off, lt_or_le}
use Rattle.line.specs.declared.parser.AxisRange.{AxisRange}
use Rattle.line.specs.declared.parser.AxisRange.TheVariants as Ar
use Rattle.line.specs.declared.parser.value.Value.{Value}
use Rattle.line.specs.declared.parser.value.Value.TheVariants as Vl
use Rattle.line.specs.declared.parser.State.{State}
use Rattle.line.specs.declared.parser.State.TheVariants as St
use Rattle.line.specs.declared.parser.Stepped.{Stepped}
use Rattle.line.specs.Tables.{key_element}
use Rattle.line.specs.Fields.{count_of, find_from}
use Rattle.line.specs.Values.{starts_with, axis_numbered, axis_value_of, signed_of, button_value_of}
use Rattle.line.specs.Values.{hat_numbers, hat_of, value_of}
use Rattle.line.specs.Pairs.{refuse, half_of, skip_of, mapped_of, keyed_of, pair_of}
use Rattle.line.specs.Walker.{guid_of, stepped, uuid_step, field_step_of, step_of}
use Rattle.line.specs.Reading.{lists_fit, read_line, read_view, returned, reading_of}
use Rattle.line.specs.Refusals.{refusal, refusal_at, reading_outcome}
use Rattle.line.specs.Regrouping.{In, here, there}
use Rattle.line.specs.Places.{field_at, value_part, four_places, PlaceOf, AnswerIn, Stands}
use Rattle.line.proofs.CountLaws.{find_le, first_below}
use Rattle.line.proofs.FieldLaws.{field-length}
use Rattle.line.proofs.PickLaws.{picked}

pub below : (a b : ℕ) → a ≤ b → (a ≡ b → ⊥) → a < b
below a b l n = ⊎_elim (λ k. k) (λ k. absurd (n (omega (arith, l, k)))) (lt_or_le a b)

-- a line that isn't UTF-8 has bytes after its longest valid run
pub run_below : (s : List ℕ) → is_utf8 s ≡ false → valid_run s < length s
unfolding is_utf8
run_below s e = below (valid_run s) (length s) (valid_le s) (eqb-false (valid_run s) (length s) e)

-- ---- a value of a pair at p is refused at one of three places, none of them past the value
abbrev BadAt : ℕ → List ℕ → Result Value ℕ → Type 0
BadAt p v (Ok (Vl.Axis n half inverted)) = Unit {0}
BadAt p v (Ok (Vl.Button n)) = Unit {0}
BadAt p v (Ok (Vl.Hat h d)) = Unit {0}
BadAt p v (Err q) = In q (four_places p v) × (q ≤ p + length v)

module _ (p : ℕ) (v : List ℕ) where
  bad_placed : BadAt p v (Err p)
  bad_placed = (here, omega arith)

  numbered_placed : (half : AxisRange) (inverted : Bool) (n : Option ℕ)
      → BadAt p v (axis_numbered p half inverted n)
  numbered_placed half inverted (Some n) = tt
  numbered_placed half inverted None = bad_placed

  button_placed : (n : Option ℕ) → BadAt p v (button_value_of p n)
  button_placed (Some n) = tt
  button_placed None = bad_placed

  axis_placed : (half : AxisRange) (s : List ℕ) → BadAt p v (axis_value_of p half s)
  unfolding axis_value_of
  axis_placed half s =
      picked (BadAt p v) (eqb (get_or s (length s - 1) 0) (byte "~"))
      (numbered_placed half true (index_number (take (length s - 1) s))) (numbered_placed half false (index_number s))

  signed_placed : (half : AxisRange) (s : List ℕ) → BadAt p v (signed_of p half s)
  unfolding signed_of
  signed_placed half s = picked (BadAt p v) (starts_with (byte "a") s) (axis_placed half (drop 1 s)) bad_placed

-- the dot of a value that begins with `h`
first_next : (x : ℕ) (t : List ℕ) → eqb x (byte "h") ≡ true → first_of (byte ".") (x ∷ t) ≡ first_of (byte ".") t + 1
unfolding first_of
first_next x t e =
    let h : eqb x (byte ".") ≡ false = rw (eqb-true x (byte "h") e) in
    let n : suc (first_of (byte ".") t) ≡ first_of (byte ".") t + 1 = omega arith in
    rw (h, n)

module _ (p x : ℕ) (t : List ℕ) (e : eqb x (byte "h") ≡ true) where
  third : (dot : ℕ) → dot ≡ first_of (byte ".") t → In (p + (dot + 1) + 1) (four_places p (x ∷ t))
  third dot is =
      let q : p + (dot + 1) + 1 ≡ p + first_of (byte ".") (x ∷ t) + 1 = omega (arith, first_next x t e, is) in
      rw q (there (there here))

  hat_numbers_placed : (dot : ℕ) (h d : Option ℕ) → dot ≡ first_of (byte ".") t → dot < length t
      → BadAt p (x ∷ t) (hat_numbers p (dot + 1) h d)
  hat_numbers_placed dot None d is l = (there here, omega arith)
  hat_numbers_placed dot (Some h) None is l = (third dot is, omega (arith, l))
  hat_numbers_placed dot (Some h) (Some d) is l = tt

  hat_placed : BadAt p (x ∷ t) (hat_of p t)
  unfolding hat_of
  hat_placed = by (eqb (first_of (byte ".") t) (length t)) refl
    where
      by : (b : Bool) → eqb (first_of (byte ".") t) (length t) ≡ b
          → BadAt p (x ∷ t) (pick b (Err p) (hat_numbers p (first_of (byte ".") t + 1)
          (index_number (take (first_of (byte ".") t) t)) (index_number (drop (first_of (byte ".") t + 1) t))))
      by true q = bad_placed p (x ∷ t)
      by false q =
          let l = first_le (byte ".") t in
          let n = eqb-false (first_of (byte ".") t) (length t) q in
          hat_numbers_placed (first_of (byte ".") t) (index_number (take (first_of (byte ".") t) t))
          (index_number (drop (first_of (byte ".") t + 1) t)) refl (below (first_of (byte ".") t) (length t) l n)

hat_value_placed : (p : ℕ) (v : List ℕ) → starts_with (byte "h") v ≡ true → BadAt p v (hat_of p (drop 1 v))
hat_value_placed p [] e = absurd (off e)
hat_value_placed p (x ∷ t) e = hat_placed p x t e

module _ (p : ℕ) (v : List ℕ) where
  last_placed : (b : Bool) → starts_with (byte "h") v ≡ b → BadAt p v (pick b (hat_of p (drop 1 v)) (Err p))
  last_placed true e = hat_value_placed p v e
  last_placed false e = bad_placed p v

  value_placed : BadAt p v (value_of p v)
  unfolding value_of
  value_placed =
      picked (BadAt p v) (starts_with (byte "a") v) (axis_placed p v Ar.Full (drop 1 v))
      (picked (BadAt p v) (starts_with (byte "+") v) (signed_placed p v Ar.UpperHalf (drop 1 v))
      (picked (BadAt p v) (starts_with (byte "-") v) (signed_placed p v Ar.LowerHalf (drop 1 v))
      (picked (BadAt p v) (starts_with (byte "b") v) (button_placed p v (index_number (drop 1 v)))
      (last_placed (starts_with (byte "h") v) refl))))

-- ---- a pair f that starts at p of the line s
module _ (s f : List ℕ) (p : ℕ) (starts : p < length s) (ends : p + length f ≤ length s) where
  abbrev InLine : Result Token Error → Type 0
  InLine a = AnswerIn s f p (Some a)

  mapped_placed : (v : Result Value ℕ) (out : AxisRange) (to : Option AxisOrBtn) → first_of (byte ":") f < length f
      → BadAt p (value_part f) v → InLine (mapped_of v out to p)
  unfolding PlaceOf
  mapped_placed (Err q) out to c h =
      (h.0, omega (arith, starts, ends, c, h.1, length-drop (first_of (byte ":") f + 1) f))
  mapped_placed (Ok (Vl.Axis n half inverted)) out (Some e) c h = tt
  mapped_placed (Ok (Vl.Axis n half inverted)) out None c h = (refl, starts)
  mapped_placed (Ok (Vl.Button n)) out (Some e) c h = tt
  mapped_placed (Ok (Vl.Button n)) out None c h = (refl, starts)
  mapped_placed (Ok (Vl.Hat k d)) out (Some e) c h = tt
  mapped_placed (Ok (Vl.Hat k d)) out None c h = (refl, starts)

  empty_placed : InLine (refuse 8 p)
  unfolding PlaceOf
  empty_placed = (refl, starts)

  colons_placed : InLine (refuse 3 p)
  unfolding PlaceOf
  colons_placed = (refl, starts)

  keyed_placed : (k : List ℕ) → first_of (byte ":") f < length f
      → InLine (keyed_of k (value_part f) p (p + (first_of (byte ":") f + 1)))
  unfolding keyed_of
  keyed_placed k c =
      let text : p + (first_of (byte ":") f + 1) + length (value_part f) ≤ length s =
      omega (arith, ends, c, length-drop (first_of (byte ":") f + 1) f) in
      picked InLine (eqb (length (value_part f)) 0) empty_placed
      (picked InLine (same k (ascii "platform")) text
      (mapped_placed (value_of p (value_part f)) (half_of k) (key_element (drop (skip_of (half_of k)) k)) c
      (value_placed p (value_part f))))

  pub pair_placed : InLine (pair_of f p)
  unfolding pair_of
  pair_placed = by (eqb (count_of (byte ":") f) 1) refl
    where
      by : (t : Bool) → eqb (count_of (byte ":") f) 1 ≡ t
          → InLine (pick t (keyed_of (take (first_of (byte ":") f) f) (value_part f) p (p + (first_of (byte ":") f + 1)))
          (refuse 3 p))
      by true e =
          let one = eqb-true (count_of (byte ":") f) 1 e in
          keyed_placed (take (first_of (byte ":") f) f) (first_below (byte ":") f (omega (arith, one)))
      by false e = colons_placed

-- ---- a step
module _ (s : List ℕ) (p : ℕ) (h : p < length s) where
  abbrev end : ℕ
  end = find_from (byte ",") s p

  abbrev StepPlaced : Stepped → Type 0
  StepPlaced x = AnswerIn s (field_at s p) p x.answer

  pub field_ends : p + length (field_at s p) ≤ length s
  field_ends = omega (arith, h, field-length s p h, find_le (byte ",") s p (omega (arith, h)))

  uuid_placed : (g : Option Spelled) (e n : ℕ) → StepPlaced (uuid_step g p e n)
  unfolding PlaceOf
  uuid_placed None e n = (refl, omega (arith, h))
  uuid_placed (Some u) e n = picked StepPlaced (eqb e n) (refl, omega (arith, h)) tt

  field_placed : (st : State) → Stands s st → StepPlaced (field_step_of s p end st)
  unfolding field_step_of PlaceOf
  field_placed St.Uuid k = uuid_placed (guid_of (field_at s p)) end (length s)
  field_placed St.Name k = omega (arith, h, find_le (byte ",") s p (omega (arith, h)))
  field_placed St.KeyVal k = pair_placed s (field_at s p) p h field_ends
  field_placed St.Invalid k = (refl, omega (arith, h))
  field_placed St.NotUtf8 k = (refl, run_below s k)

-- every step, from every position, in every state that a walker comes to
pub step_placed : (s : List ℕ) (p : ℕ) (st : State) → Stands s st → AnswerIn s (field_at s p) p (step_of s p st).answer
unfolding step_of
step_placed s p st k = by (ltb p (length s)) refl
  where
    by : (t : Bool) → ltb p (length s) ≡ t
        → AnswerIn s (field_at s p) p (pick t (field_step_of s p (find_from (byte ",") s p) st) (stepped None p st)).answer
    by true e = field_placed s p (ltb-true p (length s) e) st k
    by false e = tt

-- ---- "Order: reading 10, 12, then line order."
pub reading_order : (s buttons axes : List ℕ) → reading_outcome (reading_of s buttons axes).answer
    ≡ pick (is_utf8 s)
    (pick (lists_fit buttons axes) (reading_outcome (returned (read_line s buttons axes)).answer) (Err (refusal 12)))
    (Err (refusal_at 10 (valid_run s)))
unfolding reading_of read_view
reading_order s buttons axes = by (is_utf8 s) (lists_fit buttons axes)
  where
    by : (t u : Bool)
        → reading_outcome (returned (pick t (pick u (read_line s buttons axes) (Err (refusal 12)))
        (Err (refusal_at 10 (valid_run s))))).answer
        ≡ pick t (pick u (reading_outcome (returned (read_line s buttons axes)).answer) (Err (refusal 12)))
        (Err (refusal_at 10 (valid_run s)))
    by true true = refl
    by true false = refl
    by false u = refl
