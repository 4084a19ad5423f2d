-- A pair's effect does not depend on its place, and a pair gives no name and no UUID. Assumes nothing.
use Rattle.std.specs.Prelude.{Option, Some, None, Result, Ok, Err}
use Prim.Native.Nat.{ℕ, ◌+◌, ◌-◌}
use mathlib.Core.Path.{◌≡◌, refl, sym, ap, ◌∙◌}
use mathlib.Core.List.{List}
use mathlib.Core.Bool.{Bool, true, false}
use lib.Dec.{eqb}
use lib.ListN.{length, take, drop, get_or}
use Rattle.line.specs.declared.ev.AxisOrBtn.{AxisOrBtn}
use Rattle.line.specs.declared.parser.Error.{Error}
use Rattle.line.specs.declared.parser.Token.{Token}
use Rattle.text.specs.Bytes.{byte, ascii, same, first_of}
use Rattle.text.specs.Decimal.{index_number}
use Rattle.line.specs.declared.parser.AxisRange.{AxisRange}
use Rattle.line.specs.declared.parser.AxisRange.TheVariants as Ar
use Rattle.line.specs.declared.parser.value.Value.{Value}
use Rattle.line.specs.declared.parser.value.Value.TheVariants as Vl
use Rattle.line.specs.declared.parser.Token.TheVariants as Tk
use Rattle.line.specs.Tables.{key_element}
use Rattle.line.specs.Fields.{count_of}
use Rattle.line.specs.Values.{starts_with, axis_numbered, axis_value_of, signed_of, button_value_of}
use Rattle.line.specs.Values.{hat_numbers, hat_of, value_of}
use Rattle.line.specs.Pairs.{refuse, half_of, skip_of, mapped_of, keyed_of, pair_of}
use Rattle.line.specs.Puts.{puts_of}
use Rattle.line.specs.Effects.{answer_effect}
use Rattle.line.proofs.PickLaws.{picked, picked₂}

-- ---- a value at two places
unfoldable unplaced : Result Value ℕ → Result Value ℕ
unplaced (Ok (Vl.Axis n half inverted)) = Ok (Vl.Axis n half inverted)
unplaced (Ok (Vl.Button n)) = Ok (Vl.Button n)
unplaced (Ok (Vl.Hat h d)) = Ok (Vl.Hat h d)
unplaced (Err p) = Err 0

abbrev SameValue : Result Value ℕ → Result Value ℕ → Type 0
SameValue v w = unplaced v ≡ unplaced w

module _ (p q : ℕ) where
  numbered-same : (half : AxisRange) (inverted : Bool) (n : Option ℕ) → SameValue (axis_numbered p half inverted n)
      (axis_numbered q half inverted n)
  unfolding unplaced
  numbered-same half inverted (Some n) = refl
  numbered-same half inverted None = refl

  button_same : (n : Option ℕ) → SameValue (button_value_of p n) (button_value_of q n)
  unfolding unplaced
  button_same (Some n) = refl
  button_same None = refl

  hat_numbers-same : (dot : ℕ) (h d : Option ℕ) → SameValue (hat_numbers p dot h d) (hat_numbers q dot h d)
  unfolding unplaced
  hat_numbers-same dot None d = refl
  hat_numbers-same dot (Some h) None = refl
  hat_numbers-same dot (Some h) (Some d) = refl

  bad_same : SameValue (Err p) (Err q)
  unfolding unplaced
  bad_same = refl

  axis_same : (half : AxisRange) (s : List ℕ) → SameValue (axis_value_of p half s) (axis_value_of q half s)
  unfolding axis_value_of
  axis_same half s = picked₂ SameValue (eqb (get_or s (length s - 1) 0) (byte "~"))
      (numbered-same half true (index_number (take (length s - 1) s))) (numbered-same half false (index_number s))

  signed_same : (half : AxisRange) (s : List ℕ) → SameValue (signed_of p half s) (signed_of q half s)
  unfolding signed_of
  signed_same half s = picked₂ SameValue (starts_with (byte "a") s) (axis_same half (drop 1 s)) bad_same

  hat_same : (s : List ℕ) → SameValue (hat_of p s) (hat_of q s)
  unfolding hat_of
  hat_same s =
      picked₂ SameValue (eqb (first_of (byte ".") s) (length s)) bad_same
      (hat_numbers-same (first_of (byte ".") s + 1) (index_number (take (first_of (byte ".") s) s))
      (index_number (drop (first_of (byte ".") s + 1) s)))

  value_same : (v : List ℕ) → SameValue (value_of p v) (value_of q v)
  unfolding value_of
  value_same v =
      picked₂ SameValue (starts_with (byte "a") v) (axis_same Ar.Full (drop 1 v))
      (picked₂ SameValue (starts_with (byte "+") v) (signed_same Ar.UpperHalf (drop 1 v))
      (picked₂ SameValue (starts_with (byte "-") v) (signed_same Ar.LowerHalf (drop 1 v))
      (picked₂ SameValue (starts_with (byte "b") v) (button_same (index_number (drop 1 v)))
      (picked₂ SameValue (starts_with (byte "h") v) (hat_same (drop 1 v)) bad_same))))

-- ---- a pair at two places
module _ (buttons axes : List ℕ) where
  abbrev SameEffect : Result Token Error → Result Token Error → Type 0
  SameEffect a b = answer_effect a buttons axes ≡ answer_effect b buttons axes

  mapped_free : (v : Result Value ℕ) (out : AxisRange) (to : Option AxisOrBtn) (p : ℕ) → SameEffect (mapped_of v out to p)
      (mapped_of (unplaced v) out to 0)
  unfolding unplaced answer_effect
  mapped_free (Err place) out to p = refl
  mapped_free (Ok (Vl.Axis n half inverted)) out (Some e) p = refl
  mapped_free (Ok (Vl.Axis n half inverted)) out None p = refl
  mapped_free (Ok (Vl.Button n)) out (Some e) p = refl
  mapped_free (Ok (Vl.Button n)) out None p = refl
  mapped_free (Ok (Vl.Hat h d)) out (Some e) p = refl
  mapped_free (Ok (Vl.Hat h d)) out None p = refl

  mapped_same : (v w : Result Value ℕ) (out : AxisRange) (to : Option AxisOrBtn) (p q : ℕ) → SameValue v w
      → SameEffect (mapped_of v out to p) (mapped_of w out to q)
  mapped_same v w out to p q e =
      mapped_free v out to p ∙ ap (λ (x : Result Value ℕ). answer_effect (mapped_of x out to 0) buttons axes) e
      ∙ sym (mapped_free w out to q)

  refused_same : (n p q : ℕ) → SameEffect (refuse n p) (refuse n q)
  unfolding answer_effect
  refused_same n p q = refl

  platform-same : (at to n : ℕ) → SameEffect (Ok (Tk.Platform at n)) (Ok (Tk.Platform to n))
  unfolding answer_effect puts_of
  platform-same at to n = refl

  keyed_same : (k v : List ℕ) (p at q to : ℕ) → SameEffect (keyed_of k v p at) (keyed_of k v q to)
  unfolding keyed_of
  keyed_same k v p at q to =
      picked₂ SameEffect (eqb (length v) 0) (refused_same 8 p q)
      (picked₂ SameEffect (same k (ascii "platform")) (platform-same at to (length v))
      (mapped_same (value_of p v) (value_of q v) (half_of k) (key_element (drop (skip_of (half_of k)) k)) p q
      (value_same p q v)))

  -- a pair's effect does not depend on its place
  pub pair_anywhere : (f : List ℕ) (p q : ℕ) → SameEffect (pair_of f p) (pair_of f q)
  unfolding pair_of
  pair_anywhere f p q = picked₂ SameEffect (eqb (count_of (byte ":") f) 1)
      (keyed_same (take (first_of (byte ":") f) f) (drop (first_of (byte ":") f + 1) f) p
      (p + (first_of (byte ":") f + 1)) q (q + (first_of (byte ":") f + 1))) (refused_same 3 p q)

-- ---- a pair gives no name and no UUID
unfoldable pub PairAnswer : Result Token Error → Type 0
PairAnswer (Ok (Tk.Uuid u)) = ⊥
PairAnswer (Ok (Tk.Name start len)) = ⊥
PairAnswer (Ok (Tk.Platform start len)) = Unit {0}
PairAnswer (Ok (Tk.AxisMapping n to r)) = Unit {0}
PairAnswer (Ok (Tk.ButtonMapping n to r)) = Unit {0}
PairAnswer (Ok (Tk.HatMapping h d to r)) = Unit {0}
PairAnswer (Err e) = Unit {0}

mapped_pair : (v : Result Value ℕ) (out : AxisRange) (to : Option AxisOrBtn) (p : ℕ) → PairAnswer (mapped_of v out to p)
unfolding PairAnswer
mapped_pair (Err place) out to p = tt
mapped_pair (Ok (Vl.Axis n half inverted)) out (Some e) p = tt
mapped_pair (Ok (Vl.Axis n half inverted)) out None p = tt
mapped_pair (Ok (Vl.Button n)) out (Some e) p = tt
mapped_pair (Ok (Vl.Button n)) out None p = tt
mapped_pair (Ok (Vl.Hat h d)) out (Some e) p = tt
mapped_pair (Ok (Vl.Hat h d)) out None p = tt

refused_pair : (n p : ℕ) → PairAnswer (refuse n p)
unfolding PairAnswer
refused_pair n p = tt

platform_pair : (at n : ℕ) → PairAnswer (Ok (Tk.Platform at n))
unfolding PairAnswer
platform_pair at n = tt

keyed_pair : (k v : List ℕ) (p at : ℕ) → PairAnswer (keyed_of k v p at)
unfolding keyed_of
keyed_pair k v p at =
    picked PairAnswer (eqb (length v) 0) (refused_pair 8 p)
    (picked PairAnswer (same k (ascii "platform")) (platform_pair at (length v))
    (mapped_pair (value_of p v) (half_of k) (key_element (drop (skip_of (half_of k)) k)) p))

pub pair_answer : (f : List ℕ) (p : ℕ) → PairAnswer (pair_of f p)
unfolding pair_of
pair_answer f p =
    picked PairAnswer (eqb (count_of (byte ":") f) 1) (keyed_pair (take (first_of (byte ":") f) f)
    (drop (first_of (byte ":") f + 1) f) p (p + (first_of (byte ":") f + 1))) (refused_pair 3 p)
