-- The idents of the 25 elements that a built line can name, and what a pair of an ident and an index puts.
-- Assumes nothing.
use Rattle.std.specs.Prelude.{Option, Some, None, Ok}
use Prim.Native.Nat.{ℕ, zero, suc, ◌+◌, ◌-◌, ◌≤◌, ◌<◌}
use mathlib.Core.Path.{◌≡◌, refl, ap}
use mathlib.Core.List.{List, [], ◌∷◌, ◌++◌}
use mathlib.Core.Bool.{Bool, true, false}
use native.Mathlib.Nat.{add-zero}
use native.Mathlib.Omega.{arith}
use borrow.Author.Tests.{ne_eqb, lt-ltb, leb-true}
use lib.Dec.{T, eqb, leb, eqb→eq}
use lib.ListN.{length, get_or}
use Rattle.text.specs.Bytes.{both, byte, ascii, same}
use Rattle.text.specs.Decimal.{number_max, decimal, is_digit}
use Rattle.text.specs.Inner.{every}
use Rattle.text.proofs.ListLaws.{both_parts}
use Rattle.text.proofs.DecimalLaws.{read_back, decimal_all}
use Rattle.line.specs.declared.ev.AxisOrBtn.{AxisOrBtn}
use Rattle.line.specs.declared.ev.AxisOrBtn.TheVariants as El
use Rattle.line.specs.declared.parser.AxisRange.{AxisRange}
use Rattle.line.specs.declared.parser.AxisRange.TheVariants as Ar
use Rattle.line.specs.declared.parser.Token.TheVariants as Tk
use Rattle.line.specs.Elements.{code_of, same_element}
use Rattle.line.specs.Maps.{entry_of}
use Rattle.line.specs.Tables.{axes_sdl, axes_table, row_from, key_row, key_element, element_from, element_row, ident_text}
use Rattle.line.specs.Tables.{as_button, as_axis}
use Rattle.line.specs.Fields.{count_of}
use Rattle.line.specs.Values.{axis_value_of, value_of}
use Rattle.line.specs.Pairs.{half_of, ranges_of, keyed_of, pair_of}
use Rattle.line.specs.Puts.{listed, puts_of}
use Rattle.line.specs.Effects.{does, answer_effect, effect_of}
use Rattle.line.proofs.TableLaws.{both-T}
use Rattle.line.proofs.CountLaws.{count_none}
use Rattle.line.proofs.JoinLaws.{Free, count_one, take-before, drop-after}

-- ---- a key that names an element, and nothing else
pub record Named (key : List ℕ) (e : AxisOrBtn) : Type 0 where
  pub colons : Free (byte ":") key
  pub sign : half_of key ≡ Ar.Full
  pub other : same key (ascii "platform") ≡ false
  pub element : key_element key ≡ Some e

-- ---- the one test: the idents of buttons 1 to 19 and axes 1 to 6
abbrev is_full : AxisRange → Bool
is_full Ar.Full = true
is_full Ar.UpperHalf = false
is_full Ar.LowerHalf = false

abbrev is_element : AxisOrBtn → Option AxisOrBtn → Bool
is_element e (Some x) = same_element x e
is_element e None = false

abbrev is_not : Bool → Bool
is_not true = false
is_not false = true

module _ (key : List ℕ) (e : AxisOrBtn) where
  abbrev no_colon : Bool
  no_colon = eqb (count_of (byte ":") key) 0

  abbrev no_sign : Bool
  no_sign = is_full (half_of key)

  abbrev not_platform : Bool
  not_platform = is_not (same key (ascii "platform"))

  abbrev itself : Bool
  itself = is_element e (key_element key)

  names : Bool
  names = both no_colon (both no_sign (both not_platform itself))

all_named_of : (ℕ → AxisOrBtn) → ℕ → ℕ → Bool
all_named_of f k zero = true
all_named_of f k (suc n) = both (names (ident_text (f k)) (f k)) (all_named_of f (suc k) n)

buttons_named : T (all_named_of as_button 1 19)
unfolding all_named_of names count_of half_of same key_row row_from axes_sdl axes_table element_row element_from
buttons_named = tt

axes_named : T (all_named_of as_axis 1 6)
unfolding all_named_of names count_of half_of same key_row row_from axes_sdl axes_table element_row element_from
axes_named = tt

-- ---- what the test says of each
full_is : (h : AxisRange) → T (is_full h) → h ≡ Ar.Full
full_is Ar.Full t = refl
full_is Ar.UpperHalf t = absurd t
full_is Ar.LowerHalf t = absurd t

not_is : (b : Bool) → T (is_not b) → b ≡ false
not_is true t = absurd t
not_is false t = refl

same_is : (x e : AxisOrBtn) → T (same_element x e) → x ≡ e
same_is (El.Axis a) (El.Axis b) t = ap (λ (n : ℕ). El.Axis (record { 0 = n })) (eqb→eq a.0 b.0 t)
same_is (El.Axis a) (El.Btn b) t = absurd t
same_is (El.Btn a) (El.Axis b) t = absurd t
same_is (El.Btn a) (El.Btn b) t = ap (λ (n : ℕ). El.Btn (record { 0 = n })) (eqb→eq a.0 b.0 t)

element_is : (k : Option AxisOrBtn) (e : AxisOrBtn) → T (is_element e k) → k ≡ Some e
element_is (Some x) e t = ap (λ (y : AxisOrBtn). Some y) (same_is x e t)
element_is None e t = absurd t

module _ (key : List ℕ) (e : AxisOrBtn) where
  named_by : T (names key e) → Named key e
  unfolding names
  named_by t =
      let a = both-T (no_colon key e) (both (no_sign key e) (both (not_platform key e) (itself key e))) t in
      let b = both-T (no_sign key e) (both (not_platform key e) (itself key e)) a.1 in
      let c = both-T (not_platform key e) (itself key e) b.1 in
      record {
        colons = eqb→eq (count_of (byte ":") key) 0 a.0;
        sign = full_is (half_of key) b.0;
        other = not_is (same key (ascii "platform")) c.0;
        element = element_is (key_element key) e c.1;
      }

all_named : (f : ℕ → AxisOrBtn) (k n i : ℕ) → T (all_named_of f k n) → i < n → Named (ident_text (f (k + i))) (f (k + i))
unfolding all_named_of
all_named f k zero i t h = absurd (omega arith)
all_named f k (suc n) zero t h =
    rw add-zero (named_by (ident_text (f k)) (f k) (both-T (names (ident_text (f k)) (f k)) (all_named_of f (suc k) n) t).0)
all_named f k (suc n) (suc i) t h =
    let e : k + suc i ≡ suc k + i = omega arith in
    rw e (all_named f (suc k) n i (both-T (names (ident_text (f k)) (f k)) (all_named_of f (suc k) n) t).1 (omega arith))

pub button_named : (k : ℕ) → 1 ≤ k → k ≤ 19 → Named (ident_text (as_button k)) (as_button k)
button_named k h l =
    let e : 1 + (k - 1) ≡ k = omega arith in
    rw e at (all_named as_button 1 19 (k - 1) buttons_named (omega arith))

pub axis_named : (k : ℕ) → 1 ≤ k → k ≤ 6 → Named (ident_text (as_axis k)) (as_axis k)
axis_named k h l =
    let e : 1 + (k - 1) ≡ k = omega arith in
    rw e at (all_named as_axis 1 6 (k - 1) axes_named (omega arith))

-- ---- a pair of a key and an index
abbrev pub pair_text : List ℕ → ℕ → ℕ → List ℕ
pair_text key kind i = key ++ byte ":" ∷ kind ∷ decimal i

digits_free : (b i : ℕ) → is_digit b ≡ false → Free b (decimal i)
digits_free b i h = count_none is_digit b h (decimal i) (decimal_all i)

kind_free : (b kind : ℕ) (s : List ℕ) → eqb kind b ≡ false → Free b s → Free b (kind ∷ s)
unfolding count_of
kind_free b kind s h f = rw h f

digits_low : (s : List ℕ) → every is_digit s ≡ true → (j : ℕ) → get_or s j 0 ≤ byte "9"
unfolding every
digits_low [] h j = omega arith
digits_low (x ∷ s) h zero =
    let w = both_parts (is_digit x) (every is_digit s) h in
    leb-true x (byte "9") (both_parts (leb (byte "0") x) (leb x (byte "9")) w.0).1
digits_low (x ∷ s) h (suc j) = digits_low s (both_parts (is_digit x) (every is_digit s) h).1 j

module _ (key : List ℕ) (to : AxisOrBtn) (is : Named key to) (i : ℕ) where
  module _ (small : i ≤ number_max) where
    button_token_lem : pair_of (pair_text key (byte "b") i) 0
        ≡ Ok (Tk.ButtonMapping i to (ranges_of Ar.Full Ar.Full false))
    unfolding pair_of keyed_of value_of
    button_token_lem =
        let v = byte "b" ∷ decimal i in
        let one = count_one (byte ":") key v is.colons (kind_free (byte ":") (byte "b") (decimal i) refl
        (digits_free (byte ":") i refl)) in
        let some = ne_eqb (length v) 0 (λ e. omega arith) in
        rw (
          one,
          take-before (byte ":") key v is.colons,
          drop-after (byte ":") key v is.colons,
          some,
          is.other,
          is.sign,
          is.element,
          read_back i small,
        )

    axis_token_lem : pair_of (pair_text key (byte "a") i) 0 ≡ Ok (Tk.AxisMapping i to (ranges_of Ar.Full Ar.Full false))
    unfolding pair_of keyed_of value_of axis_value_of
    axis_token_lem =
        let v = byte "a" ∷ decimal i in
        let one = count_one (byte ":") key v is.colons (kind_free (byte ":") (byte "a") (decimal i) refl
        (digits_free (byte ":") i refl)) in
        let some = ne_eqb (length v) 0 (λ e. omega arith) in
        let low = digits_low (decimal i) (decimal_all i) (length (decimal i) - 1) in
        let last = ne_eqb (get_or (decimal i) (length (decimal i) - 1) 0) (byte "~") (λ e. omega arith) in
        rw (
          one,
          take-before (byte ":") key v is.colons,
          drop-after (byte ":") key v is.colons,
          some,
          is.other,
          is.sign,
          is.element,
          last,
          read_back i small,
        )

    module _ (buttons axes : List ℕ) where
      pub button_pair : i < length buttons
          → effect_of (pair_text key (byte "b") i) buttons axes ≡ does (entry_of (code_of (get_or buttons i 0)) to ∷ [])
          (0 ∷ [])
      unfolding answer_effect puts_of listed
      button_pair h = rw (button_token_lem, lt-ltb i (length buttons) h)

      pub axis_pair : i < length axes
          → effect_of (pair_text key (byte "a") i) buttons axes ≡ does (entry_of (code_of (get_or axes i 0)) to ∷ []) (0 ∷ [])
      unfolding answer_effect puts_of listed
      axis_pair h = rw (axis_token_lem, lt-ltb i (length axes) h)
