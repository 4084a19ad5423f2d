-- Four spellings are one UUID: a text of 32 bytes is the list of its bytes by number, over which each spelling computes.
-- A number read from digits is written as these digits in lower case. Assumes nothing.
use Rattle.std.specs.Prelude.{Option, Some, None, option_and_then}
use Prim.Native.Nat.{ℕ, zero, suc, ◌+◌, ◌*◌, ◌-◌, ◌/◌, ◌%◌, ◌<◌}
use mathlib.Core.Path.{◌≡◌, refl, sym, subst, ap, ◌∙◌}
use mathlib.Core.Bool.{Bool, true, false}
use mathlib.Core.List.{List, [], ◌∷◌, ◌++◌, map, append_assoc}
use native.Mathlib.Omega.{arith}
use borrow.Author.Tests.{lt-ltb, le-ltb, eqb-true, lt-leb, le-leb}
use lib.Dec.{leb, eqb}
use lib.ListN.{length, get_or, take, drop, length-drop, take-append-drop}
use lib.Seq.{length-take-le}
use Rattle.text.specs.Bytes.{pick, both, same}
use Rattle.text.specs.Uuid.{hex_digit, read_hex, hyphen_at, first_groups, last_groups, hyphenated, joined}
use Rattle.text.specs.Uuid.{of_digits, simple, in_braces, after_urn, uuid_of}
use Rattle.text.specs.Uuid.{lower_digit, hex_text, uuid_text}
use Rattle.text.specs.Spellings.{in_form, SpelledAlike, form_length, FormTold, ReaderForms}
use Rattle.text.specs.Spellings.{lower_byte, LowerText}
use Rattle.text.specs.declared.uuid.Spelled.{Spelled}
use Rattle.text.specs.declared.uuid.Form.{Form}
use Rattle.text.specs.declared.uuid.Form.TheVariants as F
use Rattle.text.proofs.ListLaws.{both_parts}
use Rattle.text.proofs.UuidLaws.{by_range, digit_small, uuid_32}

-- ---- a list by its numbers
unfoldable by_number : (ℕ → ℕ) → ℕ → List ℕ
by_number f zero = []
by_number f (suc k) = f 0 ∷ by_number (λ i. f (suc i)) k

numbered : (d : List ℕ) (n : ℕ) → length d ≡ n → by_number (λ i. get_or d i 0) n ≡ d
unfolding by_number
numbered [] zero h = refl
numbered [] (suc n) h = absurd (omega arith)
numbered (b ∷ d) zero h = absurd (omega arith)
numbered (b ∷ d) (suc n) h = ap (λ (l : List ℕ). b ∷ l) (numbered d n (omega arith))

-- two halves in one form, and in another
in_form_lem : (f g : Form) (x y : Option ℕ) → joined f x y ≡ in_form f (joined g x y)
in_form_lem f g (Some v) (Some w) = refl
in_form_lem f g (Some v) None = refl
in_form_lem f g None y = refl

computed : (f : ℕ → ℕ) → SpelledAlike (by_number f 32)
unfolding by_number uuid_of hyphenated same
computed f = record {
  digits = in_form_lem F.Simple F.Simple (read_hex 0 (take 16 (by_number f 32)))
      (read_hex 0 (drop 16 (by_number f 32)));
  hyphens = in_form_lem F.Hyphenated F.Simple (read_hex 0 (take 16 (by_number f 32)))
      (read_hex 0 (drop 16 (by_number f 32)));
  braces = in_form_lem F.Braced F.Simple (read_hex 0 (take 16 (by_number f 32)))
      (read_hex 0 (drop 16 (by_number f 32)));
  urn = in_form_lem F.Urn F.Simple (read_hex 0 (take 16 (by_number f 32)))
      (read_hex 0 (drop 16 (by_number f 32)));
}

pub spelled_alike : (d : List ℕ) → length d ≡ 32 → SpelledAlike d
spelled_alike d h = subst SpelledAlike (numbered d 32 h) (computed (λ (i : ℕ). get_or d i 0))

-- ---- a digit and its lower case
digit_low : (b v : ℕ) → hex_digit b ≡ Some v → lower_digit v ≡ lower_byte b
digit_low b v e =
    by_range (λ (n : ℕ). lower_digit n ≡ lower_byte b) b v e
    (λ l h. let r : leb 65 b ≡ false = lt-leb 65 b (omega arith) in
    simp (r, lt-ltb (b - 48) 10 (omega arith)) (omega arith))
    (λ l h. let r : leb 65 b ≡ true = le-leb 65 b (omega arith) in let q : leb b 70 ≡ true = le-leb b 70 (omega arith) in
    simp (r, q, le-ltb (b - 65 + 10) 10 (omega arith)) (omega arith))
    (λ l h. let r : leb 65 b ≡ true = le-leb 65 b (omega arith) in let q : leb b 70 ≡ false = lt-leb b 70 (omega arith) in
    simp (r, q, le-ltb (b - 97 + 10) 10 (omega arith)) (omega arith))

-- digits behind k others that made a
text_more : (k a h : ℕ) → h < 16 → hex_text (suc k) (a * 16 + h) ≡ hex_text k a ++ (lower_digit h ∷ [])
unfolding hex_text
text_more k a h l =
    let p : (a * 16 + h) / 16 ≡ a = omega arith in
    let q : (a * 16 + h) % 16 ≡ h = omega arith in
    rw (p, q) refl

read_low : (s : List ℕ) (a v k : ℕ) → read_hex a s ≡ Some v → hex_text (k + length s) v
    ≡ hex_text k a ++ map lower_byte s
unfolding read_hex
read_low [] a v k e =
    let z : a ≡ v = cc in
    let q : k + 0 ≡ k = omega arith in
    rw (q, z) (sym (append-none (hex_text k v)))
  where
    append-none : (l : List ℕ) → l ++ [] ≡ l
    append-none [] = refl
    append-none (x ∷ l) = ap (λ (m : List ℕ). x ∷ m) (append-none l)
read_low (d ∷ ds) a v k e = go (hex_digit d) refl e (λ x. read_low ds (a * 16 + x) v (suc k))
  where
    go : (r : Option ℕ) → hex_digit d ≡ r → option_and_then (λ x. read_hex (a * 16 + x) ds) r ≡ Some v
        → ((x : ℕ) → read_hex (a * 16 + x) ds ≡ Some v
        → hex_text (suc k + length ds) v ≡ hex_text (suc k) (a * 16 + x) ++ map lower_byte ds)
        → hex_text (k + suc (length ds)) v ≡ hex_text k a ++ (lower_byte d ∷ map lower_byte ds)
    go (Some x) p q f =
        let z : k + suc (length ds) ≡ suc k + length ds = omega arith in
        ap (λ (n : ℕ). hex_text n v) z ∙ f x q
        ∙ ap (λ (l : List ℕ). l ++ map lower_byte ds) (text_more k a x (digit_small d x p)
        ∙ ap (λ (b : ℕ). hex_text k a ++ (b ∷ [])) (digit_low d x p))
        ∙ append_assoc (hex_text k a) (lower_byte d ∷ []) (map lower_byte ds)
    go None p q f = absurd (let z : ◌≡◌ {A = ℕ} 0 1 = cc in omega arith)

half_low : (s : List ℕ) (v : ℕ) → length s ≡ 16 → read_hex 0 s ≡ Some v → hex_text 16 v ≡ map lower_byte s
unfolding hex_text
half_low s v h e =
    let z : 16 ≡ 0 + length s = omega arith in
    ap (λ (n : ℕ). hex_text n v) z ∙ read_low s 0 v 0 e

map-two : (xs ys : List ℕ) → map lower_byte xs ++ map lower_byte ys ≡ map lower_byte (xs ++ ys)
map-two [] ys = refl
map-two (x ∷ xs) ys = ap (λ (l : List ℕ). lower_byte x ∷ l) (map-two xs ys)

pub lower_text : LowerText
lower_text d g h e =
    go (read_hex 0 (take 16 d)) refl (read_hex 0 (drop 16 d)) refl (sym (uuid_32 d h) ∙ e)
  where
    go : (x : Option ℕ) → read_hex 0 (take 16 d) ≡ x → (y : Option ℕ) → read_hex 0 (drop 16 d) ≡ y → joined F.Simple x y ≡ Some g
        → uuid_text g.id ≡ map lower_byte d
    go (Some v) p (Some w) q r =
        let a : v ≡ g.id.high = ap high_of r in
        let b : w ≡ g.id.low = ap low_of r in
        let l : length (take 16 d) ≡ 16 = length-take-le 16 d (omega arith) in
        let m : length (drop 16 d) ≡ 16 = simp length-drop (omega arith) in
        rw (← a, ← b, half_low (take 16 d) v l p, half_low (drop 16 d) w m q)
        (map-two (take 16 d) (drop 16 d) ∙ ap (map lower_byte) (take-append-drop 16 d))
      where
        high_of : Option Spelled → ℕ
        high_of (Some x) = x.id.high
        high_of None = 0

        low_of : Option Spelled → ℕ
        low_of (Some x) = x.id.low
        low_of None = 0
    go (Some v) p None q r = absurd (let z : ◌≡◌ {A = ℕ} 0 1 = cc in omega arith)
    go None p y q r = absurd (let z : ◌≡◌ {A = ℕ} 0 1 = cc in omega arith)

-- ---- which form was read

joined_form : (f : Form) (x y : Option ℕ) (g : Spelled) → joined f x y ≡ Some g → g.form ≡ f
joined_form f (Some v) (Some w) g e = sym (ap form_of e)
  where
    form_of : Option Spelled → Form
    form_of (Some h) = h.form
    form_of None = f
joined_form f (Some v) None g e = absurd (let z : ◌≡◌ {A = ℕ} 0 1 = cc in omega arith)
joined_form f None y g e = absurd (let z : ◌≡◌ {A = ℕ} 0 1 = cc in omega arith)

hyphenated_form : (f : Form) (s : List ℕ) (g : Spelled) → hyphenated f s ≡ Some g → g.form ≡ f
unfolding hyphenated
hyphenated_form f s g e = go (both (hyphen_at s 8) (both (hyphen_at s 13) (both (hyphen_at s 18) (hyphen_at s 23)))) e
  where
    go : (t : Bool) → pick t (of_digits f (first_groups s) (last_groups s)) None ≡ Some g → g.form ≡ f
    go true q = joined_form f (read_hex 0 (first_groups s)) (read_hex 0 (last_groups s)) g q
    go false q = absurd (let z : ◌≡◌ {A = ℕ} 0 1 = cc in omega arith)

told : (s : List ℕ) (g : Spelled) (f : Form) → (f ≡ F.Xinput → ⊥) → length s ≡ form_length f → g.form ≡ f → FormTold s g
told s g f n l e = record { fits = l ∙ ap form_length (sym e); not_xinput = λ q. n (sym e ∙ q) }

pub reader_forms : ReaderForms
unfolding uuid_of
reader_forms s g e = go32 (eqb (length s) 32) refl e
  where
    clash : {A : Type 0} → ◌≡◌ {A = ℕ} 0 1 → A
    clash z = absurd (omega arith)

    go45 : (t : Bool) → both (eqb (length s) 45) (after_urn s) ≡ t → pick t (hyphenated F.Urn (drop 9 s)) None ≡ Some g
        → FormTold s g
    go45 true p q =
        told s g F.Urn (λ z. clash cc)
        (eqb-true (length s) 45 (both_parts (eqb (length s) 45) (after_urn s) p).0) (hyphenated_form F.Urn (drop 9 s) g q)
    go45 false p q = clash cc

    go38 : (t : Bool) → both (eqb (length s) 38) (in_braces s) ≡ t
        → pick t (hyphenated F.Braced (take 36 (drop 1 s)))
        (pick (both (eqb (length s) 45) (after_urn s)) (hyphenated F.Urn (drop 9 s)) None) ≡ Some g
        → FormTold s g
    go38 true p q =
        told s g F.Braced (λ z. clash cc)
        (eqb-true (length s) 38 (both_parts (eqb (length s) 38) (in_braces s) p).0)
        (hyphenated_form F.Braced (take 36 (drop 1 s)) g q)
    go38 false p q = go45 (both (eqb (length s) 45) (after_urn s)) refl q

    go36 : (t : Bool) → eqb (length s) 36 ≡ t
        → pick t (hyphenated F.Hyphenated s)
        (pick (both (eqb (length s) 38) (in_braces s)) (hyphenated F.Braced (take 36 (drop 1 s)))
        (pick (both (eqb (length s) 45) (after_urn s)) (hyphenated F.Urn (drop 9 s)) None)) ≡ Some g
        → FormTold s g
    go36 true p q = told s g F.Hyphenated (λ z. clash cc) (eqb-true (length s) 36 p) (hyphenated_form F.Hyphenated s g q)
    go36 false p q = go38 (both (eqb (length s) 38) (in_braces s)) refl q

    go32 : (t : Bool) → eqb (length s) 32 ≡ t
        → pick t (simple s)
        (pick (eqb (length s) 36) (hyphenated F.Hyphenated s)
        (pick (both (eqb (length s) 38) (in_braces s)) (hyphenated F.Braced (take 36 (drop 1 s)))
        (pick (both (eqb (length s) 45) (after_urn s)) (hyphenated F.Urn (drop 9 s)) None))) ≡ Some g
        → FormTold s g
    go32 true p q =
        told s g F.Simple (λ z. clash cc) (eqb-true (length s) 32 p)
        (joined_form F.Simple (read_hex 0 (take 16 s)) (read_hex 0 (drop 16 s)) g q)
    go32 false p q = go36 (eqb (length s) 36) refl q
