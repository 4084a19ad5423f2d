-- UTF-8 at an ASCII byte: a whole is valid exactly where the bytes before it and those after it are.
-- Assumes nothing.
use Prim.Native.Nat.{ℕ, zero, suc, ◌+◌, ◌-◌, ◌≤◌, ◌<◌}
use mathlib.Core.Path.{◌≡◌, refl, sym, subst, ap, ◌∙◌}
use mathlib.Core.Logic.{⊎_elim}
use mathlib.Core.Bool.{Bool, true, false}
use mathlib.Core.List.{List, [], ◌∷◌, ◌++◌}
use native.Mathlib.Omega.{arith}
use borrow.Author.Tests.{ltb-true, leb-true, lt-leb, le-leb, eq-eqb, ne_eqb, eqb-true, eqb-false}
use lib.Dec.{leb, eqb, ltb}
use lib.ListN.{length, take, drop, length-drop, length-append}
use lib.Seq.{drop-append-le, drop-drop}
use Rattle.text.specs.Bytes.{pick, both}
use Rattle.text.specs.Utf8.{Range, Alternative, utf8_char, in_range, begins, valid_run}
use Rattle.text.specs.Utf8.{is_utf8}
use Rattle.text.specs.Inner.{every, is_ascii, Passed, Ends}
use Rattle.text.proofs.ListLaws.{lt_or_le, off, both_parts, part_to_end}
use Rattle.text.proofs.SeekLaws.{passes_go}
use Rattle.text.proofs.Utf8Laws.{first_size, char_size, char_long, valid_stop, valid_step}

-- ---- octets after the first of a character are none of ASCII
abbrev highs : List Range → Bool
highs [] = true
highs (r ∷ rs) = both (leb 128 r.low) (highs rs)

abbrev tails_high : List Alternative → Bool
tails_high [] = true
tails_high ([] ∷ others) = false
tails_high ((r ∷ rs) ∷ others) = both (highs rs) (tails_high others)

module _ (d : ℕ) (ascii : d < 128) where
  tail_begins : (rs : List Range) (a b : List ℕ) → highs rs ≡ true → begins rs (a ++ d ∷ b) ≡ begins rs a
  unfolding begins
  tail_begins [] a b h = refl
  tail_begins (r ∷ rs) [] b h =
      let low = leb-true 128 r.low (both_parts (leb 128 r.low) (highs rs) h).0 in
      let no = lt-leb r.low d (omega arith) in rw no
  tail_begins (r ∷ rs) (x ∷ a) b h =
      ap (both (in_range r x)) (tail_begins rs a b (both_parts (leb 128 r.low) (highs rs) h).1)

  first-begins : (l : List Alternative) (x : ℕ) (a b : List ℕ) → tails_high l ≡ true
      → first_size l (x ∷ a ++ d ∷ b) ≡ first_size l (x ∷ a)
  unfolding first_size begins
  first-begins [] x a b h = refl
  first-begins ([] ∷ others) x a b h = absurd (off h)
  first-begins ((r ∷ rs) ∷ others) x a b h =
      let both = both_parts (highs rs) (tails_high others) h in
      rw (tail_begins rs a b both.0, first-begins others x a b both.1)

  -- the character that bytes begin with does not reach an ASCII byte after them
  char_before : (x : ℕ) (a b : List ℕ) → char_size (x ∷ a ++ d ∷ b) ≡ char_size (x ∷ a)
  unfolding char_size
  char_before x a b = first-begins utf8_char x a b refl

  char_ascii : (b : List ℕ) → char_size (d ∷ b) ≡ 1
  unfolding char_size first_size begins
  char_ascii b = let l = le-leb 0 d (omega arith) in let h = le-leb d 127 (omega arith) in rw (l, h)

-- an ASCII byte is passed
ascii_goes : (b : ℕ) (s : List ℕ) → b < 128 → valid_run (b ∷ s) ≡ suc (valid_run s)
ascii_goes b s h =
    valid_step (b ∷ s) (λ z. omega (arith, char_ascii b h s))
    ∙ ap (λ (k : ℕ). k + valid_run (drop k (b ∷ s))) (char_ascii b h s) ∙ omega arith

-- what a search for another byte in the part from i on passes
pub asciis_passed : (P : ℕ → Bool → Type 0) (s : List ℕ) (i r : ℕ) → i ≤ length s
    → Ends P (take (length s - i) (drop i s)) r → ((b : ℕ) (t : Bool) → P b t → t ≡ ltb b 128) → Passed s i (i + r)
asciis_passed P s i r h e told =
    let f : Ends P (drop i s) r = subst (λ (l : List ℕ). Ends P l r) (part_to_end s i) e in
    let step : (b : ℕ) (l : List ℕ) → P b true → valid_run (b ∷ l) ≡ suc (valid_run l)
    = λ b l p. ascii_goes b l (ltb-true b 128 (sym (told b true p))) in
    let go = passes_go (λ b. P b true) valid_run step r (drop i s) f.within f.passed in
    (omega arith, omega (arith, f.within, length-drop i s), rw (sym (drop-drop r i s)) (omega (arith, go)))

-- ---- the longest run of whole characters
abbrev pub Valid : List ℕ → Type 0
Valid s = valid_run s ≡ length s

run_bound : (n : ℕ) (s : List ℕ) → length s ≤ n → valid_run s ≤ length s
run_bound zero s h =
    let z : char_size s ≡ 0 = omega (arith, char_long s) in omega (arith, valid_stop s z)
run_bound (suc n) s h =
    ⊎_elim
    (λ k. let e = valid_step s (λ z. omega arith) in let l = length-drop (char_size s) s in
    omega (arith, char_long s, run_bound n (drop (char_size s) s) (omega arith)))
    (λ k. let z : char_size s ≡ 0 = omega arith in omega (arith, valid_stop s z))
    (lt_or_le 0 (char_size s))

pub valid_le : (s : List ℕ) → valid_run s ≤ length s
valid_le s = run_bound (length s) s (omega arith)

pub none_valid : Valid []
none_valid = omega (arith, valid_le [])

module _ (d : ℕ) (ascii : d < 128) where
  abbrev Cut : List ℕ → List ℕ → Type 0
  Cut a b = valid_run (a ++ d ∷ b) ≡ pick (eqb (valid_run a) (length a)) (length a + (1 + valid_run b)) (valid_run a)

  cut_first : (b : List ℕ) → Cut [] b
  cut_first b =
      let c = char_ascii d ascii b in
      let e = valid_step (d ∷ b) (λ z. omega arith) in
      let n = valid_le [] in
      let q = eq-eqb (valid_run []) 0 (omega arith) in
      rw q (e ∙ ap (λ (k : ℕ). k + valid_run (drop k (d ∷ b))) c ∙ omega arith)

  module _ (x : ℕ) (a b : List ℕ) where
    stopped : char_size (x ∷ a) ≡ 0 → Cut (x ∷ a) b
    stopped z =
        let w = valid_stop (x ∷ a) z in
        let u = valid_stop (x ∷ a ++ d ∷ b) (char_before d ascii x a b ∙ z) in
        let q = ne_eqb (valid_run (x ∷ a)) (length (x ∷ a)) (λ e. omega arith) in
        rw q (u ∙ sym w)

    abbrev rest : List ℕ
    rest = drop (char_size (x ∷ a)) (x ∷ a)

    -- one character more in front
    grown : (t : Bool) → eqb (valid_run rest) (length rest) ≡ t
        → valid_run (x ∷ a ++ d ∷ b) ≡ char_size (x ∷ a) + valid_run (rest ++ d ∷ b)
        → valid_run (x ∷ a) ≡ char_size (x ∷ a) + valid_run rest
        → Cut rest b → Cut (x ∷ a) b
    grown true q u w ih =
        let l = length-drop (char_size (x ∷ a)) (x ∷ a) in
        let m = char_long (x ∷ a) in
        let k = eqb-true (valid_run rest) (length rest) q in
        let same = eq-eqb (valid_run (x ∷ a)) (length (x ∷ a)) (omega arith) in
        let i : valid_run (rest ++ d ∷ b) ≡ length rest + (1 + valid_run b) = rw q at ih in
        rw same (omega arith)
    grown false q u w ih =
        let l = length-drop (char_size (x ∷ a)) (x ∷ a) in
        let m = char_long (x ∷ a) in
        let k = eqb-false (valid_run rest) (length rest) q in
        let unlike = ne_eqb (valid_run (x ∷ a)) (length (x ∷ a)) (λ e. k (omega arith)) in
        let i : valid_run (rest ++ d ∷ b) ≡ valid_run rest = rw q at ih in
        rw unlike (omega arith)

    going : (0 < char_size (x ∷ a)) → Cut rest b → Cut (x ∷ a) b
    going h ih =
        let c = char_before d ascii x a b in
        let u = valid_step (x ∷ a ++ d ∷ b) (λ z. omega arith) in
        let w = valid_step (x ∷ a) (λ z. omega arith) in
        let e = ap (λ (k : ℕ). k + valid_run (drop k (x ∷ a ++ d ∷ b))) c in
        let f = ap (λ (l : List ℕ). char_size (x ∷ a) + valid_run l)
        (drop-append-le (char_size (x ∷ a)) (x ∷ a) (d ∷ b) (char_long (x ∷ a))) in
        grown (eqb (valid_run rest) (length rest)) refl (u ∙ e ∙ f) w ih

  -- bytes that are no more than suc n, by those that are no more than n
  cut_more : (n : ℕ) → ((a b : List ℕ) → length a ≤ n → Cut a b) → (a b : List ℕ) → length a ≤ suc n → Cut a b
  cut_more n ih [] b h = cut_first b
  cut_more n ih (x ∷ a) b h =
      ⊎_elim
      (λ k. going x a b k (ih (drop (char_size (x ∷ a)) (x ∷ a)) b
      (let l = length-drop (char_size (x ∷ a)) (x ∷ a) in omega arith)))
      (λ k. stopped x a b (omega arith))
      (lt_or_le 0 (char_size (x ∷ a)))

  cut_none : (a b : List ℕ) → length a ≤ 0 → Cut a b
  cut_none [] b h = cut_first b
  cut_none (x ∷ a) b h = absurd (omega arith)

  cut_by : (n : ℕ) (a b : List ℕ) → length a ≤ n → Cut a b
  cut_by zero a b h = cut_none a b h
  cut_by (suc n) a b h = cut_more n (λ c e. cut_by n c e) a b h

  pub valid_join : (a b : List ℕ) → Valid a → Valid b → Valid (a ++ d ∷ b)
  valid_join a b va vb =
      let e : valid_run (a ++ d ∷ b) ≡ length a + (1 + valid_run b) =
      rw (eq-eqb (valid_run a) (length a) va) at (cut_by (length a) a b (omega arith)) in
      omega (arith, length-append a (d ∷ b))

  split_by : (a b : List ℕ) (t : Bool) → eqb (valid_run a) (length a) ≡ t → Cut a b → Valid (a ++ d ∷ b)
      → Valid a × Valid b
  split_by a b true q c v =
      let e : valid_run (a ++ d ∷ b) ≡ length a + (1 + valid_run b) = rw q at c in
      let l = length-append a (d ∷ b) in (eqb-true (valid_run a) (length a) q, omega arith)
  split_by a b false q c v =
      let e : valid_run (a ++ d ∷ b) ≡ valid_run a = rw q at c in
      let l = length-append a (d ∷ b) in absurd (omega (arith, valid_le a))

  pub valid_split : (a b : List ℕ) → Valid (a ++ d ∷ b) → Valid a × Valid b
  valid_split a b v = split_by a b (eqb (valid_run a) (length a)) refl (cut_by (length a) a b (omega arith)) v

  -- ---- where the second part begins with an ASCII byte

  pub valid_head : (b : List ℕ) → Valid b → Valid (d ∷ b)
  valid_head b v = valid_join [] b none_valid v

-- ---- ASCII texts

pub valid_ascii : (s : List ℕ) → every is_ascii s ≡ true → Valid s
unfolding every
valid_ascii [] h = none_valid
valid_ascii (b ∷ s) h =
    let w = both_parts (is_ascii b) (every is_ascii s) h in
    valid_head b (ltb-true b 128 w.0) s (valid_ascii s w.1)

-- ---- `is_utf8`, the test of it

pub valid_is : (s : List ℕ) → Valid s → is_utf8 s ≡ true
unfolding is_utf8
valid_is s v = eq-eqb (valid_run s) (length s) v

pub is_valid : (s : List ℕ) → is_utf8 s ≡ true → Valid s
unfolding is_utf8
is_valid s e = eqb-true (valid_run s) (length s) e
