-- Laws of UTF-8's definitions: an alternative one octet at a time, and a run one character at a time.
-- Assumes nothing.
use mathlib.Core.Path.{◌≡◌, refl, ap, sym, ◌∙◌}
use mathlib.Core.Logic.{⊎_elim}
use mathlib.Core.Bool.{Bool, true, false}
use mathlib.Core.List.{List, [], ◌∷◌}
use Prim.Native.Nat.{ℕ, zero, suc, ◌+◌, ◌-◌, ◌<◌, ◌≤◌}
use native.Mathlib.Omega.{arith}
use lib.ListN.{length, get_or, take, drop, replicate, length-drop}
use lib.Seq.{drop-drop}
use Rattle.text.proofs.ListLaws.{lt_or_le, off, both_true, both_parts, part_to_end}
use Rattle.std.specs.Prelude.{Option, Some, None}
use Rattle.std.specs.List.{list_all}
use Rattle.text.specs.Bytes.{pick, both}
use Rattle.text.specs.Utf8.{Range, Alternative, utf8_tail, utf8_char, in_range, begins, first_length, char_length}
use Rattle.text.specs.Utf8.{run_of, valid_run}

pub begins_nothing : (r : Range) (rs : Alternative) (s : List ℕ) → length s ≡ 0 → begins (r ∷ rs) s ≡ false
unfolding begins
begins_nothing r rs [] h = refl
begins_nothing r rs (b ∷ bs) h = absurd (omega arith)

pub begins_one : (r : Range) (s : List ℕ) → (length s ≡ 0 → ⊥) → begins (r ∷ []) s ≡ in_range r (get_or s 0 0)
unfolding begins
begins_one r [] h = absurd (h refl)
begins_one r (b ∷ bs) h = both_true (in_range r b)

-- bytes that begin so are at least as many
pub begins_long : (a : Alternative) (s : List ℕ) → begins a s ≡ true → length a ≤ length s
unfolding begins
begins_long [] s e = omega arith
begins_long (r ∷ rs) [] e = absurd (off e)
begins_long (r ∷ rs) (b ∷ bs) e = omega (arith, begins_long rs bs (both_parts (in_range r b) (begins rs bs) e).1)

-- octets of UTF8-tail: all of the first n, or there are fewer
pub all_tails : (n : ℕ) (s : List ℕ) → n ≤ length s
    → list_all (in_range utf8_tail) (take n s) ≡ begins (replicate n utf8_tail) s
unfolding begins
all_tails zero s h = refl
all_tails (suc n) [] h = absurd (omega arith)
all_tails (suc n) (b ∷ s) h = ap (both (in_range utf8_tail b)) (all_tails n s (omega arith))

pub short_tails : (n : ℕ) (s : List ℕ) → length s < n → false ≡ begins (replicate n utf8_tail) s
unfolding begins
short_tails zero s h = absurd (omega arith)
short_tails (suc n) [] h = refl
short_tails (suc n) (b ∷ s) h = go (in_range utf8_tail b) (short_tails n s (omega arith))
  where
    go : (t : Bool) → false ≡ begins (replicate n utf8_tail) s → false ≡ both t (begins (replicate n utf8_tail) s)
    go true e = e
    go false e = refl

-- two octets first
pub begins_two : (r q : Range) (rs : Alternative) (s : List ℕ) → 2 ≤ length s
    → begins (r ∷ q ∷ rs) s ≡ both (in_range r (get_or s 0 0)) (both (in_range q (get_or s 1 0)) (begins rs (drop 2 s)))
unfolding begins
begins_two r q rs [] h = absurd (omega arith)
begins_two r q rs (b ∷ []) h = absurd (omega arith)
begins_two r q rs (b ∷ d ∷ s) h = refl

pub begins_short : (r q : Range) (rs : Alternative) (s : List ℕ) → length s < 2 → false ≡ begins (r ∷ q ∷ rs) s
unfolding begins
begins_short r q rs [] h = refl
begins_short r q rs (b ∷ []) h = go (in_range r b)
  where
    go : (t : Bool) → false ≡ both t false
    go true = refl
    go false = refl
begins_short r q rs (b ∷ d ∷ s) h = absurd (omega arith)

-- what a call on the part from i on says of the bytes from i on
pub part_says : (a : Alternative) (s : List ℕ) (i : ℕ) (r : Bool) → r ≡ begins a (take (length s - i) (drop i s))
    → r ≡ begins a (drop i s)
part_says a s i r e = e ∙ ap (begins a) (part_to_end s i)

-- an alternative that the bytes do not begin with, and one that they do
pub skip : (a : Alternative) (others : List Alternative) (s : List ℕ) → begins a s ≡ false
    → first_length (a ∷ others) s ≡ first_length others s
unfolding first_length
skip a others s e = rw e

pub found : (a : Alternative) (others : List Alternative) (s : List ℕ) → begins a s ≡ true
    → first_length (a ∷ others) s ≡ Some (length a)
unfolding first_length
found a others s e = rw e

pub first-none : (s : List ℕ) → first_length [] s ≡ None
unfolding first_length
first-none s = refl

-- ---- the same lengths as numbers, 0 for none: a number is what the laws of lengths reckon with

unfoldable pub first_size : List Alternative → List ℕ → ℕ
first_size [] s = 0
first_size (a ∷ others) s = pick (begins a s) (length a) (first_size others s)

unfoldable pub char_size : List ℕ → ℕ
char_size s = first_size utf8_char s

-- no alternative is empty
abbrev non_empty : List Alternative → Bool
non_empty [] = true
non_empty ([] ∷ others) = false
non_empty ((r ∷ rs) ∷ others) = non_empty others

-- a length above 0, or none
abbrev pub sized : ℕ → Option ℕ
sized zero = None
sized (suc n) = Some (suc n)

first_sized : (l : List Alternative) (s : List ℕ) → non_empty l ≡ true → first_length l s ≡ sized (first_size l s)
unfolding first_length first_size
first_sized [] s h = refl
first_sized ([] ∷ others) s h = absurd (off h)
first_sized ((r ∷ rs) ∷ others) s h = go (begins (r ∷ rs) s) (first_sized others s h)
  where
    go : (t : Bool) → first_length others s ≡ sized (first_size others s)
        → pick t (Some (length (r ∷ rs))) (first_length others s) ≡ sized (pick t (length (r ∷ rs)) (first_size others s))
    go true e = refl
    go false e = e

pub char_sized : (s : List ℕ) → char_length s ≡ sized (char_size s)
unfolding char_length char_size
char_sized s = first_sized utf8_char s refl

pub size_some : (s : List ℕ) (n : ℕ) → char_length s ≡ Some n → (char_size s ≡ n) × (0 < n)
size_some s n e = go (char_size s) (sym (char_sized s) ∙ e)
  where
    go : (k : ℕ) → sized k ≡ Some n → (k ≡ n) × (0 < n)
    go zero f = absurd (let z : ◌≡◌ {A = ℕ} 0 1 = cc in omega arith)
    go (suc k) f = let z : suc k ≡ n = cc in (z, omega arith)

pub size-none : (s : List ℕ) → char_length s ≡ None → char_size s ≡ 0
size-none s e = go (char_size s) (sym (char_sized s) ∙ e)
  where
    go : (k : ℕ) → sized k ≡ None → k ≡ 0
    go zero f = refl
    go (suc k) f = absurd (let z : ◌≡◌ {A = ℕ} 0 1 = cc in omega arith)

pub some_size : (s : List ℕ) (n : ℕ) → char_size s ≡ n → 0 < n → char_length s ≡ Some n
some_size s zero e h = absurd (omega arith)
some_size s (suc n) e h = char_sized s ∙ ap sized e

first_size_long : (l : List Alternative) (s : List ℕ) → first_size l s ≤ length s
unfolding first_size
first_size_long [] s = omega arith
first_size_long (a ∷ others) s = go (begins a s) refl (first_size_long others s)
  where
    go : (t : Bool) → begins a s ≡ t → first_size others s ≤ length s
        → pick t (length a) (first_size others s) ≤ length s
    go true e h = begins_long a s e
    go false e h = h

-- a character is no longer than the bytes
pub char_long : (s : List ℕ) → char_size s ≤ length s
unfolding char_size
char_long s = first_size_long utf8_char s

run_stop : (k : ℕ) (s : List ℕ) → char_size s ≡ 0 → run_of k s ≡ 0
unfolding run_of
run_stop zero s e = refl
run_stop (suc k) s e = let z : char_length s ≡ None = char_sized s ∙ ap sized e in rw z

run_step : (k : ℕ) (s : List ℕ) → (char_size s ≡ 0 → ⊥)
    → run_of (suc k) s ≡ char_size s + run_of k (drop (char_size s) s)
unfolding run_of
run_step k s h = let z : char_length s ≡ Some (char_size s) = some_size s (char_size s) refl (omega arith) in rw z

-- more characters than there are bytes change nothing
run_enough : (k j : ℕ) (s : List ℕ) → length s ≤ k → length s ≤ j → run_of k s ≡ run_of j s
run_enough zero j s p q = let z : char_size s ≡ 0 = omega (arith, char_long s) in
    run_stop zero s z ∙ sym (run_stop j s z)
run_enough (suc k) zero s p q = let z : char_size s ≡ 0 = omega (arith, char_long s) in
    run_stop (suc k) s z ∙ sym (run_stop zero s z)
run_enough (suc k) (suc j) s p q =
    ⊎_elim (λ h. rw (
      run_step k s (λ e. omega arith),
      run_step j s (λ e. omega arith),
      run_enough k j
          (drop (char_size s) s) (simp length-drop (omega arith)) (simp length-drop (omega arith)),
    ))
    (λ h. let z : char_size s ≡ 0 = omega arith in run_stop (suc k) s z ∙ sym (run_stop (suc j) s z))
    (lt_or_le 0 (char_size s))

-- where no character stands the run ends
pub valid_stop : (s : List ℕ) → char_size s ≡ 0 → valid_run s ≡ 0
unfolding valid_run
valid_stop s e = run_stop (length s) s e

-- a run is a character and the run after it
pub valid_step : (s : List ℕ) → (char_size s ≡ 0 → ⊥) → valid_run s ≡ char_size s + valid_run (drop (char_size s) s)
unfolding valid_run
valid_step [] h = absurd (h (omega (arith, char_long [])))
valid_step (b ∷ bs) h =
    run_step (length bs) (b ∷ bs) h
    ∙ ap (λ (n : ℕ). char_size (b ∷ bs) + n)
    (run_enough (length bs) (length (drop (char_size (b ∷ bs)) (b ∷ bs))) (drop (char_size (b ∷ bs)) (b ∷ bs))
    (simp length-drop (omega arith)) (omega arith))

-- the character that stands at a place of the bytes: what a call on the part from there on gave
char_at : (s : List ℕ) (i : ℕ) (r : Option ℕ) → r ≡ char_length (take (length s - i) (drop i s))
    → char_length (drop i s) ≡ r
char_at s i r e = ap char_length (sym (part_to_end s i)) ∙ sym e

pub no_some : (r : Option ℕ) → ((n : ℕ) → r ≡ Some n → ⊥) → r ≡ None
no_some (Some n) h = absurd (h n refl)
no_some None h = refl

pub run_ends : (s : List ℕ) (i : ℕ) (r : Option ℕ) → r ≡ char_length (take (length s - i) (drop i s)) → r ≡ None
    → i + valid_run (drop i s) ≡ i
run_ends s i r e z = omega (arith, valid_stop (drop i s) (size-none (drop i s) (char_at s i r e ∙ z)))

pub run_goes : (s : List ℕ) (i n : ℕ) (r : Option ℕ) → r ≡ char_length (take (length s - i) (drop i s)) → r ≡ Some n
    → i ≤ length s
    → (0 < n) × (i + n ≤ length s) × (i + n + valid_run (drop (i + n) s) ≡ i + valid_run (drop i s))
run_goes s i n r e z h =
    let c = size_some (drop i s) n (char_at s i r e ∙ z) in (
      c.1,
      omega (arith, char_long (drop i s), length-drop i s),
      rw (valid_step (drop i s) (λ q. omega arith), c.0, drop-drop) (omega arith),
    )
