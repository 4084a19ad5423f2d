-- The run is the longest cut into whole characters: no alternative of UTF-8 is a longer one's beginning, so a whole
-- character is read as itself whatever follows. Assumes nothing.
use Prim.Native.Nat.{ℕ, zero, suc, ◌+◌, ◌≤◌, ◌<◌}
use mathlib.Core.Path.{◌≡◌, refl, sym, subst, ap, ◌∙◌}
use mathlib.Core.Bool.{Bool, true, false}
use mathlib.Core.List.{List, [], ◌∷◌, ◌++◌, append_assoc}
use native.Mathlib.Omega.{arith}
use borrow.Author.Tests.{leb-true}
use lib.Dec.{leb}
use lib.ListN.{length, take, drop, length-append, take-append-drop}
use lib.Seq.{drop-append_seam, length-take-le}
use Rattle.std.specs.Prelude.{option_map, unwrap_or}
use Rattle.text.specs.Bytes.{pick, both}
use Rattle.text.specs.Utf8.{Alternative, utf8_char, in_range, begins, run_of}
use Rattle.text.specs.Utf8.{valid_run, AllWhole, together, WholeCut, LongestRun}
use Rattle.text.proofs.ListLaws.{both_parts}
use Rattle.text.proofs.Utf8Laws.{first_size, char_size, sized, char_sized, size_some, some_size, valid_step, char_long}

-- ---- an alternative that is no longer than the bytes does not look past them
begins-append : (a : Alternative) (c r : List ℕ) → length a ≤ length c → begins a (c ++ r) ≡ begins a c
unfolding begins
begins-append [] c r h = refl
begins-append (x ∷ a) [] r h = absurd (omega arith)
begins-append (x ∷ a) (b ∷ c) r h = ap (λ (t : Bool). both (in_range x b) t) (begins-append a c r (omega arith))

-- ---- alternatives in order of their lengths, from k on
abbrev rising : ℕ → List Alternative → Bool
rising k [] = true
rising k (a ∷ others) = both (leb k (length a)) (rising (length a) others)

rising_long : (l : List Alternative) (k : ℕ) (c : List ℕ) → rising k l ≡ true → 0 < first_size l c
    → k ≤ first_size l c
unfolding first_size
rising_long [] k c h p = absurd (omega arith)
rising_long (a ∷ others) k c h p =
    let w = both_parts (leb k (length a)) (rising (length a) others) h in
    by (begins a c) (leb-true k (length a) w.0) (rising_long others (length a) c w.1) p
  where
    by : (t : Bool) → k ≤ length a → (0 < first_size others c → length a ≤ first_size others c)
        → 0 < pick t (length a) (first_size others c) → k ≤ pick t (length a) (first_size others c)
    by true l f p = l
    by false l f p = omega (arith, f p)

-- a whole character is the first alternative of what begins with it
first-whole : (l : List Alternative) (k : ℕ) (c r : List ℕ) → rising k l ≡ true → 0 < length c
    → first_size l c ≡ length c → first_size l (c ++ r) ≡ length c
unfolding first_size
first-whole [] k c r h p e = absurd (omega (arith, none))
  where
    none : first_size [] c ≡ 0
    none = refl
first-whole (a ∷ others) k c r h p e =
    let w = both_parts (leb k (length a)) (rising (length a) others) h in
    by (begins a c) refl w.1 (first-whole others (length a) c r w.1 p)
  where
    none_shorter : rising (length a) others ≡ true → first_size others c ≡ length c → length a ≤ length c
    none_shorter q f = omega (arith, rising_long others (length a) c q (omega arith))

    by : (t : Bool) → begins a c ≡ t → rising (length a) others ≡ true
        → (first_size others c ≡ length c → first_size others (c ++ r) ≡ length c)
        → first_size (a ∷ others) (c ++ r) ≡ length c
    by true q w ih =
        let f : length a ≡ length c = rw q at e in
        let g : begins a (c ++ r) ≡ true = begins-append a c r (omega arith) ∙ q in
        rw g f
    by false q w ih =
        let f : first_size others c ≡ length c = rw q at e in
        let g : begins a (c ++ r) ≡ false = begins-append a c r (none_shorter w f) ∙ q in
        rw g (ih f)

-- and what is read first is a whole character by itself
first-take : (l : List Alternative) (k : ℕ) (c r : List ℕ) → rising k l ≡ true → 0 < length c
    → first_size l (c ++ r) ≡ length c → first_size l c ≡ length c
unfolding first_size
first-take [] k c r h p e = e
first-take (a ∷ others) k c r h p e =
    let w = both_parts (leb k (length a)) (rising (length a) others) h in
    by (begins a (c ++ r)) refl w.1 (first-take others (length a) c r w.1 p)
  where
    none_shorter : rising (length a) others ≡ true → first_size others (c ++ r) ≡ length c → length a ≤ length c
    none_shorter q f = omega (arith, rising_long others (length a) (c ++ r) q (omega arith))

    by : (t : Bool) → begins a (c ++ r) ≡ t → rising (length a) others ≡ true
        → (first_size others (c ++ r) ≡ length c → first_size others c ≡ length c)
        → first_size (a ∷ others) c ≡ length c
    by true q w ih =
        let f : length a ≡ length c = rw q at e in
        let g : begins a c ≡ true = sym (begins-append a c r (omega arith)) ∙ q in
        rw g f
    by false q w ih =
        let f : first_size others (c ++ r) ≡ length c = rw q at e in
        let g : begins a c ≡ false = sym (begins-append a c r (none_shorter w f)) ∙ q in
        rw g (ih f)

char_whole : (c r : List ℕ) → 0 < length c → char_size c ≡ length c → char_size (c ++ r) ≡ length c
unfolding char_size
char_whole c r p e = first-whole utf8_char 0 c r refl p e

char_take : (c r : List ℕ) → 0 < length c → char_size (c ++ r) ≡ length c → char_size c ≡ length c
unfolding char_size
char_take c r p e = first-take utf8_char 0 c r refl p e

-- ---- no cut is longer
cut_run : (cs : List (List ℕ)) (r : List ℕ) → AllWhole cs → length (together cs) ≤ valid_run (together cs ++ r)
unfolding together AllWhole
cut_run [] r h = omega arith
cut_run (c ∷ cs) r h =
    let s = (c ++ together cs) ++ r in
    let cut : s ≡ c ++ (together cs ++ r) = append_assoc c (together cs) r in
    let e : char_size (c ++ (together cs ++ r)) ≡ length c = char_whole c (together cs ++ r) h.0.0 (size_some c (length c) h.0.1).0 in
    let step = valid_step (c ++ (together cs ++ r)) (λ z. omega (arith, e, h.0.0)) in
    let rest : drop (length c) (c ++ (together cs ++ r)) ≡ together cs ++ r = drop-append_seam c (together cs ++ r) in
    let l = length-append c (together cs) in
    let go : valid_run (c ++ (together cs ++ r)) ≡ length c + valid_run (together cs ++ r) =
    step ∙ rw (e, rest) in
    rw cut (omega (arith, cut_run cs r h.1))

-- ---- the run is a cut
run_cut : (k : ℕ) (s : List ℕ) → WholeCut s (run_of k s)
unfolding run_of together AllWhole
run_cut zero s = record { chars = []; rest = s; whole = tt; bytes = refl; many = refl }
run_cut (suc k) s = rw (char_sized s) (by (char_size s) refl (run_cut k (drop (char_size s) s)))
  where
    back : (n : ℕ) → take n s ++ drop n s ≡ s
    back n = take-append-drop n s

    by : (n : ℕ) → char_size s ≡ n → WholeCut (drop n s) (run_of k (drop n s))
        → WholeCut s (unwrap_or (option_map (λ m. m + run_of k (drop m s)) (sized n)) 0)
    by zero q c = record { chars = []; rest = s; whole = tt; bytes = refl; many = refl }
    by (suc m) q c =
        let n : ℕ = suc m in
        let front : List ℕ = take n s in
        let long : length front ≡ n = length-take-le n s (omega (arith, char_long s)) in
        let alone : char_size front ≡ length front =
        char_take front (drop n s) (omega arith) (ap char_size (back n) ∙ q ∙ sym long) in
        record {
          chars = front ∷ c.chars;
          rest = c.rest;
          whole = ((omega arith, some_size front (length front) alone (omega arith)), c.whole);
          bytes = append_assoc front (together c.chars) c.rest ∙ ap (λ (l : List ℕ). front ++ l) c.bytes ∙ back n;
          many = omega (arith, length-append front (together c.chars), c.many);
        }

pub longest_run : (s : List ℕ) → LongestRun s
unfolding valid_run
longest_run s =
    record {
      run = run_cut (length s) s;
      longest = λ n c. omega (arith, c.many, within c);
    }
  where
    within : {n : ℕ} (c : WholeCut s n) → length (together c.chars) ≤ valid_run s
    within c = subst (λ (x : List ℕ). length (together c.chars) ≤ valid_run x) c.bytes
        (cut_run c.chars c.rest c.whole)
