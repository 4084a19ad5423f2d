-- Pairs are refused by 11 exactly where one puts a 257th unlike code: each goes and fits, goes and is over, or is
-- refused for itself, by another number. Assumes nothing.
use Rattle.std.specs.Prelude.{Result, Ok, Err, ⊤}
use Prim.Native.Nat.{ℕ, ◌+◌, ◌<◌, ◌≤◌}
use mathlib.Core.Path.{◌≡◌, refl, sym, ap, subst, ◌∙◌}
use mathlib.Core.Bool.{Bool, true, false}
use mathlib.Core.List.{List, [], ◌∷◌, ◌++◌, append_assoc}
use native.Mathlib.Omega.{arith}
use borrow.Author.Tests.{leb-true, leb-false, lt-leb}
use lib.Dec.{leb}
use lib.ListN.{length}
use Rattle.line.specs.declared.reading.ParseSdlMappingError.{ParseSdlMappingError}
use Rattle.line.specs.declared.parser.Error.{Error}
use Rattle.line.specs.declared.parser.Token.{Token}
use Rattle.text.specs.Bytes.{pick}
use Rattle.text.proofs.ListLaws.{off}
use Rattle.line.specs.declared.mapping.Entry.{Entry}
use Rattle.line.specs.declared.parser.Token.TheVariants as Tk
use Rattle.line.specs.declared.reading.puts.Puts.{Puts}
use Rattle.line.specs.declared.reading.puts.Puts.TheVariants.{Nothing, Name, One, Two, UnknownHatDirection}
use Rattle.line.specs.declared.reading.ParseSdlMappingError.TheVariants as Pe
use Rattle.line.specs.declared.refusal.Refusal.{Refusal}
use Rattle.line.specs.Maps.{codes_max, MapView, put_entry, puts_into}
use Rattle.line.specs.Pairs.{pair_of}
use Rattle.line.specs.Puts.{listed, hat_puts, puts_of}
use Rattle.line.specs.Refusals.{refusal_at, error_refusal, reading_error_of}
use Rattle.line.specs.Reading.{follow, with_list, then_put, put_one, put_all, skips, taken, pairs_from, returned}
use Rattle.line.specs.Effects.{does, stops, puts_effect, answer_effect, effect_of, entries_of, AllGo}
use Rattle.line.specs.Folds.{after}
use Rattle.line.specs.Overfull.{place_after}
use Rattle.line.proofs.KindLaws.{reading_one_to_one}
use Rattle.line.proofs.PairLaws.{PairAnswer, pair_answer, pair_anywhere}
use Rattle.line.proofs.FoldLaws.{puts_append, puts_grow, one_fits, pair_fits}
use Rattle.line.proofs.AcceptedLaws.{NotName, nothing_unnamed, listed_unnamed, hat_unnamed, one_over}
use Rattle.line.proofs.AcceptedLaws.{pair_accepted}

-- ---- 11 among the answers
abbrev pub is11 : Result ⊤ ParseSdlMappingError → ℕ
is11 (Ok u) = 0
is11 (Err (Pe.ParseError e)) = 0
is11 (Err Pe.UnknownHatDirection) = 0
is11 (Err (Pe.TooManyCodes p)) = 1
is11 (Err Pe.ListTooLong) = 0

abbrev place11 : Result ⊤ ParseSdlMappingError → ℕ
place11 (Ok u) = 0
place11 (Err (Pe.ParseError e)) = 0
place11 (Err Pe.UnknownHatDirection) = 0
place11 (Err (Pe.TooManyCodes p)) = p
place11 (Err Pe.ListTooLong) = 0

-- a refusal of the walker is none
error_11 : (e : Error) → is11 (Err (reading_error_of (error_refusal e))) ≡ 0
error_11 e = ap (λ (x : ParseSdlMappingError). is11 (Err x)) (reading_one_to_one.case_back (Pe.ParseError e))

abbrev pub Eleven : ℕ → Result MapView Refusal → Type 0
Eleven q y = (returned y).answer ≡ Err (Pe.TooManyCodes q)

pub no_11 : (a : Result ⊤ ParseSdlMappingError) (q : ℕ) → is11 a ≡ 0 → a ≡ Err (Pe.TooManyCodes q) → ⊥
no_11 a q z e = let y : is11 a ≡ 1 = ap is11 e in omega (arith, y, z)

-- ---- the puts of a pair
none_over : (xs : List Entry) → length xs ≤ codes_max → codes_max < length (puts_into [] xs) → ⊥
unfolding puts_into
none_over xs k o = omega (arith, k, o)

module _ (v : MapView) (p : ℕ) where
  two_over : (e f : Entry) → codes_max < length (put_entry f (put_entry e v.list))
      → then_put (put_one v e p) f p ≡ Err (refusal_at 11 p)
  two_over e f o = by (leb (length (put_entry e v.list)) codes_max) refl
    where
      by : (t : Bool) → leb (length (put_entry e v.list)) codes_max ≡ t
          → then_put (put_one v e p) f p ≡ Err (refusal_at 11 p)
      by true b =
          let long = lt-leb (length (put_entry f (put_entry e v.list))) codes_max o in
          rw (one_fits v e p (leb-true (length (put_entry e v.list)) codes_max b))
          (one_over (with_list v (put_entry e v.list)) f p long)
      by false b = rw (one_over v e p b)

  puts_over : (x : Puts) → length v.list ≤ codes_max → (puts_effect x).goes ≡ true
      → codes_max < length (puts_into (puts_effect x).puts v.list) → put_all v x p ≡ Err (refusal_at 11 p)
  unfolding puts_into
  puts_over Nothing k g o = absurd (omega (arith, k, o))
  puts_over (Name start len) k g o = absurd (off g)
  puts_over (One e flag) k g o = rw (one_over v e p (lt-leb (length (put_entry e v.list)) codes_max o))
  puts_over (Two e f flag) k g o = rw (two_over e f o)
  puts_over UnknownHatDirection k g o = absurd (off g)

  puts_not : (x : Puts) (q : ℕ) → NotName x → (puts_effect x).goes ≡ false → Eleven q (put_all v x p) → ⊥
  unfolding NotName
  puts_not Nothing q n g a = off (sym g)
  puts_not (Name start len) q n g a = n
  puts_not (One e flag) q n g a = off (sym g)
  puts_not (Two e f flag) q n g a = off (sym g)
  puts_not UnknownHatDirection q n g a = no_11 (Err Pe.UnknownHatDirection) q refl a

-- ---- what the walker answers for a pair
module _ (v : MapView) (p q : ℕ) (buttons axes : List ℕ) where
  taken_over : (a : Result Token Error) → PairAnswer a → length v.list ≤ codes_max → (answer_effect a buttons axes).goes ≡ true
      → codes_max < length (puts_into (answer_effect a buttons axes).puts v.list)
      → taken v a p q buttons axes ≡ Err (refusal_at 11 p)
  unfolding taken answer_effect puts_of PairAnswer
  taken_over (Ok (Tk.Uuid u)) n k g o = absurd n
  taken_over (Ok (Tk.Name start len)) n k g o = absurd n
  taken_over (Ok (Tk.Platform start len)) n k g o = puts_over v p Nothing k g o
  taken_over (Ok (Tk.AxisMapping j to r)) n k g o = puts_over v p (listed axes j to r) k g o
  taken_over (Ok (Tk.ButtonMapping j to r)) n k g o = puts_over v p (listed buttons j to r) k g o
  taken_over (Ok (Tk.HatMapping j d to r)) n k g o = puts_over v p (hat_puts j d to r) k g o
  taken_over (Err e) n k g o = passed (skips e.kind) g o
    where
      passed : (t : Bool) → (pick t (does [] []) stops).goes ≡ true
          → codes_max < length (puts_into (pick t (does [] []) stops).puts v.list)
          → pick t (Ok v) (Err (error_refusal e)) ≡ Err (refusal_at 11 p)
      passed true g o = absurd (none_over v.list k o)
      passed false g o = absurd (off g)

  taken_not : (a : Result Token Error) (at : ℕ) → PairAnswer a → (answer_effect a buttons axes).goes ≡ false
      → Eleven at (taken v a p q buttons axes) → ⊥
  unfolding taken answer_effect puts_of PairAnswer
  taken_not (Ok (Tk.Uuid u)) at n g x = n
  taken_not (Ok (Tk.Name start len)) at n g x = n
  taken_not (Ok (Tk.Platform start len)) at n g x = puts_not v p Nothing at nothing_unnamed g x
  taken_not (Ok (Tk.AxisMapping j to r)) at n g x =
      puts_not v p (listed axes j to r) at (listed_unnamed axes j to r) g x
  taken_not (Ok (Tk.ButtonMapping j to r)) at n g x =
      puts_not v p (listed buttons j to r) at (listed_unnamed buttons j to r) g x
  taken_not (Ok (Tk.HatMapping j d to r)) at n g x = puts_not v p (hat_puts j d to r) at (hat_unnamed j d to r) g x
  taken_not (Err e) at n g x = passed (skips e.kind) g x
    where
      passed : (t : Bool) → (pick t (does [] []) stops).goes ≡ false
          → Eleven at (pick t (Ok v) (Err (error_refusal e))) → ⊥
      passed true g x = off (sym g)
      passed false g x = no_11 (Err (reading_error_of (error_refusal e))) at (error_11 e) x

-- ---- pairs in line order, the first of them at p, put into v
module _ (buttons axes : List ℕ) where
  abbrev pub put_by : List ℕ → List Entry
  put_by f = (effect_of f buttons axes).puts

  abbrev next : MapView → List ℕ → MapView
  next v f = after v (put_by f) (effect_of f buttons axes).flags

  abbrev pub all : List (List ℕ) → List Entry
  all fs = entries_of fs buttons axes

  pub record OverFrom (v : MapView) (start : ℕ) (pairs : List (List ℕ)) (p : ℕ) : Type 0 where
    pub earlier : List (List ℕ)
    pub pair : List ℕ
    pub later : List (List ℕ)
    pub are : pairs ≡ earlier ++ pair ∷ later
    pub place : place_after start earlier ≡ p
    pub go : AllGo earlier buttons axes
    pub fit : length (puts_into (all earlier) v.list) ≤ codes_max
    pub goes : (effect_of pair buttons axes).goes ≡ true
    pub over : codes_max < length (puts_into (all earlier ++ put_by pair) v.list)

  module _ (f : List ℕ) (p q : ℕ) (v : MapView) where
    pair_over : length v.list ≤ codes_max → (effect_of f buttons axes).goes ≡ true
        → codes_max < length (puts_into (put_by f) v.list)
        → taken v (pair_of f p) p q buttons axes ≡ Err (refusal_at 11 p)
    pair_over k g o =
        let e = pair_anywhere buttons axes f p 0 in
        taken_over v p q buttons axes (pair_of f p) (pair_answer f p) k (rw e g) (rw e o)

    pair_not : (at : ℕ) → (effect_of f buttons axes).goes ≡ false
        → Eleven at (taken v (pair_of f p) p q buttons axes) → ⊥
    pair_not at g x =
        let e = pair_anywhere buttons axes f p 0 in
        taken_not v p q buttons axes (pair_of f p) at (pair_answer f p) (rw e g) x

    -- a pair that is refused for itself is not refused by 11, and the line with it
    stopped : (at : ℕ) (rest : MapView → Result MapView Refusal) → length v.list ≤ codes_max
        → (effect_of f buttons axes).goes ≡ false
        → Eleven at (follow (taken v (pair_of f p) p q buttons axes) rest) → ⊥
    stopped at rest k g x = by (taken v (pair_of f p) p q buttons axes) refl
      where
        by : (t : Result MapView Refusal) → taken v (pair_of f p) p q buttons axes ≡ t → ⊥
        by (Ok w) e = off (sym g ∙ (pair_accepted buttons axes f p q v k (rw e tt)).0)
        by (Err r) e = pair_not at g (rw e (rw e at x))

  module _ (f : List ℕ) (fs : List (List ℕ)) (p : ℕ) (v : MapView) where
    abbrev beyond : ℕ
    beyond = p + length f + 1

    cons_over : (at : ℕ) → (effect_of f buttons axes).goes ≡ true → OverFrom (next v f) beyond fs at
        → OverFrom v p (f ∷ fs) at
    unfolding AllGo entries_of place_after
    cons_over at g r =
        record {
          earlier = f ∷ r.earlier;
          pair = r.pair;
          later = r.later;
          are = ap (λ (l : List (List ℕ)). f ∷ l) r.are;
          place = r.place;
          go = (g, r.go);
          fit = rw (puts_append (put_by f) (all r.earlier) v.list) r.fit;
          goes = r.goes;
          over =
              rw (
                append_assoc (put_by f) (all r.earlier) (put_by r.pair),
                puts_append (put_by f) (all r.earlier ++ put_by r.pair) v.list,
              )
              r.over;
        }

    here_over : length v.list ≤ codes_max → (effect_of f buttons axes).goes ≡ true
        → codes_max < length (puts_into (put_by f) v.list) → OverFrom v p (f ∷ fs) p
    unfolding AllGo entries_of place_after puts_into
    here_over k g o =
        record {
          earlier = [];
          pair = f;
          later = fs;
          are = refl;
          place = refl;
          go = tt;
          fit = k;
          goes = g;
          over = o;
        }

    abbrev Later : ℕ → Type 0
    Later at =
        (w : MapView) → length w.list ≤ codes_max → Eleven at (pairs_from beyond fs w buttons axes)
        → OverFrom w beyond fs at

    first_over : (at : ℕ) → length v.list ≤ codes_max → Later at
        → Eleven at (pairs_from p (f ∷ fs) v buttons axes) → OverFrom v p (f ∷ fs) at
    unfolding pairs_from
    first_over at k ih a =
        by (effect_of f buttons axes).goes refl (leb (length (puts_into (put_by f) v.list)) codes_max) refl
      where
        by : (g : Bool) → (effect_of f buttons axes).goes ≡ g → (t : Bool)
            → leb (length (puts_into (put_by f) v.list)) codes_max ≡ t → OverFrom v p (f ∷ fs) at
        by true g true t =
            let j = leb-true (length (puts_into (put_by f) v.list)) codes_max t in
            cons_over at g (ih (next v f) j (rw (pair_fits buttons axes f p beyond v g j) at a))
        by true g false t =
            let o = leb-false (length (puts_into (put_by f) v.list)) codes_max t in
            let x : Err (Pe.TooManyCodes p) ≡ Err (Pe.TooManyCodes at) =
            rw (pair_over f p beyond v k g o) at a in
            subst (λ (n : ℕ). OverFrom v p (f ∷ fs) n) (ap place11 x) (here_over k g o)
        by false g t u =
            absurd (stopped f p beyond v at (λ w. pairs_from beyond fs w buttons axes) k g a)

  pub only_over : (fs : List (List ℕ)) (p : ℕ) (v : MapView) (at : ℕ) → length v.list ≤ codes_max
      → Eleven at (pairs_from p fs v buttons axes) → OverFrom v p fs at
  unfolding pairs_from
  only_over [] p v at k a = absurd (no_11 (Ok tt) at refl a)
  only_over (f ∷ fs) p v at k a = first_over f fs p v at k (λ w. only_over fs (p + length f + 1) w at) a

  pub over_says : (es : List (List ℕ)) (f : List ℕ) (fs : List (List ℕ)) (p : ℕ) (v : MapView)
      → length v.list ≤ codes_max → AllGo es buttons axes → length (puts_into (all es) v.list) ≤ codes_max
      → (effect_of f buttons axes).goes ≡ true → codes_max < length (puts_into (all es ++ put_by f) v.list)
      → Eleven (place_after p es) (pairs_from p (es ++ f ∷ fs) v buttons axes)
  unfolding pairs_from AllGo entries_of place_after
  over_says [] f fs p v k go fit g o = rw (pair_over f p (p + length f + 1) v k g o)
  over_says (e ∷ es) f fs p v k go fit g o =
      let fit' : length (puts_into (all es) (puts_into (put_by e) v.list)) ≤ codes_max =
      rw (puts_append (put_by e) (all es) v.list) at fit in
      let o' : codes_max < length (puts_into (all es ++ put_by f) (puts_into (put_by e) v.list)) =
      rw (append_assoc (put_by e) (all es) (put_by f), puts_append (put_by e) (all es ++ put_by f) v.list) at o in
      let j : length (puts_into (put_by e) v.list) ≤ codes_max =
      omega (arith, puts_grow (all es) (puts_into (put_by e) v.list), fit') in
      rw (pair_fits buttons axes e p (p + length e + 1) v go.0 j)
      (over_says es f fs (p + length e + 1) (next v e) j go.1 fit' g o')
