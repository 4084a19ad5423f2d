-- Pairs that go, and whose entries fit, are read: the map of all their puts. Assumes nothing.
use Rattle.std.specs.Prelude.{Result, Ok, Err}
use Prim.Native.Nat.{ℕ, ◌+◌, ◌≤◌}
use mathlib.Core.Path.{◌≡◌, refl, ap}
use mathlib.Core.List.{List, [], ◌∷◌, ◌++◌}
use mathlib.Core.Bool.{Bool, true, false}
use native.Mathlib.Omega.{arith}
use borrow.Author.Tests.{le-leb}
use lib.Bits.{bit_or}
use lib.ListN.{length}
use Rattle.line.specs.declared.parser.Error.{Error}
use Rattle.line.specs.declared.parser.Token.{Token}
use Rattle.text.specs.Bytes.{pick}
use Rattle.text.proofs.ListLaws.{off}
use Rattle.line.specs.declared.mapping.Entry.{Entry}
use Rattle.line.specs.declared.parser.Token.TheVariants as Tk
use Rattle.line.specs.declared.reading.puts.Puts.{Puts}
use Rattle.line.specs.declared.reading.puts.Puts.TheVariants.{Nothing, Name, One, Two, UnknownHatDirection}
use Rattle.line.specs.Maps.{codes_max, MapView, put_entry, puts_into}
use Rattle.line.specs.Pairs.{pair_of}
use Rattle.line.specs.Puts.{listed, hat_puts, puts_of}
use Rattle.line.specs.Refusals.{error_refusal}
use Rattle.line.specs.Reading.{with_list, put_one, put_all, skips, taken, pairs_from}
use Rattle.line.specs.Effects.{does, stops, puts_effect, answer_effect, effect_of, entries_of, AllGo}
use Rattle.line.specs.Folds.{flags_of, or_all, after}
use Rattle.line.proofs.ViewLaws.{put_grows}
use Rattle.line.proofs.PairLaws.{PairAnswer, pair_answer, pair_anywhere}

-- ---- puts one after the other
pub puts_append : (es fs xs : List Entry) → puts_into (es ++ fs) xs ≡ puts_into fs (puts_into es xs)
unfolding puts_into
puts_append [] fs xs = refl
puts_append (e ∷ es) fs xs = puts_append es fs (put_entry e xs)

pub or_append : (es fs : List ℕ) (h : ℕ) → or_all (es ++ fs) h ≡ or_all fs (or_all es h)
unfolding or_all
or_append [] fs h = refl
or_append (e ∷ es) fs h = or_append es fs (bit_or h e)

pub puts_grow : (es xs : List Entry) → length xs ≤ length (puts_into es xs)
unfolding puts_into
puts_grow [] xs = omega arith
puts_grow (e ∷ es) xs = omega (arith, put_grows e xs, puts_grow es (put_entry e xs))

after-append : (v : MapView) (es fs : List Entry) (a b : List ℕ) → after v (es ++ fs) (a ++ b)
    ≡ after (after v es a) fs b
after-append v es fs a b = rw (puts_append es fs v.list, or_append a b v.hat_flags)

-- ---- one put
module _ (v : MapView) (e : Entry) (p : ℕ) where
  pub one_fits : length (put_entry e v.list) ≤ codes_max → put_one v e p ≡ Ok (with_list v (put_entry e v.list))
  unfolding put_one
  one_fits h = let b = le-leb (length (put_entry e v.list)) codes_max h in rw b

-- ---- the puts of a pair
module _ (v : MapView) (p : ℕ) where
  puts_fit : (x : Puts) → (puts_effect x).goes ≡ true → length (puts_into (puts_effect x).puts v.list) ≤ codes_max
      → put_all v x p ≡ Ok (after v (puts_effect x).puts (puts_effect x).flags)
  unfolding puts_into or_all
  puts_fit Nothing g h = refl
  puts_fit (Name start len) g h = absurd (off g)
  puts_fit (One e flag) g h = rw (one_fits v e p h)
  puts_fit (Two e f flag) g h =
      let k : length (put_entry e v.list) ≤ codes_max = omega (arith, put_grows f (put_entry e v.list)) in
      rw (one_fits v e p k, one_fits (with_list v (put_entry e v.list)) f p h)
  puts_fit UnknownHatDirection g h = absurd (off g)

-- ---- what the walker says of a pair
none_after : (v : MapView) → v ≡ after v [] []
unfolding puts_into or_all
none_after v = refl

module _ (v : MapView) (p q : ℕ) (buttons axes : List ℕ) where
  abbrev pub Fits : Result Token Error → Type 0
  Fits a = length (puts_into (answer_effect a buttons axes).puts v.list) ≤ codes_max

  taken_fits : (a : Result Token Error) → PairAnswer a → (answer_effect a buttons axes).goes ≡ true → Fits a
      → taken v a p q buttons axes
      ≡ Ok (after v (answer_effect a buttons axes).puts (answer_effect a buttons axes).flags)
  unfolding taken answer_effect puts_of PairAnswer
  taken_fits (Ok (Tk.Uuid u)) n g h = absurd n
  taken_fits (Ok (Tk.Name start len)) n g h = absurd n
  taken_fits (Ok (Tk.Platform start len)) n g h = puts_fit v p Nothing g h
  taken_fits (Ok (Tk.AxisMapping k to r)) n g h = puts_fit v p (listed axes k to r) g h
  taken_fits (Ok (Tk.ButtonMapping k to r)) n g h = puts_fit v p (listed buttons k to r) g h
  taken_fits (Ok (Tk.HatMapping k d to r)) n g h = puts_fit v p (hat_puts k d to r) g h
  taken_fits (Err e) n g h = passed_fits (skips e.kind) g
    where
      passed_fits : (t : Bool) → (pick t (does [] []) stops).goes ≡ true
          → pick t (Ok v) (Err (error_refusal e))
          ≡ Ok (after v (pick t (does [] []) stops).puts (pick t (does [] []) stops).flags)
      passed_fits true g = ap Ok (none_after v)
      passed_fits false g = absurd (off g)

-- ---- pairs in line order
module _ (buttons axes : List ℕ) where
  -- one pair, wherever it stands
  pub pair_fits : (f : List ℕ) (p q : ℕ) (v : MapView) → (effect_of f buttons axes).goes ≡ true
      → length (puts_into (effect_of f buttons axes).puts v.list) ≤ codes_max
      → taken v (pair_of f p) p q buttons axes
      ≡ Ok (after v (effect_of f buttons axes).puts (effect_of f buttons axes).flags)
  pair_fits f p q v g h =
      let e = pair_anywhere buttons axes f p 0 in
      rw e at (taken_fits v p q buttons axes (pair_of f p) (pair_answer f p) (rw e g) (rw e h))

  -- pairs that go, and whose entries fit, are accepted: the map of all their puts
  pub pairs_fit : (fs : List (List ℕ)) (p : ℕ) (v : MapView) → AllGo fs buttons axes
      → length (puts_into (entries_of fs buttons axes) v.list) ≤ codes_max
      → pairs_from p fs v buttons axes
      ≡ Ok (after v (entries_of fs buttons axes) (flags_of fs buttons axes))
  unfolding pairs_from AllGo entries_of flags_of
  pairs_fit [] p v g h = ap Ok (none_after v)
  pairs_fit (f ∷ fs) p v g h =
      let w = after v (effect_of f buttons axes).puts (effect_of f buttons axes).flags in
      let k : length (puts_into (entries_of fs buttons axes) w.list) ≤ codes_max =
      rw (puts_append (effect_of f buttons axes).puts (entries_of fs buttons axes) v.list) at h in
      let j : length (puts_into (effect_of f buttons axes).puts v.list) ≤ codes_max =
      omega (arith, puts_grow (entries_of fs buttons axes) w.list) in
      rw (
        pair_fits f p (p + length f + 1) v g.0 j,
        after-append v (effect_of f buttons axes).puts
            (entries_of fs buttons axes) (effect_of f buttons axes).flags (flags_of fs buttons axes),
      )
      (pairs_fit fs (p + length f + 1) w g.1 k)
