-- A reading that is accepted: each of its pairs went, and all their entries fitted. Assumes nothing.
use Rattle.line.proofs.TurnLaws.{refused_not}
use Rattle.std.specs.Prelude.{Option, Some, None, Result, Ok, Err}
use Prim.Native.Nat.{ℕ, ◌+◌, ◌≤◌}
use mathlib.Core.Path.{◌≡◌, refl}
use mathlib.Core.List.{List, [], ◌∷◌}
use mathlib.Core.Bool.{Bool, true, false}
use borrow.Author.Tests.{leb-true}
use lib.Dec.{leb, eqb, ltb}
use lib.ListN.{length, get_or}
use Rattle.line.specs.declared.ev.Axis.{Axis}
use Rattle.line.specs.declared.parser.Error.{Error}
use Rattle.line.specs.declared.parser.Token.{Token}
use Rattle.text.specs.Bytes.{pick}
use Rattle.line.specs.declared.ev.Code.{Code}
use Rattle.line.specs.declared.ev.AxisOrBtn.{AxisOrBtn}
use Rattle.line.specs.declared.ev.AxisOrBtn.TheVariants as El
use Rattle.line.specs.declared.mapping.Entry.{Entry}
use Rattle.line.specs.declared.parser.Ranges.{Ranges}
use Rattle.line.specs.declared.parser.Token.TheVariants as Tk
use Rattle.line.specs.declared.reading.puts.Puts.{Puts}
use Rattle.line.specs.declared.reading.puts.Puts.TheVariants.{Nothing, Name, One, Two, UnknownHatDirection}
use Rattle.line.specs.declared.reading.puts.HatCodes.{HatCodes}
use Rattle.line.specs.declared.refusal.Refusal.{Refusal}
use Rattle.line.specs.Elements.{code_of}
use Rattle.line.specs.Maps.{codes_max, MapView, ranged_entry, put_entry, puts_into}
use Rattle.line.specs.Pairs.{pair_of}
use Rattle.line.specs.Puts.{listed, hat_codes, dpad_axis, beside_of, dpad_puts, codes_puts, hat_puts, puts_of}
use Rattle.line.specs.Refusals.{refusal_at, error_refusal, reading_error_of}
use Rattle.line.specs.Reading.{follow, with_list, with_hat, then_put, put_one, put_all, skips, taken, pairs_from}
use Rattle.line.specs.Reading.{returned}
use Rattle.line.specs.Effects.{does, stops, puts_effect, answer_effect, effect_of, entries_of, AllGo}
use Rattle.line.specs.Folds.{after}
use Rattle.line.proofs.PickLaws.{picked}
use Rattle.line.proofs.PairLaws.{PairAnswer, pair_answer, pair_anywhere}
use Rattle.line.proofs.FoldLaws.{puts_append, one_fits, Fits, pair_fits}

-- ---- what is accepted
abbrev pub Accepted : Result MapView Refusal → Type 0
Accepted (Ok v) = Unit {0}
Accepted (Err r) = ⊥

pub accepted_in : (y : Result MapView Refusal) → (returned y).answer ≡ Ok tt → Accepted y
accepted_in (Ok v) a = tt
accepted_in (Err r) a = refused_not (reading_error_of r) tt a

-- an accepted whole has an accepted first part
first_accepted : (r : Result MapView Refusal) (rest : MapView → Result MapView Refusal) → Accepted (follow r rest) → Accepted r
first_accepted (Ok v) rest a = tt
first_accepted (Err r) rest a = a

-- ---- one put
module _ (v : MapView) (e : Entry) (p : ℕ) where
  abbrev many : ℕ
  many = length (put_entry e v.list)

  pub one_over : leb many codes_max ≡ false → put_one v e p ≡ Err (refusal_at 11 p)
  unfolding put_one
  one_over b = rw b

  one_accepted : Accepted (put_one v e p) → many ≤ codes_max
  one_accepted a = by (leb many codes_max) refl
    where
      by : (t : Bool) → leb many codes_max ≡ t → many ≤ codes_max
      by true b = leb-true many codes_max b
      by false b = absurd (rw (one_over b) at a)

-- ---- the puts of a pair, none of which is a name
unfoldable pub NotName : Puts → Type 0
NotName Nothing = Unit {0}
NotName (Name start len) = ⊥
NotName (One e flag) = Unit {0}
NotName (Two e f flag) = Unit {0}
NotName UnknownHatDirection = Unit {0}

module _ (v : MapView) (p : ℕ) where
  two_accepted : (e f : Entry) → Accepted (then_put (put_one v e p) f p)
      → length (put_entry f (put_entry e v.list)) ≤ codes_max
  two_accepted e f a = by (leb (many v e p) codes_max) refl
    where
      by : (t : Bool) → leb (many v e p) codes_max ≡ t → length (put_entry f (put_entry e v.list)) ≤ codes_max
      by true b =
          let fits = one_fits v e p (leb-true (many v e p) codes_max b) in
          one_accepted (with_list v (put_entry e v.list)) f p (rw fits at a)
      by false b = absurd (rw (one_over v e p b) at a)

  puts_accepted : (x : Puts) → NotName x → length v.list ≤ codes_max → Accepted (put_all v x p)
      → ((puts_effect x).goes ≡ true) × (length (puts_into (puts_effect x).puts v.list) ≤ codes_max)
  unfolding puts_into NotName
  puts_accepted Nothing n h a = (refl, h)
  puts_accepted (Name start len) n h a = absurd n
  puts_accepted (One e flag) n h a =
      (refl, one_accepted v e p (first_accepted (put_one v e p) (λ w. Ok (with_hat w flag)) a))
  puts_accepted (Two e f flag) n h a =
      (refl, two_accepted e f (first_accepted (then_put (put_one v e p) f p) (λ w. Ok (with_hat w flag)) a))
  puts_accepted UnknownHatDirection n h a = absurd a

pub nothing_unnamed : NotName Nothing
unfolding NotName
nothing_unnamed = tt

one_unnamed : (e : Entry) (flag : ℕ) → NotName (One e flag)
unfolding NotName
one_unnamed e flag = tt

pub listed_unnamed : (codes : List ℕ) (n : ℕ) (to : AxisOrBtn) (r : Ranges) → NotName (listed codes n to r)
unfolding listed
listed_unnamed codes n to r =
    picked NotName (ltb n (length codes)) (one_unnamed (ranged_entry (code_of (get_or codes n 0)) to r) 0) nothing_unnamed

beside_unnamed : (b : Option Axis) (c : Code) (e : Entry) (flag : ℕ) → NotName (beside_of b c e flag)
unfolding NotName
beside_unnamed (Some a) c e flag = tt
beside_unnamed None c e flag = tt

dpad_unnamed : (axis button : Code) (to : AxisOrBtn) (r : Ranges) (flag : ℕ) → NotName (dpad_puts axis button to r flag)
unfolding NotName
dpad_unnamed axis button (El.Btn b) r flag = beside_unnamed (dpad_axis b) axis (ranged_entry button (El.Btn b) r) flag
dpad_unnamed axis button (El.Axis a) r flag = tt

codes_unnamed : (c : Option HatCodes) (to : AxisOrBtn) (r : Ranges) → NotName (codes_puts c to r)
unfolding NotName
codes_unnamed (Some c) to r = dpad_unnamed c.axis c.button to r c.flag
codes_unnamed None to r = tt

pub hat_unnamed : (h d : ℕ) (to : AxisOrBtn) (r : Ranges) → NotName (hat_puts h d to r)
unfolding hat_puts
hat_unnamed h d to r = picked NotName (eqb h 0) (picked NotName (eqb d 0) nothing_unnamed (codes_unnamed (hat_codes d) to r)) nothing_unnamed

-- ---- what the walker answers for a pair
none_fits : (v : MapView) → length v.list ≤ codes_max → length (puts_into [] v.list) ≤ codes_max
unfolding puts_into
none_fits v h = h

module _ (v : MapView) (p q : ℕ) (buttons axes : List ℕ) where
  taken_accepted : (a : Result Token Error) → PairAnswer a → length v.list ≤ codes_max
      → Accepted (taken v a p q buttons axes) → ((answer_effect a buttons axes).goes ≡ true) × Fits v p q buttons axes a
  unfolding taken answer_effect puts_of PairAnswer
  taken_accepted (Ok (Tk.Uuid u)) n h a = absurd n
  taken_accepted (Ok (Tk.Name start len)) n h a = absurd n
  taken_accepted (Ok (Tk.Platform start len)) n h a = puts_accepted v p Nothing nothing_unnamed h a
  taken_accepted (Ok (Tk.AxisMapping k to r)) n h a =
      puts_accepted v p (listed axes k to r) (listed_unnamed axes k to r) h a
  taken_accepted (Ok (Tk.ButtonMapping k to r)) n h a =
      puts_accepted v p (listed buttons k to r) (listed_unnamed buttons k to r) h a
  taken_accepted (Ok (Tk.HatMapping k d to r)) n h a = puts_accepted v p (hat_puts k d to r) (hat_unnamed k d to r) h a
  taken_accepted (Err e) n h a = passed (skips e.kind) a
    where
      passed : (t : Bool) → Accepted (pick t (Ok v) (Err (error_refusal e)))
          → ((pick t (does [] []) stops).goes ≡ true)
          × (length (puts_into (pick t (does [] []) stops).puts v.list) ≤ codes_max)
      passed true b = (refl, none_fits v h)
      passed false b = absurd b

-- ---- pairs in line order
module _ (buttons axes : List ℕ) where
  pub pair_accepted : (f : List ℕ) (p q : ℕ) (v : MapView) → length v.list ≤ codes_max
      → Accepted (taken v (pair_of f p) p q buttons axes)
      → ((effect_of f buttons axes).goes ≡ true)
      × (length (puts_into (effect_of f buttons axes).puts v.list) ≤ codes_max)
  pair_accepted f p q v h a =
      let e = pair_anywhere buttons axes f p 0 in
      rw e at (taken_accepted v p q buttons axes (pair_of f p) (pair_answer f p) h a)

  -- `pairs_fit` the other way round
  pub pairs_accepted : (fs : List (List ℕ)) (p : ℕ) (v : MapView) → length v.list ≤ codes_max
      → Accepted (pairs_from p fs v buttons axes)
      → AllGo fs buttons axes × (length (puts_into (entries_of fs buttons axes) v.list) ≤ codes_max)
  unfolding pairs_from AllGo entries_of
  pairs_accepted [] p v h a = (tt, none_fits v h)
  pairs_accepted (f ∷ fs) p v h a =
      let q = p + length f + 1 in
      let r = taken v (pair_of f p) p q buttons axes in
      let first = pair_accepted f p q v h (first_accepted r (λ w. pairs_from q fs w buttons axes) a) in
      let w = after v (effect_of f buttons axes).puts (effect_of f buttons axes).flags in
      let go = rw (pair_fits buttons axes f p q v first.0 first.1) at a in
      let rest = pairs_accepted fs q w first.1 go in
      let all = puts_append (effect_of f buttons axes).puts (entries_of fs buttons axes) v.list in
      ((first.0, rest.0), rw all rest.1)
