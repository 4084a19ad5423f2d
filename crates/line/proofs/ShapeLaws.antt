-- Every map that is read has document 01's shape: the entries that a reading puts stay ascending and at most 256, and the
-- map is made of them once. Assumes nothing.
use Rattle.std.specs.Prelude.{Option, Some, None, Result, Ok, Err}
use Prim.Native.Nat.{ℕ, ◌+◌, ◌≤◌}
use mathlib.Core.Path.{◌≡◌, refl}
use mathlib.Core.Bool.{Bool, true, false}
use mathlib.Core.List.{List, [], ◌∷◌}
use native.Mathlib.Omega.{arith}
use borrow.Author.Tests.{leb-true}
use lib.Dec.{leb, eqb}
use lib.ListN.{length, drop}
use Rattle.text.specs.declared.uuid.Spelled.{Spelled}
use Rattle.line.specs.declared.parser.Error.{Error}
use Rattle.line.specs.declared.parser.Token.{Token}
use Rattle.line.specs.declared.parser.Token.TheVariants as Tk
use Rattle.text.specs.Bytes.{pick, byte, first_of}
use Rattle.text.specs.Utf8.{is_utf8}
use Rattle.line.specs.declared.mapping.Entry.{Entry}
use Rattle.line.specs.declared.reading.puts.Puts.{Puts}
use Rattle.line.specs.declared.reading.puts.Puts.TheVariants.{Nothing, Name, One, Two, UnknownHatDirection}
use Rattle.line.specs.declared.refusal.Refusal.{Refusal}
use Rattle.line.specs.Fields.{fields_of, first_field}
use Rattle.line.specs.Maps.{codes_max, MapView, empty_view, empty_map, Ascending, put_entry}
use Rattle.line.specs.Pairs.{pair_of}
use Rattle.line.specs.Puts.{puts_of}
use Rattle.line.specs.Refusals.{refusal_at}
use Rattle.line.specs.Reading.{follow, with_list, with_hat, put_one, then_put, put_all, skips, taken, pairs_from}
use Rattle.line.specs.Reading.{named_from, headed, read_line, lists_fit, read_view, returned, reading_of}
use Rattle.line.specs.Shapes.{Shaped}
use Rattle.line.specs.Walker.{guid_of}
use Rattle.line.proofs.PickLaws.{picked}
use Rattle.line.proofs.PutLaws.{put_ascending}

pub shaped_empty : Shaped empty_map
unfolding empty_map Ascending
shaped_empty = record { view = empty_view; is = refl; few = omega arith; ascends = tt }

-- ---- the entries of a reading
abbrev Kept : MapView → Type 0
Kept v = (length v.list ≤ codes_max) × Ascending v.list

abbrev AllKept : Result MapView Refusal → Type 0
AllKept (Ok v) = Kept v
AllKept (Err r) = Unit {0}

kept_empty : Kept empty_view
unfolding Ascending
kept_empty = (omega arith, tt)

kept_follow : (r : Result MapView Refusal) (rest : MapView → Result MapView Refusal) → AllKept r
    → ((v : MapView) → Kept v → AllKept (rest v)) → AllKept (follow r rest)
kept_follow (Ok v) rest k f = f v k
kept_follow (Err r) rest k f = tt

kept_one : (v : MapView) (e : Entry) (p : ℕ) → Kept v → AllKept (put_one v e p)
unfolding put_one
kept_one v e p k = by (leb (length (put_entry e v.list)) codes_max) refl
  where
    by : (b : Bool) → leb (length (put_entry e v.list)) codes_max ≡ b
        → AllKept (pick b (Ok (with_list v (put_entry e v.list))) (Err (refusal_at 11 p)))
    by true q = (leb-true (length (put_entry e v.list)) codes_max q, put_ascending e v.list k.1)
    by false q = tt

kept_all : (v : MapView) (x : Puts) (p : ℕ) → Kept v → AllKept (put_all v x p)
kept_all v Nothing p k = k
kept_all v (Name start len) p k = k
kept_all v (One e flags) p k =
    kept_follow (put_one v e p) (λ w. Ok (with_hat w flags)) (kept_one v e p k) (λ w j. j)
kept_all v (Two e f flags) p k =
    kept_follow (then_put (put_one v e p) f p) (λ w. Ok (with_hat w flags))
    (kept_follow (put_one v e p) (λ w. put_one w f p) (kept_one v e p k) (λ w j. kept_one w f p j)) (λ w j. j)
kept_all v UnknownHatDirection p k = tt

module _ (buttons axes : List ℕ) where
  kept_taken : (v : MapView) (a : Result Token Error) (p q : ℕ) → Kept v → AllKept (taken v a p q buttons axes)
  unfolding taken
  kept_taken v (Ok x) p q k = kept_all v (puts_of x q buttons axes) p k
  kept_taken v (Err e) p q k = picked AllKept (skips e.kind) k tt

  kept_pairs : (fs : List (List ℕ)) (p : ℕ) (v : MapView) → Kept v → AllKept (pairs_from p fs v buttons axes)
  unfolding pairs_from
  kept_pairs [] p v k = k
  kept_pairs (f ∷ fs) p v k =
      kept_follow (taken v (pair_of f p) p (p + length f + 1) buttons axes)
      (λ w. pairs_from (p + length f + 1) fs w buttons axes) (kept_taken v (pair_of f p) p (p + length f + 1) k)
      (λ w j. kept_pairs fs (p + length f + 1) w j)

  kept_named : (fs : List (List ℕ)) (p : ℕ) (v : MapView) → Kept v → AllKept (named_from p fs v buttons axes)
  unfolding named_from
  kept_named [] p v k = k
  kept_named (f ∷ fs) p v k =
      kept_follow (taken v (Ok (Tk.Name p (length f))) p (p + length f + 1) buttons axes)
      (λ w. pairs_from (p + length f + 1) fs w buttons axes)
      (kept_taken v (Ok (Tk.Name p (length f))) p (p + length f + 1) k) (λ w j. kept_pairs fs (p + length f + 1) w j)

  kept_headed : (g : Option Spelled) (k : ℕ) (l : List ℕ) → AllKept (headed g k l buttons axes)
  kept_headed None k l = tt
  kept_headed (Some u) k l =
      picked AllKept (eqb k (length l)) tt
      (kept_follow (taken empty_view (Ok (Tk.Uuid u.id)) 0 (k + 1) buttons axes)
      (λ v. named_from (k + 1) (fields_of (drop (k + 1) l)) v buttons axes)
      (kept_taken empty_view (Ok (Tk.Uuid u.id)) 0 (k + 1) kept_empty)
      (λ w j. kept_named (fields_of (drop (k + 1) l)) (k + 1) w j))

  kept_line : (l : List ℕ) → AllKept (read_line l buttons axes)
  unfolding read_line
  kept_line [] = kept_empty
  kept_line (b ∷ l) = kept_headed (guid_of (first_field (b ∷ l))) (first_of (byte ",") (b ∷ l)) (b ∷ l)

  kept_read : (l : List ℕ) → AllKept (read_view l buttons axes)
  unfolding read_view
  kept_read l = picked AllKept (is_utf8 l) (picked AllKept (lists_fit buttons axes) (kept_line l) tt) tt

  -- ---- the map that is made of them
  shaped_returned : (y : Result MapView Refusal) → AllKept y → Shaped (returned y).map
  shaped_returned (Ok v) k = record { view = v; is = refl; few = k.0; ascends = k.1 }
  shaped_returned (Err r) k = shaped_empty

  pub reading_shaped : (l : List ℕ) → Shaped (reading_of l buttons axes).map
  unfolding reading_of
  reading_shaped l = shaped_returned (read_view l buttons axes) (kept_read l)
