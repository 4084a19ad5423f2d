-- A call's arguments and its reply say what it filed; so nothing of other parties' calls is needed.
-- Assumes nothing.
use Rattle.std.specs.Prelude.{Result, Ok, Err, ⊤, Option, Some, None}
use mathlib.Core.Bool.{Bool, true, false}
use mathlib.Core.List.{List, [], ◌∷◌, ◌++◌}
use mathlib.Core.Path.{◌≡◌, refl, sym, ap, ◌∙◌}
use Prim.Native.Nat.{ℕ, zero, suc, ◌+◌}
use native.Mathlib.Omega.{arith}
use lib.Dec.{eqb}
use borrow.Author.Tests.{eq-eqb, ne_eqb}
use Rattle.text.specs.Bytes.{pick}
use Rattle.text.specs.Utf8.{is_utf8, valid_run}
use Rattle.store.specs.declared.calls.Saved.{Saved}
use Rattle.store.specs.Held.{Held, file}
use Rattle.store.specs.Lines.{lines_of, wanted}
use Rattle.store.specs.Refusals.{save_number}
use Rattle.store.specs.Book.{Caller, under, Reached, after, stopped, reach, on_reached, insert_lines, insert_turn}
use Rattle.store.specs.Book.{book_walk, book_insert, Attempt, refused, files, Call, Reply, room_for, by_room, Turn}
use Rattle.store.specs.Book.{turn}
use Rattle.store.specs.Book.{book_attempt}
use Rattle.store.specs.Filings.{Filing, filing, filed_line, filed_lines, filed_attempt}
use Rattle.store.specs.Saves.{SaveArgs, attempt_of, refused_save, saving}
use Rattle.store.proofs.RefusedLaws.{files_done}
use Rattle.store.specs.declared.calls.StoreError.TheVariants as E
use Rattle.store.specs.declared.calls.SaveError.TheVariants as Sv
use Rattle.store.specs.declared.table.Full.TheVariants as R
use Rattle.store.specs.declared.table.Full.{Full}
use Rattle.text.specs.declared.uuid.Spelled.{Spelled}

-- the lines of filings
unfoldable pub helds : List (Filing saving) → List Held
helds [] = []
helds (f ∷ fs) = f.held ∷ helds fs

pub helds_append : (fs gs : List (Filing saving)) → helds (fs ++ gs) ≡ helds fs ++ helds gs
unfolding helds
helds_append [] gs = refl
helds_append (f ∷ fs) gs = ap (λ (hs : List Held). f.held ∷ hs) (helds_append fs gs)

-- ---- an insert

abbrev pub wanted_under : ℕ → List ℕ → Option Spelled → List Held
wanted_under o l (Some g) = under o g.id l ∷ []
wanted_under o l None = []

-- of the lines that were walked, the wanted ones
unfoldable pub told_lines : ℕ → List (List ℕ) → ℕ → List Held
told_lines o [] c = []
told_lines o (l ∷ ls) zero = []
told_lines o (l ∷ ls) (suc c) = wanted_under o l (wanted l) ++ told_lines o ls c

module _ (by : Caller) where
  -- how many lines an insert walks
  unfoldable walked : List Held → List (List ℕ) → ℕ
  walked hs [] = 0
  walked hs (l ∷ ls) = on_reached (reach by hs l) (λ a. 0) (λ ks. suc (walked ks ls))

  count_is : (ls : List (List ℕ)) (hs : List Held) (c : ℕ) → (insert_lines by hs c ls).answer.count ≡ c + walked hs ls
  unfolding insert_lines walked
  count_is [] hs c = omega arith
  count_is (l ∷ ls) hs c = go (reach by hs l) (λ (ks : List Held). count_is ls ks (suc c))
    where
      go : (r : Reached) → ((ks : List Held) → (insert_lines by ks (suc c) ls).answer.count ≡ suc c + walked ks ls)
          → (on_reached r (λ a. insert_turn hs a c) (λ ks. insert_lines by ks (suc c) ls)).answer.count
          ≡ c + on_reached r (λ a. 0) (λ ks. suc (walked ks ls))
      go (stopped a) ih = omega arith
      go (after ks) ih = omega (arith, ih ks)

  module _ (p : ℕ) (x : Call saving) (a : Reply saving) where
    filed_line_lem : (l : List ℕ) (y : Option Spelled) (fs : List (Filing saving))
        → helds (filed_line p x a by.owner l y ++ fs) ≡ wanted_under by.owner l y ++ helds fs
    unfolding helds
    filed_line_lem l (Some u) fs = refl
    filed_line_lem l None fs = refl

    lines_told : (ls : List (List ℕ)) (hs : List Held)
        → helds (filed_lines p x a by hs ls) ≡ told_lines by.owner ls (walked hs ls)
    unfolding filed_lines walked told_lines helds
    lines_told [] hs = refl
    lines_told (l ∷ ls) hs = go (reach by hs l) (λ (ks : List Held). lines_told ls ks)
      where
        go : (r : Reached)
            → ((ks : List Held) → helds (filed_lines p x a by ks ls) ≡ told_lines by.owner ls (walked ks ls))
            → helds (on_reached r (λ e. [])
            (λ ks. filed_line p x a by.owner l (wanted l) ++ filed_lines p x a by ks ls))
            ≡ told_lines by.owner (l ∷ ls) (on_reached r (λ e. 0) (λ ks. suc (walked ks ls)))
        go (stopped e) ih = refl
        go (after ks) ih =
            filed_line_lem l (wanted l) (filed_lines p x a by ks ls)
            ∙ ap (λ (q : List Held). wanted_under by.owner l (wanted l) ++ q) (ih ks)

    none_told : (ls : List (List ℕ)) → told_lines by.owner ls 0 ≡ []
    unfolding told_lines
    none_told [] = refl
    none_told (l ∷ ls) = refl

    -- whatever it answers: 10, a stop, or done
    pub insert_told : (s : List ℕ) (hs : List Held)
        → helds (pick (is_utf8 s) (filed_lines p x a by hs (lines_of s)) [])
        ≡ told_lines by.owner (lines_of s) (book_insert by hs s).answer.count
    unfolding book_insert book_walk helds
    insert_told s hs = go (is_utf8 s)
      where
        go : (b : Bool)
            → helds (pick b (filed_lines p x a by hs (lines_of s)) [])
            ≡ told_lines by.owner (lines_of s)
            (pick b (insert_lines by hs 0 (lines_of s)) (insert_turn hs (Err (E.NotUtf8 (valid_run s))) 0)).answer.count
        go true =
            let z : 0 + walked hs (lines_of s) ≡ walked hs (lines_of s) = omega arith in
            lines_told (lines_of s) hs
            ∙ ap (told_lines by.owner (lines_of s)) (sym (count_is (lines_of s) hs 0 ∙ z))
        go false = sym (none_told (lines_of s))

-- ---- a save

-- its attempt's line, where its number is 0
abbrev pub told_attempt : Attempt Saved → ℕ → List Held
told_attempt (refused v) k = []
told_attempt (files h v) k = pick (eqb k 0) (h ∷ []) []

full_number : save_number (Err Sv.NoRoom) ≡ 0 → ⊥
full_number e = omega (arith, e)

crowded_number : save_number (Err Sv.NoText) ≡ 0 → ⊥
crowded_number e = omega (arith, e)

module _ (by : Caller) (p : ℕ) (x : Call saving) (a : Reply saving) (o : ℕ) (s : SaveArgs) (hs : List Held) where
  abbrev number : Attempt Saved → ℕ
  number y = save_number (book_attempt (refused_save Sv.NoRoom) (refused_save Sv.NoText) by hs y).answer.answer

  pub save_told : helds (filed_attempt p x a by hs (attempt_of o s)) ≡ told_attempt (attempt_of o s) (number (attempt_of o s))
  save_told = go (attempt_of o s) refl
    where
      room? : (h : Held) (v : Saved) → save_number v.answer ≡ 0 → (r : Result ⊤ Full)
          → helds (by_room r [] [] (filing p x a h ∷ []))
          ≡ pick (eqb (save_number (by_room {A = Turn Saved} r (turn (refused_save Sv.NoRoom) hs)
          (turn (refused_save Sv.NoText) hs) (turn v (file h hs))).answer.answer) 0) (h ∷ []) []
      room? h v z (Err R.Index) = unfold helds in (ap (λ (t : Bool). pick t (h ∷ []) []) (sym (ne_eqb _ 0 full_number)))
      room? h v z (Err R.Text) = unfold helds in (ap (λ (t : Bool). pick t (h ∷ []) []) (sym (ne_eqb _ 0 crowded_number)))
      room? h v z (Ok u) = unfold helds in (ap (λ (t : Bool). pick t (h ∷ []) []) (sym (eq-eqb _ 0 z)))

      go : (y : Attempt Saved) → attempt_of o s ≡ y → helds (filed_attempt p x a by hs y) ≡ told_attempt y (number y)
      go (refused v) e = unfold helds in refl
      go (files h v) e = room? h v (files_done o s h v e) (room_for by h hs)
