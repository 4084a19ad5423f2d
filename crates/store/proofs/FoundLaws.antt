-- A saved line is wanted under its own UUID, and after a save that answers done it is found until something else is
-- filed under that UUID or the store is cleared: the filings of two lists of calls, one after the other, are joined.
-- Assumes nothing.
use Rattle.std.specs.Prelude.{Result, Ok, Err, ⊤, Some, None}
use mathlib.Core.Bool.{Bool, true, false}
use mathlib.Core.List.{List, [], ◌∷◌, ◌++◌, append_assoc, append-nil}
use mathlib.Core.Option.{Option, none, some}
use mathlib.Core.Path.{◌≡◌, refl, sym, ap, ap₂, subst, ◌∙◌}
use Prim.Native.Nat.{ℕ, suc, ◌+◌, ◌≤◌}
use native.Mathlib.Omega.{arith}
use borrow.Author.Tests.{ltb-false}
use lib.Dec.{ltb}
use lib.ListN.{length, drop_of_length-le}
use lib.Seq.{take_all}
use Rattle.text.specs.Bytes.{pick, first_of}
use Rattle.text.specs.declared.uuid.Form.TheVariants as Fm
use Rattle.text.proofs.BytesLaws.{first_le}
use Rattle.map.specs.declared.error.MappingError.{MappingError}
use Rattle.map.specs.Build.{checks_of}
use Rattle.text.specs.Search.{begins_text, first_text, platform_key, lf}
use Rattle.map.proofs.BuiltLaws.{built_positive}
use Rattle.store.proofs.LimitLaws.{built_fits}
use Rattle.map.proofs.ContentLaws.{built_platform, built_uuid, built_utf8, built_lf}
use Rattle.store.specs.declared.calls.Saved.{Saved}
use Rattle.text.specs.declared.uuid.Uuid.{Uuid}
use Rattle.store.specs.declared.parties.Party.{Party}
use Rattle.store.specs.Parties.{owner_of, by_owner, Named, Owner}
use Rattle.store.specs.Held.{Key, Held, key_by, same_key, file, find, index_max, text_max}
use Rattle.store.specs.Lines.{lines_of, wanted}
use Rattle.store.specs.Book.{Caller, caller, turn, room_for, by_room, under, insert_lines, Attempt, refused, files}
use Rattle.store.specs.Book.{Turn, Saving, book_attempt, Call, clear, insert, save, share, Reply, saved, replied}
use Rattle.store.specs.Book.{book_turn, book_after, run_book}
use Rattle.store.specs.Shares.{Content, nothing_held}
use Rattle.store.specs.Store.{found, no_owner, looked_in, looked_at, look_by, look_up}
use Rattle.store.specs.Saves.{SaveArgs, SaveCall, unsaved_name, refused_save, attempt_after, attempt_of, Passes}
use Rattle.store.specs.Saves.{ReadsBack, saving}
use Rattle.store.specs.Filings.{Filing, filing, filed_attempt, filed_by, since, filings, last_filed, line_filed}
use Rattle.store.specs.Filings.{later_or}
use Rattle.store.specs.Guarantee.{Calls, stored, booked, book_lines, caller_after, next, built_held, built_save}
use Rattle.store.specs.Guarantee.{last_of}
use Rattle.store.specs.Promises.{saved_line, SavedAgain, has_clear, filed_after, around, SavedIsFound}
use Rattle.store.proofs.BoolLaws.{or_left, or_right}
use Rattle.store.proofs.HeldLaws.{same_eq, same_refl, find-file}
use Rattle.store.proofs.FilingsLaws.{last_append}
use Rattle.store.proofs.LineLaws.{cut_first, line_last}
use Rattle.store.proofs.StoreLaws.{whole-look_up, whole-next, next-held}
use Rattle.store.proofs.NextLaws.{insert_holds}
use Rattle.store.proofs.WantedLaws.{platform-none, wanted_is}
use Rattle.store.proofs.Saves.{builds, attempt_files, whole_guarantee}
use Rattle.store.specs.declared.calls.SaveError.TheVariants as Sv
use Rattle.store.specs.declared.calls.SaveError.{SaveError}
use Rattle.store.specs.declared.table.Full.TheVariants as R
use Rattle.store.specs.declared.table.Full.{Full}

-- ---- a saved line, inserted anew

text_most : (q s : List ℕ) → first_text q s ≤ length s
unfolding first_text
text_most q [] = omega arith
text_most q (x ∷ s) = go (begins_text q (x ∷ s)) (text_most q s)
  where
    go : (t : Bool) → first_text q s ≤ length s → pick t 0 (suc (first_text q s)) ≤ suc (length s)
    go true l = omega arith
    go false l = omega arith

-- a text without LF is one line
one_of : (s : List ℕ) → 1 ≤ length s → first_of lf s ≡ length s → lines_of s ≡ s ∷ []
one_of [] h e = absurd (omega arith)
one_of (x ∷ s) h e =
    let l : length (x ∷ s) ≤ suc (first_of lf (x ∷ s)) = omega (arith, e) in
    cut_first x s
    ∙ ap₂ (λ (l : List ℕ) (ls : List (List ℕ)). l ∷ ls)
    (sym (line_last (x ∷ s) (omega (arith, e))) ∙ take_all (length (x ∷ s)) (x ∷ s) (omega arith))
    (ap lines_of (drop_of_length-le (x ∷ s) l) ∙ unfold lines_of in refl)

found_some : (o : Option (List ℕ)) (l : List ℕ) → looked_in o ≡ found l → o ≡ some l
found_some none l e = let z : ◌≡◌ {A = ℕ} 0 1 = cc in absurd (omega arith)
found_some (some x) l e = let w : x ≡ l = cc in ap some w

-- filing a line that is held leaves every look-up
find_again : (u k : Key) (l : List ℕ) (hs : List Held) (r : Result ⊤ Full) → find u hs ≡ some l
    → find k (by_room r hs hs (file (record { key = u; line = l }) hs)) ≡ find k hs
find_again u k l hs (Err R.Index) e = refl
find_again u k l hs (Err R.Text) e = refl
find_again u k l hs (Ok _) e = find-file k (record { key = u; line = l }) hs ∙ go (same_key k u) refl
  where
    go : (t : Bool) → same_key k u ≡ t → pick t (some l) (find k hs) ≡ find k hs
    go true q = sym (ap (λ (x : Key). find x hs) (same_eq k u q) ∙ e)
    go false q = refl

module _ (c : SaveCall) (p : Passes c.args) where
  abbrev a : SaveArgs
  a = c.args

  no_lf : first_of lf a.name ≡ length a.name
  no_lf =
      let x : ltb (first_of lf a.name) (length a.name) ≡ false =
      or_left (ltb (first_of lf a.name) (length a.name)) (ltb (first_text platform_key a.name) (length a.name))
      p.name in
      omega (arith, ltb-false (first_of lf a.name) (length a.name) x, first_le lf a.name)

  no_platform : first_text platform_key a.name ≡ length a.name
  no_platform =
      let x : ltb (first_text platform_key a.name) (length a.name) ≡ false =
      or_right (ltb (first_of lf a.name) (length a.name))
      (ltb (first_text platform_key a.name) (length a.name)) p.name in
      omega (arith, ltb-false (first_text platform_key a.name) (length a.name) x, text_most platform_key a.name)

  line_wanted : wanted (saved_line a) ≡ Some (record { id = a.uuid; form = Fm.Simple })
  line_wanted =
      wanted_is (saved_line a)
      (platform-none (saved_line a)
      (built_platform a.slots a.buttons a.axes a.name a.uuid p.build no_platform))
      ∙ built_uuid a.slots a.buttons a.axes a.name a.uuid c.small

  line_one : lines_of (saved_line a) ≡ saved_line a ∷ []
  line_one =
      one_of (saved_line a) (built_positive a.slots a.buttons a.axes a.name a.uuid)
      (built_lf a.slots a.buttons a.axes a.name a.uuid p.build no_lf)

  module _ (n m : ℕ) (ln : n ≤ index_max) (lm : m ≤ text_max) (xs : Calls) where
    abbrev lines : List Held
    lines = (booked n m xs).content.held

    module _ (by : Named) (o : ℕ) (own : owner_of by.party ≡ Some o) where
      abbrev its : Held
      its = under o a.uuid (saved_line a)

      held_again : (book_turn {S = saving} n m (booked n m xs).content (insert by (saved_line a))).held
          ≡ by_room (room_for (caller_after n m xs o) its lines) lines lines (file its lines)
      held_again =
          insert_holds n m (booked n m xs).content by o own saving (saved_line a) [] (saved_line a) []
          (record { id = a.uuid; form = Fm.Simple }) lines
          (built_utf8 a.slots a.buttons a.axes a.name a.uuid p.build) line_one
          (unfold insert_lines in refl) line_wanted
          (built_fits a.slots a.buttons a.axes a.name a.uuid p.build)
          ∙ unfold insert_lines in refl

      same_by : look_by (key_by o a.uuid) (stored n m xs).index (stored n m xs).text ≡ found (saved_line a) → (k : Key)
          → look_by k (next n m xs (insert by (saved_line a))).index (next n m xs (insert by (saved_line a))).text
          ≡ look_by k (stored n m xs).index (stored n m xs).text
      unfolding look_by
      same_by e k =
          let q : find (key_by o a.uuid) lines ≡ some (saved_line a) =
          found_some (find (key_by o a.uuid) lines) (saved_line a)
          (sym (whole-look_up n m ln lm saving builds xs (key_by o a.uuid)) ∙ e) in
          ap (looked_at k) (next-held n m ln lm saving builds xs (insert by (saved_line a)))
          ∙ ap (λ (hs : List Held). looked_in (find k hs)) held_again
          ∙ ap looked_in
          (find_again (key_by o a.uuid) k (saved_line a) lines (room_for (caller_after n m xs o) its lines) q)
          ∙ sym (whole-look_up n m ln lm saving builds xs k)

    same_finds : (by : Named)
        → look_up by.party a.uuid (stored n m xs).index (stored n m xs).text ≡ found (saved_line a)
        → (q : Party) (u : Uuid)
        → look_up q u (next n m xs (insert by (saved_line a))).index (next n m xs (insert by (saved_line a))).text
        ≡ look_up q u (stored n m xs).index (stored n m xs).text
    unfolding look_up
    same_finds by e q u = go (owner_of by.party) refl e
      where
        i' : List ℕ
        i' = (next n m xs (insert by (saved_line a))).index

        t' : List ℕ
        t' = (next n m xs (insert by (saved_line a))).text

        looks : (o : ℕ) → owner_of by.party ≡ Some o
            → look_by (key_by o a.uuid) (stored n m xs).index (stored n m xs).text ≡ found (saved_line a)
            → (w : Owner) → by_owner w no_owner (λ r. look_by (key_by r u) i' t')
            ≡ by_owner w no_owner (λ r. look_by (key_by r u) (stored n m xs).index (stored n m xs).text)
        looks o own z None = refl
        looks o own z (Some r) = same_by by o own z (key_by r u)

        go : (w : Owner) → owner_of by.party ≡ w
            → by_owner w no_owner (λ o. look_by (key_by o a.uuid) (stored n m xs).index (stored n m xs).text)
            ≡ found (saved_line a)
            → by_owner (owner_of q) no_owner (λ r. look_by (key_by r u) i' t')
            ≡ by_owner (owner_of q) no_owner (λ r. look_by (key_by r u) (stored n m xs).index (stored n m xs).text)
        go None own z = let y : ◌≡◌ {A = ℕ} 0 1 = cc in absurd (omega arith)
        go (Some o) own z = looks o own z (owner_of q)

    pub saved_again : SavedAgain n m xs a
    saved_again = record { is_wanted = line_wanted; one_line = line_one; same = same_finds }

-- ---- two lists of calls, one after the other

module _ {S : Saving} (n m : ℕ) where
  filings-append : (xs ys : List (Call S)) (p : ℕ) (c : Content) (fs : List (Filing S))
      → filings p n m c fs (xs ++ ys)
      ≡ filings (p + length xs) n m (run_book n m c xs).content (filings p n m c fs xs) ys
  unfolding filings run_book
  filings-append [] ys p c fs =
      let z : p ≡ p + 0 = omega arith in ap (λ (k : ℕ). filings k n m c fs ys) z
  filings-append (x ∷ xs) ys p c fs =
      let z : suc p + length xs ≡ p + suc (length xs) = omega arith in
      filings-append xs ys (suc p) (book_after n m c x) (since x fs (filed_by p n m c x))
      ∙ ap (λ (k : ℕ). filings k n m (run_book n m c (x ∷ xs)).content (filings p n m c fs (x ∷ xs)) ys) z

-- what calls without a clear file comes after what was filed before them
filings_kept : (n m : ℕ) (ys : Calls) (p : ℕ) (c : Content) (fs : List (Filing saving)) → has_clear ys ≡ false
    → filings p n m c fs ys ≡ fs ++ filings p n m c [] ys
unfolding filings has_clear
filings_kept n m [] p c fs e = sym (append-nil fs)
filings_kept n m (y ∷ ys) p c fs e =
    go y e (λ (d : Content) (gs : List (Filing saving)). filings_kept n m ys (suc p) d gs)
  where
    Keeps : Type 0
    Keeps = (d : Content) (gs : List (Filing saving)) → has_clear ys ≡ false
        → filings (suc p) n m d gs ys ≡ gs ++ filings (suc p) n m d [] ys

    adds : (x : Call saving) → has_clear ys ≡ false → Keeps
        → filings (suc p) n m (book_after n m c x) (fs ++ filed_by p n m c x) ys
        ≡ fs ++ filings (suc p) n m (book_after n m c x) (filed_by p n m c x) ys
    adds x q ih =
        ih (book_after n m c x) (fs ++ filed_by p n m c x) q
        ∙ append_assoc fs (filed_by p n m c x) (filings (suc p) n m (book_after n m c x) [] ys)
        ∙ ap (λ (gs : List (Filing saving)). fs ++ gs) (sym (ih (book_after n m c x) (filed_by p n m c x) q))

    go : (x : Call saving) → has_clear (x ∷ ys) ≡ false → Keeps
        → filings (suc p) n m (book_after n m c x) (since x fs (filed_by p n m c x)) ys
        ≡ fs ++ filings (suc p) n m (book_after n m c x) (since x [] (filed_by p n m c x)) ys
    go clear q ih = let z : ◌≡◌ {A = ℕ} 0 1 = cc in absurd (omega arith)
    go (insert r s) q ih = adds (insert r s) q ih
    go (save r x) q ih = adds (save r x) q ih
    go (share r b) q ih = adds (share r b) q ih

-- ---- a save that answers done

-- it has passed its checks, there was room, and the answer is build's
record Accepts (n m : ℕ) (d : Content) (o : ℕ) (c : SaveCall) (v : Saved) : Type 0 where
  passed : Passes c.args
  room : room_for (caller n m d.shares o) (built_held o c.args) d.held ≡ Ok tt
  value : v ≡ built_save c.args

same_saved : (x y : Saved) → ◌≡◌ {A = Reply saving} (saved x) (saved y) → x ≡ y
same_saved x y e = cc

full_not_done : ◌≡◌ {A = Result ⊤ SaveError} (Err Sv.NoRoom) (Ok tt) → ⊥
full_not_done e = let z : ◌≡◌ {A = ℕ} 0 1 = cc in omega arith

crowded_not_done : ◌≡◌ {A = Result ⊤ SaveError} (Err Sv.NoText) (Ok tt) → ⊥
crowded_not_done e = let z : ◌≡◌ {A = ℕ} 0 1 = cc in omega arith

unsaved_not_done : ◌≡◌ {A = Result ⊤ SaveError} (Err Sv.UnsavedName) (Ok tt) → ⊥
unsaved_not_done e = let z : ◌≡◌ {A = ℕ} 0 1 = cc in omega arith

refused_not_done : (x : MappingError) → ◌≡◌ {A = Result ⊤ SaveError} (Err (Sv.Refused x)) (Ok tt) → ⊥
refused_not_done x e = let z : ◌≡◌ {A = ℕ} 0 1 = cc in omega arith

abbrev tries : Caller → List Held → Attempt Saved → Turn Saved
tries b hs x = book_attempt (refused_save Sv.NoRoom) (refused_save Sv.NoText) b hs x

abbrev Says : Caller → List Held → Saved → Attempt Saved → Type 0
Says b hs v x = ◌≡◌ {A = Reply saving} (saved (tries b hs x).answer) (saved v)

accepts : (n m : ℕ) (d : Content) (p : Named) (o : ℕ) → owner_of p.party ≡ Some o → (c : SaveCall) (v : Saved)
    → (book_turn {S = saving} n m d (save p c)).answer ≡ saved v → v.answer ≡ Ok tt → Accepts n m d o c v
unfolding book_turn attempt_of
accepts n m d p o own c v e done =
    checked (checks_of a.slots a.buttons a.axes a.name) refl
    (sym (ap (λ (w : Owner). (by_owner w (turn (saved (refused_save Sv.NoOwner)) hs)
    (λ r. replied {S = saving} saved (tries (by r) hs (attempt_of r a)))).answer) own)
    ∙ e)
  where
    a : SaveArgs
    a = c.args

    hs : List Held
    hs = d.held

    by : ℕ → Caller
    by r = caller n m d.shares r

    room? : (r : Result ⊤ Full) → room_for (by o) (built_held o a) hs ≡ r → Passes a
        → ◌≡◌ {A = Reply saving}
        (saved (by_room r (turn (refused_save Sv.NoRoom) hs) (turn (refused_save Sv.NoText) hs)
        (turn (built_save a) (file (built_held o a) hs))).answer)
        (saved v)
        → Accepts n m d o c v
    room? (Err R.Index) q ok w =
        absurd (full_not_done (ap (λ (x : Saved). x.answer) (same_saved (refused_save Sv.NoRoom) v w) ∙ done))
    room? (Err R.Text) q ok w =
        absurd (crowded_not_done (ap (λ (x : Saved). x.answer) (same_saved (refused_save Sv.NoText) v w) ∙ done))
    room? (Ok _) q ok w = record { passed = ok; room = q; value = sym (same_saved (built_save a) v w) }

    named : (b : Bool) → unsaved_name a.name ≡ b → checks_of a.slots a.buttons a.axes a.name ≡ Ok tt
        → Says (by o) hs v (pick b (refused (refused_save Sv.UnsavedName)) (files (built_held o a) (built_save a)))
        → Accepts n m d o c v
    named true q ok w =
        absurd (unsaved_not_done (ap (λ (x : Saved). x.answer) (same_saved (refused_save Sv.UnsavedName) v w) ∙ done))
    named false q ok w = room? (room_for (by o) (built_held o a) hs) refl (record { build = ok; name = q }) w

    checked : (r : Result ⊤ MappingError) → checks_of a.slots a.buttons a.axes a.name ≡ r
        → Says (by o) hs v (attempt_after o a r) → Accepts n m d o c v
    checked (Ok _) ok w = named (unsaved_name a.name) refl ok w
    checked (Err x) ok w =
        absurd (refused_not_done x (ap (λ (y : Saved). y.answer) (same_saved (refused_save (Sv.Refused x)) v w) ∙ done))

module _ (n m : ℕ) (ln : n ≤ index_max) (lm : m ≤ text_max) where
  module _ (xs : Calls) (p : Named) (o : ℕ) (mine : owner_of p.party ≡ Some o) (c : SaveCall) (v : Saved)
      (ok : Accepts n m (booked n m xs).content o c v) where
    abbrev before : List (Filing saving)
    before = filings 0 n m nothing_held [] xs

    abbrev place : ℕ
    place = 0 + length xs

    abbrev reply : Reply saving
    reply = (book_turn {S = saving} n m (booked n m xs).content (save p c)).answer

    abbrev own : Filing saving
    own = filing place (save p c) reply (built_held o c.args)

    -- the save's filing comes last
    then_own : filings 0 n m nothing_held [] (xs ++ (save p c ∷ [])) ≡ before ++ (own ∷ [])
    then_own =
        filings-append n m xs (save p c ∷ []) 0 nothing_held [] ∙ unfold filings in
        (ap (λ (w : Owner). before ++ by_owner w []
        (λ r. filed_attempt place (save p c) reply (caller_after n m xs r) (book_lines n m xs)
        (attempt_of r c.args))) mine
        ∙ ap (λ (y : Attempt Saved). before
        ++ filed_attempt place (save p c) reply (caller_after n m xs o) (book_lines n m xs) y)
        (attempt_files o c.args ok.passed)
        ∙ ap (λ (r : Result ⊤ Full). before ++ by_room r [] [] (own ∷ [])) ok.room)

    last_own : (ys : Calls) → has_clear ys ≡ false
        → last_filed (key_by o c.args.uuid) (filed_after n m (xs ++ (save p c ∷ [])) ys) ≡ none
        → last_of n m (around xs p c ys) (key_by o c.args.uuid) ≡ some own
    last_own ys keep free =
        let k : Key = key_by o c.args.uuid in
        let both : Calls = xs ++ (save p c ∷ []) in
        let later : List (Filing saving) = filed_after n m both ys in
        let z : 0 + length both ≡ length both = omega arith in
        let all : filings 0 n m nothing_held [] (both ++ ys) ≡ (before ++ (own ∷ [])) ++ later
        = filings-append n m both ys 0 nothing_held []
        ∙ ap (λ (i : ℕ). filings i n m (booked n m both).content (filings 0 n m nothing_held [] both) ys) z
        ∙ filings_kept n m ys (length both) (booked n m both).content (filings 0 n m nothing_held [] both) keep
        ∙ ap (λ (fs : List (Filing saving)). fs ++ later) then_own in
        ap (last_filed k) all
        ∙ last_append k (before ++ (own ∷ [])) later
        ∙ ap (λ (w : Option (Filing saving)). later_or w (last_filed k (before ++ (own ∷ [])))) free
        ∙ last_append k before (own ∷ [])
        ∙ unfold last_filed in
        (ap (λ (b : Bool). later_or (later_or none (pick b (some own) none)) (last_filed k before)) (same_refl k))

  pub saved_is_found : SavedIsFound n m
  saved_is_found xs p o mine c v ys answer done keep free =
      let ok : Accepts n m (booked n m xs).content o c v =
      accepts n m (booked n m xs).content p o mine c v
      (sym (whole-next n m ln lm saving builds xs (save p c)) ∙ answer) done in (
        (whole_guarantee n m ln lm (around xs p c ys)).finds p.party c.args.uuid
            ∙ ap (λ (w : Owner). by_owner w no_owner
            (λ r. looked_in (line_filed (last_of n m (around xs p c ys) (key_by r c.args.uuid))))) mine
            ∙ ap (λ (w : Option (Filing saving)). looked_in (line_filed w)) (last_own xs p o mine c v ok ys keep free),
        (
          ok.value,
          subst (λ (w : Saved). ReadsBack c.args (saved_line c.args) w) (sym ok.value)
              (builds.reads o c (built_held o c.args) (built_save c.args)
              (attempt_files o c.args ok.passed)),
        ),
      )
