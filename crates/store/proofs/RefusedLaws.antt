-- Demand 1, of the store and of build: a refusal leaves the lent buffers as they were, since the lines of a sound store
-- are written anew as they stood; an insert that stops at a line leaves what the lines before it leave.
-- Assumes nothing.
use Rattle.std.specs.Prelude.{Result, Ok, Err, ⊤, Some, None}
use mathlib.Core.Bool.{Bool, true, false}
use mathlib.Core.List.{List}
use mathlib.Core.Option.{Option, none, some}
use mathlib.Core.Path.{◌≡◌, refl, sym, ap, ap₂, subst, ◌∙◌}
use Prim.Native.Nat.{ℕ, ◌+◌}
use native.Mathlib.Omega.{arith}
use lib.ListN.{length, take, replicate}
use Rattle.text.specs.Bytes.{pick}
use Rattle.text.specs.Utf8.{is_utf8, valid_run}
use Rattle.store.specs.Held.{Held, file}
use Rattle.map.specs.Build.{checks_of, answer_of, built_line, built_map, returned, left, build_of, output_of}
use Rattle.store.specs.declared.calls.Tally.{Tally}
use Rattle.store.specs.declared.calls.Saved.{Saved}
use Rattle.store.specs.Shares.{Content, with_held, with_share}
use Rattle.store.specs.Layout.{Bytes}
use Rattle.store.specs.Decode.{content}
use Rattle.store.specs.Lines.{lines_of}
use Rattle.store.specs.Refusals.{number, save_number}
use Rattle.store.specs.declared.calls.Inserted.{Inserted}
use Rattle.store.specs.declared.parties.Party.{Party}
use Rattle.store.specs.Parties.{owner_of, by_owner, Owner}
use Rattle.store.specs.Book.{Caller, caller, turn, Turn, room_for, by_room, insert_turn, insert_lines}
use Rattle.store.specs.Book.{book_walk, inserted_of, nobody_inserts}
use Rattle.store.specs.Book.{Attempt, refused, files, book_attempt, Setting, setting, over_text, over_index}
use Rattle.store.specs.Book.{book_share}
use Rattle.store.specs.Store.{Done, unchanged, holding, on_lines, fitting, store_clear, store_walk, own_insert}
use Rattle.store.specs.Store.{store_insert, store_attempt, on_shares, store_share}
use Rattle.store.specs.Saves.{SaveArgs, unsaved_name, refused_save, attempt_after, attempt_of, store_save}
use Rattle.store.specs.Guarantee.{built_held, built_save}
use Rattle.store.specs.Promises.{Untouched, LinesBefore, first_lines, RefusalsLeave, BuildLeaves}
use Rattle.store.proofs.EncodesLaws.{content_encodes}
use Rattle.store.proofs.FrontLaws.{front_lines, front_utf8}
use Rattle.store.proofs.WalkLaws.{lines_before, Walks, walks}
use Rattle.store.specs.declared.calls.StoreError.TheVariants as E
use Rattle.store.specs.declared.calls.SaveError.TheVariants as Sv
use Rattle.store.specs.declared.table.Full.TheVariants as R
use Rattle.store.specs.declared.calls.StoreError.{StoreError}
use Rattle.store.specs.declared.table.Full.{Full}
use Rattle.map.specs.declared.error.MappingError.{MappingError}

-- ---- the calls

-- a save that files answers done
pub files_done : (o : ℕ) (a : SaveArgs) (h : Held) (v : Saved) → attempt_of o a ≡ files h v → save_number v.answer ≡ 0
unfolding attempt_of
files_done o a h v e = go (checks_of a.slots a.buttons a.axes a.name) e
  where
    name : (x : Bool)
        → pick x (refused (refused_save Sv.UnsavedName)) (files (built_held o a) (built_save a)) ≡ files h v
        → save_number v.answer ≡ 0
    name true q = let z : ◌≡◌ {A = ℕ} 0 1 = cc in absurd (omega arith)
    name false q = let w : built_save a ≡ v = cc in ap (λ (y : Saved). save_number y.answer) (sym w)

    go : (r : Result ⊤ MappingError) → attempt_after o a r ≡ files h v → save_number v.answer ≡ 0
    go (Ok _) q = name (unsaved_name a.name) q
    go (Err x) q = let z : ◌≡◌ {A = ℕ} 0 1 = cc in absurd (omega arith)

module _ (i t : List ℕ) (b : Bytes i) where
  -- a sound store is written anew as it was
  kept : {A : Type 0} (c : Content) (a : A) → content i t ≡ some c → holding i t a c ≡ unchanged i t a
  kept c a e =
      ap₂ (λ (x y : List ℕ). record { answer = a; index = x; text = y })
      (sym (content_encodes i t c b e).index) (sym (content_encodes i t c b e).text)

  abbrev cleared_as : Bool → Done (Result ⊤ StoreError)
  cleared_as x =
      pick x (record { answer = Ok tt; index = replicate (length i) 0; text = replicate (length t) 0 })
      (unchanged i t (Err E.BufferTooLarge))

  clear_leaves : (number (store_clear i t).answer ≡ 0 → ⊥) → Untouched i t (store_clear i t)
  unfolding store_clear
  clear_leaves n = go (fitting i t) n
    where
      go : (x : Bool) → (number (cleared_as x).answer ≡ 0 → ⊥) → Untouched i t (cleared_as x)
      go true q = absurd (q refl)
      go false q = refl

  -- who calls, where c is held
  abbrev by : Content → ℕ → Caller
  by c o = caller (length i) (length t) c.shares o

  module _ (o : ℕ) (h : Held) (v : Saved) where
    abbrev saved_by : Option Content → Done Saved
    saved_by w =
        on_lines i t w (refused_save Sv.Unsound)
        (λ c. book_attempt (refused_save Sv.NoRoom) (refused_save Sv.NoText) (by c o) c.held (files h v))

    abbrev filed_in : Content → Result ⊤ Full → Turn Saved
    filed_in c r =
        by_room r (turn (refused_save Sv.NoRoom) c.held) (turn (refused_save Sv.NoText) c.held)
        (turn v (file h c.held))

    abbrev filed_if : Content → Result ⊤ Full → Done Saved
    filed_if c r = holding i t (filed_in c r).answer (with_held c (filed_in c r).held)

  abbrev tries : ℕ → Attempt Saved → Done Saved
  tries o x = store_attempt (refused_save Sv.Unsound) (refused_save Sv.NoRoom) (refused_save Sv.NoText) i t o x

  -- a save's attempt: 21 and 25 after one that files, and all before it
  attempt_leaves : (o : ℕ) (x : Attempt Saved)
      → ((h : Held) (v : Saved) → x ≡ files h v → save_number v.answer ≡ 0)
      → (save_number (tries o x).answer.answer ≡ 0 → ⊥) → Untouched i t (tries o x)
  attempt_leaves o (refused v) done n = refl
  attempt_leaves o (files h v) done n = go (content i t) refl n
    where
      room? : (r : Result ⊤ Full) (c : Content) → content i t ≡ some c
          → (save_number (filed_if o h v c r).answer.answer ≡ 0 → ⊥) → Untouched i t (filed_if o h v c r)
      room? (Err R.Index) c p q = kept c (refused_save Sv.NoRoom) p
      room? (Err R.Text) c p q = kept c (refused_save Sv.NoText) p
      room? (Ok u) c p q = absurd (q (done h v refl))

      go : (w : Option Content) → content i t ≡ w → (save_number (saved_by o h v w).answer.answer ≡ 0 → ⊥)
          → Untouched i t (saved_by o h v w)
      go none p q = refl
      go (some c) p q = room? (room_for (by c o) h c.held) c p q

  save_leaves : (p : Party) (a : SaveArgs) → (save_number (store_save i t p a).answer.answer ≡ 0 → ⊥)
      → Untouched i t (store_save i t p a)
  unfolding store_save
  save_leaves p a n = go (owner_of p) n
    where
      saves : Owner → Done Saved
      saves w = by_owner w (unchanged i t (refused_save Sv.NoOwner)) (λ o. tries o (attempt_of o a))

      go : (w : Owner) → (save_number (saves w).answer.answer ≡ 0 → ⊥) → Untouched i t (saves w)
      go None q = refl
      go (Some o) q = attempt_leaves o (attempt_of o a) (files_done o a) q

  -- a share's setting: 19, 26 and 21
  share_leaves : (o b : ℕ) → (number (store_share i t o b).answer ≡ 0 → ⊥) → Untouched i t (store_share i t o b)
  unfolding store_share book_share
  share_leaves o k n = go (content i t) refl n
    where
      sets : Content → Bool → Bool → Setting
      sets c x y =
          pick x (setting (Err E.ShareTooLarge) c) (pick y (setting (Err E.NoRoom) c) (setting (Ok tt) (with_share o k c)))

      fits : (c : Content) (x y : Bool) → content i t ≡ some c
          → (number (holding i t (sets c x y).answer (sets c x y).content).answer ≡ 0 → ⊥)
          → Untouched i t (holding i t (sets c x y).answer (sets c x y).content)
      fits c true y p q = kept c (Err E.ShareTooLarge) p
      fits c false true p q = kept c (Err E.NoRoom) p
      fits c false false p q = absurd (q refl)

      go : (w : Option Content) → content i t ≡ w
          → (number (on_shares i t w (λ c. book_share (length i) (length t) c o k)).answer ≡ 0 → ⊥)
          → Untouched i t (on_shares i t w (λ c. book_share (length i) (length t) c o k))
      go none p q = refl
      go (some c) p q =
          fits c (over_text (length t) (with_share o k c)) (over_index (length i) (with_share o k c)) p q

  -- an owner's insert
  module _ (o : ℕ) (s : List ℕ) where
    abbrev inserts : Option Content → Done Tally
    inserts w = on_lines i t w (record { answer = Err E.Unsound; count = 0 }) (λ c. book_walk (by c o) c.held s)

    -- its three ways: 19, 10, or a walk over the lines
    abbrev walked : Content → Turn Tally
    walked c = insert_lines (by c o) c.held 0 (lines_of s)

    abbrev walked_to : Content → Done Tally
    walked_to c = holding i t (walked c).answer (with_held c (walked c).held)

    inserts_by : (P : Done Tally → Type 0)
        → (content i t ≡ none → P (unchanged i t (record { answer = Err E.Unsound; count = 0 })))
        → ((c : Content) → content i t ≡ some c → is_utf8 s ≡ false
        → P (holding i t (record { answer = Err (E.NotUtf8 (valid_run s)); count = 0 }) c))
        → ((c : Content) → content i t ≡ some c → is_utf8 s ≡ true → P (walked_to c))
        → P (store_walk i t o s)
    unfolding store_walk book_walk
    inserts_by P f g h = go (content i t) refl
      where
        ways : Content → Bool → Turn Tally
        ways c x = pick x (walked c) (insert_turn c.held (Err (E.NotUtf8 (valid_run s))) 0)

        valid : (x : Bool) (c : Content) → is_utf8 s ≡ x → content i t ≡ some c
            → P (holding i t (ways c x).answer (with_held c (ways c x).held))
        valid true c e p = h c p e
        valid false c e p = g c p e

        go : (w : Option Content) → content i t ≡ w → P (inserts w)
        go none p = f p
        go (some c) p = valid (is_utf8 s) c refl p

    walk_leaves : (k : ℕ) → ((c : Content) (a : Result ⊤ StoreError) → Walks (by c o) a → number a ≡ k → ⊥)
        → number (store_walk i t o s).answer.answer ≡ k → Untouched i t (store_walk i t o s)
    walk_leaves k never =
        inserts_by (λ d. number d.answer.answer ≡ k → Untouched i t d)
        (λ p e. refl)
        (λ c p v e. kept c (record { answer = Err (E.NotUtf8 (valid_run s)); count = 0 }) p)
        (λ c p v e. absurd (never c (walked c).answer.answer (walks (by c o) (lines_of s) c.held 0) e))

    own_leaves : (k : ℕ) → ((c : Content) (a : Result ⊤ StoreError) → Walks (by c o) a → number a ≡ k → ⊥)
        → number (own_insert i t o s).answer.answer ≡ k → Untouched i t (own_insert i t o s)
    unfolding own_insert
    own_leaves k never e =
        ap (λ (d : Done Tally). record
        { answer = inserted_of s (store_walk i t o s).answer; index = d.index; text = d.text })
        (walk_leaves k never e)

  -- a party's insert is its owner's
  owned : (p : Party) (o : ℕ) → owner_of p ≡ Some o → (s : List ℕ) → store_insert i t p s ≡ own_insert i t o s
  unfolding store_insert
  owned p o e s = ap (λ (w : Owner). by_owner w (unchanged i t nobody_inserts) (λ o. own_insert i t o s)) e

  turned_away : (p : Party) → owner_of p ≡ None → (s : List ℕ) → store_insert i t p s ≡ unchanged i t nobody_inserts
  unfolding store_insert
  turned_away p e s = ap (λ (w : Owner). by_owner w (unchanged i t nobody_inserts) (λ o. own_insert i t o s)) e

  insert_leaves : (p : Party) (s : List ℕ) (k : ℕ)
      → ((o : ℕ) (c : Content) (a : Result ⊤ StoreError) → Walks (by c o) a → number a ≡ k → ⊥)
      → number (store_insert i t p s).answer.answer ≡ k → Untouched i t (store_insert i t p s)
  insert_leaves p s k never = go (owner_of p) refl
    where
      Goal : Done Inserted → Type 0
      Goal d = number d.answer.answer ≡ k → Untouched i t d

      go : (w : Owner) → owner_of p ≡ w → Goal (store_insert i t p s)
      go None e = subst Goal (sym (turned_away p e s)) (λ q. refl)
      go (Some o) e = subst Goal (sym (owned p o e s)) (own_leaves o s k (never o))

  -- an owner's insert of the lines that were walked
  record OwnBefore (o : ℕ) (s before : List ℕ) : Type 0 where
    answer : (own_insert i t o before).answer.answer ≡ Ok tt
    count : (own_insert i t o before).answer.count ≡ (own_insert i t o s).answer.count
    index : (own_insert i t o before).index ≡ (own_insert i t o s).index
    text : (own_insert i t o before).text ≡ (own_insert i t o s).text

  own_before : (o : ℕ) (s before : List ℕ) → is_utf8 s ≡ true → is_utf8 before ≡ true
      → lines_of before ≡ take (own_insert i t o s).answer.count (lines_of s)
      → (number (own_insert i t o s).answer.answer ≡ 19 → ⊥)
      → OwnBefore o s before
  unfolding own_insert store_walk book_walk
  own_before o s before v w cut n = go (content i t) refl
    where
      go : (q : Option Content) → content i t ≡ q → OwnBefore o s before
      go none p = absurd (n (rw p refl))
      go (some c) p =
          let x : Turn Tally = walked o s c in
          let is : store_walk i t o s ≡ walked_to o s c = rw (p, v) refl in
          let by_count : lines_of before ≡ take x.answer.count (lines_of s)
          = cut ∙ ap (λ (d : Done Tally). take d.answer.count (lines_of s)) is in
          let z : x.answer.count ≡ 0 + x.answer.count = omega arith in
          let y : walked o before c ≡ insert_turn x.held (Ok tt) (0 + x.answer.count)
          = ap (insert_lines (by c o) c.held 0) by_count
          ∙ lines_before (by c o) (lines_of s) c.held 0 x.answer.count z in
          let own : store_walk i t o before
          ≡ holding i t (record { answer = Ok tt; count = 0 + x.answer.count }) (with_held c x.held)
          = rw (p, w) (ap (λ (r : Turn Tally). holding i t r.answer (with_held c r.held)) y) in
          record {
            answer = ap (λ (d : Done Tally). d.answer.answer) own;
            count = ap (λ (d : Done Tally). d.answer.count) own ∙ sym z
                ∙ sym (ap (λ (d : Done Tally). d.answer.count) is);
            index = ap (λ (d : Done Tally). d.index) own ∙ sym (ap (λ (d : Done Tally). d.index) is);
            text = ap (λ (d : Done Tally). d.text) own ∙ sym (ap (λ (d : Done Tally). d.text) is);
          }

  before_leaves : (p : Party) (s before : List ℕ) → is_utf8 s ≡ true → is_utf8 before ≡ true
      → lines_of before ≡ take (store_insert i t p s).answer.count (lines_of s)
      → (number (store_insert i t p s).answer.answer ≡ 24 → ⊥)
      → (number (store_insert i t p s).answer.answer ≡ 19 → ⊥)
      → LinesBefore i t p s before
  before_leaves p s before v w cut away n = go (owner_of p) refl
    where
      go : (x : Owner) → owner_of p ≡ x → LinesBefore i t p s before
      go None e = absurd (away (ap (λ (d : Done Inserted). number d.answer.answer) (turned_away p e s)))
      go (Some o) e =
          let is : store_insert i t p s ≡ own_insert i t o s = owned p o e s in
          let to : store_insert i t p before ≡ own_insert i t o before = owned p o e before in
          let b : OwnBefore o s before
          = own_before o s before v w (cut ∙ ap (λ (d : Done Inserted). take d.answer.count (lines_of s)) is)
          (λ z. n (ap (λ (d : Done Inserted). number d.answer.answer) is ∙ z)) in
          record {
            answer = ap (λ (d : Done Inserted). d.answer.answer) to ∙ b.answer;
            count = ap (λ (d : Done Inserted). d.answer.count) to ∙ b.count
                ∙ sym (ap (λ (d : Done Inserted). d.answer.count) is);
            index = ap (λ (d : Done Inserted). d.index) to ∙ b.index
                ∙ sym (ap (λ (d : Done Inserted). d.index) is);
            text = ap (λ (d : Done Inserted). d.text) to ∙ b.text ∙ sym (ap (λ (d : Done Inserted). d.text) is);
          }

  pub refusals_leave : RefusalsLeave i t
  refusals_leave = record {
    clear_refused = clear_leaves;
    save_refused = save_leaves;
    share_refused = share_leaves;
    insert_24 = λ p s. insert_leaves p s 24 (λ o c a w. w.2);
    insert_19 = λ p s. insert_leaves p s 19 (λ o c a w. w.1);
    insert_10 = λ p s. insert_leaves p s 10 (λ o c a w. w.0);
    insert_front = λ p s v away n.
        before_leaves p s (first_lines (store_insert i t p s).answer.count s) v
        (front_utf8 (store_insert i t p s).answer.count s v) (front_lines s (store_insert i t p s).answer.count)
        away n;
    insert_stopped = before_leaves;
  }

-- ---- build

pub build_leaves : BuildLeaves
unfolding build_of output_of
build_leaves d buttons axes name u out e h = go (answer_of d buttons axes name u (length out)) h
  where
    go : (r : Result ⊤ MappingError)
        → (returned r (built_map d name) (length (built_line d buttons axes name u))).answer ≡ Err e
        → left r out (built_line d buttons axes name u) ≡ out
    go (Ok _) q = let z : ◌≡◌ {A = ℕ} 0 1 = cc in absurd (omega arith)
    go (Err x) q = refl
