-- What the book holds under a key is the line last filed under it since the last clear.
-- Assumes nothing.
use Rattle.std.specs.Prelude.{Option as Optional, Result, Ok, Err, ⊤, Some, None}
use mathlib.Core.Bool.{Bool, true, false}
use mathlib.Core.List.{List, [], ◌∷◌, ◌++◌, append-nil, append_assoc}
use mathlib.Core.Option.{Option, none, some}
use mathlib.Core.Path.{◌≡◌, refl, sym, ap, ◌∙◌}
use Prim.Native.Nat.{ℕ, suc}
use lib.Dec.{ltb}
use lib.ListN.{length}
use Rattle.text.specs.Bytes.{pick}
use Rattle.text.specs.Utf8.{is_utf8, valid_run}
use Rattle.text.specs.declared.uuid.Spelled.{Spelled}
use Rattle.store.specs.Parties.{owner_of, by_owner, Owner}
use Rattle.store.specs.Book.{Caller, caller, turn, room_for, by_room, under, Reached, after, stopped, reach_wanted}
use Rattle.store.specs.Book.{reach, insert_turn, replied, inserted, nobody_inserts}
use Rattle.store.specs.Book.{on_reached, insert_lines, book_walk, book_insert, Attempt, refused, files, Saving}
use Rattle.store.specs.Book.{book_attempt}
use Rattle.store.specs.Book.{Call, clear, insert, save, share, Reply, saved, book_turn, book_after, run_book}
use Rattle.store.specs.Shares.{Content}
use Rattle.store.specs.Filings.{Filing, filing, filed_line, filed_lines, filed_attempt, filed_by, since}
use Rattle.store.specs.Filings.{filings, later_or, last_filed, line_filed}
use Rattle.store.specs.Held.{Key, Held, same_key, file, find, line_max}
use Rattle.store.specs.Lines.{lines_of, wanted}
use Rattle.store.proofs.HeldLaws.{find-file}
use Rattle.store.specs.declared.calls.StoreError.TheVariants as E
use Rattle.store.specs.declared.table.Full.TheVariants as R
use Rattle.store.specs.declared.table.Full.{Full}

-- ---- the last of several filings

later_assoc : {A : Type 0} (a b o : Option A) → later_or (later_or a b) o ≡ later_or a (later_or b o)
later_assoc none b o = refl
later_assoc (some x) b o = refl

module _ {S : Saving} (key : Key) where
  pub last_append : (fs gs : List (Filing S)) → last_filed key (fs ++ gs) ≡ later_or (last_filed key gs) (last_filed key fs)
  unfolding last_filed
  last_append [] gs = go (last_filed key gs)
    where
      go : (o : Option (Filing S)) → o ≡ later_or o none
      go none = refl
      go (some f) = refl
  last_append (f ∷ fs) gs =
      ap (λ (o : Option (Filing S)). later_or o (pick (same_key key f.held.key) (some f) none)) (last_append fs gs)
      ∙ later_assoc (last_filed key gs) (last_filed key fs) (pick (same_key key f.held.key) (some f) none)

  -- the book that holds hs holds under `key` what was last filed
  abbrev Holds : List Held → List (Filing S) → Type 0
  Holds hs fs = find key hs ≡ line_filed (last_filed key fs)

  holds-file : (f : Filing S) (hs : List Held) (fs : List (Filing S)) → Holds hs fs
      → Holds (file f.held hs) (fs ++ (f ∷ []))
  holds-file f hs fs e =
      find-file key f.held hs
      ∙ ap (λ (o : Option (List ℕ)). pick (same_key key f.held.key) (some f.held.line) o) e
      ∙ sym (ap line_filed (last_append fs (f ∷ [])) ∙ unfold last_filed in (go (same_key key f.held.key)))
    where
      go : (b : Bool) → line_filed (later_or (pick b (some f) none) (last_filed key fs))
          ≡ pick b (some f.held.line) (line_filed (last_filed key fs))
      go true = refl
      go false = refl

  holds-nothing : (hs : List Held) (fs : List (Filing S)) → Holds hs fs → Holds hs (fs ++ [])
  holds-nothing hs fs e = e ∙ ap (λ (q : List (Filing S)). line_filed (last_filed key q)) (sym (append-nil fs))

  module _ (c : Caller) (p : ℕ) (x : Call S) (a : Reply S) where
    -- what one line does
    abbrev Says : List (Filing S) → Reached → Type 0
    Says fs (after ks) = Holds ks fs
    Says fs (stopped e) = Unit {0}

    abbrev its : List ℕ → Spelled → Held
    its l u = under c.owner u.id l

    says-reach : (hs : List Held) (fs : List (Filing S)) (l : List ℕ) → Holds hs fs
        → Says (fs ++ filed_line p x a c.owner l (wanted l)) (reach c hs l)
    unfolding reach
    says-reach hs fs l e = go (wanted l)
      where
        fits : (u : Spelled) (r : Result ⊤ Full)
            → Says (fs ++ (filing p x a (its l u) ∷ []))
            (by_room r (stopped (Err E.NoRoom)) (stopped (Err E.NoText)) (after (file (its l u) hs)))
        fits u (Err R.Index) = tt
        fits u (Err R.Text) = tt
        fits u (Ok _) = holds-file (filing p x a (its l u)) hs fs e

        short : (u : Spelled) (b : Bool)
            → Says (fs ++ (filing p x a (its l u) ∷ []))
            (pick b (stopped (Err E.LineTooLong))
            (by_room (room_for c (its l u) hs) (stopped (Err E.NoRoom)) (stopped (Err E.NoText)) (after (file (its l u) hs))))
        short u true = tt
        short u false = fits u (room_for c (its l u) hs)

        go : (y : Optional Spelled) → Says (fs ++ filed_line p x a c.owner l y) (reach_wanted c hs l y)
        go None = holds-nothing hs fs e
        go (Some u) = short u (ltb line_max (length l))

    abbrev one : List ℕ → List (Filing S)
    one l = filed_line p x a c.owner l (wanted l)

    says_lines : (ls : List (List ℕ)) (hs : List Held) (fs : List (Filing S)) (k : ℕ) → Holds hs fs
        → Holds (insert_lines c hs k ls).held (fs ++ filed_lines p x a c hs ls)
    unfolding insert_lines filed_lines
    says_lines [] hs fs k e = holds-nothing hs fs e
    says_lines (l ∷ ls) hs fs k e =
        go (reach c hs l) (says-reach hs fs l e)
        (λ (ks : List Held) (q : Holds ks (fs ++ one l)). says_lines ls ks (fs ++ one l) (suc k) q)
      where
        go : (r : Reached) → Says (fs ++ one l) r
            → ((ks : List Held) → Holds ks (fs ++ one l)
            → Holds (insert_lines c ks (suc k) ls).held ((fs ++ one l) ++ filed_lines p x a c ks ls))
            → Holds (on_reached r (λ e. insert_turn hs e k) (λ ks. insert_lines c ks (suc k) ls)).held
            (fs ++ on_reached r (λ e. []) (λ ks. one l ++ filed_lines p x a c ks ls))
        go (stopped e') q ih = holds-nothing hs fs e
        go (after ks) q ih =
            ih ks q
            ∙ ap (λ (gs : List (Filing S)). line_filed (last_filed key gs))
            (append_assoc fs (one l) (filed_lines p x a c ks ls))

    says_insert : (s : List ℕ) (hs : List Held) (fs : List (Filing S)) → Holds hs fs
        → Holds (book_insert c hs s).held (fs ++ pick (is_utf8 s) (filed_lines p x a c hs (lines_of s)) [])
    unfolding book_insert book_walk
    says_insert s hs fs e = go (is_utf8 s)
      where
        go : (b : Bool)
            → Holds (pick b (insert_lines c hs 0 (lines_of s)) (insert_turn hs (Err (E.NotUtf8 (valid_run s))) 0)).held
            (fs ++ pick b (filed_lines p x a c hs (lines_of s)) [])
        go true = says_lines (lines_of s) hs fs 0 e
        go false = holds-nothing hs fs e

    says_save : (y : Attempt S.Value) (hs : List Held) (fs : List (Filing S)) → Holds hs fs
        → Holds (book_attempt S.full S.crowded c hs y).held (fs ++ filed_attempt p x a c hs y)
    says_save (refused v) hs fs e = holds-nothing hs fs e
    says_save (files h v) hs fs e = go (room_for c h hs)
      where
        go : (r : Result ⊤ Full)
            → Holds (by_room r (turn S.full hs) (turn S.crowded hs) (turn v (file h hs))).held
            (fs ++ by_room r [] [] (filing p x a h ∷ []))
        go (Err R.Index) = holds-nothing hs fs e
        go (Err R.Text) = holds-nothing hs fs e
        go (Ok _) = holds-file (filing p x a h) hs fs e

  module _ (n m : ℕ) where
    says-turn : (p : ℕ) (c : Content) (fs : List (Filing S)) (x : Call S) → Holds c.held fs
        → Holds (book_turn n m c x).held (since x fs (filed_by p n m c x))
    unfolding book_turn
    says-turn p c fs clear e = unfold find last_filed in refl
    says-turn p c fs (insert q s) e = go (owner_of q.party) (book_turn n m c (insert q s)).answer
      where
        by : ℕ → Caller
        by o = caller n m c.shares o

        go : (w : Owner) (a : Reply S)
            → Holds (by_owner w (turn (inserted nobody_inserts) c.held)
            (λ o. replied {S = S} inserted (book_insert (by o) c.held s))).held
            (fs ++ by_owner w []
            (λ o. pick (is_utf8 s) (filed_lines p (insert q s) a (by o) c.held (lines_of s)) []))
        go None a = holds-nothing c.held fs e
        go (Some o) a = says_insert (by o) p (insert q s) a s c.held fs e
    says-turn p c fs (save q x) e = go (owner_of q.party) (book_turn n m c (save q x)).answer
      where
        by : ℕ → Caller
        by o = caller n m c.shares o

        go : (w : Owner) (a : Reply S)
            → Holds (by_owner w (turn (saved S.nobody) c.held)
            (λ o. replied {S = S} saved (book_attempt S.full S.crowded (by o) c.held (S.attempt o x)))).held
            (fs ++ by_owner w [] (λ o. filed_attempt p (save q x) a (by o) c.held (S.attempt o x)))
        go None a = holds-nothing c.held fs e
        go (Some o) a = says_save (by o) p (save q x) a (S.attempt o x) c.held fs e
    says-turn p c fs (share q b) e = holds-nothing c.held fs e

    pub says_run : (xs : List (Call S)) (p : ℕ) (c : Content) (fs : List (Filing S)) → Holds c.held fs
        → Holds (run_book n m c xs).content.held (filings p n m c fs xs)
    unfolding run_book filings
    says_run [] p c fs e = e
    says_run (x ∷ xs) p c fs e =
        says_run xs (suc p) (book_after n m c x) (since x fs (filed_by p n m c x)) (says-turn p c fs x e)
