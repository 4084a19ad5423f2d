-- A store's calls answer as the book's, and leave the buffers that encode the book's shares and lines, for every list
-- of calls.
-- Assumes nothing.
use Rattle.std.specs.Prelude.{Some, None, Ok, Err}
use mathlib.Core.List.{List, [], ◌∷◌}
use mathlib.Core.Option.{some}
use mathlib.Core.Path.{◌≡◌, refl, ap, ◌∙◌}
use Prim.Native.Nat.{ℕ, zero, suc, ◌-◌, ◌≤◌}
use native.Mathlib.Nat.{sub-zero}
use lib.ListN.{length, replicate}
use borrow.Author.Tests.{le-leb}
use Rattle.store.specs.Parties.{owner_of, by_owner, Owner}
use Rattle.store.specs.Shares.{owners, no_shares, Content, nothing_held, share_sizes, with_held}
use Rattle.store.specs.Book.{Caller, caller, Turn, turn, book_walk, inserted_of, book_insert}
use Rattle.store.specs.Book.{nobody_inserts, book_attempt, Attempt, refused, files, Saving, Call, clear, insert}
use Rattle.store.specs.Book.{save, share, Reply, cleared, inserted, saved, shared, Run, replied, Setting}
use Rattle.store.specs.Book.{book_share, book_turn, shares_after, book_after, run_book}
use Rattle.store.specs.Decode.{content}
use Rattle.store.specs.Guarantee.{fresh}
use Rattle.store.specs.Inner.{Builds}
use Rattle.store.specs.Held.{Key, Held, find, index_max, text_max}
use Rattle.store.specs.Layout.{share_records, records, texts, padded, encode_index, encode_text}
use Rattle.store.specs.Store.{Done, unchanged, on_lines, on_shares, store_clear, store_walk, own_insert}
use Rattle.store.specs.Store.{store_insert, store_attempt, store_share, answered, store_call, Runs, and_runs, run_store}
use Rattle.store.specs.Store.{look_by, looked_at, looked_in}
use Rattle.store.proofs.BookLaws.{Fits, fits_none, share_held, keeps_turn, keeps_run}
use Rattle.store.proofs.BoolLaws.{and_both}
use Rattle.store.proofs.DecodeLaws.{length_text}
use Rattle.store.proofs.ShareLaws.{length_encoded, content_encoded}
use Rattle.store.specs.declared.calls.Tally.{Tally}
use Rattle.store.specs.declared.calls.StoreError.TheVariants as E

none_written : (k o : ℕ) → share_records o (replicate k 0) ≡ []
unfolding share_records
none_written zero o = refl
none_written (suc k) o = none_written k (suc o)

module _ (n m : ℕ) where
  -- an answer and what is held, with the buffers that encode it; a run of the book the same
  abbrev with : {A : Type 0} → A → Content → Done A
  with a c = record { answer = a; index = encode_index n c.shares c.held; text = encode_text m c.held }

  abbrev done : {S : Saving} → Content → Call S → Done (Reply S)
  done c x = with (book_turn n m c x).answer (book_after n m c x)

  abbrev ended : {S : Saving} → Run S → Runs S
  ended r = record {
    answers = r.answers;
    index = encode_index n r.content.shares r.content.held;
    text = encode_text m r.content.held;
  }

  pub fresh_index : fresh n ≡ encode_index n no_shares []
  unfolding encode_index records padded
  fresh_index = rw (none_written owners 0, sub-zero)

  pub fresh_text : fresh m ≡ encode_text m []
  unfolding encode_text texts padded
  fresh_text = rw sub-zero

  module _ (ln : n ≤ index_max) (lm : m ≤ text_max) where
    module _ (c : Content) (f : Fits n m c) where
      abbrev i : List ℕ
      i = encode_index n c.shares c.held

      abbrev t : List ℕ
      t = encode_text m c.held

      long_index : length i ≡ n
      long_index = length_encoded n m c f.front f.good

      long_text : length t ≡ m
      long_text = length_text (n - share_sizes c.shares) m c.held f.good

      is_held : content i t ≡ some c
      is_held = content_encoded n m c f.given f.front f.good ln lm

      on_lines_lem : {A : Type 0} (e : A) (g : ℕ → ℕ → Content → Turn A)
          → on_lines i t (content i t) e (λ d. g (length i) (length t) d)
          ≡ with (g n m c).answer (with_held c (g n m c).held)
      on_lines_lem e g = rw (is_held, long_index, long_text)

      clears : store_clear i t ≡ with (Ok tt) nothing_held
      unfolding store_clear
      clears =
          rw (
            long_index,
            long_text,
            and_both _ _ (le-leb n index_max ln) (le-leb m text_max lm),
            ← fresh_index,
            ← fresh_text,
          )

      abbrev by : ℕ → Caller
      by o = caller n m c.shares o

      walks : (o : ℕ) (s : List ℕ)
          → store_walk i t o s
          ≡ with (book_walk (by o) c.held s).answer (with_held c (book_walk (by o) c.held s).held)
      unfolding store_walk
      walks o s =
          on_lines_lem (record { answer = Err E.Unsound; count = 0 })
          (λ a b d. book_walk (caller a b d.shares o) d.held s)

      inserts : (o : ℕ) (s : List ℕ)
          → own_insert i t o s
          ≡ with (book_insert (by o) c.held s).answer (with_held c (book_insert (by o) c.held s).held)
      unfolding own_insert book_insert
      inserts o s =
          ap (λ (d : Done Tally). record { answer = inserted_of s d.answer; index = d.index; text = d.text })
          (walks o s)

      saves : {B : Type 0} (unsound full crowded : B) (o : ℕ) (x : Attempt B)
          → store_attempt unsound full crowded i t o x
          ≡ with (book_attempt full crowded (by o) c.held x).answer
          (with_held c (book_attempt full crowded (by o) c.held x).held)
      saves unsound full crowded o (refused v) = refl
      saves unsound full crowded o (files h v) =
          on_lines_lem unsound (λ a b d. book_attempt full crowded (caller a b d.shares o) d.held (files h v))

      shares : (o b : ℕ)
          → store_share i t o b ≡ with (book_share n m c o b).answer
          (record { shares = (book_share n m c o b).content.shares; held = c.held })
      unfolding store_share
      shares o b =
          on_shares_lem (λ a e d. book_share a e d o b)
          ∙ ap (λ (hs : List Held). with (book_share n m c o b).answer
          (record { shares = (book_share n m c o b).content.shares; held = hs })) (share_held n m c o b)
        where
          on_shares_lem : (g : ℕ → ℕ → Content → Setting)
              → on_shares i t (content i t) (λ d. g (length i) (length t) d)
              ≡ with (g n m c).answer (g n m c).content
          on_shares_lem g = rw (is_held, long_index, long_text)

      pub one_call : {S : Saving} (x : Call S) → store_call i t x ≡ done c x
      unfolding store_call store_insert book_turn shares_after
      one_call clear = ap (answered cleared) clears
      one_call {S} (insert p s) = go (owner_of p.party)
        where
          go : (w : Owner)
              → answered {S = S} inserted (by_owner w (unchanged i t nobody_inserts) (λ o. own_insert i t o s))
              ≡ with (by_owner w (turn (inserted nobody_inserts) c.held)
              (λ o. replied {S = S} inserted (book_insert (by o) c.held s))).answer
              (with_held c (by_owner w (turn (inserted nobody_inserts) c.held)
              (λ o. replied {S = S} inserted (book_insert (by o) c.held s))).held)
          go None = refl
          go (Some o) = ap (answered inserted) (inserts o s)
      one_call {S} (save p a) = go (owner_of p.party)
        where
          attempt : ℕ → Turn S.Value
          attempt o = book_attempt S.full S.crowded (by o) c.held (S.attempt o a)

          go : (w : Owner)
              → answered {S = S} saved (by_owner w (unchanged i t S.nobody)
              (λ o. store_attempt S.unsound S.full S.crowded i t o (S.attempt o a)))
              ≡ with (by_owner w (turn (saved S.nobody) c.held) (λ o. replied {S = S} saved (attempt o))).answer
              (with_held c (by_owner w (turn (saved S.nobody) c.held)
              (λ o. replied {S = S} saved (attempt o))).held)
          go None = refl
          go (Some o) = ap (answered saved) (saves S.unsound S.full S.crowded o (S.attempt o a))
      one_call (share q b) = ap (answered shared) (shares q.byte b)

    module _ (S : Saving) (owed : Builds S) where
      from : (xs : List (Call S)) (c : Content) → Fits n m c
          → run_store (encode_index n c.shares c.held) (encode_text m c.held) xs ≡ ended (run_book n m c xs)
      unfolding run_store run_book
      from [] c f = refl
      from (x ∷ xs) c f =
          ap (λ (d : Done (Reply S)). and_runs d.answer (run_store d.index d.text xs)) (one_call c f x)
          ∙ ap (and_runs (book_turn n m c x).answer) (from xs (book_after n m c x) (keeps_turn n m lm S owed c f x))

      -- the answers are the book's, and the buffers encode the book's shares and lines
      pub whole : (xs : List (Call S)) → run_store (fresh n) (fresh m) xs ≡ ended (run_book n m nothing_held xs)
      whole xs = rw (fresh_index, fresh_text) (from xs nothing_held (fits_none n m))

      pub still_fits : (xs : List (Call S)) → Fits n m (run_book n m nothing_held xs).content
      still_fits xs = keeps_run n m lm S owed xs nothing_held (fits_none n m)

      pub whole-held : (xs : List (Call S))
          → content (run_store (fresh n) (fresh m) xs).index (run_store (fresh n) (fresh m) xs).text
          ≡ some (run_book n m nothing_held xs).content
      whole-held xs =
          ap (λ (r : Runs S). content r.index r.text) (whole xs)
          ∙ is_held (run_book n m nothing_held xs).content (still_fits xs)

      -- a look-up afterwards finds the book's line, and none exactly when the book has none
      pub whole-look_up : (xs : List (Call S)) (k : Key)
          → look_by k (run_store (fresh n) (fresh m) xs).index (run_store (fresh n) (fresh m) xs).text
          ≡ looked_in (find k (run_book n m nothing_held xs).content.held)
      unfolding look_by
      whole-look_up xs k = ap (looked_at k) (whole-held xs)

      -- the next call answers as the book's, and what is held after it is what the book holds
      module _ (xs : List (Call S)) (x : Call S) where
        abbrev next_call : Done (Reply S)
        next_call = store_call (run_store (fresh n) (fresh m) xs).index (run_store (fresh n) (fresh m) xs).text x

        abbrev before : Content
        before = (run_book n m nothing_held xs).content

        next-done : next_call ≡ done before x
        next-done =
            ap (λ (r : Runs S). store_call r.index r.text x) (whole xs) ∙ one_call before (still_fits xs) x

        pub whole-next : next_call.answer ≡ (book_turn n m before x).answer
        whole-next = ap (λ (d : Done (Reply S)). d.answer) next-done

        pub next-held : content next_call.index next_call.text ≡ some (book_after n m before x)
        next-held =
            ap (λ (d : Done (Reply S)). content d.index d.text) next-done
            ∙ is_held (book_after n m before x) (keeps_turn n m lm S owed before (still_fits xs) x)
