-- Demand 3's 'no room', in the book: what the next save or insert answers, and what is held after it, whatever layer
-- builds.
-- Assumes nothing.
use Rattle.std.specs.Prelude.{Result, Ok, Err, ⊤, Some}
use mathlib.Core.Bool.{Bool, true}
use mathlib.Core.List.{List, [], ◌∷◌, ◌++◌}
use mathlib.Core.Path.{◌≡◌, refl, sym, ap, ◌∙◌}
use Prim.Native.Nat.{ℕ, suc, ◌+◌, ◌≤◌}
use native.Mathlib.Omega.{arith}
use lib.ListN.{length}
use borrow.Author.Tests.{le-ltb}
use Rattle.text.specs.Bytes.{pick}
use Rattle.text.specs.Utf8.{is_utf8, valid_run}
use Rattle.text.specs.declared.uuid.Spelled.{Spelled}
use Rattle.store.specs.declared.calls.Tally.{Tally}
use Rattle.store.specs.Parties.{owner_of, by_owner, Named, Owner}
use Rattle.store.specs.Book.{Caller, caller, turn, room_for, by_room, Turn, under, Reached, after, stopped, reach}
use Rattle.store.specs.Book.{insert_turn, on_reached, insert_lines, book_walk, inserted_of, book_insert, nobody_inserts}
use Rattle.store.specs.Book.{Attempt, files, Saving, book_attempt}
use Rattle.store.specs.Book.{insert, save, Reply, inserted, saved, replied, book_turn}
use Rattle.store.specs.Shares.{Content}
use Rattle.store.specs.Held.{Held, file, line_max}
use Rattle.store.specs.Lines.{lines_of, wanted}
use Rattle.store.specs.declared.calls.StoreError.TheVariants as E
use Rattle.store.specs.declared.table.Full.TheVariants as R
use Rattle.store.specs.declared.calls.StoreError.{StoreError}
use Rattle.store.specs.declared.table.Full.{Full}

module _ (b : Caller) where
  -- an insert that has passed some lines goes on behind them
  goes_on : (passed rest : List (List ℕ)) (hs ks : List Held) (c : ℕ)
      → insert_lines b hs c passed ≡ insert_turn ks (Ok tt) (c + length passed)
      → insert_lines b hs c (passed ++ rest) ≡ insert_lines b ks (c + length passed) rest
  unfolding insert_lines
  goes_on [] rest hs ks c e =
      let z : c ≡ c + 0 = omega arith in
      ap (λ (x : Turn Tally). insert_lines b x.held c rest) e ∙ ap (λ (k : ℕ). insert_lines b ks k rest) z
  goes_on (l ∷ passed) rest hs ks c e =
      go (reach b hs l) (λ (js : List Held). goes_on passed rest js ks (suc c)) e
    where
      next : suc c + length passed ≡ c + suc (length passed)
      next = omega arith

      go : (r : Reached)
          → ((js : List Held) → insert_lines b js (suc c) passed ≡ insert_turn ks (Ok tt) (suc c + length passed)
          → insert_lines b js (suc c) (passed ++ rest) ≡ insert_lines b ks (suc c + length passed) rest)
          → on_reached r (λ a. insert_turn hs a c) (λ js. insert_lines b js (suc c) passed)
          ≡ insert_turn ks (Ok tt) (c + suc (length passed))
          → on_reached r (λ a. insert_turn hs a c) (λ js. insert_lines b js (suc c) (passed ++ rest))
          ≡ insert_lines b ks (c + suc (length passed)) rest
      go (stopped a) ih q = absurd (omega (arith, ap (λ (x : Turn Tally). x.answer.count) q))
      go (after js) ih q =
          ih js (q ∙ ap (insert_turn ks (Ok tt)) (sym next)) ∙ ap (λ (k : ℕ). insert_lines b ks k rest) next

  -- a wanted line within the limit is filed, or stops the insert for want of room
  at_line : (l : List ℕ) (rest : List (List ℕ)) (u : Spelled) (hs : List Held) (c : ℕ) → wanted l ≡ Some u
      → length l ≤ line_max
      → insert_lines b hs c (l ∷ rest)
      ≡ by_room (room_for b (under b.owner u.id l) hs) (insert_turn hs (Err E.NoRoom) c) (insert_turn hs (Err E.NoText) c)
      (insert_lines b (file (under b.owner u.id l) hs) (suc c) rest)
  unfolding insert_lines reach
  at_line l rest u hs c e q = rw (e, le-ltb line_max (length l) q) (go (room_for b its hs))
    where
      its : Held
      its = under b.owner u.id l

      go : (x : Result ⊤ Full)
          → on_reached (by_room x (stopped (Err E.NoRoom)) (stopped (Err E.NoText)) (after (file its hs))) (λ a. insert_turn hs a c)
          (λ ks. insert_lines b ks (suc c) rest)
          ≡ by_room x (insert_turn hs (Err E.NoRoom) c) (insert_turn hs (Err E.NoText) c) (insert_lines b (file its hs) (suc c) rest)
      go (Err R.Index) = refl
      go (Err R.Text) = refl
      go (Ok u) = refl

-- a call of an owner in buffers of n and m bytes, where d is held
module _ (n m : ℕ) (d : Content) (p : Named) (o : ℕ) (own : owner_of p.party ≡ Some o) where
  abbrev c : Caller
  c = caller n m d.shares o

  -- a save that files, or is without room
  module _ (S : Saving) (a : S.Args) (h : Held) (v : S.Value) (e : S.attempt o a ≡ files h v) where
    abbrev filed : Result ⊤ Full → Turn S.Value
    filed r = by_room r (turn S.full d.held) (turn S.crowded d.held) (turn v (file h d.held))

    at_save : book_turn {S = S} n m d (save p a) ≡ replied saved (filed (room_for c h d.held))
    unfolding book_turn
    at_save =
        ap (λ (w : Owner). by_owner w (turn (saved S.nobody) d.held)
        (λ o. replied saved
        (book_attempt S.full S.crowded (caller n m d.shares o) d.held (S.attempt o a)))) own
        ∙ ap (λ (y : Attempt S.Value). replied saved (book_attempt S.full S.crowded c d.held y)) e

    pub save_answers : (book_turn {S = S} n m d (save p a)).answer
        ≡ by_room (room_for c h d.held) (saved S.full) (saved S.crowded) (saved v)
    save_answers = ap (λ (y : Turn (Reply S)). y.answer) at_save ∙ go (room_for c h d.held)
      where
        go : (r : Result ⊤ Full)
            → ◌≡◌ {A = Reply S} (saved (filed r).answer) (by_room r (saved S.full) (saved S.crowded) (saved v))
        go (Err R.Index) = refl
        go (Err R.Text) = refl
        go (Ok u) = refl

    pub save_holds : (book_turn {S = S} n m d (save p a)).held
        ≡ by_room (room_for c h d.held) d.held d.held (file h d.held)
    save_holds = ap (λ (y : Turn (Reply S)). y.held) at_save ∙ go (room_for c h d.held)
      where
        go : (r : Result ⊤ Full) → (filed r).held ≡ by_room r d.held d.held (file h d.held)
        go (Err R.Index) = refl
        go (Err R.Text) = refl
        go (Ok u) = refl

  -- an insert that has passed some lines and reaches a wanted one
  module _ (S : Saving) (s : List ℕ) (passed : List (List ℕ)) (l : List ℕ) (rest : List (List ℕ)) (u : Spelled)
      (hs : List Held) (valid : is_utf8 s ≡ true) (cut : lines_of s ≡ passed ++ (l ∷ rest))
      (reached : insert_lines c d.held 0 passed ≡ insert_turn hs (Ok tt) (length passed))
      (e : wanted l ≡ Some u) (q : length l ≤ line_max) where
    abbrev its : Held
    its = under o u.id l

    abbrev onward : Turn Tally
    onward = insert_lines c (file its hs) (suc (length passed)) rest

    abbrev told : Turn Tally → Turn (Reply S)
    told x = turn (inserted (inserted_of s x.answer)) x.held

    abbrev walked : Result ⊤ Full → Turn Tally
    walked r = by_room r (insert_turn hs (Err E.NoRoom) (length passed)) (insert_turn hs (Err E.NoText) (length passed)) onward

    at_insert : book_turn {S = S} n m d (insert p s) ≡ told (walked (room_for c its hs))
    unfolding book_turn book_insert book_walk
    at_insert =
        ap (λ (w : Owner). by_owner w (turn (inserted nobody_inserts) d.held)
        (λ o. replied {S = S} inserted (book_insert (caller n m d.shares o) d.held s))) own
        ∙ ap (λ (b : Bool). told (pick b (insert_lines c d.held 0 (lines_of s))
        (insert_turn d.held (Err (E.NotUtf8 (valid_run s))) 0))) valid
        ∙ ap (λ (ls : List (List ℕ)). told (insert_lines c d.held 0 ls)) cut
        ∙ ap told
        (goes_on c passed (l ∷ rest) d.held hs 0 (reached ∙ ap (insert_turn hs (Ok tt)) (sym zero))
        ∙ ap (λ (k : ℕ). insert_lines c hs k (l ∷ rest)) zero ∙ at_line c l rest u hs (length passed) e q)
      where
        zero : 0 + length passed ≡ length passed
        zero = omega arith

    abbrev stops : Result ⊤ StoreError → Reply S
    stops a = inserted (inserted_of s (record { answer = a; count = length passed }))

    pub insert_answers : (book_turn {S = S} n m d (insert p s)).answer
        ≡ by_room (room_for c its hs) (stops (Err E.NoRoom)) (stops (Err E.NoText)) (inserted (inserted_of s onward.answer))
    insert_answers = ap (λ (y : Turn (Reply S)). y.answer) at_insert ∙ go (room_for c its hs)
      where
        go : (r : Result ⊤ Full)
            → ◌≡◌ {A = Reply S} (told (walked r)).answer
            (by_room r (stops (Err E.NoRoom)) (stops (Err E.NoText)) (inserted (inserted_of s onward.answer)))
        go (Err R.Index) = refl
        go (Err R.Text) = refl
        go (Ok u) = refl

    pub insert_holds : (book_turn {S = S} n m d (insert p s)).held ≡ by_room (room_for c its hs) hs hs onward.held
    insert_holds = ap (λ (y : Turn (Reply S)). y.held) at_insert ∙ go (room_for c its hs)
      where
        go : (r : Result ⊤ Full) → (walked r).held ≡ by_room r hs hs onward.held
        go (Err R.Index) = refl
        go (Err R.Text) = refl
        go (Ok u) = refl
