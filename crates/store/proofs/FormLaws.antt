-- The lines that an insert files in another form than 32 digits, and that each is found whichever form it has.
-- Assumes nothing.
use Rattle.std.specs.Prelude.{Result, ⊤, Err, Option, Some, None}
use mathlib.Core.Bool.{Bool, true, false}
use mathlib.Core.List.{List, [], ◌∷◌, ◌++◌}
use mathlib.Core.Option.{some}
use mathlib.Core.Path.{◌≡◌, refl, sym, ap, ◌∙◌}
use Prim.Native.Nat.{ℕ, zero, suc, ◌+◌, ◌≤◌}
use native.Mathlib.Omega.{arith}
use lib.ListN.{length, take}
use Rattle.text.specs.Bytes.{pick}
use Rattle.text.specs.Utf8.{is_utf8, valid_run}
use Rattle.store.specs.declared.calls.Tally.{Tally}
use Rattle.store.specs.Parties.{by_owner, Owner}
use Rattle.store.specs.Book.{Caller, caller, Turn, room_for, by_room, under, Reached, after, stopped, reach}
use Rattle.store.specs.Book.{insert_turn, on_reached, insert_lines}
use Rattle.store.specs.Book.{book_walk, other_spelling, other_spellings, book_insert, Saving, Call, insert, Reply}
use Rattle.store.specs.Book.{book_turn}
use Rattle.store.specs.Shares.{with_held}
use Rattle.store.specs.Decode.{content}
use Rattle.store.specs.Filings.{Filing, filed_line, filed_lines}
use Rattle.store.specs.Forms.{other_filings, CountsFilings, FoundAnyForm}
use Rattle.store.specs.Guarantee.{Calls, booked, caller_after, next}
use Rattle.store.specs.Held.{Held, key_by, file, find, index_max, text_max}
use Rattle.store.specs.Lines.{lines_of, wanted}
use Rattle.store.specs.Saves.{saving}
use Rattle.store.specs.Store.{no_owner, looked_in, looked_at, look_by, look_up}
use Rattle.store.proofs.HeldLaws.{same_refl, find-file}
use Rattle.store.proofs.WalkLaws.{count_least}
use Rattle.store.proofs.Saves.{whole_guarantee}
use Rattle.store.proofs.WantedLaws.{wanted_uuid}
use Rattle.store.specs.declared.calls.StoreError.TheVariants as E
use Rattle.store.specs.declared.table.Full.{Full}
use Rattle.text.specs.declared.uuid.Spelled.{Spelled}

-- ---- the number of filings

module _ {S : Saving} (p : ℕ) (x : Call S) (a : Reply S) (by : Caller) where
  one_filing : (l : List ℕ) (w : Option Spelled) → wanted l ≡ w → (fs : List (Filing S))
      → other_spelling w + other_filings fs ≡ other_filings (filed_line p x a by.owner l w ++ fs)
  unfolding other_filings
  one_filing l None e fs = omega arith
  one_filing l (Some g) e fs = ap (λ (w : Option Spelled). other_spelling w + other_filings fs) (sym (wanted_uuid l g e))

  walked-filings : (ls : List (List ℕ)) (hs : List Held) (c k : ℕ) → (insert_lines by hs c ls).answer.count ≡ c + k
      → other_spellings (take k ls) ≡ other_filings (filed_lines p x a by hs ls)
  unfolding insert_lines filed_lines other_spellings other_filings
  walked-filings [] hs c zero e = refl
  walked-filings [] hs c (suc k) e = absurd (omega (arith, e))
  walked-filings (l ∷ ls) hs c zero e = go (reach by hs l) (λ (ks : List Held). count_least by ls ks (suc c)) e
    where
      go : (r : Reached) → ((ks : List Held) → suc c ≤ (insert_lines by ks (suc c) ls).answer.count)
          → (on_reached r (λ b. insert_turn hs b c) (λ ks. insert_lines by ks (suc c) ls)).answer.count ≡ c + 0
          → 0 ≡ other_filings (on_reached r (λ b. []) (λ ks. filed_line p x a by.owner l (wanted l) ++ filed_lines p x a by ks ls))
      go (stopped b) ih q = refl
      go (after ks) ih q = absurd (omega (arith, q, ih ks))
  walked-filings (l ∷ ls) hs c (suc k) e =
      go (reach by hs l) (λ (ks : List Held) (q : (insert_lines by ks (suc c) ls).answer.count ≡ suc c + k).
      walked-filings ls ks (suc c) k q) e
    where
      z : suc c + k ≡ c + suc k
      z = omega arith

      go : (r : Reached)
          → ((ks : List Held) → (insert_lines by ks (suc c) ls).answer.count ≡ suc c + k
          → other_spellings (take k ls) ≡ other_filings (filed_lines p x a by ks ls))
          → (on_reached r (λ b. insert_turn hs b c) (λ ks. insert_lines by ks (suc c) ls)).answer.count ≡ c + suc k
          → other_spelling (wanted l) + other_spellings (take k ls)
          ≡ other_filings (on_reached r (λ b. []) (λ ks. filed_line p x a by.owner l (wanted l) ++ filed_lines p x a by ks ls))
      go (stopped b) ih q = absurd (omega (arith, q))
      go (after ks) ih q =
          ap (λ (j : ℕ). other_spelling (wanted l) + j) (ih ks (q ∙ sym z))
          ∙ one_filing l (wanted l) refl (filed_lines p x a by ks ls)

pub counts-filings : CountsFilings
unfolding book_insert book_walk other_spellings other_filings
counts-filings p n m c q o own s =
    go (is_utf8 s)
    ∙ sym (ap (λ (w : Owner). other_filings (by_owner w []
    (λ r. pick (is_utf8 s) (filed_lines p (insert q s) a (caller n m c.shares r) c.held (lines_of s)) []))) own)
  where
    a : Reply saving
    a = (book_turn {S = saving} n m c (insert q s)).answer

    by : Caller
    by = caller n m c.shares o

    go : (b : Bool)
        → other_spellings (take
        (pick b (insert_lines by c.held 0 (lines_of s))
        (insert_turn c.held (Err (E.NotUtf8 (valid_run s))) 0)).answer.count
        (lines_of s))
        ≡ other_filings (pick b (filed_lines p (insert q s) a by c.held (lines_of s)) [])
    go false = refl
    go true =
        let walk : Turn Tally = insert_lines by c.held 0 (lines_of s) in
        let z : walk.answer.count ≡ 0 + walk.answer.count = omega arith in
        walked-filings p (insert q s) a by (lines_of s) c.held 0 walk.answer.count z

-- ---- found, whichever form

pub found_any_form : (n m : ℕ) → n ≤ index_max → m ≤ text_max → (xs : Calls) → FoundAnyForm n m xs
unfolding look_up look_by insert_lines
found_any_form n m ln lm xs p o own s passed l g hs valid cut reached e q room =
    ap (λ (w : Owner). by_owner w no_owner (λ r. looked_at (key_by r g.id) (content i' t'))) own
    ∙ ap (looked_at (key_by o g.id))
    (leaves ∙ ap (λ (ks : List Held). some (with_held (booked n m xs).content ks)) held)
    ∙ ap looked_in (find-file (key_by o g.id) its hs
    ∙ ap (λ (b : Bool). pick b (some l) (find (key_by o g.id) hs)) (same_refl (key_by o g.id)))
  where
    its : Held
    its = under o g.id l

    i' : List ℕ
    i' = (next n m xs (insert p s)).index

    t' : List ℕ
    t' = (next n m xs (insert p s)).text

    by : Caller
    by = caller_after n m xs o

    onward : List Held
    onward = (insert_lines by (file its hs) (suc (length passed)) []).held

    leaves : content i' t' ≡ some (with_held (booked n m xs).content (by_room (room_for by its hs) hs hs onward))
    leaves = ((whole_guarantee n m ln lm xs).insert_room p o own s passed l [] g hs valid cut reached e q).held

    held : by_room (room_for by its hs) hs hs onward ≡ file its hs
    held = ap (λ (r : Result ⊤ Full). by_room r hs hs onward) room
