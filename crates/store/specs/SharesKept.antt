-- What a share is worth (document 02, P10), proved as `shares_kept` in ../proofs/SharesKeptLaws.antt.
-- The theorem rests on these definitions; they assume nothing.
use Rattle.std.specs.Prelude.{◌≡◌, true, List, ◌∷◌, ◌++◌, ℕ, ◌≤◌, length, Some, Ok}
use Rattle.text.specs.Utf8.{is_utf8}
use Rattle.text.specs.declared.uuid.Spelled.{Spelled}
use Rattle.store.specs.declared.calls.Inserted.{Inserted}
use Rattle.store.specs.Parties.{owner_of, Named}
use Rattle.store.specs.Held.{Held, file, line_max}
use Rattle.store.specs.Shares.{share_of, use_of, claims}
use Rattle.store.specs.Lines.{lines_of, wanted}
use Rattle.store.specs.Refusals.{number}
use Rattle.store.specs.Book.{under, insert_turn, insert_lines, insert, save, inserted, number_of}
use Rattle.store.specs.Saves.{SaveCall, Passes}
use Rattle.store.specs.Guarantee.{Calls, booked, book_lines, caller_after, next, built_held}

-- the share of an owner after a list of calls
abbrev pub share_after : ℕ → ℕ → Calls → ℕ → ℕ
share_after n m xs o = share_of o (booked n m xs).content.shares

pub record SharesKept (n m : ℕ) (xs : Calls) : Type 0 where
  -- the sum over all parties of the larger of use and share never exceeds the text
  pub within : claims (booked n m xs).content.shares (book_lines n m xs) ≤ m
  -- "A filing that leaves its party within its share is then never refused for text, after every list of everyone's calls
  -- from a fresh store.": a save's
  pub save_kept : (p : Named) (o : ℕ) → owner_of p.party ≡ Some o → (c : SaveCall) → Passes c.args
      → use_of o (file (built_held o c.args) (book_lines n m xs)) ≤ share_after n m xs o
      → number_of (next n m xs (save p c)).answer ≡ 25 → ⊥
  -- and that of each line which an insert reaches: it doesn't stop there with 25
  pub insert_kept : (p : Named) (o : ℕ) → owner_of p.party ≡ Some o
      → (s : List ℕ) (passed : List (List ℕ)) (l : List ℕ) (rest : List (List ℕ)) (u : Spelled) (hs : List Held)
      → is_utf8 s ≡ true → lines_of s ≡ passed ++ (l ∷ rest)
      → insert_lines (caller_after n m xs o) (book_lines n m xs) 0 passed ≡ insert_turn hs (Ok tt) (length passed)
      → wanted l ≡ Some u → length l ≤ line_max
      → use_of o (file (under o u.id l) hs) ≤ share_after n m xs o
      → (r : Inserted) → (next n m xs (insert p s)).answer ≡ inserted r → r.count ≡ length passed
      → number r.answer ≡ 25 → ⊥

-- the theorem `shares_kept`, for every list of calls
abbrev pub AllKept : ℕ → ℕ → Type 0
AllKept n m = (xs : Calls) → SharesKept n m xs
