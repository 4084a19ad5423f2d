-- How the lines that an insert files are spelled (document 02, P11), proved as `counts-filings` and `found_any_form` in
-- ../proofs/FormLaws.antt.
-- The theorems rest on these definitions; they assume nothing.
use Rattle.std.specs.Prelude.{◌≡◌, true, List, [], ◌∷◌, ◌++◌, ℕ, ◌+◌, ◌≤◌, length, Ok, Some}
use Rattle.text.specs.Utf8.{is_utf8}
use Rattle.text.specs.Uuid.{uuid_of}
use Rattle.text.specs.declared.uuid.Spelled.{Spelled}
use Rattle.line.specs.Fields.{first_field}
use Rattle.store.specs.Parties.{owner_of, Named}
use Rattle.store.specs.Held.{Held, line_max}
use Rattle.store.specs.Lines.{lines_of, wanted}
use Rattle.store.specs.Shares.{Content}
use Rattle.store.specs.Book.{caller, room_for, under, insert_turn, insert_lines, other_spelling, book_insert, Saving}
use Rattle.store.specs.Book.{insert}
use Rattle.store.specs.Store.{look_up, found}
use Rattle.store.specs.Filings.{Filing, filed_by}
use Rattle.store.specs.Saves.{saving}
use Rattle.store.specs.Guarantee.{Calls, book_lines, caller_after, next}

-- of filings those in another form than 32 digits
unfoldable pub other_filings : {S : Saving} → List (Filing S) → ℕ
other_filings [] = 0
other_filings (f ∷ fs) = other_spelling (uuid_of (first_field f.held.line)) + other_filings fs

-- the theorem `counts-filings`: the number that an insert tells is that of the book's filings by it
abbrev pub CountsFilings : Type 0
CountsFilings =
    (p n m : ℕ) (c : Content) (q : Named) (o : ℕ) → owner_of q.party ≡ Some o → (s : List ℕ)
    → (book_insert (caller n m c.shares o) c.held s).answer.not_simple
    ≡ other_filings (filed_by {S = saving} p n m c (insert q s))

-- the theorem `found_any_form`: "Whether a filed line is found doesn't depend on the form." After every list of calls
-- an insert whose last line is wanted and has room: it is found, whichever form g has
abbrev pub FoundAnyForm : ℕ → ℕ → Calls → Type 0
FoundAnyForm n m xs =
    (p : Named) (o : ℕ) → owner_of p.party ≡ Some o
    → (s : List ℕ) (passed : List (List ℕ)) (l : List ℕ) (g : Spelled) (hs : List Held)
    → is_utf8 s ≡ true → lines_of s ≡ passed ++ (l ∷ [])
    → insert_lines (caller_after n m xs o) (book_lines n m xs) 0 passed ≡ insert_turn hs (Ok tt) (length passed)
    → wanted l ≡ Some g → length l ≤ line_max → room_for (caller_after n m xs o) (under o g.id l) hs ≡ Ok tt
    → look_up p.party g.id (next n m xs (insert p s)).index (next n m xs (insert p s)).text ≡ found l
