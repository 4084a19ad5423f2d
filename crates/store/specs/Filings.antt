-- What a list of calls has filed in the book since the last clear, by which call, and the line last filed under a key:
-- by a party, under a UUID.
-- "In demand 3, filed means filed in the book."
-- The guarantee rests on these definitions; they assume nothing.
use Rattle.std.proofs.Math.Option.{Option, none, some}
use Rattle.std.specs.Prelude.{Option as Optional, List, [], ◌∷◌, ◌++◌, ℕ, zero, suc, Some, None}
use Rattle.text.specs.Bytes.{pick}
use Rattle.text.specs.Utf8.{is_utf8}
use Rattle.store.specs.Held.{Key, Held, same_key}
use Rattle.store.specs.Lines.{lines_of, wanted}
use Rattle.store.specs.Parties.{owner_of, by_owner}
use Rattle.store.specs.Shares.{Content}
use Rattle.store.specs.Book.{Caller, caller, room_for, by_room, under, reach, on_reached, Attempt, refused, files}
use Rattle.store.specs.Book.{Saving, Call, clear, insert, save, share, Reply, book_turn, book_after}
use Rattle.text.specs.declared.uuid.Spelled.{Spelled}

-- a line that was filed, the call that filed it, with its place in the list, counted from 0, and what it answered
pub record Filing (S : Saving) : Type 0 where
  pub held : Held
  pub at : ℕ
  pub by : Call S
  pub answer : Reply S

abbrev pub filing : {S : Saving} → ℕ → Call S → Reply S → Held → Filing S
filing p x a h = record { held = h; at = p; by = x; answer = a }

-- an insert files the wanted lines that it reaches, up to the one that stops it
abbrev pub filed_line : {S : Saving} → ℕ → Call S → Reply S → ℕ → List ℕ → Optional Spelled → List (Filing S)
filed_line p x a o l (Some g) = filing p x a (under o g.id l) ∷ []
filed_line p x a o l None = []

unfoldable pub filed_lines : {S : Saving} → ℕ → Call S → Reply S → Caller → List Held → List (List ℕ)
    → List (Filing S)
filed_lines p x a c hs [] = []
filed_lines p x a c hs (l ∷ ls) =
    on_reached (reach c hs l) (λ e. [])
    (λ hs'. filed_line p x a c.owner l (wanted l) ++ filed_lines p x a c hs' ls)

-- a save files build's line, unless it is refused
abbrev pub filed_attempt : {S : Saving} {B : Type 0} → ℕ → Call S → Reply S → Caller → List Held → Attempt B
    → List (Filing S)
filed_attempt p x a c hs (refused v) = []
filed_attempt p x a c hs (files h v) = by_room (room_for c h hs) [] [] (filing p x a h ∷ [])

-- an insert or a save files for its owner, and nothing on 24; a share's setting files nothing
abbrev pub filed_as : {S : Saving} → ℕ → Reply S → ℕ → ℕ → Content → Call S → List (Filing S)
filed_as p a n m c clear = []
filed_as p a n m c (insert q s) =
    by_owner (owner_of q.party) []
    (λ o. pick (is_utf8 s) (filed_lines p (insert q s) a (caller n m c.shares o) c.held (lines_of s)) [])
filed_as {S} p a n m c (save q x) =
    by_owner (owner_of q.party) []
    (λ o. filed_attempt p (save q x) a (caller n m c.shares o) c.held (S.attempt o x))
filed_as p a n m c (share q b) = []

-- what one call, at that place of the list, files in a book that holds c
abbrev pub filed_by : {S : Saving} → ℕ → ℕ → ℕ → Content → Call S → List (Filing S)
filed_by p n m c x = filed_as p (book_turn n m c x).answer n m c x

-- what is filed since the last clear: a clear forgets, any other call adds what it files
abbrev pub since : {S : Saving} → Call S → List (Filing S) → List (Filing S) → List (Filing S)
since clear fs gs = []
since (insert q s) fs gs = fs ++ gs
since (save q a) fs gs = fs ++ gs
since (share q b) fs gs = fs ++ gs

-- the calls from place p of the list on, in a book that holds c, fs being filed before
unfoldable pub filings : {S : Saving} → ℕ → ℕ → ℕ → Content → List (Filing S) → List (Call S) → List (Filing S)
filings p n m c fs [] = fs
filings p n m c fs (x ∷ xs) =
    filings (suc p) n m (book_after n m c x) (since x fs (filed_by p n m c x)) xs

-- the last of the filings under a key, if there is one
abbrev pub later_or : {A : Type 0} → Option A → Option A → Option A
later_or (some a) o = some a
later_or none o = o

unfoldable pub last_filed : {S : Saving} → Key → List (Filing S) → Option (Filing S)
last_filed k [] = none
last_filed k (f ∷ fs) = later_or (last_filed k fs) (pick (same_key k f.held.key) (some f) none)

abbrev pub line_filed : {S : Saving} → Option (Filing S) → Option (List ℕ)
line_filed none = none
line_filed (some f) = some f.held.line

-- what stands at a place of a list, counted from 0, if anything does
unfoldable pub nth : {A : Type 0} → List A → ℕ → Option A
nth [] p = none
nth (x ∷ xs) zero = some x
nth (x ∷ xs) (suc p) = nth xs p
