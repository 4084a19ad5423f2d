-- Document 01's book: "fed the lengths of index and text and each call's arguments, never an answer or a byte of the
-- store". Document 02, P9: it "is told each call's party, checks 24 first, and keeps its lines by party and UUID". P10: its
-- "list may hold share settings too; the book answers each by the rules here, 19 left out".
-- Public contracts rest on these definitions; they assume nothing.
use Rattle.std.specs.Prelude.{Bool, List, [], ◌∷◌, ℕ, suc, ◌+◌, ltb, length, take, Result, Ok, Err, ⊤, Option, Some, None}
use Rattle.text.specs.Bytes.{pick}
use Rattle.text.specs.Utf8.{is_utf8, valid_run}
use Rattle.text.specs.declared.uuid.Uuid.{Uuid}
use Rattle.text.specs.declared.uuid.Form.{Form}
use Rattle.text.specs.declared.uuid.Form.TheVariants as Fm
use Rattle.store.specs.declared.calls.Inserted.{Inserted}
use Rattle.store.specs.declared.calls.Tally.{Tally}
use Rattle.store.specs.Held.{Held, key_by, file, record_size, line_max}
use Rattle.store.specs.Parties.{owner_of, by_owner, Named, OwnerByte}
use Rattle.store.specs.Shares.{Content, nothing_held, claims, share_sizes, with_share}
use Rattle.store.specs.Lines.{lines_of, wanted}
use Rattle.store.specs.Refusals.{number}
use Rattle.store.specs.declared.calls.StoreError.TheVariants as E
use Rattle.store.specs.declared.table.Full.TheVariants as R
use Rattle.store.specs.declared.calls.StoreError.{StoreError}
use Rattle.store.specs.declared.table.Full.{Full}
use Rattle.text.specs.declared.uuid.Spelled.{Spelled}

-- who calls, in buffers of which lengths, and the shares that are set
pub record Caller : Type 0 where
  pub index : ℕ
  pub text : ℕ
  pub shares : List ℕ
  pub owner : ℕ

abbrev pub caller : ℕ → ℕ → List ℕ → ℕ → Caller
caller n m s o = record { index = n; text = m; shares = s; owner = o }

-- ---- no room

-- P9: "a record being 21 bytes for the hall and 22 for an organiser", and P12's 23 or 24: the records of lines that lie
-- end to end from an offset on, added up
unfoldable pub record_sizes : ℕ → List Held → ℕ
record_sizes off [] = 0
record_sizes off (h ∷ hs) = record_size h.key.owner off + record_sizes (off + length h.line) hs

-- 21: P9's sum "over every line held but the caller's own of that UUID" and the line's record, P12: it "adds up the records
-- as they would then stand"; P10: "for the index with kind 4's 4 bytes counted"
unfoldable pub no_index_of : Caller → Held → List Held → Bool
no_index_of c h hs = ltb c.index (share_sizes c.shares + record_sizes 0 (file h hs))

-- 25, P10: "A filing fails on text exactly when, after it, the sum over all parties of the larger of use and share exceeds
-- the text."
unfoldable pub no_text : Caller → Held → List Held → Bool
no_text c h hs = ltb c.text (claims c.shares (file h hs))

-- P10: "'no room' is now 21 or 25"; 21 "comes before 25"
unfoldable pub room_for : Caller → Held → List Held → Result ⊤ Full
room_for c h hs = pick (no_index_of c h hs) (Err R.Index) (pick (no_text c h hs) (Err R.Text) (Ok tt))

-- what comes of it: 21, 25, or the line is filed
abbrev pub by_room : {A : Type 0} → Result ⊤ Full → A → A → A → A
by_room (Err R.Index) full crowded filed = full
by_room (Err R.Text) full crowded filed = crowded
by_room (Ok u) full crowded filed = filed

-- ---- one call's turn: its answer, and the lines held after it

pub record Turn (A : Type 0) : Type 0 where
  pub answer : A
  pub held : List Held

abbrev pub turn : {A : Type 0} → A → List Held → Turn A
turn a hs = record { answer = a; held = hs }

-- "Clear empties the list."
abbrev pub book_clear : Turn (Result ⊤ StoreError)
book_clear = turn (Ok tt) []

-- what a line that an insert reaches comes to: the lines held after it, or the answer that stops the call
pub data Reached : Type 0 where
  after : List Held → Reached
  stopped : Result ⊤ StoreError → Reached

abbrev pub under : ℕ → Uuid → List ℕ → Held
under o u l = record { key = key_by o u; line = l }

-- "a wanted one over the limit (20), else without room (21, H being the book's)", or P10's 25, "stops the call with that
-- number; any other is filed"
abbrev pub reach_wanted : Caller → List Held → List ℕ → Option Spelled → Reached
reach_wanted c hs l None = after hs
reach_wanted c hs l (Some g) =
    pick (ltb line_max (length l)) (stopped (Err E.LineTooLong))
    (by_room (room_for c (under c.owner g.id l) hs) (stopped (Err E.NoRoom)) (stopped (Err E.NoText))
    (after (file (under c.owner g.id l) hs)))

-- a line that an insert reaches
unfoldable pub reach : Caller → List Held → List ℕ → Reached
reach c hs l = reach_wanted c hs l (wanted l)

abbrev pub insert_turn : List Held → Result ⊤ StoreError → ℕ → Turn Tally
insert_turn hs a count = turn (record { answer = a; count = count }) hs

abbrev pub on_reached : {A : Type 0} → Reached → (Result ⊤ StoreError → A) → (List Held → A) → A
on_reached (after hs) stop on = on hs
on_reached (stopped a) stop on = stop a

-- "reaches the lines of the text it is given in order: an unwanted one is counted; [..] any other is filed and counted"
unfoldable pub insert_lines : Caller → List Held → ℕ → List (List ℕ) → Turn Tally
insert_lines c hs count [] = insert_turn hs (Ok tt) count
insert_lines c hs count (l ∷ ls) =
    on_reached (reach c hs l) (λ a. insert_turn hs a count) (λ hs'. insert_lines c hs' (suc count) ls)

-- "Insert answers 10 and counts 0 where 10 applies, and else reaches the lines of the text";
-- the place of 10 is the length of the valid run
unfoldable pub book_walk : Caller → List Held → List ℕ → Turn Tally
book_walk c hs s =
    pick (is_utf8 s) (insert_lines c hs 0 (lines_of s)) (insert_turn hs (Err (E.NotUtf8 (valid_run s))) 0)

-- request P11: "Insert's result gains the number of lines it filed whose form isn't 32 digits.": a line that is walked
-- was filed where it is wanted
abbrev pub other_form : Form → ℕ
other_form Fm.Simple = 0
other_form Fm.Hyphenated = 1
other_form Fm.Braced = 1
other_form Fm.Urn = 1
other_form Fm.Xinput = 1

abbrev pub other_spelling : Option Spelled → ℕ
other_spelling None = 0
other_spelling (Some g) = other_form g.form

unfoldable pub other_spellings : List (List ℕ) → ℕ
other_spellings [] = 0
other_spellings (l ∷ ls) = other_spelling (wanted l) + other_spellings ls

-- an insert's answer: of the lines of the text those are told that were walked
abbrev pub inserted_of : List ℕ → Tally → Inserted
inserted_of s r = record {
  answer = r.answer;
  count = r.count;
  not_simple = other_spellings (take r.count (lines_of s));
}

unfoldable pub book_insert : Caller → List Held → List ℕ → Turn Inserted
book_insert c hs s = turn (inserted_of s (book_walk c hs s).answer) (book_walk c hs s).held

-- "24, an organiser's call with owner 0, before every other check; an insert then counts 0 lines"
abbrev pub nobody_inserts : Inserted
nobody_inserts = record { answer = Err E.NoOwner; count = 0; not_simple = 0 }

-- ---- saves

-- what a save's own checks come to, "19 left out", after 24 and before 21: the answer of the first that applies;
-- or else build's line under its party and UUID, and the answer once that line is filed
pub data Attempt (B : Type 0) : Type 0 where
  refused : B → Attempt B
  files : Held → B → Attempt B

-- what the store takes from the layer that builds
pub record Saving : Type 1 where
  -- a save's arguments, and its answer with the map
  pub Args : Type 0
  pub Value : Type 0
  -- what its own checks come to, for its owner
  pub attempt : ℕ → Args → Attempt Value
  -- the answers of 24, 19, 21 and 25, "with the empty map"
  pub nobody : Value
  pub unsound : Value
  pub full : Value
  pub crowded : Value
  -- document 01's number of an answer, 0 where nothing is refused
  pub number : Value → ℕ
  -- reading that line with that save's lists gives what the answer has
  pub Reads : Args → List ℕ → Value → Type 0

-- "Save makes its checks in order [..]; the first that applies (21 as before)", and P10's 25 after it, "is its number, with
-- the empty map and nothing filed. Else build's line is filed and build's map returned."
abbrev pub book_attempt : {B : Type 0} → B → B → Caller → List Held → Attempt B → Turn B
book_attempt full crowded c hs (refused v) = turn v hs
book_attempt full crowded c hs (files h v) =
    by_room (room_for c h hs) (turn full hs) (turn crowded hs) (turn v (file h hs))

-- ---- share settings, P10

-- the answer to a setting, and what is held after it
pub record Setting : Type 0 where
  pub answer : Result ⊤ StoreError
  pub content : Content

abbrev pub setting : Result ⊤ StoreError → Content → Setting
setting a c = record { answer = a; content = c }

-- 26, "that sum too large when a share is set": with the shares as they would then stand
unfoldable pub over_text : ℕ → Content → Bool
over_text m c = ltb m (claims c.shares c.held)

-- 21, "for the index with kind 4's 4 bytes counted"
unfoldable pub over_index : ℕ → Content → Bool
over_index n c = ltb n (share_sizes c.shares + record_sizes 0 c.held)

-- "26, [..] after 19 and before 21"; "takes an accepted one as that party's share"
unfoldable pub book_share : ℕ → ℕ → Content → ℕ → ℕ → Setting
book_share n m c o b =
    pick (over_text m (with_share o b c)) (setting (Err E.ShareTooLarge) c)
    (pick (over_index n (with_share o b c)) (setting (Err E.NoRoom) c)
    (setting (Ok tt) (with_share o b c)))

-- ---- lists of calls

-- P9: "Insert, save and look-up name their party; clear is the hall's and empties everything." P10: "The hall may give
-- each party, named by its owner byte (0 is the hall), a share in bytes"
pub data Call (S : Saving) : Type 0 where
  clear : Call S
  insert : Named → List ℕ → Call S
  save : Named → S.Args → Call S
  share : OwnerByte → ℕ → Call S

pub data Reply (S : Saving) : Type 0 where
  cleared : Result ⊤ StoreError → Reply S
  inserted : Inserted → Reply S
  saved : S.Value → Reply S
  shared : Result ⊤ StoreError → Reply S

-- document 01's number of a reply, 0 where nothing is refused
abbrev pub number_of : {S : Saving} → Reply S → ℕ
number_of (cleared a) = number a
number_of (inserted r) = number r.answer
number_of {S} (saved v) = S.number v
number_of (shared a) = number a

abbrev pub replied : {S : Saving} {A : Type 0} → (A → Reply S) → Turn A → Turn (Reply S)
replied f r = turn (f r.answer) r.held

-- "the book is told each call's party, checks 24 first"
unfoldable pub book_turn : {S : Saving} → ℕ → ℕ → Content → Call S → Turn (Reply S)
book_turn n m c clear = replied cleared book_clear
book_turn n m c (insert p s) =
    by_owner (owner_of p.party) (turn (inserted nobody_inserts) c.held)
    (λ o. replied inserted (book_insert (caller n m c.shares o) c.held s))
book_turn {S} n m c (save p a) =
    by_owner (owner_of p.party) (turn (saved S.nobody) c.held)
    (λ o. replied saved (book_attempt S.full S.crowded (caller n m c.shares o) c.held (S.attempt o a)))
book_turn n m c (share q b) = turn (shared (book_share n m c q.byte b).answer) c.held

-- the shares after a call: "Clear drops them."; a setting that is accepted counts from then on
unfoldable pub shares_after : {S : Saving} → ℕ → ℕ → Content → Call S → List ℕ
shares_after n m c clear = nothing_held.shares
shares_after n m c (insert p s) = c.shares
shares_after n m c (save p a) = c.shares
shares_after n m c (share q b) = (book_share n m c q.byte b).content.shares

-- what the book holds after a call
abbrev pub book_after : {S : Saving} → ℕ → ℕ → Content → Call S → Content
book_after n m c x = record { shares = shares_after n m c x; held = (book_turn n m c x).held }

-- the answers to a list of calls, and what the book holds at its end
pub record Run (S : Saving) : Type 0 where
  pub answers : List (Reply S)
  pub content : Content

abbrev pub and_run : {S : Saving} → Reply S → Run S → Run S
and_run a r = record { answers = a ∷ r.answers; content = r.content }

-- "It holds a list of lines, each under its" party and "UUID, at first empty.": the calls from what it holds on
unfoldable pub run_book : {S : Saving} → ℕ → ℕ → Content → List (Call S) → Run S
run_book n m c [] = record { answers = []; content = c }
run_book n m c (x ∷ xs) = and_run (book_turn n m c x).answer (run_book n m (book_after n m c x) xs)
