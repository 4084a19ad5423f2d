-- Demand 3, proved as `whole_guarantee` in ../proofs/Saves.antt: one statement about every list of calls from a fresh
-- store of n and m bytes, with document 01's own save. Each call names its party (document 02, P9), and the list may hold
-- share settings (P10).
-- The guarantee rests on these definitions; they assume nothing.
use Rattle.std.specs.Prelude.{◌≡◌, true, List, [], ◌∷◌, ◌++◌, map, ℕ, suc, ◌≤◌, length, replicate, Some, Ok, Err}
use Rattle.std.proofs.Math.Option.{Option, some}
use Rattle.text.specs.Utf8.{is_utf8}
use Rattle.text.specs.declared.uuid.Spelled.{Spelled}
use Rattle.text.specs.declared.uuid.Uuid.{Uuid}
use Rattle.store.specs.declared.parties.Party.{Party}
use Rattle.store.specs.Parties.{owner_of, by_owner, Named}
use Rattle.store.specs.Held.{line_max, Key, Held, key_by, file}
use Rattle.map.specs.Build.{built_line, built_map}
use Rattle.store.specs.declared.calls.Saved.{Saved}
use Rattle.store.specs.Lines.{lines_of, wanted}
use Rattle.store.specs.Shares.{Content, nothing_held, with_held}
use Rattle.store.specs.Decode.{content}
use Rattle.store.specs.Book.{Caller, caller, room_for, by_room, under, insert_turn, insert_lines, inserted_of, Call}
use Rattle.store.specs.Book.{insert, save, Reply, inserted, saved, number_of, Run, run_book}
use Rattle.store.specs.Store.{Done, Runs, run_store, store_call, Looked, no_owner, looked_in, look_up}
use Rattle.store.specs.Filings.{Filing, filings, last_filed, line_filed, nth}
use Rattle.store.specs.Saves.{SaveArgs, SaveCall, saving, Passes, ReadsBack, refused_save, accepted_save}
use Rattle.store.specs.declared.calls.StoreError.TheVariants as E
use Rattle.store.specs.declared.calls.SaveError.TheVariants as Sv

-- "every list of clear, insert and save calls, refused ones included"
abbrev pub Calls : Type 0
Calls = List (Call saving)

-- "Fresh means all zero."
abbrev pub fresh : ℕ → List ℕ
fresh n = replicate n 0

-- what a list of calls on a fresh store comes to: in the store, in the book, and filed since the last clear
abbrev pub stored : ℕ → ℕ → Calls → Runs saving
stored n m xs = run_store (fresh n) (fresh m) xs

abbrev pub booked : ℕ → ℕ → Calls → Run saving
booked n m xs = run_book n m nothing_held xs

-- the lines that the book holds then, and who calls next
abbrev pub book_lines : ℕ → ℕ → Calls → List Held
book_lines n m xs = (booked n m xs).content.held

abbrev pub caller_after : ℕ → ℕ → Calls → ℕ → Caller
caller_after n m xs o = caller n m (booked n m xs).content.shares o

abbrev pub last_of : ℕ → ℕ → Calls → Key → Option (Filing saving)
last_of n m xs k = last_filed k (filings 0 n m nothing_held [] xs)

-- P9: "'Last filed' in the guarantee means by the party that looks up": what it finds then, and else none; 24 for nobody
abbrev pub looked_for : ℕ → ℕ → Calls → Party → Uuid → Looked
looked_for n m xs p u = by_owner (owner_of p) no_owner (λ o. looked_in (line_filed (last_of n m xs (key_by o u))))

-- the next call after such a list
abbrev pub next : ℕ → ℕ → Calls → Call saving → Done (Reply saving)
next n m xs x = store_call (stored n m xs).index (stored n m xs).text x

-- document 01's build from a save's arguments: the line under its owner and UUID, and the map
abbrev pub built_held : ℕ → SaveArgs → Held
built_held o a = under o a.uuid (built_line a.slots a.buttons a.axes a.name a.uuid)

abbrev pub built_save : SaveArgs → Saved
built_save a = accepted_save (built_map a.slots a.name)

-- that save of that party filed the line which was last filed under k
pub record FromSave (n m : ℕ) (xs : Calls) (k : Key) (f : Filing saving) (p : Named) (c : SaveCall) : Type 0 where
  -- "that the save returned": it stands at that place of the list, and the store's own reply there is this
  pub returned : Saved
  pub stands : nth xs f.at ≡ some (save p c)
  pub replied : nth (stored n m xs).answers f.at ≡ some (saved returned)
  pub done : returned.answer ≡ Ok tt
  -- "line and map being those of document 01's build from that save's arguments"
  pub line : f.held.line
      ≡ built_line c.args.slots c.args.buttons c.args.axes c.args.name c.args.uuid
  pub map : returned.map ≡ built_map c.args.slots c.args.name
  pub by : owner_of p.party ≡ Some k.owner
  pub under : c.args.uuid ≡ k.uuid
  -- "reading it with that save's button and axis lists gives the map, name, default flag (off) and hat flags (zero)
  -- that the save returned"
  pub reads : ReadsBack c.args f.held.line returned

-- a call answers so, and these shares and lines are held after it
pub record Leaves (d : Done (Reply saving)) (a : Reply saving) (c : Content) : Type 0 where
  pub answer : d.answer ≡ a
  pub held : content d.index d.text ≡ some c

pub record Guarantee (n m : ℕ) (xs : Calls) : Type 0 where
  -- "each call's success or refusal number, an insert's count of lines and a save's map are those of
  -- document 01's book"
  pub answers : (stored n m xs).answers ≡ (booked n m xs).answers
  pub numbers : map number_of (stored n m xs).answers ≡ map number_of (booked n m xs).answers
  -- the shares and the lines that are held are the book's
  pub held : content (stored n m xs).index (stored n m xs).text ≡ some (booked n m xs).content
  -- "looking up any UUID finds the line last filed under it since the last clear, and finds none exactly when
  -- there is no such line", for every party
  pub finds : (p : Party) (u : Uuid)
      → look_up p u (stored n m xs).index (stored n m xs).text ≡ looked_for n m xs p u
  -- "If a save filed that line, .."
  pub saves : (k : Key) (f : Filing saving) (p : Named) (c : SaveCall) → last_of n m xs k ≡ some f → f.by ≡ save p c
      → FromSave n m xs k f p c
  -- "A save [..] that passes the earlier checks", of which 24 is one, "gets 'no room' exactly when document 01's sum
  -- doesn't fit, and else is filed."; P10: "'no room' is now 21 or 25"
  pub save_room : (p : Named) (o : ℕ) → owner_of p.party ≡ Some o → (c : SaveCall) → Passes c.args
      → Leaves (next n m xs (save p c))
      (by_room (room_for (caller_after n m xs o) (built_held o c.args) (book_lines n m xs))
      (saved (refused_save Sv.NoRoom)) (saved (refused_save Sv.NoText)) (saved (built_save c.args)))
      (with_held (booked n m xs).content
      (by_room (room_for (caller_after n m xs o) (built_held o c.args) (book_lines n m xs))
      (book_lines n m xs) (book_lines n m xs) (file (built_held o c.args) (book_lines n m xs))))
  -- "or a wanted line that its insert reaches": the lines before it are passed, and hs is held when it is reached;
  -- where it is filed, the insert goes on with the rest
  pub insert_room : (p : Named) (o : ℕ) → owner_of p.party ≡ Some o
      → (s : List ℕ) (passed : List (List ℕ)) (l : List ℕ) (rest : List (List ℕ)) (u : Spelled) (hs : List Held)
      → is_utf8 s ≡ true → lines_of s ≡ passed ++ (l ∷ rest)
      → insert_lines (caller_after n m xs o) (book_lines n m xs) 0 passed ≡ insert_turn hs (Ok tt) (length passed)
      → wanted l ≡ Some u → length l ≤ line_max
      → Leaves (next n m xs (insert p s))
      (by_room (room_for (caller_after n m xs o) (under o u.id l) hs)
      (inserted (inserted_of s (record { answer = Err E.NoRoom; count = length passed })))
      (inserted (inserted_of s (record { answer = Err E.NoText; count = length passed })))
      (inserted (inserted_of s
      (insert_lines (caller_after n m xs o) (file (under o u.id l) hs) (suc (length passed)) rest).answer)))
      (with_held (booked n m xs).content (by_room (room_for (caller_after n m xs o) (under o u.id l) hs) hs hs
      (insert_lines (caller_after n m xs o) (file (under o u.id l) hs) (suc (length passed)) rest).held))
