-- What the contracts of private functions say of a store, each for every list of lines that lies in the index, and
-- what the proofs go by. No public contract rests on these: a reader may leave them out.
use Rattle.std.specs.Prelude.{◌≡◌, Bool, true, false, List, [], ◌∷◌, ◌++◌, ℕ, ◌+◌, ◌-◌, ◌/◌, ◌%◌, ◌≤◌, ◌<◌, eqb, ltb, length, get_or, take, replicate, Result, Ok, Err, ⊤}
use Rattle.std.proofs.Math.Option.{Option, none, some}
use Rattle.text.specs.Bytes.{pick, first_of}
use Rattle.text.specs.declared.uuid.Uuid.{Uuid}
use Rattle.store.specs.declared.records.Head.{Head}
use Rattle.store.specs.declared.records.Kind.{Kind}
use Rattle.line.specs.declared.mapping.Mapping.{Mapping}
use Rattle.store.specs.declared.calls.Saved.{Saved}
use Rattle.store.specs.Held.{Key, Held, file, distinct, text_max}
use Rattle.store.specs.Layout.{Shape, Shapes, kind_by, offset_width, record_bytes, record_of, records, texts}
use Rattle.store.specs.Decode.{kind_at, is_whole, no_head, head_at, content}
use Rattle.store.specs.Lines.{cr}
use Rattle.text.specs.Search.{lf}
use Rattle.store.specs.Shares.{share_sizes}
use Rattle.store.specs.Book.{Caller, caller, room_for, by_room, Turn, turn, files, Saving}
use Rattle.store.specs.Store.{Done, on_lines}
use Rattle.store.specs.Saves.{refused_save, accepted_save}
use Rattle.store.specs.declared.calls.StoreError.TheVariants as E
use Rattle.store.specs.declared.calls.SaveError.TheVariants as Sv
use Rattle.store.specs.declared.table.Full.TheVariants as R
use Rattle.store.specs.declared.calls.StoreError.{StoreError}
use Rattle.store.specs.declared.calls.SaveError.{SaveError}
use Rattle.store.specs.declared.table.Full.{Full}

-- ---- records

-- numbers of two, four and eight bytes, high byte first
abbrev pub be2 : ℕ → List ℕ
be2 x = x / 256 % 256 ∷ x % 256 ∷ []

abbrev pub be4 : ℕ → List ℕ
be4 x = be2 (x / 65536) ++ be2 x

abbrev pub be8 : ℕ → List ℕ
be8 x = be4 (x / 4294967296) ++ be4 x

-- a record without its kind and owner
abbrev pub body_size : Bool → ℕ
body_size long = 18 + offset_width long

abbrev pub offset_bytes : Bool → ℕ → List ℕ
offset_bytes long off = pick long (be4 off) (be2 off)

unfoldable pub body_bytes_of : Bool → Uuid → ℕ → ℕ → List ℕ
body_bytes_of long u off len = be8 u.high ++ (be8 u.low ++ (offset_bytes long off ++ be2 len))

-- the size of a record, and of the records of lines, the first of which lies at that offset
abbrev pub size_of : ℕ → Held → ℕ
size_of off h = length (record_of off h)

abbrev pub sizes : ℕ → List Held → ℕ
sizes off hs = length (records off hs)

-- what a record says
abbrev pub head_of : ℕ → Held → Head
head_of off h = record { size = length (record_of off h); key = h.key; off = off; len = length h.line }

-- `record_size`: the size of a record of that key, of a line at that offset
abbrev pub Sized : Key → ℕ → ℕ → Type 0
Sized k off r = (len : ℕ) → r ≡ length (record_bytes k off len)

-- `body_start`: where the body stands
abbrev pub Starts : ℕ → ℕ → Type 0
Starts o r = (long : Bool) → r ≡ length (kind_by o long)

-- `stands`: a whole record stands at the front, or none
pub record HasRecord (i : List ℕ) : Type 0 where
  pub kind : Kind
  pub is : kind_at i ≡ some kind
  pub whole : is_whole i kind ≡ true

-- the whole record that stands there is long, or not
abbrev pub HasKind : List ℕ → Bool → Type 0
HasKind i long = (s : HasRecord i) × (s.kind.long ≡ long)

abbrev pub TellsRecord : List ℕ → Bool → Type 0
TellsRecord i r = (r ≡ true → HasRecord i) × (r ≡ false → no_head ≡ head_at i)

-- `long_stands`: no short record's kind stands at the front
abbrev pub NotShort : List ℕ → Type 0
NotShort i = (get_or i 0 0 ≡ 1 → ⊥) × (get_or i 0 0 ≡ 3 → ⊥)

-- ---- lines that lie in an index

-- the store is sound
abbrev pub known : {A : Type 0} → Option A → Bool
known none = false
known (some a) = true

-- those lines' records lie in s from its front on, their first line at that offset, and then only 0
pub record Lies (off : ℕ) (hs : List Held) (s : List ℕ) : Type 0 where
  pub more : ℕ
  pub is : s ≡ records off hs ++ replicate more 0
  pub shapes : Shapes hs
  pub below : off + length (texts hs) ≤ text_max

-- lines that two buffers of n and m bytes can hold
pub record Good (n m : ℕ) (hs : List Held) : Type 0 where
  pub shapes : Shapes hs
  pub once : distinct hs ≡ true
  pub index : sizes 0 hs ≤ n
  pub text : length (texts hs) ≤ m

-- lines whose records and texts two buffers of n and m bytes can hold
pub record Fitted (n m : ℕ) (hs : List Held) : Type 0 where
  pub index : sizes 0 hs ≤ n
  pub text : length (texts hs) ≤ m

-- the lines that lie in an index are distinct, or not
abbrev pub Once : List ℕ → Bool → Type 0
Once i r = (off : ℕ) (hs : List Held) → Lies off hs i → r ≡ distinct hs

-- ---- filing

-- the lengths of the lines, added up
unfoldable pub lengths : List Held → ℕ
lengths [] = 0
lengths (h ∷ hs) = length h.line + lengths hs

-- who calls, of an index of which the part behind the shares g is i
abbrev pub behind : List ℕ → List ℕ → List ℕ → ℕ → Caller
behind g i t o = caller (share_sizes g + length i) (length t) g o

-- lines that a caller's buffers can hold beside the shares
abbrev pub GoodFor : Caller → List Held → Type 0
GoodFor c hs = Good (c.index - share_sizes c.shares) c.text hs

-- ---- saving

-- `file_built`: the end of a save, in the book and in the store
unfoldable pub book_file : Caller → List Held → Held → Turn (Result ⊤ SaveError)
book_file c hs h = by_room (room_for c h hs) (turn (Err Sv.NoRoom) hs) (turn (Err Sv.NoText) hs) (turn (Ok tt) (file h hs))

unfoldable pub store_file : List ℕ → List ℕ → Held → Done (Result ⊤ SaveError)
store_file i t h =
    on_lines i t (content i t) (Err Sv.Unsound)
    (λ c. book_file (caller (length i) (length t) c.shares h.key.owner) c.held h)

-- what an insert and a save say where there is no room
abbrev pub insert_full : Full → StoreError
insert_full R.Index = E.NoRoom
insert_full R.Text = E.NoText

abbrev pub save_full : Full → SaveError
save_full R.Index = Sv.NoRoom
save_full R.Text = Sv.NoText

-- what a save answers by the room for its line
abbrev pub room_answer : Result ⊤ Full → Result ⊤ SaveError
room_answer (Ok u) = Ok tt
room_answer (Err f) = Err (save_full f)

-- `saved_as`: what a save answers by what filing its line answers
abbrev pub said_by : Mapping → Result ⊤ SaveError → Saved
said_by m (Ok u) = accepted_save m
said_by m (Err e) = refused_save e

-- what the layer that builds owes: a line that is attempted is its owner's, has from 1 to `line_max` bytes, and reads
-- back
pub record Builds (S : Saving) : Type 0 where
  pub owner : (o : ℕ) (a : S.Args) (h : Held) (v : S.Value) → S.attempt o a ≡ files h v → h.key.owner ≡ o
  pub shape : (o : ℕ) → o < 256 → (a : S.Args) (h : Held) (v : S.Value) → S.attempt o a ≡ files h v → Shape h
  pub reads : (o : ℕ) (a : S.Args) (h : Held) (v : S.Value) → S.attempt o a ≡ files h v → S.Reads a h.line v

-- ---- inserting

-- a final CR dropped
unfoldable pub without_cr : List ℕ → List ℕ
without_cr [] = []
without_cr (x ∷ []) = pick (eqb x cr) [] (x ∷ [])
without_cr (x ∷ y ∷ s) = x ∷ without_cr (y ∷ s)

-- the first line of a text that is not empty
unfoldable pub first_line : List ℕ → List ℕ
first_line s = pick (ltb (first_of lf s) (length s)) (without_cr (take (first_of lf s) s)) s
