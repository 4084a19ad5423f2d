-- What each call of a store answers and leaves in its two buffers: the definitions that the contracts cite.
-- Public contracts rest on these definitions; they assume nothing.
use Rattle.std.specs.Prelude.{Bool, true, false, ◌&&◌, List, [], ◌∷◌, ℕ, leb, length, replicate, Result, Ok, Err, ⊤}
use Rattle.std.proofs.Math.Option.{Option, none, some}
use Rattle.text.specs.Bytes.{pick}
use Rattle.store.specs.declared.calls.Inserted.{Inserted}
use Rattle.store.specs.declared.calls.Tally.{Tally}
use Rattle.text.specs.declared.uuid.Uuid.{Uuid}
use Rattle.store.specs.declared.parties.Party.{Party}
use Rattle.store.specs.Parties.{owner_of, by_owner}
use Rattle.store.specs.Held.{Key, key_by, find, index_max, text_max}
use Rattle.store.specs.Shares.{Content, share_of, use_of, with_held}
use Rattle.store.specs.Layout.{encode_index, encode_text}
use Rattle.store.specs.Decode.{content}
use Rattle.store.specs.Book.{caller, Turn, book_walk, inserted_of, nobody_inserts, book_attempt, Attempt, refused}
use Rattle.store.specs.Book.{files, Setting, book_share, Saving, Call, clear, insert, save, share}
use Rattle.store.specs.Book.{Reply, cleared, inserted, saved, shared}
use Rattle.store.specs.declared.calls.StoreError.TheVariants as E
use Rattle.store.specs.declared.calls.LookError.TheVariants as L
use Rattle.store.specs.declared.calls.StoreError.{StoreError}
use Rattle.store.specs.declared.calls.LookError.{LookError}
use Rattle.store.specs.declared.sharing.ShareUse.{ShareUse}
use Rattle.store.specs.declared.sharing.Unsound.{Unsound}

-- an answer, and the two buffers afterwards
pub record Done (A : Type 0) : Type 0 where
  pub answer : A
  pub index : List ℕ
  pub text : List ℕ

abbrev pub unchanged : {A : Type 0} → List ℕ → List ℕ → A → Done A
unchanged i t a = record { answer = a; index = i; text = t }

-- the buffers afterwards encode the shares and the lines that the book holds
abbrev pub holding : {A : Type 0} → List ℕ → List ℕ → A → Content → Done A
holding i t a c = record {
  answer = a;
  index = encode_index (length i) c.shares c.held;
  text = encode_text (length t) c.held;
}

-- of a sound store, what the book does to its lines; of another one, the answer of 19 and nothing changed
abbrev pub on_lines : {A : Type 0} → List ℕ → List ℕ → Option Content → A → (Content → Turn A) → Done A
on_lines i t none e f = unchanged i t e
on_lines i t (some c) e f = holding i t (f c).answer (with_held c (f c).held)

-- the same for its shares
abbrev pub on_shares : List ℕ → List ℕ → Option Content → (Content → Setting) → Done (Result ⊤ StoreError)
on_shares i t none f = unchanged i t (Err E.Unsound)
on_shares i t (some c) f = holding i t (f c).answer (f c).content

-- both buffers are within the limit
abbrev pub fitting : List ℕ → List ℕ → Bool
fitting i t = leb (length i) index_max && leb (length t) text_max

-- "Clear sets every byte of both buffers to 0, whether the store was sound or not."; "a buffer over" the limit: 23
unfoldable pub store_clear : List ℕ → List ℕ → Done (Result ⊤ StoreError)
store_clear i t =
    pick (fitting i t)
    (record { answer = Ok tt; index = replicate (length i) 0; text = replicate (length t) 0 })
    (unchanged i t (Err E.BufferTooLarge))

-- "Insert 19, 10, then per line 20, 21", and P10's 25; "0 on 19 or 10": for an owner
unfoldable pub store_walk : List ℕ → List ℕ → ℕ → List ℕ → Done Tally
store_walk i t o s =
    on_lines i t (content i t) (record { answer = Err E.Unsound; count = 0 })
    (λ c. book_walk (caller (length i) (length t) c.shares o) c.held s)

-- with the number of lines that were filed in another form than 32 digits (request P11)
unfoldable pub own_insert : List ℕ → List ℕ → ℕ → List ℕ → Done Inserted
own_insert i t o s = record {
  answer = inserted_of s (store_walk i t o s).answer;
  index = (store_walk i t o s).index;
  text = (store_walk i t o s).text;
}

-- an insert names its party: "24, [..] before every other check; an insert then counts 0 lines"
unfoldable pub store_insert : List ℕ → List ℕ → Party → List ℕ → Done Inserted
store_insert i t p s = by_owner (owner_of p) (unchanged i t nobody_inserts) (λ o. own_insert i t o s)

-- "then 22, 19, 21", and 25: an owner's save, by what its own checks come to
abbrev pub store_attempt : {B : Type 0} → B → B → B → List ℕ → List ℕ → ℕ → Attempt B → Done B
store_attempt unsound full crowded i t o (refused v) = unchanged i t v
store_attempt unsound full crowded i t o (files h v) =
    on_lines i t (content i t) unsound
    (λ c. book_attempt full crowded (caller (length i) (length t) c.shares o) c.held (files h v))

-- P10: the share of an owner's party is set; 19, 26, 21
unfoldable pub store_share : List ℕ → List ℕ → ℕ → ℕ → Done (Result ⊤ StoreError)
store_share i t o b = on_shares i t (content i t) (λ c. book_share (length i) (length t) c o b)

-- P10: what is told of a party, its share and its use; 19 where the store is not sound
abbrev pub told_of : ℕ → Option Content → Result ShareUse Unsound
told_of o none = Err (record {})
told_of o (some c) = Ok (record { share = share_of o c.shares; used = use_of o c.held })

-- P10: the share and the use of an owner's party, or 19
unfoldable pub store_told : List ℕ → List ℕ → ℕ → Result ShareUse Unsound
store_told i t o = told_of o (content i t)

-- ---- look-up

-- "found, none or 19", found with the line; and 24
pub data Looked : Type 0 where
  found : List ℕ → Looked
  nothing : Looked
  unsound : Looked
  no_owner : Looked

abbrev pub looked_in : Option (List ℕ) → Looked
looked_in none = nothing
looked_in (some l) = found l

abbrev pub looked_at : Key → Option Content → Looked
looked_at k none = unsound
looked_at k (some c) = looked_in (find k c.held)

-- what two buffers hold under a key; 19 where they encode no list of lines
unfoldable pub look_by : Key → List ℕ → List ℕ → Looked
look_by k i t = looked_at k (content i t)

-- a look-up names its party, and finds that party's line; 24 first
unfoldable pub look_up : Party → Uuid → List ℕ → List ℕ → Looked
look_up p u i t = by_owner (owner_of p) no_owner (λ o. look_by (key_by o u) i t)

-- "one says found, none or 19; the other hands back the line as a part of the text buffer, empty unless found"
abbrev pub says_of : Looked → Result Bool LookError
says_of (found l) = Ok true
says_of nothing = Ok false
says_of unsound = Err L.Unsound
says_of no_owner = Err L.NoOwner

-- the line that is found, else an empty part
abbrev pub line_of : Looked → List ℕ
line_of (found l) = l
line_of nothing = []
line_of unsound = []
line_of no_owner = []

-- ---- lists of calls

abbrev pub answered : {S : Saving} {A : Type 0} → (A → Reply S) → Done A → Done (Reply S)
answered f d = record { answer = f d.answer; index = d.index; text = d.text }

unfoldable pub store_call : {S : Saving} → List ℕ → List ℕ → Call S → Done (Reply S)
store_call i t clear = answered cleared (store_clear i t)
store_call i t (insert p s) = answered inserted (store_insert i t p.party s)
store_call {S} i t (save p a) =
    answered saved (by_owner (owner_of p.party) (unchanged i t S.nobody)
    (λ o. store_attempt S.unsound S.full S.crowded i t o (S.attempt o a)))
store_call i t (share q b) = answered shared (store_share i t q.byte b)

-- the answers to a list of calls, and the buffers at its end
pub record Runs (S : Saving) : Type 0 where
  pub answers : List (Reply S)
  pub index : List ℕ
  pub text : List ℕ

abbrev pub and_runs : {S : Saving} → Reply S → Runs S → Runs S
and_runs a r = record { answers = a ∷ r.answers; index = r.index; text = r.text }

-- "Each call gets the store as the last one left it, and nobody else writes there."
unfoldable pub run_store : {S : Saving} → List ℕ → List ℕ → List (Call S) → Runs S
run_store i t [] = record { answers = []; index = i; text = t }
run_store i t (x ∷ xs) =
    and_runs (store_call i t x).answer (run_store (store_call i t x).index (store_call i t x).text xs)
