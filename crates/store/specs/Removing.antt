-- The call that takes a line out of a store. Documents 01 and 02 have none: the staff behind the demands remove a line
-- with `hub remove`, and the library does it for them, so that nobody else writes a store's bytes. What a removal
-- leaves is proved as `removed`, `removals_leave` and `with_removals` in ../proofs/RemovedLaws.antt.
-- Public contracts rest on these definitions; they assume nothing.
use Rattle.std.specs.Prelude.{◌≡◌, true, false, List, [], ◌∷◌, ℕ, Result, Ok, Err, Some, Bool}
use Rattle.std.proofs.Math.Option.{Option, none, some}
use Rattle.text.specs.Bytes.{pick}
use Rattle.text.specs.Uuid.{without_checksum}
use Rattle.text.specs.declared.uuid.Uuid.{Uuid}
use Rattle.store.specs.declared.parties.Party.{Party}
use Rattle.store.specs.Parties.{owner_of, by_owner}
use Rattle.store.specs.Held.{Key, key_by, strike, holds}
use Rattle.store.specs.Shares.{Content, nothing_held, with_held}
use Rattle.store.specs.Layout.{Bytes}
use Rattle.store.specs.Decode.{content}
use Rattle.store.specs.Book.{Call, Reply, book_turn, book_after}
use Rattle.store.specs.Store.{Done, unchanged, holding, look_up, nothing, says_of, store_call}
use Rattle.store.specs.Saves.{saving}
use Rattle.store.specs.Guarantee.{fresh}
use Rattle.store.specs.Promises.{Untouched}
use Rattle.store.specs.Near.{near_up}
use Rattle.store.specs.declared.calls.LookError.{LookError}
use Rattle.store.specs.declared.calls.LookError.TheVariants as L

-- where a line is held under that key: the others, in their order, with the shares as they are, and true; else false,
-- and nothing changes. 19 where the store is not sound
abbrev pub removed_from : Key → List ℕ → List ℕ → Option Content → Done (Result Bool LookError)
removed_from k i t none = unchanged i t (Err L.Unsound)
removed_from k i t (some c) =
    pick (holds k c.held) (holding i t (Ok true) (with_held c (strike k c.held))) (unchanged i t (Ok false))

-- a key's line is taken out of two buffers
unfoldable pub remove_by : Key → List ℕ → List ℕ → Done (Result Bool LookError)
remove_by k i t = removed_from k i t (content i t)

-- a removal names its party, as a look-up does: that party's line under the UUID goes, the others stay in their order,
-- with the shares as they are; true where it held one, else false, and nothing changes; 24, then 19
unfoldable pub store_remove : List ℕ → List ℕ → Party → Uuid → Done (Result Bool LookError)
store_remove i t p u = by_owner (owner_of p) (unchanged i t (Err L.NoOwner)) (λ o. remove_by (key_by o u) i t)

-- ---- what a removal leaves

-- the theorem `removals_leave`: a removal that is refused, or that finds no line, leaves both buffers as they were
pub record RemovalsLeave (i t : List ℕ) : Type 0 where
  pub remove_refused : (p : Party) (u : Uuid) (e : LookError) → (store_remove i t p u).answer ≡ Err e
      → Untouched i t (store_remove i t p u)
  pub none_held : (p : Party) (u : Uuid) → (store_remove i t p u).answer ≡ Ok false
      → Untouched i t (store_remove i t p u)

-- the line of another party, or under another UUID
abbrev pub Other : Party → Uuid → Party → Uuid → Type 0
Other p u q v = owner_of q ≡ owner_of p → v ≡ u → ⊥

-- what is left where a party removes its line, of a sound store that holds c
pub record Removed (i t : List ℕ) (c : Content) (p : Party) (k : Key) (d : Done (Result Bool LookError)) : Type 0 where
  -- true where its look-up found a line, else false
  pub says : d.answer ≡ says_of (look_up p k.uuid i t)
  -- the store is sound: the shares stand, and the other lines in their order
  pub held : content d.index d.text ≡ some (with_held c (strike k c.held))
  -- its look-up then finds none
  pub gone : look_up p k.uuid d.index d.text ≡ nothing
  -- every other one finds the same, of other parties and under other UUIDs
  pub same : (q : Party) (v : Uuid) → Other p k.uuid q v → look_up q v d.index d.text ≡ look_up q v i t
  pub same_near : (q : Party) (v : Uuid) → Other p k.uuid q v → Other p k.uuid q (without_checksum v)
      → near_up q v d.index d.text ≡ near_up q v i t

-- the theorem `removed`, of every sound store; a lent buffer always is a list of bytes
abbrev pub AllRemoved : Type 0
AllRemoved =
    (i t : List ℕ) → Bytes i → (c : Content) → content i t ≡ some c
    → (p : Party) (o : ℕ) → owner_of p ≡ Some o → (u : Uuid)
    → Removed i t c p (key_by o u) (store_remove i t p u)

-- ---- removals among the calls of a list

-- a call of the guarantee's lists, or a removal, which names its party
pub data Act : Type 0 where
  calls : Call saving → Act
  removes : Party → Uuid → Act

pub data Said : Type 0 where
  said : Reply saving → Said
  removed : Result Bool LookError → Said

-- on a store
abbrev pub then_says : {A : Type 0} → (A → Said) → Done A → Done Said
then_says f d = record { answer = f d.answer; index = d.index; text = d.text }

unfoldable pub store_act : List ℕ → List ℕ → Act → Done Said
store_act i t (calls x) = then_says said (store_call i t x)
store_act i t (removes p u) = then_says removed (store_remove i t p u)

-- the answers to a list of them, and the buffers at its end
pub record Acted : Type 0 where
  pub answers : List Said
  pub index : List ℕ
  pub text : List ℕ

abbrev pub and_acted : Said → Acted → Acted
and_acted a r = record { answers = a ∷ r.answers; index = r.index; text = r.text }

unfoldable pub run_acts : List ℕ → List ℕ → List Act → Acted
run_acts i t [] = record { answers = []; index = i; text = t }
run_acts i t (x ∷ xs) =
    and_acted (store_act i t x).answer (run_acts (store_act i t x).index (store_act i t x).text xs)

-- in the book: a removal strikes its party's line out; 24 where the party is nobody
pub record BookAct : Type 0 where
  pub answer : Said
  pub content : Content

abbrev pub book_act : ℕ → ℕ → Content → Act → BookAct
book_act n m c (calls x) = record { answer = said (book_turn n m c x).answer; content = book_after n m c x }
book_act n m c (removes p u) =
    by_owner (owner_of p) (record { answer = removed (Err L.NoOwner); content = c })
    (λ o. record {
      answer = removed (Ok (holds (key_by o u) c.held));
      content = with_held c (strike (key_by o u) c.held);
    })

pub record BookActed : Type 0 where
  pub answers : List Said
  pub content : Content

abbrev pub and_book : Said → BookActed → BookActed
and_book a r = record { answers = a ∷ r.answers; content = r.content }

unfoldable pub book_acts : ℕ → ℕ → Content → List Act → BookActed
book_acts n m c [] = record { answers = []; content = c }
book_acts n m c (x ∷ xs) = and_book (book_act n m c x).answer (book_acts n m (book_act n m c x).content xs)

-- the theorem `with_removals`: on a fresh store of n and m bytes every answer to such a list is the book's, and the
-- store holds the book's shares and lines at its end
abbrev pub WithRemovals : ℕ → ℕ → Type 0
WithRemovals n m =
    (xs : List Act)
    → ((run_acts (fresh n) (fresh m) xs).answers ≡ (book_acts n m nothing_held xs).answers)
    × (content (run_acts (fresh n) (fresh m) xs).index (run_acts (fresh n) (fresh m) xs).text
    ≡ some (book_acts n m nothing_held xs).content)
