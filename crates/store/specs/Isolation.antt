-- Parties that share a store don't disturb each other's look-ups (document 02, P9), proved as `isolated` in
-- ../proofs/IsolationLaws.antt.
-- The theorem rests on these definitions; they assume nothing.
use Rattle.std.specs.Prelude.{◌≡◌, List, [], ◌∷◌, ℕ, ◌≤◌, eqb, Some}
use Rattle.std.proofs.Math.Option.{Option, none, some}
use Rattle.text.specs.Bytes.{pick}
use Rattle.text.specs.declared.uuid.Uuid.{Uuid}
use Rattle.store.specs.declared.parties.Party.{Party}
use Rattle.store.specs.Parties.{owner_of, by_owner}
use Rattle.store.specs.Held.{index_max, text_max}
use Rattle.store.specs.Book.{Call, clear, insert, save, share, Reply}
use Rattle.store.specs.Store.{Runs, look_up}
use Rattle.store.specs.Saves.{SaveArgs, saving}
use Rattle.store.specs.Guarantee.{Calls, stored}
use Rattle.store.specs.Near.{near_up}

-- "a party's own calls [..] and the clears": what such a call asks
pub data Own : Type 0 where
  clears : Own
  inserts : List ℕ → Own
  saves : SaveArgs → Own

-- what a call asks if it is a clear or that owner's own; none of another party's, of nobody's (24), and
-- of a share's setting, which files nothing (P10)
abbrev pub own_call : ℕ → Call saving → Option Own
own_call o clear = some clears
own_call o (insert p s) = by_owner (owner_of p.party) none (λ q. pick (eqb q o) (some (inserts s)) none)
own_call o (save p c) = by_owner (owner_of p.party) none (λ q. pick (eqb q o) (some (saves c.args)) none)
own_call o (share q b) = none

-- such a call and its result: number, place, count and spellings of an insert, number, place, code and map of a save
pub record Deed : Type 0 where
  pub call : Own
  pub result : Reply saving

abbrev pub and_deed : Option Own → Reply saving → List Deed → List Deed
and_deed none r ds = ds
and_deed (some x) r ds = record { call = x; result = r } ∷ ds

-- "a party's own calls, their results and the clears", "in the same order" as in the list
unfoldable pub deeds : ℕ → Calls → List (Reply saving) → List Deed
deeds o [] rs = []
deeds o (x ∷ xs) [] = []
deeds o (x ∷ xs) (r ∷ rs) = and_deed (own_call o x) r (deeds o xs rs)

-- "its look-ups find the same": the old ones and the near ones, under every UUID
pub record FindsSame (p : Party) (a b : Runs saving) : Type 0 where
  pub same : (u : Uuid) → look_up p u a.index a.text ≡ look_up p u b.index b.text
  pub same_near : (u : Uuid) → near_up p u a.index a.text ≡ near_up p u b.index b.text

-- the theorem `isolated`: "In two of the guarantee's lists that have a party's own calls, their results and the clears
-- alike and in the same order, its look-ups find the same." The party is "the hall or an owner from 1 to 255", and the
-- two stores may be of unlike sizes
abbrev pub Isolated : Type 0
Isolated =
    (p : Party) (o : ℕ) → owner_of p ≡ Some o
    → (n m n' m' : ℕ) → n ≤ index_max → m ≤ text_max → n' ≤ index_max → m' ≤ text_max
    → (xs ys : Calls) → deeds o xs (stored n m xs).answers ≡ deeds o ys (stored n' m' ys).answers
    → FindsSame p (stored n m xs) (stored n' m' ys)
