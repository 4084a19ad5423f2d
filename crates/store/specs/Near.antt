-- A look-up that also takes a UUID without its checksum (document 02, P5), within its party's lines (P9). What is claimed
-- of it is proved as
-- `beside_look_up`, `never_near` and `near_after` in ../proofs/NearLaws.antt.
-- Public contracts rest on these definitions; they assume nothing.
use Rattle.std.specs.Prelude.{◌≡◌, List, [], ℕ, Option as Optional, Some, None, Result, Ok, Err, ⊤}
use Rattle.std.proofs.Math.Option.{Option, none, some}
use Rattle.text.specs.Uuid.{without_checksum}
use Rattle.text.specs.declared.uuid.Uuid.{Uuid}
use Rattle.store.specs.declared.parties.Party.{Party}
use Rattle.store.specs.Parties.{owner_of, by_owner}
use Rattle.store.specs.Refusals.{look_refusal}
use Rattle.store.specs.Held.{Key, key_by, find}
use Rattle.store.specs.Shares.{Content}
use Rattle.store.specs.Decode.{content}
use Rattle.store.specs.Store.{Looked, found, nothing, unsound, no_owner, look_up}
use Rattle.store.specs.Filings.{line_filed}
use Rattle.store.specs.Guarantee.{Calls, stored, last_of}
use Rattle.store.specs.declared.calls.LookError.TheVariants as L
use Rattle.store.specs.declared.near.Nearness.TheVariants as N
use Rattle.store.specs.declared.calls.LookError.{LookError}
use Rattle.store.specs.declared.near.Nearness.{Nearness}
use Rattle.line.specs.declared.refusal.Refusal.{Refusal}

-- "The result says exact, near, none or 19, with the line"; and 24
pub data Nearby : Type 0 where
  exact : List ℕ → Nearby
  near : List ℕ → Nearby
  neither : Nearby
  damaged : Nearby
  nobody : Nearby

-- "tries the whole UUID, then the same UUID with those two bytes zero"; "It is near exactly when only the second is
-- held."
abbrev pub near_in : Option (List ℕ) → Option (List ℕ) → Nearby
near_in (some l) second = exact l
near_in none (some l) = near l
near_in none none = neither

-- "the same UUID with those two bytes zero", of the same party
abbrev pub plain_key : Key → Key
plain_key k = key_by k.owner (without_checksum k.uuid)

abbrev pub near_at : Key → Option Content → Nearby
near_at k none = damaged
near_at k (some c) = near_in (find k c.held) (find (plain_key k) c.held)

-- what two buffers hold under a key, or under it without its checksum; 19 where they encode no list of lines
unfoldable pub near_by : Key → List ℕ → List ℕ → Nearby
near_by k i t = near_at k (content i t)

-- the look-up names its party; 24 first
unfoldable pub near_up : Party → Uuid → List ℕ → List ℕ → Nearby
near_up p u i t = by_owner (owner_of p) nobody (λ o. near_by (key_by o u) i t)

-- "exact, near, none or 19"
abbrev pub near_says : Nearby → Result (Optional Nearness) LookError
near_says (exact l) = Ok (Some N.Exact)
near_says (near l) = Ok (Some N.Near)
near_says neither = Ok None
near_says damaged = Err L.Unsound
near_says nobody = Err L.NoOwner

-- "with the line, empty for the last two", and for 24
abbrev pub near_line : Nearby → List ℕ
near_line (exact l) = l
near_line (near l) = l
near_line neither = []
near_line damaged = []
near_line nobody = []

-- what each answer refuses
abbrev pub near_outcome : Result (Optional Nearness) LookError → Result ⊤ Refusal
near_outcome (Ok how) = Ok tt
near_outcome (Err e) = Err (look_refusal e)

-- ---- theorems

-- a fact exactly when another
abbrev pub Exactly : Type 0 → Type 0 → Type 0
Exactly A B = (A → B) × (B → A)

-- the theorem `beside_look_up`: the answer beside those of the old look-up for the whole UUID and for the second
pub record Beside (answer : Nearby) (whole second : Looked) : Type 0 where
  -- "The old look-up remains, and an exact find is the same line as there."
  pub exact_found : (l : List ℕ) → Exactly (answer ≡ exact l) (whole ≡ found l)
  -- "It is near exactly when only the second is held."
  pub near_only : (l : List ℕ) → Exactly (answer ≡ near l) ((whole ≡ nothing) × (second ≡ found l))
  pub neither_held : Exactly (answer ≡ neither) ((whole ≡ nothing) × (second ≡ nothing))
  pub not_sound : Exactly (answer ≡ damaged) (whole ≡ unsound)
  pub for_no_owner : Exactly (answer ≡ nobody) (whole ≡ no_owner)

abbrev pub BesideLookUp : Type 0
BesideLookUp =
    (p : Party) (u : Uuid) (i t : List ℕ)
    → Beside (near_up p u i t) (look_up p u i t) (look_up p (without_checksum u) i t)

-- the theorem `never_near`: a UUID without a checksum is held itself, or not at all
abbrev pub NeverNear : Type 0
NeverNear = (p : Party) (u : Uuid) (i t l : List ℕ) → without_checksum u ≡ u → near_up p u i t ≡ near l → ⊥

-- the theorem `near_after`: after a list of calls on a fresh store of n and m bytes, what counts is the line that the
-- party last filed under the whole UUID, and that last filed under the second
abbrev pub NearAfter : ℕ → ℕ → Calls → Type 0
NearAfter n m xs =
    (p : Party) (u : Uuid) → near_up p u (stored n m xs).index (stored n m xs).text
    ≡ by_owner (owner_of p) nobody
    (λ o. near_in (line_filed (last_of n m xs (key_by o u))) (line_filed (last_of n m xs (key_by o (without_checksum u)))))
