-- A share setting, as private functions weigh it and write it.
-- No public contract rests on these: a reader may leave them out.
use Rattle.std.specs.Prelude.{◌≡◌, List, ℕ, ◌+◌, ◌≤◌, ◌<◌, ltb, length, get_or, set, Result, Ok, Err, ⊤}
use Rattle.text.specs.Bytes.{pick}
use Rattle.store.specs.declared.rows.Row.{Row}
use Rattle.store.specs.Held.{Held}
use Rattle.store.specs.Shares.{owners, share_sizes, use_of, claims}
use Rattle.store.specs.Layout.{encode_index}
use Rattle.store.specs.Inner.{sizes}
use Rattle.store.specs.Claims.{row_use}
use Rattle.store.specs.declared.calls.StoreError.TheVariants as E
use Rattle.store.specs.declared.calls.StoreError.{StoreError}

-- the first n rows are those of the lines hs, as far as uses tell
abbrev pub UsedBy : List Row → ℕ → List Held → Type 0
UsedBy a n hs = (q : ℕ) → q < owners → row_use q a n ≡ use_of q hs

-- `claims_with`: of rows that give the lines hs
abbrev pub ClaimsWith : List Row → ℕ → List ℕ → ℕ → Type 0
ClaimsWith a n g r = (hs : List Held) → UsedBy a n hs → r ≡ claims g hs

-- `share_room`: 26, then 21: m bytes of text, i of the index, of which `end` are then in use
abbrev pub Weighed : List Row → ℕ → List ℕ → ℕ → ℕ → ℕ → Result ⊤ StoreError → Type 0
Weighed a n g m i end r =
    (hs : List Held) → UsedBy a n hs
    → r ≡ pick (ltb m (claims g hs)) (Err E.ShareTooLarge) (pick (ltb i end) (Err E.NoRoom) (Ok tt))

-- `write_share`: the index has the shares g and the lines hs; s are the shares with the new one
pub record Writes (i s : List ℕ) (o had share : ℕ) (g : List ℕ) (hs : List Held) : Type 0 where
  pub index : i ≡ encode_index (length i) g hs
  pub owner : o < length g
  pub former : had ≡ get_or g o 0
  pub later : s ≡ set g o share
  pub fits : share_sizes g + sizes 0 hs ≤ length i
  pub room : share_sizes s + sizes 0 hs ≤ length i
  pub most : share ≤ 4294967295

abbrev pub Writable : List ℕ → List ℕ → ℕ → ℕ → ℕ → Type 0
Writable i s o had share = (g : List ℕ) × ((hs : List Held) × Writes i s o had share g hs)

abbrev pub Written : List ℕ → List ℕ → ℕ → ℕ → ℕ → List ℕ → Type 0
Written i s o had share i' =
    (g : List ℕ) (hs : List Held) → Writes i s o had share g hs → i' ≡ encode_index (length i) s hs
