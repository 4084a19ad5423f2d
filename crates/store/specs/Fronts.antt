-- The shares at an index's front, as private functions read and change them.
-- No public contract rests on these: a reader may leave them out.
use Rattle.std.specs.Prelude.{◌≡◌, Bool, ◌&&◌, ◌||◌, List, ◌++◌, ℕ, ◌+◌, ◌≤◌, eqb, leb, length, drop, get_or, replicate}
use Rattle.store.specs.Shares.{share_size}
use Rattle.store.specs.Layout.{share_bytes}
use Rattle.store.specs.Decode.{fronted}

-- a record of kind 4 or 6 stands at the front, whole
abbrev pub starts_share : List ℕ → Bool
starts_share i = leb 4 (length i) && eqb (get_or i 0 0) 4 || leb 6 (length i) && eqb (get_or i 0 0) 6

-- `read_shares`: the shares, and where the records of the lines start
pub record Fronts (i g : List ℕ) (p : ℕ) : Type 0 where
  pub within : p ≤ length i
  pub shares : g ≡ (fronted i).shares
  pub rest : drop p i ≡ (fronted i).rest

-- `fit_record`: behind a record that was `was` bytes long, and then is `size`, the same bytes stand, and more or fewer
-- zeros
pub record Moved (part : List ℕ) (was size : ℕ) (part' : List ℕ) : Type 0 where
  pub long : length part' ≡ length part
  pub rest : (behind : List ℕ) (zeros more : ℕ) → drop was part ≡ behind ++ replicate zeros 0
      → size + more ≡ was + zeros → drop size part' ≡ behind ++ replicate more 0

-- `change_share`: the record of a share, if there is one, and what stands behind it; a longer record takes the place of
-- zeros
pub record Changes (part : List ℕ) (o had share : ℕ) : Type 0 where
  pub behind : List ℕ
  pub zeros : ℕ
  pub is : part ≡ share_bytes o had ++ (behind ++ replicate zeros 0)
  pub room : share_size share ≤ share_size had + zeros
  pub most : share ≤ 4294967295

abbrev pub Changed : List ℕ → ℕ → ℕ → ℕ → List ℕ → Type 0
Changed part o had share part' =
    (behind : List ℕ) (zeros more : ℕ) → part ≡ share_bytes o had ++ (behind ++ replicate zeros 0)
    → share_size share + more ≡ share_size had + zeros → part' ≡ share_bytes o share ++ (behind ++ replicate more 0)
