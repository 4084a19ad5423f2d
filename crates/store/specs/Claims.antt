-- What the parties claim of the text, while one of them files: its own use changes, what the others claim stays.
-- No public contract rests on these: a reader may leave them out.
use Rattle.std.specs.Prelude.{◌≡◌, List, [], ◌∷◌, ℕ, zero, suc, ◌+◌, ◌-◌, ◌*◌, ◌≤◌, ◌<◌, eqb, length, get_or}
use Rattle.text.specs.Bytes.{pick}
use Rattle.store.specs.declared.rows.Row.{Row}
use Rattle.store.specs.declared.claims.Dues.{Dues}
use Rattle.store.specs.Held.{Held, text_max}
use Rattle.store.specs.Shares.{owners, use_of, larger, claims}
use Rattle.store.specs.declared.table.Fill.{Fill}
use Rattle.store.specs.Inner.{lengths}
use Rattle.store.specs.Rows.{key_in, len_in}

-- the lines of the others than owner o
unfoldable pub not_of : ℕ → List Held → List Held
not_of o [] = []
not_of o (h ∷ hs) = pick (eqb h.key.owner o) (not_of o hs) (h ∷ not_of o hs)

-- every line's owner is a byte
abbrev pub OwnersBelow : List Held → Type 0
OwnersBelow [] = Unit {0}
OwnersBelow (h ∷ hs) = (h.key.owner < owners) × OwnersBelow hs

-- `dues_of`: with these numbers the sum over all parties is told for all lines that owner o's filings may leave, the
-- lines of the others being those of hs
pub record Owed (g : List ℕ) (o : ℕ) (hs : List Held) (d : Dues) : Type 0 where
  pub each : length g ≡ owners
  pub sum : (ks : List Held) → not_of o ks ≡ not_of o hs
      → d.others + larger (lengths ks - d.theirs) d.share ≡ claims g ks
  pub least : (ks : List Held) → not_of o ks ≡ not_of o hs → d.theirs ≤ lengths ks
  pub used : (ks : List Held) → not_of o ks ≡ not_of o hs → lengths ks ≤ claims g ks
  pub others_most : d.others ≤ owners * 4294967295
  pub share_most : d.share ≤ 4294967295

-- `add_uses`: the uses of all parties, by owner
abbrev pub Uses : List ℕ → List Held → Type 0
Uses u hs = (length u ≡ owners) × ((o : ℕ) → o < owners → get_or u o 0 ≡ use_of o hs)

-- the lengths of the first n rows, added up, and those of one owner's
unfoldable pub row_lengths : List Row → ℕ → ℕ
row_lengths a zero = 0
row_lengths a (suc n) = row_lengths a n + len_in a n

unfoldable pub row_use : ℕ → List Row → ℕ → ℕ
row_use o a zero = 0
row_use o a (suc n) = row_use o a n + pick (eqb (key_in a n).owner o) (len_in a n) 0

pub record Addable (a : List Row) (n : ℕ) : Type 0 where
  pub most : n ≤ length a
  pub fit : row_lengths a n ≤ text_max

abbrev pub Adds : List Row → ℕ → List ℕ → Type 0
Adds a n u = (length u ≡ owners) × ((o : ℕ) → o < owners → get_or u o 0 ≡ row_use o a n)

-- `claims_of`: of lines that are used so
abbrev pub Sums : List ℕ → List ℕ → ℕ → Type 0
Sums u g r = (hs : List Held) → Uses u hs → r ≡ claims g hs

pub record Covers (u g : List ℕ) (r : ℕ) : Type 0 where
  pub each : (o : ℕ) → o < owners → larger (get_or u o 0) (get_or g o 0) ≤ r
  pub most : r ≤ owners * 4294967295

-- `dues_of`: of rows that give the lines hs
abbrev pub DuesFrom : List Row → Fill → List ℕ → ℕ → Dues → Type 0
DuesFrom a f g o d =
    (hs : List Held) → f.used ≡ lengths hs → ((q : ℕ) → q < owners → row_use q a f.count ≡ use_of q hs)
    → OwnersBelow hs → Owed g o hs d
