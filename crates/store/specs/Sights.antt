-- A look-up among the lines of a sound store that are written down by number.
-- No public contract rests on these: a reader may leave them out.
use Rattle.std.specs.Prelude.{◌≡◌, Bool, true, false, Option as Optional, Some, None, Result, Ok, Err, List, [], ℕ, ◌+◌, ◌≤◌, ◌<◌, length, take, drop}
use Rattle.std.proofs.Math.Option.{Option, none, some}
use Rattle.store.specs.declared.chains.Link.{Link}
use Rattle.store.specs.declared.rows.Row.{Row}
use Rattle.store.specs.declared.table.Fill.{Fill}
use Rattle.store.specs.declared.look.Part.{Part}
use Rattle.store.specs.declared.near.Nearness.{Nearness}
use Rattle.store.specs.declared.calls.LookError.{LookError}
use Rattle.store.specs.Store.{Looked, says_of, line_of}
use Rattle.store.specs.Held.{Key, Held, find}
use Rattle.store.specs.Keys.{Chained}
use Rattle.store.specs.Rows.{row_in, key_in}
use Rattle.store.specs.Table.{InRows}
use Rattle.store.specs.Near.{Nearby, near_in, plain_key, near_says, near_line}

-- the first n rows are the same
abbrev pub Agree : List Row → List Row → ℕ → Type 0
Agree a b n = (k : ℕ) → k < n → row_in a k ≡ row_in b k

-- the first n numbers are in their chains, and there is room for one more
pub record Ready (a : List Row) (heads : List ℕ) (links : List Link) (n : ℕ) : Type 0 where
  pub few : n < length a
  pub chained : Chained (key_in a) heads links n

-- where a line lies in a text, if there is one
pub data Spot (t : List ℕ) (o : Option (List ℕ)) (r : Optional Part) : Type 0 where
  nowhere : o ≡ none → r ≡ None → Spot t o r
  there : (q : Part) → o ≡ some (take q.len (drop q.start t)) → r ≡ Some q → q.start + q.len ≤ length t → Spot t o r

-- `part_of`: where the line of a key lies, if the first rows are those of the lines hs
abbrev pub Spots : List Row → List ℕ → List Link → Fill → Key → Optional Part → Type 0
Spots a heads links f k r =
    (i t : List ℕ) (b : List Row) (hs : List Held) → Agree b a f.count → InRows i t [] b heads links f.count f hs
    → Spot t (find k hs) r

-- where a line lies, as a look-up tells it: within the text, and the line there; an empty one where none is told
abbrev pub Inside : List ℕ → Optional Part → Type 0
Inside t None = Unit {0}
Inside t (Some q) = q.start + q.len ≤ length t

abbrev pub line_there : List ℕ → Optional Part → List ℕ
line_there t None = []
line_there t (Some q) = take q.len (drop q.start t)

abbrev pub told_part : {E : Type 0} → Result (Optional Part) E → Optional Part
told_part (Ok o) = o
told_part (Err e) = None

-- `look`: what a look-up comes to, and where the line lies
abbrev pub seen_says : Result (Optional Part) LookError → Result Bool LookError
seen_says (Ok None) = Ok false
seen_says (Ok (Some q)) = Ok true
seen_says (Err e) = Err e

pub record Sees (t : List ℕ) (x : Looked) (r : Result (Optional Part) LookError) : Type 0 where
  pub how : seen_says r ≡ says_of x
  pub within : Inside t (told_part r)
  pub line : line_there t (told_part r) ≡ line_of x

-- `look_near`: the same of a look-up that also tries the UUID without its checksum
abbrev pub near_seen_says : Result (Optional (Nearness × Part)) LookError → Result (Optional Nearness) LookError
near_seen_says (Ok None) = Ok None
near_seen_says (Ok (Some (n, q))) = Ok (Some n)
near_seen_says (Err e) = Err e

abbrev pub near_part : Result (Optional (Nearness × Part)) LookError → Optional Part
near_part (Ok None) = None
near_part (Ok (Some (n, q))) = Some q
near_part (Err e) = None

pub record NearSees (t : List ℕ) (x : Nearby) (r : Result (Optional (Nearness × Part)) LookError) : Type 0 where
  pub how : near_seen_says r ≡ near_says x
  pub within : Inside t (near_part r)
  pub line : line_there t (near_part r) ≡ near_line x

-- `try_both`
abbrev pub Tries : List Row → List ℕ → List Link → Fill → Key → Optional (Nearness × Part) → Type 0
Tries a heads links f k r =
    (i t : List ℕ) (hs : List Held) → InRows i t [] a heads links f.count f hs
    → NearSees t (near_in (find k hs) (find (plain_key k) hs)) (Ok r)
