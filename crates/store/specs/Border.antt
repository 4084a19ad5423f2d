-- Where lines start above 65535, by number: which rows stand before that border, and how long the records then are.
-- No public contract rests on these: a reader may leave them out.
use Rattle.std.specs.Prelude.{◌≡◌, true, List, ℕ, zero, suc, ◌+◌, ◌-◌, ◌*◌, ◌≤◌, ◌<◌, eqb, length}
use Rattle.text.specs.Bytes.{pick}
use Rattle.store.specs.declared.rows.Row.{Row}
use Rattle.store.specs.declared.border.Border.{Border}
use Rattle.store.specs.declared.border.Moved.{Moved}
use Rattle.store.specs.declared.border.Standing.{Standing}
use Rattle.store.specs.Held.{Key, index_max, text_max, line_max, short_max, size_by}
use Rattle.store.specs.Claims.{row_lengths}
use Rattle.store.specs.Rows.{row_in, key_in, len_in, len_before, put_before}

-- what each of the first n rows comes to, added up
unfoldable pub row_sum : (Row → ℕ) → List Row → ℕ → ℕ
row_sum f a zero = 0
row_sum f a (suc n) = row_sum f a n + f (row_in a n)

-- 1 for a line; 0 for one that is struck out
abbrev pub one_line : Row → ℕ
one_line r = pick (eqb r.len 0) 0 1

-- a line's record, as long as behind the border
abbrev pub far_size : Row → ℕ
far_size r = pick (eqb r.len 0) 0 (size_by r.owner true)

-- the rows before a border start at 65535 or below
pub record Near (a : List Row) (n : ℕ) (b : Border) : Type 0 where
  pub within : b.rows ≤ n
  pub bytes : b.bytes ≡ row_lengths a b.rows
  pub starts : (j : ℕ) → j < b.rows → row_lengths a j ≤ short_max

-- and the others of the first n above it
pub record Bordered (a : List Row) (n : ℕ) (b : Border) : Type 0 where
  pub near : Near a n b
  pub far : b.rows < n → short_max < b.bytes

-- `advance`
pub record Moves (a : List Row) (n : ℕ) (from : Border) (r : Moved) : Type 0 where
  pub bordered : Bordered a n r.border
  pub passed : row_sum one_line a from.rows + r.passed ≡ row_sum one_line a r.border.rows

-- what is filled is that of the rows: each line's record is as long as behind the border, but for two bytes before it
pub record Measured (a : List Row) (w : Standing) : Type 0 where
  pub bordered : Bordered a w.fill.count w.border
  pub end : w.fill.end + 2 * row_sum one_line a w.border.rows ≡ row_sum far_size a w.fill.count
  pub used : w.fill.used ≡ row_lengths a w.fill.count

-- `with_row`: the next row of a is of a line of that key, and b are those rows without the line before number r
pub record Replaces (a b : List Row) (w : Standing) (u : Key) (r had len : ℕ) : Type 0 where
  pub measured : Measured a w
  pub few : w.fill.count < length a
  pub fit : (w.fill.end ≤ index_max) × ((w.fill.used ≤ text_max) × (len ≤ line_max))
  pub some : 1 ≤ len
  pub least : r ≤ w.fill.count
  pub struck_len : had ≡ len_before a r
  pub struck : b ≡ put_before a r 0
  pub same : 0 < r → (key_in a (r - 1)).owner ≡ u.owner
  pub last_key : key_in a w.fill.count ≡ u
  pub last_len : len_in a w.fill.count ≡ len

abbrev pub Replaceable : List Row → Standing → Key → ℕ → ℕ → ℕ → Type 0
Replaceable b w u r had len = (a : List Row) × Replaces a b w u r had len

pub record Replaced (b : List Row) (w r : Standing) : Type 0 where
  pub count : r.fill.count ≡ w.fill.count + 1
  pub most : r.fill.used ≤ text_max + line_max
  pub measured : Measured b r
