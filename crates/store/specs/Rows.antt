-- Rows in one list, by number.
-- No public contract rests on these: a reader may leave them out.
use Rattle.std.specs.Prelude.{List, ℕ, ◌-◌, eqb, get_or, set}
use Rattle.text.specs.Bytes.{pick}
use Rattle.store.specs.declared.rows.Row.{Row}
use Rattle.store.specs.Held.{Key}

-- the greatest start that a row holds, in four bytes
abbrev pub start_max : ℕ
start_max = 4294967295

-- the row of a line, and its key
abbrev pub row_of : Key → ℕ → ℕ → Row
row_of u start len = record { uuid = u.uuid; start = start; len = len; owner = u.owner }

abbrev pub row_key : Row → Key
row_key r = record { owner = r.owner; uuid = r.uuid }

-- where no line is written down
abbrev pub unused : Row
unused = row_of (record { owner = 0; uuid = record { high = 0; low = 0 } }) 0 0

-- row k
abbrev pub row_in : List Row → ℕ → Row
row_in w k = get_or w k unused

abbrev pub key_in : List Row → ℕ → Key
key_in w k = row_key (row_in w k)

abbrev pub start_in : List Row → ℕ → ℕ
start_in w k = (row_in w k).start

abbrev pub len_in : List Row → ℕ → ℕ
len_in w k = (row_in w k).len

-- the rows with row k written, and with its length written
abbrev pub row_put : List Row → ℕ → Key → ℕ → ℕ → List Row
row_put w k u start len = set w k (row_of u start len)

abbrev pub len_put : List Row → ℕ → ℕ → List Row
len_put w k len = set w k (row_of (key_in w k) (start_in w k) len)

-- `len_before`, `put_len_before`: of the number before r; none where r is 0
abbrev pub len_before : List Row → ℕ → ℕ
len_before w r = pick (eqb r 0) 0 (len_in w (r - 1))

abbrev pub put_before : List Row → ℕ → ℕ → List Row
put_before w r len = pick (eqb r 0) w (len_put w (r - 1) len)
