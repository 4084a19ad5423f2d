-- The border moved on, and moved down where a line is struck out: what is filled is that of the rows again.
-- Assumes nothing.
use mathlib.Core.Bool.{Bool, true, false}
use mathlib.Core.List.{List}
use mathlib.Core.Path.{◌≡◌, refl, sym, ap, ap₂, ◌∙◌, subst}
use Prim.Native.Nat.{ℕ, zero, suc, ◌+◌, ◌-◌, ◌*◌, ◌≤◌, ◌<◌}
use native.Mathlib.Omega.{arith}
use lib.Dec.{eqb, leb}
use lib.ListN.{length}
use borrow.Author.Count.{below_more}
use borrow.Author.Tests.{eqb-true, eqb-false, eq-eqb, ne_eqb, leb-true, leb-false}
use Rattle.text.specs.Bytes.{pick}
use Rattle.store.specs.declared.rows.Row.{Row}
use Rattle.store.specs.declared.border.Border.{Border}
use Rattle.store.specs.declared.border.Moved.{Moved}
use Rattle.store.specs.declared.border.Standing.{Standing}
use Rattle.store.specs.Border.{row_sum, one_line, far_size, Near, Bordered, Moves, Replaces, Replaced}
use Rattle.store.specs.Claims.{row_lengths}
use Rattle.store.specs.Held.{Key, text_max, line_max, short_max, size_by}
use Rattle.store.specs.Rows.{row_in, key_in, start_in, len_in, len_put, row_of}
use Rattle.store.proofs.BorderLaws.{row_len, sum-next, sum_most, sum_less, sum_kept, lengths_sum}
use Rattle.store.proofs.WriteLaws.{len_other, len_same, put_before_long}

-- ---- `advance`

-- the rows up to `at` are passed
pub record Moving (a : List Row) (n : ℕ) (from : Border) (at bytes passed : ℕ) : Type 0 where
  pub near : Near a n (record { rows = at; bytes = bytes })
  pub is : row_sum one_line a from.rows + passed ≡ row_sum one_line a at
  pub few : passed ≤ at

module _ {a : List Row} {n : ℕ} {from : Border} where
  pub move-first : Near a n from → Moving a n from from.rows from.bytes 0
  move-first w = record { near = w; is = omega arith; few = omega arith }

  module _ {at bytes passed : ℕ} (w : Moving a n from at bytes passed) where
    -- a line starts at 65535 or below
    module _ (l : at < n) (near : bytes ≤ short_max) where
      pub move-most : bytes + len_in a at ≤ row_lengths a n
      move-most = omega (
        arith,
        w.near.bytes,
        lengths_sum a at,
        lengths_sum a n,
        sum-next row_len a at,
        sum_most row_len a (n - (at + 1)) (at + 1) n (omega arith),
      )

      one_most : (b : Bool) → pick b 0 1 ≤ 1
      one_most true = omega arith
      one_most false = omega arith

      pub move-turn : (one : ℕ) → one ≡ pick (eqb (len_in a at) 0) 0 1
          → Moving a n from (at + 1) (bytes + len_in a at) (passed + one)
      move-turn one e = record {
        near = record {
          within = omega arith;
          bytes = omega (arith, w.near.bytes, lengths_sum a at, lengths_sum a (at + 1), sum-next row_len a at);
          starts = below_more (λ (j : ℕ). row_lengths a j ≤ short_max) at w.near.starts (omega (arith, w.near.bytes));
        };
        is = omega (arith, w.is, sum-next one_line a at);
        few = omega (arith, w.few, one_most (eqb (len_in a at) 0));
      }

    pub move-end : (at < n → short_max < bytes)
        → Moves a n from (record { border = record { rows = at; bytes = bytes }; passed = passed })
    move-end f = record { bordered = record { near = w.near; far = f }; passed = w.is }

-- ---- `border_of`

pub all_near : (a : List Row) (n used : ℕ) → used ≤ short_max → used ≡ row_lengths a n
    → Bordered a n (record { rows = n; bytes = used })
all_near a n used l e = record {
  near = record {
    within = omega arith;
    bytes = e;
    starts = λ j p. omega (
      arith,
      lengths_sum a j,
      lengths_sum a n,
      sum_most row_len a (n - j) j n (omega arith),
    );
  };
  far = λ p. absurd (omega arith);
}

pub none_near : (a : List Row) (n : ℕ) → Near a n (record { rows = 0; bytes = 0 })
unfolding row_lengths
none_near a n = record { within = omega arith; bytes = refl; starts = λ j p. absurd (omega arith) }

-- ---- `with_row`

-- what a line comes to by its owner, and 0 for one that is struck out: `one_line` and `far_size`
abbrev of_line : (ℕ → ℕ) → Row → ℕ
of_line g r = pick (eqb r.len 0) 0 (g r.owner)

abbrev one : ℕ → ℕ
one o = 1

abbrev far : ℕ → ℕ
far o = size_by o true

-- two bytes are part of each record
far_least : (a : List Row) (n : ℕ) → 2 * row_sum one_line a n ≤ row_sum far_size a n
unfolding row_sum
far_least a zero = omega arith
far_least a (suc n) = omega (arith, far_least a n, it (eqb (len_in a n) 0) (eqb (key_in a n).owner 0))
  where
    it : (b c : Bool) → 2 * pick b 0 1 ≤ pick b 0 (pick c 23 24)
    it true c = omega arith
    it false true = omega arith
    it false false = omega arith

module _ {a b : List Row} {w : Standing} {u : Key} {r had len : ℕ} (x : Replaces a b w u r had len) where
  abbrev n : ℕ
  n = w.fill.count

  none_out : eqb r 0 ≡ true → b ≡ a
  none_out e = x.struck ∙ ap (λ (v : Bool). pick v a (len_put a (r - 1) 0)) e

  module _ (e : eqb r 0 ≡ false) where
    some_out : b ≡ len_put a (r - 1) 0
    some_out = x.struck ∙ ap (λ (v : Bool). pick v a (len_put a (r - 1) 0)) e

    first_row : 0 < r
    first_row = omega (arith, ne (eqb-false r 0 e))
      where
        ne : (r ≡ 0 → ⊥) → 0 < r
        ne f = omega arith

    row_gone : row_in b (r - 1) ≡ row_of (key_in a (r - 1)) (start_in a (r - 1)) 0
    row_gone = ap (λ (v : List Row). row_in v (r - 1)) some_out
        ∙ len_same a (r - 1) 0 (omega (arith, x.least, x.few, first_row))

    row_kept : (k : ℕ) → (k ≡ r - 1 → ⊥) → row_in b k ≡ row_in a k
    row_kept k f = ap (λ (v : List Row). row_in v k) some_out ∙ len_other a (r - 1) 0 k f

  last_kept : row_in b w.fill.count ≡ row_in a w.fill.count
  last_kept = go (eqb r 0) refl
    where
      go : (c : Bool) → eqb r 0 ≡ c → row_in b w.fill.count ≡ row_in a w.fill.count
      go true e = ap (λ (v : List Row). row_in v w.fill.count) (none_out e)
      go false e = row_kept e w.fill.count (λ z. omega (arith, x.least, first_row e))

  -- a sum over rows, with the one before number r and without it
  module _ (f : Row → ℕ) (none : (k : Key) (start : ℕ) → f (row_of k start 0) ≡ 0) where
    with_it : (k : ℕ) → r ≤ k → row_sum f a k ≡ row_sum f b k + pick (eqb r 0) 0 (f (row_in a (r - 1)))
    with_it k l = go (eqb r 0) refl
      where
        go : (c : Bool) → eqb r 0 ≡ c → row_sum f a k ≡ row_sum f b k + pick c 0 (f (row_in a (r - 1)))
        go true e =
            let z : row_sum f b k ≡ row_sum f a k = ap (λ (v : List Row). row_sum f v k) (none_out e) in
            omega arith
        go false e =
            sum_less f a b (r - 1) (ap f (row_gone e) ∙ none (key_in a (r - 1)) (start_in a (r - 1))) (row_kept e) k
            (omega (arith, first_row e))

    before_it : (k : ℕ) → k < r → row_sum f b k ≡ row_sum f a k
    before_it k l = go (eqb r 0) refl
      where
        go : (c : Bool) → eqb r 0 ≡ c → row_sum f b k ≡ row_sum f a k
        go true e = let z : r ≡ 0 = eqb-true r 0 e in absurd (omega arith)
        go false e =
            sum_kept f a b (r - 1) (ap f (row_gone e) ∙ none (key_in a (r - 1)) (start_in a (r - 1))) (row_kept e) k
            (omega arith)

  -- lengths
  lengths_with : (k : ℕ) → r ≤ k → row_lengths a k ≡ row_lengths b k + had
  lengths_with k l =
      lengths_sum a k ∙ with_it row_len (λ u s. refl) k l
      ∙ ap₂ (λ (v y : ℕ). v + y) (sym (lengths_sum b k)) (sym x.struck_len)

  lengths_before : (k : ℕ) → k < r → row_lengths b k ≡ row_lengths a k
  lengths_before k l =
      lengths_sum b k ∙ before_it row_len (λ u s. refl) k l ∙ sym (lengths_sum a k)

  lengths_least : (k : ℕ) → row_lengths b k ≤ row_lengths a k
  lengths_least k = go (leb r k) refl
    where
      go : (c : Bool) → leb r k ≡ c → row_lengths b k ≤ row_lengths a k
      go true e = omega (arith, lengths_with k (leb-true r k e))
      go false e = omega (arith, lengths_before k (leb-false r k e))

  lengths_next : row_lengths b (w.fill.count + 1) ≡ row_lengths b w.fill.count + len
  lengths_next =
      lengths_sum b (n + 1) ∙ sum-next row_len b n
      ∙ ap₂ (λ (v y : ℕ). v + y) (sym (lengths_sum b n)) (ap (λ (v : Row). v.len) last_kept ∙ x.last_len)

  -- records
  module _ (g : ℕ → ℕ) where
    its_out : pick (eqb r 0) 0 (of_line g (row_in a (r - 1))) ≡ pick (eqb had 0) 0 (g u.owner)
    its_out = go (eqb r 0) refl
      where
        go : (c : Bool) → eqb r 0 ≡ c
            → pick c 0 (of_line g (row_in a (r - 1))) ≡ pick (eqb had 0) 0 (g u.owner)
        go true e =
            let z : had ≡ 0 = x.struck_len ∙ ap (λ (v : Bool). pick v 0 (len_in a (r - 1))) e in
            sym (ap (λ (v : Bool). pick v 0 (g u.owner)) (eq-eqb had 0 z))
        go false e =
            let z : had ≡ len_in a (r - 1) = x.struck_len ∙ ap (λ (v : Bool). pick v 0 (len_in a (r - 1))) e in
            ap₂ (λ (v o : ℕ). pick (eqb v 0) 0 (g o)) (sym z) (x.same (first_row e))

    lines_with : (k : ℕ) → r ≤ k
        → row_sum (of_line g) a k ≡ row_sum (of_line g) b k + pick (eqb had 0) 0 (g u.owner)
    lines_with k l = with_it (of_line g) (λ u s. refl) k l
        ∙ ap (λ (v : ℕ). row_sum (of_line g) b k + v) its_out

    lines_before : (k : ℕ) → k < r → row_sum (of_line g) b k ≡ row_sum (of_line g) a k
    lines_before k l = before_it (of_line g) (λ u s. refl) k l

    lines_next : row_sum (of_line g) b (w.fill.count + 1) ≡ row_sum (of_line g) b w.fill.count + g u.owner
    lines_next =
        sum-next (of_line g) b n
        ∙ ap (λ (v : ℕ). row_sum (of_line g) b n + v)
        (ap (of_line g) last_kept
        ∙ ap₂ (λ (c : Bool) (o : ℕ). pick c 0 (g o))
        (ap (λ (v : ℕ). eqb v 0) x.last_len ∙ ne_eqb len 0 (λ z. omega (arith, x.some)))
        (ap (λ (v : Key). v.owner) x.last_key))

  -- what the code asks
  pub had_within : r ≤ w.border.rows → had ≤ w.border.bytes
  had_within l = omega (arith, lengths_with w.border.rows l, x.measured.bordered.near.bytes)

  pub had_used : had ≤ w.fill.used
  had_used = omega (arith, lengths_with n x.least, x.measured.used)

  pub rows_within : (w.fill.count + 1 ≤ length b) × (row_lengths b (w.fill.count + 1) ≤ text_max + line_max)
  rows_within = (
    omega (arith, x.few, ap length x.struck, put_before_long a r 0),
    omega (arith, lengths_next, lengths_least n, x.measured.used, x.fit.1.0, x.fit.1.1),
  )

  pub near_without : (v : Border)
      → v ≡ pick (leb r w.border.rows) (record { rows = w.border.rows; bytes = w.border.bytes - had }) w.border
      → Near b (w.fill.count + 1) v
  near_without v e = subst (Near b (w.fill.count + 1)) (sym e) (go (leb r w.border.rows) refl)
    where
      starts : (j : ℕ) → j < w.border.rows → row_lengths b j ≤ short_max
      starts j l = omega (arith, lengths_least j, x.measured.bordered.near.starts j l)

      near_by : (bytes : ℕ) → bytes ≡ row_lengths b w.border.rows
          → Near b (w.fill.count + 1) (record { rows = w.border.rows; bytes = bytes })
      near_by bytes q = record {
        within = omega (arith, x.measured.bordered.near.within);
        bytes = q;
        starts = starts;
      }

      go : (c : Bool) → leb r w.border.rows ≡ c → Near b (w.fill.count + 1)
          (pick c (record { rows = w.border.rows; bytes = w.border.bytes - had }) w.border)
      go true q = near_by (w.border.bytes - had) (omega (
        arith,
        x.measured.bordered.near.bytes,
        lengths_with w.border.rows (leb-true r w.border.rows q),
      ))
      go false q = near_by w.border.bytes (omega (
        arith,
        x.measured.bordered.near.bytes,
        lengths_before w.border.rows (leb-false r w.border.rows q),
      ))

  same_rows : (v : Border)
      → v ≡ pick (leb r w.border.rows) (record { rows = w.border.rows; bytes = w.border.bytes - had }) w.border
      → v.rows ≡ w.border.rows
  same_rows v e = ap (λ (z : Border). z.rows) e ∙ go (leb r w.border.rows)
    where
      go : (c : Bool) → (pick c (record { rows = w.border.rows; bytes = w.border.bytes - had }) w.border).rows
          ≡ w.border.rows
      go true = refl
      go false = refl

  -- one more record, as long as behind the border
  module _ (end : ℕ)
      (ends : end ≡ pick (eqb had 0) (w.fill.end + size_by u.owner true)
      (pick (leb r w.border.rows) (w.fill.end + 2) w.fill.end)) where
    end_far : end + 2 * row_sum one_line b w.border.rows ≡ row_sum far_size b (w.fill.count + 1)
    end_far = go (eqb had 0) (leb r w.border.rows) refl ends (lines_with far n x.least)
        (λ l. lines_with one w.border.rows l)
      where
        go : (c d : Bool) → leb r w.border.rows ≡ d
            → end ≡ pick c (w.fill.end + size_by u.owner true) (pick d (w.fill.end + 2) w.fill.end)
            → row_sum far_size a w.fill.count ≡ row_sum far_size b w.fill.count + pick c 0 (size_by u.owner true)
            → (r ≤ w.border.rows → row_sum one_line a w.border.rows ≡ row_sum one_line b w.border.rows + pick c 0 1)
            → end + 2 * row_sum one_line b w.border.rows ≡ row_sum far_size b (w.fill.count + 1)
        go true true q e p o =
            omega (arith, x.measured.end, lines_next far, o (leb-true r w.border.rows q))
        go true false q e p o =
            omega (arith, x.measured.end, lines_next far, lines_before one w.border.rows (leb-false r w.border.rows q))
        go false true q e p o =
            omega (arith, x.measured.end, lines_next far, o (leb-true r w.border.rows q))
        go false false q e p o =
            omega (arith, x.measured.end, lines_next far, lines_before one w.border.rows (leb-false r w.border.rows q))

    -- the border is moved on
    module _ (v : Border)
        (e : v ≡ pick (leb r w.border.rows) (record { rows = w.border.rows; bytes = w.border.bytes - had }) w.border)
        (m : Moved) (moves : Moves b (w.fill.count + 1) v m) where
      ones : row_sum one_line b w.border.rows + m.passed ≡ row_sum one_line b m.border.rows
      ones = ap (λ (k : ℕ). row_sum one_line b k + m.passed) (sym (same_rows v e)) ∙ moves.passed

      pub passed_most : 2 * m.passed ≤ end
      passed_most = omega (
        arith,
        end_far,
        ones,
        far_least b (n + 1),
        sum_most one_line b (n + 1 - m.border.rows) m.border.rows (n + 1)
            (omega (arith, moves.bordered.near.within)),
      )

      pub row_counted : Replaced b w (record {
        fill = record {
          count = w.fill.count + 1;
          end = end - 2 * m.passed;
          used = w.fill.used - had + len;
        };
        border = m.border;
      })
      row_counted = record {
        count = refl;
        most = omega (arith, x.measured.used, lengths_with n x.least, lengths_next, rows_within.1);
        measured = record {
          bordered = moves.bordered;
          end = omega (arith, end_far, ones, passed_most);
          used = omega (arith, x.measured.used, lengths_with n x.least, lengths_next);
        };
      }
