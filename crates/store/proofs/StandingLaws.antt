-- What is filled, by the rows: where the records of their lines end, the border being told, and how many bytes those have.
-- Assumes nothing.
use mathlib.Core.Bool.{true}
use mathlib.Core.List.{List, []}
use mathlib.Core.Option.{some}
use mathlib.Core.Path.{◌≡◌, sym, ap, ◌∙◌}
use Prim.Native.Nat.{ℕ, ◌+◌, ◌≤◌, ◌<◌}
use native.Mathlib.Omega.{arith}
use lib.ListN.{length}
use Rattle.store.specs.declared.chains.Link.{Link}
use Rattle.store.specs.declared.rows.Row.{Row}
use Rattle.store.specs.declared.border.Standing.{Standing}
use Rattle.store.specs.declared.table.Fill.{Fill}
use Rattle.store.specs.Border.{one_line, far_size, Measured}
use Rattle.store.specs.Claims.{row_lengths}
use Rattle.store.specs.Decode.{decode}
use Rattle.store.specs.Held.{Held, text_max}
use Rattle.store.specs.Inner.{sizes, known}
use Rattle.store.specs.Layout.{texts}
use Rattle.store.specs.Rows.{row_in, start_in, len_in}
use Rattle.store.specs.Table.{living, source_of, line_at, InRows, Loads, InStanding}
use Rattle.store.proofs.BorderLaws.{row_len, sum_same, lengths_sum, living_lengths, border_sizes}
use Rattle.store.proofs.DecodeLaws.{lines_of_lem}
use Rattle.store.proofs.RoomLaws.{sizes_sum}

-- of rows that give lines
module _ (t s : List ℕ) (a : List Row) (old : ℕ) (w : Standing)
    (inside : (k : ℕ) → k < w.fill.count → start_in a k + len_in a k ≤ length (source_of t s old k))
    (m : Measured a w) where
  pub measured_end : w.fill.end ≡ sizes 0 (living (line_at t s a old) w.fill.count)
  measured_end = omega (
    arith,
    m.end,
    border_sizes t s a old w.fill.count inside w.border m.bordered,
    sizes_sum (living (line_at t s a old) w.fill.count) 0,
  )

  pub measured_used : w.fill.used ≡ length (texts (living (line_at t s a old) w.fill.count))
  measured_used = m.used ∙ sym (living_lengths t s a old w.fill.count inside w.fill.count (omega arith))

-- and back
module _ {i t s : List ℕ} {a : List Row} {heads : List ℕ} {links : List Link} {old : ℕ} {hs : List Held} where
  pub rows_used : {f : Fill} → InRows i t s a heads links old f hs → f.used ≡ row_lengths a f.count
  rows_used {f} x = x.used ∙ ap (λ (v : List Held). length (texts v)) x.tabled.is
      ∙ living_lengths t s a old f.count x.tabled.inside f.count (omega arith)

  pub standing_measured : {w : Standing} → InStanding i t s a heads links old w hs → Measured a w
  standing_measured {w} x = record {
    bordered = x.bordered;
    end = omega (
      arith,
      x.in_rows.end,
      ap (sizes 0) x.in_rows.tabled.is,
      sizes_sum (living (line_at t s a old) w.fill.count) 0,
      border_sizes t s a old w.fill.count x.in_rows.tabled.inside w.border x.bordered,
    );
    used = rows_used x.in_rows;
  }

-- what `border_of` asks, of the rows of a sound store
pub loads_border : (i t : List ℕ) (a : List Row) (heads : List ℕ) (links : List Link) (f : Fill) → Loads i a heads links f
    → known (decode i t) ≡ true
    → ((f.count ≤ length a) × (f.used ≤ text_max)) × (f.used ≡ row_lengths a f.count)
loads_border i t a heads links f w k =
    let q : (hs : List Held) × (decode i t ≡ some hs) = lines_of_lem (decode i t) k in
    let x : InRows i t [] a heads links f.count f q.0 = w t [] q.0 q.1 in
    ((x.tabled.most, omega (arith, x.used, x.tabled.good.text, x.limits.1)), rows_used x)

-- rows that are the same, as far as they are counted
module _ (a b : List Row) (w : Standing) (e : (k : ℕ) → k < w.fill.count → row_in b k ≡ row_in a k)
    (m : Measured a w) where
  same_lengths : (k : ℕ) → k ≤ w.fill.count → row_lengths b k ≡ row_lengths a k
  same_lengths k l =
      lengths_sum b k ∙ sum_same row_len a b k (λ j p. e j (omega arith)) ∙ sym (lengths_sum a k)

  pub measured_same : Measured b w
  measured_same = record {
    bordered = record {
      near = record {
        within = m.bordered.near.within;
        bytes = m.bordered.near.bytes ∙ sym (same_lengths w.border.rows m.bordered.near.within);
        starts = λ j l. omega (
          arith,
          m.bordered.near.starts j l,
          same_lengths j (omega (arith, m.bordered.near.within)),
        );
      };
      far = m.bordered.far;
    };
    end = omega (
      arith,
      m.end,
      sum_same one_line a b w.border.rows (λ j p. e j (omega (arith, m.bordered.near.within))),
      sum_same far_size a b w.fill.count (λ j p. e j p),
    );
    used = m.used ∙ sym (same_lengths w.fill.count (omega arith));
  }
