-- The exits by the laws of filing a row, of a line that is put down: `placed`.
use mathlib.Core.List.{List}
use mathlib.Core.Path.{◌≡◌, sym, ap, ◌∙◌}
use Prim.Native.Nat.{ℕ}
use native.Mathlib.Omega.{arith}
use lib.ListN.{length}
use Rattle.store.specs.declared.rows.Row.{Row}
use Rattle.store.specs.Held.{Key, Held}
use Rattle.store.specs.Rows.{row_put}
use Rattle.store.specs.Table.{Files'}
use Rattle.store.proofs.FileRowLaws.{Placed, replaces, can_weigh, files_full, files_fit, searched_on}
use Rattle.store.proofs.WriteLaws.{put_long, put_before_long}
use Rattle.store.proofs.table.Filing.file_row.Goals.{After-len_before-had, After-put_len_before}
use Rattle.store.proofs.table.Filing.file_row.Goals as goal

module _ {g s : List ℕ} {old : ℕ} {hs : List Held} where
  placed : (v : _) (c : After-len_before-had v)
      → (w : Files' g c.args.self.now.dues c.args.self.now.index.now c.args.self.now.text.now s c.args.table.now.rows
      c.args.table.now.heads c.args.table.now.links old c.args.standing
      (record { owner = c.args.self.now.owner; uuid = c.args.uuid }) c.args.start c.args.len hs)
      → Placed w c.requires.count_lt_rows.0 c.add_by-r.new.self.rows c.add_by-r.result c.len_before-had.result
  placed v c w = record {
    put = c.add_by-r.ensures.rows_after;
    sought = c.add_by-r.ensures.sought.0;
    least = c.add_by-r.ensures.sought.1;
    taken = c.len_before-had.ensures;
  }

-- a line that is put down takes a row that is there
rows_long : (a b : List Row) (n : ℕ) (u : Key) (start len : ℕ) → b ≡ row_put a n u start len → length b ≡ length a
rows_long a b n u start len e = ap length e ∙ put_long a n u start len

-- and a length that is written leaves all rows
kept : (g : _) (c : After-put_len_before g) → length c.put_len_before.new.rows ≡ length c.args.table.now.rows
kept g c =
    ap length c.put_len_before.ensures
    ∙ put_before_long c.add_by-r.new.self.rows c.add_by-r.result 0
    ∙ rows_long _ _ _ _ _ _ c.add_by-r.ensures.rows_after

pub len_before-had-requires : goal.len_before-had-requires
len_before-had-requires g c = omega (arith, c.add_by-r.ensures.sought.1)

pub with_row-filed-requires : goal.with_row-filed-requires
with_row-filed-requires g c = (
  c.add_by-r.new.self.rows,
  replaces _ _ (placed g (goal.at.with_row-filed-requires g c).After-len_before-had c.requires.fileable.2.1.1)
      c.put_len_before.ensures,
)

pub room-requires : goal.room-requires
room-requires g c =
    can_weigh _ _ (placed g (goal.at.room-requires g c).After-len_before-had c.requires.fileable.2.1.1)
    c.put_len_before.ensures c.with_row-filed.ensures

pub returns-in-Err : goal.returns-in-Err
returns-in-Err g c = record {
  files = λ h s old hs w.
      files_full w _ (placed g (goal.at.returns-in-Err g c).After-len_before-had w) c.put_len_before.ensures
      c.with_row-filed.ensures c.put_len_before-in-Err.ensures c.in-Err.full (sym c.room.ensures ∙ c.in-Err.is);
  searched_2 = tt;
  rows_kept = ap length c.put_len_before-in-Err.ensures
      ∙ put_before_long c.put_len_before.new.rows c.add_by-r.result c.len_before-had.result
      ∙ kept g (goal.at.returns-in-Err g c).After-put_len_before;
}

pub returns : goal.returns
returns g c = record {
  files = λ h s old hs w.
      files_fit w _ (placed g (goal.at.returns g c).After-len_before-had w) c.put_len_before.ensures
      c.with_row-filed.ensures c.add_by-r.ensures.chained_2 (sym c.room.ensures ∙ c.in_default.is);
  searched_2 = searched_on c.add_by-r.new.nodes c.add_by-r.new.self.rows _ c.args.standing.fill.count _
      c.add_by-r.result
      (omega (arith, c.add_by-r.ensures.sought.1, c.requires.count_lt_rows.0, rows_long _ _ _ _ _ _ c.add_by-r.ensures.rows_after))
      c.put_len_before.ensures c.with_row-filed.ensures.count c.add_by-r.ensures.searched_2;
  rows_kept = kept g (goal.at.returns g c).After-put_len_before;
}
