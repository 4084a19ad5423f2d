-- Each exit is that of the book's line: not wanted, over the limit, without room, or filed.
use Prim.Native.Nat.{◌≤◌}
use native.Mathlib.Omega.{arith}
use borrow.Author.Rules.{rules}
use lib.ListN.{length}
use mathlib.Core.Path.{◌≡◌, refl}
use Rattle.std.proofs.lemmas.Result.{err_from_is_err_and}
use Rattle.store.proofs.BatchLaws.{slot_not, slot_long, slot_files, slot_full, slot_filed}
use Rattle.store.proofs.table.Filing.reach_row.Goals as goal

pub returns-in_default : goal.returns-in_default
returns-in_default g c = record {
  reaches = slot_not _ _ _ _ _ _ _ _ _ c.args.at c.args.len c.requires.count_lt_rows.1 c.wanted.ensures
      c.in_default.is;
  searched_2 = c.requires.searched;
  rows_kept = refl;
}

pub returns-then-len-gt-LINE_MAX : goal.returns-then-len-gt-LINE_MAX
returns-then-len-gt-LINE_MAX g c = record {
  reaches = slot_long _ _ _ _ _ _ _ _ _ c.args.at c.args.len c.requires.count_lt_rows.1 _ c.wanted.ensures
      c.in-Some.is c.if-len-gt-LINE_MAX.true;
  searched_2 = tt;
  rows_kept = refl;
}

pub file_row-requires : goal.file_row-requires
file_row-requires g c =
    let w = c.requires.some_rows in
    let long : length c.args.table.now.heads ≡ g.row.N = search rules in
    let most : g.row.N ≤ 65535 = omega (arith, w.1.1.1.1.in_rows.chained.most, long) in
    let files = slot_files _ _ _ _ _ _ _ _ _ c.args.at c.args.len c.requires.count_lt_rows.1 _ c.wanted.ensures
    c.in-Some.is c.if-len-gt-LINE_MAX.false w.0 w.1.0 w.1.1.0 w.1.1.1.0 w.1.1.1.1 in (
      search rules,
      (
        (c.requires.count_lt_rows.0, c.requires.near),
        ((w.0, c.args.self.now.lines.now, (w.1.0, (w.1.1.0, files))), c.requires.searched),
      ),
    )

pub returns-in_err-filed : goal.returns-in_err-filed
returns-in_err-filed g c =
    let p = err_from_is_err_and c.from_residual.result c.from_residual.ensures.1 in
    record {
      reaches = rw (p.1, p.2) (slot_full _ _ _ _ _ _ _ _ _ c.args.at c.args.len c.requires.count_lt_rows.1 _
          c.wanted.ensures c.in-Some.is c.if-len-gt-LINE_MAX.false _ _ _ _ c.in_err-filed.ensures.files _ refl);
      searched_2 = rw p.1 tt;
      rows_kept = c.file_row.ensures.rows_kept;
    }

pub returns : goal.returns
returns g c = record {
  reaches = slot_filed _ _ _ _ _ _ _ _ _ c.args.at c.args.len c.requires.count_lt_rows.1 _ c.wanted.ensures
      c.in-Some.is c.if-len-gt-LINE_MAX.false _ _ _ _ c.in_ok-filed.ensures.files _ refl;
  searched_2 = c.in_ok-filed.ensures.searched_2;
  rows_kept = c.file_row.ensures.rows_kept;
}
