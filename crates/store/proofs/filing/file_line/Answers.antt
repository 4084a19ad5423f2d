-- One line, filed by number as an insert does it.
use Rattle.std.specs.Prelude.{Err}
use mathlib.Core.List.{[]}
use Prim.Native.Nat.{◌≤◌}
use native.Mathlib.Omega.{arith}
use lib.ListN.{length}
use Rattle.store.specs.Decode.{decode}
use Rattle.std.proofs.Common.{◌≡◌, rules}
use Rattle.store.proofs.DecodeLaws.{lines_of_lem}
use Rattle.store.proofs.LoadLaws.{loads_extend}
use Rattle.store.proofs.StandingLaws.{loads_border}
use Rattle.store.proofs.OneLaws.{one_files, one_full, one_settles, one_filed}
use Rattle.store.proofs.filing.file_line.Goals as goal

pub border_of-requires-clause-within : goal.border_of-requires-clause-within
border_of-requires-clause-within g c =
    (loads_border c.args.index.now c.args.text.now _ _ _ c.args.fill c.requires.loads.0 c.requires.text_value).0

pub border_of-requires-clause-is : goal.border_of-requires-clause-is
border_of-requires-clause-is g c =
    (loads_border c.args.index.now c.args.text.now _ _ _ c.args.fill c.requires.loads.0 c.requires.text_value).1

pub file_row-requires : goal.file_row-requires
file_row-requires g c =
    let args = c.args in
    let pre = c.requires in
    let held = lines_of_lem (decode args.index.now args.text.now) pre.text_value in
    let long : length args.table.now.heads ≡ g.row.N = search rules in
    let most : g.row.N ≤ 65535 = omega (arith, (pre.loads.0 args.text.now [] held.0 held.1).chained.most, long) in
    let files = one_files args.dues args.index.now args.text.now args.line.now _ _ _ args.fill
    pre.loads.0 _ c.border_of.ensures args.key pre.in_bounds.0 pre.in_bounds.1 pre.text_value pre.some_dues in
    (search rules, ((pre.loads.1, omega arith), (files, λ p. absurd (omega (arith, p)))))

pub settle-requires : goal.settle-requires
settle-requires g c =
    let args = c.args in
    let pre = c.requires in
    let filed = c.file_row in record {
      extends = loads_extend args.index.now args.text.now _ _ _ args.fill pre.loads.0;
      settles = one_settles args.dues args.index.now args.text.now args.line.now _ _ _ args.fill
          pre.loads.0 _ c.border_of.ensures args.key pre.in_bounds.0 pre.in_bounds.1 _ _ _ filed.result filed.ensures.files
          _ c.in_ok-filed.was
          pre.text_value pre.some_dues;
    }

pub returns : goal.returns
returns g c =
    let args = c.args in
    let pre = c.requires in
    let filed = c.file_row in
    let settled = c.settle in
    one_filed args.dues args.index.now args.text.now args.line.now _ _ _ args.fill
    pre.loads.0 _ c.border_of.ensures args.key pre.in_bounds.0 pre.in_bounds.1 _ _ _ filed.result filed.ensures.files
    _ c.in_ok-filed.was _ _
    settled.ensures

pub returns-in_err-filed : goal.returns-in_err-filed
returns-in_err-filed g c =
    let args = c.args in
    let pre = c.requires in
    let filed = c.file_row in
    let passed : c.from_residual.result ≡ Err c.in_err-filed.field-0.0 = search rules in
    rw passed
    (one_full args.dues args.index.now args.text.now args.line.now _ _ _ args.fill
    pre.loads.0 _ c.border_of.ensures args.key pre.in_bounds.0 pre.in_bounds.1 _ _ _ filed.result filed.ensures.files _
    c.in_err-filed.was
    (λ k. search rules))
