-- What stands before the first number that is struck out is kept; `close_up` does the rest.
use Prim.Native.Nat.{◌≤◌}
use native.Mathlib.Omega.{arith}
use lib.ListN.{length}
use borrow.Author.Rules.{rules}
use Rattle.store.proofs.ClosingLaws.{settle_keeps, kept_within, settle_lends, settle_back}
use Rattle.store.proofs.settle.settle.Goals.{After-kept_rows-kept}
use Rattle.store.proofs.settle.settle.Goals as goal

pub kept_rows-kept-requires : goal.kept_rows-kept-requires
kept_rows-kept-requires c =
    settle_keeps c.args.index.now c.args.text.now c.args.lines.now _ c.args.was c.args.count (λ k. search rules)
    c.requires.extends c.requires.settles

-- the records that are kept stand in the index
within : (c : After-kept_rows-kept) → c.kept_rows-kept.result.at ≤ length c.args.index.now
within c = kept_within _ _ c.args.lines.now _ _ c.args.count (λ k. search rules) c.requires.extends _
    c.kept_rows-kept.ensures c.requires.settles.0 c.requires.settles.1

pub slice_bounds-close_up-count : goal.slice_bounds-close_up-count
slice_bounds-close_up-count c = omega (arith, within (goal.at.slice_bounds-close_up-count c).After-kept_rows-kept)

pub slice_bounds-close_up-start : goal.slice_bounds-close_up-start
slice_bounds-close_up-start c = omega (arith, within (goal.at.slice_bounds-close_up-start c).After-kept_rows-kept)

pub close_up-requires : goal.close_up-requires
close_up-requires c =
    settle_lends _ _ c.args.lines.now _ _ _ (λ k. search rules) c.requires.extends _ c.kept_rows-kept.ensures
    c.requires.settles

pub returns : goal.returns
returns c =
    settle_back c.args.index.now c.args.text.now c.args.lines.now _ c.args.was c.args.count (λ k. search rules)
    c.requires.extends _ c.kept_rows-kept.ensures _ _ c.close_up.ensures
