-- The uses by rows are those of the lines, so that what the owner claims is a part of the sum.
use mathlib.Core.List.{List}
use mathlib.Core.Path.{◌≡◌, sym, subst}
use Prim.Native.Nat.{ℕ, ◌<◌}
use native.Mathlib.Omega.{arith}
use borrow.Author.Rules.{rules}
use Rattle.store.specs.Claims.{Owed}
use Rattle.store.proofs.UseLaws.{words_given, use_most, row_use_most, dues_owed, owed_none}
use Rattle.store.proofs.claims.dues_of.Goals as goal

pub returns-then-not-any_share : goal.returns-then-not-any_share
returns-then-not-any_share c =
    let args = c.args in
    let none = c.any_share.ensures c.if-not-any_share.true in
    let byte : args.owner < 256 = search rules in
    λ hs u f b.
    let made : record { others = 0; theirs = 0; share = 0 } ≡ c.default.result = search rules in
    subst (Owed args.shares.now args.owner hs) made (
    subst (λ (g : List ℕ). Owed g args.owner hs (record { others = 0; theirs = 0; share = 0 })) (sym none)
    (owed_none args.owner hs b byte))

pub overflow_cast-used : goal.overflow_cast-used
overflow_cast-used c =
    let args = c.args in
    omega (arith, use_most args.rows.now args.fill.count c.requires.0 _ c.add_uses.ensures args.owner (omega (arith, c.ranges)))

pub overflow_sub-result-2 : goal.overflow_sub-result-2
overflow_sub-result-2 c =
    let args = c.args in
    let byte : args.owner < 256 = search rules in
    let adds = c.add_uses.ensures in
    omega (
      arith,
      adds.1 args.owner byte,
      row_use_most args.owner args.rows.now args.fill.count,
      c.requires.1,
    )

pub returns : goal.returns
returns c =
    let args = c.args in
    let adds = c.add_uses.ensures in
    let sum = c.claims_of.ensures in
    let own = c.larger_of.ensures in
    let byte : args.owner < 256 = search rules in
    dues_owed args.rows.now args.shares.now args.fill args.owner _ _ _ (words_given args.shares.now (search rules) (λ k. search rules)) c.requires
    adds sum.sums sum.covers own byte
