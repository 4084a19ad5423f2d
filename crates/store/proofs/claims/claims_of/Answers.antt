use mathlib.Core.List.{[], ◌∷◌, ◌++◌}
use mathlib.Core.Path.{◌≡◌, ap₂, sym, subst, ◌∙◌}
use Prim.Native.Nat.{ℕ, ◌+◌}
use native.Mathlib.Omega.{arith}
use lib.ListN.{length, length-append}
use borrow.Author.Rules.{rules}
use Rattle.std.specs.Iterator.Adapters.{zip_first, zip_second}
use Rattle.std.specs.Slice.Iter.{iter_rest}
use Rattle.std.proofs.lemmas.Slice.Zip.{zip_turn, zip_end}
use Rattle.store.specs.Layout.{Given}
use Rattle.store.specs.Shares.{larger}
use Rattle.store.proofs.UseLaws.{Summing, words_given, sum_next, sum_end}
use Rattle.store.proofs.claims.claims_of.Goals.{After-into_iter-used-iterator}
use Rattle.store.proofs.claims.claims_of.Goals as goal

-- both are numbers of two bytes, one for each party
given : (c : After-into_iter-used-iterator) → Given c.args.uses.now × Given c.args.shares.now
given c = (words_given _ (search rules) (λ k. search rules), words_given _ (search rules) (λ k. search rules))

-- the iterator goes over both
halves : (c : After-into_iter-used-iterator)
    → (iter_rest (zip_first c.into_iter-used-iterator.result) ≡ c.args.uses.now)
    × (iter_rest (zip_second c.into_iter-used-iterator.result) ≡ c.args.shares.now)
halves c = (cc, cc)

pub loop-used-preserved : goal.loop-used-preserved
loop-used-preserved c =
    let u = c.args.uses.now in
    let g = c.args.shares.now in
    let loop = c.loop-used in
    let from = (goal.at.loop-used-preserved c).After-into_iter-used-iterator in
    let turn = zip_turn u g loop.yielded _ loop.used-iterator c.next.new.self c.next.result (halves from).0 (halves from).1
    loop.yielded_by (c.in-Some.used, c.in-Some.share) c.in-Some.is c.next.ensures.steps in
    let more : length loop.yielded + 1 ≡ length (loop.yielded ++ ((c.in-Some.used, c.in-Some.share) ∷ [])) =
    sym (length-append loop.yielded ((c.in-Some.used, c.in-Some.share) ∷ [])) in (
      loop.invariant.0,
      loop.invariant.1,
      subst (λ (o : ℕ). Summing u g o (loop.sum + c.larger_of-sum.result)) more
          (sum_next (given from).0 (given from).1 loop.invariant.2 (omega (arith, turn.0))
          (c.larger_of-sum.ensures ∙ ap₂ larger (turn.2 0) (turn.3 0))),
    )

pub returns-clause-sums : goal.returns-clause-sums
returns-clause-sums c =
    let loop = c.loop-used in
    let from = (goal.at.returns-clause-sums c).After-into_iter-used-iterator in
    let end = zip_end _ _ loop.yielded _ loop.used-iterator c.next.new.self c.next.result (halves from).0 (halves from).1
    loop.yielded_by c.in-None.is c.next.ensures.steps in
    (sum_end (given from).0 (given from).1 loop.invariant.2 (omega (arith, end))).0
