-- No share is other than 0: then each is 0.
use mathlib.Core.Path.{◌≡◌}
use borrow.Author.Rules.{rules}
use borrow.Author.Tests.{tests}
use Rattle.std.proofs.lemmas.Iterator.{YieldsList-from_slice, cases_from_any}
use Rattle.store.proofs.ShareBufferLaws.{no_share}
use Rattle.store.proofs.shares.any_share.Goals as goal

pub returns : goal.returns
returns c =
    no_share c.args.shares.now c.any.result (search rules)
    (cases_from_any _ _ _ (λ x. x ≡ 0 → ⊥) (λ x. x ≡ 0) c.any.ensures.ran
    (YieldsList-from_slice c.args.shares.now cc) (λ x q k. search (rules, tests)) (λ x q k. search (rules, tests)))
