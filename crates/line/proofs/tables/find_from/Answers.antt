-- The first name that is the key, from the row on at which the search begins.
use borrow.Author.Rules.{rules}
use borrow.Author.Tests.{tests}
use mathlib.Core.Path.{◌≡◌, sym, ap, ◌∙◌}
use mathlib.Core.List.{List}
use native.Mathlib.Omega.{arith}
use Prim.Native.Nat.{ℕ, ◌-◌}
use lib.Dec.{eqb}
use lib.ListN.{length, take, drop}
use Rattle.std.proofs.lemmas.List.{take_all, length-drop}
use lib.Pointwise.{pointwise}
use Rattle.std.proofs.lemmas.Iterator.{YieldsList-from_slice}
use Rattle.std.proofs.lemmas.Iterator.Search.{position_from_yields_List}
use Rattle.line.proofs.KeyLaws.{after, sought_behind}
use Rattle.line.proofs.tables.find_from.Goals as goal

whole : {A : Type 0} (n : ℕ) (xs : List A) → take (length xs - n) (drop n xs) ≡ drop n xs
whole n xs = take_all (length xs - n) (drop n xs) (omega (arith, length-drop n xs))

pub returns-in_err-behind : goal.returns-in_err-behind
returns-in_err-behind c =
    let a = c.args in
    c.from_residual.ensures ∙ ap (after a.first) (sym c.in_err-behind.was)
    ∙ sought_behind a.names.now c.requires.are a.key.now a.first c.requires.no c.position.result
    (position_from_yields_List (λ x. pointwise eqb x.now a.key.now) _ _ _ c.position.ensures.ran
    (YieldsList-from_slice (drop a.first a.names.now) (c.iter.ensures.rest ∙ whole a.first a.names.now)) (λ x b q k. search (rules, tests)))

pub returns : goal.returns
returns c =
    let a = c.args in
    ap (after a.first) (sym c.in_ok-behind.was)
    ∙ sought_behind a.names.now c.requires.are a.key.now a.first c.requires.no c.position.result
    (position_from_yields_List (λ x. pointwise eqb x.now a.key.now) _ _ _ c.position.ensures.ran
    (YieldsList-from_slice (drop a.first a.names.now) (c.iter.ensures.rest ∙ whole a.first a.names.now)) (λ x b q k. search (rules, tests)))
