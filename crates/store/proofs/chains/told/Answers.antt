-- One arm of the definition in each arm; a key that is not found tells nothing.
use mathlib.Core.Path.{sym, ap, ◌∙◌}
use Rattle.store.specs.declared.chains.Verdict.{Verdict}
use Rattle.store.specs.Keys.{told_of}
use Rattle.store.proofs.ChainLaws.{told_none}
use Rattle.store.proofs.chains.told.Goals as goal

pub returns-then-r-lt1 : goal.returns-then-r-lt1
returns-then-r-lt1 c = told_none c.args.known c.args.n c.args.r c.if-r-lt1.true

pub returns-in-Apart : goal.returns-in-Apart
returns-in-Apart c =
    let args = c.args in
    c.shown.ensures ∙ sym (ap (λ (v : Verdict). told_of v args.n args.r) c.in-Apart.is)

pub returns-in-Twice : goal.returns-in-Twice
returns-in-Twice c =
    let args = c.args in
    sym (ap (λ (v : Verdict). told_of v args.n args.r) c.in-Twice.is)

pub returns-in-Unsure : goal.returns-in-Unsure
returns-in-Unsure c =
    let args = c.args in
    sym (ap (λ (v : Verdict). told_of v args.n args.r) c.in-Unsure.is)
