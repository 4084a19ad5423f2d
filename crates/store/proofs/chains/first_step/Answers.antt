-- Where the key is not found, what comes behind the place before is linked to it.
use mathlib.Core.Path.{sym, ap, ◌∙◌}
use Prim.Native.Nat.{ℕ}
use lib.ListN.{length}
use Rattle.store.specs.Held.{same_key}
use Rattle.store.specs.Keys.{next_in}
use Rattle.store.specs.Rows.{key_in}
use Rattle.store.proofs.ChainLaws.{step_on}
use Rattle.store.proofs.chains.first_step.Goals as goal

pub returns : goal.returns
unfolding same_key
returns c =
    let place = c.saturating_sub-at in
    let same = c.has_key in
    let rows = c.args.rows.now in
    let links = c.args.links.now in
    let r = step_on (length links) (key_in rows) links c.args.k c.args.from c.requires.linked c.requires.kin c.requires.k_lt_rows.1.1
    c.from.result
    (ap (λ (i : ℕ). same_key (key_in rows i) (key_in rows c.args.k)) (sym place.ensures) ∙ sym same.ensures
    ∙ c.if-has_key.false)
    (c.from.ensures ∙ ap (λ (i : ℕ). next_in links i) place.ensures) in
    record { not_in = r.0; kin_2 = r.1 }
