-- The kid at the key's digit is the next node of its path.
use mathlib.Core.Path.{◌≡◌, ap, ◌∙◌}
use borrow.Author.Rules.{rules}
use Rattle.store.specs.Held.{Key}
use Rattle.store.specs.Rows.{key_in}
use Rattle.store.specs.Tree.{digit, kid_in}
use Rattle.store.proofs.TreeLaws.{led_first, led_turn}
use Rattle.store.proofs.tree.descend.Goals as goal

pub loop-key-init : goal.loop-key-init
loop-key-init c = led_first _ c.args.nodes.now _ c.args.n c.requires.n_lt_rows.0

pub loop-key-preserved : goal.loop-key-preserved
loop-key-preserved c =
    let other : key_in c.args.rows.now c.loop-key.at ≡ key_in c.args.rows.now c.args.n → ⊥ = search rules in
    led_turn c.requires.treed c.loop-key.invariant other c.from-kid.result
    (c.from-kid.ensures ∙ ap (kid_in c.args.nodes.now c.loop-key.at) (c.digit-d.ensures.0 ∙ ap (λ (u : Key). digit u c.loop-key.depth) c.key-key.ensures)) c.if-kid-eq0.false
