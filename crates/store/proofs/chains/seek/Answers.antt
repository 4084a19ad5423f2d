use mathlib.Core.Path.{sym, ◌∙◌}
use native.Mathlib.Omega.{arith}
use Prim.Native.Nat.{◌-◌, ◌≤◌, ◌<◌}
use lib.ListN.{length}
use Rattle.store.specs.Held.{same_key}
use Rattle.store.specs.Rows.{key_in}
use Rattle.store.proofs.ChainLaws.{Seeking, seek_turn}
use Rattle.store.proofs.HeldLaws.{same_eq}
use Rattle.store.proofs.chains.seek.Goals.{After-from-c}
use Rattle.store.proofs.chains.seek.Goals as goal

pub returns-then-has_key : goal.returns-then-has_key
unfolding same_key
returns-then-has_key c =
    let args = c.args in
    let loop = c.loop-c in record {
      seeks = record {
        clear = λ l. loop.invariant.0.passed;
        hit = λ p l. same_eq (key_in args.rows.now (loop.c - 1)) (key_in args.rows.now args.k)
            (sym c.has_key.ensures ∙ c.if-has_key.true);
      };
      upper_bound = λ l. loop.invariant.0.within;
    }

-- the next number of the chain, where the key is not that of number c
next : (c : After-from-c)
    → Seeking (length c.args.links.now) (key_in c.args.rows.now) c.args.k c.args.from c.from-c.result × (c.from-c.result < c.loop-c.c)
unfolding same_key
next c =
    seek_turn (length c.args.links.now) (key_in c.args.rows.now) c.args.links.now c.args.k c.args.from c.loop-c.c c.from-c.result c.requires.linked
    c.loop-c.invariant.0 (omega arith) (sym c.has_key.ensures ∙ c.if-has_key.false) c.from-c.ensures

pub loop-c-smaller : goal.loop-c-smaller
loop-c-smaller c = (next (goal.at.loop-c-smaller c).After-from-c).1

pub loop-c-preserved : goal.loop-c-preserved
loop-c-preserved c =
    let on = next (goal.at.loop-c-preserved c).After-from-c in
    (on.0, λ l. let left : c.loop-c.c ≤ c.loop-c.left = c.loop-c.invariant.1 l in omega (arith, on.1))
