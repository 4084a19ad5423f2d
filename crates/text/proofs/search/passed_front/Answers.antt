use Prim.Native.Nat.{◌*◌}
use mathlib.Core.Bool.{true}
use native.Mathlib.Omega.{arith}
use Rattle.text.proofs.SeekLaws.{block_passes}
use Rattle.text.proofs.search.passed_front.Goals as goal

pub loop-k-preserved : goal.loop-k-preserved
loop-k-preserved g c =
    block_passes (λ b. goal.F-post g c.args.test.now b true) c.args.s.now (16 * c.loop-k.k) _ _ (omega arith)
    c.loop-k.invariant (c.all_pass.ensures c.if-not-all_pass.false)
