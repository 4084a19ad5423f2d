-- The size of a kind is that of a record: `size_least`.
use mathlib.Core.Path.{sym, subst}
use Prim.Native.Nat.{ℕ, ◌≤◌}
use Rattle.store.proofs.RoomLaws.{size_least}
use Rattle.store.proofs.walk.line_size.Goals as goal

pub returns : goal.returns
returns c = record {
  size = c.size_by.ensures;
  some = subst (λ (n : ℕ). 1 ≤ n) (sym c.size_by.ensures) (size_least c.args.owner c.args.off);
}
