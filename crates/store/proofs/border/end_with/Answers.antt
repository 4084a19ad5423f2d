use mathlib.Core.Bool.{Bool, true}
use mathlib.Core.Path.{◌≡◌, sym, ap, ◌∙◌}
use Prim.Native.Nat.{ℕ, ◌+◌}
use native.Mathlib.Omega.{arith}
use borrow.Author.Tests.{eq-eqb}
use Rattle.store.specs.Held.{size_by}
use Rattle.store.proofs.BorderLaws.{far_record}
use Rattle.store.proofs.RecordLaws.{length-record, size_least}
use Rattle.text.specs.Bytes.{pick}
use Rattle.store.proofs.border.end_with.Goals.{After-record_size}
use Rattle.store.proofs.border.end_with.Goals as goal

long_size : (c : After-record_size) → c.record_size.result ≡ size_by c.args.key.owner true
long_size c =
    c.record_size.ensures 0 ∙ length-record c.args.key 65536 0 ∙ far_record c.args.key.owner 65536 (omega arith)

pub overflow_add-result : goal.overflow_add-result
overflow_add-result c =
    omega (
      arith,
      c.requires,
      long_size (goal.at.overflow_add-result c).After-record_size,
      (size_least c.args.key.owner true).1,
    )

pub returns-then-had-eq0 : goal.returns-then-had-eq0
returns-then-had-eq0 c =
    ap (λ (v : ℕ). c.args.end + v) (long_size (goal.at.returns-then-had-eq0 c).After-record_size)
    ∙ sym (ap (λ (b : Bool). pick b (c.args.end + size_by c.args.key.owner true) (pick c.args.near (c.args.end + 2) c.args.end))
    (eq-eqb c.args.had 0 c.if-had-eq0.true))
