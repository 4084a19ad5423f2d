-- The length is that of the first line from there on.
use mathlib.Core.List.{List}
use mathlib.Core.Path.{◌≡◌, subst}
use Prim.Native.Nat.{ℕ, ◌≤◌}
use lib.ListN.{length, take}
use Rattle.text.proofs.ListLaws.{part_to_end}
use Rattle.store.specs.Inner.{first_line}
use Rattle.store.proofs.StepLaws.{cut_none, cut_counted}
use Rattle.store.proofs.walk.next_line.Goals as goal

pub returns-then-text-at : goal.returns-then-text-at
returns-then-text-at c = cut_none c.args.text.now c.args.at c.if-text-at.true

pub returns : goal.returns
returns c =
    let len = c.line_length-len.result in
    let cut = subst (λ (q : List ℕ). (len ≤ length q) × (take len q ≡ first_line q))
    (part_to_end c.args.text.now c.args.at) c.line_length-len.ensures in
    cut_counted c.args.text.now c.args.at c.if-text-at.false len c.behind_line-next.result cut.0 cut.1
    c.behind_line-next.ensures
