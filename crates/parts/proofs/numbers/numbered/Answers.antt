-- Each code is one more than its place. Assumes nothing.
use Rattle.std.proofs.Common.{rules}
use Rattle.parts.proofs.CountedLaws.{counted_up}
use Rattle.parts.proofs.numbers.numbered.Goals as goal

pub returns : goal.returns
returns c = counted_up _ _ _ 1025 c.from_fn.ensures.items (λ p q i y e. search rules)
