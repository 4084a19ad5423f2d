-- By the key's first letter. Assumes nothing.
use Rattle.line.proofs.KeyLaws.{not_before_m, not_before_r}
use Rattle.line.proofs.tables.first_row.Goals as goal

pub returns-then-key-lt114 : goal.returns-then-key-lt114
returns-then-key-lt114 c = not_before_m c.args.key.now c.if-key-lt109.false

pub returns-else-key-lt114 : goal.returns-else-key-lt114
returns-else-key-lt114 c = not_before_r c.args.key.now c.if-key-lt114.false
