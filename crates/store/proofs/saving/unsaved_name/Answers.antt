-- LF first, then `platform:`, each sought in the whole name.
use Rattle.store.proofs.SaveCallLaws.{unsaved_lf}
use Rattle.store.proofs.saving.unsaved_name.Goals as goal

pub returns-then-find_byte-name : goal.returns-then-find_byte-name
returns-then-find_byte-name c =
    let name = c.args.name.now in
    unsaved_lf name c.find_byte.result c.find_byte.ensures c.if-find_byte-name.true

-- (no goal found) slice-aggregate-find-text : tie.Need-slice-aggregate-find-text
-- slice-aggregate-find-text c = search rules
