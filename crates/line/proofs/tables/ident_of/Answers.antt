use mathlib.Core.Path.{refl}
use Rattle.line.specs.Tables.{axes_sdl}
use Rattle.line.proofs.tables.ident_of.Goals as goal

pub name_of-requires : goal.name_of-requires
unfolding axes_sdl
name_of-requires c = refl
