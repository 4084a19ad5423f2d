-- The element that stands in the row of the key.
use mathlib.Core.Path.{refl, sym, ap, ◌∙◌}
use native.Mathlib.Omega.{arith}
use Rattle.line.specs.Tables.{axes_sdl, axes_table, element_in}
use Rattle.line.proofs.KeyLaws.{key_bound}
use Rattle.line.proofs.tables.find_element.Goals as goal

pub find_key-requires : goal.find_key-requires
unfolding axes_sdl
find_key-requires c = refl

pub offset_bounds-branch : goal.offset_bounds-branch
offset_bounds-branch c =
    let h = key_bound c.args.key.now _ (sym c.find_key.ensures ∙ c.in_ok-find_key.was) in
    omega arith

pub bounds-branch : goal.bounds-branch
bounds-branch c = key_bound c.args.key.now _ (sym c.find_key.ensures ∙ c.in_ok-find_key.was)

pub returns : goal.returns
unfolding axes_table
returns c = sym (ap element_in (sym c.find_key.ensures ∙ c.in_ok-find_key.was))
