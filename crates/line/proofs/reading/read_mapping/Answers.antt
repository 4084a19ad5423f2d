-- The map is that of the view which the line reads as; a refused one is the empty map.
use Prim.Native.Nat.{ℕ, ◌≤◌}
use mathlib.Core.Path.{◌≡◌, sym, ap, refl}
use mathlib.Core.List.{List, [], ◌∷◌}
use native.Mathlib.Omega.{arith}
use borrow.Author.Tests.{eqb-true, le-leb}
use lib.ListN.{length}
use Rattle.std.specs.Prelude.{Ok}
use Rattle.text.specs.Utf8.{is_utf8, valid_run, run_of}
use Rattle.std.specs.Result.{is_err}
use Rattle.line.specs.declared.mapping.Mapping.{Mapping}
use Rattle.line.specs.Maps.{empty_map, to_map}
use Rattle.line.specs.Reading.{list_max, read_view, read_line, reading_of}
use Rattle.line.proofs.TurnLaws.{passed_on, returned_refused, returned_accepted}
use Rattle.line.proofs.reading.read_mapping.Goals as goal

-- an empty line, where both lists are short enough
empty_line : (s buttons axes : List ℕ) → length s ≡ 0 → length buttons ≤ list_max → length axes ≤ list_max
    → reading_of s buttons axes ≡ record { answer = Ok tt; map = empty_map }
unfolding reading_of read_view read_line is_utf8 valid_run run_of empty_map
empty_line [] buttons axes e b a = rw (le-leb _ _ b, le-leb _ _ a) refl
empty_line (x ∷ s) buttons axes e b a = absurd (omega (arith, e))

pub returns-then-axes-le-LIST_MAX : goal.returns-then-axes-le-LIST_MAX
returns-then-axes-le-LIST_MAX c =
    let a = c.args in
    rw c.new.ensures
    (empty_line a.line.now a.buttons.now a.axes.now (eqb-true _ _ (sym c.if-is_empty.ensures))
    c.if-buttons-le-LIST_MAX.true c.if-axes-le-LIST_MAX.true)

pub lay-requires : goal.lay-requires
unfolding empty_map to_map
lay-requires c = (ap (λ (m : Mapping). m.entries) c.new.ensures, c.read.ensures.1)

pub returns-in_err-read : goal.returns-in_err-read
unfolding reading_of
returns-in_err-read c =
    let was = c.in_err-read.was in
    rw (c.new.ensures, passed_on c.from_residual.result c.in_err-read.field-0.0 c.from_residual.ensures, sym was)
    (sym (returned_refused _ _ _ c.read.ensures (sym (ap is_err was))))

pub returns : goal.returns
unfolding reading_of
returns c =
    let was = c.in_ok-read.was in
    rw (c.lay.ensures, sym was) (sym (returned_accepted _ _ _ c.read.ensures (sym (ap is_err was))))
