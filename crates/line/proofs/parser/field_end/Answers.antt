-- Where the next comma is.
use mathlib.Core.Path.{◌≡◌, ap, ◌∙◌}
use mathlib.Core.List.{List}
use Prim.Native.Nat.{ℕ}
use lib.ListN.{drop}
use native.Mathlib.Omega.{arith}
use Rattle.text.specs.Bytes.{byte, first_of}
use Rattle.text.proofs.ListLaws.{part_to_end}
use Rattle.line.proofs.CountLaws.{find_le}
use Rattle.line.proofs.parser.field_end.Goals as goal

pub overflow_add-result : goal.overflow_add-result
overflow_add-result c =
    let s = c.args.line.now in
    let p = c.args.p in
    let e : c.find_byte.result ≡ first_of (byte ",") (drop p s) =
    c.find_byte.ensures ∙ ap (λ (l : List ℕ). first_of (byte ",") l) (part_to_end s p) in
    omega (arith, find_le (byte ",") s p (omega arith))

pub returns-clause-within : goal.returns-clause-within
returns-clause-within c =
    let s = c.args.line.now in
    let p = c.args.p in
    let e : c.find_byte.result ≡ first_of (byte ",") (drop p s) =
    c.find_byte.ensures ∙ ap (λ (l : List ℕ). first_of (byte ",") l) (part_to_end s p) in
    (omega arith, omega (arith, find_le (byte ",") s p (omega arith)))
