-- A pair ends within the line.
use mathlib.Core.Path.{ap}
use mathlib.Core.List.{List}
use Prim.Native.Nat.{ℕ}
use lib.ListN.{length, length-drop}
use native.Mathlib.Omega.{arith}
use Rattle.text.proofs.ListLaws.{part_to_end}
use Rattle.line.proofs.CutLaws.{cut_within}
use Rattle.line.proofs.parser.field_step.Goals as goal

pub overflow_add-p : goal.overflow_add-p
overflow_add-p c =
    let s = c.args.line.now in
    let p = c.args.p in
    let e = ap (λ (l : List ℕ). length l) (part_to_end s p) in
    omega (arith, cut_within _ _ c.cut_pair-pair.ensures, e, length-drop p s)

pub overflow_add-p-in-KeyVal : goal.overflow_add-p-in-KeyVal
overflow_add-p-in-KeyVal c =
    let s = c.args.line.now in
    let p = c.args.p in
    let e = ap (λ (l : List ℕ). length l) (part_to_end s p) in
    omega (arith, cut_within _ _ c.cut_pair-pair.ensures, e, length-drop p s)
