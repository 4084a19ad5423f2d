-- One number more at every turn. Assumes nothing.
use Prim.Native.Nat.{ℕ, ◌<◌}
use mathlib.Core.Path.{◌≡◌, refl, ap, subst, ◌∙◌}
use mathlib.Core.List.{List}
use native.Mathlib.Omega.{arith}
use borrow.Author.Rules.{rules}
use lib.ListN.{length, take}
use lib.Seq.{length-take-le}
use Rattle.line.specs.declared.mapping.Entry.{Entry}
use Rattle.line.proofs.MapLaws.{entries_long}
use Rattle.pad.specs.States.{entry_numbers}
use Rattle.pad.specs.PadGuarantee.{ShortAll}
use Rattle.pad.specs.Inner.{capped_of}
use Rattle.pad.proofs.ListLaws.{numbers_more, numbers_done}
use Rattle.pad.proofs.StateLaws.{capped_take, min_is}
use Rattle.pad.proofs.FitLaws.{short_back, short_more, short_none}
use Rattle.pad.proofs.state.entry_numbers.Goals as goal

pub loop-i-init : goal.loop-i-init
loop-i-init c = (refl, short_none c.args.map.entries)

pub loop-i-preserved : goal.loop-i-preserved
loop-i-preserved c =
    let at = c.loop-i in
    let lm : length c.args.map.entries ≡ 256 = search (rules, entries_long) in
    let lt : at.i < 256 = omega arith in (
      rw at.invariant.0 (numbers_more c.args.map.entries at.i c.number.result _ lt lm c.number.ensures.0),
      short_more c.args.map.entries at.i _ (omega arith) at.invariant.1
          (short_back _ c.number.result c.number.ensures.1),
    )

pub returns : goal.returns
returns c =
    let at = c.loop-i in
    let n = c.min-n in
    let es = c.args.map.entries in
    let lm : length c.args.map.entries ≡ 256 = search (rules, entries_long) in
    let en : n.result ≡ capped_of c.args.map.count = n.ensures ∙ min_is c.args.map.count in
    let e : at.i ≡ n.result = omega arith in
    let k : length (take n.result es) ≡ n.result = length-take-le n.result es
    (omega (arith, lm, n.ensures)) in
    let all : take n.result es ≡ take c.args.map.count es =
    ap (λ (j : ℕ). take j es) en ∙ capped_take c.args.map.count es lm in (
      numbers_done es n.result at.i at.numbers e k at.invariant.0 ∙ ap (λ (l : List Entry). entry_numbers l) all,
      subst (λ (l : List Entry). ShortAll l) (ap (λ (j : ℕ). take j es) e ∙ all) at.invariant.1,
    )
