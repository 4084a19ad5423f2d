-- A turn lays out the entry at the place; the rest are unused. Assumes nothing.
use mathlib.Core.Path.{◌≡◌, ap, ◌∙◌}
use native.Mathlib.Omega.{arith}
use borrow.Author.Rules.{rules}
use lib.ListN.{length, replicate, length-replicate}
use Rattle.line.proofs.MapLaws.{past}
use Rattle.exports.specs.FlatMaps.{flat_entry, flat_mapping}
use Rattle.exports.proofs.FlatLaws.{flat_unused, laid_more, laid_first, laid_out}
use Rattle.exports.proofs.flat_mapping.FlatMapping.lay_out.Goals as goal

pub loop-i-preserved : goal.loop-i-preserved
loop-i-preserved c =
    let m = c.args.m.now in
    let long : length m.entries ≡ 256 = search rules in
    let ys = replicate 256 flat_unused in
    let room : length ys ≡ 256 = length-replicate 256 flat_unused in
    rw (c.into.ensures, c.loop-i.invariant)
    (ap (laid_out m) (laid_more flat_entry past m.entries ys c.loop-i.i (omega arith) (omega arith)))

pub returns : goal.returns
unfolding flat_mapping
returns c =
    let m = c.args.m.now in
    let done : c.loop-i.i ≡ m.count = omega arith in
    (rw done at c.loop-i.invariant) ∙ ap (laid_out m) (laid_first m.count m.entries c.requires.0)
