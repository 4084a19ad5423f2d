-- Three puts, one after the other; the output is what stands behind the struct at the end. Assumes nothing.
use Rattle.std.proofs.Common.{rules}
use Rattle.map.proofs.OutputLaws.{buttons_fit, axes_fit, line_put}
use Rattle.map.proofs.from_data.output.put_line.Goals as goal

pub put_pairs-requires : goal.put_pairs-requires
put_pairs-requires c =
    let a = c.args in
    rw c.as_slice.ensures.value
    (buttons_fit a.out.now a.pairs.now a.name.now a.uuid c.requires _ _ c.put_head.ensures.1)

pub put_pairs-requires-2 : goal.put_pairs-requires-2
put_pairs-requires-2 c =
    let a = c.args in
    let y = rw c.as_slice.ensures.value at c.put_pairs.ensures.1 in
    rw c.as_slice-2.ensures.value
    (axes_fit a.out.now a.pairs.now a.name.now a.uuid c.requires _ _ c.put_head.ensures.1 _ _ y)

pub returns : goal.returns
returns c =
    let a = c.args in
    let y = rw c.as_slice.ensures.value at c.put_pairs.ensures.1 in
    let z = rw c.as_slice-2.ensures.value at c.put_pairs-2.ensures.1 in
    let all = line_put a.out.now a.pairs.now a.name.now a.uuid c.requires _ _ c.put_head.ensures.1 _ _ y _ _ z in
    search (rules, all)
