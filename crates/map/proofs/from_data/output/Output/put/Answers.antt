-- There is room, so the writer writes. Assumes nothing.
use mathlib.Core.Path.{refl}
use Rattle.map.proofs.OutputLaws.{wrote_put}
use Rattle.map.proofs.from_data.output.Output.put.Goals as goal

pub returns : goal.returns
returns c =
    let a = c.args in
    let o = a.self.now in
    (refl, wrote_put o.out.now o.at a.v.now _ _ _ _ c.requires c.write_bytes.ensures c.unwrap_or-self.ensures)
