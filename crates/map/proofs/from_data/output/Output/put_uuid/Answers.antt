-- There is room, so the writer writes. Assumes nothing.
use mathlib.Core.Path.{refl}
use Rattle.text.specs.Uuid.{uuid_text}
use Rattle.map.proofs.OutputLaws.{wrote_put}
use Rattle.map.proofs.from_data.output.Output.put_uuid.Goals as goal

pub returns : goal.returns
returns c =
    let a = c.args in
    let o = a.self.now in
    let u = uuid_text a.uuid in
    (refl, wrote_put o.out.now o.at u _ _ _ _ c.requires c.write_simple.ensures c.unwrap_or-self.ensures)
