-- Four puts, one after the other. Assumes nothing.
use Rattle.map.proofs.OutputLaws.{head_in_four, four_first, four_second, four_third, four_last, four_put}
use Rattle.map.proofs.from_data.output.Output.put_head.Goals as goal

pub put_uuid-requires : goal.put_uuid-requires
put_uuid-requires c =
    let a = c.args in
    four_first _ (head_in_four a.uuid a.name.now) a.self.now c.requires

pub put-requires : goal.put-requires
put-requires c =
    let a = c.args in
    four_second _ (head_in_four a.uuid a.name.now) a.self.now c.requires c.put_uuid.new.self c.put_uuid.ensures

pub put-requires-2 : goal.put-requires-2
put-requires-2 c =
    let a = c.args in
    four_third _ (head_in_four a.uuid a.name.now) a.self.now c.requires c.put_uuid.new.self c.put_uuid.ensures
    c.put.new.self c.put.ensures

pub put-requires-3 : goal.put-requires-3
put-requires-3 c =
    let a = c.args in
    four_last _ (head_in_four a.uuid a.name.now) a.self.now c.requires c.put_uuid.new.self c.put_uuid.ensures
    c.put.new.self c.put.ensures c.put-2.new.self c.put-2.ensures

pub returns : goal.returns
returns c =
    let a = c.args in
    four_put _ (head_in_four a.uuid a.name.now) a.self.now c.requires c.put_uuid.new.self c.put_uuid.ensures
    c.put.new.self c.put.ensures c.put-2.new.self c.put-2.ensures c.put-3.new.self c.put-3.ensures
