-- Four puts, one after the other. Assumes nothing.
use Rattle.map.specs.Inner.{letter_of}
use Rattle.map.proofs.OutputLaws.{pair_in_four, four_first, four_second, four_third, four_last, four_put}
use Rattle.map.proofs.from_data.output.Output.put_pair.Goals as goal

pub put-requires : goal.put-requires
put-requires c =
    let a = c.args in
    rw c.ident_of.ensures.0 (four_first _ (pair_in_four (letter_of a.kind) a.slot) a.self.now c.requires)

pub put-requires-2 : goal.put-requires-2
put-requires-2 c =
    let a = c.args in
    four_second _ (pair_in_four (letter_of a.kind) a.slot) a.self.now c.requires
    c.put.new.self (rw c.ident_of.ensures.0 at c.put.ensures)

pub put_index-requires : goal.put_index-requires
put_index-requires c =
    let a = c.args in
    four_third _ (pair_in_four (letter_of a.kind) a.slot) a.self.now c.requires
    c.put.new.self (rw c.ident_of.ensures.0 at c.put.ensures) c.put-2.new.self (rw c.letter.ensures at c.put-2.ensures)

pub put-requires-3 : goal.put-requires-3
put-requires-3 c =
    let a = c.args in
    four_last _ (pair_in_four (letter_of a.kind) a.slot) a.self.now c.requires
    c.put.new.self (rw c.ident_of.ensures.0 at c.put.ensures) c.put-2.new.self (rw c.letter.ensures at c.put-2.ensures)
    c.put_index.new.self c.put_index.ensures

pub returns : goal.returns
returns c =
    let a = c.args in
    four_put _ (pair_in_four (letter_of a.kind) a.slot) a.self.now c.requires
    c.put.new.self (rw c.ident_of.ensures.0 at c.put.ensures) c.put-2.new.self (rw c.letter.ensures at c.put-2.ensures)
    c.put_index.new.self c.put_index.ensures c.put-3.new.self c.put-3.ensures
