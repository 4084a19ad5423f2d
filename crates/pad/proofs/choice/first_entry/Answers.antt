-- By whether the code has a place. Assumes nothing.
use Rattle.std.proofs.Common.{arith, sym, rules}
use Rattle.pad.proofs.NumberLaws.{place_some, place_none, entry_of_place, entry_none}
use Rattle.pad.proofs.choice.first_entry.Goals as goal

pub returns-in_err-i : goal.returns-in_err-i
returns-in_err-i c =
    let none = place_none c.args.code.0 c.args.entries.now (sym c.in_err-i.ensures) in
    let n = entry_none c.args.code c.args.entries.now none in
    rw n (search rules)

pub returns : goal.returns
returns c =
    let p = place_some c.args.code.0 c.args.entries.now _ (sym c.in_ok-i.ensures) in
    let n = entry_of_place c.args.code c.args.entries.now 0 (omega (arith, p.0, p.1)) in
    rw (n, p.0, sym c.of_number.ensures)
