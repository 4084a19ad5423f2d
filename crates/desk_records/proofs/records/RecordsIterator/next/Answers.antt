-- A record has some bytes, so fewer are left behind it.
use borrow.Author.Rules.{rules}
use mathlib.Core.Path.{sym, ◌∙◌}
use Prim.Native.Nat.{◌≤◌}
use Rattle.store.proofs.WalkedLaws.{record_in}
use Rattle.desk_records.proofs.records.RecordsIterator.next.Goals as goal

pub returns-clause-goes : goal.returns-clause-goes
returns-clause-goes c =
    let is = sym c.record_at.ensures ∙ c.in_ok-stands.was in
    let some : 1 ≤ c.in_ok-stands.stands.size
    = (record_in c.args.self.now.left.index.now 0 c.in_ok-stands.stands is).some in
    search (rules, some, c.in_ok-bytes.ensures.cases)
