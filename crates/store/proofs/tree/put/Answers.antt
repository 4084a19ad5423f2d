-- The node of number n is written first, where nothing rests on it; then it is named where its key stands, or comes under
-- the node where the path ended.
use mathlib.Core.Path.{refl}
use native.Mathlib.Omega.{arith}
use Rattle.store.proofs.PutLaws.{alone_treed, alone_lone, alone_first}
use Rattle.store.proofs.PutLaws.{found_sought, found_treed, ends_sought, ends_treed}
use Rattle.store.proofs.tree.put.Goals as goal

pub returns-then-n-eq0-clause-treed_2 : goal.returns-then-n-eq0-clause-treed_2
returns-then-n-eq0-clause-treed_2 c = alone_first c.args.nodes.now c.args.n c.requires.n_lt_rows.1.0 _ c.if-n-eq0.true

pub descend-requires-clause-treed : goal.descend-requires-clause-treed
descend-requires-clause-treed c = alone_treed c.args.nodes.now c.args.n c.requires.n_lt_rows.1.0 c.requires.treed

pub returns-in-Found-clause-sought : goal.returns-in-Found-clause-sought
returns-in-Found-clause-sought c =
    let w = c.args.nodes.now in
    let n = c.args.n in
    let long = c.requires.n_lt_rows.1.0 in
    rw c.from.ensures
    (found_sought (omega (arith, c.if-n-eq0.false)) (alone_lone w n long c.requires.treed) c.in-Found.ensures refl)

pub returns-in-Found-clause-treed_2 : goal.returns-in-Found-clause-treed_2
returns-in-Found-clause-treed_2 c =
    let w = c.args.nodes.now in
    let n = c.args.n in
    let long = c.requires.n_lt_rows.1.0 in
    found_treed (omega (arith, c.if-n-eq0.false)) (alone_lone w n long c.requires.treed) c.in-Found.ensures refl

pub returns-in-Missing-clause-sought : goal.returns-in-Missing-clause-sought
returns-in-Missing-clause-sought c =
    let w = c.args.nodes.now in
    let n = c.args.n in
    let long = c.requires.n_lt_rows.1.0 in
    ends_sought (omega (arith, c.if-n-eq0.false)) (alone_lone w n long c.requires.treed) c.in-Missing.ensures refl

pub returns-in-Missing-clause-treed_2 : goal.returns-in-Missing-clause-treed_2
returns-in-Missing-clause-treed_2 c =
    let w = c.args.nodes.now in
    let n = c.args.n in
    let long = c.requires.n_lt_rows.1.0 in
    ends_treed (omega (arith, c.if-n-eq0.false)) (alone_lone w n long c.requires.treed) c.in-Missing.ensures refl
