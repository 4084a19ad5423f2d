-- What stands before number k in its chain is the last number of its bucket before it.
use mathlib.Core.Path.{◌≡◌, sym, subst}
use Prim.Native.Nat.{ℕ}
use native.Mathlib.Omega.{arith}
use lib.ListN.{length}
use borrow.Author.Rules.{rules}
use Rattle.store.specs.Keys.{Kin, Last, bucket}
use Rattle.store.specs.Rows.{key_in}
use Rattle.store.proofs.ChainLaws.{chain_from, chain_sought}
use Rattle.store.proofs.chains.Table.seek_behind.Goals.{After-from}
use Rattle.store.proofs.chains.Table.seek_behind.Goals as goal

module _ (g : _) (c : After-from g) where
  links_long : length c.args.self.now.links ≡ length c.args.self.now.heads
  links_long = c.requires.chained.alike

  last : Last (length c.args.self.now.heads) (key_in c.args.self.now.rows)
      (bucket (length c.args.self.now.heads) (key_in c.args.self.now.rows c.args.k)) c.args.k c.from.result
  last = chain_from _ _ c.args.self.now.links _ _ _ c.requires.chained.linked (omega arith) c.from.ensures

pub seek-requires : goal.seek-requires
seek-requires g c =
    let rows_long : length c.args.self.now.rows ≡ g.row.N = search rules in
    let next_long : length c.args.self.now.links ≡ g.row.N = search rules in
    record {
      k_lt_rows = (c.requires.k_lt_rows, (omega (arith, c.requires.k_lt_rows, rows_long, next_long), (last g c).within));
      linked = rw c.requires.chained.alike (λ a l. c.requires.chained.linked a (omega (arith, l)));
      tagged = (c.requires.chained.linked c.args.k (omega arith)).1;
      kin = subst (λ (n : ℕ). Kin n (key_in c.args.self.now.rows) c.args.k c.from.result) (sym (links_long g c))
          (last g c).kin;
    }

pub returns : goal.returns
returns g c =
    let from = (goal.at.returns g c).After-from in
    let rows_long : length c.args.self.now.rows ≡ g.row.N = search rules in
    record {
      sought = chain_sought _ _ _ _ (last g from) _ c.seek.ensures.seeks;
      upper_bound = c.seek.ensures.upper_bound (omega (arith, (last g from).within, c.requires.k_lt_rows, rows_long));
    }
