-- The head of the chain is the last number of its bucket.
use mathlib.Core.Path.{◌≡◌, sym, ap, subst, ◌∙◌}
use Prim.Native.Nat.{ℕ, ◌<◌}
use native.Mathlib.Omega.{arith}
use lib.ListN.{length}
use borrow.Author.Rules.{rules}
use Rattle.store.specs.Keys.{Kin, Last, bucket, tag_of}
use Rattle.store.specs.Rows.{key_in}
use Rattle.store.proofs.ChainLaws.{here, sought}
use Rattle.store.proofs.chains.Table.seek_before.Goals.{After-from}
use Rattle.store.proofs.chains.Table.seek_before.Goals as goal

module _ (g : _) (c : After-from g) where
  long : length c.args.self.now.heads ≡ g.row.N
  long = search rules

  less : c.args.k < g.row.N
  less = search rules

  links_long : length c.args.self.now.links ≡ g.row.N
  links_long = search rules

  here_at : (c.hash_of-hash.result.bucket ≡ bucket g.row.N (key_in c.args.self.now.rows c.args.k))
      × (c.hash_of-hash.result.bucket < g.row.N)
  here_at = (c.hash_of-hash.ensures.bucket.0 ∙ ap (bucket g.row.N) c.key.ensures, c.hash_of-hash.ensures.bucket.1)

  last : Last g.row.N (key_in c.args.self.now.rows) (bucket g.row.N (key_in c.args.self.now.rows c.args.k)) c.args.k
      c.from.result
  last = here c.requires.chained long here_at c.from.ensures less

pub seek-requires : goal.seek-requires
seek-requires g c = record {
  k_lt_rows = (c.requires.k_lt_rows, (omega (arith, less g c, links_long g c), (last g c).within));
  linked = rw c.requires.chained.alike c.requires.chained.linked;
  tagged = c.hash_of-hash.ensures.tag ∙ ap tag_of c.key.ensures;
  kin = subst (λ (n : ℕ). Kin n (key_in c.args.self.now.rows) c.args.k c.from.result) (sym (links_long g c))
      (last g c).kin;
}

pub returns : goal.returns
returns g c =
    let from = (goal.at.returns g c).After-from in
    record {
      sought = sought c.requires.chained (long g from) (here_at g from) c.from.ensures (less g from)
          c.seek.ensures.seeks;
      upper_bound = c.seek.ensures.upper_bound (omega (arith, (last g from).within, less g from));
    }
