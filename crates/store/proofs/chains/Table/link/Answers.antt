-- The chain's head is the last number of its bucket; number k takes its place.
use mathlib.Core.List.{List}
use mathlib.Core.Path.{◌≡◌, refl, sym, ap, subst, ◌∙◌}
use Prim.Native.Nat.{ℕ, ◌+◌, ◌<◌}
use native.Mathlib.Omega.{arith}
use lib.ListN.{length, get_or, set, length-set}
use borrow.Author.Rules.{rules}
use Rattle.store.specs.declared.chains.Link.{Link}
use Rattle.store.specs.Held.{Key}
use Rattle.store.specs.Keys.{Last, Linked, Kin, bucket, tag_of}
use Rattle.store.specs.Rows.{key_in}
use Rattle.store.proofs.ChainLaws.{here, sought, seeks_from, links_turn, chained_turn}
use Rattle.store.proofs.chains.Table.link.Goals.{After-from}
use Rattle.store.proofs.chains.Table.link.Goals as goal

module _ (g : _) (c : After-from g) where
  abbrev K : ℕ → Key
  K = key_in c.args.self.now.rows

  -- the links with that of number k
  abbrev links : List Link
  links = set c.args.self.now.links c.args.k
      (record { next = get_or c.args.self.now.heads c.hash_of-hash.result.bucket 0; tag = c.hash_of-hash.result.tag })

  long : length c.args.self.now.heads ≡ g.row.N
  long = search rules

  less : c.args.k < g.row.N
  less = search rules

  all : length links ≡ g.row.N
  all = length-set c.args.self.now.links c.args.k _ ∙ search rules

  here_at : (c.hash_of-hash.result.bucket ≡ bucket g.row.N (K c.args.k)) × (c.hash_of-hash.result.bucket < g.row.N)
  here_at = (c.hash_of-hash.ensures.bucket.0 ∙ ap (bucket g.row.N) c.key.ensures, c.hash_of-hash.ensures.bucket.1)

  tagged : c.hash_of-hash.result.tag ≡ tag_of (K c.args.k)
  tagged = c.hash_of-hash.ensures.tag ∙ ap tag_of c.key.ensures

  last : Last g.row.N K (bucket g.row.N (K c.args.k)) c.args.k c.from.result
  last = here c.requires.chained long here_at c.from.ensures less

  linked : Linked (length links) K links (c.args.k + 1)
  linked = subst (λ (n : ℕ). Linked n K links (c.args.k + 1)) (sym all)
      (links_turn c.requires.chained long here_at refl less _ (refl, tagged))

pub first_step-from-requires : goal.first_step-from-requires
first_step-from-requires g c = record {
  k_lt_rows = (c.requires.k_lt_rows, (omega (arith, less g c, all g c), (last g c).within));
  linked = linked g c;
  kin = subst (λ (n : ℕ). Kin n (K g c) c.args.k c.from.result) (sym (all g c)) (last g c).kin;
}

pub seek-r-requires : goal.seek-r-requires
seek-r-requires g c =
    let from = (goal.at.seek-r-requires g c).After-from in
    let first = c.first_step-from.ensures in
    record {
      k_lt_rows = (
        c.requires.k_lt_rows,
        (omega (arith, less g from, all g from), omega (arith, first.not_in.1, (last g from).within)),
      );
      linked = λ a l. linked g from a (omega (arith, l));
      tagged = tagged g from;
      kin = first.kin_2;
    }

pub returns : goal.returns
returns g c =
    let from = (goal.at.returns g c).After-from in
    let pre = c.requires in
    let first = c.first_step-from.ensures in
    record {
      rows_kept = refl;
      sought = sought pre.chained (long g from) (here_at g from) c.from.ensures (less g from)
          (seeks_from (key_in c.args.self.now.rows) c.args.k _ _ _ first.not_in.0 c.seek-r.ensures.seeks);
      chained_2 = chained_turn pre.chained (long g from) (here_at g from) refl (less g from) _ (omega arith) _
          (refl, tagged g from);
    }
