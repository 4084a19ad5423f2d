-- Each try finds its line or none: `sees_exact`, `sees_near`, `sees_neither`.
use mathlib.Core.List.{List, []}
use mathlib.Core.Path.{◌≡◌, refl, sym, subst}
use Prim.Native.Nat.{ℕ}
use Rattle.store.specs.declared.chains.Link.{Link}
use Rattle.store.specs.declared.rows.Row.{Row}
use Rattle.store.specs.declared.table.Fill.{Fill}
use Rattle.store.specs.Held.{Held}
use Rattle.store.specs.Table.{InRows}
use Rattle.std.specs.Prelude.{Option as Optional}
use Rattle.text.specs.Uuid.{without_checksum}
use Rattle.text.specs.declared.uuid.Uuid.{Uuid}
use Rattle.store.specs.declared.look.Part.{Part}
use Rattle.store.specs.Held.{Key, key_by, find}
use Rattle.store.specs.Near.{plain_key}
use Rattle.store.specs.Sights.{Spot}
use Rattle.store.proofs.NearLaws.{sees_exact, sees_near, sees_neither}
use Rattle.store.proofs.near.try_both.Goals as goal

pub returns-in-Some : goal.returns-in-Some
returns-in-Some g c =
    let args = c.args in
    let whole = c.part_of in
    λ i t hs x.
    sees_exact t (find args.key hs) (find (plain_key args.key) hs) whole.result
    (whole.ensures.spots i t _ hs (λ j m. refl) x) _ c.in-Some.is

-- the chains are those from before
still : (i t : List ℕ) (a : List Row) (heads heads' : List ℕ) (links links' : List Link) (f : Fill) (hs : List Held)
    → heads' ≡ heads → links' ≡ links → InRows i t [] a heads links f.count f hs → InRows i t [] a heads' links' f.count f hs
still i t a heads links heads' links' f hs p q x =
    subst (λ (v : List ℕ). InRows i t [] a v links' f.count f hs) (sym p)
    (subst (λ (v : List Link). InRows i t [] a heads v f.count f hs) (sym q) x)

-- the second key is the first without its checksum
plain : (t : List ℕ) (k : Key) (hs : List Held) (r : Optional Part) {u : Uuid} → u ≡ without_checksum k.uuid
    → Spot t (find (key_by k.owner u) hs) r → Spot t (find (plain_key k) hs) r
plain t k hs r e s = subst (λ (u : Uuid). Spot t (find (key_by k.owner u) hs) r) e s

pub returns-in-Some-part_of : goal.returns-in-Some-part_of
returns-in-Some-part_of g c = λ i t hs x.
    let whole = c.part_of.ensures in
    sees_near t (find c.args.key hs) (find (plain_key c.args.key) hs) c.part_of.result
    (whole.spots i t _ hs (λ j m. refl) x) c.part_of-2.result
    (plain t c.args.key hs _ c.without_checksum.ensures (c.part_of-2.ensures.spots i t _ hs whole.agree
    (still i t _ _ _ _ _ c.args.fill hs whole.chains_kept.0 whole.chains_kept.1 x)))
    c.in_default.is _ c.in-Some-part_of.is

pub returns : goal.returns
returns g c = λ i t hs x.
    let whole = c.part_of.ensures in
    sees_neither t (find c.args.key hs) (find (plain_key c.args.key) hs) c.part_of.result
    (whole.spots i t _ hs (λ j m. refl) x) c.part_of-2.result
    (plain t c.args.key hs _ c.without_checksum.ensures (c.part_of-2.ensures.spots i t _ hs whole.agree
    (still i t _ _ _ _ _ c.args.fill hs whole.chains_kept.0 whole.chains_kept.1 x)))
    c.in_default.is c.in_default-part_of.is
