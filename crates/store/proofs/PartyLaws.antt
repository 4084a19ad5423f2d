-- What a call of a party comes to, by its owner: 24 first, or what the call does for that owner.
-- Assumes nothing.
use Rattle.std.specs.Prelude.{Some, None, Err}
use mathlib.Core.List.{List}
use mathlib.Core.Path.{◌≡◌, sym, ap}
use Prim.Native.Nat.{ℕ}
use Rattle.text.specs.declared.uuid.Uuid.{Uuid}
use Rattle.store.specs.declared.parties.Party.{Party}
use Rattle.store.specs.Parties.{owner_of, by_owner, Owner}
use Rattle.store.specs.Held.{key_by}
use Rattle.store.specs.Book.{nobody_inserts}
use Rattle.store.specs.Store.{unchanged, own_insert, store_insert, store_attempt, no_owner, look_by, look_up}
use Rattle.store.specs.Near.{nobody, near_by, near_up}
use Rattle.store.specs.Removing.{remove_by, store_remove}
use Rattle.store.specs.Saves.{SaveArgs, refused_save, attempt_of, store_save}
use Rattle.store.specs.declared.calls.LookError.TheVariants as L
use Rattle.store.specs.declared.calls.SaveError.TheVariants as Sv

module _ (p : Party) (i t : List ℕ) where
  module _ (e : owner_of p ≡ None) where
    pub look_nobody : (u : Uuid) → no_owner ≡ look_up p u i t
    unfolding look_up
    look_nobody u = sym (ap (λ (w : Owner). by_owner w no_owner (λ o. look_by (key_by o u) i t)) e)

    pub near_nobody : (u : Uuid) → nobody ≡ near_up p u i t
    unfolding near_up
    near_nobody u = sym (ap (λ (w : Owner). by_owner w nobody (λ o. near_by (key_by o u) i t)) e)

    pub insert_nobody : (s : List ℕ) → unchanged i t nobody_inserts ≡ store_insert i t p s
    unfolding store_insert
    insert_nobody s = sym (ap (λ (w : Owner). by_owner w (unchanged i t nobody_inserts) (λ o. own_insert i t o s)) e)

    pub save_nobody : (a : SaveArgs) → unchanged i t (refused_save Sv.NoOwner) ≡ store_save i t p a
    unfolding store_save
    save_nobody a =
        sym (ap (λ (w : Owner). by_owner w (unchanged i t (refused_save Sv.NoOwner))
        (λ o. store_attempt (refused_save Sv.Unsound) (refused_save Sv.NoRoom) (refused_save Sv.NoText) i t o
        (attempt_of o a))) e)

    pub remove_nobody : (u : Uuid) → unchanged i t (Err L.NoOwner) ≡ store_remove i t p u
    unfolding store_remove
    remove_nobody u =
        sym (ap (λ (w : Owner). by_owner w (unchanged i t (Err L.NoOwner)) (λ o. remove_by (key_by o u) i t)) e)

  module _ (o : ℕ) (e : owner_of p ≡ Some o) where
    pub look_owner : (u : Uuid) → look_by (key_by o u) i t ≡ look_up p u i t
    unfolding look_up
    look_owner u = sym (ap (λ (w : Owner). by_owner w no_owner (λ v. look_by (key_by v u) i t)) e)

    pub near_owner : (u : Uuid) → near_by (key_by o u) i t ≡ near_up p u i t
    unfolding near_up
    near_owner u = sym (ap (λ (w : Owner). by_owner w nobody (λ v. near_by (key_by v u) i t)) e)

    pub remove_owner : (u : Uuid) → remove_by (key_by o u) i t ≡ store_remove i t p u
    unfolding store_remove
    remove_owner u =
        sym (ap (λ (w : Owner). by_owner w (unchanged i t (Err L.NoOwner)) (λ v. remove_by (key_by v u) i t)) e)
