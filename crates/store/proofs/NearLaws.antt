-- A look-up that also tries a UUID without its checksum: what it says beside the old one, and after every list of calls.
-- Assumes nothing.
use Rattle.std.specs.Prelude.{Option as Optional, Some, None, Ok, Err}
use mathlib.Core.Bool.{false}
use mathlib.Core.List.{List}
use mathlib.Core.Option.{Option, none, some}
use mathlib.Core.Path.{◌≡◌, refl, sym, ap, ◌∙◌, subst}
use Prim.Native.Nat.{ℕ, ◌≤◌}
use native.Mathlib.Omega.{arith}
use lib.ListN.{drop}
use Rattle.text.specs.Uuid.{without_checksum}
use Rattle.store.specs.declared.look.Part.{Part}
use Rattle.store.specs.declared.near.Nearness.{Nearness}
use Rattle.store.specs.declared.soundness.Ledger.{Ledger}
use Rattle.store.specs.declared.soundness.Stock.{Stock}
use Rattle.store.specs.Shares.{Content}
use Rattle.store.specs.Decode.{content}
use Rattle.store.specs.Filings.{line_filed}
use Rattle.store.specs.Guarantee.{Calls, Guarantee, stored, last_of}
use Rattle.text.specs.declared.uuid.Uuid.{Uuid}
use Rattle.store.specs.declared.parties.Party.{Party}
use Rattle.store.specs.Parties.{owner_of, by_owner, Owner}
use Rattle.store.specs.Held.{Key, key_by, find, index_max, text_max}
use Rattle.store.specs.Inner.{known}
use Rattle.store.specs.Near.{nobody, near_in, plain_key, near_at, near_by}
use Rattle.store.specs.Near.{near_up}
use Rattle.store.specs.Near.{Beside, BesideLookUp, NeverNear, NearAfter}
use Rattle.store.specs.Sights.{Spot, nowhere, there, NearSees, Tries}
use Rattle.store.specs.Store.{no_owner, looked_in, looked_at, look_by, look_up}
use Rattle.store.specs.Store as store
use Rattle.store.specs.Table.{Stocks}
use Rattle.store.proofs.Saves.{whole_guarantee}
use Rattle.store.proofs.SurveyLaws.{Holds, stock_holds, stock_rows}
use Rattle.store.specs.declared.calls.LookError.TheVariants as L
use Rattle.store.specs.declared.near.Nearness.TheVariants as N

-- ---- beside the old look-up

clash : {A : Type 0} → ◌≡◌ {A = ℕ} 0 1 → A
clash z = absurd (omega arith)

beside_in : (a b : Option (List ℕ)) → Beside (near_in a b) (looked_in a) (looked_in b)
beside_in (some x) b = record {
  exact_found = λ l. (λ e. cc, λ e. cc);
  near_only = λ l. (λ e. clash cc, λ e. let q = e.0 in clash cc);
  neither_held = (λ e. clash cc, λ e. let q = e.0 in clash cc);
  not_sound = (λ e. clash cc, λ e. clash cc);
  for_no_owner = (λ e. clash cc, λ e. clash cc);
}
beside_in none (some y) = record {
  exact_found = λ l. (λ e. clash cc, λ e. clash cc);
  near_only = λ l. (λ e. (refl, cc), λ e. let q = e.1 in cc);
  neither_held = (λ e. clash cc, λ e. let q = e.1 in clash cc);
  not_sound = (λ e. clash cc, λ e. clash cc);
  for_no_owner = (λ e. clash cc, λ e. clash cc);
}
beside_in none none = record {
  exact_found = λ l. (λ e. clash cc, λ e. clash cc);
  near_only = λ l. (λ e. clash cc, λ e. let q = e.1 in clash cc);
  neither_held = (λ e. (refl, refl), λ e. refl);
  not_sound = (λ e. clash cc, λ e. clash cc);
  for_no_owner = (λ e. clash cc, λ e. clash cc);
}

pub beside_look_up : BesideLookUp
unfolding near_up near_by look_up look_by
beside_look_up p u i t = who (owner_of p)
  where
    go : (o : ℕ) (w : Option Content)
        → Beside (near_at (key_by o u) w) (looked_at (key_by o u) w) (looked_at (key_by o (without_checksum u)) w)
    go o (some c) = beside_in (find (key_by o u) c.held) (find (key_by o (without_checksum u)) c.held)
    go o none = record {
      exact_found = λ l. (λ e. clash cc, λ e. clash cc);
      near_only = λ l. (λ e. clash cc, λ e. let q = e.0 in clash cc);
      neither_held = (λ e. clash cc, λ e. let q = e.0 in clash cc);
      not_sound = (λ e. refl, λ e. refl);
      for_no_owner = (λ e. clash cc, λ e. clash cc);
    }

    who : (w : Owner)
        → Beside (by_owner w nobody (λ o. near_at (key_by o u) (content i t)))
        (by_owner w no_owner (λ o. looked_at (key_by o u) (content i t)))
        (by_owner w no_owner (λ o. looked_at (key_by o (without_checksum u)) (content i t)))
    who (Some o) = go o (content i t)
    who None = record {
      exact_found = λ l. (λ e. clash cc, λ e. clash cc);
      near_only = λ l. (λ e. clash cc, λ e. let q = e.0 in clash cc);
      neither_held = (λ e. clash cc, λ e. let q = e.0 in clash cc);
      not_sound = (λ e. clash cc, λ e. clash cc);
      for_no_owner = (λ e. refl, λ e. refl);
    }

pub never_near : NeverNear
never_near p u i t l e n =
    let q = ((beside_look_up p u i t).near_only l).0 n in
    let same : look_up p u i t ≡ store.found l = ap (λ (x : Uuid). look_up p x i t) (sym e) ∙ q.1 in
    let none = q.0 in
    clash cc

-- ---- after every list of calls

-- what is found, by the two lines that are found
near_found : (p : Party) (u : Uuid) (i t : List ℕ) (a b : Option (List ℕ)) → look_up p u i t ≡ looked_in a
    → look_up p (without_checksum u) i t ≡ looked_in b → near_up p u i t ≡ near_in a b
near_found p u i t (some x) b e f = ((beside_look_up p u i t).exact_found x).1 e
near_found p u i t none (some y) e f = ((beside_look_up p u i t).near_only y).1 (e, f)
near_found p u i t none none e f = (beside_look_up p u i t).neither_held.1 (e, f)

near_filed : (n m : ℕ) (xs : Calls) → Guarantee n m xs → NearAfter n m xs
near_filed n m xs g p u = go (owner_of p) refl
  where
    i : List ℕ
    i = (stored n m xs).index

    t : List ℕ
    t = (stored n m xs).text

    last : ℕ → Uuid → Option (List ℕ)
    last o v = line_filed (last_of n m xs (key_by o v))

    looks : (v : Uuid) (w : Owner) → owner_of p ≡ w
        → look_up p v i t ≡ by_owner w no_owner (λ o. looked_in (last o v))
    looks v w e = g.finds p v ∙ ap (λ (x : Owner). by_owner x no_owner (λ o. looked_in (last o v))) e

    go : (w : Owner) → owner_of p ≡ w
        → near_up p u i t ≡ by_owner w nobody (λ o. near_in (last o u) (last o (without_checksum u)))
    go None e = (beside_look_up p u i t).for_no_owner.1 (looks u None e)
    go (Some o) e =
        near_found p u i t (last o u) (last o (without_checksum u)) (looks u (Some o) e)
        (looks (without_checksum u) (Some o) e)

pub near_after : (n m : ℕ) → n ≤ index_max → m ≤ text_max → (xs : Calls) → NearAfter n m xs
near_after n m ln lm xs = near_filed n m xs (whole_guarantee n m ln lm xs)

-- ---- what a look-up sees

module _ (t : List ℕ) (a b : Option (List ℕ)) (whole : Optional Part) (s : Spot t a whole) where
  pub sees_exact : (q : Part) → whole ≡ Some q → NearSees t (near_in a b) (Ok (Some (N.Exact, q)))
  sees_exact q e = go s
    where
      go : Spot t a whole → NearSees t (near_in a b) (Ok (Some (N.Exact, q)))
      go (nowhere z y) = clash cc
      go (there p z y w) =
          let n : p ≡ q = cc in
          subst (λ (v : Part). NearSees t (near_in a b) (Ok (Some (N.Exact, v)))) n
          (subst (λ (o : Option (List ℕ)). NearSees t (near_in o b) (Ok (Some (N.Exact, p)))) (sym z)
          (record { how = refl; within = w; line = refl }))

  module _ (second : Optional Part) (s' : Spot t b second) (z : whole ≡ None) where
    first-none : a ≡ none
    first-none = go s
      where
        go : Spot t a whole → a ≡ none
        go (nowhere q y) = q
        go (there p q y w) = clash cc

    pub sees_near : (q : Part) → second ≡ Some q → NearSees t (near_in a b) (Ok (Some (N.Near, q)))
    sees_near q e = go s'
      where
        go : Spot t b second → NearSees t (near_in a b) (Ok (Some (N.Near, q)))
        go (nowhere v y) = clash cc
        go (there p v y w) =
            let n : p ≡ q = cc in
            subst (λ (m : Part). NearSees t (near_in a b) (Ok (Some (N.Near, m)))) n
            (subst (λ (o : Option (List ℕ)). NearSees t (near_in o b) (Ok (Some (N.Near, p)))) (sym first-none)
            (subst (λ (o : Option (List ℕ)). NearSees t (near_in none o) (Ok (Some (N.Near, p)))) (sym v)
            (record { how = refl; within = w; line = refl })))

    pub sees_neither : second ≡ None → NearSees t (near_in a b) (Ok None)
    sees_neither e = go s'
      where
        go : Spot t b second → NearSees t (near_in a b) (Ok None)
        go (there p v y w) = clash cc
        go (nowhere v y) =
            subst (λ (o : Option (List ℕ)). NearSees t (near_in o b) (Ok None)) (sym first-none)
            (subst (λ (o : Option (List ℕ)). NearSees t (near_in none o) (Ok None)) (sym v)
            (record { how = refl; within = tt; line = refl }))

module _ (k : Key) (i t : List ℕ) where
  pub near_unsound : known (content i t) ≡ false → NearSees t (near_by k i t) (Err L.Unsound)
  unfolding near_by
  near_unsound e = go (content i t) e
    where
      go : (o : Option Content) → known o ≡ false → NearSees t (near_at k o) (Err L.Unsound)
      go none q = record { how = refl; within = tt; line = refl }
      go (some c) q = clash cc

  near_sound : (c : Content) → content i t ≡ some c → (r : Optional (Nearness × Part))
      → NearSees t (near_in (find k c.held) (find (plain_key k) c.held)) (Ok r) → NearSees t (near_by k i t) (Ok r)
  unfolding near_by
  near_sound c e r s = subst (λ (o : Option Content). NearSees t (near_at k o) (Ok r)) (sym e) s

-- both tries, in a sound store
pub near_stock : {N : ℕ} {i t : List ℕ} {l : Ledger N} {s : Stock} (w : Stocks i t l s) (k : Key)
    (r : Optional (Nearness × Part)) → Tries l.table.rows l.table.heads l.table.links s.fill k r
    → NearSees t (near_by k i t) (Ok r)
near_stock {i} {t} {l} {s} w k r p =
    let h : Holds i t l.shares s.front = stock_holds i t l s w in
    near_sound k i t h.all h.is r (p (drop s.front i) t h.all.held (stock_rows i t l s w))
