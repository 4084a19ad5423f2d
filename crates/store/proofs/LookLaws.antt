-- A look-up in a sound store: the line of the number before with that key is the line held.
-- Assumes nothing.
use Rattle.std.specs.Prelude.{Option as Optional, Some, None, Ok, Err}
use mathlib.Core.Bool.{Bool, true, false}
use mathlib.Core.List.{List, [], ◌∷◌, ◌++◌}
use mathlib.Core.Logic.{⊎_elim}
use mathlib.Core.Option.{Option, none, some}
use mathlib.Core.Path.{◌≡◌, refl, sym, ap, ap₂, ◌∙◌, subst}
use Prim.Native.Nat.{ℕ, zero, suc, ◌+◌, ◌-◌, ◌≤◌, ◌<◌}
use native.Mathlib.Nat.{eq-or-lt_of_le}
use native.Mathlib.Omega.{arith}
use lib.Dec.{eqb, ltb}
use lib.ListN.{length, take, drop}
use borrow.Author.Tests.{eq-eqb, ne_eqb, eqb-true, eqb-false, ltb-true, ltb-false, lt-ltb}
use Rattle.text.specs.Bytes.{pick}
use Rattle.store.specs.declared.chains.Link.{Link}
use Rattle.store.specs.declared.rows.Row.{Row}
use Rattle.store.specs.declared.table.Fill.{Fill}
use Rattle.store.specs.declared.look.Part.{Part}
use Rattle.store.specs.declared.soundness.Ledger.{Ledger}
use Rattle.store.specs.declared.soundness.Stock.{Stock}
use Rattle.store.specs.Decode.{content}
use Rattle.store.specs.Shares.{Content}
use Rattle.store.specs.Held.{Key, Held, same_key, find}
use Rattle.store.specs.Inner.{known}
use Rattle.store.specs.Keys.{Sought}
use Rattle.store.specs.Rows.{row_in, key_in, start_in, len_in, row_put, len_before, row_key}
use Rattle.store.specs.Table.{living, held_at, line_at, InRows, Stocks}
use Rattle.store.specs.Sights.{Ready, Agree, Spot, Spots, nowhere, there, Sees}
use Rattle.store.specs.Store.{Looked, nothing, unsound, looked_in, looked_at, look_by}
use Rattle.store.specs.Store as store
use Rattle.store.proofs.ChainLaws.{unlike}
use Rattle.store.proofs.HeldLaws.{same_refl, same_eq}
use Rattle.store.proofs.SurveyLaws.{Holds, stock_holds, stock_rows}
use Rattle.store.proofs.TableLaws.{chained_agree}
use Rattle.store.proofs.WriteLaws.{put_long, row_same, row_other}
use Rattle.store.specs.declared.calls.LookError.TheVariants as L

look_unsound : (k : Key) (i t : List ℕ) → known (content i t) ≡ false → look_by k i t ≡ unsound
unfolding look_by
look_unsound k i t e = go (content i t) e
  where
    go : (o : Option Content) → known o ≡ false → looked_at k o ≡ unsound
    go none q = refl
    go (some c) q = let z : ◌≡◌ {A = ℕ} 0 1 = cc in absurd (omega arith)

-- ---- found among the lines of numbers

module _ (u : Key) where
  find_past : (xs ys : List Held) → find u xs ≡ none → find u (xs ++ ys) ≡ find u ys
  unfolding find
  find_past [] ys e = refl
  find_past (h ∷ xs) ys e = go (same_key u h.key) e (find_past xs ys)
    where
      go : (b : Bool) → pick b (some h.line) (find u xs) ≡ none
          → (find u xs ≡ none → find u (xs ++ ys) ≡ find u ys)
          → pick b (some h.line) (find u (xs ++ ys)) ≡ find u ys
      go true q ih = let z : ◌≡◌ {A = ℕ} 0 1 = cc in absurd (omega arith)
      go false q ih = ih q

  find-before : (xs ys : List Held) → find u ys ≡ none → find u (xs ++ ys) ≡ find u xs
  unfolding find
  find-before [] ys e = e
  find-before (h ∷ xs) ys e =
      ap (λ (o : Option (List ℕ)). pick (same_key u h.key) (some h.line) o) (find-before xs ys e)

  find_nowhere : (S : ℕ → List Held) (n : ℕ) → ((k : ℕ) → k < n → find u (S k) ≡ none) → find u (living S n) ≡ none
  unfolding living
  find_nowhere S zero f = unfold find in refl
  find_nowhere S (suc n) f =
      find_past (living S n) (S n) (find_nowhere S n (λ k l. f k (omega arith))) ∙ f n (omega arith)

  find-only : (S : ℕ → List Held) (j n : ℕ) → j < n → ((k : ℕ) → k < n → (k ≡ j → ⊥) → find u (S k) ≡ none)
      → find u (living S n) ≡ find u (S j)
  unfolding living
  find-only S j zero l f = absurd (omega arith)
  find-only S j (suc n) l f =
      let q : j ≤ n = omega arith in
      ⊎_elim
      (λ e. find_past (living S n) (S n)
      (find_nowhere S n (λ k p. f k (omega arith) (λ z. omega arith))) ∙ ap (λ (k : ℕ). find u (S k)) (sym e))
      (λ p. find-before (living S n) (S n) (f n (omega arith) (λ z. omega arith))
      ∙ find-only S j n p (λ k p'. f k (omega arith)))
      (eq-or-lt_of_le q)

-- ---- the key of number n, sought among the lines of the numbers before it

pub some-before : (a : List Row) (r len : ℕ) → len ≡ len_before a r → (len ≡ 0 → ⊥) → 0 < r
some-before a r len el z = go (eqb r 0) refl
  where
    go : (c : Bool) → eqb r 0 ≡ c → 0 < r
    go true q = absurd (z (el ∙ ap (λ (c : Bool). pick c 0 (len_in a (r - 1))) q))
    go false q = let y : r ≡ 0 → ⊥ = eqb-false r 0 q in omega arith

-- a has the rows of the lines hs, and b has them too, and the key behind them
module _ {k : Key} {i t : List ℕ} {a : List Row} (b : List Row) {heads : List ℕ} {links : List Link} {f : Fill} {hs : List Held}
    (x : InRows i t [] a heads links f.count f hs)
    (agree : Agree a b f.count) (new : key_in b f.count ≡ k)
    {r : ℕ} (so : Sought (key_in b) f.count r) (rl : r ≤ f.count) {len : ℕ} (el : len ≡ len_before b r) where
  abbrev K : ℕ → Key
  K j = key_in a j

  abbrev S : ℕ → List Held
  S j = line_at t [] a f.count j

  before : (j : ℕ) → j < f.count → key_in a j ≡ key_in b j
  before j l = ap row_key (agree j l)

  -- what a number gives
  find_gone : (j : ℕ) → len_in a j ≡ 0 → find k (S j) ≡ none
  unfolding line_at find
  find_gone j z = ap (λ (c : Bool). find k (pick c [] (held_at t [] a f.count j ∷ []))) (eq-eqb _ _ z)

  find_other : (j : ℕ) → (K j ≡ k → ⊥) → find k (S j) ≡ none
  unfolding line_at find
  find_other j z = go (eqb (len_in a j) 0) (same_key k (K j)) refl
    where
      go : (c d : Bool) → same_key k (K j) ≡ d → find k (pick c [] (held_at t [] a f.count j ∷ [])) ≡ none
      go true d q = refl
      go false true q = absurd (z (sym (same_eq k (K j) q)))
      go false false q = ap (λ (v : Bool). pick v (some (held_at t [] a f.count j).line) none) q

  find_here : (j : ℕ) → K j ≡ k → (len_in a j ≡ 0 → ⊥)
      → find k (S j) ≡ some (held_at t [] a f.count j).line
  unfolding line_at find
  find_here j q z =
      ap (λ (c : Bool). find k (pick c [] (held_at t [] a f.count j ∷ []))) (ne_eqb _ _ z)
      ∙ ap (λ (v : Bool). pick v (some (held_at t [] a f.count j).line) none)
      (subst (λ (v : Key). same_key k v ≡ true) (sym q) (same_refl k))

  clear : (j : ℕ) → r ≤ j → j < f.count → K j ≡ k → ⊥
  clear j p q z = so.clear rl j p q (sym (before j q) ∙ z ∙ sym new)

  -- the number before r has the key, and the others have not, or are struck out
  module _ (p : 0 < r) where
    at_key : K (r - 1) ≡ k
    at_key = before (r - 1) (omega arith) ∙ so.hit p rl ∙ new

    others : (j : ℕ) → j < f.count → (j ≡ r - 1 → ⊥) → find k (S j) ≡ none
    others j l z = go (same_key k (K j)) refl (ltb j (r - 1)) refl
      where
        go : (c : Bool) → same_key k (K j) ≡ c → (d : Bool) → ltb j (r - 1) ≡ d → find k (S j) ≡ none
        go false q d v = find_other j (λ y. unlike k (K j) q (sym y))
        go true q true v = find_gone j
            (x.older j (r - 1) (ltb-true j (r - 1) v) (omega arith) (sym (same_eq k (K j) q) ∙ sym at_key))
        go true q false v =
            let y : r - 1 ≤ j = ltb-false j (r - 1) v in
            absurd (clear j (omega arith) l (sym (same_eq k (K j) q)))

    one : find k (living S f.count) ≡ find k (S (r - 1))
    one = find-only k S (r - 1) f.count (omega arith) others

    len_is : len ≡ len_in a (r - 1)
    len_is = el ∙ ap (λ (c : Bool). pick c 0 (len_in b (r - 1))) (ne_eqb r 0 (λ z. omega arith))
        ∙ sym (ap (λ (v : Row). v.len) (agree (r - 1) (omega arith)))

  pub spot_none : len ≡ 0 → Spot t (find k hs) None
  spot_none z = nowhere (ap (find k) x.tabled.is ∙ go (eqb r 0) refl) refl
    where
      go : (c : Bool) → eqb r 0 ≡ c → find k (living S f.count) ≡ none
      go true q =
          let y : r ≡ 0 = eqb-true r 0 q in
          find_nowhere k S f.count (λ j l. find_other j (λ v. clear j (omega arith) l v))
      go false q =
          let y : r ≡ 0 → ⊥ = eqb-false r 0 q in
          let p : 0 < r = omega arith in
          one p ∙ find_gone (r - 1) (sym (len_is p) ∙ z)

  pub spot_line : (len ≡ 0 → ⊥) → {start : ℕ} → start ≡ start_in b (r - 1)
      → Spot t (find k hs) (Some (record { start = start; len = len }))
  spot_line z {start} es =
      let p : 0 < r = some-before b r len el z in
      let l : r - 1 < f.count = omega arith in
      let st : start ≡ start_in a (r - 1) = es ∙ sym (ap (λ (v : Row). v.start) (agree (r - 1) l)) in
      let w : start_in a (r - 1) + len_in a (r - 1) ≤ length t
      = subst (λ (c : Bool). start_in a (r - 1) + len_in a (r - 1) ≤ length (pick c t []))
      (lt-ltb (r - 1) f.count l) (x.tabled.inside (r - 1) l) in
      there _
      (ap (find k) x.tabled.is ∙ one p ∙ find_here (r - 1) (at_key p) (λ y. z (len_is p ∙ y))
      ∙ ap (λ (c : Bool). some (take (len_in a (r - 1)) (drop (start_in a (r - 1)) (pick c t []))))
      (lt-ltb (r - 1) f.count l)
      ∙ ap₂ (λ (v q : ℕ). some (take v (drop q t))) (sym (len_is p)) (sym st))
      refl (omega (arith, w, len_is p, st))

-- ---- a key written down under number n

module _ {a : List Row} {heads : List ℕ} {links : List Link} {n : ℕ} (k : Key) (p : Ready a heads links n) {b : List Row}
    (eb : b ≡ row_put a n k 0 0) where
  pub put_agree : Agree a b n
  put_agree j m = sym (ap (λ (v : List Row). row_in v j) eb ∙ row_other a n k 0 0 j (λ z. omega arith))

  pub put_ready : Ready b heads links n
  put_ready = record {
    few = omega (arith, p.few, ap length eb, put_long a n k 0 0);
    chained = chained_agree (key_in a) (key_in b) n (λ j m. ap row_key (put_agree j m)) heads links
        p.chained;
  }

  pub put_new : key_in b n ≡ k
  put_new = ap (λ (v : List Row). key_in v n) eb ∙ ap row_key (row_same a n k 0 0 p.few)

-- ---- what a look-up says

module _ (k : Key) (i t : List ℕ) where
  pub sees_unsound : known (content i t) ≡ false → Sees t (look_by k i t) (Err L.Unsound)
  sees_unsound e = subst (λ (x : Looked). Sees t x (Err L.Unsound)) (sym (look_unsound k i t e))
      (record { how = refl; within = tt; line = refl })

  sees_spot : (c : Content) → content i t ≡ some c → (r : Optional Part) → Spot t (find k c.held) r
      → Sees t (look_by k i t) (Ok r)
  unfolding look_by
  sees_spot c e r s = subst (λ (o : Option Content). Sees t (looked_at k o) (Ok r)) (sym e) (go s)
    where
      go : Spot t (find k c.held) r → Sees t (looked_in (find k c.held)) (Ok r)
      go (nowhere q z) =
          subst (λ (o : Option (List ℕ)). Sees t (looked_in o) (Ok r)) (sym q)
          (subst (λ (v : Optional Part). Sees t nothing (Ok v)) (sym z) (record { how = refl; within = tt; line = refl }))
      go (there p q z w) =
          subst (λ (o : Option (List ℕ)). Sees t (looked_in o) (Ok r)) (sym q)
          (subst (λ (v : Optional Part). Sees t (store.found (take p.len (drop p.start t))) (Ok v)) (sym z)
          (record { how = refl; within = w; line = refl }))

-- the lines of a sound store are in their chains, and the key's chain tells the line that is held
module _ {N : ℕ} {i t : List ℕ} {l : Ledger N} {s : Stock} (w : Stocks i t l s) where
  pub stock_ready : Ready l.table.rows l.table.heads l.table.links s.fill.count
  stock_ready =
      let x = stock_rows i t l s w in
      record { few = w.loads.1; chained = x.chained }

  pub sees_stock : (k : Key) (r : Optional Part) → Spots l.table.rows l.table.heads l.table.links s.fill k r
      → Sees t (look_by k i t) (Ok r)
  sees_stock k r p =
      let h : Holds i t l.shares s.front = stock_holds i t l s w in
      sees_spot k i t h.all h.is r (p (drop s.front i) t _ h.all.held (λ j m. refl) (stock_rows i t l s w))
