-- The keys written down are those of the lines that lie in the index: apart exactly when the lines are distinct.
-- Assumes nothing.
use mathlib.Core.Bool.{Bool, true, false, not, ◌||◌}
use mathlib.Core.List.{List, [], ◌∷◌}
use mathlib.Core.Path.{◌≡◌, refl, sym, ap, ◌∙◌, subst}
use Prim.Native.Nat.{ℕ, zero, suc, ◌+◌, ◌≤◌, ◌<◌}
use native.Mathlib.Omega.{arith}
use lib.ListN.{length, drop}
use borrow.Author.Count.{below_more}
use Rattle.store.specs.declared.rows.Row.{Row}
use Rattle.store.specs.declared.records.Head.{Head}
use Rattle.store.specs.Decode.{head_at}
use Rattle.store.specs.Held.{Key, Held, same_key, holds, distinct}
use Rattle.store.specs.Inner.{Lies, Once}
use Rattle.store.specs.Keys.{key_of, Lists, AllApart, Twice, Tells}
use Rattle.store.specs.Rows.{key_in, row_put, row_key}
use Rattle.store.proofs.BoolLaws.{and_both, and_false_left, and_false_right, or_false}
use Rattle.store.proofs.HeldLaws.{same_refl, same_eq}
use Rattle.store.proofs.RowLaws.{Rest, first, Onward, ended, stands, onward, size_not, next_within}
use Rattle.store.proofs.WriteLaws.{row_same, row_other}

-- ---- distinct lines, by their numbers

holds-none : (u : Key) (hs : List Held) → ((k : ℕ) → k < length hs → key_of hs k ≡ u → ⊥) → holds u hs ≡ false
unfolding holds key_of
holds-none u [] f = refl
holds-none u (h ∷ hs) f =
    or_false _ _ (go (same_key u h.key) refl) (holds-none u hs (λ k l e. f (suc k) (omega arith) e))
  where
    go : (b : Bool) → same_key u h.key ≡ b → b ≡ false
    go true e = absurd (f zero (omega arith) (sym (same_eq u h.key e)))
    go false e = refl

holds-some : (u : Key) (hs : List Held) (k : ℕ) → k < length hs → key_of hs k ≡ u → holds u hs ≡ true
unfolding holds key_of
holds-some u [] k l e = absurd (omega arith)
holds-some u (h ∷ hs) zero l e =
    ap (λ (b : Bool). b || holds u hs) (subst (λ (x : Key). same_key u x ≡ true) (sym e) (same_refl u))
holds-some u (h ∷ hs) (suc k) l e =
    ap (λ (b : Bool). same_key u h.key || b) (holds-some u hs k (omega arith) e) ∙ or_true (same_key u h.key)
  where
    or_true : (b : Bool) → b || true ≡ true
    or_true true = refl
    or_true false = refl

apart_distinct : (hs : List Held) → AllApart (key_of hs) (length hs) → distinct hs ≡ true
unfolding distinct key_of
apart_distinct [] f = refl
apart_distinct (h ∷ hs) f =
    and_both _ _ (ap not (holds-none h.key hs (λ k l e. f zero (suc k) (omega arith) (omega arith) (sym e))))
    (apart_distinct hs (λ a b l m e. f (suc a) (suc b) (omega arith) (omega arith) e))

twice_distinct : (hs : List Held) (a b : ℕ) → a < b → b < length hs → key_of hs a ≡ key_of hs b → distinct hs ≡ false
unfolding distinct key_of
twice_distinct [] a b l m e = absurd (omega arith)
twice_distinct (h ∷ hs) a zero l m e = absurd (omega arith)
twice_distinct (h ∷ hs) zero (suc b) l m e =
    and_false_left _ _ (ap not (holds-some h.key hs b (omega arith) (sym e)))
twice_distinct (h ∷ hs) (suc a) (suc b) l m e =
    and_false_right (not (holds h.key hs)) _ (twice_distinct hs a b (omega arith) (omega arith) e)

module _ (i : List ℕ) (K : ℕ → Key) (n : ℕ) (w : Lists i K n) where
  pub apart_once : AllApart K n → Once i true
  apart_once f off hs l =
      let z : n ≡ length hs = (w off hs l).0 in
      sym (apart_distinct hs (λ a b x y e. f a b x (omega arith)
      ((w off hs l).1 a (omega arith) ∙ e ∙ sym ((w off hs l).1 b (omega arith)))))

  pub twice_once : Twice K n → Once i false
  twice_once t off hs l =
      let z : n ≡ length hs = (w off hs l).0 in
      let x : t.a < n = omega (arith, t.less, t.below) in
      sym (twice_distinct hs t.a t.b t.less (omega (arith, t.below))
      (sym ((w off hs l).1 t.a x) ∙ t.same ∙ (w off hs l).1 t.b t.below))

  pub tells_once : (r : Bool) → Tells K n r → Once i r
  tells_once true t = apart_once (t.0 refl)
  tells_once false t = twice_once (t.1 refl)

-- ---- the keys that `survey` writes down

-- the keys of the first n lines are written down; the rest of the lines lies from `at` on
pub record Lists' (i : List ℕ) (at : ℕ) (K : ℕ → Key) (n : ℕ) (hs : List Held) : Type 0 where
  pub rest : Rest i at
  pub count : length hs ≡ n + length rest.hs
  pub done : (k : ℕ) → k < n → K k ≡ key_of hs k
  pub behind : (k : ℕ) → key_of hs (n + k) ≡ key_of rest.hs k

pub record Listing (i : List ℕ) (at : ℕ) (a : List Row) (n : ℕ) : Type 0 where
  pub within : at ≤ length i
  pub lists : (off : ℕ) (hs : List Held) → Lies off hs i → Lists' i at (key_in a) n hs

pub list_first : (i : List ℕ) (a : List Row) → Listing i 0 a 0
list_first i a = record {
  within = omega arith;
  lists = λ off hs l. record {
    rest = first i off hs l;
    count = omega arith;
    done = λ k h. absurd (omega arith);
    behind = λ k. let e : 0 + k ≡ k = omega arith in ap (key_of hs) e;
  };
}

module _ (i : List ℕ) (at : ℕ) (a : List Row) (n : ℕ) (w : Listing i at a n) (head : Head)
    (e : head ≡ head_at (drop at i)) where
  pub list_end : head.size ≡ 0 → Lists i (key_in a) n
  list_end z off hs l = go (w.lists off hs l) (onward i at head e (w.lists off hs l).rest)
    where
      go : (x : Lists' i at (key_in a) n hs) → Onward i at head e x.rest
          → (n ≡ length hs) × ((k : ℕ) → k < n → key_in a k ≡ key_of hs k)
      go x (ended q y) = (let c : length x.rest.hs ≡ 0 = ap length q in omega (arith, x.count), x.done)
      go x (stands h ks q y l') = absurd (size_not i at head e x.rest.off h y z)

  -- the keys with one more written down
  abbrev K' : ℕ → Key
  K' k = key_in (row_put a n head.key head.off head.len) k

  pub list_turn : (head.size ≡ 0 → ⊥) → n < length a
      → Listing i (at + head.size) (row_put a n head.key head.off head.len) (n + 1)
  list_turn z m = record {
    within = next_within i at head e w.within;
    lists = λ off hs l. go hs (w.lists off hs l) (onward i at head e (w.lists off hs l).rest);
  }
    where
      old : (k : ℕ) → k < n → K' k ≡ key_in a k
      old k l = ap row_key (row_other a n head.key head.off head.len k (λ q. omega arith))

      new : K' n ≡ head.key
      new = ap row_key (row_same a n head.key head.off head.len m)

      go : (hs : List Held) (x : Lists' i at (key_in a) n hs) → Onward i at head e x.rest
          → Lists' i (at + head.size) (key_in (row_put a n head.key head.off head.len)) (n + 1) hs
      go hs x (ended q y) = absurd (z y)
      go hs x (stands h ks q y l) =
          let here : key_of hs n ≡ head.key
          = (let o : n ≡ n + 0 = omega arith in ap (key_of hs) o) ∙ x.behind 0
          ∙ ap (λ (r : List Held). key_of r 0) q ∙ unfold key_of in (ap (λ (v : Head). v.key) (sym y)) in
          record {
            rest = record { off = x.rest.off + length h.line; hs = ks; lies = l };
            count = let c : length x.rest.hs ≡ suc (length ks) = ap length q in omega (arith, x.count);
            done = below_more (λ (k : ℕ). K' k ≡ key_of hs k) n (λ k h'. old k h' ∙ x.done k h') (new ∙ sym here);
            behind = λ k. let o : n + 1 + k ≡ n + suc k = omega arith in
                ap (key_of hs) o ∙ x.behind (suc k) ∙ ap (λ (r : List Held). key_of r (suc k)) q ∙ unfold key_of in refl;
          }
