-- A key struck out by number: the row before with its key gives nothing any more, and a new row gives the new line. And
-- rows that differ in none of those that are counted give the same lines.
-- Assumes nothing.
use mathlib.Core.Bool.{Bool, true, false}
use mathlib.Core.List.{List, [], ◌∷◌}
use mathlib.Core.Logic.{◌⊎◌, inl, inr, ⊎_elim}
use mathlib.Core.Path.{◌≡◌, refl, sym, ap, ◌∙◌, subst}
use Prim.Native.Nat.{ℕ, ◌+◌, ◌-◌, ◌≤◌, ◌<◌}
use native.Mathlib.Omega.{arith}
use lib.Dec.{eqb, ltb}
use lib.ListN.{length}
use borrow.Author.Tests.{eqb-true, eqb-false, ltb-true, ltb-false}
use Rattle.text.specs.Bytes.{pick}
use Rattle.store.specs.declared.chains.Link.{Link}
use Rattle.store.specs.declared.rows.Row.{Row}
use Rattle.store.specs.declared.table.Fill.{Fill}
use Rattle.store.specs.Decode.{decode}
use Rattle.store.specs.Held.{Key, Held, same_key, strike}
use Rattle.store.specs.Keys.{Sought}
use Rattle.store.specs.Layout.{texts}
use Rattle.store.specs.Rows.{row_in, key_in, start_in, len_in, row_put, len_put, put_before, row_key, row_of}
use Rattle.store.specs.Table.{living, source_of, held_at, line_at, Whole, Tabled, InRows, Begins}
use Rattle.store.proofs.HeldLaws.{same_refl, same_eq}
use Rattle.store.proofs.LivingLaws.{gives_none}
use Rattle.store.proofs.RowLaws.{texts-none}
use Rattle.store.proofs.TableLaws.{living-same, living_most, strike-living, gives_same, gives_other}
use Rattle.store.proofs.WriteLaws.{put_long, row_same, row_other, len_long, len_same, len_other}

-- rows that are the same, as far as they are counted
pub tabled_same : {i t s : List ℕ} {a : List Row} {old c : ℕ} {hs : List Held} → Tabled i t s a old c hs
    → (b : List Row) → length b ≡ length a → ((k : ℕ) → k < c → row_in b k ≡ row_in a k) → Tabled i t s b old c hs
tabled_same {i} {t} {s} {a} {old} {c} {hs} T b m e = record {
  is = T.is ∙ living-same (line_at t s a old) (line_at t s b old) c (λ k l. sym (gives k l));
  inside = λ k l. omega (arith, T.inside k l, ap (λ (r : Row). r.len) (e k l), ap (λ (r : Row). r.start) (e k l));
  ahead = λ k l. omega (
    arith,
    T.ahead k l,
    ap (λ (r : Row). r.start) (e k (omega (arith, T.olds))),
    ap (λ (q : List Held). length (texts q)) (living-same (line_at t s b old) (line_at t s a old) k
        (λ j p. gives j (omega (arith, T.olds)))),
  );
  stands = λ k l z. subst (λ (v : List Held). Begins (decode i t) v)
      (living-same (line_at t s a old) (line_at t s b old) k (λ j p. sym (gives j (omega (arith, T.olds)))))
      (T.stands k l (λ j p o. z j p (ap (λ (r : Row). r.len) (e j (omega (arith, T.olds))) ∙ o)));
  olds = T.olds;
  most = omega (arith, T.most, m);
  good = T.good;
}
  where
    gives : (k : ℕ) → k < c → line_at t s b old k ≡ line_at t s a old k
    gives k l = gives_same t s a b old k (e k l)

same_or : (k j : ℕ) → (k ≡ j) ⊎ (k ≡ j → ⊥)
same_or k j = go (eqb k j) refl
  where
    go : (b : Bool) → eqb k j ≡ b → (k ≡ j) ⊎ (k ≡ j → ⊥)
    go true e = inl (eqb-true k j e)
    go false e = inr (eqb-false k j e)

-- a number that gives one line or none, struck out
strike-given : (u : Key) (h : Held) (b : Bool) → (b ≡ false → same_key u h.key ≡ false)
    → strike u (pick b [] (h ∷ [])) ≡ pick b [] (h ∷ [])
unfolding strike
strike-given u h true e = refl
strike-given u h false e = ap (λ (c : Bool). pick c [] (h ∷ [])) (e refl)

strike_gone : (u : Key) (h : Held) (b : Bool) → same_key u h.key ≡ true → strike u (pick b [] (h ∷ [])) ≡ []
unfolding strike
strike_gone u h true e = refl
strike_gone u h false e = ap (λ (c : Bool). pick c [] (h ∷ [])) e

module _ {i t s : List ℕ} {a : List Row} {heads : List ℕ} {links : List Link} {old : ℕ} {f : Fill} {hs : List Held}
    (x : InRows i t s a heads links old f hs) (u : Key) (start len : ℕ) (cl : f.count < length a)
  where
    abbrev a' : List Row
    a' = row_put a f.count u start len

    abbrev K : ℕ → Key
    K k = key_in a k

    abbrev K' : ℕ → Key
    K' k = key_in a' k

    abbrev S : ℕ → List Held
    S k = line_at t s a old k

    pub row_before : (k : ℕ) → k < f.count → row_in (row_put a f.count u start len) k ≡ row_in a k
    row_before k l = row_other a f.count u start len k (λ z. omega arith)

    pub row_new : row_in (row_put a f.count u start len) f.count ≡ row_of u start len
    row_new = row_same a f.count u start len cl

    pub key_before : (k : ℕ) → k < f.count → key_in (row_put a f.count u start len) k ≡ key_in a k
    key_before k l = ap row_key (row_before k l)

    pub key_new : key_in (row_put a f.count u start len) f.count ≡ u
    key_new = ap row_key row_new

    pub start_before : (k : ℕ) → k < f.count → start_in (row_put a f.count u start len) k ≡ start_in a k
    start_before k l = ap (λ (r : Row). r.start) (row_before k l)

    gives-before : (k : ℕ) → k < f.count → line_at t s a' old k ≡ S k
    gives-before k l = gives_other t s a old f.count u start len k (λ z. omega arith)

    -- the rows without the row before with the same key, if there is one
    pub data Before (b : List Row) : Type 0 where
      none : ((k : ℕ) → k < f.count → key_in a k ≡ u → ⊥) → b ≡ row_put a f.count u start len → Before b
      one : (j : ℕ) → j < f.count → key_in a j ≡ u → ((k : ℕ) → j < k → k < f.count → key_in a k ≡ u → ⊥)
          → b ≡ len_put (row_put a f.count u start len) j 0 → Before b

    pub before : (r : ℕ) → Sought (key_in (row_put a f.count u start len)) f.count r → r ≤ f.count
        → Before (put_before (row_put a f.count u start len) r 0)
    before r q l = go (eqb r 0) refl
      where
        go : (b : Bool) → eqb r 0 ≡ b → Before (pick b a' (len_put a' (r - 1) 0))
        go true e =
            let z : r ≡ 0 = eqb-true r 0 e in
            none (λ k p v. q.clear l k (omega arith) p (key_before k p ∙ v ∙ sym key_new)) refl
        go false e =
            let z : r ≡ 0 → ⊥ = eqb-false r 0 e in
            let p : 0 < r = omega arith in
            one (r - 1) (omega arith) (sym (key_before (r - 1) (omega arith)) ∙ q.hit p l ∙ key_new)
            (λ k o v y. q.clear l k (omega arith) v (key_before k v ∙ y ∙ sym key_new)) refl

    not_same : (k : ℕ) → (K k ≡ u → ⊥) → same_key u (K k) ≡ false
    not_same k g = go (same_key u (K k)) refl
      where
        go : (b : Bool) → same_key u (K k) ≡ b → b ≡ false
        go true e = absurd (g (sym (same_eq u (K k) e)))
        go false e = refl

    -- what a number gives, when the key is struck out
    stays : (k : ℕ) → (K k ≡ u → ⊥) → strike u (S k) ≡ S k
    unfolding line_at
    stays k g = strike-given u (held_at t s a old k) (eqb (len_in a k) 0) (λ e. not_same k g)

    stays_gone : (k : ℕ) → len_in a k ≡ 0 → strike u (S k) ≡ S k
    unfolding line_at
    stays_gone k z = strike-given u (held_at t s a old k) (eqb (len_in a k) 0)
        (λ e. absurd (eqb-false (len_in a k) 0 e z))

    stays_if : (k : ℕ) → (K k ≡ u → len_in a k ≡ 0) → strike u (S k) ≡ S k
    stays_if k g = go (same_key u (K k)) refl
      where
        go : (b : Bool) → same_key u (K k) ≡ b → strike u (S k) ≡ S k
        go true e = stays_gone k (g (sym (same_eq u (K k) e)))
        go false e = unfold line_at in (strike-given u (held_at t s a old k) (eqb (len_in a k) 0) (λ v. e))

    goes : (k : ℕ) → K k ≡ u → strike u (S k) ≡ []
    unfolding line_at
    goes k e = strike_gone u (held_at t s a old k) (eqb (len_in a k) 0)
        (subst (λ (v : Key). same_key u v ≡ true) (sym e) (same_refl u))

    -- the key struck out
    module _ (b : List Row) where
      abbrev S'' : ℕ → List Held
      S'' k = line_at t s b old k

      pub record Struck : Type 0 where
        pub lines : strike u hs ≡ living (line_at t s b old) f.count
        pub keys : (k : ℕ) → k < f.count + 1 → key_in (row_put a f.count u start len) k ≡ key_in b k
        pub starts : (k : ℕ) → k < f.count → start_in b k ≡ start_in a k
        pub either : (k : ℕ) → k < f.count → (len_in b k ≡ 0) ⊎ (row_in b k ≡ row_in a k)
        pub last : row_in b f.count ≡ row_of u start len
        pub long : length b ≡ length a
        pub once : (j : ℕ) → j < f.count → key_in a j ≡ u → len_in b j ≡ 0

      pub struck : Before b → Struck
      struck (none g el) =
          let same : (k : ℕ) → row_in b k ≡ row_in a' k = λ k. ap (λ (v : List Row). row_in v k) el in
          let is : strike u hs ≡ hs
          = ap (strike u) x.tabled.is ∙ strike-living u S f.count
          ∙ living-same _ S f.count (λ k l. stays k (g k l)) ∙ sym x.tabled.is in
          record {
            lines = is ∙ x.tabled.is ∙ living-same S S'' f.count
                (λ k l. sym (gives_same t s a' b old k (same k) ∙ gives-before k l));
            keys = λ k l. sym (ap row_key (same k));
            starts = λ k l. ap (λ (v : Row). v.start) (same k ∙ row_before k l);
            either = λ k l. inr (same k ∙ row_before k l);
            last = same f.count ∙ row_new;
            long = ap length el ∙ put_long a f.count u start len;
            once = λ j l e. absurd (g j l e);
          }
      struck (one j jl ej g el) = record {
        lines = strikes;
        keys = λ k l. sym (⊎_elim
            (λ e. ap (λ (v : ℕ). key_in b v) e ∙ ap row_key gone ∙ ap (λ (v : ℕ). K' v) (sym e))
            (λ e. ap row_key (other k e)) (same_or k j));
        starts = λ k l. ⊎_elim
            (λ e. ap (λ (v : ℕ). start_in b v) e ∙ ap (λ (v : Row). v.start) gone ∙ start_before j jl
            ∙ ap (λ (v : ℕ). start_in a v) (sym e))
            (λ e. ap (λ (v : Row). v.start) (other k e ∙ row_before k l)) (same_or k j);
        either = λ k l. ⊎_elim (λ e. inl (ap (λ (v : ℕ). len_in b v) e ∙ ap (λ (v : Row). v.len) gone))
            (λ e. inr (other k e ∙ row_before k l))
            (same_or k j);
        last = other f.count (λ e. omega arith) ∙ row_new;
        long = ap length el ∙ len_long a' j 0 ∙ put_long a f.count u start len;
        once = λ k l e. ⊎_elim (λ v. ap (λ (y : ℕ). len_in b y) v ∙ ap (λ (y : Row). y.len) gone)
            (λ v. ap (λ (y : Row). y.len) (other k v ∙ row_before k l) ∙ struck_before_lem k l v e) (same_or k j);
      }
        where
          other : (k : ℕ) → (k ≡ j → ⊥) → row_in b k ≡ row_in a' k
          other k e = ap (λ (v : List Row). row_in v k) el ∙ len_other a' j 0 k e

          gone : row_in b j ≡ row_of (key_in a' j) (start_in a' j) 0
          gone = ap (λ (v : List Row). row_in v j) el
              ∙ len_same a' j 0 (omega (arith, put_long a f.count u start len, cl, jl))

          nothing : S'' j ≡ []
          nothing = gives_none t s b old j (ap (λ (v : Row). v.len) gone)

          rest : (k : ℕ) → k < f.count → (k ≡ j → ⊥) → S'' k ≡ S k
          rest k l e = gives_same t s a' b old k (other k e) ∙ gives-before k l

          struck_before_lem : (k : ℕ) → k < f.count → (k ≡ j → ⊥) → K k ≡ u → len_in a k ≡ 0
          struck_before_lem k l n e = go (ltb k j) refl
            where
              go : (b : Bool) → ltb k j ≡ b → len_in a k ≡ 0
              go true v = x.older k j (ltb-true k j v) jl (e ∙ sym ej)
              go false v = let o : j ≤ k = ltb-false k j v in absurd (g k (omega arith) l e)

          each : (k : ℕ) → k < f.count → strike u (S k) ≡ S'' k
          each k l = ⊎_elim
              (λ e. ap (λ (v : ℕ). strike u (S v)) e ∙ goes j ej ∙ sym (ap (λ (v : ℕ). S'' v) e ∙ nothing))
              (λ e. stays_if k (struck_before_lem k l e) ∙ sym (rest k l e)) (same_or k j)

          strikes : strike u hs ≡ living S'' f.count
          strikes = ap (strike u) x.tabled.is ∙ strike-living u S f.count ∙ living-same _ S'' f.count each

      -- what is left
      module _ (y : Struck) where
        -- a row that is not struck out is as it was
        intact : (k : ℕ) → k < f.count → (len_in b k ≡ 0 → ⊥) → row_in b k ≡ row_in a k
        intact k l z = ⊎_elim (λ e. absurd (z e)) (λ e. e) (y.either k l)

        shorter : (k : ℕ) → k < f.count → len_in b k ≤ len_in a k
        shorter k l = ⊎_elim (λ e. omega (arith, e)) (λ e. omega (arith, ap (λ (r : Row). r.len) e))
            (y.either k l)

        given_least : (k : ℕ) → k < f.count → length (texts (S'' k)) ≤ length (texts (S k))
        given_least k l = ⊎_elim
            (λ e. omega (arith, ap (λ (v : List Held). length (texts v)) (gives_none t s b old k e), texts-none))
            (λ e. omega (arith, ap (λ (v : List Held). length (texts v)) (gives_same t s a b old k e)))
            (y.either k l)

        pub inside_still : (k : ℕ) → k < f.count → start_in b k + len_in b k ≤ length (source_of t s old k)
        inside_still k l = omega (arith, y.starts k l, x.tabled.inside k l, shorter k l)

        pub ahead_still : (k : ℕ) → k < old → length (texts (living (line_at t s b old) k)) ≤ start_in b k
        ahead_still k l = omega (
          arith,
          x.tabled.ahead k l,
          y.starts k (omega (arith, x.tabled.olds)),
          living_most S S'' k (λ j p. given_least j (omega (arith, x.tabled.olds))),
        )

        pub stands_still : (k : ℕ) → k ≤ old → Whole b k → Begins (decode i t) (living (line_at t s b old) k)
        stands_still k l z = subst (λ (q : List Held). Begins (decode i t) q)
            (living-same S S'' k (λ j p. sym (gives_same t s a b old j
            (intact j (omega (arith, x.tabled.olds)) (z j p)))))
            (x.tabled.stands k l
            (λ j p e. z j p (ap (λ (r : Row). r.len) (intact j (omega (arith, x.tabled.olds)) (z j p)) ∙ e)))
