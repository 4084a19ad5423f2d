-- Uses by rows: what the rows of a table add up to is what the lines that they give take, and the turns of the loops
-- that add up uses and claims.
-- Assumes nothing.
use Rattle.store.proofs.BookLaws.{owners_below}
use mathlib.Core.Bool.{Bool, true, false}
use mathlib.Core.Option.{some}
use mathlib.Core.List.{List, [], ◌∷◌, ◌++◌}
use mathlib.Core.Path.{◌≡◌, refl, sym, ap, ap₂, ◌∙◌, subst}
use Prim.Native.Nat.{ℕ, zero, suc, ◌+◌, ◌-◌, ◌*◌, ◌≤◌, ◌<◌}
use native.Mathlib.Nat.{zero-add, add-zero, add_assoc}
use native.Mathlib.Numerals.{add-one}
use native.Mathlib.Omega.{arith}
use lib.Dec.{eqb}
use lib.ListN.{length, get_or, set, take, drop, length-replicate, get_or-replicate, length-set, length-take}
use lib.Seq.{get_or-set_same, get_or-set_other, get_or-take, drop-cons, drop-length}
use borrow.Author.Count.{below_more}
use borrow.Author.Tests.{eqb-true, eqb-false, eq-eqb, ne_eqb}
use Rattle.text.specs.Bytes.{pick}
use Rattle.store.specs.declared.chains.Link.{Link}
use Rattle.store.specs.declared.rows.Row.{Row}
use Rattle.store.specs.declared.claims.Dues.{Dues}
use Rattle.store.specs.declared.table.Fill.{Fill}
use Rattle.store.specs.Held.{Held, text_max}
use Rattle.store.specs.Decode.{decode}
use Rattle.store.specs.Inner.{lengths, known}
use Rattle.store.specs.Layout.{Given, Bytes, texts}
use Rattle.store.specs.Rows.{row_in, key_in, len_in, unused}
use Rattle.store.specs.Shares.{owners, no_shares, use_of, larger, claims_from, claims}
use Rattle.store.specs.Claims.{not_of, OwnersBelow, Owed, Uses, row_lengths, row_use, Addable, Adds, Sums, Covers}
use Rattle.store.specs.Claims.{DuesFrom}
use Rattle.store.specs.Table.{living, held_at, line_at, Tabled, InRows, Loads}
use Rattle.store.proofs.ClaimLaws.{larger_most, larger-none, use_own, owners_swap, claims_swap, none-lengths}
use Rattle.store.proofs.ClaimLaws.{lengths_least, lengths-texts}
use Rattle.store.proofs.DecodeLaws.{laid, lines_of_lem}
use Rattle.store.proofs.LivingLaws.{gives_none, gives-some, line_long}
use Rattle.store.proofs.RowLaws.{texts_sum, texts_cons, texts-none}

-- ---- rows that give lines

use_append : (q : ℕ) (hs ks : List Held) → use_of q (hs ++ ks) ≡ use_of q hs + use_of q ks
unfolding use_of
use_append q [] ks = sym (zero-add (use_of q ks))
use_append q (h ∷ hs) ks =
    ap (λ (x : ℕ). pick (eqb h.key.owner q) (length h.line) 0 + x) (use_append q hs ks)
    ∙ sym (add_assoc (pick (eqb h.key.owner q) (length h.line) 0) (use_of q hs) (use_of q ks))

use_none : (q : ℕ) → use_of q [] ≡ 0
unfolding use_of
use_none q = refl

use_one : (q : ℕ) (h : Held) → use_of q (h ∷ []) ≡ pick (eqb h.key.owner q) (length h.line) 0
unfolding use_of
use_one q h = add-zero _

pick_same : (b : Bool) (x : ℕ) → x ≡ 0 → pick b x 0 ≡ 0
pick_same true x e = e
pick_same false x e = refl

module _ {i t s : List ℕ} {a : List Row} {old c : ℕ} {hs : List Held} (T : Tabled i t s a old c hs) where
  abbrev S : ℕ → List Held
  S = line_at t s a old

  row_use_lem : (q k : ℕ) → k < c → use_of q (line_at t s a old k) ≡ pick (eqb (key_in a k).owner q) (len_in a k) 0
  row_use_lem q k l = go (eqb (len_in a k) 0) refl
    where
      go : (b : Bool) → eqb (len_in a k) 0 ≡ b
          → use_of q (line_at t s a old k) ≡ pick (eqb (key_in a k).owner q) (len_in a k) 0
      go true e =
          let z : len_in a k ≡ 0 = eqb-true (len_in a k) 0 e in
          ap (use_of q) (gives_none t s a old k z) ∙ use_none q
          ∙ sym (pick_same (eqb (key_in a k).owner q) (len_in a k) z)
      go false e =
          let n : len_in a k ≡ 0 → ⊥ = eqb-false (len_in a k) 0 e in
          ap (use_of q) (gives-some t s a old k n) ∙ use_one q (held_at t s a old k)
          ∙ ap (λ (x : ℕ). pick (eqb (key_in a k).owner q) x 0) (line_long T k l n)

  living_use : (q n : ℕ) → n ≤ c → row_use q a n ≡ use_of q (living (line_at t s a old) n)
  unfolding living row_use
  living_use q zero l = sym (use_none q)
  living_use q (suc n) l =
      ap₂ (λ (x y : ℕ). x + y) (living_use q n (omega arith)) (sym (row_use_lem q n (omega arith)))
      ∙ sym (use_append q (living S n) (S n))

  pub tabled_use : (q : ℕ) → row_use q a c ≡ use_of q hs
  tabled_use q = living_use q c (omega arith) ∙ ap (use_of q) (sym T.is)

  living-lengths : (n : ℕ) → n ≤ c → row_lengths a n ≡ length (texts (living (line_at t s a old) n))
  unfolding living row_lengths
  living-lengths zero l = sym texts-none
  living-lengths (suc n) l =
      ap (λ (x : ℕ). x + len_in a n) (living-lengths n (omega arith))
      ∙ ap (λ (x : ℕ). length (texts (living S n)) + x) (sym (given n (omega arith)))
      ∙ sym (texts_sum (living S n) (S n))
    where
      given : (k : ℕ) → k < c → length (texts (line_at t s a old k)) ≡ len_in a k
      given k l = go (eqb (len_in a k) 0) refl
        where
          go : (b : Bool) → eqb (len_in a k) 0 ≡ b → length (texts (line_at t s a old k)) ≡ len_in a k
          go true e =
              let z : len_in a k ≡ 0 = eqb-true (len_in a k) 0 e in
              ap (λ (v : List Held). length (texts v)) (gives_none t s a old k z) ∙ texts-none ∙ sym z
          go false e =
              let n : len_in a k ≡ 0 → ⊥ = eqb-false (len_in a k) 0 e in
              ap (λ (v : List Held). length (texts v)) (gives-some t s a old k n)
              ∙ texts_cons (held_at t s a old k) []
              ∙ omega (arith, texts-none, line_long T k l n)

  pub tabled_lengths : row_lengths a c ≡ lengths hs
  tabled_lengths = living-lengths c (omega arith) ∙ ap (λ (v : List Held). length (texts v)) (sym T.is)
      ∙ sym (lengths-texts hs)

  pub tabled_addable : length t ≤ text_max → Addable a c
  tabled_addable m = record {
    most = T.most;
    fit = omega (arith, tabled_lengths, lengths-texts hs, T.good.text);
  }

-- ---- the loop of `add_uses`

pub row_use_most : (q : ℕ) (a : List Row) (n : ℕ) → row_use q a n ≤ row_lengths a n
unfolding row_use row_lengths
row_use_most q a zero = omega arith
row_use_most q a (suc n) = go (eqb (key_in a n).owner q) (row_use_most q a n)
  where
    go : (b : Bool) → row_use q a n ≤ row_lengths a n
        → row_use q a n + pick b (len_in a n) 0 ≤ row_lengths a n + len_in a n
    go true l = omega arith
    go false l = omega arith

row_more : (a : List Row) (k d n : ℕ) → n ≡ k + suc d → row_lengths a k + len_in a k ≤ row_lengths a n
unfolding row_lengths
row_more a k d zero e = absurd (omega arith)
row_more a k zero (suc n) e =
    let z : n ≡ k = omega arith in
    subst (λ (m : ℕ). row_lengths a k + len_in a k ≤ row_lengths a m + len_in a m) (sym z) (omega arith)
row_more a k (suc d) (suc n) e = omega (arith, row_more a k d n (omega arith))

-- the first k rows are added up
pub record Adding (a : List Row) (n : ℕ) (u : List ℕ) (k : ℕ) : Type 0 where
  pub within : k ≤ n
  pub adds : Adds a k u

module _ (a : List Row) (n : ℕ) (w : Addable a n) where
  pub add_first : (u : List ℕ) → u ≡ no_shares → Adding a n u 0
  unfolding row_use
  add_first u e = record {
    within = omega arith;
    adds = (
      ap length e ∙ length-replicate {A = ℕ} owners 0,
      λ o l. ap (λ (v : List ℕ). get_or v o 0) e ∙ get_or-replicate {A = ℕ} owners o 0 0 l,
    );
  }

  module _ (u : List ℕ) (k : ℕ) (x : Adding a n u k) (l : k < n) where
    -- a sum stays below the text's most bytes
    pub add_most : (o : ℕ) → o < owners → get_or u o 0 + len_in a k ≤ text_max
    add_most o b = omega (
      arith,
      x.adds.1 o b,
      row_use_most o a k,
      row_more a k (n - k - 1) n (omega arith),
      w.fit,
    )

    pub add_next : (o : ℕ) → o ≡ (key_in a k).owner → o < owners → (y : ℕ) → y ≡ len_in a k
        → Adding a n (set u o (get_or u o 0 + y)) (k + 1)
    add_next o e b y ey = subst (λ (v : ℕ). Adding a n (set u o (get_or u o 0 + v)) (k + 1)) (sym ey) (record {
      within = omega arith;
      adds = (length-set u o _ ∙ x.adds.0, λ q m. go q m (eqb q o) refl);
    })
      where
        next : (q : ℕ) → row_use q a (k + 1) ≡ row_use q a k + pick (eqb (key_in a k).owner q) (len_in a k) 0
        next q = ap (row_use q a) (add-one k) ∙ unfold row_use in refl

        go : (q : ℕ) → q < owners → (b : Bool) → eqb q o ≡ b
            → get_or (set u o (get_or u o 0 + len_in a k)) q 0 ≡ row_use q a (k + 1)
        go q m true z =
            let y : q ≡ o = eqb-true q o z in
            ap (λ (v : ℕ). get_or (set u o (get_or u o 0 + len_in a k)) v 0) y
            ∙ get_or-set_same u o (get_or u o 0 + len_in a k) 0 (omega (arith, x.adds.0))
            ∙ ap₂ (λ (v c : ℕ). v + c) (ap (λ (v : ℕ). get_or u v 0) (sym y) ∙ x.adds.1 q m)
            (sym (ap (λ (c : Bool). pick c (len_in a k) 0) (eq-eqb (key_in a k).owner q (sym (y ∙ e)))))
            ∙ sym (next q)
        go q m false z =
            let y : q ≡ o → ⊥ = eqb-false q o z in
            get_or-set_other u o q (get_or u o 0 + len_in a k) 0 y ∙ x.adds.1 q m
            ∙ sym (add-zero (row_use q a k))
            ∙ ap (λ (v : ℕ). row_use q a k + v)
            (sym (ap (λ (c : Bool). pick c (len_in a k) 0) (ne_eqb (key_in a k).owner q (λ v. y (sym (e ∙ v))))))
            ∙ sym (next q)

-- the same of row k where the first n rows are taken
module _ {a : List Row} {n : ℕ} (w : Addable a n) {u : List ℕ} {k : ℕ} (x : Adding a n u k)
    (h : k < length (take n a)) (b : (get_or (take n a) k unused).owner < owners) where
  less : k < n
  less = omega (arith, h, length-take n a)

  taken : get_or (take n a) k unused ≡ row_in a k
  taken = get_or-take n a k unused less

  pub taken_most : get_or u (get_or (take n a) k unused).owner 0 + (get_or (take n a) k unused).len ≤ text_max
  taken_most = omega (arith, ap (λ (r : Row). r.len) taken, add_most a n w u k x less _ b)

  pub taken_next : Adding a n (set u (get_or (take n a) k unused).owner
      (get_or u (get_or (take n a) k unused).owner 0 + (get_or (take n a) k unused).len)) (k + 1)
  taken_next =
      add_next a n w u k x less _ (ap (λ (r : Row). r.owner) taken) b _ (ap (λ (r : Row). r.len) taken)

-- a use is within the text's most bytes
pub use_most : (a : List Row) (n : ℕ) → Addable a n → (u : List ℕ) → Adds a n u → (o : ℕ) → o < owners
    → get_or u o 0 ≤ text_max
use_most a n w u x o l = omega (arith, x.1 o l, row_use_most o a n, w.fit)

-- 256 numbers of four bytes are shares, or uses
pub words_given : (g : List ℕ) → length g ≡ owners → ((o : ℕ) → get_or g o 0 < 4294967296) → Given g
words_given g e f = record { each = e; four = λ o. omega (arith, f o) }

-- those uses are the lines'
pub adds_uses : (a : List Row) (n : ℕ) (u : List ℕ) (hs : List Held) → Adds a n u
    → ((q : ℕ) → q < owners → row_use q a n ≡ use_of q hs) → Uses u hs
adds_uses a n u hs x f = (x.0, λ o l. x.1 o l ∙ f o l)

-- ---- the loop of `claims_of`

-- the claims of the owners below o are added up
pub record Summing (u g : List ℕ) (o sum : ℕ) : Type 0 where
  pub within : o ≤ owners
  pub most : sum ≤ o * 4294967295
  pub each : (q : ℕ) → q < o → larger (get_or u q 0) (get_or g q 0) ≤ sum
  pub is : (hs : List Held) → Uses u hs → sum + claims_from o (drop o g) hs ≡ claims g hs

module _ {u g : List ℕ} (gu : Given u) (gg : Given g) {o sum : ℕ} (w : Summing u g o sum) where
  pub sum_next : o < owners → {x : ℕ} → x ≡ larger (get_or u o 0) (get_or g o 0) → Summing u g (o + 1) (sum + x)
  sum_next l {x} e = record {
    within = omega arith;
    most = omega (arith, w.most, e, larger_most (get_or u o 0) (get_or g o 0) 4294967295 (gu.four o) (gg.four o));
    each = below_more (λ (q : ℕ). larger (get_or u q 0) (get_or g q 0) ≤ sum + x) o
        (λ q m. omega (arith, w.each q m)) (omega (arith, e));
    is = λ hs z. next hs z ∙ w.is hs z;
  }
    where
      next : (hs : List Held) → Uses u hs
          → sum + x + claims_from (o + 1) (drop (o + 1) g) hs ≡ sum + claims_from o (drop o g) hs
      next hs z =
          add_assoc sum x (claims_from (o + 1) (drop (o + 1) g) hs)
          ∙ ap (λ (v : ℕ). sum + v)
          (ap₂ (λ (v p : ℕ). v + claims_from p (drop p g) hs)
          (e ∙ ap (λ (v : ℕ). larger v (get_or g o 0)) (z.1 o l)) (add-one o)
          ∙ sym (ap (λ (v : List ℕ). claims_from o v hs) (drop-cons g o 0 (omega (arith, gg.each)))
          ∙ unfold claims_from in refl))

  pub sum_end : owners ≤ o → Sums u g sum × Covers u g sum
  sum_end l =
      let z : o ≡ owners = omega (arith, w.within) in (
        λ hs x. sym (add-zero sum) ∙ ap (λ (v : ℕ). sum + v) (none hs) ∙ w.is hs x,
        record { each = λ q m. w.each q (omega arith); most = omega (arith, w.most) },
      )
    where
      past : o ≡ length g → drop o g ≡ []
      past e = ap (λ (n : ℕ). drop n g) e ∙ drop-length g

      none : (hs : List Held) → 0 ≡ claims_from o (drop o g) hs
      none hs = sym (ap (λ (v : List ℕ). claims_from o v hs) (past (omega (arith, gg.each)))
          ∙ unfold claims_from in refl)

-- ---- `dues_of`

module _ (g : List ℕ) (o : ℕ) (hs : List Held) (gg : Given g) (b : OwnersBelow hs) (l : o < owners) where
  owed_used : (ks : List Held) → not_of o ks ≡ not_of o hs → lengths ks ≤ claims g ks
  owed_used ks e = lengths_least g ks gg.each (owners_swap o hs ks l e b)

  pub owed_shares : (d : Dues) → d.others + larger (use_of o hs) (get_or g o 0) ≡ claims g hs
      → d.theirs + use_of o hs ≡ lengths hs → d.share ≡ get_or g o 0 → d.others ≤ owners * 4294967295 → Owed g o hs d
  owed_shares d p q r m = record {
    each = gg.each;
    sum = λ ks e. sum ks e;
    least = λ ks e. omega (arith, own ks e);
    used = owed_used;
    others_most = m;
    share_most = omega (arith, r, gg.four o);
  }
    where
      own : (ks : List Held) → not_of o ks ≡ not_of o hs → d.theirs + use_of o ks ≡ lengths ks
      own ks e = omega (arith, q, use_own o hs, use_own o ks, ap lengths e)

      sum : (ks : List Held) → not_of o ks ≡ not_of o hs
          → d.others + larger (lengths ks - d.theirs) d.share ≡ claims g ks
      sum ks e =
          let u : lengths ks - d.theirs ≡ use_of o ks = omega (arith, own ks e) in
          ap₂ (λ (x y : ℕ). d.others + larger x y) u r
          ∙ omega (arith, p, claims_swap o g hs ks (omega (arith, gg.each)) e)

-- by rows, their uses u, the sum r of all claims and the claim x of the owner
pub dues_owed : (a : List Row) (g : List ℕ) (f : Fill) (o : ℕ) (u : List ℕ) (r x : ℕ) → Given g
    → Addable a f.count × (row_lengths a f.count ≤ f.used) → Adds a f.count u → Sums u g r → Covers u g r
    → x ≡ larger (get_or u o 0) (get_or g o 0) → o < owners
    → DuesFrom a f g o (record { others = r - x; theirs = f.used - get_or u o 0; share = get_or g o 0 })
dues_owed a g f o u r x gg w adds sums covers e l hs used uses b =
    let own : get_or u o 0 ≡ use_of o hs = adds.1 o l ∙ uses o l in
    let claim : x ≡ larger (use_of o hs) (get_or g o 0) = e ∙ ap (λ (v : ℕ). larger v (get_or g o 0)) own in
    owed_shares g o hs gg b l (record { others = r - x; theirs = f.used - get_or u o 0; share = get_or g o 0 })
    (omega (arith, claim, covers.each o l, e, sums hs (adds_uses a f.count u hs adds uses)))
    (omega (arith, own, used, use_own o hs)) refl (omega (arith, covers.most))

pub owed_none : (o : ℕ) (hs : List Held) → OwnersBelow hs → o < owners
    → Owed no_shares o hs (record { others = 0; theirs = 0; share = 0 })
owed_none o hs b l = record {
  each = length-replicate {A = ℕ} owners 0;
  sum = λ ks e.
      let z : lengths ks - 0 ≡ lengths ks = omega arith in
      zero-add _ ∙ ap (λ (x : ℕ). larger x 0) z ∙ larger-none (lengths ks)
      ∙ sym (none-lengths ks (owners_swap o hs ks l e b));
  least = λ ks e. omega arith;
  used = λ ks e. omega (arith, none-lengths ks (owners_swap o hs ks l e b));
  others_most = omega arith;
  share_most = omega arith;
}

-- what is owed is told by the lines of the others
pub owed_on : (g : List ℕ) (o : ℕ) (hs ks : List Held) (d : Dues) → not_of o ks ≡ not_of o hs → Owed g o hs d
    → Owed g o ks d
owed_on g o hs ks d e w = record {
  each = w.each;
  sum = λ js q. w.sum js (q ∙ e);
  least = λ js q. w.least js (q ∙ e);
  used = λ js q. w.used js (q ∙ e);
  others_most = w.others_most;
  share_most = w.share_most;
}

-- ---- the rows of a sound store

module _ (i t : List ℕ) (a : List Row) (heads : List ℕ) (links : List Link) (f : Fill) (loaded : Loads i a heads links f) where
  pub loads_addable : known (decode i t) ≡ true → Addable a f.count × (row_lengths a f.count ≤ f.used)
  loads_addable k =
      let q : (hs : List Held) × (decode i t ≡ some hs) = lines_of_lem (decode i t) k in
      let x : InRows i t [] a heads links f.count f q.0 = loaded t [] q.0 q.1 in (
        tabled_addable x.tabled x.limits.1,
        omega (arith, tabled_lengths x.tabled, lengths-texts q.0, x.used),
      )

  pub loads_use : (hs : List Held) → decode i t ≡ some hs → (q : ℕ) → row_use q a f.count ≡ use_of q hs
  loads_use hs e q = tabled_use (loaded t [] hs e).tabled q

  pub loads_owed : (g : List ℕ) (o : ℕ) (d : Dues) → DuesFrom a f g o d → Bytes i → (hs : List Held)
      → decode i t ≡ some hs → Owed g o hs d
  loads_owed g o d w b hs e =
      w hs ((loaded t [] hs e).used ∙ sym (lengths-texts hs)) (λ q m. loads_use hs e q)
      (owners_below hs (laid i t hs b e).rows.lies.shapes)
