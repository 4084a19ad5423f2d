-- Rows before the border start at 65535 or below, the others above it: sums over rows, the border moved on, and how long
-- the records then are.
-- Assumes nothing.
use mathlib.Core.Bool.{Bool, true, false}
use mathlib.Core.List.{List, [], ◌∷◌, ◌++◌}
use mathlib.Core.Logic.{⊎_elim}
use mathlib.Core.Path.{◌≡◌, refl, sym, ap, ap₂, ◌∙◌, subst}
use Prim.Native.Nat.{ℕ, zero, suc, ◌+◌, ◌-◌, ◌*◌, ◌≤◌, ◌<◌}
use native.Mathlib.Nat.{zero-add, eq-or-lt_of_le}
use native.Mathlib.Numerals.{add-one}
use native.Mathlib.Omega.{arith}
use lib.Dec.{eqb}
use lib.ListN.{length, drop, length-append, length-drop}
use lib.Seq.{length-take-le}
use borrow.Author.Tests.{eqb-true, lt-ltb, le-ltb}
use Rattle.text.specs.Bytes.{pick}
use Rattle.store.specs.declared.rows.Row.{Row}
use Rattle.store.specs.declared.border.Border.{Border}
use Rattle.store.specs.Book.{record_sizes}
use Rattle.store.specs.Border.{row_sum, one_line, far_size, Bordered}
use Rattle.store.specs.Claims.{row_lengths}
use Rattle.store.specs.Held.{Held, short_max, size_by, record_size}
use Rattle.store.specs.Layout.{texts}
use Rattle.store.specs.Rows.{row_in, key_in, start_in, len_in}
use Rattle.store.specs.Table.{living, source_of, held_at, line_at}
use Rattle.store.proofs.HeldLaws.{texts-append}

-- ---- sums over rows

abbrev pub row_len : Row → ℕ
row_len r = r.len

module _ (f : Row → ℕ) where
  pub sum-next : (a : List Row) (k : ℕ) → row_sum f a (k + 1) ≡ row_sum f a k + f (row_in a k)
  unfolding row_sum
  sum-next a k = rw (add-one k) refl

  pub sum_most : (a : List Row) (d k n : ℕ) → n ≡ k + d → row_sum f a k ≤ row_sum f a n
  unfolding row_sum
  sum_most a zero k n e =
      let z : k ≡ n = omega arith in
      let r : row_sum f a k ≤ row_sum f a k = omega arith in
      subst (λ (x : ℕ). row_sum f a k ≤ row_sum f a x) z r
  sum_most a (suc d) k zero e = absurd (omega arith)
  sum_most a (suc d) k (suc n) e = omega (arith, sum_most a d k n (omega arith))

  pub sum_same : (a b : List Row) (n : ℕ) → ((k : ℕ) → k < n → row_in b k ≡ row_in a k)
      → row_sum f b n ≡ row_sum f a n
  unfolding row_sum
  sum_same a b zero e = refl
  sum_same a b (suc n) e =
      ap₂ (λ (x y : ℕ). x + y) (sum_same a b n (λ k l. e k (omega arith))) (ap f (e n (omega arith)))

  -- one row comes to nothing any more
  module _ (a b : List Row) (j : ℕ) (none : f (row_in b j) ≡ 0)
      (other : (k : ℕ) → (k ≡ j → ⊥) → row_in b k ≡ row_in a k) where
    pub sum_less : (n : ℕ) → j < n → row_sum f a n ≡ row_sum f b n + f (row_in a j)
    unfolding row_sum
    sum_less zero l = absurd (omega arith)
    sum_less (suc n) l =
        let q : j ≤ n = omega arith in
        ⊎_elim same (before (sum_less n)) (eq-or-lt_of_le q)
      where
        same : j ≡ n → row_sum f a n + f (row_in a n) ≡ row_sum f b n + f (row_in b n) + f (row_in a j)
        same e =
            let x : row_sum f b n ≡ row_sum f a n = sum_same a b n (λ k q. other k (λ z. omega arith)) in
            let y : f (row_in b n) ≡ 0 = ap (λ (k : ℕ). f (row_in b k)) (sym e) ∙ none in
            let z : f (row_in a j) ≡ f (row_in a n) = ap (λ (k : ℕ). f (row_in a k)) e in
            omega arith

        before : (j < n → row_sum f a n ≡ row_sum f b n + f (row_in a j)) → j < n
            → row_sum f a n + f (row_in a n) ≡ row_sum f b n + f (row_in b n) + f (row_in a j)
        before ih q =
            let x : row_sum f a n ≡ row_sum f b n + f (row_in a j) = ih q in
            let y : f (row_in b n) ≡ f (row_in a n) = ap f (other n (λ z. omega arith)) in
            omega arith

    pub sum_kept : (n : ℕ) → n ≤ j → row_sum f b n ≡ row_sum f a n
    sum_kept n l = sum_same a b n (λ k q. other k (λ z. omega arith))

pub lengths_sum : (a : List Row) (n : ℕ) → row_lengths a n ≡ row_sum row_len a n
unfolding row_lengths row_sum
lengths_sum a zero = refl
lengths_sum a (suc n) = ap (λ (x : ℕ). x + len_in a n) (lengths_sum a n)

-- ---- a record's size by its place

far_wider : (o : ℕ) → size_by o true ≡ size_by o false + 2
far_wider o = go (eqb o 0)
  where
    go : (b : Bool) → pick b 23 24 ≡ pick b 21 22 + 2
    go true = refl
    go false = refl

pub near_record : (o off : ℕ) → off ≤ short_max → record_size o off + 2 ≡ size_by o true
near_record o off l =
    ap (λ (b : Bool). size_by o b + 2) (le-ltb short_max off l) ∙ sym (far_wider o)

pub far_record : (o off : ℕ) → short_max < off → record_size o off ≡ size_by o true
far_record o off l = ap (λ (b : Bool). size_by o b) (lt-ltb short_max off l)

pub sizes_split : (xs ys : List Held) (off : ℕ)
    → record_sizes off (xs ++ ys) ≡ record_sizes off xs + record_sizes (off + length (texts xs)) ys
unfolding record_sizes texts
sizes_split [] ys off =
    let e : off ≡ off + 0 = omega arith in ap (λ (m : ℕ). record_sizes m ys) e ∙ sym (zero-add _)
sizes_split (h ∷ xs) ys off =
    let ih : record_sizes (off + length h.line) (xs ++ ys)
    ≡ record_sizes (off + length h.line) xs + record_sizes (off + length h.line + length (texts xs)) ys
    = sizes_split xs ys (off + length h.line) in
    let e : off + length h.line + length (texts xs) ≡ off + length (h.line ++ texts xs)
    = omega (arith, length-append h.line (texts xs)) in
    let z : record_sizes (off + length h.line + length (texts xs)) ys
    ≡ record_sizes (off + length (h.line ++ texts xs)) ys = ap (λ (m : ℕ). record_sizes m ys) e in
    omega arith

texts_long : (xs ys : List Held) → length (texts (xs ++ ys)) ≡ length (texts xs) + length (texts ys)
texts_long xs ys = ap length (texts-append xs ys) ∙ length-append (texts xs) (texts ys)

-- ---- the records of the lines that the rows give

module _ (t s : List ℕ) (a : List Row) (old n : ℕ)
    (inside : (k : ℕ) → k < n → start_in a k + len_in a k ≤ length (source_of t s old k)) where
  abbrev S : ℕ → List Held
  S k = line_at t s a old k

  given : (k : ℕ) → k < n → length (texts (line_at t s a old k)) ≡ len_in a k
  unfolding line_at texts
  given k l = go (eqb (len_in a k) 0) refl
    where
      go : (b : Bool) → eqb (len_in a k) 0 ≡ b
          → length (texts (pick b [] (held_at t s a old k ∷ []))) ≡ len_in a k
      go true e = sym (eqb-true (len_in a k) 0 e)
      go false e = length-append (held_at t s a old k).line [] ∙ omega (
        arith,
        length-take-le (len_in a k) (drop (start_in a k) (source_of t s old k)) (omega (
          arith,
          length-drop (start_in a k) (source_of t s old k),
          inside k l,
        )),
      )

  pub living_lengths : (k : ℕ) → k ≤ n → length (texts (living (line_at t s a old) k)) ≡ row_lengths a k
  unfolding living row_lengths
  living_lengths zero l = unfold texts in refl
  living_lengths (suc k) l = omega (
    arith,
    living_lengths k (omega arith),
    given k (omega arith),
    texts_long (living S k) (S k),
  )

  -- one row more
  its_size : (k off : ℕ) → record_sizes off (line_at t s a old k)
      ≡ pick (eqb (len_in a k) 0) 0 (record_size (key_in a k).owner off)
  unfolding line_at record_sizes
  its_size k off = go (eqb (len_in a k) 0)
    where
      go : (b : Bool) → record_sizes off (pick b [] (held_at t s a old k ∷ []))
          ≡ pick b 0 (record_size (key_in a k).owner off)
      go true = refl
      go false = omega arith

  one_more : (k : ℕ) → k < n → record_sizes 0 (living S k ++ S k)
      ≡ record_sizes 0 (living S k) + pick (eqb (len_in a k) 0) 0 (record_size (key_in a k).owner (row_lengths a k))
  one_more k l =
      sizes_split (living S k) (S k) 0
      ∙ ap (λ (m : ℕ). record_sizes 0 (living S k) + record_sizes m (S k)) (zero-add _ ∙ living_lengths k (omega arith))
      ∙ ap (λ (m : ℕ). record_sizes 0 (living S k) + m) (its_size k (row_lengths a k))

  near_sizes : (k : ℕ) → k ≤ n → ((j : ℕ) → j < k → row_lengths a j ≤ short_max)
      → record_sizes 0 (living (line_at t s a old) k) + 2 * row_sum one_line a k ≡ row_sum far_size a k
  unfolding living row_sum
  near_sizes zero l f = unfold record_sizes in refl
  near_sizes (suc k) l f =
      let ih : record_sizes 0 (living S k) + 2 * row_sum one_line a k ≡ row_sum far_size a k
      = near_sizes k (omega arith) (λ j p. f j (omega arith)) in
      omega (arith, one_more k (omega arith), it (eqb (len_in a k) 0))
    where
      it : (b : Bool) → pick b 0 (record_size (key_in a k).owner (row_lengths a k)) + 2 * pick b 0 1
          ≡ pick b 0 (size_by (key_in a k).owner true)
      it true = refl
      it false = near_record (key_in a k).owner (row_lengths a k) (f k (omega arith))

  far_sizes : (b d k : ℕ) → k ≡ b + d → k ≤ n → short_max < row_lengths a b
      → record_sizes 0 (living (line_at t s a old) b) + 2 * row_sum one_line a b ≡ row_sum far_size a b
      → record_sizes 0 (living (line_at t s a old) k) + 2 * row_sum one_line a b ≡ row_sum far_size a k
  unfolding living row_sum
  far_sizes b zero k e l far z =
      let v : b ≡ k = omega arith in
      subst (λ (m : ℕ). record_sizes 0 (living (line_at t s a old) m) + 2 * row_sum one_line a b ≡ row_sum far_size a m) v z
  far_sizes b (suc d) zero e l far z = absurd (omega arith)
  far_sizes b (suc d) (suc k) e l far z =
      let ih : record_sizes 0 (living S k) + 2 * row_sum one_line a b ≡ row_sum far_size a k
      = far_sizes b d k (omega arith) (omega arith) far z in
      omega (arith, one_more k (omega arith), it (eqb (len_in a k) 0))
    where
      it : (c : Bool) → pick c 0 (record_size (key_in a k).owner (row_lengths a k))
          ≡ pick c 0 (size_by (key_in a k).owner true)
      it true = refl
      it false = far_record (key_in a k).owner (row_lengths a k)
          (omega (arith, far, lengths_sum a b, lengths_sum a k, sum_most row_len a d b k (omega arith)))

  -- near lines and far ones behind them
  pub border_sizes : (b : Border) → Bordered a n b
      → record_sizes 0 (living (line_at t s a old) n) + 2 * row_sum one_line a b.rows ≡ row_sum far_size a n
  border_sizes b w =
      let near : record_sizes 0 (living S b.rows) + 2 * row_sum one_line a b.rows ≡ row_sum far_size a b.rows
      = near_sizes b.rows w.near.within w.near.starts in
      ⊎_elim
      (λ (e : b.rows ≡ n). subst (λ (m : ℕ). record_sizes 0 (living S m) + 2 * row_sum one_line a b.rows
      ≡ row_sum far_size a m) e near)
      (λ (l : b.rows < n). far_sizes b.rows (n - b.rows) n (omega (arith, w.near.within)) (omega arith)
      (omega (arith, w.far l, w.near.bytes)) near)
      (eq-or-lt_of_le w.near.within)
