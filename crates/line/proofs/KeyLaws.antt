-- Laws of byte order, of the names, and of the searches by key and by element. Assumes nothing.
use Rattle.std.specs.Prelude.{Option, Some, None}
use Rattle.std.specs.List.{position_or_len}
use mathlib.Core.Path.{◌≡◌, refl, ap, sym, ◌∙◌}
use mathlib.Core.Bool.{Bool, true, false}
use mathlib.Core.List.{List, [], ◌∷◌, map}
use Prim.Native.Nat.{ℕ, zero, suc, ◌+◌, ◌<◌, ◌≤◌}
use native.Mathlib.Omega.{arith}
use borrow.Author.Tests.{lt-ltb, le-ltb, ltb-true, ltb-false, leb-true, ne_eqb}
use lib.Dec.{T, ltb, leb, eqb}
use lib.ListN.{length, get_or, drop, get_or-map, length-map}
use Rattle.std.proofs.lemmas.List.{drop-map}
use Rattle.std.proofs.Common.{Bor}
use lib.Pointwise.{pointwise}
use Rattle.std.specs.Prelude.{cond, not}
use Rattle.text.specs.Bytes.{pick, both, same}
use Rattle.line.specs.Elements.{same_element}
use Rattle.line.specs.Tables.{row_count, axes_sdl, axes_table, name_at, row_from, key_row, element_from, element_row}
use Rattle.line.specs.Tables.{byte_order, every, sorted, how_many}
use Rattle.line.specs.Tables.{one_row, as_button, as_axis, ident_text, ident_max, name_in_line}
use Rattle.line.specs.Inner.{NotBefore}
use Rattle.line.specs.declared.ev.AxisOrBtn.{AxisOrBtn}
use Rattle.text.proofs.BytesLaws.{pointwise_same}
use Rattle.line.proofs.TableLaws.{every_at, get_d_any}

-- ---- the one test: the names are in byte order
pub in_order : T (sorted axes_sdl)
unfolding axes_sdl byte_order
in_order = tt

names_length : length axes_sdl ≡ row_count
unfolding axes_sdl
names_length = refl

-- ---- the row of an element is one of the 35
element_row_bound : (xs : List AxisOrBtn) (e : AxisOrBtn) (i r : ℕ) → element_from i xs e ≡ Some r → r < i + length xs
unfolding element_from
element_row_bound [] e i r p = absurd (let z : ◌≡◌ {A = ℕ} 0 1 = cc in omega arith)
element_row_bound (x ∷ xs) e i r p = go (same_element x e) p (element_row_bound xs e (suc i) r)
  where
    go : (t : Bool) → pick t (Some i) (element_from (suc i) xs e) ≡ Some r
        → (element_from (suc i) xs e ≡ Some r → r < suc i + length xs) → r < i + suc (length xs)
    go true p f = let q : i ≡ r = cc in omega arith
    go false p f = omega (arith, f p)

pub element_bound : (e : AxisOrBtn) (r : ℕ) → element_row e ≡ Some r → r < row_count
unfolding element_row axes_table
element_bound e r p = omega (arith, element_row_bound axes_table e 0 r p)

-- ---- the first place that passes a test, counted from i: one more in front
suc_ltb : (n m : ℕ) → ltb (1 + n) (suc m) ≡ ltb n m
suc_ltb n m = go (ltb n m) refl
  where
    go : (t : Bool) → ltb n m ≡ t → ltb (1 + n) (suc m) ≡ t
    go true e = lt-ltb (1 + n) (suc m) (omega (arith, ltb-true n m e))
    go false e = le-ltb (1 + n) (suc m) (omega (arith, ltb-false n m e))

first_step : (t : Bool) (i n k : ℕ) (r : Option ℕ) → r ≡ cond (ltb n k) (Some (suc i + n)) None
    → pick t (Some i) r ≡ cond (ltb (cond (not t) (1 + n) 0) (suc k)) (Some (i + cond (not t) (1 + n) 0)) None
first_step true i n k r e = let z : i + 0 ≡ i = omega arith in rw (lt-ltb 0 (suc k) (omega arith), z)
first_step false i n k r e =
    let z : suc i + n ≡ i + (1 + n) = omega arith in
    rw (suc_ltb n k, e) (ap (λ (j : ℕ). cond (ltb n k) (Some j) None) z)

element_place : (xs : List AxisOrBtn) (i : ℕ) (e : AxisOrBtn)
    → element_from i xs e
    ≡ cond (ltb (position_or_len (λ x. same_element x e) xs) (length xs)) (Some (i + position_or_len (λ x. same_element x e) xs)) None
unfolding element_from
element_place [] i e = refl
element_place (x ∷ xs) i e = first_step (same_element x e) i _ (length xs) _ (element_place xs (suc i) e)

row_place : (rows : List (Bor (List ℕ))) (i : ℕ) (key : List ℕ)
    → row_from i (map (λ (x : Bor (List ℕ)). x.now) rows) key
    ≡ cond (ltb (position_or_len (λ x. pointwise eqb x.now key) rows) (length rows))
    (Some (i + position_or_len (λ x. pointwise eqb x.now key) rows)) None
unfolding row_from
row_place [] i key = refl
row_place (x ∷ xs) i key =
    rw (← pointwise_same x.now key) (first_step (pointwise eqb x.now key) i _ (length xs) _ (row_place xs (suc i) key))

-- ---- the search: `rows` are the names as the program holds them
abbrev short : ℕ → List ℕ → Bool
short k n = leb (length n) ident_max

all_short : T (every short 0 axes_sdl)
unfolding axes_sdl
all_short = tt

T_true : (b : Bool) → T b → b ≡ true
T_true true t = refl
T_true false t = absurd t

module _ (rows : List (Bor (List ℕ))) (same : map (λ (x : Bor (List ℕ)). x.now) rows ≡ axes_sdl) where
  rows_length : length rows ≡ row_count
  rows_length = sym (length-map rows (λ (x : Bor (List ℕ)). x.now)) ∙ ap length same ∙ names_length

  name_in : (k : ℕ) (d : Bor (List ℕ)) → k < row_count → (get_or rows k d).now ≡ name_at k
  name_in k d h =
      sym (get_or-map (λ (x : Bor (List ℕ)). x.now) rows k d)
      ∙ ap (λ (l : List (List ℕ)). get_or l k d.now) same
      ∙ get_d_any axes_sdl k d.now [] (rw names_length h)

  pub name_bound : (e : AxisOrBtn) (r : ℕ) → element_row e ≡ Some r → r < length rows
  name_bound e r q = omega (arith, element_bound e r q, rows_length)

  -- the name of an element, as it is handed out
  pub ident_told : (e : AxisOrBtn) (r : ℕ) (d : Bor (List ℕ)) → element_row e ≡ Some r
      → ((get_or rows r d).now ≡ ident_text e) × (length (get_or rows r d).now ≤ ident_max)
  ident_told e r d q =
      let h = element_bound e r q in
      let n = name_in r d h in
      let s = every_at short [] axes_sdl all_short r (omega (arith, names_length)) in
      (n ∙ ap name_in_line (sym q), rw n (leb-true (length (name_at r)) ident_max (T_true (leb (length (name_at r)) ident_max) s)))

  -- what `position` says of the names
  pub row_sought : (key : List ℕ) (r : Option ℕ)
      → r ≡ cond (ltb (position_or_len (λ x. pointwise eqb x.now key) rows) (length rows))
      (Some (position_or_len (λ x. pointwise eqb x.now key) rows)) None → r ≡ key_row key
  unfolding key_row
  row_sought key r h =
      let n = position_or_len (λ (x : Bor (List ℕ)). pointwise eqb x.now key) rows in
      let z : 0 + n ≡ n = omega arith in
      h ∙ ap (λ (k : ℕ). cond (ltb n (length rows)) (Some k) None) (sym z) ∙ sym (row_place rows 0 key)
      ∙ ap (λ (l : List (List ℕ)). row_from 0 l key) same

-- ---- the row at which the search begins
-- names in the first k rows begin with a lesser letter than b
abbrev lesser_in : ℕ → ℕ → ℕ → List ℕ → Bool
lesser_in k b i n = pick (ltb i k) (ltb (get_or n 0 255) b) true

before_m : T (every (lesser_in 15 109) 0 axes_sdl)
unfolding axes_sdl
before_m = tt

before_r : T (every (lesser_in 24 114) 0 axes_sdl)
unfolding axes_sdl
before_r = tt

lesser_differs : (n key : List ℕ) (b : ℕ) → b ≤ 255 → ltb (get_or n 0 255) b ≡ true → b ≤ get_or key 0 0
    → same n key ≡ false
unfolding same
lesser_differs [] key b h l g = absurd (omega (arith, ltb-true 255 b l, h))
lesser_differs (x ∷ xs) [] b h l g = refl
lesser_differs (x ∷ xs) (y ∷ ys) b h l g =
    ap (λ (t : Bool). both t (same xs ys)) (ne_eqb x y (λ q. omega (arith, ltb-true x b l, g, q)))

not_before : (k b : ℕ) → T (every (lesser_in k b) 0 axes_sdl) → k ≤ row_count → b ≤ 255 → (key : List ℕ)
    → b ≤ get_or key 0 0 → NotBefore key k
not_before k b t l h key g = (
  l,
  λ i lt.
      let s = every_at (lesser_in k b) [] axes_sdl t i (omega (arith, names_length, lt, l)) in
      lesser_differs (name_at i) key b h (by i lt (ltb (get_or (name_at i) 0 255) b) refl s) g,
)
  where
    by : (i : ℕ) → i < k → (u : Bool) → ltb (get_or (name_at i) 0 255) b ≡ u
        → T (pick (ltb i k) (ltb (get_or (name_at i) 0 255) b) true) → ltb (get_or (name_at i) 0 255) b ≡ true
    by i lt true e s = e
    by i lt false e s = absurd (rw (lt-ltb i k lt, e) at s)

pub not_before_m : (key : List ℕ) → 109 ≤ get_or key 0 0 → NotBefore key 15
not_before_m = not_before 15 109 before_m (omega arith) (omega arith)

pub not_before_r : (key : List ℕ) → 114 ≤ get_or key 0 0 → NotBefore key 24
not_before_r = not_before 24 114 before_r (omega arith) (omega arith)

-- the rows that are passed over hold no name that is the key
row_skip : (k : ℕ) (names : List (List ℕ)) (i : ℕ) (key : List ℕ)
    → ((j : ℕ) → j < k → same (get_or names j []) key ≡ false) → k ≤ length names
    → row_from i names key ≡ row_from (i + k) (drop k names) key
unfolding row_from
row_skip zero names i key f l = let z : i ≡ i + 0 = omega arith in ap (λ (j : ℕ). row_from j names key) z
row_skip (suc k) [] i key f l = absurd (omega arith)
row_skip (suc k) (n ∷ ns) i key f l =
    let z : suc i + k ≡ i + suc k = omega arith in
    ap (λ (t : Bool). pick t (Some i) (row_from (suc i) ns key)) (f 0 (omega arith))
    ∙ row_skip k ns (suc i) key (λ j h. f (suc j) (omega arith)) (omega arith)
    ∙ ap (λ (j : ℕ). row_from j (drop k ns) key) z

-- a place behind the k-th, if there is one
abbrev pub after : ℕ → Option ℕ → Option ℕ
after k (Some i) = Some (k + i)
after k None = None

after_cond : (k n : ℕ) (t : Bool) → after k (cond t (Some n) None) ≡ cond t (Some (k + n)) None
after_cond k n true = refl
after_cond k n false = refl

-- what `position` says of the names from the k-th on
module _ (rows : List (Bor (List ℕ))) (same_rows : map (λ (x : Bor (List ℕ)). x.now) rows ≡ axes_sdl) (key : List ℕ) (k : ℕ)
    (no : NotBefore key k) where
  pub first_within : k ≤ length rows
  first_within = omega (arith, no.0, rows_length rows same_rows)

  row_behind : row_from k (map (λ (x : Bor (List ℕ)). x.now) (drop k rows)) key ≡ key_row key
  unfolding key_row
  row_behind =
      ap (λ (l : List (List ℕ)). row_from k l key)
      (sym (drop-map (λ (x : Bor (List ℕ)). x.now) k rows) ∙ ap (drop k) same_rows)
      ∙ sym (row_skip k axes_sdl 0 key no.1 (omega (arith, no.0, names_length)) ∙ ap (λ (j : ℕ). row_from j (drop k axes_sdl) key) z)
    where
      z : 0 + k ≡ k
      z = omega arith

  pub sought_behind : (o : Option ℕ)
      → o ≡ cond (ltb (position_or_len (λ x. pointwise eqb x.now key) (drop k rows)) (length (drop k rows)))
      (Some (position_or_len (λ x. pointwise eqb x.now key) (drop k rows))) None → after k o ≡ key_row key
  sought_behind o h =
      let n = position_or_len (λ (x : Bor (List ℕ)). pointwise eqb x.now key) (drop k rows) in
      ap (after k) h ∙ after_cond k n (ltb n (length (drop k rows))) ∙ sym (row_place (drop k rows) k key) ∙ row_behind

-- ---- the row of an element
-- what `position` says of the table
pub element_found : (e : AxisOrBtn) (r : Option ℕ)
    → r ≡ cond (ltb (position_or_len (λ x. same_element x e) axes_table) (length axes_table))
    (Some (position_or_len (λ x. same_element x e) axes_table)) None → r ≡ element_row e
unfolding element_row
element_found e r h =
    let n = position_or_len (λ x. same_element x e) axes_table in
    let z : 0 + n ≡ n = omega arith in
    h ∙ ap (λ (k : ℕ). cond (ltb n (length axes_table)) (Some k) None) (sym z) ∙ sym (element_place axes_table 0 e)

pub one_row_lem : T (both (one_row as_button 1 19) (one_row as_axis 1 6))
unfolding one_row how_many axes_table
one_row_lem = tt

-- ---- a row is one of the 35
row_bound : (names : List (List ℕ)) (key : List ℕ) (i r : ℕ) → row_from i names key ≡ Some r → r < i + length names
unfolding row_from
row_bound [] key i r e = absurd (let z : ◌≡◌ {A = ℕ} 0 1 = cc in omega arith)
row_bound (n ∷ ns) key i r e = go (same n key) e (row_bound ns key (suc i) r)
  where
    go : (t : Bool) → pick t (Some i) (row_from (suc i) ns key) ≡ Some r
        → (row_from (suc i) ns key ≡ Some r → r < suc i + length ns) → r < i + suc (length ns)
    go true e f = let q : i ≡ r = cc in omega arith
    go false e f = omega (arith, f e)

pub key_bound : (key : List ℕ) (r : ℕ) → key_row key ≡ Some r → r < row_count
unfolding key_row
key_bound key r e = omega (arith, row_bound axes_sdl key 0 r e, names_length)
