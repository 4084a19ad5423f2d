-- Laws of the default map: the rows of the axes, those of the buttons in the table of key codes, and the
-- fold over the rows, one after the other.
-- Assumes nothing.
use Prim.Native.Nat.{ℕ, zero, suc, ◌+◌, ◌-◌, ◌≤◌, ◌<◌}
use mathlib.Core.Path.{◌≡◌, refl, sym, ap, ◌∙◌}
use mathlib.Core.Bool.{Bool, true, false}
use mathlib.Core.List.{List, [], ◌∷◌, ◌++◌, map}
use native.Mathlib.Omega.{arith}
use borrow.Author.Tests.{eq-eqb, ne_eqb}
use lib.Dec.{eqb}
use lib.ListN.{length, get_or, get_or-map}
use Rattle.text.specs.Bytes.{pick}
use Rattle.line.specs.declared.ev.Code.{Code}
use Rattle.line.specs.declared.ev.AxisOrBtn.{AxisOrBtn}
use Rattle.line.specs.declared.mapping.Entry.{Entry}
use Rattle.line.specs.declared.mapping.Mapping.{Mapping}
use Rattle.line.specs.Elements.{code_of, button_last}
use Rattle.line.specs.Maps.{codes_max, entry_of, put_entry, to_map, empty_map}
use Rattle.line.specs.Tables.{as_button}
use Rattle.line.proofs.ViewLaws.{put_adds}
use Rattle.map.specs.Keys.{key_first, key_count, key_number}
use Rattle.map.specs.Default.{rows, button_rows, axis_rows, axis_row_count, in_its_list, put_kept, flagged_map}
use Rattle.map.specs.Inner.{PutsListed}

-- ---- the rows of the axes
pub rows_long : length axis_rows ≡ axis_row_count
unfolding axis_rows
rows_long = refl

pub row_of : (rs : List (Code × AxisOrBtn)) (xs : List Entry) (i : ℕ) (d : Code × AxisOrBtn) → i < length rs
    → map (λ r. entry_of r.0 r.1) rs ≡ xs
    → entry_of (get_or rs i d).0 (get_or rs i d).1 ≡ get_or xs i (entry_of d.0 d.1)
row_of rs xs i d h e =
    sym (get_or-map (λ r. entry_of r.0 r.1) rs i d) ∙ ap (λ (l : List Entry). get_or l i (entry_of d.0 d.1)) e

-- ---- the table of key codes: its rows are those of the buttons
abbrev pub key_row : ℕ → Entry
key_row c = entry_of (code_of c) (as_button (key_number c))

-- of n codes from c on, those that have a button
unfoldable pub key_rows : ℕ → ℕ → List Entry
key_rows zero c = []
key_rows (suc n) c = pick (eqb (key_number c) 0) (key_rows n (suc c)) (key_row c ∷ key_rows n (suc c))

-- from place i of the table on
abbrev pub rows_from : ℕ → List Entry
rows_from i = key_rows (key_count - i) (key_first + i)

pub rows-first : rows_from 0 ≡ button_rows
unfolding key_rows button_rows
rows-first = refl

pub rows_last : (i : ℕ) → i ≡ key_count → rows_from i ≡ []
unfolding key_rows
rows_last i e = rw e

pub buttons_many : length button_rows ≡ button_last
unfolding button_rows
buttons_many = refl

rows_step : (n c : ℕ) → key_rows (suc n) c
    ≡ pick (eqb (key_number c) 0) (key_rows n (suc c)) (key_row c ∷ key_rows n (suc c))
unfolding key_rows
rows_step n c = refl

module _ (i : ℕ) (h : i < key_count) where
  rows_next : rows_from i
      ≡ pick (eqb (key_number (key_first + i)) 0) (rows_from (i + 1)) (key_row (key_first + i) ∷ rows_from (i + 1))
  rows_next =
      let p : key_count - i ≡ suc (key_count - (i + 1)) = omega arith in
      let q : key_first + (i + 1) ≡ suc (key_first + i) = omega arith in
      rw (p, q) (rows_step (key_count - (i + 1)) (key_first + i))

  pub rows_none : key_number (key_first + i) ≡ 0 → rows_from i ≡ rows_from (i + 1)
  rows_none e = rows_next ∙ rw (eq-eqb (key_number (key_first + i)) 0 e)

  pub rows-some : (key_number (key_first + i) ≡ 0 → ⊥) → rows_from i ≡ key_row (key_first + i) ∷ rows_from (i + 1)
  rows-some e = rows_next ∙ rw (ne_eqb (key_number (key_first + i)) 0 e)

-- ---- the fold
module _ (b a : List ℕ) where
  pub none_kept : (es : List Entry) → put_kept b a es [] ≡ es
  unfolding put_kept
  none_kept es = refl

  pub row_kept : (es xs : List Entry) (x : Entry) → in_its_list b a x.code ≡ true
      → put_kept b a es (x ∷ xs) ≡ put_kept b a (put_entry x es) xs
  unfolding put_kept
  row_kept es xs x e = rw e

  pub row_dropped : (es xs : List Entry) (x : Entry) → in_its_list b a x.code ≡ false
      → put_kept b a es (x ∷ xs) ≡ put_kept b a es xs
  unfolding put_kept
  row_dropped es xs x e = rw e

  -- rows after rows
  pub kept_append : (es xs ys : List Entry) → put_kept b a es (xs ++ ys) ≡ put_kept b a (put_kept b a es xs) ys
  kept_append es [] ys = rw (none_kept es)
  kept_append es (x ∷ xs) ys =
      by (in_its_list b a x.code) refl (kept_append (put_entry x es) xs ys) (kept_append es xs ys)
    where
      by : (t : Bool) → in_its_list b a x.code ≡ t
          → put_kept b a (put_entry x es) (xs ++ ys) ≡ put_kept b a (put_kept b a (put_entry x es) xs) ys
          → put_kept b a es (xs ++ ys) ≡ put_kept b a (put_kept b a es xs) ys
          → put_kept b a es (x ∷ (xs ++ ys)) ≡ put_kept b a (put_kept b a es (x ∷ xs)) ys
      by true e p q = row_kept es (xs ++ ys) x e ∙ p ∙ rw (row_kept es xs x e)
      by false e p q = row_dropped es (xs ++ ys) x e ∙ q ∙ rw (row_dropped es xs x e)

  -- no more than one entry a row
  pub kept_many : (es xs : List Entry) → length (put_kept b a es xs) ≤ length es + length xs
  kept_many es [] = rw (none_kept es) (omega arith)
  kept_many es (x ∷ xs) = by (in_its_list b a x.code) refl (kept_many (put_entry x es) xs) (kept_many es xs)
    where
      by : (t : Bool) → in_its_list b a x.code ≡ t
          → length (put_kept b a (put_entry x es) xs) ≤ length (put_entry x es) + length xs
          → length (put_kept b a es xs) ≤ length es + length xs
          → length (put_kept b a es (x ∷ xs)) ≤ length es + length (x ∷ xs)
      by true e p q = rw (row_kept es xs x e) (omega (arith, p, put_adds x es))
      by false e p q = rw (row_dropped es xs x e) (omega (arith, q))

-- ---- a map that the kept rows of all are put into, of which those of `left` are still to come
module _ (b a : List ℕ) (all : List Entry) where
  pub record Filling (left : List Entry) (m : Mapping) : Type 0 where
    pub es : List Entry
    pub few : length es + length left ≤ codes_max
    pub is : m ≡ to_map (flagged_map es)
    pub rest : put_kept b a es left ≡ put_kept b a [] all

  pub fill_none : (m : Mapping) → length all ≤ codes_max → m ≡ to_map (flagged_map []) → Filling all m
  fill_none m h e = record { es = []; few = omega arith; is = e; rest = refl }

  -- one more is put, if its code is in its list
  pub fill_turn : (x : Entry) (left : List Entry) (m n : Mapping) → PutsListed b a x m n → Filling (x ∷ left) m
      → Filling left n
  fill_turn x left m n h p =
      record {
        es = put_kept b a p.es (x ∷ []);
        few = omega (arith, kept_many b a p.es (x ∷ []), p.few);
        is = h p.es (omega (arith, p.few)) p.is;
        rest = sym (kept_append b a p.es (x ∷ []) left) ∙ p.rest;
      }

  pub fill_end : (m : Mapping) → Filling [] m → m ≡ to_map (flagged_map (put_kept b a [] all))
  fill_end m p =
      p.is ∙ ap (λ (es : List Entry). to_map (flagged_map es)) (sym (none_kept b a p.es) ∙ p.rest)

-- after the buttons' rows, those of the axes
pub fill_axes : (b a : List ℕ) (m : Mapping) → m ≡ to_map (flagged_map (put_kept b a [] button_rows))
    → Filling b a rows axis_rows m
fill_axes b a m e =
    record {
      es = put_kept b a [] button_rows;
      few = omega (arith, kept_many b a [] button_rows, buttons_many, rows_long);
      is = e;
      rest = sym (kept_append b a [] button_rows axis_rows);
    }

-- the empty map with the default flag on
abbrev flagged : Mapping → Mapping
flagged m =
    record {
      count = m.count;
      entries = m.entries;
      name_start = m.name_start;
      name_len = m.name_len;
      is_default = true;
      hats_mapped = m.hats_mapped;
    }

pub flagged_empty : (m : Mapping) → m ≡ empty_map → flagged m ≡ to_map (flagged_map [])
unfolding empty_map to_map
flagged_empty m e = ap flagged e
