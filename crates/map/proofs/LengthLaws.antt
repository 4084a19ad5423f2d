-- Laws of lengths: of idents, of index numbers, of pairs and of the line.
-- Assumes nothing.
use Rattle.std.specs.Prelude.{Option, Some, None}
use Prim.Native.Nat.{ℕ, zero, suc, ◌+◌, ◌*◌, ◌/◌, ◌^◌, ◌<◌, ◌≤◌}
use mathlib.Core.Path.{◌≡◌, refl, ap}
use mathlib.Core.Bool.{Bool, true, false}
use mathlib.Core.Logic.{⊎_elim}
use mathlib.Core.List.{List, [], ◌∷◌, ◌++◌}
use native.Mathlib.Numerals.{add-one}
use native.Mathlib.Omega.{arith}
use borrow.Author.Tests.{leb-true}
use lib.Dec.{T, leb}
use lib.ListN.{length, take, get_or, length-append}
use lib.Seq.{take-suc}
use Rattle.text.specs.declared.uuid.Uuid.{Uuid}
use Rattle.text.specs.Decimal.{decimal}
use Rattle.text.proofs.ListLaws.{lt_or_le}
use Rattle.text.proofs.DecimalLaws.{decimal_small, decimal_more_length, decimal_positive}
use Rattle.text.proofs.UuidLaws.{hex_text-length}
use Rattle.line.specs.declared.ev.AxisOrBtn.{AxisOrBtn}
use Rattle.line.specs.declared.mapping.Entry.{Entry}
use Rattle.line.specs.Tables.{ident_max, axes_sdl, name_in_line, element_row, ident_text}
use Rattle.line.proofs.KeyLaws.{element_bound}
use Rattle.line.proofs.TableLaws.{every_at}
use Rattle.map.specs.declared.from_data.filled.Placed.{Placed}
use Rattle.map.specs.declared.mapping_data.MappingData.{MappingData}
use Rattle.map.specs.Build.{built_line}
use Rattle.map.specs.Inner.{pair_field, pair_fields, pair_length, pairs_length, length_of, lengths_of, line_length}
use Rattle.map.proofs.OutputLaws.{line_parts}

-- ---- an ident
short : ℕ → List ℕ → Bool
short k n = leb (length n) ident_max

is_true : (t : Bool) → T t → t ≡ true
is_true true h = refl
is_true false h = absurd h

name_short : (i : ℕ) → i < 35 → length (name_in_line (Some i)) ≤ ident_max
unfolding axes_sdl short
name_short i h = leb-true (length (name_in_line (Some i))) ident_max (is_true _ (every_at short [] axes_sdl tt i h))

ident_short : (e : AxisOrBtn) → length (ident_text e) ≤ ident_max
ident_short e = go (element_row e) refl
  where
    go : (r : Option ℕ) → element_row e ≡ r → length (name_in_line r) ≤ ident_max
    go (Some i) p = name_short i (element_bound e i p)
    go None p = omega arith

-- ---- an index number: a larger one has no fewer digits
digits_grow : (k a b : ℕ) → a ≤ k → a ≤ b → length (decimal a) ≤ length (decimal b)
digits_grow zero a b h l = rw (decimal_small a (omega arith)) (omega (arith, decimal_positive b))
digits_grow (suc k) a b h l =
    ⊎_elim
    (λ s. rw (decimal_small a s) (omega (arith, decimal_positive b)))
    (λ m.
    let n : 10 ≤ b = omega arith in
    omega (
      arith,
      decimal_more_length a m,
      decimal_more_length b n,
      digits_grow k (a / 10) (b / 10) (omega arith) (omega arith),
    ))
    (lt_or_le a 10)

pub decimal_grows : (a b : ℕ) → a ≤ b → length (decimal a) ≤ length (decimal b)
decimal_grows a b h = digits_grow a a b (omega arith) h

-- ---- slots with their places: a place has no more digits than the greatest number of 64 bits
abbrev tens : ℕ → ℕ
tens zero = 10
tens (suc k) = 10 * tens k

digits_few : (k n : ℕ) → n < tens k → length (decimal n) ≤ suc k
digits_few zero n h = rw (decimal_small n h) (omega arith)
digits_few (suc k) n h =
    ⊎_elim
    (λ s. rw (decimal_small n s) (omega arith))
    (λ m. omega (arith, decimal_more_length n m, digits_few k (n / 10) (omega arith)))
    (lt_or_le n 10)

place_short : (n : ℕ) → n < 2 ^ 64 → length (decimal n) ≤ 20
place_short n h = digits_few 19 n (omega arith)

-- a pair: its ident, a colon, a letter, its place and a comma
pub pair_fits : (s : Placed) (ident : List ℕ) (n : ℕ) → ident ≡ ident_text s.entry.element → n ≡ length (decimal s.place)
    → s.place < 2 ^ 64 → length ident + 2 + n + 1 ≤ 36
pair_fits s ident n e f h =
    omega (arith, ap (λ (x : List ℕ). length x) e, ident_short s.entry.element, f, place_short s.place h)

lengths_append : (xs ys : List Placed) → lengths_of (xs ++ ys) ≡ lengths_of xs + lengths_of ys
unfolding lengths_of
lengths_append [] ys = omega arith
lengths_append (s ∷ xs) ys = omega (arith, lengths_append xs ys)

-- one slot more is counted
pub lengths_turn : (ss : List Placed) (i : ℕ) (d : Placed) (n p : ℕ) → i < length ss → n ≡ lengths_of (take i ss)
    → p ≡ length_of (get_or ss i d) → n + p ≡ lengths_of (take (i + 1) ss)
unfolding lengths_of
lengths_turn ss i d n p h e f =
    rw (add-one, take-suc ss i d h)
    (omega (arith, lengths_append (take i ss) (get_or ss i d ∷ [])))

-- ---- the line
pub field-length : (letter : ℕ) (codes : List ℕ) (e : Entry) → length (pair_field letter codes e) ≡ pair_length codes e
field-length letter codes e = simp length-append (omega arith)

pub fields_length : (letter : ℕ) (codes : List ℕ) (es : List Entry)
    → length (pair_fields letter codes es) ≡ pairs_length codes es
unfolding pair_fields pairs_length
fields_length letter codes [] = refl
fields_length letter codes (e ∷ es) =
    omega (
      arith,
      length-append (pair_field letter codes e) (pair_fields letter codes es),
      field-length letter codes e,
      fields_length letter codes es,
    )

pub line_length_lem : (d : MappingData) (buttons axes name : List ℕ) (uuid : Uuid)
    → length (built_line d buttons axes name uuid) ≡ line_length d buttons axes name
line_length_lem d buttons axes name uuid =
    rw (line_parts d buttons axes name uuid)
    (simp (length-append, fields_length, hex_text-length) (omega arith))
