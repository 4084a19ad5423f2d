-- The walker, step after step, walks exactly the fields of the line: the first, the name, the pairs. Assumes nothing.
use Rattle.std.specs.Prelude.{Some, Ok}
use Prim.Native.Nat.{ℕ, zero, suc, ◌+◌, ◌-◌, ◌≤◌, ◌<◌}
use mathlib.Core.Path.{◌≡◌, refl}
use mathlib.Core.Logic.{⊎_elim}
use mathlib.Core.List.{List, ◌∷◌}
use native.Mathlib.Omega.{arith}
use borrow.Author.Tests.{lt-ltb, le-ltb, ne_eqb}
use lib.ListN.{length, drop, drop_of_length-le}
use Rattle.text.specs.Bytes.{byte, first_of}
use Rattle.text.specs.declared.uuid.Spelled.{Spelled}
use Rattle.text.proofs.ListLaws.{lt_or_le}
use Rattle.line.specs.declared.parser.State.TheVariants as St
use Rattle.line.specs.declared.parser.Token.TheVariants as Tk
use Rattle.line.specs.Fields.{find_from, fields_of, first_field, later_fields}
use Rattle.line.specs.Parser.{answers_from}
use Rattle.line.specs.Walks.{pairs_at, named_at, WalksLine}
use Rattle.line.specs.Walker.{guid_of, start_of, field_step_of, step_of}
use Rattle.line.proofs.FieldLaws.{ahead, field-length, fields_at}

abbrev after : List ℕ → ℕ → ℕ
after s p = find_from (byte ",") s p + 1

-- ---- the pairs
module _ (s : List ℕ) (p : ℕ) where
  pairs_past : (n : ℕ) → length s ≤ p → answers_from n s p St.KeyVal ≡ pairs_at p (fields_of (drop p s))
  unfolding answers_from pairs_at fields_of
  pairs_past zero h = rw (drop_of_length-le s h)
  pairs_past (suc n) h = rw (drop_of_length-le s h, le-ltb p (length s) h)

  pairs_inside : (n : ℕ) → p < length s → answers_from n s (after s p) St.KeyVal
      ≡ pairs_at (after s p) (fields_of (drop (after s p) s))
      → answers_from (suc n) s p St.KeyVal ≡ pairs_at p (fields_of (drop p s))
  unfolding answers_from pairs_at step_of field_step_of
  pairs_inside n h ih =
      let moves : p < after s p = omega arith in
      rw (lt-ltb p (length s) h, lt-ltb p (after s p) moves, fields_at s p h, field-length s p h, ih)

pub walks_pairs : (n : ℕ) (s : List ℕ) (p : ℕ) → length s ≤ p + n → answers_from n s p St.KeyVal
    ≡ pairs_at p (fields_of (drop p s))
walks_pairs zero s p h = pairs_past s p 0 (omega arith)
walks_pairs (suc n) s p h =
    ⊎_elim (λ k. pairs_inside s p n k (walks_pairs n s (after s p) (omega arith))) (λ k. pairs_past s p (suc n) k)
    (lt_or_le p (length s))

-- ---- the name, then the pairs
module _ (s : List ℕ) (p : ℕ) where
  name_past : (n : ℕ) → length s ≤ p → answers_from n s p St.Name ≡ named_at p (fields_of (drop p s))
  unfolding answers_from named_at fields_of
  name_past zero h = rw (drop_of_length-le s h)
  name_past (suc n) h = rw (drop_of_length-le s h, le-ltb p (length s) h)

  name_inside : (n : ℕ) → p < length s → length s ≤ p + suc n → answers_from (suc n) s p St.Name
      ≡ named_at p (fields_of (drop p s))
  unfolding answers_from named_at step_of field_step_of
  name_inside n h l =
      let pairs = walks_pairs n s (after s p) (omega arith) in
      let moves : p < after s p = omega arith in
      rw (
        lt-ltb p (length s) h,
        lt-ltb p (after s p) moves,
        fields_at s p h,
        field-length s p h,
        ahead s p h,
        pairs,
      )

pub walks_named : (n : ℕ) (s : List ℕ) (p : ℕ) → length s ≤ p + n → answers_from n s p St.Name
    ≡ named_at p (fields_of (drop p s))
walks_named zero s p h = name_past s p 0 (omega arith)
walks_named (suc n) s p h = ⊎_elim (λ k. name_inside s p n k h) (λ k. name_past s p (suc n) k) (lt_or_le p (length s))

-- ---- the whole line, where its first field is a UUID and a comma follows
module _ (s : List ℕ) (u : Spelled) (g : guid_of (first_field s) ≡ Some u)
    (h : first_of (byte ",") s < length s) where
  abbrev Walked : ℕ → Type 0
  Walked n =
      answers_from n s 0 St.Uuid ≡ Some (Ok (Tk.Uuid u.id)) ∷ named_at (first_of (byte ",") s + 1) (later_fields s)

  walks_on : (n : ℕ) → length s ≡ suc n → Walked (suc n)
  unfolding answers_from step_of field_step_of
  walks_on n e =
      let k = first_of (byte ",") s in
      let some : 0 < length s = omega (arith, e) in
      let cut : 0 + k - 0 ≡ k = omega arith in
      let from : 0 + k ≡ k = omega arith in
      let moves : 0 < k + 1 = omega arith in
      let rest = walks_named n s (k + 1) (omega (arith, e)) in
      rw (
        lt-ltb 0 (length s) some,
        cut,
        from,
        g,
        ne_eqb k (length s) (λ q. omega (arith, h, q)),
        lt-ltb 0 (k + 1) moves,
        rest,
      )

  walks_so : (n : ℕ) → length s ≡ n → Walked n
  walks_so zero e = absurd (omega (arith, h, e))
  walks_so (suc n) e = walks_on n e

pub walks_line : WalksLine
unfolding start_of
walks_line s u v g h = rw v (walks_so s u g h (length s) refl)
