-- The lines of the first k numbers, one more at a time: their records, their texts, and how much they take.
-- Assumes nothing.
use mathlib.Core.Bool.{Bool}
use mathlib.Core.List.{List, [], ◌∷◌, ◌++◌, append_assoc, append-nil}
use mathlib.Core.Path.{◌≡◌, refl, sym, ap, ap₂, ◌∙◌}
use Prim.Native.Nat.{ℕ, zero, suc, ◌+◌, ◌-◌, ◌≤◌, ◌<◌}
use native.Mathlib.Nat.{zero-add}
use native.Mathlib.Numerals.{add-one}
use native.Mathlib.Omega.{arith}
use lib.Dec.{ltb}
use lib.ListN.{length, drop, length-append, length-drop}
use lib.Seq.{length-take-le}
use borrow.Author.Tests.{eq-eqb, ne_eqb}
use Rattle.text.specs.Bytes.{pick}
use Rattle.store.specs.declared.rows.Row.{Row}
use Rattle.store.specs.Held.{Held}
use Rattle.store.specs.Inner.{sizes, Sized}
use Rattle.store.specs.Rows.{key_in, start_in, len_in}
use Rattle.store.specs.Layout.{record_bytes, records, texts}
use Rattle.store.specs.Table.{living, held_at, line_at, Tabled}
use Rattle.store.proofs.HeldLaws.{texts-append}
use Rattle.store.proofs.RowLaws.{records-append, records-first, sizes-append, texts_sum}

pub living-next : (S : ℕ → List Held) (k : ℕ) → living S (k + 1) ≡ living S k ++ S k
unfolding living
living-next S k = rw (add-one k) refl

-- the lines of the first k numbers are a front part of those of c numbers
pub living_front : (S : ℕ → List Held) (k d c : ℕ) → c ≡ k + d
    → (bs : List Held) × (living S c ≡ living S k ++ bs)
unfolding living
living_front S k zero c e =
    let z : c ≡ k = omega arith in
    ([], ap (living S) z ∙ sym (append-nil (living S k)))
living_front S k (suc d) zero e = absurd (omega arith)
living_front S k (suc d) (suc c) e =
    let r : (bs : List Held) × (living S c ≡ living S k ++ bs) = living_front S k d c (omega arith) in (
      r.0 ++ S c,
      ap (λ (x : List Held). x ++ S c) r.1 ∙ append_assoc (living S k) r.0 (S c),
    )

pub living-sizes : (S : ℕ → List Held) (k c : ℕ) → k ≤ c → sizes 0 (living S k) ≤ sizes 0 (living S c)
living-sizes S k c l =
    let r : (bs : List Held) × (living S c ≡ living S k ++ bs) = living_front S k (c - k) c (omega arith) in
    omega (arith, ap (sizes 0) r.1, sizes-append (living S k) r.0 0)

pub living-texts : (S : ℕ → List Held) (k c : ℕ) → k ≤ c
    → length (texts (living S k)) ≤ length (texts (living S c))
living-texts S k c l =
    let r : (bs : List Held) × (living S c ≡ living S k ++ bs) = living_front S k (c - k) c (omega arith) in
    omega (arith, ap (λ (x : List Held). length (texts x)) r.1, texts_sum (living S k) r.0)

pub gives_none : (t s : List ℕ) (a : List Row) (old k : ℕ) → len_in a k ≡ 0 → line_at t s a old k ≡ []
unfolding line_at
gives_none t s a old k e = ap (λ (b : Bool). pick b [] (held_at t s a old k ∷ [])) (eq-eqb _ _ e)

pub gives-some : (t s : List ℕ) (a : List Row) (old k : ℕ) → (len_in a k ≡ 0 → ⊥)
    → line_at t s a old k ≡ held_at t s a old k ∷ []
unfolding line_at
gives-some t s a old k n = ap (λ (b : Bool). pick b [] (held_at t s a old k ∷ [])) (ne_eqb _ _ n)

-- ---- one number more

module _ {i t s : List ℕ} {a : List Row} {old c : ℕ} {hs : List Held} (T : Tabled i t s a old c hs) (k : ℕ) where
  abbrev S : ℕ → List Held
  S = line_at t s a old

  pub sizes_within : k ≤ c → sizes 0 (living (line_at t s a old) k) ≤ length i
  sizes_within l = omega (arith, living-sizes S k c l, ap (sizes 0) T.is, T.good.index)

  pub texts_within : k ≤ c → length (texts (living (line_at t s a old) k)) ≤ length t
  texts_within l = omega (
    arith,
    living-texts S k c l,
    ap (λ (x : List Held). length (texts x)) T.is,
    T.good.text,
  )

  -- a number with no line
  pub skipped : len_in a k ≡ 0
      → living (line_at t s a old) (k + 1) ≡ living (line_at t s a old) k
  skipped e = living-next S k ∙ ap (λ (x : List Held). living S k ++ x) (gives_none t s a old k e)
      ∙ append-nil (living S k)

  -- a number with a line
  module _ (l : k < c) (n : len_in a k ≡ 0 → ⊥) where
    abbrev len : ℕ
    len = len_in a k

    abbrev start : ℕ
    start = start_in a k

    abbrev off : ℕ
    off = length (texts (living S k))

    abbrev new : List ℕ
    new = record_bytes (key_in a k) off len

    abbrev h : Held
    h = held_at t s a old k

    pub line_long : length (held_at t s a old k).line ≡ len_in a k
    line_long = length-take-le len (drop start (pick (ltb k old) t s))
        (rw (length-drop start (pick (ltb k old) t s)) (omega (arith, T.inside k l)))

    next : living S (k + 1) ≡ living S k ++ (h ∷ [])
    next = living-next S k ∙ ap (λ (x : List Held). living S k ++ x) (gives-some t s a old k n)

    pub records_more : records 0 (living (line_at t s a old) (k + 1))
        ≡ records 0 (living (line_at t s a old) k)
        ++ record_bytes (key_in a k) (length (texts (living (line_at t s a old) k)))
        (len_in a k)
    records_more =
        ap (records 0) next ∙ records-append (living S k) (h ∷ []) 0
        ∙ ap (λ (x : List ℕ). records 0 (living S k) ++ x)
        (records-first (0 + length (texts (living S k))) h [] ∙ unfold records in (append-nil _)
        ∙ ap₂ (λ (x m : ℕ). record_bytes h.key x m) (zero-add _) line_long)

    pub texts_more : texts (living (line_at t s a old) (k + 1))
        ≡ texts (living (line_at t s a old) k) ++ (held_at t s a old k).line
    texts_more =
        ap texts next ∙ texts-append (living S k) (h ∷ [])
        ∙ ap (λ (x : List ℕ). texts (living S k) ++ x) (unfold texts in (append-nil h.line))

    -- how much they take
    pub place_more : (size : ℕ) → Sized (key_in a k) (length (texts (living (line_at t s a old) k))) size
        → sizes 0 (living (line_at t s a old) k) + size ≡ sizes 0 (living (line_at t s a old) (k + 1))
    place_more size z = ap (λ (m : ℕ). sizes 0 (living S k) + m) (z len)
        ∙ sym (ap length records_more ∙ length-append (records 0 (living S k)) new)

    pub used_more : length (texts (living (line_at t s a old) k)) + len_in a k
        ≡ length (texts (living (line_at t s a old) (k + 1)))
    used_more = ap (λ (m : ℕ). length (texts (living S k)) + m) (sym line_long)
        ∙ sym (ap length texts_more ∙ length-append (texts (living S k)) h.line)
