-- The number of an entry gives the entry back. Assumes nothing.
use Prim.Native.Nat.{ℕ, ◌+◌, ◌*◌, ◌/◌, ◌%◌, ◌<◌}
use mathlib.Core.Path.{◌≡◌, refl, sym, ap, ◌∙◌}
use mathlib.Core.Bool.{Bool, true, false}
use native.Mathlib.Omega.{arith}
use Rattle.text.specs.Bytes.{pick}
use Rattle.line.specs.declared.ev.AxisOrBtn.{AxisOrBtn}
use Rattle.line.specs.declared.ev.AxisOrBtn.TheVariants as El
use Rattle.line.specs.declared.parser.AxisRange.{AxisRange}
use Rattle.line.specs.declared.parser.AxisRange.TheVariants as Ar
use Rattle.line.specs.declared.parser.Ranges.{Ranges}
use Rattle.line.specs.declared.mapping.Entry.{Entry}
use Rattle.line.specs.Elements.{code_of}
use Rattle.line.specs.Maps.{ranged_entry}
use Rattle.line.specs.Numbers.{code_unit, shape_unit, half_number, halves_number, ranges_number, packed_number, entry_number}
use Rattle.line.specs.Numbers.{half_in, ranges_in, shaped_entry, entry_in}

-- ---- an entry of its parts
pub packed_in : (c k n : ℕ) → k < shape_unit → n < shape_unit
    → entry_in (c * code_unit + k * shape_unit + n) ≡ shaped_entry c k n
unfolding entry_in
packed_in c k n h l =
    let p : (c * 4294967296 + k * 65536 + n) / 4294967296 ≡ c = omega arith in
    let q : (c * 4294967296 + k * 65536 + n) / 65536 % 65536 ≡ k = omega arith in
    let r : (c * 4294967296 + k * 65536 + n) % 65536 ≡ n = omega arith in
    rw (p, q, r)

-- the shape of a kind and of ranges, taken apart
pub axis_in_lem : (c k n : ℕ) → shaped_entry c (k * 2 + 1) n
    ≡ ranged_entry (code_of c) (El.Axis (record { 0 = n })) (ranges_in k)
unfolding shaped_entry
axis_in_lem c k n =
    let p : (k * 2 + 1) % 2 ≡ 1 = omega arith in
    let q : (k * 2 + 1) / 2 ≡ k = omega arith in
    rw (p, q)

pub button_in_lem : (c k n : ℕ) → shaped_entry c (k * 2) n
    ≡ ranged_entry (code_of c) (El.Btn (record { 0 = n })) (ranges_in k)
unfolding shaped_entry
button_in_lem c k n =
    let p : k * 2 % 2 ≡ 0 = omega arith in
    let q : k * 2 / 2 ≡ k = omega arith in
    rw (p, q)

-- the ranges of two halves, upright and inverted
module _ (i o : ℕ) (a : i < 4) (b : o < 4) where
  pub upright_in : ranges_in (i + o * 4) ≡ record { input = half_in i; output = half_in o; inverted = false }
  upright_in =
      let p : (i + o * 4) % 4 ≡ i = omega arith in
      let q : (i + o * 4) / 4 ≡ o = omega arith in
      let m : o % 4 ≡ o = omega arith in
      let r : (i + o * 4) / 16 ≡ 0 = omega arith in
      rw (p, q, m, r)

  pub inverted_in : ranges_in (i + o * 4 + 16) ≡ record { input = half_in i; output = half_in o; inverted = true }
  inverted_in =
      let p : (i + o * 4 + 16) % 4 ≡ i = omega arith in
      let q : (i + o * 4 + 16) / 4 ≡ o + 4 = omega arith in
      let m : (o + 4) % 4 ≡ o = omega arith in
      let r : (i + o * 4 + 16) / 16 ≡ 1 = omega arith in
      rw (p, q, m, r)

-- ---- there and back
half_small : (r : AxisRange) → half_number r < 4
half_small Ar.Full = omega arith
half_small Ar.UpperHalf = omega arith
half_small Ar.LowerHalf = omega arith

half_back : (r : AxisRange) → half_in (half_number r) ≡ r
half_back Ar.Full = refl
half_back Ar.UpperHalf = refl
half_back Ar.LowerHalf = refl

ranges_back : (r : Ranges) → ranges_in (ranges_number r) ≡ r
unfolding ranges_number
ranges_back r = by r.inverted refl
  where
    by : (t : Bool) → r.inverted ≡ t → ranges_in (pick r.inverted (halves_number r + 16) (halves_number r)) ≡ r
    by true e =
        let i = half_small r.input in
        let o = half_small r.output in
        rw e (inverted_in (half_number r.input) (half_number r.output) i o
        ∙ rw (half_back r.input, half_back r.output, sym e))
    by false e =
        let i = half_small r.input in
        let o = half_small r.output in
        rw e (upright_in (half_number r.input) (half_number r.output) i o
        ∙ rw (half_back r.input, half_back r.output, sym e))

ranges_small : (r : Ranges) → ranges_number r < 32
unfolding ranges_number
ranges_small r = by r.inverted (half_small r.input) (half_small r.output)
  where
    by : (t : Bool) → half_number r.input < 4 → half_number r.output < 4
        → pick t (halves_number r + 16) (halves_number r) < 32
    by true i o = omega arith
    by false i o = omega arith

-- the number of an element fits 16 bits, as that of every element of the program does
abbrev pub Short : AxisOrBtn → Type 0
Short (El.Btn b) = b.0 < shape_unit
Short (El.Axis a) = a.0 < shape_unit

pub number_back : (e : Entry) → Short e.element → entry_in (entry_number e) ≡ e
unfolding entry_number
number_back e s = by (ranges_number e.ranges) (ranges_small e.ranges) (ranges_back e.ranges) e.element refl s
  where
    by : (k : ℕ) → k < 32 → ranges_in k ≡ e.ranges → (el : AxisOrBtn) → e.element ≡ el → Short el
        → entry_in (packed_number e.code.0 el k) ≡ e
    by k small back (El.Btn b) q h =
        packed_in e.code.0 (k * 2) b.0 (omega arith) h ∙ button_in_lem e.code.0 k b.0
        ∙ rw back (ap (λ (x : AxisOrBtn). ranged_entry e.code x e.ranges) (sym q))
    by k small back (El.Axis a) q h =
        packed_in e.code.0 (k * 2 + 1) a.0 (omega arith) h ∙ axis_in_lem e.code.0 k a.0
        ∙ rw back (ap (λ (x : AxisOrBtn). ranged_entry e.code x e.ranges) (sym q))
