-- What a program can hand over has 16 bits: an axis value, and the number of an element. Assumes nothing.
use Prim.Native.Nat.{ℕ, zero, suc, ◌+◌, ◌/◌, ◌%◌, ◌<◌}
use mathlib.Core.Path.{◌≡◌, subst}
use mathlib.Core.Bool.{Bool, true, false}
use mathlib.Core.List.{List, [], ◌∷◌}
use native.Mathlib.Omega.{arith}
use native.Mathlib.Numerals.{add-one}
use lib.Dec.{eqb}
use lib.ListN.{length, take, get_or}
use Rattle.text.specs.Bytes.{pick}
use Rattle.line.specs.declared.ev.AxisOrBtn.TheVariants as El
use Rattle.line.specs.declared.mapping.Entry.{Entry}
use Rattle.line.specs.Numbers.{shape_unit, shaped_entry, entry_in}
use Rattle.pad.specs.PadGuarantee.{ShortElement, ShortAll}

-- ---- an entry that its number gives back
short_kind : (t : Bool) (n : ℕ) → n < shape_unit
    → ShortElement (pick t (El.Btn (record { 0 = n })) (El.Axis (record { 0 = n })))
short_kind true n l = l
short_kind false n l = l

short_in : (x : ℕ) → ShortElement (entry_in x).element
unfolding entry_in shaped_entry
short_in x =
    let l : x % shape_unit < shape_unit = omega arith in
    short_kind (eqb (x / shape_unit % shape_unit % 2) 0) (x % shape_unit) l

pub short_back : (e : Entry) (x : ℕ) → entry_in x ≡ e → ShortElement e.element
short_back e x q = subst (λ (y : Entry). ShortElement y.element) q (short_in x)

-- ---- the first i of a list, and one more
short_suc : (es : List Entry) (i : ℕ) (d : Entry) → i < length es → ShortAll (take i es)
    → ShortElement (get_or es i d).element → ShortAll (take (suc i) es)
unfolding ShortAll
short_suc [] i d l s h = absurd (omega arith)
short_suc (e ∷ es) zero d l s h = (h, tt)
short_suc (e ∷ es) (suc i) d l s h = (s.0, short_suc es i d (omega arith) s.1 h)

pub short_more : (es : List Entry) (i : ℕ) (d : Entry) → i < length es → ShortAll (take i es)
    → ShortElement (get_or es i d).element → ShortAll (take (i + 1) es)
short_more es i d l s h = rw add-one (short_suc es i d l s h)

pub short_none : (es : List Entry) → ShortAll (take 0 es)
unfolding ShortAll
short_none es = tt
