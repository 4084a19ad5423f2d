-- The elements that a built line can name: buttons 1 to 19 and axes 1 to 6. Where the checks pass, the filled slots are
-- theirs. Assumes nothing.
use Rattle.std.specs.Prelude.{Option, Some, None}
use Prim.Native.Nat.{ℕ, zero, suc, ◌+◌, ◌-◌, ◌<◌, ◌≤◌}
use mathlib.Core.Path.{◌≡◌, refl}
use mathlib.Core.Bool.{Bool, true, false}
use mathlib.Core.List.{List, [], ◌∷◌}
use native.Mathlib.Nat.{add-zero}
use native.Mathlib.Omega.{arith}
use lib.Dec.{T, eqb}
use Rattle.text.specs.Bytes.{pick, both, byte}
use Rattle.text.specs.Uuid.{is_from}
use Rattle.text.specs.Inner.{every}
use Rattle.line.specs.declared.ev.Code.{Code}
use Rattle.line.specs.declared.ev.AxisOrBtn.{AxisOrBtn}
use Rattle.line.specs.declared.mapping.Entry.{Entry}
use Rattle.line.specs.Buttons as B
use Rattle.line.specs.Axes as A
use Rattle.line.specs.Maps.{full_ranges}
use Rattle.line.specs.Tables.{axes_sdl, axes_table, element_from, element_row, ident_text, as_button, as_axis}
use Rattle.line.proofs.IdentLaws.{Named, button_named, axis_named}
use Rattle.map.specs.declared.mapping_data.MappingData.{MappingData}
use Rattle.map.specs.Slots.{button_of, axis_of}
use Rattle.map.specs.Build.{also, filled_from, filled_buttons, filled_axes}

-- ---- an ident: letters from `a` to `z`, and no `m`
abbrev pub is_ident_byte : ℕ → Bool
is_ident_byte b = pick (eqb b (byte "m")) false (is_from (byte "a") (byte "z") b)

pub record Plain (e : AxisOrBtn) : Type 0 where
  pub named : Named (ident_text e) e
  pub letters : every is_ident_byte (ident_text e) ≡ true

-- ---- the one test
all_letters : (ℕ → AxisOrBtn) → ℕ → ℕ → Bool
all_letters to k zero = true
all_letters to k (suc n) = both (every is_ident_byte (ident_text (to k))) (all_letters to (suc k) n)

buttons_letters : T (all_letters as_button 1 19)
unfolding all_letters every axes_sdl axes_table element_row element_from
buttons_letters = tt

axes_letters : T (all_letters as_axis 1 6)
unfolding all_letters every axes_sdl axes_table element_row element_from
axes_letters = tt

both-T : (a b : Bool) → T (both a b) → (a ≡ true) × T b
both-T true b t = (refl, t)
both-T false b t = absurd t

all_letters_lem : (to : ℕ → AxisOrBtn) (k n i : ℕ) → T (all_letters to k n) → i < n
    → every is_ident_byte (ident_text (to (k + i))) ≡ true
unfolding all_letters
all_letters_lem to k zero i t h = absurd (omega arith)
all_letters_lem to k (suc n) zero t h =
    rw add-zero (both-T (every is_ident_byte (ident_text (to k))) (all_letters to (suc k) n) t).0
all_letters_lem to k (suc n) (suc i) t h =
    let e : k + suc i ≡ suc k + i = omega arith in
    let w = both-T (every is_ident_byte (ident_text (to k))) (all_letters to (suc k) n) t in
    rw e (all_letters_lem to (suc k) n i w.1 (omega arith))

letters_at : (to : ℕ → AxisOrBtn) (n k : ℕ) → T (all_letters to 1 n) → 1 ≤ k → k ≤ n
    → every is_ident_byte (ident_text (to k)) ≡ true
letters_at to n k t h l =
    let e : 1 + (k - 1) ≡ k = omega arith in
    rw e at (all_letters_lem to 1 n (k - 1) t (omega arith))

pub button_plain : (k : ℕ) → 1 ≤ k → k ≤ 19 → Plain (as_button k)
button_plain k h l =
    record { named = button_named k h l; letters = letters_at as_button 19 k buttons_letters h l }

pub axis_plain : (k : ℕ) → 1 ≤ k → k ≤ 6 → Plain (as_axis k)
axis_plain k h l = record { named = axis_named k h l; letters = letters_at as_axis 6 k axes_letters h l }

-- ---- the filled slots
unfoldable pub AllPlain : List Entry → Type 0
AllPlain [] = Unit {0}
AllPlain (e ∷ es) = Plain e.element × (e.ranges ≡ full_ranges) × AllPlain es

also-plain : (s : Option Code) (to : AxisOrBtn) (rest : List Entry) → Plain to → AllPlain rest → AllPlain (also s to rest)
unfolding AllPlain
also-plain (Some c) to rest p q = (p, refl, q)
also-plain None to rest p q = q

plain-from : (code : ℕ → Option Code) (to : ℕ → AxisOrBtn) (n k : ℕ) → ((j : ℕ) → k ≤ j → j < k + n → Plain (to j))
    → AllPlain (filled_from code to n k)
unfolding filled_from AllPlain
plain-from code to zero k p = tt
plain-from code to (suc n) k p =
    also-plain (code k) (to k) (filled_from code to n (suc k)) (p k (omega arith) (omega arith))
    (plain-from code to n (suc k) (λ j h l. p j (omega arith) (omega arith)))

-- the slots of Unknown, DPadX and DPadY hold nothing
abbrev pub named_buttons : MappingData → List Entry
named_buttons d = filled_from (λ k. button_of d (record { 0 = k })) as_button 19 1

abbrev pub named_axes : MappingData → List Entry
named_axes d = filled_from (λ k. axis_of d (record { 0 = k })) as_axis 6 1

pub buttons_named : (d : MappingData) → button_of d B.Unknown ≡ None → filled_buttons d ≡ named_buttons d
unfolding filled_from
buttons_named d h = rw h

pub axes_named : (d : MappingData) → axis_of d A.Unknown ≡ None → axis_of d A.DPadX ≡ None
    → axis_of d A.DPadY ≡ None → filled_axes d ≡ named_axes d
unfolding filled_from
axes_named d h x y = rw (h, x, y)

pub buttons_plain : (d : MappingData) → AllPlain (named_buttons d)
buttons_plain d =
    plain-from (λ k. button_of d (record { 0 = k })) as_button 19 1 (λ j h l. button_plain j h (omega arith))

pub axes_plain : (d : MappingData) → AllPlain (named_axes d)
axes_plain d = plain-from (λ k. axis_of d (record { 0 = k })) as_axis 6 1 (λ j h l. axis_plain j h (omega arith))
