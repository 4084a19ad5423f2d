-- The form of a line's first token, by its three checks; it is that of what the walker's first call hands on.
-- Assumes nothing.
use Rattle.std.specs.Prelude.{Option, Some, None}
use mathlib.Core.Bool.{Bool, true, false}
use mathlib.Core.List.{List}
use mathlib.Core.Path.{◌≡◌, refl, sym, ap, ◌∙◌}
use mathlib.Core.Logic.{⊎_elim}
use Prim.Native.Nat.{ℕ, ◌+◌, ◌-◌, ◌≤◌, ◌<◌}
use native.Mathlib.Omega.{arith}
use lib.Dec.{eqb, ltb}
use lib.ListN.{length}
use denote.Ref.{Bor}
use borrow.Author.Tests.{eq-eqb, ne_eqb, lt-ltb, le-ltb}
use Rattle.text.specs.declared.uuid.Spelled.{Spelled}
use Rattle.text.specs.Bytes.{pick, byte, first_of}
use Rattle.text.specs.Utf8.{is_utf8}
use Rattle.text.proofs.BytesLaws.{first_le}
use Rattle.text.proofs.ListLaws.{lt_or_le}
use Rattle.line.specs.Calls.{where_uuid, FormOfFirst}
use Rattle.line.specs.Fields.{first_field}
use Rattle.line.specs.Parser.{parser_of, step_from}
use Rattle.line.specs.Walker.{start_of, guid_of, uuid_step, field_step_of, step_of, form_in, first_form}

pub form_not_utf8 : (s : List ℕ) → is_utf8 s ≡ false → None ≡ first_form s
unfolding first_form
form_not_utf8 s e = rw e refl

pub form_no_comma : (s : List ℕ) → is_utf8 s ≡ true → first_of (byte ",") s ≡ length s → None ≡ first_form s
unfolding first_form
form_no_comma s e q = rw (e, eq-eqb (first_of (byte ",") s) (length s) q) refl

pub form_read : (s : List ℕ) → is_utf8 s ≡ true → (first_of (byte ",") s ≡ length s → ⊥) → (g : Option Spelled)
    → guid_of (first_field s) ≡ g → form_in g ≡ first_form s
unfolding first_form
form_read s e q g p = ap form_in (sym p) ∙ rw (e, ne_eqb (first_of (byte ",") s) (length s) q) refl

-- ---- what the first call hands on

handed : (g : Option Spelled) (p e n : ℕ) (b : Bool) → eqb e n ≡ b
    → pick b None (form_in g) ≡ where_uuid (uuid_step g p e n).answer (form_in g)
handed None p e n true q = refl
handed None p e n false q = refl
handed (Some g) p e n true q = rw q refl
handed (Some g) p e n false q = rw q refl

module _ (s : Bor (List ℕ)) where
  abbrev Told : Type 0
  Told = first_form s.now ≡ where_uuid (step_from (parser_of s)).answer (form_in (guid_of (first_field s.now)))

  not_utf8 : is_utf8 s.now ≡ false → (b : Bool) → ltb 0 (length s.now) ≡ b → Told
  unfolding first_form start_of step_of field_step_of
  not_utf8 e true q = rw (e, q) refl
  not_utf8 e false q = rw (e, q) refl

  no_byte : is_utf8 s.now ≡ true → length s.now ≤ 0 → Told
  unfolding first_form start_of step_of
  no_byte e h =
      let k : first_of (byte ",") s.now ≡ length s.now = omega (arith, first_le (byte ",") s.now) in
      rw (e, eq-eqb (first_of (byte ",") s.now) (length s.now) k, le-ltb 0 (length s.now) h) refl

  some_byte : is_utf8 s.now ≡ true → 0 < length s.now → Told
  unfolding first_form start_of step_of field_step_of
  some_byte e h =
      let k = first_of (byte ",") s.now in
      let cut : 0 + k - 0 ≡ k = omega arith in
      let from : 0 + k ≡ k = omega arith in
      rw (e, lt-ltb 0 (length s.now) h, cut, from)
      (handed (guid_of (first_field s.now)) 0 k (length s.now) (eqb k (length s.now)) refl)

pub form_of_first : FormOfFirst
form_of_first s = go (is_utf8 s.now) refl
  where
    go : (b : Bool) → is_utf8 s.now ≡ b → Told s
    go false e = not_utf8 s e (ltb 0 (length s.now)) refl
    go true e = ⊎_elim (λ h. some_byte s e h) (λ h. no_byte s e h) (lt_or_le 0 (length s.now))
