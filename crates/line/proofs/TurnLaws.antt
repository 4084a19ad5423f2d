-- A turn by what the turn before it answered. Assumes nothing.
use Prim.Native.Nat.{ℕ}
use mathlib.Core.Path.{◌≡◌, sym, ap, ◌∙◌}
use mathlib.Core.Bool.{true, false}
use native.Mathlib.Omega.{arith}
use Rattle.std.specs.Prelude.{Result, Ok, Err, ⊤, IsErr, IsErrAnd}
use Rattle.std.specs.Result.{is_err}
use Rattle.text.proofs.ListLaws.{off}
use Rattle.line.specs.declared.mapping.Mapping.{Mapping}
use Rattle.line.specs.declared.reading.ParseSdlMappingError.{ParseSdlMappingError}
use Rattle.line.specs.declared.refusal.Refusal.{Refusal}
use Rattle.line.specs.Maps.{MapView, empty_map}
use Rattle.line.specs.Refusals.{reading_refusal}
use Rattle.line.specs.Reading.{refused_of, accepted_of, returned}
use Rattle.line.specs.Inner.{view_of, outcome, Turned}
use Rattle.line.proofs.KindLaws.{reading_one_to_one}
use Rattle.line.proofs.ViewLaws.{padded_view}

-- a refusal is no acceptance
pub refused_not : {A V E : Type 0} (e : E) (v : V) → ◌≡◌ {A = Result V E} (Err e) (Ok v) → A
refused_not e v h = let z : ◌≡◌ {A = ℕ} 0 1 = cc in absurd (omega arith)

-- what a `?` passes on
pub passed_on : (r : Result ⊤ ParseSdlMappingError) (e : ParseSdlMappingError) → IsErr r × IsErrAnd r (λ x. x ≡ e)
    → r ≡ Err e
passed_on (Ok u) e h = absurd h.1
passed_on (Err x) e h = ap (λ (y : ParseSdlMappingError). Err y) h.1

module _ (y : Result MapView Refusal) (r : Result ⊤ ParseSdlMappingError) (m : Mapping) (turned : y ≡ outcome r m) where
  pub was_accepted : r ≡ Ok tt → y ≡ Ok (view_of m)
  was_accepted a = turned ∙ ap (λ (o : Result ⊤ ParseSdlMappingError). outcome o m) a

  pub was_refused : (e : ParseSdlMappingError) → r ≡ Err e → y ≡ Err (reading_refusal e)
  was_refused e a = turned ∙ ap (λ (o : Result ⊤ ParseSdlMappingError). outcome o m) a

-- ---- what a reading returns, by what its turns left
pub returned_refused : (y : Result MapView Refusal) (r : Result ⊤ ParseSdlMappingError) (m : Mapping) → Turned y r m
    → true ≡ is_err r → record { answer = r; map = empty_map } ≡ returned y
returned_refused y (Ok u) m t e = absurd (off (sym e))
returned_refused y (Err x) m t e =
    ap (λ (z : ParseSdlMappingError). refused_of z) (sym (reading_one_to_one.case_back x))
    ∙ ap (λ (z : Result MapView Refusal). returned z) (sym t.0)

pub returned_accepted : (y : Result MapView Refusal) (r : Result ⊤ ParseSdlMappingError) (m : Mapping) → Turned y r m
    → false ≡ is_err r → record { answer = r; map = m } ≡ returned y
returned_accepted y (Ok u) m t e =
    ap (λ (n : Mapping). accepted_of n) (padded_view m t.1) ∙ ap (λ (z : Result MapView Refusal). returned z) (sym t.0)
returned_accepted y (Err x) m t e = absurd (off e)
