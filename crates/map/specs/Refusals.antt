-- Document 01's number and values of each refusal of this layer, and the cases back from them:
-- `mapping_one_to_one` in ../proofs/NumberedLaws.antt.
-- Public contracts rest on these definitions; they assume nothing.
use Rattle.std.specs.Prelude.{ℕ, ◌≡◌, List, [], ◌∷◌, map, eqb, Result, Ok, Err, ⊤, Option, Some, None}
use Rattle.text.specs.Bytes.{pick}
use Rattle.line.specs.declared.ev.Code.{Code}
use Rattle.line.specs.Elements.{code_of}
use Rattle.line.specs.Refusals.{refusal, refusal_at, refusal_of, place_told}
use Rattle.line.specs.declared.refusal.Refusal.{Refusal}
use Rattle.map.specs.declared.error.MappingError.{MappingError}
use Rattle.map.specs.declared.error.MappingError.TheVariants as Me

-- "10 at the length of the longest valid run of whole characters from the first byte on; the rest none";
-- "15: code not in its list; carries it"
abbrev pub mapping_refusal : MappingError → Refusal
mapping_refusal (Me.NotUtf8 p) = refusal_at 10 p
mapping_refusal Me.ListTooLong = refusal 12
mapping_refusal Me.InvalidName = refusal 13
mapping_refusal Me.UnknownElement = refusal 14
mapping_refusal (Me.InvalidCode c) = refusal_of 15 c
mapping_refusal Me.NotSdl2Compatible = refusal 16
mapping_refusal Me.NameTooLong = refusal 17
mapping_refusal Me.OutputTooShort = refusal 18

abbrev pub mapping_outcome : Result ⊤ MappingError → Result ⊤ Refusal
mapping_outcome (Ok tt) = Ok tt
mapping_outcome (Err e) = Err (mapping_refusal e)

-- ---- the table back: the case of a refusal, so that it is made by document 01's number
abbrev pub code_told : Option Code → Code
code_told (Some c) = c
code_told None = code_of 0

abbrev pub mapping_error_of : Refusal → MappingError
mapping_error_of r =
    pick (eqb r.number 10) (Me.NotUtf8 (place_told r.place))
    (pick (eqb r.number 12) Me.ListTooLong
    (pick (eqb r.number 13) Me.InvalidName
    (pick (eqb r.number 14) Me.UnknownElement
    (pick (eqb r.number 15) (Me.InvalidCode (code_told r.code))
    (pick (eqb r.number 16) Me.NotSdl2Compatible
    (pick (eqb r.number 17) Me.NameTooLong
    Me.OutputTooShort))))))

abbrev pub refused_by : Refusal → Result ⊤ MappingError
refused_by r = Err (mapping_error_of r)

-- this layer's refusals: 10 at p, 15 with the code c
abbrev pub mapping_refusals : ℕ → Code → List Refusal
mapping_refusals p c =
    refusal_at 10 p
    ∷ refusal 12
    ∷ refusal 13
    ∷ refusal 14
    ∷ refusal_of 15 c
    ∷ refusal 16
    ∷ refusal 17
    ∷ refusal 18
    ∷ []

-- each case is that of its refusal, and each of the refusals comes back
pub record MappingOneToOne : Type 0 where
  pub case_back : (e : MappingError) → mapping_error_of (mapping_refusal e) ≡ e
  pub refusals_back : (p : ℕ) (c : Code)
      → map (λ r. mapping_refusal (mapping_error_of r)) (mapping_refusals p c) ≡ mapping_refusals p c
