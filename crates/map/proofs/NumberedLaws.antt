-- The table between document 01's refusals and this layer's cases is one to one: each case computes. Assumes nothing.
use mathlib.Core.Path.{◌≡◌, refl}
use Rattle.map.specs.declared.error.MappingError.{MappingError}
use Rattle.map.specs.declared.error.MappingError.TheVariants as Me
use Rattle.map.specs.Refusals.{mapping_refusal, mapping_error_of, MappingOneToOne}

error_back : (e : MappingError) → mapping_error_of (mapping_refusal e) ≡ e
error_back (Me.NotUtf8 p) = refl
error_back Me.ListTooLong = refl
error_back Me.InvalidName = refl
error_back Me.UnknownElement = refl
error_back (Me.InvalidCode c) = refl
error_back Me.NotSdl2Compatible = refl
error_back Me.NameTooLong = refl
error_back Me.OutputTooShort = refl

pub mapping_one_to_one : MappingOneToOne
mapping_one_to_one = record { case_back = error_back; refusals_back = λ p c. refl }
