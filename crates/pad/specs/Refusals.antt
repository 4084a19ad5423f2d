-- Document 02's number of each answer of this layer.
-- Public contracts rest on these definitions; they assume nothing.
use Rattle.line.specs.declared.refusal.Refusal.{Refusal}
use Rattle.pad.specs.declared.state.TooManyCodes.{TooManyCodes}
use Rattle.std.specs.Prelude.{Result, Ok, Err, ⊤}
use Rattle.line.specs.Refusals.{refusal}

abbrev pub too_many : TooManyCodes
too_many = record {}

-- "Turned away: 27, a raw event for a 257th code": no place, no code
abbrev pub pad_outcome : Result ⊤ TooManyCodes → Result ⊤ Refusal
pad_outcome (Ok tt) = Ok tt
pad_outcome (Err e) = Err (refusal 27)
