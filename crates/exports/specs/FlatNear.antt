-- Answers of the look-up that also tries a UUID without its checksum, as numbers at the C boundary.
-- The contracts of the exports rest on these definitions; they assume nothing.
use Rattle.std.specs.Prelude.{ℕ, Option, Some, None, Result, Ok, Err}
use Rattle.store.specs.declared.calls.LookError.{LookError}
use Rattle.store.specs.declared.near.Nearness.{Nearness}
use Rattle.store.specs.declared.near.Nearness.TheVariants as N
use Rattle.store.specs.Near.{near_outcome}
use Rattle.exports.specs.Flat.{flat_outcome}
use Rattle.exports.specs.declared.near_calls.FlatNearLook.{FlatNearLook}

-- 0 nothing, 1 exact, 2 near
abbrev pub near_how : Result (Option Nearness) LookError → ℕ
near_how (Ok (Some N.Exact)) = 1
near_how (Ok (Some N.Near)) = 2
near_how (Ok None) = 0
near_how (Err e) = 0

abbrev pub flat_near_look : Result (Option Nearness) LookError → FlatNearLook
flat_near_look l = record { refusal = flat_outcome (near_outcome l); how = near_how l }
