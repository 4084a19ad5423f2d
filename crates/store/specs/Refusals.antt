-- "Where an answer is an enum, a definition states this paper's number and values for every one of its cases.": number,
-- place and code of each answer of the store.
-- Public contracts rest on these definitions; they assume nothing.
use Rattle.std.specs.Prelude.{ℕ, Bool, Result, Ok, Err, ⊤}
use Rattle.line.specs.Refusals.{refusal, refusal_at}
use Rattle.map.specs.Refusals.{mapping_refusal}
use Rattle.line.specs.declared.refusal.Refusal.{Refusal}
use Rattle.store.specs.declared.sharing.ShareUse.{ShareUse}
use Rattle.store.specs.declared.calls.StoreError.TheVariants as E
use Rattle.store.specs.declared.calls.SaveError.TheVariants as Sv
use Rattle.store.specs.declared.calls.LookError.TheVariants as L
use Rattle.store.specs.declared.calls.StoreError.{StoreError}
use Rattle.store.specs.declared.calls.SaveError.{SaveError}
use Rattle.store.specs.declared.calls.LookError.{LookError}
use Rattle.store.specs.declared.sharing.Unsound.{Unsound}

-- clear, insert and a share's setting: "10 at the length of the longest valid run of whole characters from the first byte on; [..] the
-- rest none"
abbrev pub store_refusal : StoreError → Refusal
store_refusal (E.NotUtf8 place) = refusal_at 10 place
store_refusal E.Unsound = refusal 19
store_refusal E.LineTooLong = refusal 20
store_refusal E.NoRoom = refusal 21
store_refusal E.BufferTooLarge = refusal 23
store_refusal E.NoOwner = refusal 24
store_refusal E.NoText = refusal 25
store_refusal E.ShareTooLarge = refusal 26

abbrev pub store_outcome : Result ⊤ StoreError → Result ⊤ Refusal
store_outcome (Ok u) = Ok tt
store_outcome (Err e) = Err (store_refusal e)

-- save: 24, build's refusals, with the place of 10 and the code of 15, "then 22, 19, 21", and 25
abbrev pub save_refusal : SaveError → Refusal
save_refusal (Sv.Refused e) = mapping_refusal e
save_refusal Sv.UnsavedName = refusal 22
save_refusal Sv.Unsound = refusal 19
save_refusal Sv.NoRoom = refusal 21
save_refusal Sv.NoOwner = refusal 24
save_refusal Sv.NoText = refusal 25

abbrev pub save_outcome : Result ⊤ SaveError → Result ⊤ Refusal
save_outcome (Ok u) = Ok tt
save_outcome (Err e) = Err (save_refusal e)

-- a look-up: "one says found, none or 19", and before these 24
abbrev pub look_refusal : LookError → Refusal
look_refusal L.Unsound = refusal 19
look_refusal L.NoOwner = refusal 24

abbrev pub look_outcome : Result Bool LookError → Result Bool Refusal
look_outcome (Ok held) = Ok held
look_outcome (Err e) = Err (look_refusal e)

-- P10: what is told of a party's share, or 19
abbrev pub unsound_refusal : Unsound → Refusal
unsound_refusal u = refusal 19

abbrev pub told_outcome : Result ShareUse Unsound → Result ⊤ Refusal
told_outcome (Ok u) = Ok tt
told_outcome (Err e) = Err (unsound_refusal e)

-- document 01's number of an outcome, 0 where nothing is refused
abbrev pub outcome_number : Result ⊤ Refusal → ℕ
outcome_number (Ok _) = 0
outcome_number (Err r) = r.number

-- the numbers of clear and insert, and of save
abbrev pub number : Result ⊤ StoreError → ℕ
number a = outcome_number (store_outcome a)

abbrev pub save_number : Result ⊤ SaveError → ℕ
save_number a = outcome_number (save_outcome a)
