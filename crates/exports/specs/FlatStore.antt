-- Who calls the store, and its answers, as numbers at the C boundary.
-- The contracts of the exports rest on these definitions; they assume nothing.
use Rattle.std.specs.Prelude.{Bool, false, Result, Ok, Err, ⊤}
use Rattle.text.specs.Bytes.{pick}
use Rattle.store.specs.declared.parties.Party.{Party}
use Rattle.store.specs.declared.parties.Party.TheVariants as Pa
use Rattle.line.specs.declared.refusal.Refusal.{Refusal}
use Rattle.store.specs.declared.calls.StoreError.{StoreError}
use Rattle.store.specs.declared.calls.SaveError.{SaveError}
use Rattle.store.specs.declared.calls.LookError.{LookError}
use Rattle.store.specs.declared.calls.Inserted.{Inserted}
use Rattle.store.specs.declared.calls.Saved.{Saved}
use Rattle.store.specs.Refusals.{store_outcome, save_outcome, look_outcome}
use Rattle.exports.specs.declared.flat.FlatRefusal.{FlatRefusal}
use Rattle.exports.specs.declared.flat_party.FlatParty.{FlatParty}
use Rattle.exports.specs.declared.store_calls.FlatInserted.{FlatInserted}
use Rattle.exports.specs.declared.store_calls.FlatLook.{FlatLook}
use Rattle.exports.specs.declared.store_calls.FlatSaved.{FlatSaved}
use Rattle.exports.specs.Flat.{no_refusal, flat_outcome}
use Rattle.exports.specs.FlatMaps.{flat_mapping}

-- an organiser by its owner byte, or the hall, whatever that byte is
abbrev pub party_in : FlatParty → Party
party_in p = pick p.organiser (Pa.Organiser p.owner) Pa.Hall

abbrev pub flat_store_answer : Result ⊤ StoreError → FlatRefusal
flat_store_answer a = flat_outcome (store_outcome a)

abbrev pub flat_inserted : Inserted → FlatInserted
flat_inserted i =
    record { refusal = flat_store_answer i.answer; count = i.count; not_simple = i.not_simple }

-- found, none, or the refusal
abbrev pub flat_looked : Result Bool Refusal → FlatLook
flat_looked (Ok held) = record { refusal = no_refusal; found = held }
flat_looked (Err r) = record { refusal = flat_outcome (Err r); found = false }

abbrev pub flat_look : Result Bool LookError → FlatLook
flat_look l = flat_looked (look_outcome l)

abbrev pub flat_save_answer : Result ⊤ SaveError → FlatRefusal
flat_save_answer a = flat_outcome (save_outcome a)

abbrev pub flat_saved : Saved → FlatSaved
flat_saved s = record { refusal = flat_save_answer s.answer; map = flat_mapping s.map }
