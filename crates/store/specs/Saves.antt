-- A save (document 01, 'Store', and the order of its refusals): what its own checks come to, by the map layer's build.
-- It names its party (document 02, P9).
-- Public contracts rest on these definitions; they assume nothing.
use Rattle.std.specs.Prelude.{◌≡◌, Bool, false, ◌||◌, List, ℕ, ltb, length, take, drop, Ok, Err, Result, ⊤}
use Rattle.text.specs.Bytes.{pick, first_of}
use Rattle.text.specs.Uuid.{Small}
use Rattle.text.specs.declared.uuid.Uuid.{Uuid}
use Rattle.line.specs.declared.mapping.Mapping.{Mapping}
use Rattle.line.specs.Maps.{empty_map}
use Rattle.line.specs.Reading.{reading_of, accepted_of}
use Rattle.map.specs.declared.mapping_data.MappingData.{MappingData}
use Rattle.map.specs.Build.{checks_of, built_line, built_map}
use Rattle.store.specs.Refusals.{save_number}
use Rattle.store.specs.declared.calls.Saved.{Saved}
use Rattle.text.specs.Search.{lf, first_text, platform_key}
use Rattle.store.specs.declared.parties.Party.{Party}
use Rattle.store.specs.Parties.{owner_of, by_owner}
use Rattle.store.specs.Book.{under, Attempt, refused, files, Saving}
use Rattle.store.specs.Store.{Done, unchanged, store_attempt}
use Rattle.store.specs.declared.calls.SaveError.TheVariants as Sv
use Rattle.store.specs.declared.calls.SaveError.{SaveError}
use Rattle.map.specs.declared.error.MappingError.{MappingError}

-- the arguments of a save but for its party
pub record SaveArgs : Type 0 where
  pub slots : MappingData
  pub buttons : List ℕ
  pub axes : List ℕ
  pub name : List ℕ
  pub uuid : Uuid

-- the same, in their order
abbrev pub save_args : MappingData → List ℕ → List ℕ → List ℕ → Uuid → SaveArgs
save_args d buttons axes name u = record { slots = d; buttons = buttons; axes = axes; name = name; uuid = u }

-- "saved name has LF or `platform:`": 22
abbrev pub unsaved_name : List ℕ → Bool
unsaved_name name = ltb (first_of lf name) (length name) || ltb (first_text platform_key name) (length name)

-- "A refused [..] save [..] returns the empty map"
abbrev pub refused_save : SaveError → Saved
refused_save e = record { answer = Err e; map = empty_map }

-- "save's map is build's"
abbrev pub accepted_save : Mapping → Saved
accepted_save m = record { answer = Ok tt; map = m }

-- "Save: as build without 18, then 22", and then 19, 21, P10's 25: an owner's save
abbrev pub attempt_after : ℕ → SaveArgs → Result ⊤ MappingError → Attempt Saved
attempt_after o a (Err e) = refused (refused_save (Sv.Refused e))
attempt_after o a (Ok _) =
    pick (unsaved_name a.name) (refused (refused_save Sv.UnsavedName))
    (files (under o a.uuid (built_line a.slots a.buttons a.axes a.name a.uuid))
    (accepted_save (built_map a.slots a.name)))

unfoldable pub attempt_of : ℕ → SaveArgs → Attempt Saved
attempt_of o a = attempt_after o a (checks_of a.slots a.buttons a.axes a.name)

-- a save that passes build's checks and 22: what comes then are 19, 21 and 25
pub record Passes (a : SaveArgs) : Type 0 where
  pub build : checks_of a.slots a.buttons a.axes a.name ≡ Ok tt
  pub name : unsaved_name a.name ≡ false

-- "Save builds a line and files it": 24, then "as build without 18, then 22, 19, 21", and 25
unfoldable pub store_save : List ℕ → List ℕ → Party → SaveArgs → Done Saved
store_save i t p a =
    by_owner (owner_of p) (unchanged i t (refused_save Sv.NoOwner))
    (λ o. store_attempt (refused_save Sv.Unsound) (refused_save Sv.NoRoom) (refused_save Sv.NoText) i t o (attempt_of o a))

-- "reading it with that save's button and axis lists gives the map, name, default flag (off) and hat flags (zero) that
-- the save returned"; the name is the bytes of the line at the map's name start and length
pub record ReadsBack (a : SaveArgs) (line : List ℕ) (v : Saved) : Type 0 where
  pub reading : reading_of line a.buttons a.axes ≡ accepted_of v.map
  pub name : take v.map.name_len (drop v.map.name_start line) ≡ a.name
  pub default_off : v.map.is_default ≡ false
  pub hats_zero : v.map.hats_mapped ≡ 0

-- a save in a list of calls: its UUID has 128 bits, as every value of the program has
pub record SaveCall : Type 0 where
  pub args : SaveArgs
  pub small : Small args.uuid

-- document 01's save
abbrev pub saving : Saving
saving = record {
  Args = SaveCall;
  Value = Saved;
  attempt = λ o c. attempt_of o c.args;
  nobody = refused_save Sv.NoOwner;
  unsound = refused_save Sv.Unsound;
  full = refused_save Sv.NoRoom;
  crowded = refused_save Sv.NoText;
  number = λ v. save_number v.answer;
  Reads = λ c. ReadsBack c.args;
}
