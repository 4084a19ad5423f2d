-- Who calls a store (document 02, P9): "Insert, save and look-up name their party".
-- Public contracts rest on these definitions; they assume nothing.
use Rattle.std.specs.Prelude.{ℕ, ◌<◌, eqb, Option, Some, None}
use Rattle.text.specs.Bytes.{pick}
use Rattle.store.specs.declared.parties.Party.{Party}
use Rattle.store.specs.declared.parties.Party.TheVariants as P

-- whose lines a party's are: "the hall or an owner from 1 to 255", 0 being the hall; nobody's where 24 applies, "an
-- organiser's call with owner 0"
abbrev pub Owner : Type 0
Owner = Option ℕ

abbrev pub owner_of : Party → Owner
owner_of P.Hall = Some 0
owner_of (P.Organiser b) = pick (eqb b 0) None (Some b)

-- "24, [..] before every other check": what is answered then, or what the call does for its owner
abbrev pub by_owner : {A : Type 0} → Owner → A → (ℕ → A) → A
by_owner None away f = away
by_owner (Some o) away f = f o

-- an owner byte has 8 bits, as every value of the program has
abbrev pub EightBits : Party → Type 0
EightBits P.Hall = Unit {0}
EightBits (P.Organiser b) = b < 256

-- the party of a call in a list of calls
pub record Named : Type 0 where
  pub party : Party
  pub bits : EightBits party

-- P10: "each party, named by its owner byte (0 is the hall)", in a list of calls
pub record OwnerByte : Type 0 where
  pub byte : ℕ
  pub bits : byte < 256
