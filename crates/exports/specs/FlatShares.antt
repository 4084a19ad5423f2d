-- What is told of a party's share, as numbers at the C boundary.
-- The contracts of the exports rest on these definitions; they assume nothing.
use Rattle.std.specs.Prelude.{Result, Ok, Err}
use Rattle.store.specs.declared.sharing.ShareUse.{ShareUse}
use Rattle.store.specs.declared.sharing.Unsound.{Unsound}
use Rattle.store.specs.Refusals.{told_outcome}
use Rattle.exports.specs.Flat.{flat_outcome}
use Rattle.exports.specs.declared.share_calls.FlatShare.{FlatShare}

-- share and use are 0 where nothing is told
abbrev pub use_told : Result ShareUse Unsound → ShareUse
use_told (Ok u) = u
use_told (Err e) = record { share = 0; used = 0 }

abbrev pub flat_share : Result ShareUse Unsound → FlatShare
flat_share t = record { refusal = flat_outcome (told_outcome t); share = (use_told t).share; used = (use_told t).used }
