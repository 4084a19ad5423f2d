-- The steps of walks over an index and over a text, as numbers at the C boundary.
-- The contracts of the exports rest on these definitions; they assume nothing.
use Rattle.std.specs.Prelude.{ℕ, true, false, Option, Some, None}
use Rattle.store.specs.declared.walk.Cut.{Cut}
use Rattle.store.specs.declared.walk.LineRecord.{LineRecord}
use Rattle.store.specs.declared.walk.Record.{Record}
use Rattle.store.specs.declared.walk.Record.TheVariants as R
use Rattle.store.specs.declared.walk.ShareRecord.{ShareRecord}
use Rattle.store.specs.declared.walk.Stands.{Stands}
use Rattle.exports.specs.declared.walk_calls.FlatCut.{FlatCut}
use Rattle.exports.specs.declared.walk_calls.FlatRecord.{FlatRecord}

-- a line's record; its share is 0
abbrev pub flat_line_record : LineRecord → ℕ → FlatRecord
flat_line_record l size = record {
  found = true;
  is_share = false;
  owner = l.key.owner;
  id = l.key.uuid;
  offset = l.off;
  len = l.len;
  share = 0;
  size = size;
}

-- a share's record; what it has of a line is 0
abbrev pub flat_share_record : ShareRecord → ℕ → FlatRecord
flat_share_record s size = record {
  found = true;
  is_share = true;
  owner = s.owner;
  id = record { high = 0; low = 0 };
  offset = 0;
  len = 0;
  share = s.share;
  size = size;
}

abbrev pub flat_told : Record → ℕ → FlatRecord
flat_told (R.Line l) size = flat_line_record l size
flat_told (R.Share s) size = flat_share_record s size

-- all is 0 where no record stands
abbrev pub flat_record : Option Stands → FlatRecord
flat_record (Some r) = flat_told r.told r.size
flat_record None = record {
  found = false;
  is_share = false;
  owner = 0;
  id = record { high = 0; low = 0 };
  offset = 0;
  len = 0;
  share = 0;
  size = 0;
}

-- all is 0 where no line follows
abbrev pub flat_cut : Option Cut → FlatCut
flat_cut (Some c) = record { found = true; len = c.len; next = c.next }
flat_cut None = record { found = false; len = 0; next = 0 }
