-- The part from the record's place on is changed, and the records before it stay.
use native.Mathlib.Omega.{arith}
use Rattle.store.proofs.SettingLaws.{write_within, write_changes, write_done}
use Rattle.store.proofs.sharing.write_share.Goals as goal

pub slice_bounds-change_share-count : goal.slice_bounds-change_share-count
slice_bounds-change_share-count c = omega (arith, write_within c.requires.1.1 c.share_place-at.ensures)

pub slice_bounds-change_share-start : goal.slice_bounds-change_share-start
slice_bounds-change_share-start c = omega (arith, write_within c.requires.1.1 c.share_place-at.ensures)

pub change_share-requires : goal.change_share-requires
change_share-requires c = write_changes c.requires.1.1 c.share_place-at.ensures

pub returns : goal.returns
returns c = λ g hs w. write_done w c.share_place-at.ensures c.change_share.ensures
