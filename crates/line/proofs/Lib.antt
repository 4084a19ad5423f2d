-- elements, tables, maps
pub mod PickLaws
pub mod TableLaws
pub mod KeyLaws
pub mod PlaceLaws
pub mod MapLaws
pub mod PutLaws
pub mod ViewLaws
pub mod NumberLaws
pub mod TurnLaws
pub mod DraftLaws
pub mod OfNumbersLaws
-- the walker and the reading
pub mod CountLaws
pub mod CutLaws
pub mod FieldLaws
pub mod TileLaws
pub mod WalkLaws
pub mod KindLaws
pub mod FormLaws
pub mod TokenLaws
pub mod ReadingLaws
pub mod CallLaws
pub mod ShapeLaws
pub mod RefusalLaws
-- what a built line reads as
pub mod PairLaws
pub mod FoldLaws
pub mod JoinLaws
pub mod IdentLaws
pub mod ReadBack
-- pairs in another order
pub mod AcceptedLaws
pub mod WithinLaws
pub mod OverfullLaws
pub mod ElevenLaws
pub mod PermutationLaws
pub mod CommaLaws
pub mod RegroupLaws
pub mod LeastLaws
-- document 01's samples, and two of regrouped lines
pub mod Samples
pub mod RegroupSamples
