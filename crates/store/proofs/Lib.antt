-- The laws of the store layer, from the bytes up to the guarantee. What a reader may want first: RoomLaws, EncodesLaws,
-- RefusedLaws, FoundLaws, Saves, Samples and History.
pub mod BoolLaws
pub mod HeldLaws
pub mod LimitLaws
pub mod BufferLaws
pub mod ByteLaws
pub mod WriteLaws
pub mod ChainLaws
pub mod TreeLaws
pub mod PutLaws
pub mod OrderLaws
pub mod OnceLaws
pub mod BodyLaws
pub mod RecordLaws
pub mod HeadLaws
pub mod RowLaws
pub mod DecodeLaws
pub mod SoundLaws
pub mod ShareRecordLaws
pub mod ShareLaws
pub mod ShareBufferLaws
pub mod ClaimLaws
pub mod RoomLaws
pub mod FilingLaws
pub mod LivingLaws
pub mod BorderLaws
pub mod MovedLaws
pub mod UseLaws
pub mod SettleLaws
pub mod ClosingLaws
pub mod ClearLaws
pub mod LineLaws
pub mod OtherLaws
pub mod WantedLaws
pub mod BookLaws
pub mod TableLaws
pub mod LoadLaws
pub mod SurveyLaws
pub mod LookLaws
pub mod SettingLaws
pub mod ShareCallLaws
pub mod StruckLaws
mod RemovingLaws
pub mod StandingLaws
pub mod FileRowLaws
pub mod PartLaws
pub mod InsertLaws
pub mod BatchLaws
pub mod OneLaws
pub mod PartyLaws
pub mod SaveLaws
pub mod EncodesLaws
pub mod OlderLaws
pub mod StoreLaws
pub mod FilingsLaws
pub mod SaveFilingLaws
pub mod NextLaws
pub mod SaveCallLaws
pub mod FrontLaws
pub mod WalkLaws
pub mod RefusedLaws
pub mod Saves
pub mod FoundLaws
pub mod NearLaws
pub mod FormLaws
pub mod ToldLaws
pub mod IsolationLaws
pub mod SharesKeptLaws
pub mod RemovedLaws
pub mod StepLaws
pub mod CutLaws
pub mod WalkedLaws
mod Samples
mod Worked
mod History
mod NearSamples
mod PartySamples
mod ShareSamples
mod RoomSamples
mod FarSamples
mod WalkSamples
mod RemovingSamples
