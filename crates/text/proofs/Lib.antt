pub mod ListLaws
pub mod LentLaws
pub mod BytesLaws
pub mod SeekLaws
pub mod Utf8Laws
pub mod LongestLaws
pub mod AsciiLaws
pub mod UuidLaws
pub mod SpellingLaws
pub mod SmallLaws
pub mod ChecksumLaws
pub mod DecimalLaws
mod Samples
