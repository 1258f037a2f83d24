pub mod TextLemmas
pub mod SpellingLemmas
pub mod RangesLemmas
pub mod FeedLemmas
pub mod WritingLemmas
pub mod ScriptLemmas
