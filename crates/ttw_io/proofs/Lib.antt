pub mod ReadingLemmas
pub mod WritingLemmas
pub mod BufferLemmas
pub mod LineReaderLemmas
