pub mod Rising
pub mod Laid
pub mod Searches
pub mod ByteWords
pub mod Chained
