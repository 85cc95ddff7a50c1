pub mod Complete
pub mod Cuts
pub mod Digits
pub mod Feeds
pub mod Marks
pub mod Sound
pub mod Texts
