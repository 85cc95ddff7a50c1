pub mod Hashing
pub mod FreeIndices
pub mod Numbers
pub mod Made
pub mod Placed
pub mod Entering
