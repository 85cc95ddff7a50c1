pub mod Holding
pub mod Renaming
pub mod Swapping
pub mod BaseImages
pub mod Scripts
pub mod Serving
pub mod HandleMaps
pub mod RowNumbers
pub mod MappedValues
pub mod Classed
pub mod Refusing
pub mod Reaching
pub mod Lives
mod Plans
