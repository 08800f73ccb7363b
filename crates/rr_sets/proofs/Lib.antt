pub mod ByReference
pub mod Numbers
pub mod RangeLists
pub mod ReferenceLists
pub mod ReferenceOrder
pub mod Expanding
pub mod Looking
