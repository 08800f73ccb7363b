pub mod Blanks
pub mod ByteSets
pub mod Cuts
pub mod Digits
pub mod LetterCase
pub mod NameBytes
pub mod Parts
pub mod Trims
