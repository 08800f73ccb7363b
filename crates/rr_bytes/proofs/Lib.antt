pub mod CutLemmas
pub mod DigitLemmas
pub mod JoinLemmas
pub mod LetterCaseLemmas
pub mod PlaceLemmas
pub mod TrimLemmas
