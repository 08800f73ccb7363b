mod AskedLemmas
mod FileLemmas
mod FoundLemmas
mod LineLemmas
mod ObjectRowLemmas
mod PlaceLemmas
mod SettingsLemmas
mod WritingLemmas
