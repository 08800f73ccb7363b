pub mod Books
pub mod Listings
pub mod Private
pub mod SetIndexes
pub mod SetLists
