pub mod Crossing
pub mod KeysUnderSets
pub mod Order
pub mod Origins
pub mod Places
pub mod IndexedObjects
pub mod SetLists
