pub mod InsertFaults
pub mod NestParts
pub mod PrefixTrees
pub mod SpanMapLaws
pub mod SpanMaps
pub mod SpanNests
pub mod TreeParts
