-- What the indexed book keeps beside the objects of a registry.
use Rattle.rr_auth.specs.Registries.{Reg, Sound}
use Rattle.rr_book.specs.SetIndexes.{HasReferrers}
use Rattle.rr_book.specs.declared.set_index.SetIndex.{SetIndex}
use Rattle.rr_index.specs.NameIndexes.{HasNames}
use Rattle.rr_index.specs.NamingIndexes.{HasNamings}
use Rattle.rr_index.specs.OriginIndexes.{HasOrigins}
use Rattle.rr_index.specs.SpanIndexes.{HasSpans}
use Rattle.rr_index.specs.declared.indexes.Indexes.{Indexes}
use Rattle.rr_index.specs.declared.name_index.NameIndex.{NameIndex}
use Rattle.rr_index.specs.declared.origin_index.OriginIndex.{OriginIndex}
use Rattle.rr_index.specs.declared.span_index.SpanIndex.{SpanIndex}

-- The spans, the origins, the mntners' names and the referrers are those of the registry's objects
-- (profile).
pub record HasKeys (r : Reg) (of_spans : SpanIndex) (of_origins : OriginIndex)
    (of_names : NameIndex) (of_sets : SetIndex) : Type 0 where
  pub spans : HasSpans r of_spans.inetnums of_spans.blocks of_spans.routes
  pub origins : HasOrigins r of_origins.routes
  pub names : HasNames r of_names.keys
  pub referrers : HasReferrers r of_sets.keys

-- The spans, the origins, the mntners' names and the referrers are those of the registry's objects.
-- So are the counts of how often these name each maintainer (profile).
pub record HasIndexes (r : Reg) (kept : Indexes) : Type 0 where
  pub keys : HasKeys r kept.spans kept.origins kept.names kept.referrers
  pub namings : HasNamings r kept.namings.counts

-- A registry is sound, and the indexes are those of its objects (profile).
pub record IsIndexedBy (r : Reg) (kept : Indexes) : Type 0 where
  pub sound : Sound r
  pub indexes : HasIndexes r kept
