-- What migration makes of tables of version 1 is a list of objects of the source.
use Rattle.std.proofs.Common.{◌≡◌, ◌≢◌, ℕ, true, false, List, [], ◌∷◌, ◌++◌, None, Ok, Result, refl}
use Rattle.std.proofs.Common.{sym, ap, ◌∙◌}
use Rattle.std.specs.Prelude.{is_some}
use Rattle.std.specs.List.{AllByRecursion}
use Rattle.sqlite_trees.proofs.ListLemmas.{all-append, all_of, all_weaker, ascending-append}
use Rattle.sqlite.specs.Effect.{Database}
use Rattle.rr_bytes.specs.Cuts.{cut_at}
use Rattle.rr_bytes.specs.Trims.{trim_end, trim_start}
use Rattle.rr_text.specs.Meanings.{value_meaning}
use Rattle.rr_number.specs.AsNumbers.{as_number_of}
use Rattle.rr_number.specs.AsSpans.{as_span_of}
use Rattle.rr_number.specs.Dashes.{dashed_of}
use Rattle.rr_number.specs.EndsTexts.{ends_between}
use Rattle.rr_number.specs.Numerals.{number_of}
use Rattle.rr_number.specs.Spans.{Ends}
use Rattle.rr_object.specs.declared.object_fault.ObjectFault.{ObjectFault}
use Rattle.rr_object.specs.declared.key.Key.{Key}
use Rattle.rr_object.specs.declared.key.Key.TheVariants.{AsBlock}
use Rattle.rr_object.specs.KeySpellings.{key_at, key_of, key_of_text}
use Rattle.rr_object.specs.Objects.{Obj}
use Rattle.rr_object.specs.OldKeys.{old_key_bytes}
use Rattle.rr_object.specs.Readings.{object_of}
use Rattle.rr_object.proofs.Parsed.{kept_its_key, of_any_source}
use Rattle.rr_store.specs.Maps.{AreOldStored, IsObjectOf, current_form}
use Rattle.rr_store.specs.Migrating.{IsMigrated, has_mntner, upper_block}
use Rattle.rr_store.specs.MigratingParts.{IsRewritten}

upper_span : Ends
upper_span = record { first = 65536; last = 4294967295 }

upper_key : (root source : List ℕ) → key_of (upper_block root source) ≡ Ok (AsBlock upper_span)
unfolding key_of key_at key_of_text value_meaning trim_end trim_start as_span_of ends_between
    dashed_of cut_at as_number_of number_of upper_span
upper_key root source = refl

-- the block has no key of tables of version 1
no_old_key : old_key_bytes (AsBlock upper_span) ≡ None
unfolding upper_span
no_old_key = refl

same_key_of : (a b : Key) → ◌≡◌ {A = Result Key ObjectFault} (Ok a) (Ok b) → a ≡ b
same_key_of a b e = cc

upper_object_key : (root source : List ℕ) (upper : Obj) → object_of (upper_block root source)
    source ≡ Ok upper → upper.key ≡ AsBlock upper_span
upper_object_key root source upper read =
    same_key_of upper.key (AsBlock upper_span)
    (sym (kept_its_key (upper_block root source) upper (of_any_source (upper_block root source)
    source upper read)) ∙ upper_key root source)

-- so no object of such tables has its key
other_key : (object upper : Obj) → upper.key ≡ AsBlock upper_span →
    is_some (old_key_bytes object.key) ≡ true → object.key ≢ upper.key
other_key object upper is formed same =
    let none : old_key_bytes object.key ≡ None = ap old_key_bytes (same ∙ is) ∙ no_old_key in
    let never : false ≡ true = sym (ap is_some none) ∙ formed in
    cc

pub migrated : (root source : List ℕ) (objects : List Obj) (old new : Database) →
    AreOldStored source objects old → has_mntner root objects ≡ true → IsRewritten root source
    objects old new → IsMigrated root source old new
migrated root source objects old new before registered after =
    let key = upper_object_key root source after.upper after.read in
    record {
      objects = objects;
      upper = after.upper;
      before = before;
      registered = registered;
      read = after.read;
      after = record {
        rows = after.filled.rows;
        version = after.filled.version;
        formed = all_of (λ o. is_some (current_form o.key) ≡ true) (λ o. refl)
            (objects ++ after.upper ∷ []);
        of_source = all-append (IsObjectOf source) objects (after.upper ∷ []) before.of_source
            (after.of_source, tt);
        apart = ascending-append (λ a b. a.key ≢ b.key) objects (after.upper ∷ []) before.apart
            (tt, tt)
            (all_weaker (λ o. is_some (old_key_bytes o.key) ≡ true)
            (λ o. AllByRecursion (λ b. o.key ≢ b.key) (after.upper ∷ []))
            (λ o formed. (other_key o after.upper key formed, tt)) objects before.formed);
      };
      others = after.others;
    }
