-- What each text means under a schema that has the three tables.
use Rattle.std.proofs.Common.{[], ◌∷◌, codes, refl}
use Rattle.sqlite_schema.specs.declared.command.Command.TheVariants.{Delete, Select}
use Rattle.sqlite.specs.Listing.{understood}
use Rattle.sqlite_tied.specs.Compute.{everything}
use Rattle.rr_store.specs.Tables.{Layout}
use Rattle.rr_store.specs.Texts.{clear_meta, clear_named, clear_object, delete_name, delete_object}
use Rattle.rr_store.specs.Texts.{insert_meta, insert_named, insert_object, meta_numbers}
use Rattle.rr_store.specs.Texts.{named_numbers, object_numbers, select_meta, select_named}
use Rattle.rr_store.specs.Texts.{select_object, select_of_key, select_sorted_named}
use Rattle.rr_store.specs.Queries.{IsSqlOf, insert_into, alone, rowids_of, numbers_of, numbered_of}
use Rattle.rr_store.specs.Queries.{object_tests, name_tests, meta_query, of_key_query}
use Rattle.rr_store.specs.Queries.{sorted_named_query}

pub insert_meta_is : (l : Layout) → IsSqlOf l insert_meta (insert_into 0 2)
unfolding understood everything
insert_meta_is l = record { is = refl; plain = (refl, refl); unlisted = refl }

pub insert_object_is : (l : Layout) → IsSqlOf l insert_object (insert_into 1 3)
unfolding understood everything
insert_object_is l = record { is = refl; plain = (refl, refl); unlisted = refl }

pub insert_named_is : (l : Layout) → IsSqlOf l insert_named (insert_into 2 3)
unfolding understood everything
insert_named_is l = record { is = refl; plain = (refl, refl); unlisted = refl }

pub delete_object_is : (l : Layout) → IsSqlOf l delete_object
    (Delete 1 (alone (rowids_of 2 object_tests)))
unfolding understood everything
delete_object_is l = record { is = refl; plain = (refl, refl); unlisted = refl }

pub delete_name_is : (l : Layout) → IsSqlOf l delete_name
    (Delete 2 (alone (rowids_of 4 name_tests)))
unfolding understood everything
delete_name_is l = record { is = refl; plain = (refl, refl); unlisted = refl }

pub clear_meta_is : (l : Layout) → IsSqlOf l clear_meta (Delete 0 (alone (rowids_of 0 [])))
unfolding understood everything
clear_meta_is l = record { is = refl; plain = (refl, refl); unlisted = refl }

pub clear_object_is : (l : Layout) → IsSqlOf l clear_object (Delete 1 (alone (rowids_of 2 [])))
unfolding understood everything
clear_object_is l = record { is = refl; plain = (refl, refl); unlisted = refl }

pub clear_named_is : (l : Layout) → IsSqlOf l clear_named (Delete 2 (alone (rowids_of 4 [])))
unfolding understood everything
clear_named_is l = record { is = refl; plain = (refl, refl); unlisted = refl }

pub select_meta_is : (l : Layout) → IsSqlOf l select_meta
    (Select (alone (meta_query)) (codes "name" ∷ codes "value" ∷ []))
unfolding understood everything
select_meta_is l = record { is = refl; plain = (refl, refl); unlisted = refl }

pub select_object_is : (l : Layout) → IsSqlOf l select_object
    (Select (alone (numbered_of 2)) (codes "rowid" ∷ codes "class" ∷ codes "okey" ∷ codes "body"
    ∷ []))
unfolding understood everything
select_object_is l = record { is = refl; plain = (refl, refl); unlisted = refl }

pub select_of_key_is : (l : Layout) → IsSqlOf l select_of_key
    (Select (alone (of_key_query)) (codes "class" ∷ codes "okey" ∷ codes "body" ∷ []))
unfolding understood everything
select_of_key_is l = record { is = refl; plain = (refl, refl); unlisted = refl }

pub select_named_is : (l : Layout) → IsSqlOf l select_named
    (Select (alone (numbered_of 4)) (codes "rowid" ∷ codes "maintainer" ∷ codes "class"
    ∷ codes "okey" ∷ []))
unfolding understood everything
select_named_is l = record { is = refl; plain = (refl, refl); unlisted = refl }

pub select_sorted_named_is : (l : Layout) → IsSqlOf l select_sorted_named
    (Select (alone (sorted_named_query)) (codes "maintainer" ∷ codes "class" ∷ codes "okey" ∷ []))
unfolding understood everything
select_sorted_named_is l = record { is = refl; plain = (refl, refl); unlisted = refl }

pub meta_numbers_is : (l : Layout) → IsSqlOf l meta_numbers
    (Select (alone (numbers_of 0)) (codes "rowid" ∷ []))
unfolding understood everything
meta_numbers_is l = record { is = refl; plain = (refl, refl); unlisted = refl }

pub object_numbers_is : (l : Layout) → IsSqlOf l object_numbers
    (Select (alone (numbers_of 2)) (codes "rowid" ∷ []))
unfolding understood everything
object_numbers_is l = record { is = refl; plain = (refl, refl); unlisted = refl }

pub named_numbers_is : (l : Layout) → IsSqlOf l named_numbers
    (Select (alone (numbers_of 4)) (codes "rowid" ∷ []))
unfolding understood everything
named_numbers_is l = record { is = refl; plain = (refl, refl); unlisted = refl }
