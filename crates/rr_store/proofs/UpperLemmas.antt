-- The block that migration adds: its lines are good ones, and its key has no old bytes.
use Rattle.std.proofs.Common.{◌≡◌, ℕ, Option, Some, None, Result, Err, IfOk, IfSome, Bool, true}
use Rattle.std.proofs.Common.{false, not, ◌&&◌, List, [], ◌∷◌, codes, Ok, refl, sym, ap, subst, ◌∙◌}
use Rattle.std.proofs.Common.{arith}
use Rattle.std.specs.List.{list_all, list_any}
use Rattle.std.proofs.lemmas.Bool.{and_parts}
use Rattle.std.proofs.lemmas.Bool.Decides.{nat_tests}
use Rattle.rr_bytes.specs.Blanks.{is_blank_or_line_feed, is_line_feed}
use Rattle.rr_bytes.specs.NameBytes.{begins_with_letter, ends_with_alphanumeric, is_name}
use Rattle.rr_bytes.specs.NameBytes.{is_name_byte}
use Rattle.rr_bytes.specs.Trims.{before_trimmed, trim_end, trim_start}
use Rattle.rr_text.specs.Bytes.{is_refused}
use Rattle.rr_text.specs.Fields.{AreFields, Field, IsLine}
use Rattle.rr_number.specs.Names.{IsUpperName}
use Rattle.rr_object.specs.Objects.{Obj}
use Rattle.rr_object.specs.Readings.{object_of}
use Rattle.rr_object.proofs.Parsed.{kept_paragraph, of_any_source}
use Rattle.rr_store.specs.Maps.{IsObjectOf}
use Rattle.rr_store.specs.Migrating.{upper_block}

-- bytes of names are no blanks and no control bytes
name_unblank : (b : ℕ) → is_name_byte b ≡ true → is_blank_or_line_feed b ≡ false
name_unblank b is = grind (arith, nat_tests)

name_line_feed : (b : ℕ) → is_name_byte b ≡ true → is_line_feed b ≡ false
name_line_feed b is = grind (arith, nat_tests)

name_refused : (b : ℕ) → is_name_byte b ≡ true → is_refused b ≡ false
name_refused b is = grind (arith, nat_tests)

module _ (p q : ℕ → Bool) (apart : (b : ℕ) → p b ≡ true → q b ≡ false) where
  none_passes : (bs : List ℕ) → list_all p bs ≡ true → list_any q bs ≡ false
  none_passes [] all = refl
  none_passes (b ∷ bs) all = let parts = and_parts (p b) (list_all p bs) all in
      rw (apart b parts.0, none_passes bs parts.1) refl

  start_kept : (bs : List ℕ) → list_all p bs ≡ true → trim_start q bs ≡ bs
  unfolding trim_start
  start_kept [] all = refl
  start_kept (b ∷ bs) all = rw (apart b (and_parts (p b) (list_all p bs) all).0) refl

  end_kept : (bs : List ℕ) → list_all p bs ≡ true → trim_end q bs ≡ bs
  unfolding trim_end
  end_kept [] all = refl
  end_kept (b ∷ []) all = rw (apart b (and_parts (p b) true all).0) refl
  end_kept (b ∷ (c ∷ cs)) all = ap (before_trimmed q b)
      (end_kept (c ∷ cs) (and_parts (p b) (list_all p (c ∷ cs)) all).1)

name_line : (name : List ℕ) → list_all is_name_byte name ≡ true → IsLine name
name_line name all = record {
  trimmed = ap (trim_end is_blank_or_line_feed) (start_kept is_name_byte is_blank_or_line_feed
      name_unblank name all) ∙ end_kept is_name_byte is_blank_or_line_feed name_unblank name all;
  unbroken = ap not (none_passes is_name_byte is_line_feed name_line_feed name all);
  clean = ap not (none_passes is_name_byte is_refused name_refused name all);
}

name_bytes : (name : List ℕ) → IsUpperName name → list_all is_name_byte name ≡ true
unfolding is_name
name_bytes name is =
    (and_parts (list_all is_name_byte name) (begins_with_letter name && ends_with_alphanumeric
    name) (and_parts _ _ is.spelled).1).0

block_line : IsLine (codes "AS65536 - AS4294967295")
unfolding trim_start trim_end
block_line = record { trimmed = refl; unbroken = refl; clean = refl }

-- the lines of the block are good ones
pub upper_fields : (root source : List ℕ) (fields : List Field) → IsUpperName root →
    IsUpperName source → fields ≡ upper_block root source → AreFields fields
upper_fields root source fields of_root of_source same =
    subst AreFields (sym same) (
      record { named = refl; lower = refl; some = omega arith; good = (block_line, tt) },
      (
        record {
          named = refl;
          lower = refl;
          some = omega arith;
          good =
              (name_line root (name_bytes root of_root), tt);
        },
        (
          record {
            named = refl;
            lower = refl;
            some = omega arith;
            good =
                (name_line source (name_bytes source of_source), tt);
          },
          tt,
        ),
      ),
    )

-- an object that was read is what its own paragraph reads as
pub as_read : (source : List ℕ) (fields : List Field) (object : Obj) → object_of fields source
    ≡ Ok object → AreFields fields → IsObjectOf source object
as_read source fields object read good =
    let same : object.paragraph ≡ fields = kept_paragraph fields object
    (of_any_source fields source object read) in
    record {
      fields = subst AreFields (sym same) good;
      read =
          subst (λ fs. object_of fs source ≡ Ok object) (sym same) read;
    }

pub some_as_read : {E : Type 0} (source : List ℕ) (fields : List Field) (r : Result (Option Obj) E)
    → IfOk r (λ read. IfSome read (λ object. object_of fields source ≡ Ok object)) →
    AreFields fields
    → IfOk r (λ read. IfSome read (IsObjectOf source))
some_as_read source fields (Ok (Some object)) h good = as_read source fields object h good
some_as_read source fields (Ok None) h good = tt
some_as_read source fields (Err e) h good = tt
