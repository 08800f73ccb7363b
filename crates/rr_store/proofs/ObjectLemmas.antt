-- Rows and the objects that they are read as.
use Rattle.std.proofs.Common.{◌≡◌, Option, Some, None, Result, IfSome, ℕ, ◌<◌, List, [], ◌∷◌, ◌++◌}
use Rattle.std.proofs.Common.{length, Ok, refl, sym, ap, subst, ◌∙◌, arith}
use Rattle.sqlite_value.specs.Order.{Row}
use Rattle.rr_text.specs.Fields.{Field, AreFields}
use Rattle.rr_text.specs.CanonicalText.{canonical}
use Rattle.rr_text.proofs.RoundTrip.{canonical_determines}
use Rattle.sqlite_value.specs.declared.value.Value.TheVariants.{Blob}
use Rattle.sqlite_value.specs.Order.{column}
use Rattle.rr_object.specs.Objects.{Obj, names_of}
use Rattle.rr_object.specs.Readings.{object_of, obj_of, ReadsAs}
use Rattle.rr_object.specs.KeySpellings.{key_of}
use Rattle.rr_object.specs.declared.key.Key.{Key}
use Rattle.rr_object.proofs.Parsed.{of_any_source, kept_its_key, kept_paragraph}
use Rattle.rr_store.specs.Entries.{entry_of, object_row, once}
use Rattle.rr_store.specs.Maps.{IsObject, IsObjectOf, KeyForm}
use Rattle.rr_store.proofs.MapLists.{of_any}
use Rattle.rr_store.specs.ReadingParts.{AreRead, IsRowOf}

module _ (form : KeyForm) (source : List ℕ) where
  pub read_more : (rows : List Row) (objects : List Obj) (row : Row) (object : Obj) →
      AreRead form source rows objects → IsObjectOf source object → IsRowOf form object row
      → AreRead form source (rows ++ row ∷ []) (objects ++ object ∷ [])
  read_more [] [] row object read is of = ((is, of), tt)
  read_more [] (o ∷ os) row object read is of = absurd read
  read_more (r ∷ rows) [] row object read is of = absurd read
  read_more (r ∷ rows) (o ∷ os) row object read is of =
      (read.0, read_more rows os row object read.1 is of)

  pub read_between : (before : List Row) (row : Row) (after : List Row) (objects : List Obj) →
      AreRead form source (before ++ row ∷ after) objects
      → (object : Obj) × IsObjectOf source object × IsRowOf form object row
  read_between [] row after [] read = absurd read
  read_between [] row after (o ∷ os) read = (o, read.0.0, read.0.1)
  read_between (r ∷ rows) row after [] read = absurd read
  read_between (r ∷ rows) row after (o ∷ os) read = read_between rows row after os read.1

no_key : (key : Key) → key_of [] ≡ Ok key → ⊥
unfolding key_of
no_key key e = cc

-- an object has an attribute
pub any_attribute : (fields : List Field) (object : Obj) → obj_of fields ≡ Ok object →
    0 < length fields
any_attribute [] object e = absurd (no_key object.key (kept_its_key [] object e))
any_attribute (field ∷ fields) object e = omega arith

pub has_attribute : (fields : List Field) (source : List ℕ) (object : Obj) →
    object_of fields source ≡ Ok object → 0 < length fields
has_attribute fields source object e = any_attribute fields object
    (of_any_source fields source object e)

-- a paragraph that reads as an object is the object's
pub read_whole : (source text : List ℕ) (fields : List Field) (object : Obj) →
    ReadsAs source fields object → AreFields fields → canonical fields ≡ text →
    IsObjectOf source object × (canonical object.paragraph ≡ text)
read_whole source text fields object read good same =
    let kept : object.paragraph ≡ fields = kept_paragraph fields object
    (of_any_source fields source object read) in (
      record {
        fields = subst AreFields (sym kept) good;
        read =
            subst (λ fs. ReadsAs source fs object) (sym kept) read;
      },
      ap canonical kept ∙ same,
    )

pub each_whole : (source text : List ℕ) (fields : List Field) (read : Option Obj) →
    IfSome read (λ object. ReadsAs source fields object) → AreFields fields → canonical fields
    ≡ text
    → IfSome read (λ object. IsObjectOf source object × (canonical object.paragraph ≡ text))
each_whole source text fields (Some object) h good same = read_whole source text fields object h
    good same
each_whole source text fields None h good same = tt

pub any_whole : (source text : List ℕ) (fields : List Field) (read : Option Obj) →
    IfSome read (λ object. ReadsAs source fields object) → AreFields fields → canonical fields
    ≡ text
    → IfSome read (λ object. IsObject object × (canonical object.paragraph ≡ text))
any_whole source text fields (Some object) h good same = let whole = read_whole source text fields
    object h good same in (of_any source object whole.0, whole.1)
any_whole source text fields None h good same = tt

-- objects of one source that have one text are one
pub same_object : (source : List ℕ) (a b : Obj) → IsObjectOf source a → IsObjectOf source b →
    canonical a.paragraph ≡ canonical b.paragraph → a ≡ b
same_object source a b p q same =
    let one : a.paragraph ≡ b.paragraph = canonical_determines a.paragraph b.paragraph p.fields
    q.fields same in
    let both : ◌≡◌ {A = Result Obj _} (Ok a) (Ok b) = sym p.read ∙ ap (λ fs. object_of fs source)
    one ∙ q.read in
    cc

one_object : (a b : Obj) → IsObject a → IsObject b → canonical a.paragraph ≡ canonical b.paragraph
    → a ≡ b
one_object a b p q same =
    let one : a.paragraph ≡ b.paragraph = canonical_determines a.paragraph b.paragraph p.fields
    q.fields same in
    let both : ◌≡◌ {A = Result Obj _} (Ok a) (Ok b) = sym p.read ∙ ap obj_of one ∙ q.read in
    cc

-- the names of the object whose text a row has are those of the object whose row it is
pub names_told : (a b : Obj) (row : Row) (text : List ℕ) (names : List (List ℕ)) → IsObject a →
    canonical a.paragraph ≡ text → column row 2 ≡ Blob text → names ≡ once (names_of a)
    → IsObject b → row ≡ object_row (entry_of b) → names ≡ once (names_of b)
names_told a b row text names is_a of third told is_b row_is =
    let both : Blob (canonical b.paragraph) ≡ Blob text = ap (λ r. column r 2) (sym row_is)
    ∙ third in
    let texts : canonical b.paragraph ≡ text = cc in
    told ∙ ap (λ o. once (names_of o)) (one_object a b is_a is_b (of ∙ sym texts))

-- and the text that a row has is that of the object whose row it is
pub text_told : (object : Obj) (row : Row) (text : List ℕ) → column row 2 ≡ Blob text →
    row ≡ object_row (entry_of object) → canonical object.paragraph ≡ text
text_told object row text third is = let both : Blob (canonical object.paragraph) ≡ Blob text =
    ap (λ r. column r 2) (sym is) ∙ third in cc

-- the text in an object's row
pub text_of_row : (form : KeyForm) (object : Obj) (r : Row) (text : List ℕ) → IsRowOf form object r
    → column r 2 ≡ Blob text → canonical object.paragraph ≡ text
text_of_row form object r text of third = let both : Blob (canonical object.paragraph) ≡ Blob text
    = ap (λ r. column r 2) (sym of.is) ∙ third in cc

-- rows are those of one list of objects alone
pub one_list : (form : KeyForm) (source : List ℕ) (rows : List Row) (objects others : List Obj) →
    AreRead form source rows objects → AreRead form source rows others → objects ≡ others
one_list form source [] [] [] p q = refl
one_list form source [] [] (x ∷ xs) p q = absurd q
one_list form source [] (o ∷ os) others p q = absurd p
one_list form source (r ∷ rows) [] others p q = absurd p
one_list form source (r ∷ rows) (o ∷ os) [] p q = absurd q
one_list form source (r ∷ rows) (o ∷ os) (x ∷ xs) p q =
    let both : Blob (canonical o.paragraph) ≡ Blob (canonical x.paragraph) = ap (λ r. column r 2)
    (sym p.0.1.is ∙ q.0.1.is) in
    let one = same_object source o x p.0.0 q.0.0 (cc) in
    λ i. one i ∷ one_list form source rows os xs p.1 q.1 i
