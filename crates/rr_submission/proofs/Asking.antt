-- What is read of a paragraph is what it asks.
use Rattle.std.proofs.Common.{◌≡◌, ◌≢◌, ℕ, Bool, true, false, List, Option, refl, sym, ap, subst}
use Rattle.std.proofs.Common.{◌∙◌, inl, inr, Some, Ok, Err}
use Rattle.std.specs.Prelude.{◌⊎◌, Result, IfOk, map}
use Rattle.rr_text.specs.declared.text_fault.TextFault.{TextFault}
use Rattle.rr_text.specs.Fields.{Field}
use Rattle.rr_object.specs.declared.code.Code.{Code}
use Rattle.rr_object.specs.declared.code.Code.TheVariants.{E90}
use Rattle.rr_object.specs.declared.object_fault.ObjectFault.{ObjectFault}
use Rattle.rr_object.specs.declared.object_fault.ObjectFault.TheVariants.{UnknownClass, BadKey}
use Rattle.rr_object.specs.declared.object_fault.ObjectFault.TheVariants.{BadCount, BadValue}
use Rattle.rr_object.specs.declared.object_fault.ObjectFault.TheVariants.{OtherSource, Memory}
use Rattle.rr_object.specs.declared.key.Key.{Key}
use Rattle.rr_object.specs.Faults.{code_of}
use Rattle.rr_object.specs.KeySpellings.{key_of}
use Rattle.rr_auth.specs.declared.item.Item.{Item}
use Rattle.rr_submission.specs.SubmissionTexts.{own_fields, asks_deletion}
use Rattle.rr_object.specs.Objects.{Obj}
use Rattle.rr_object.specs.Readings.{object_of}
use Rattle.rr_object.proofs.KeyBounds.{key_formed, object_key_formed}
use Rattle.rr_object.proofs.Parsed.{kept_its_key, kept_paragraph, of_any_source}
use Rattle.rr_auth.specs.Sources.{IsReadIn, IsReadObject}
use Rattle.rr_registry.specs.RunLaws.{AreReadIn}
use Rattle.rr_submission.specs.SubmissionItems.{AreItems, ItemRequest, submitted_item}
use Rattle.rr_submission.specs.SubmissionItems.AreItems.{at_end, secrets_alone, requested, faulty}
use Rattle.rr_submission.specs.SubmissionItems.AreItems.{unread_for_memory}
use Rattle.rr_submission.specs.ItemParts.{ShowsKeyOf}
use Rattle.rr_submission.specs.Requests.{Asked, IsRequest, action_of, request_of, request_of_key}
use Rattle.rr_submission.specs.Requests.{submitted_object, unread}

-- with a key that was read
pub IsRequest-at_key : (source : List ℕ) (fields own : List Field) (key : Key)
    (action : Result Item Code) → own ≡ own_fields fields → key_of own ≡ Ok key →
    (action ≡ action_of source own key (asks_deletion fields)) ⊎ (action ≡ Err E90) →
    IsRequest source fields (record { key = Some key; action = action })
unfolding request_of
IsRequest-at_key source fields own key action e k (inl a) =
    let there : key_of (own_fields fields) ≡ Ok key = rw (← e) k in
    inl (rw (there, ← e, a) refl)
IsRequest-at_key source fields own key action e k (inr a) =
    inr (record { refused = a; shown = rw (← e) k })

-- and as that was put together
pub IsRequest-about : (source : List ℕ) (fields own : List Field) (key : Key) (request : Asked) →
    own ≡ own_fields fields → key_of own ≡ Ok key →
    (request ≡ record { key = Some key; action = action_of source own key (asks_deletion fields) })
    ⊎ (request ≡ record { key = Some key; action = Err E90 }) →
    IsRequest source fields request
IsRequest-about source fields own key request e k (inl a) =
    subst (IsRequest source fields) (sym a) (IsRequest-at_key source fields own key
    (action_of source own key (asks_deletion fields)) e k (inl refl))
IsRequest-about source fields own key request e k (inr a) =
    subst (IsRequest source fields) (sym a) (IsRequest-at_key source fields own key (Err E90) e k
    (inr refl))

fault_read : (source : List ℕ) (fields own : List Field) (fault : ObjectFault) →
    own ≡ own_fields fields → key_of own ≡ Err fault →
    unread (code_of fault) ≡ request_of source fields
unfolding request_of
fault_read source fields own fault e k =
    let there : key_of (own_fields fields) ≡ Err fault = rw (← e) k in rw there refl

-- with no key
pub IsRequest-at_fault : (source : List ℕ) (fields own : List Field) (fault : ObjectFault) →
    own ≡ own_fields fields →
    (fault ≢ Memory → key_of own ≡ Err fault) → IsRequest source fields (unread (code_of fault))
IsRequest-at_fault source fields own Memory e k = inr (record { refused = refl; shown = tt })
IsRequest-at_fault source fields own UnknownClass e k =
    inl (fault_read source fields own _ e (k (λ p. cc)))
IsRequest-at_fault source fields own BadKey e k =
    inl (fault_read source fields own _ e (k (λ p. cc)))
IsRequest-at_fault source fields own BadCount e k =
    inl (fault_read source fields own _ e (k (λ p. cc)))
IsRequest-at_fault source fields own BadValue e k =
    inl (fault_read source fields own _ e (k (λ p. cc)))
IsRequest-at_fault source fields own OtherSource e k =
    inl (fault_read source fields own _ e (k (λ p. cc)))

-- what is asked is tied to what is shown and to the source: the key of an item is the one that is
-- shown, and the item is as it is read in the source
abbrev IsTied : List ℕ → Asked → Type 0
IsTied source request =
    IfOk request.action (λ item. ShowsKeyOf request.key item × IsReadIn source item)

one_key : (key other : Key) (read : Result Key ObjectFault) → read ≡ Ok key → read ≡ Ok other →
    key ≡ other
one_key key other read p q = cc

-- an object is what its own paragraph reads as, and stands under the key of that
read_object : (source : List ℕ) (own : List Field) (key : Key) (object : Obj) → key_of own
    ≡ Ok key → object_of own source ≡ Ok object →
    (Some key ≡ Some object.key) × IsReadObject source object
read_object source own key object k e =
    let read = of_any_source own source object e in
    let same = one_key key object.key (key_of own) k (kept_its_key own object read) in (
      ap Some same,
      record {
        formed = object_key_formed own source object e;
        read = ap (λ fields. object_of fields source) (kept_paragraph own object read) ∙ e;
      },
    )

tied_object : (source : List ℕ) (own : List Field) (key : Key) (read : Result Obj ObjectFault) →
    key_of own ≡ Ok key → object_of own source ≡ read →
    IsTied source (record { key = Some key; action = submitted_object read })
tied_object source own key (Ok object) k e = read_object source own key object k e
tied_object source own key (Err fault) k e = tt

tied_action : (source : List ℕ) (own : List Field) (key : Key) (deletes : Bool) → key_of own
    ≡ Ok key →
    IsTied source (record { key = Some key; action = action_of source own key deletes })
tied_action source own key true k = (refl, key_formed own key k)
tied_action source own key false k = tied_object source own key (object_of own source) k refl

tied_key : (source : List ℕ) (own : List Field) (deletes : Bool) (read : Result Key ObjectFault) →
    key_of own ≡ read →
    IsTied source (request_of_key source own deletes read)
tied_key source own deletes (Ok key) e = tied_action source own key deletes e
tied_key source own deletes (Err fault) e = tt

tied_request : (source : List ℕ) (fields : List Field) → IsTied source (request_of source fields)
unfolding request_of
tied_request source fields = tied_key source (own_fields fields) (asks_deletion fields)
    (key_of (own_fields fields)) refl

-- what a paragraph asks is about the key that is shown, as it is read in the source
IsTied-request : (source : List ℕ) (fields : List Field) (request : Asked) →
    IsRequest source fields request → IsTied source request
IsTied-request source fields request (inl e) = subst (IsTied source) (sym e)
    (tied_request source fields)
IsTied-request source fields request (inr lacks) =
    subst (λ action. IfOk action (λ item. ShowsKeyOf request.key item × IsReadIn source item))
    (sym lacks.refused) tt

shown_of_tied : (source : List ℕ) (key : Option Key) (action : Result Item Code) →
    IsTied source (record { key = key; action = action }) → IfOk action (ShowsKeyOf key)
shown_of_tied source key (Ok item) h = h.0
shown_of_tied source key (Err code) h = tt

-- what is asked about the object of a key is about that key
pub shown_action : (source : List ℕ) (own : List Field) (key : Key) (deletes : Bool)
    (action : Result Item Code) → key_of own ≡ Ok key →
    (action ≡ action_of source own key deletes) ⊎ (action ≡ Err E90) →
    IfOk action (ShowsKeyOf (Some key))
shown_action source own key deletes action k (inl a) =
    subst (λ it. IfOk it (ShowsKeyOf (Some key))) (sym a) (shown_of_tied source (Some key)
    (action_of source own key deletes) (tied_action source own key deletes k))
shown_action source own key deletes action k (inr a) =
    subst (λ it. IfOk it (ShowsKeyOf (Some key))) (sym a) tt

read_item : (source : List ℕ) (key : Option Key) (action : Result Item Code) →
    IsTied source (record { key = key; action = action }) → IfOk action (IsReadIn source)
read_item source key (Ok item) h = h.1
read_item source key (Err code) h = tt

-- so the items of a text are as they are read in the source
pub AreItems-read : (source : List ℕ) {secrets : List (List ℕ)}
    {es : List (Result (List Field) TextFault)} {items : List ItemRequest} →
    AreItems source secrets es items → AreReadIn source (map submitted_item items)
AreItems-read source at_end = tt
AreItems-read source (secrets_alone alone rest) = AreItems-read source rest
AreItems-read source (requested request other is rest) = (
  read_item source request.key request.action (IsTied-request source _ request is),
  AreItems-read source rest,
)
AreItems-read source (faulty fault code is rest) = (tt, AreItems-read source rest)
AreItems-read source (unread_for_memory entry rest) = (tt, AreItems-read source rest)
