-- Paragraphs that were passed and are no items, and those that are.
use Rattle.std.proofs.Common.{◌≡◌, ◌≢◌, ℕ, true, List, [], ◌∷◌, ◌++◌, length-append, append_assoc}
use Rattle.std.proofs.Common.{Ok, Err, arith, sym, subst}
use Rattle.std.proofs.lemmas.List.{append-nil}
use Rattle.rr_io.specs.Told.{Told}
use Rattle.rr_io.specs.declared.receiving.ReadEnd.{ReadEnd}
use Rattle.rr_io.specs.declared.receiving.ReadEnd.TheVariants as end
use Rattle.rr_text.specs.Fields.{Field}
use Rattle.rr_text.specs.declared.text_fault.TextFault.{TextFault}
use Rattle.rr_text.specs.declared.text_fault.TextFault.TheVariants.{TooLarge, BadByte}
use Rattle.rr_text.specs.declared.text_fault.TextFault.TheVariants.{FirstContinues, NoColon}
use Rattle.rr_text.specs.declared.text_fault.TextFault.TheVariants.{BadName, Memory, Read, Endless}
use Rattle.rr_text.specs.declared.paragraphs.Paragraphs.{Paragraphs}
use Rattle.rr_text.specs.ParagraphReaders.{Entry, GivesNext, HasEnded, HasGiven}
use Rattle.rr_object.specs.declared.code.Code.{Code}
use Rattle.rr_object.specs.declared.code.Code.TheVariants.{E90}
use Rattle.rr_submission.specs.SubmissionTexts.{secrets_of, is_secrets_alone}
use Rattle.rr_submission.specs.SubmissionItems.{AreItems, ItemRequest}
use Rattle.rr_submission.specs.SubmissionItems.AreItems.{at_end, secrets_alone, faulty}
use Rattle.rr_submission.specs.SubmissionItems.AreItems.{unread_for_memory}
use Rattle.rr_submission.specs.Requests.{Asked, unread, text_code}
use Rattle.rr_submission.specs.ItemParts.{FindsItem, FindsNone}

-- these entries more were given, and none of them is an item
pub record IsPassing (source : List ℕ) (start now : Told) (p : Paragraphs) (given : List Entry)
    (before after : List (List ℕ)) : Type 0 where
  pub added : List Entry
  pub has : HasGiven start now p (given ++ added)
  pub stay : (more : List Entry) (items : List ItemRequest) → AreItems source after more items →
      AreItems source before (added ++ more) items

pub passing_none : (source : List ℕ) (start now : Told) (p : Paragraphs) (given : List Entry)
    (secrets : List (List ℕ)) → HasGiven start now p given
    → IsPassing source start now p given secrets secrets
passing_none source start now p given secrets has = record {
  added = [];
  has = subst (HasGiven start now p) (sym (append-nil given)) has;
  stay = λ more items h. h;
}

-- one entry more, of a kind that is no item or is one
more_given : (start now : Told) (p : Paragraphs) (given added : List Entry) (entry : Entry) →
    HasGiven start now p ((given ++ added) ++ entry ∷ []) → HasGiven start now p
    (given ++ (added ++ entry ∷ []))
more_given start now p given added entry has = subst (HasGiven start now p)
    (append_assoc given added (entry ∷ [])) has

-- a paragraph of passwords alone is passed
pub passing_more : (source : List ℕ) (start now then : Told) (p q : Paragraphs)
    (given : List Entry) (before after : List (List ℕ)) (fields : List Field)
    → (so : IsPassing source start now p given before after) → HasGiven start then q
    ((given ++ so.added) ++ Ok fields ∷ []) → is_secrets_alone fields ≡ true
    → IsPassing source start then q given before (after ++ secrets_of fields)
passing_more source start now then p q given before after fields so has alone = record {
  added = so.added ++ Ok fields ∷ [];
  has = more_given start then q given so.added (Ok fields) has;
  stay = λ more items h. rw (append_assoc so.added (Ok fields ∷ []) more)
      (so.stay (Ok fields ∷ more) items (secrets_alone alone h));
}

-- an entry that is an item
pub passing_item : (source : List ℕ) (start now then : Told) (p q : Paragraphs)
    (given : List Entry) (before after counts : List (List ℕ)) (entry : Entry) (request : Asked)
    → (so : IsPassing source start now p given before after) → HasGiven start then q
    ((given ++ so.added) ++ entry ∷ [])
    → ((more : List Entry) (items : List ItemRequest) → AreItems source counts more items →
    AreItems source after (entry ∷ more) (record { secrets = counts; request = request }
    ∷ items))
    → FindsItem source start then q given before counts request
passing_item source start now then p q given before after counts entry request so has is = record {
  added = so.added ++ entry ∷ [];
  has = more_given start then q given so.added entry has;
  some = omega (arith, length-append so.added (entry ∷ []));
  item = λ more items h. rw (append_assoc so.added (entry ∷ []) more)
      (so.stay (entry ∷ more) (record { secrets = counts; request = request } ∷ items)
      (is more items h));
}

-- the reading ended
pub passing_end : (source : List ℕ) (start now then : Told) (p : Paragraphs) (given : List Entry)
    (before after : List (List ℕ)) (ended : ReadEnd)
    → (so : IsPassing source start now p given before after) → HasEnded start then ended
    (given ++ so.added) → FindsNone source start then given before ended
passing_end source start now then p given before after ended so all = record {
  added = so.added;
  all = all;
  none = subst (λ es. AreItems source before es []) (append-nil so.added) (so.stay [] [] at_end);
}

-- a fault breaks off the reading, or is that of a paragraph
pub passing_fault : (source : List ℕ) (start now then : Told) (p q : Paragraphs)
    (given : List Entry) (before after : List (List ℕ)) (fault : TextFault) (ended : ReadEnd)
    → (so : IsPassing source start now p given before after) → GivesNext start then q
    (given ++ so.added) (Err fault) → text_code fault ≡ Err ended
    → (ended ≢ end.Whole) × FindsNone source start then given before ended
passing_fault source start now then p q given before after TooLarge ended so next e = cc
passing_fault source start now then p q given before after BadByte ended so next e = cc
passing_fault source start now then p q given before after FirstContinues ended so next e = cc
passing_fault source start now then p q given before after NoColon ended so next e = cc
passing_fault source start now then p q given before after BadName ended so next e = cc
passing_fault source start now then p q given before after Memory ended so next e = cc
passing_fault source start now then p q given before after Read ended so next e =
    let is : end.Broken ≡ ended = cc in
    subst (λ by. (by ≢ end.Whole) × FindsNone source start then given before by) is
    ((λ whole. cc), passing_end source start now then p given before after end.Broken so next.1)
passing_fault source start now then p q given before after Endless ended so next e =
    let is : end.Endless ≡ ended = cc in
    subst (λ by. (by ≢ end.Whole) × FindsNone source start then given before by) is (
      (λ whole. cc),
      passing_end source start now then p given before after end.Endless so
          next.1,
    )

pub passing_faulty : (source : List ℕ) (start now then : Told) (p q : Paragraphs)
    (given : List Entry) (before after : List (List ℕ)) (fault : TextFault) (code : Code)
    → (so : IsPassing source start now p given before after) → GivesNext start then q
    (given ++ so.added) (Err fault) → text_code fault ≡ Ok code
    → FindsItem source start then q given before after (unread code)
passing_faulty source start now then p q given before after TooLarge code so next e =
    passing_item source start now then p q given before after after (Err TooLarge) (unread code) so
    next (λ more items h. faulty TooLarge code e h)
passing_faulty source start now then p q given before after BadByte code so next e =
    passing_item source start now then p q given before after after (Err BadByte) (unread code) so
    next (λ more items h. faulty BadByte code e h)
passing_faulty source start now then p q given before after FirstContinues code so next e =
    passing_item source start now then p q given before after after (Err FirstContinues)
    (unread code) so next (λ more items h. faulty FirstContinues code e h)
passing_faulty source start now then p q given before after NoColon code so next e =
    passing_item source start now then p q given before after after (Err NoColon) (unread code) so
    next (λ more items h. faulty NoColon code e h)
passing_faulty source start now then p q given before after BadName code so next e =
    passing_item source start now then p q given before after after (Err BadName) (unread code) so
    next (λ more items h. faulty BadName code e h)
passing_faulty source start now then p q given before after Memory code so next e =
    let is : E90 ≡ code = cc in
    subst (λ other. FindsItem source start then q given before after (unread other)) is
    (passing_item source start now then p q given before after after next.0 (unread E90) so next.1
    (λ more items h. unread_for_memory next.0 h))
passing_faulty source start now then p q given before after Read code so next e = cc
passing_faulty source start now then p q given before after Endless code so next e = cc
