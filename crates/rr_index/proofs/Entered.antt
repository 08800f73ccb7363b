-- Objects that are entered into what is kept beside a registry, one after the other.
use Rattle.std.proofs.Common.{◌≡◌, ◌<◌, ◌+◌, ℕ, false, List, [], ◌∷◌, ◌++◌, append_assoc, drop}
use Rattle.std.proofs.Common.{get_or, length, take, refl, sym, ap, subst, ◌∙◌}
use Rattle.std.specs.Prelude.{None}
use Rattle.std.specs.FinMap.{get, insert}
use Rattle.std.specs.Option.{option_map_or}
use Rattle.std.proofs.lemmas.List.{take-append-drop, take_more}
use Rattle.rr_object.specs.Objects.{Obj}
use Rattle.rr_auth.specs.Registries.{Reg}
use Rattle.rr_book.specs.Books.{IsBook, book_of}
use Rattle.rr_book.specs.SetLists.{names_set}
use Rattle.rr_index.specs.EnteringParts.{IsUnderNone}
use Rattle.rr_index.specs.Indexes.{HasIndexes}
use Rattle.rr_index.specs.Private.{IsCrossedByNone, is_crossed}
use Rattle.rr_index.specs.declared.indexes.Indexes.{Indexes}
use Rattle.rr_index.proofs.Gathered.{next_apart, next_book, next_free}
use Rattle.rr_index.proofs.Questions.{none_crossed}
use Rattle.rr_index.proofs.Referrers.{fresh}

-- a key that is free stands under no set
pub under_none : (r : Reg) (kept : Indexes) (o : Obj) → HasIndexes r kept → get r o.key ≡ None →
    IsUnderNone kept.referrers.keys o
under_none r kept o has free =
    fresh r kept.referrers.keys has.keys.referrers o (λ other. false)
    (λ n. sym (ap (λ v. option_map_or (names_set n) v false) free))

-- a key that no registered one crosses crosses no span that is held
pub uncrossed : (r : Reg) (kept : Indexes) (o : Obj) → HasIndexes r kept → IsCrossedByNone r o.key →
    is_crossed kept.spans.inetnums kept.spans.blocks o.key ≡ false
uncrossed r kept o has apart = none_crossed r kept.spans.inetnums kept.spans.blocks
    kept.spans.routes has.keys.spans o.key apart

module _ (all : List Obj) (i : ℕ) (o : Obj) (book : IsBook all) (inside : i < length all)
    (is : o ≡ get_or all i o) where
  cut : take (i + 1) all ≡ take i all ++ o ∷ []
  cut = take_more all i o inside ∙ ap (λ x. take i all ++ x ∷ []) (sym is)

  whole : take i all ++ o ∷ drop (i + 1) all ≡ all
  whole =
      sym (append_assoc (take i all) (o ∷ []) (drop (i + 1) all))
      ∙ ap (λ xs. xs ++ drop (i + 1) all) (sym cut)
      ∙ take-append-drop (i + 1) all

  free : get (book_of (take i all)) o.key ≡ None
  free = next_free all (take i all) (o ∷ drop (i + 1) all) (drop (i + 1) all) o book.ordered whole
      refl

  -- the key of the next object stands under no set
  pub next_under_none : (kept : Indexes) → HasIndexes (book_of (take i all)) kept →
      IsUnderNone kept.referrers.keys o
  next_under_none kept has = under_none (book_of (take i all)) kept o has free

  -- and crosses no span
  pub next_uncrossed : (kept : Indexes) → HasIndexes (book_of (take i all)) kept →
      is_crossed kept.spans.inetnums kept.spans.blocks o.key ≡ false
  next_uncrossed kept has =
      uncrossed (book_of (take i all)) kept o has
      (next_apart all (take i all) (o ∷ drop (i + 1) all) (drop (i + 1) all) o book.ordered
      whole refl book.sound)

  -- one more object was entered
  pub entered_more : (old new : Indexes) → HasIndexes (book_of (take i all)) old
      → ((r : Reg) → HasIndexes r old → get r o.key ≡ None → HasIndexes (insert r o.key o) new)
      → HasIndexes (book_of (take (i + 1) all)) new
  entered_more old new has enter =
      subst (λ (r : Reg). HasIndexes r new)
      (next_book all (take i all) (o ∷ drop (i + 1) all) (drop (i + 1) all) o book.ordered whole
      refl ∙ ap book_of (sym cut))
      (enter (book_of (take i all)) has free)
