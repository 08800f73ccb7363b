-- Tables whose rows are all taken out, and the objects that migration keeps.
use Rattle.std.proofs.Common.{◌≡◌, true, false, not, List, [], ◌∷◌, refl, ◌∙◌}
use Rattle.sqlite_value.specs.Order.{Row}
use Rattle.sqlite_trees.proofs.ListLemmas.{all_of, filter_none}
use Rattle.sqlite.specs.Effect.{Database}
use Rattle.rr_store.specs.Contents.{Alters, KeepsOthers, RemovesRows, contents}
use Rattle.rr_store.specs.Made.{IsBare}
use Rattle.rr_store.proofs.OtherLemmas.{others_then}
use Rattle.rr_store.proofs.BodyLemmas.{none_two, none_four, two_four}

no_contents : (rows : List Row) → contents rows ≡ [] → rows ≡ []
no_contents [] none = refl
no_contents (row ∷ rows) none = absurd (cc)

no_rows : (old rows : List Row) → RemovesRows (λ row. true) (contents old) (contents rows) →
    rows ≡ []
no_rows old rows gone = no_contents rows (gone ∙ filter_none (λ row. not true) (contents old)
    (all_of (λ row. not true ≡ false) (λ row. refl) (contents old)))

-- all rows are taken out
pub cleared : (a b c d : Database) → Alters a b 0 (RemovesRows (λ row. true)) →
    Alters b c 2 (RemovesRows (λ row. true)) → Alters c d 4 (RemovesRows (λ row. true)) → IsBare d
cleared a b c d first second third = record {
  tidy = third.tidy;
  meta = third.meta none_four ∙ second.meta none_two ∙ no_rows (a.trees 0) (b.trees 0) first.change;
  object = third.object two_four ∙ no_rows (b.trees 2) (c.trees 2) second.change;
  named = no_rows (c.trees 4) (d.trees 4) third.change;
}

-- and no others
pub cleared_alone : (a b c d : Database) → Alters a b 0 (RemovesRows (λ row. true)) →
    Alters b c 2 (RemovesRows (λ row. true)) → Alters c d 4 (RemovesRows (λ row. true)) →
    KeepsOthers a d
cleared_alone a b c d first second third = others_then a b d first.others
    (others_then b c d second.others third.others)
