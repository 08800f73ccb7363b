-- The items of lists, but for `auth`.
use Rattle.std.proofs.Common.{◌≡◌, ℕ, List, refl}
use Rattle.rr_object.specs.declared.kind.Kind.{Kind}
use Rattle.rr_object.specs.declared.kind.Kind.TheVariants.{MntBy, Source, Auth, MntLower, MntRoutes}
use Rattle.rr_object.specs.declared.kind.Kind.TheVariants.{Origin, MemberOf, Members, MbrsByRef}
use Rattle.rr_object.specs.Items.{items}
use Rattle.rr_object.specs.Readings.{items_among, list_text}

pub items_among_list : (kind : Kind) (values : List (List ℕ)) → (kind ≡ Auth → ⊥) →
    items_among kind values ≡ items (list_text kind values)
items_among_list MntBy values other = refl
items_among_list Source values other = refl
items_among_list Auth values other = absurd (other refl)
items_among_list MntLower values other = refl
items_among_list MntRoutes values other = refl
items_among_list Origin values other = refl
items_among_list MemberOf values other = refl
items_among_list Members values other = refl
items_among_list MbrsByRef values other = refl
