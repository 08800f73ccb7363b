use Rattle.std.proofs.Common.{◌∙◌, sym}
use Rattle.std.specs.Option.{option_copied}
use Rattle.std.proofs.lemmas.Result.{IfOk-weaker}
use Rattle.rr_number.specs.declared.set_kind.SetKind.TheVariants.{AsSet, RouteSet}
use Rattle.rr_sets.proofs.ReferenceLists.{found_of_kind, refers_by_kind}
use Rattle.rr_sets.proofs.references.all_references.Goals as goal

pub as_set_references-requires : goal.as_set_references-requires
as_set_references-requires g c =
    found_of_kind (g.B.Book.contents c.args.book.now) c.args.set.now c.in-Set.name AsSet
    (option_copied c.args.object) c.in-Set.is (sym c.kind.ensures ∙ c.in-AsSet.is) c.requires

pub returns-in-AsSet : goal.returns-in-AsSet
returns-in-AsSet g c =
    IfOk-weaker c.as_set_references.result _ _
    (λ references are. refers_by_kind (g.B.Book.contents c.args.book.now) c.args.set.now
    c.in-Set.name AsSet references.items c.in-Set.is (sym c.kind.ensures ∙ c.in-AsSet.is) are)
    c.as_set_references.ensures

pub returns-in-RouteSet : goal.returns-in-RouteSet
returns-in-RouteSet g c =
    let r = g.B.Book.contents c.args.book.now in
    let told = sym c.kind.ensures ∙ c.in-RouteSet.is in
    IfOk-weaker c.route_set_references.result _ _
    (λ references are. refers_by_kind r c.args.set.now c.in-Set.name RouteSet references.items
    c.in-Set.is told (are r c.in-Set.name (found_of_kind r c.args.set.now c.in-Set.name RouteSet
    (option_copied c.args.object) c.in-Set.is told c.requires).found))
    c.route_set_references.ensures
