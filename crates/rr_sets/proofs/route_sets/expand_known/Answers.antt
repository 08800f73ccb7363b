use Rattle.std.proofs.Common.{rules, ◌≡◌, ◌↔◌, ℕ, Bor, List, Contains, Option, sym, subst}
use Rattle.std.specs.List.{filter_map}
use Rattle.std.specs.Option.{option_copied}
use Rattle.std.proofs.lemmas.Map.Lookups.{exact_bytes}
use Rattle.std.proofs.lemmas.Result.{err_from_is_err_and}
use Rattle.rr_object.specs.Objects.{Obj}
use Rattle.rr_object.specs.declared.member.MemberSet.{MemberSet}
use Rattle.rr_object.specs.declared.member.MemberSet.TheVariants.{Set}
use Rattle.rr_sets.specs.MemberParts.{missing_name}
use Rattle.rr_sets.specs.RouteSets.{FindsSet, LeadsToSet}
use Rattle.rr_sets.proofs.Expanding.{expanded_fault}
use Rattle.rr_sets.proofs.Looking.{looks_lent}
use Rattle.rr_sets.proofs.ReferenceLists.{missing_among}
use Rattle.rr_sets.proofs.route_sets.expand_known.Goals as goal

pub returns-in_err-gathered : goal.returns-in_err-gathered
returns-in_err-gathered g c = λ known.
    let p = err_from_is_err_and c.from_residual.result c.from_residual.ensures.1 in
    expanded_fault _ _ known p.0 c.from_residual.result p.1 p.2 (λ over. over)
    c.in_err-gathered.ensures

pub returns : goal.returns
returns g c = λ known.
    let reached : (set : MemberSet) → Contains c.deref.result.now set ↔ LeadsToSet
    (g.B.Book.contents c.args.book.now) c.args.name.now set =
    subst (λ (l : List MemberSet). (set : MemberSet) → Contains l set ↔ LeadsToSet
    (g.B.Book.contents c.args.book.now) c.args.name.now set) (sym c.deref.ensures.value)
    c.in_ok-gathered.ensures.found.nodes.all in
    let r = g.B.Book.contents c.args.book.now in
    let missing : c.in_ok-missing_names.field-0.items ≡ filter_map (missing_name r)
    c.deref.result.now =
    c.in_ok-missing_names.ensures r
    (looks_lent (λ (set : MemberSet). λ (object : Option (Bor Obj)). FindsSet r set
    (option_copied object)) c.in_ok-gathered.gathered.nodes.items c.deref.result.now
    c.in_ok-gathered.gathered.looks.items c.deref-2.result.now c.deref.ensures.value
    c.deref-2.ensures.value c.in_ok-gathered.ensures.found.looks) in record {
      found = record {
        found = c.in_ok-gathered.ensures.found.values;
        missing = record {
          all = λ s.
              let among = missing_among (g.B.Book.contents c.args.book.now) c.deref.result.now s in
              let sorted = c.in_ok-missing.ensures.same exact_bytes s in (
                λ has. let p = among.0 (subst (λ (l : List (List ℕ)). Contains l s) missing
                    (sorted.0 has)) in
                    ((reached (Set s)).0 p.0, p.1),
                λ (named, none). sorted.1 (rw missing
                    (among.1 ((reached (Set s)).1 named, none))),
              );
          sorted = c.in_ok-missing.ensures.sorted;
        };
      };
      known = known;
      few = c.in_ok-gathered.ensures.few;
      unknown = search rules;
      many_known = search rules;
      many = search rules;
    }
