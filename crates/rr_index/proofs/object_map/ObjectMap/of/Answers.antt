use Rattle.std.proofs.Common.{rules, ◌≡◌, None, List, map, sym, ap, ◌∙◌}
use Rattle.std.proofs.lemmas.Iterator.{items_from_drains}
use Rattle.std.proofs.lemmas.Iterator.Adapters.{YieldsList-from_vec}
use Rattle.std.proofs.lemmas.Iterator.Consumers.{YieldsList-end}
use Rattle.std.proofs.lemmas.List.{map-id}
use Rattle.std.specs.Map.{update_all}
use Rattle.std.specs.Ordering.{eq_by_cmp}
use Rattle.rr_object.specs.contracts.key.KeyOrd.TheImpl as derived
use Rattle.rr_object.specs.declared.key.Key.{Key}
use Rattle.rr_object.specs.Objects.{Obj}
use Rattle.rr_book.specs.Books.{entry}
use Rattle.rr_index.proofs.Kept.{registry_collected, rising}
use Rattle.rr_index.proofs.object_map.ObjectMap.of.Goals as goal

pub invariant_of-result : goal.invariant_of-result
invariant_of-result c = rising c.in_ok-from_iter.field-0 c.in_ok-from_iter.ensures.ran.4.1

pub returns : goal.returns
returns c =
    let ran = c.in_ok-from_iter.ensures.ran in
    let m = c.in_ok-from_iter.field-0 in
    let drained = items_from_drains ran.1 ran.3
    (YieldsList-from_vec {s = ran.0} c.loop-object.entries.items ran.2.0 (search rules)) in
    let yielded : c.loop-object.yielded ≡ c.args.objects.items =
    sym (map-id _)
    ∙ (YieldsList-end (YieldsList-from_vec c.args.objects.items (search rules) (search rules))
    c.loop-object.yielded _ c.loop-object.yielded_by _ c.next.new.self c.in-None.is
    c.next.ensures.steps).0 in
    let is : ran.1 ≡ map entry c.args.objects.items = sym (map-id ran.1) ∙ drained
    ∙ c.loop-object.invariant ∙ ap (map entry) yielded in
    registry_collected m c.args.objects.items c.requires (rising m ran.4.1)
    (λ q. ran.4.0 q ∙ ap (λ (es : List (Key × Obj)). update_all (eq_by_cmp (derived.ghosts).cmp)
    (λ _. None) es q) is)
