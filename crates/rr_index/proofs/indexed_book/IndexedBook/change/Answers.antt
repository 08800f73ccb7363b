use Rattle.std.proofs.Common.{◌≡◌, false, true, sym, ap, subst, ◌∙◌}
use Rattle.std.specs.Prelude.{Some, is_some}
use Rattle.std.specs.BTreeSet.{contains}
use Rattle.std.specs.Cmp.Lexicographic.{slice_cmp}
use Rattle.std.specs.FinMap.{get, insert}
use Rattle.std.specs.Option.{option_copied, option_map_or}
use Rattle.std.specs.Ordering.{nat_cmp}
use Rattle.std.proofs.lemmas.Bool.{true≢false}
use Rattle.rr_auth.specs.Registries.{Reg, Sound}
use Rattle.rr_book.specs.SetLists.{names_set}
use Rattle.rr_index.specs.EnteringParts.{is_named_by}
use Rattle.rr_index.specs.Indexes.{HasIndexes}
use Rattle.rr_index.specs.NameIndexes.{HasNames}
use Rattle.rr_index.specs.OriginIndexes.{HasOrigins}
use Rattle.rr_index.specs.SpanIndexes.{HasSpans}
use Rattle.rr_index.specs.declared.name_index.NameIndex.{NameIndex}
use Rattle.rr_index.specs.declared.origin_index.OriginIndex.{OriginIndex}
use Rattle.rr_index.specs.declared.span_index.SpanIndex.{SpanIndex}
use Rattle.rr_index.proofs.Changes.{keys_stay, names_stay, spans_stay}
use Rattle.rr_index.proofs.Namings.{namings_changed}
use Rattle.rr_index.proofs.Originated.{origins_stay}
use Rattle.rr_index.proofs.Referrers.{fresh, referrers_changed}
use Rattle.rr_index.proofs.indexed_book.IndexedBook.change.Goals as goal

pub enter_names-requires : goal.enter_names-requires
enter_names-requires c =
    let found = rw c.key.ensures.value at c.get-standing.ensures in
    fresh c.self.inside.objects c.self.inside.indexes.referrers.keys
    c.self.invariant.indexes.keys.referrers c.args.object
    (is_named_by (option_copied c.get-standing.result))
    (λ n. ap (λ x. option_map_or (names_set n) x false) found)

pub invariant_of-self : goal.invariant_of-self
invariant_of-self c =
    let found = rw c.key.ensures.value at c.get-standing.ensures in
    record {
      sound = c.self.invariant.sound;
      indexes = c.in_err-sets.ensures.err c.self.inside.objects c.self.invariant.indexes found;
    }

pub invariant_of-self-in-Ok : goal.invariant_of-self-in-Ok
invariant_of-self-in-Ok c =
    let r = c.self.inside.objects in
    let o = c.args.object in
    let x = c.in-Ok.old in
    let kept = c.self.invariant.indexes.keys in
    let stood : get r o.key ≡ Some x = c.in-Ok.ensures.old in
    let found = rw c.key.ensures.value at c.get-standing.ensures in
    let named = c.in_ok-sets.ensures.ok in
    let left = c.leave_names.ensures in
    record {
      sound = subst Sound (sym c.in-Ok.ensures.puts.ok)
          (subst (λ (s : Reg). Sound (insert s o.key o))
          (sym c.self.view_is) c.requires.sound);
      indexes = subst (λ (s : Reg). HasIndexes s c.leave_names.new.self)
          (sym c.in-Ok.ensures.puts.ok)
          (record {
            keys = record {
              spans = subst (λ (spans : SpanIndex). HasSpans (insert r o.key o) spans.inetnums
                  spans.blocks spans.routes) (sym (left.spans ∙ named.spans))
                  (spans_stay r (insert r o.key o) (keys_stay r o x stood) _ _ _ kept.spans);
              origins = subst (λ (origins : OriginIndex). HasOrigins (insert r o.key o)
                  origins.routes)
                  (sym (left.origins ∙ named.origins)) (origins_stay r (insert r o.key o)
                  (keys_stay r o x stood) c.self.inside.indexes.origins.routes kept.origins);
              names = subst (λ (names : NameIndex). HasNames (insert r o.key o) names.keys)
                  (sym (left.names ∙ named.names))
                  (names_stay r (insert r o.key o) (keys_stay r o x stood)
                  c.self.inside.indexes.names.keys kept.names);
              referrers = referrers_changed r c.self.inside.indexes.referrers.keys kept.referrers o
                  x
                  (is_named_by (option_copied c.get-standing.result))
                  (contains (slice_cmp nat_cmp) c.in_ok-sets.sets)
                  c.enter_names.new.self.referrers.keys c.leave_names.new.self.referrers.keys stood
                  (c.self.invariant.sound.keyed o.key x stood)
                  (λ n. ap (λ y. option_map_or (names_set n) y false) found)
                  c.in_ok-sets.ensures.sets named.under left.under;
            };
            namings = namings_changed r c.self.inside.indexes.namings.counts
                c.self.invariant.indexes.namings o x c.enter_names.new.self.namings.counts
                c.leave_names.new.self.namings.counts stood named.counts left.counts;
          });
    }

pub unreachable-requires : goal.unreachable-requires
unreachable-requires c =
    let there : is_some (get c.self.inside.objects c.args.object.key) ≡ true =
    ap (λ r. is_some (get r c.args.object.key)) c.self.view_is ∙ c.requires.stands in
    absurd (true≢false (sym there ∙ ap is_some c.in-Err.ensures.none))
