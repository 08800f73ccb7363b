use Rattle.std.proofs.Common.{◌≡◌, ◌++◌, [], ◌∷◌, map, ap, subst, ◌∙◌}
use Rattle.rr_store.specs.Entries.{entry_of}
use Rattle.rr_store.specs.Maps.{IsFilled}
use Rattle.rr_object.specs.Objects.{lent}
use Rattle.rr_store.specs.MigratingParts.{IsReplaced, IsRewritten}
use Rattle.rr_store.proofs.CommitLemmas.{writes_as}
use Rattle.rr_store.proofs.migrating.rewrite.Goals as goal

pub returns : goal.returns
returns g c =
    let of_source = rw c.in-Some.is at c.in_ok-upper.ensures.of_source in
    let read = rw c.in-Some.is at c.in_ok-upper.ensures.read in
    let listed : c.deref.result.now ≡ c.args.objects.items ++ c.in-Some.upper ∷ [] =
    c.deref.ensures.value ∙ c.in_ok-all.ensures in
    let same : lent c.deref-2.result.now ≡ c.args.objects.items ++ c.in-Some.upper ∷ [] =
    ap lent c.deref-2.ensures.value ∙ (c.in_ok-lent.ensures ∙ listed) in
    writes_as g.S.Store c.args.conn.now c.replace.new.conn
    (IsReplaced (map entry_of (lent c.deref-2.result.now)))
    (IsRewritten c.args.root.now c.args.source.now c.args.objects.items) c.replace.result
    (λ clean db replaced. record {
      upper = c.in-Some.upper;
      of_source = of_source;
      read = read;
      filled = subst (λ os. IsFilled (map entry_of os) db) same replaced.filled;
      others = replaced.others;
    }) c.replace.ensures
