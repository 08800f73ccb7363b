use Rattle.std.proofs.Common.{◌≡◌, sym, subst, ap, ◌∙◌}
use Rattle.std.specs.FinMap.{remove}
use Rattle.rr_auth.specs.Registries.{Reg}
use Rattle.rr_book.specs.SetIndexes.{HasReferrers}
use Rattle.rr_index.specs.NameIndexes.{HasNames}
use Rattle.rr_index.specs.NamingIndexes.{HasNamings}
use Rattle.rr_index.specs.OriginIndexes.{HasOrigins}
use Rattle.rr_index.specs.SpanIndexes.{HasSpans}
use Rattle.rr_index.proofs.Namings.{namings_gone}
use Rattle.rr_index.proofs.Referrers.{referrers_gone}
use Rattle.rr_index.proofs.indexes.Indexes.leave.Goals as goal

pub returns : goal.returns
returns c = λ r has stood rest.
    let left : c.args.objects.now ≡ remove r c.key-key.result.now = rest ∙ ap (remove r)
    (sym c.key-key.ensures.value) in
    record {
      keys = record {
        spans = subst (λ (m : Reg). HasSpans m c.take.new.self.inetnums c.take.new.self.blocks
            c.take.new.self.routes) (sym left)
            (c.take.ensures r has.keys.spans (c.is_routed-is_routed.ensures r left));
        origins = subst (λ (m : Reg). HasOrigins m c.take-2.new.self.routes) (sym left)
            (c.take-2.ensures r has.keys.origins);
        names = subst (λ (m : Reg). HasNames m c.take-3.new.self.keys) (sym left)
            (c.take-3.ensures r has.keys.names);
        referrers = subst (λ (m : Reg). HasReferrers m c.take_all.new.self.keys) (sym rest)
            (referrers_gone r c.args.self.now.referrers.keys has.keys.referrers c.args.gone.now
            c.take_all.new.self.keys stood c.take_all.ensures);
      };
      namings = subst (λ (m : Reg). HasNamings m c.take-4.new.self.counts) (sym rest)
          (namings_gone r c.args.self.now.namings.counts has.namings c.args.gone.now
          c.take-4.new.self.counts stood c.take-4.ensures);
    }
