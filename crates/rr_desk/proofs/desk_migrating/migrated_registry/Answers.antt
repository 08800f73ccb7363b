use Rattle.std.proofs.Common.{inl, subst}
use Rattle.std.proofs.lemmas.Result.{IfErr-weaker, IfOk-weaker, err_from_is_err_and}
use Rattle.rr_store.proofs.OtherVersions.{stored_says_it}
use Rattle.rr_store.specs.Calls.{database}
use Rattle.rr_store.specs.Opening.{SaysNoOther}
use Rattle.rr_store.specs.declared.version.Version.TheVariants.{Old}
use Rattle.rr_desk.specs.Migrating.{IsGrown}
use Rattle.rr_desk.specs.MigratingParts.{IsGrowthFault}
use Rattle.rr_desk.proofs.Migrated.{always_ok, each_shown, grown_of_source}
use Rattle.rr_desk.proofs.Migrated.{growth_rootless, no_old_registry, refused_old, unread_of_store}
use Rattle.rr_desk.proofs.desk_migrating.migrated_registry.Goals as goal

pub returns-clause-looks : goal.returns-clause-looks
returns-clause-looks g c =
    let looks = c.in_ok-objects.ensures.inspects.looks in
    record { rests = looks.rests; same = λ clean. always_ok c.grow.result _ (looks.same clean) }

pub returns-clause-grown : goal.returns-clause-grown
returns-clause-grown g c clean =
    let os = c.in_ok-objects.objects.items in
    each_shown c.grow.result _ _ (IsGrown c.args.settings.now (database g.S.Store c.args.conn.now))
    c.grow.ensures.grown c.grow.ensures.ok
    (λ r sound grown. record {
      objects = os;
      before = rw c.source.ensures.source at
          (c.in_ok-objects.ensures.inspects.read clean);
      sound = sound;
      grown = grown;
    })

pub returns-clause-of_source : goal.returns-clause-of_source
returns-clause-of_source g c =
    IfOk-weaker c.grow.result _ _
    (λ r grown. grown_of_source c.args.settings.now c.in_ok-objects.objects.items r
    c.source.ensures.good (rw c.source.ensures.source at c.in_ok-objects.ensures.listed.of_source)
    grown) c.grow.ensures.grown

pub returns-clause-why : goal.returns-clause-why
returns-clause-why g c clean =
    let os = c.in_ok-objects.objects.items in
    let stored = rw c.source.ensures.source at (c.in_ok-objects.ensures.inspects.read clean) in
    let says : SaysNoOther Old (database g.S.Store c.args.conn.now) =
    stored_says_it _ c.args.settings.now.source os _ stored in
    IfErr-weaker c.grow.result _ _ (λ fault h. record {
      wrong_version = λ number is. absurd (subst (IsGrowthFault c.args.settings.now os) is h);
      bad_row = λ is. no_old_registry c.args.settings.now.source os _ stored
          (subst (IsGrowthFault c.args.settings.now os) is h);
      no_other_said = λ is. says;
      tables = λ of. stored.rows.tidy.has;
      untabled = λ none. absurd (none stored.rows.tidy.has);
      no_root = λ is. growth_rootless c.args.settings.now os _ c.source.ensures.good stored
          (subst (IsGrowthFault c.args.settings.now os) is h);
    }) c.grow.ensures.fault

pub returns-in_err-objects-clause-looks : goal.returns-in_err-objects-clause-looks
returns-in_err-objects-clause-looks g c =
    let exit = err_from_is_err_and c.from_residual.result c.from_residual.ensures.1 in
    rw exit.1 (record { rests = c.in_err-objects.ensures.inspects.looks.rests; same = λ clean. tt })

pub returns-in_err-objects-clause-why : goal.returns-in_err-objects-clause-why
returns-in_err-objects-clause-why g c =
    let exit = err_from_is_err_and c.from_residual.result c.from_residual.ensures.1 in
    rw (exit.1, exit.2) (λ clean.
    refused_old c.args.settings.now _ _
    (rw c.source.ensures.source at (c.in_err-objects.ensures.inspects.why clean)))

pub returns-clause-store : goal.returns-clause-store
returns-clause-store g c =
    IfErr-weaker c.grow.result _ _ (λ fault h error is.
    absurd (subst (IsGrowthFault c.args.settings.now c.in_ok-objects.objects.items) is h))
    c.grow.ensures.fault

pub returns-in_err-objects-clause-store : goal.returns-in_err-objects-clause-store
returns-in_err-objects-clause-store g c =
    let exit = err_from_is_err_and c.from_residual.result c.from_residual.ensures.1 in
    rw (exit.1, exit.2) (λ error is tidy clean.
    inl (c.in_err-objects.ensures.inspects.cause error (unread_of_store _ error is) tidy clean))
