use Rattle.std.proofs.Common.{sym, subst}
use Rattle.std.proofs.lemmas.Result.{IfErr-weaker, IfOk-weaker}
use Rattle.sqlite.proofs.StateLemmas.{survives_weaker}
use Rattle.rr_auth.specs.Sources.{IsRegistryOf}
use Rattle.rr_desk.specs.Migrating.{IsGrown}
use Rattle.rr_desk.proofs.Migrated.{fails_then, migrates_then}
use Rattle.rr_desk.proofs.desk_migrating.migrate_stored.Goals as goal

pub migrate_tables-requires : goal.migrate_tables-requires
migrate_tables-requires g c = λ clean.
    subst (λ db. IsGrown c.args.settings.now db c.in-Ok.registry)
    (sym (c.in-Ok.ensures.looks.same clean).0.now_is) (c.in-Ok.ensures.grown clean)

pub returns-in-Ok-clause-stock : goal.returns-in-Ok-clause-stock
returns-in-Ok-clause-stock g c =
    IfOk-weaker c.migrate_tables.result _ _
    (λ s stock. record {
      of_source = subst (IsRegistryOf c.args.settings.now.source) (sym stock.registry)
          c.in-Ok.ensures.of_source;
      running = stock.running;
      holds = stock.holds;
    }) c.migrate_tables.ensures.stock

pub returns-in-Ok-clause-migrates : goal.returns-in-Ok-clause-migrates
returns-in-Ok-clause-migrates g c =
    IfOk-weaker c.migrate_tables.result _ _ (λ s. migrates_then g.S.Store c.args.settings.now
    c.args.conn c.migrated_registry.new.conn c.in-Ok.ensures.looks.same
    c.in-Ok.ensures.looks.rests.crash s) c.migrate_tables.ensures.migrates

pub returns-in-Ok-clause-fails : goal.returns-in-Ok-clause-fails
returns-in-Ok-clause-fails g c =
    IfErr-weaker c.migrate_tables.result _ _ (λ e. fails_then g.S.Store c.args.settings.now
    c.args.conn c.migrated_registry.new.conn c.in-Ok.ensures.looks.same
    c.in-Ok.ensures.looks.rests.crash e.1 e.0) c.migrate_tables.ensures.fails

pub returns-in-Err-clause-fails : goal.returns-in-Err-clause-fails
returns-in-Err-clause-fails g c =
    let rests = c.migrated_registry.ensures.looks.rests in record {
      none = record {
        autocommit = rests.autocommit;
        was_open = rests.opened;
        kept = rests.same;
        crash = survives_weaker _ _ _ _ (λ clean trees none. absurd none) rests.crash;
      };
      why = c.in-Err.ensures.why;
      store = c.in-Err.ensures.store;
    }
