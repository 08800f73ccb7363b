use Rattle.std.proofs.Common.{arith, inl, inr}
use Rattle.std.proofs.lemmas.Result.{err_from_is_err_and}
use Rattle.std.specs.FinMap.{values}
use Rattle.rr_desk.proofs.Migrated.{grown_commits, is_rootless, migrated_rows}
use Rattle.rr_desk.proofs.desk_migrating.migrate_tables.Goals as goal

pub of-requires-clause-is_open : goal.of-requires-clause-is_open
of-requires-clause-is_open g c = c.in_ok-store.ensures.migrates.is_open

pub of-requires-clause-settled : goal.of-requires-clause-settled
of-requires-clause-settled g c = c.in_ok-store.ensures.migrates.settled

pub of-requires-clause-rows : goal.of-requires-clause-rows
of-requires-clause-rows g c = λ clean.
    let kept = c.in_ok-store.ensures.migrates.crash.clean in
    migrated_rows c.args.settings.now c.args.registry _ _ (c.requires (omega (arith, kept)))
    (rw (c.root.ensures.root, c.source.ensures.source)
    at (c.in_ok-store.ensures.migrates.migrated clean))

pub returns-clause-stock : goal.returns-clause-stock
returns-clause-stock g c = c.of.ensures.stock

pub returns-clause-migrates : goal.returns-clause-migrates
returns-clause-migrates g c =
    let kept = c.in_ok-store.ensures.migrates.crash.clean in record {
      was_open = rw c.of.ensures.store c.in_ok-store.ensures.migrates.was_open;
      grown = rw (c.of.ensures.stock.registry, c.of.ensures.store)
          (λ clean. c.requires (omega (arith, kept)));
      migrated = rw (c.of.ensures.store, ← c.root.ensures.root, ← c.source.ensures.source)
          c.in_ok-store.ensures.migrates.migrated;
      crash = rw c.of.ensures.store (grown_commits g.S.Store c.args.settings.now c.args.registry
          c.args.conn c.in_ok-store.store c.requires
          (rw (c.root.ensures.root, c.source.ensures.source)
          at c.in_ok-store.ensures.migrates.crash));
    }

pub returns-in_err-store-clause-fails : goal.returns-in_err-store-clause-fails
returns-in_err-store-clause-fails g c =
    let exit = err_from_is_err_and c.from_residual.result c.from_residual.ensures.1 in
    let fails = c.in_err-store.ensures.fails in rw (exit.1, exit.2) (record {
      none = record {
        autocommit = fails.autocommit;
        was_open = fails.was_open;
        kept = fails.kept;
        crash = grown_commits g.S.Store c.args.settings.now c.args.registry c.args.conn
            c.in_err-store.field-0.0.1 c.requires (rw (c.root.ensures.root, c.source.ensures.source)
            at fails.crash);
      };
      why = λ clean.
          let kept = fails.crash.clean in
          let why = rw (c.root.ensures.root, c.source.ensures.source) at (fails.why clean) in
          record {
            wrong_version = why.wrong_version;
            bad_row = λ is registry of rows. why.bad_row is (values registry) rows;
            no_other_said = why.no_other_said;
            tables = why.tables;
            untabled = why.untabled;
            no_root = λ is. is_rootless c.args.settings.now _ c.args.registry
                (c.requires (omega (arith, kept))) (why.no_root is);
          };
      store = λ error is tidy clean.
          let kept = fails.crash.clean in
          elim (fails.store error is tidy clean) [
            | inl caused ↦ inl caused
            | inr root ↦
                inr
                (record {
                  registry = c.args.registry;
                  grown = c.requires
                      (omega (arith, kept));
                })
          ];
    })
