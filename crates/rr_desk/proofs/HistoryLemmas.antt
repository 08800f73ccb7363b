-- Histories of a database are runs of its registry by itself.
-- An induction over the events keeps that the database stands in the mode of the run. The length
-- is in its step: eleven kinds of event, each in its modes, some with stores that stop. That the
-- disk was clean before each event is led back from the end by hand. The laws
-- `histories_are_runs`, `desks_stand` and `blanks_stand` need it.
use Rattle.std.proofs.Common.{◌≡◌, ◌⊎◌, inl, inr, ℕ, Bool, true, false, List, [], ◌∷◌, Result, Ok}
use Rattle.std.proofs.Common.{Err, IsTrue, refl, sym, subst, ◌∙◌, arith}
use Rattle.sqlite_trees.specs.declared.store.Store.{Ghosts}
use Rattle.sqlite_trees.specs.Tree.{Trees}
use Rattle.sqlite.specs.Effect.{Database}
use Rattle.sqlite.specs.Held.{Held, state}
use Rattle.sqlite.specs.State.{HasCleanDisk}
use Rattle.rr_io.specs.Told.{Told}
use Rattle.rr_object.specs.declared.code.Code.{Code}
use Rattle.rr_auth.specs.Registries.{Reg}
use Rattle.rr_auth.specs.Sources.{IsRegistryOf}
use Rattle.rr_auth.specs.declared.item.Item.{Item}
use Rattle.rr_answer.specs.Dumps.{dump}
use Rattle.rr_answer.specs.Answers.{answer_bytes}
use Rattle.rr_answer.specs.Queries.{is_too_long}
use Rattle.rr_answer.specs.declared.query_fault.QueryFault.{QueryFault}
use Rattle.rr_store.specs.Entries.{TreesOf}
use Rattle.rr_store.specs.Made.{IsMadeWith}
use Rattle.rr_store.specs.Maps.{HasRows}
use Rattle.rr_store.specs.Calls.{database}
use Rattle.rr_store.specs.declared.store_fault.MigrateFault.{MigrateFault}
use Rattle.rr_store.specs.declared.store_fault.OpenFault.{OpenFault}
use Rattle.rr_submission.specs.declared.submission.SubmissionFault.{SubmissionFault}
use Rattle.rr_submission.specs.declared.submission.SubmissionFault.TheVariants.{ReadFault}
use Rattle.rr_submission.specs.declared.submission.SubmissionFault.TheVariants.{WriteFault}
use Rattle.rr_submission.specs.declared.submission.SubmissionFault.TheVariants.{LedgerStopped}
use Rattle.rr_submission.specs.declared.submission.SubmissionFault.TheVariants.{Memory}
use Rattle.rr_submission.specs.declared.submission.SubmissionFault.TheVariants.{Stopped}
use Rattle.rr_submission.specs.declared.submission.Done.{Done}
use Rattle.rr_submission.specs.Handled.{StopsAt}
use Rattle.rr_submission.specs.Submissions.{Submits, SubmitsText, UnlessLedgerStopped, sides}
use Rattle.rr_desk.specs.declared.desk.Desk.{Desk}
use Rattle.rr_desk.specs.Answering.{IsAnswered, IsAnswerWhere}
use Rattle.rr_desk.specs.Desks.{GivesAnswer}
use Rattle.rr_desk.specs.Events.{Event, IsMadeBy, Making, asked, closed, dumped, made, migrated}
use Rattle.rr_desk.specs.Events.{of_dump, of_settings, opened, stopped, submitted, unmade}
use Rattle.rr_desk.specs.Events.{unmigrated, unopened}
use Rattle.rr_desk.specs.Histories.{AreOfOne, BlanksStand, DesksStand, EndsAs, Happens, HasOne}
use Rattle.rr_desk.specs.Histories.{History, HistoriesAreRuns, IsFoundAfter, IsSubmission}
use Rattle.rr_desk.specs.Histories.{ListsTables, Place, RunsWith, Stands, StopsWith, at_desk}
use Rattle.rr_desk.specs.Histories.{at_rest, connection, rows_by}
use Rattle.rr_desk.specs.Histories.Happens.{submission, query, printing, closing, opening}
use Rattle.rr_desk.specs.Histories.Happens.{no_opening, making, no_making, migration, no_migration}
use Rattle.rr_desk.specs.Histories.Happens.{stop}
use Rattle.rr_desk.specs.Migrating.{FailsToMigrateTables, MigratesTables}
use Rattle.rr_desk.specs.Modes.{Found, Mode, Moves, answers, answers_halted, breaks, breaks_halted}
use Rattle.rr_desk.specs.Modes.{breaks_resting, closes, closes_halted, decides, halted}
use Rattle.rr_desk.specs.Modes.{halted_reply, makes, makes_none, migrates, migrates_none, opens}
use Rattle.rr_desk.specs.Modes.{opens_none, plain_ledger, prints, refuses, resting, running}
use Rattle.rr_desk.specs.Modes.{that_registry, with_grown, with_made}
use Rattle.rr_desk.specs.Opened.{FailsToOpenTables, IsRunning, MakesNone, MakesTables, OpensTables}
use Rattle.rr_desk.specs.Rows.{KeepsRows}
use Rattle.rr_desk.specs.Settings.{SettingsParts}
use Rattle.rr_desk.specs.Stocks.{StockParts, StoresRows, stock_ledger}
use Rattle.rr_desk.proofs.HistoryRows.{bare_none, grown_one, grown_there, made_there, opened_one}
use Rattle.rr_desk.proofs.HistoryRows.{still_with_grown, still_with_made, unsaid, vacant_none}

not_both : (b : Bool) → b ≡ true → b ≡ false → ⊥
not_both b on off = absurd (cc)

-- where nothing else can be, the first holds
either : {A B : Type 0} → A ⊎ ⊥ → (A → B) → B
either (inl a) f = f a
either (inr none) f = absurd none

-- trees of the rows of a registry that is known
held_one : (r s : Reg) (trees : Trees) → s ≡ r → TreesOf (HasRows s) trees →
    AreOfOne (that_registry r ∷ []) trees
held_one r s trees same held = inl (s, same, held)

-- what was made so is what the rows by it say
made_of : (how : Making) (db : Database) → rows_by how db → (r : Reg) × IsMadeBy how r
    × HasRows r db
made_of (of_settings by) db held = (held.registry, held.is_opening, held.rows)
made_of (of_dump source start now) db held = (held.registry, held.is_loaded, held.rows)

module _ {S : Type 0} (g : Ghosts S) where
  -- a disk that gives back what was written after an event did so before it
  clean_before : (p q : Place S) (e : Event) → Happens g p e q →
      HasCleanDisk (state g (connection q)) → HasCleanDisk (state g (connection p))
  clean_before p q e (submission old new ro rn wo wn result is) clean =
      omega (arith, clean, is.leaves.lasts.survives.clean)
  clean_before p q e (query desk text answer gives) clean = clean
  clean_before p q e (printing desk full on) clean = clean
  clean_before p q e (closing desk conn same) clean =
      subst (λ (held : Held S). HasCleanDisk (state g held)) same clean
  clean_before p q e (opening by conn desk runs tables) clean =
      omega (arith, clean, tables.crash.clean)
  clean_before p q e (no_opening by conn left fault fails) clean =
      omega (arith, clean, fails.none.crash.clean)
  clean_before p q e (making by how conn desk runs is tables) clean =
      omega (arith, clean, tables.crash.clean)
  clean_before p q e (no_making how conn left none) clean = omega (arith, clean, none.crash.clean)
  clean_before p q e (migration by conn desk runs tables) clean =
      omega (arith, clean, tables.crash.clean)
  clean_before p q e (no_migration by conn left fault fails) clean =
      omega (arith, clean, fails.none.crash.clean)
  clean_before p q e (stop place conn found) clean = found.clean

  clean_first : (p q : Place S) (es : List Event) → History g p es q →
      HasCleanDisk (state g (connection q)) → HasCleanDisk (state g (connection p))
  clean_first p q [] same clean =
      subst (λ (place : Place S). HasCleanDisk (state g (connection place))) same clean
  clean_first p q (e ∷ es) history clean = clean_before p history.0 e history.1
      (clean_first history.0 q es history.2 clean)

  -- an event of a mode leads to a mode in which the database stands
  pub record Goes (mode : Mode) (e : Event) (q : Place S) : Type 0 where
    pub next : Mode
    pub moves_there : Moves mode e next
    pub stands : Stands g q next

  -- the same of a registry that is known otherwise
  goes_as : (by : SettingsParts) (r s : Reg) (e : Event) (q : Place S) → r ≡ s →
      Goes (running by r) e q → Goes (running by s) e q
  goes_as by r s e q same goes = subst (λ (x : Reg). Goes (running by x) e q) same goes

  -- a store that holds the rows of its registry keeps them
  keeps_of : (stock : StockParts S) → StoresRows g stock → KeepsRows stock.registry
      (state g stock.store)
  keeps_of stock holds = record {
    rows = λ clean on. (holds clean).rows;
    leaves = λ clean trees may. (
      (state g stock.store).now,
      (holds clean).rows,
      (holds clean).leaves trees may,
    );
  }

  -- rows that are kept are found
  keeps_found : (r : Reg) (conn : Held S) → KeepsRows r (state g conn) →
      HasOne g (that_registry r ∷ []) conn
  keeps_found r conn keeps = record {
    rows = λ clean on. inl (r, refl, (database g conn, keeps.rows clean on, refl));
    lists = λ clean on version says. (keeps.rows clean on).rows.tidy.has;
    leaves = λ clean trees may. inl (r, refl, keeps.leaves clean trees may);
  }

  -- a stock at which a submission came to a stop
  record HasStopped (before after : Reg) (new : StockParts S) : Type 0 where
    pub is_stopped : new.stopped ≡ true
    pub has : HasOne g (that_registry before ∷ (that_registry after ∷ [])) new.store

  has_stopped : (middle new : StockParts S) (secrets : List (List ℕ)) (action : Result Item Code) →
      StopsAt (stock_ledger g) middle secrets action new → HasStopped middle.registry new.registry
      new
  has_stopped middle new secrets (Ok item) halt = record {
    is_stopped = halt.is_stopped;
    has = record {
      rows = λ clean on.
          inl (middle.registry, refl, (database g new.store, halt.rows clean on, refl));
      lists = λ clean on version says. (halt.rows clean on).rows.tidy.has;
      leaves = λ clean trees may. elim (halt.leaves clean trees may) [
        | inl first ↦ inl (middle.registry, refl, first)
        | inr last ↦ inr (inl (new.registry, refl, last))
      ];
    };
  }
  has_stopped middle new secrets (Err code) halt = absurd halt

  plain_stop : (by : SettingsParts) (middle new : StockParts S) (secrets : List (List ℕ))
      (action : Result Item Code) → StopsAt (stock_ledger g) middle secrets action new
      → StopsAt (plain_ledger by) (running by middle.registry) secrets action
      (halted by (that_registry middle.registry ∷ (that_registry new.registry ∷ [])))
  plain_stop by middle new secrets (Ok item) halt = record {
    outcome = halt.outcome;
    after =
        new.registry;
    step = halt.step;
    changing = halt.changing;
    halts = refl;
  }
  plain_stop by middle new secrets (Err code) halt = absurd halt

  module _ (by : SettingsParts) (old new : Desk S) (ro rn wo wn : Told) where
    -- a submission that was not stopped
    stays : (result : Result Done SubmissionFault) → SubmitsText (plain_ledger by)
        (running by old.stock.registry) (running by new.stock.registry) by.source ro rn wo wn
        result
        → UnlessLedgerStopped result (running by new.stock.registry ≡ running by new.stock.registry)
        → RunsWith g by new new.stock.registry
        → Goes (running by old.stock.registry) (submitted ro rn wo wn result) (at_desk new)
    stays result it on runs = record {
      next = running by new.stock.registry;
      moves_there = decides by old.stock.registry (running by new.stock.registry) ro rn wo wn
          result it on;
      stands = runs;
    }

    goes_on : (result : Result Done SubmissionFault) → Submits (stock_ledger g) old.stock new.stock
        by.source (sides ro rn wo wn old.stock.registry new.stock.registry) result
        → UnlessLedgerStopped result (new.stock.stopped ≡ false)
        → new.settings ≡ by
        → (new.stock.stopped ≡ false → RunsWith g by new new.stock.registry)
        → Goes (running by old.stock.registry) (submitted ro rn wo wn result) (at_desk new)
    goes_on (Ok done) it on settings runs = stays (Ok done) it refl (runs on)
    goes_on (Err (ReadFault count)) it on settings runs = stays (Err (ReadFault count)) it refl
        (runs on)
    goes_on (Err (WriteFault count)) it on settings runs = stays (Err (WriteFault count)) it refl
        (runs on)
    goes_on (Err (LedgerStopped count)) it on settings runs =
        let h = it.handles in
        let halt = has_stopped h.middle new.stock h.last.secrets h.last.request.action h.stops in
        let next =
        halted by (that_registry h.middle.registry ∷ (that_registry new.stock.registry ∷ []))
        in record {
          next = next;
          moves_there = decides by old.stock.registry next ro rn wo wn (Err (LedgerStopped count))
              (record {
                prefix = it.prefix;
                reads = it.reads;
                handles = record {
                  told = h.told;
                  last = h.last;
                  outcomes = h.outcomes;
                  middle = running by h.middle.registry;
                  between = h.between;
                  are_items = h.are_items;
                  runs = h.runs;
                  confined = h.confined;
                  running = refl;
                  stops = plain_stop by h.middle new.stock h.last.secrets h.last.request.action
                      h.stops;
                  writes = h.writes;
                  ends = h.ends;
                  counted = h.counted;
                };
              }) tt;
          stands = record { stopped = halt.is_stopped; settings = settings; has = halt.has };
        }
    goes_on (Err Memory) it on settings runs = stays (Err Memory) it refl (runs on)
    goes_on (Err Stopped) it on settings runs = absurd it

  module _ (old new : Desk S) where
    after_submission : (ro rn wo wn : Told) (result : Result Done SubmissionFault) (mode : Mode) →
        IsSubmission g old new ro rn wo wn result → Stands g (at_desk old) mode
        → Goes mode (submitted ro rn wo wn result) (at_desk new)
    after_submission ro rn wo wn result (running by r) is s =
        let settings : new.settings ≡ by = is.leaves.settings ∙ s.settings in
        let it : Submits (stock_ledger g) old.stock new.stock by.source
        (sides ro rn wo wn old.stock.registry new.stock.registry) result =
        subst (λ (x : SettingsParts). Submits (stock_ledger g) old.stock new.stock x.source
        (sides ro rn wo wn old.stock.registry new.stock.registry) result) s.settings
        (is.submits s.running) in
        let of_old : IsRegistryOf old.settings.source old.stock.registry =
        subst (λ (x : SettingsParts). IsRegistryOf x.source old.stock.registry) (sym s.settings)
        (subst (IsRegistryOf by.source) (sym s.registry) s.of_source) in
        let of_new : IsRegistryOf by.source new.stock.registry =
        subst (λ (x : SettingsParts). IsRegistryOf x.source new.stock.registry) settings
        (is.leaves.of_source of_old) in
        goes_as by old.stock.registry r (submitted ro rn wo wn result) (at_desk new) s.registry
        (goes_on by old new ro rn wo wn result it (is.leaves.runs_on s.running) settings
        (λ on. record {
          running = on;
          settings = settings;
          registry = refl;
          of_source = of_new;
          keeps = keeps_of new.stock (is.leaves.rows on);
        }))
    after_submission ro rn wo wn result (resting found) is s = absurd s
    after_submission ro rn wo wn result (halted by found) is s =
        let refused = is.refuses s.stopped in record {
          next = halted by found;
          moves_there = refuses by found ro rn wo wn result (refused.0, refl, refused.2, refused.3);
          stands = subst (λ (desk : Desk S). StopsWith g by desk found) (sym refused.1) s;
        }

  -- a desk that stopped answers as its registry by itself
  none_told : (long : Bool) (r : Reg) (limit : ℕ) (text : List ℕ)
      (answer : Result (List ℕ) QueryFault) → IsAnswerWhere long true r limit text answer →
      answer ≡ halted_reply long
  none_told true r limit text answer told = told
  none_told false r limit text answer told = told

  after_answer : (desk : Desk S) (text : List ℕ) (answer : Result (List ℕ) QueryFault)
      (mode : Mode) → GivesAnswer desk text answer → Stands g (at_desk desk) mode
      → Goes mode (asked text (answer_bytes answer)) (at_desk desk)
  after_answer desk text answer (resting found) gives s = absurd s
  after_answer desk text answer (running by r) gives s =
      let of_desk : IsAnswered desk.stock.registry desk.settings.limit text false answer =
      subst (λ (b : Bool). IsAnswered desk.stock.registry desk.settings.limit text b answer)
      s.running gives in
      let there : IsAnswered r by.limit text false answer =
      subst (λ (x : SettingsParts). IsAnswered r x.limit text false answer) s.settings
      (subst (λ (x : Reg). IsAnswered x desk.settings.limit text false answer) s.registry of_desk)
      in record {
        next = running by r;
        moves_there = answers by r text answer there;
        stands = s;
      }
  after_answer desk text answer (halted by found) gives s =
      let none : answer ≡ halted_reply (is_too_long text) =
      none_told (is_too_long text) desk.stock.registry desk.settings.limit text answer
      (subst (λ (b : Bool). IsAnswered desk.stock.registry desk.settings.limit text b answer)
      s.stopped gives) in record {
        next = halted by found;
        moves_there = subst (λ (x : Result (List ℕ) QueryFault). Moves (halted by found)
            (asked text (answer_bytes x)) (halted by found)) (sym none)
            (answers_halted by found text);
        stands = s;
      }

  after_dump : (desk : Desk S) (full : Bool) (mode : Mode) → desk.stock.stopped ≡ false →
      Stands g (at_desk desk) mode
      → Goes mode (dumped full (dump full desk.stock.registry)) (at_desk desk)
  after_dump desk full (resting found) on s = absurd s
  after_dump desk full (running by r) on s = record {
    next = running by r;
    moves_there = subst (λ (x : Reg). Moves (running by r) (dumped full (dump full x))
        (running by r)) (sym s.registry) (prints by r full);
    stands = s;
  }
  after_dump desk full (halted by found) on s = absurd (not_both desk.stock.stopped s.stopped on)

  after_close : (desk : Desk S) (conn : Held S) (mode : Mode) → conn ≡ desk.stock.store →
      Stands g (at_desk desk) mode → Goes mode closed (at_rest conn)
  after_close desk conn (resting found) same s = absurd s
  after_close desk conn (running by r) same s = record {
    next = resting (that_registry r ∷ []);
    moves_there = closes by r;
    stands = subst (λ (held : Held S). HasOne g (that_registry r ∷ []) held) (sym same)
        (keeps_found r desk.stock.store s.keeps);
  }
  after_close desk conn (halted by found) same s =
      record {
        next = resting found;
        moves_there = closes_halted by found;
        stands =
            subst (λ (held : Held S). HasOne g found held) (sym same) s.has;
      }

  -- what a stop leaves
  found_one : (found : List Found) (old new : Held S) → IsFoundAfter g old new →
      HasOne g found old → HasOne g found new
  found_one found old new after has = record {
    rows = λ clean on. has.leaves after.clean (database g new).trees (after.found clean);
    lists = λ clean on. after.lists clean;
    leaves = λ clean trees may. has.leaves after.clean trees (after.leaves clean trees may);
  }

  after_stop : (place : Place S) (conn : Held S) (mode : Mode) → IsFoundAfter g (connection place)
      conn → Stands g place mode → Goes mode stopped (at_rest conn)
  after_stop (at_desk desk) conn (running by r) found s =
      record {
        next = resting (that_registry r ∷ []);
        moves_there = breaks by r;
        stands =
            found_one (that_registry r ∷ []) desk.stock.store conn found
            (keeps_found r desk.stock.store s.keeps);
      }
  after_stop (at_desk desk) conn (halted by those) found s =
      record {
        next = resting those;
        moves_there = breaks_halted by those;
        stands =
            found_one those desk.stock.store conn found s.has;
      }
  after_stop (at_desk desk) conn (resting those) found s = absurd s
  after_stop (at_rest old) conn (running by r) found s = absurd s
  after_stop (at_rest old) conn (halted by those) found s = absurd s
  after_stop (at_rest old) conn (resting those) found s =
      record {
        next = resting those;
        moves_there = breaks_resting those;
        stands =
            found_one those old conn found s;
      }

  -- a desk that opens runs with its registry
  opened_with : (by : SettingsParts) (desk : Desk S) → IsRunning g by desk →
      RunsWith g by desk desk.stock.registry
  opened_with by desk runs = record {
    running = runs.running;
    settings = runs.settings;
    registry =
        refl;
    of_source = runs.of_source;
    keeps = keeps_of desk.stock runs.holds;
  }

  after_opening : (by : SettingsParts) (conn : Held S) (desk : Desk S) (mode : Mode) →
      IsRunning g by desk → OpensTables g conn desk.stock
      → HasCleanDisk (state g desk.stock.store) → Stands g (at_rest conn) mode →
      Goes mode (opened by) (at_desk desk)
  after_opening by conn desk (running other r) runs tables clean s = absurd s
  after_opening by conn desk (halted other found) runs tables clean s = absurd s
  after_opening by conn desk (resting found) runs tables clean s = record {
    next = running by desk.stock.registry;
    moves_there = opens by found desk.stock.registry
        (opened_one found desk.stock.registry (database g conn) (tables.rows clean)
        (s.rows (omega (arith, clean, tables.crash.clean)) (tables.was_open clean)))
        runs.of_source;
    stands = opened_with by desk runs;
  }

  after_no_opening : (by : SettingsParts) (conn left : Held S) (fault : OpenFault) (mode : Mode) →
      FailsToOpenTables g by.source conn left fault → Stands g (at_rest conn) mode →
      Goes mode (unopened by fault) (at_rest left)
  after_no_opening by conn left fault (running other r) fails s = absurd s
  after_no_opening by conn left fault (halted other found) fails s = absurd s
  after_no_opening by conn left fault (resting found) fails s =
      let earlier : HasCleanDisk (state g left) → HasCleanDisk (state g conn) = λ clean.
      omega (arith, clean, fails.none.crash.clean) in record {
        next = resting found;
        moves_there = opens_none by found fault;
        stands = record {
          rows = λ clean on. subst (λ (db : Database). AreOfOne found db.trees)
              (sym (fails.none.kept clean on))
              (s.rows (earlier clean) (fails.none.was_open clean on));
          lists = λ clean on. subst ListsTables (sym (fails.none.kept clean on))
              (s.lists (earlier clean) (fails.none.was_open clean on));
          leaves = λ clean trees may. either (fails.none.crash.crash clean trees may)
              (s.leaves (earlier clean) trees);
        };
      }

  after_making : (by : SettingsParts) (how : Making) (conn : Held S) (desk : Desk S) (mode : Mode)
      → IsRunning g by desk → IsMadeBy how desk.stock.registry → MakesTables g (rows_by how) conn
      desk.stock.store
      → HasCleanDisk (state g desk.stock.store) → Stands g (at_rest conn) mode →
      Goes mode (made by how) (at_desk desk)
  after_making by how conn desk (running other r) runs is tables clean s = absurd s
  after_making by how conn desk (halted other found) runs is tables clean s = absurd s
  after_making by how conn desk (resting found) runs is tables clean s =
      let earlier : HasCleanDisk (state g conn) = omega (arith, clean, tables.crash.clean) in
      let on = tables.was_open clean in record {
        next = running by desk.stock.registry;
        moves_there = makes by how found desk.stock.registry (vacant_none found (database g conn)
            (s.lists earlier on) (tables.vacant clean) (s.rows earlier on)) is;
        stands = opened_with by desk runs;
      }

  after_no_making : (how : Making) (conn left : Held S) (mode : Mode) → MakesNone g (rows_by how)
      conn left → Stands g (at_rest conn) mode
      → Goes mode (unmade how) (at_rest left)
  after_no_making how conn left (running other r) none s = absurd s
  after_no_making how conn left (halted other found) none s = absurd s
  after_no_making how conn left (resting found) none s =
      let earlier : HasCleanDisk (state g left) → HasCleanDisk (state g conn) = λ clean.
      omega (arith, clean, none.crash.clean) in
      let cut : HasCleanDisk (state g left) → (trees : Trees) → IsTrue (state g conn).is_open →
      TreesOf (IsMadeWith (rows_by how) (database g conn)) trees →
      AreOfOne (with_made how found) trees =
      λ clean trees on left_there.
      let its = made_of how left_there.0 left_there.1.rows in
      made_there how found its.0 trees
      (vacant_none found (database g conn) (s.lists (earlier clean) on) left_there.1.vacant
      (s.rows (earlier clean) on)) its.1 (left_there.0, its.2, left_there.2) in record {
        next = resting (with_made how found);
        moves_there = makes_none how found;
        stands = record {
          rows = λ clean on. still_with_made how found (database g left).trees
              (subst (λ (db : Database). AreOfOne found db.trees) (sym (none.kept clean on))
              (s.rows (earlier clean) (none.was_open clean on)));
          lists = λ clean on. subst ListsTables (sym (none.kept clean on))
              (s.lists (earlier clean) (none.was_open clean on));
          leaves = λ clean trees may. elim (none.crash.crash clean trees may) [
            | inl before ↦ still_with_made how found trees (s.leaves (earlier clean) trees before)
            | inr commits ↦ cut clean trees commits.0 commits.1
          ];
        };
      }

  after_migration : (by : SettingsParts) (conn : Held S) (desk : Desk S) (mode : Mode) →
      IsRunning g by desk → MigratesTables g by conn desk.stock
      → HasCleanDisk (state g desk.stock.store) → Stands g (at_rest conn) mode →
      Goes mode (migrated by) (at_desk desk)
  after_migration by conn desk (running other r) runs tables clean s = absurd s
  after_migration by conn desk (halted other found) runs tables clean s = absurd s
  after_migration by conn desk (resting found) runs tables clean s = record {
    next = running by desk.stock.registry;
    moves_there = migrates by found desk.stock.registry
        (grown_one by found desk.stock.registry (database g conn) (tables.grown clean)
        (s.rows (omega (arith, clean, tables.crash.clean)) (tables.was_open clean)));
    stands = opened_with by desk runs;
  }

  after_no_migration : (by : SettingsParts) (conn left : Held S) (fault : MigrateFault)
      (mode : Mode) → FailsToMigrateTables g by conn left fault → Stands g (at_rest conn) mode
      → Goes mode (unmigrated by fault) (at_rest left)
  after_no_migration by conn left fault (running other r) fails s = absurd s
  after_no_migration by conn left fault (halted other found) fails s = absurd s
  after_no_migration by conn left fault (resting found) fails s =
      let none = fails.none in
      let earlier : HasCleanDisk (state g left) → HasCleanDisk (state g conn) = λ clean.
      omega (arith, clean, none.crash.clean) in record {
        next = resting (with_grown by found);
        moves_there = migrates_none by found fault;
        stands = record {
          rows = λ clean on. still_with_grown by found (database g left).trees
              (subst (λ (db : Database). AreOfOne found db.trees) (sym (none.kept clean on))
              (s.rows (earlier clean) (none.was_open clean on)));
          lists = λ clean on. subst ListsTables (sym (none.kept clean on))
              (s.lists (earlier clean) (none.was_open clean on));
          leaves = λ clean trees may. elim (none.crash.crash clean trees may) [
            | inl before ↦ still_with_grown by found trees (s.leaves (earlier clean) trees before)
            | inr commits ↦ grown_there by found commits.1.1.registry trees
                (grown_one by found commits.1.1.registry (database g conn) commits.1.1.grown
                (s.rows (earlier clean) commits.0)) (commits.1.0, commits.1.1.rows, commits.1.2)
          ];
        };
      }

  step : (p q : Place S) (e : Event) (mode : Mode) → Happens g p e q →
      HasCleanDisk (state g (connection q)) → Stands g p mode → Goes mode e q
  step p q e mode (submission old new ro rn wo wn result is) clean s = after_submission old new ro
      rn wo wn result mode is s
  step p q e mode (query desk text answer gives) clean s = after_answer desk text answer mode gives
      s
  step p q e mode (printing desk full on) clean s = after_dump desk full mode on s
  step p q e mode (closing desk conn same) clean s = after_close desk conn mode same s
  step p q e mode (opening by conn desk runs tables) clean s = after_opening by conn desk mode runs
      tables clean s
  step p q e mode (no_opening by conn left fault fails) clean s = after_no_opening by conn left
      fault mode fails s
  step p q e mode (making by how conn desk runs is tables) clean s = after_making by how conn desk
      mode runs is tables clean s
  step p q e mode (no_making how conn left none) clean s = after_no_making how conn left mode none s
  step p q e mode (migration by conn desk runs tables) clean s = after_migration by conn desk mode
      runs tables clean s
  step p q e mode (no_migration by conn left fault fails) clean s = after_no_migration by conn left
      fault mode fails s
  step p q e mode (stop place conn found) clean s = after_stop place conn mode found s

  ends : (p q : Place S) (es : List Event) (mode : Mode) → History g p es q →
      HasCleanDisk (state g (connection q)) → Stands g p mode → EndsAs g mode es q
  ends p q [] mode same clean s = record {
    mode = mode;
    runs = refl;
    stands =
        subst (λ (place : Place S). Stands g place mode) (sym same) s;
  }
  ends p q (e ∷ es) mode history clean s =
      let one = step p history.0 e mode history.1 (clean_first history.0 q es history.2 clean) s in
      let more = ends history.0 q es one.next history.2 clean one.stands in
      record {
        mode = more.mode;
        runs = (one.next, one.moves_there, more.runs);
        stands =
            more.stands;
      }

  pub histories_are_runs : HistoriesAreRuns g
  histories_are_runs first last mode es s history clean = ends first last es mode history clean s

  pub desks_stand : DesksStand g
  desks_stand by desk runs = opened_with by desk runs

  pub blanks_stand : BlanksStand g
  blanks_stand conn blank = record {
    rows = λ clean on. inl (bare_none (database g conn).trees (blank.rows clean on));
    lists = λ clean on version says.
        absurd (unsaid version (database g conn).trees (database g conn) (blank.rows clean on) refl
        says);
    leaves = λ clean trees may. inl (bare_none trees (blank.leaves clean trees may));
  }
