-- Rows that were read one at a time, and what the tables hold of them.
use Rattle.std.proofs.Common.{◌≡◌, ◌⊎◌, inl, inr, false, ℕ, List, [], ◌∷◌, ◌++◌, Some, None, Ok}
use Rattle.std.proofs.Common.{Err, Result, OnOk, IfErr, IsTrue, refl, sym, ap, subst, ◌∙◌, arith}
use Rattle.std.proofs.Common.{append_assoc}
use Rattle.sqlite_value.specs.Order.{Row}
use Rattle.sqlite_trees.specs.declared.store.Store.{Ghosts}
use Rattle.sqlite_schema.specs.declared.command.Command.TheVariants.{Select}
use Rattle.sqlite_schema.specs.declared.program.Program.{Program}
use Rattle.sqlite_schema.specs.declared.schema.Schema.{Schema}
use Rattle.sqlite_schema.specs.Program.{lets_of}
use Rattle.sqlite_sql.specs.Program.{Ends}
use Rattle.sqlite.specs.Clock.{timed}
use Rattle.sqlite_resolve.specs.declared.compiled.Compiled.{Compiled}
use Rattle.sqlite.specs.Effect.{Database}
use Rattle.sqlite.specs.declared.error.Error.{Error}
use Rattle.sqlite.specs.Given.{Advances, HasBegun, HasGiven}
use Rattle.sqlite.specs.Held.{Held, state}
use Rattle.sqlite.specs.Listing.{understood}
use Rattle.sqlite.specs.Stream.{returned}
use Rattle.sqlite.specs.State.{State, CommitsShowing, Fails, HasCleanDisk, IsRolledBack}
use Rattle.sqlite.specs.State.{IsStatement, IsUnchanged, Shown, Survives}
use Rattle.sqlite.proofs.Callers.{EndsIn, IsPlain, begins_shown, begun_plain, command_of}
use Rattle.sqlite.proofs.Callers.{given_begin, unchanged_then}
use Rattle.sqlite.proofs.StateLemmas.{survives_then}
use Rattle.rr_store.specs.Queries.{IsSqlOf}
use Rattle.rr_store.specs.Tables.{HasTables, Layout}
use Rattle.rr_store.specs.Calls.{Looks}
use Rattle.rr_store.specs.StreamParts.{GivesMore, GivesRest, HasStreamed}
use Rattle.rr_store.proofs.AddingLemmas.{survives_itself}
use Rattle.rr_store.proofs.BodyLemmas.{then_ok}
use Rattle.rr_store.proofs.LookLemmas.{looks, shown_on}

pub unchanged_itself : (s : State) → IsTrue s.is_open → IsUnchanged s s
unchanged_itself s on = (
  record { was_open = on; is_open = on; now_is = refl; committed_is = refl; mode = refl },
  record { changes = refl; last_rowid = refl },
  refl,
)

module _ {S : Type 0} (g : Ghosts S) where
  pub none_given : (h : Held S) → GivesMore g h h []
  none_given h sql params given was = subst (HasGiven g sql params h) (sym (append_none given)) was
    where
      append_none : {X : Type 0} (xs : List X) → xs ++ [] ≡ xs
      append_none [] = refl
      append_none (x ∷ xs) = ap (λ l. x ∷ l) (append_none xs)

  -- one row more
  pub given_more : (a b c : Held S) (more : List Row) (row : Row) → GivesMore g a b more →
      Advances g b c (Some row) → GivesMore g a c (more ++ row ∷ [])
  given_more a b c more row had moved sql params given was =
      subst (HasGiven g sql params c) (append_assoc given more (row ∷ []))
      (moved sql params (given ++ more) (had sql params given was))

  -- rows and then rows
  pub given_then : (a b c : Held S) (first second : List Row) → GivesMore g a b first →
      GivesMore g b c second → GivesMore g a c (first ++ second)
  given_then a b c first second one two sql params given was =
      subst (HasGiven g sql params c) (append_assoc given first second)
      (two sql params (given ++ first) (one sql params given was))

  -- and none more
  pub given_all : (a b c : Held S) (more : List Row) → IsUnchanged (state g a) (state g b) →
      GivesMore g a b more → Advances g b c None → GivesRest g a c more
  given_all a b c more same had moved sql params given was =
      (b, same, moved sql params (given ++ more) (had sql params given was))

  -- what is left of the connection by reads one after the other
  pub left_then : (a b c : Held S) → IsUnchanged (state g a) (state g b) → IsUnchanged (state g b)
      (state g c) ⊎ IsRolledBack (state g b) (state g c) → IsUnchanged (state g a) (state g c)
      ⊎ IsRolledBack (state g a) (state g c)
  left_then a b c one (inl two) = inl (unchanged_then (state g a) (state g b) (state g c) one two)
  left_then a b c one (inr back) = inr (record {
    was_open = λ on. one.0.was_open;
    undone = λ on. (
      (back.undone on).0 ∙ one.0.committed_is,
      (back.undone on).1
          ∙ one.0.committed_is,
    );
    autocommit = back.autocommit;
    unmarked = back.unmarked;
    counts = record {
      changes = back.counts.changes ∙ one.1.changes;
      last_rowid =
          back.counts.last_rowid ∙ one.1.last_rowid;
    };
  })

  pub streams_then : {X E : Type 0} (r : Result X E) (a b c : Held S) →
      (a.in_transaction ≡ false → b.in_transaction ≡ false) →
      (HasCleanDisk (state g b) → IsUnchanged (state g a) (state g b))
      → Survives (state g a) (state g b) (λ _. ⊥) → HasStreamed g b c r → HasStreamed g a c r
  streams_then r a b c mode same first two =
      let before : HasCleanDisk (state g c) → HasCleanDisk (state g b) = λ clean.
      omega (arith, clean, two.survives.clean) in
      record {
        autocommit = λ h. two.autocommit (mode h);
        same = λ clean. then_ok r (two.same clean) (unchanged_then (state g a) (state g b)
            (state g c) (same (before clean)));
        left = λ clean. left_then a b c (same (before clean)) (two.left clean);
        survives = survives_then (state g a) (state g b) (state g c) (λ _. ⊥) (λ _. ⊥) (λ _. ⊥)
            (λ _ db h. h) (λ _ db h. h) first two.survives;
      }

  -- after a query whose rows were read, or whose reading failed, the database is as it was
  module _ {X E : Type 0} (r : Result X E) (old begun new : Held S)
      (same : HasCleanDisk (state g begun) → IsUnchanged (state g old) (state g begun))
      (first : Survives (state g old) (state g begun) (λ _. ⊥))
      (two : HasStreamed g begun new r) where
    pub streamed : begun.in_transaction ≡ false → (IsTrue (state g old).is_open → (state g old).now
        ≡ (state g old).committed) → Looks g old new r
    streamed mode settled =
        let before : HasCleanDisk (state g new) → HasCleanDisk (state g begun) = λ clean.
        omega (arith, clean, two.survives.clean) in
        record {
          rests = record {
            autocommit = two.autocommit mode;
            opened = λ clean on. (same (before clean)).0.was_open;
            same = λ clean on. kept (same (before clean)) (two.left clean) on;
            crash = survives_then (state g old) (state g begun) (state g new) (λ _. ⊥) (λ _. ⊥)
                (λ _. ⊥) (λ _ db h. h) (λ _ db h. h) first two.survives;
          };
          same = λ clean. then_ok r (two.same clean) (unchanged_then (state g old) (state g begun)
              (state g new) (same (before clean)));
        }
      where
        kept : IsUnchanged (state g old) (state g begun) → IsUnchanged (state g begun)
            (state g new) ⊎ IsRolledBack (state g begun) (state g new) →
            IsTrue (state g new).is_open → (state g new).now ≡ (state g old).now
        kept one (inl two) on = two.0.now_is ∙ one.0.now_is
        kept one (inr back) on = (back.undone on).0
            ∙ (one.0.committed_is ∙ sym (settled one.0.was_open))

pub on_any : {X E Q : Type 0} (r : Result X E) → Q → OnOk r Q
on_any (Ok x) q = q
on_any (Err e) q = tt

-- what a move to the next row leaves, also where it fails
pub left_by : {X : Type 0} (r : Result X Error) (old new : State) → OnOk r (IsUnchanged old new) →
    IfErr r (λ e. Fails old new ⊥ e ⊎ IsUnchanged old new) → IsUnchanged old new ⊎ IsRolledBack old
    new
left_by (Ok x) old new same kept = inl same
left_by (Err e) old new same (inl failed) = inr failed.3
left_by (Err e) old new same (inr same2) = inl same2

-- rows of which this is true were read, and the query goes on
pub record HasRead {S : Type 0} (g : Ghosts S) (old now : Held S) (P : List Row → Type 0) :
    Type 0 where
  pub mode : old.in_transaction ≡ false → now.in_transaction ≡ false
  pub same : HasCleanDisk (state g now) → IsUnchanged (state g old) (state g now)
  pub survives : Survives (state g old) (state g now) (λ _. ⊥)
  pub rows : HasCleanDisk (state g now) → (more : List Row) × GivesMore g old now more × P more

module _ {S : Type 0} (g : Ghosts S) where
  pub none_read : (h : Held S) (P : List Row → Type 0) →
      (HasCleanDisk (state g h) → IsTrue (state g h).is_open) → P [] → HasRead g h h P
  none_read h P on none = record {
    mode = λ m. m;
    same = λ clean. unchanged_itself (state g h)
        (on clean);
    survives = survives_itself (state g h);
    rows = λ clean.
        ([], none_given g h, none);
  }

  module _ (old mid new : Held S) (P : List Row → Type 0) (had : HasRead g old mid P)
      (mode : mid.in_transaction ≡ false → new.in_transaction ≡ false)
      (survives : Survives (state g mid) (state g new) (λ _. ⊥)) where
    before : HasCleanDisk (state g new) → HasCleanDisk (state g mid)
    before clean = omega (arith, clean, survives.clean)

    pub read_more : (Q : List Row → Type 0) (row : Row) →
        (HasCleanDisk (state g new) → IsUnchanged (state g mid) (state g new)) →
        (HasCleanDisk (state g new) → Advances g mid new (Some row))
        → ((rows : List Row) → P rows → Q (rows ++ row ∷ [])) → HasRead g old new Q
    read_more Q row same moved grows = record {
      mode = λ m. mode (had.mode m);
      same = λ clean. unchanged_then (state g old) (state g mid) (state g new)
          (had.same (before clean)) (same clean);
      survives = survives_then (state g old) (state g mid) (state g new) (λ _. ⊥) (λ _. ⊥) (λ _. ⊥)
          (λ _ db h. h) (λ _ db h. h) had.survives survives;
      rows = λ clean. let r = had.rows (before clean) in
          (r.0 ++ row ∷ [], given_more g old mid new r.0 row r.1 (moved clean), grows r.0 r.2);
    }

    pub read_then : (Q R : List Row → Type 0) →
        (HasCleanDisk (state g new) → IsUnchanged (state g mid) (state g new)) →
        (HasCleanDisk (state g new) → (more : List Row) × GivesMore g mid new more × Q more)
        → ((rows more : List Row) → P rows → Q more → R (rows ++ more)) → HasRead g old new R
    read_then Q R same moved joins = record {
      mode = λ m. mode (had.mode m);
      same = λ clean. unchanged_then (state g old) (state g mid) (state g new)
          (had.same (before clean)) (same clean);
      survives = survives_then (state g old) (state g mid) (state g new) (λ _. ⊥) (λ _. ⊥) (λ _. ⊥)
          (λ _ db h. h) (λ _ db h. h) had.survives survives;
      rows = λ clean. let r = had.rows (before clean) in let m = moved clean in
          (r.0 ++ m.0, given_then g old mid new r.0 m.0 r.1 m.1, joins r.0 m.0 r.2 m.2);
    }

    -- no row is left
    pub read_all : HasCleanDisk (state g new) → Advances g mid new None → (rest : List Row)
        × GivesRest g old new rest × P rest
    read_all clean moved = let r = had.rows (before clean) in
        (r.0, given_all g old mid new r.0 (had.same (before clean)) r.1 moved, r.2)

    pub read_streams : {X E : Type 0} (r : Result X E) →
        (HasCleanDisk (state g new) → OnOk r (IsUnchanged (state g mid) (state g new)))
        → (HasCleanDisk (state g new) → IsUnchanged (state g mid) (state g new) ⊎ IsRolledBack
        (state g mid) (state g new)) → HasStreamed g old new r
    read_streams r same left = record {
      autocommit = λ m. mode (had.mode m);
      same = λ clean. then_ok r (same clean) (unchanged_then (state g old) (state g mid)
          (state g new) (had.same (before clean)));
      left = λ clean. left_then g old mid new (had.same (before clean)) (left clean);
      survives = survives_then (state g old) (state g mid) (state g new) (λ _. ⊥) (λ _. ⊥) (λ _. ⊥)
          (λ _ db h. h) (λ _ db h. h) had.survives survives;
    }

  -- so far nothing has changed, whatever is told of it
  pub streams_so : {X E : Type 0} (r : Result X E) (old now : Held S) (P : List Row → Type 0) →
      HasRead g old now P → HasStreamed g old now r
  streams_so r old now P had = record {
    autocommit = had.mode;
    same = λ clean.
        on_any r (had.same clean);
    left = λ clean. inl (had.same clean);
    survives = had.survives;
  }

-- a query has begun, and has given no row
pub record Begins {S : Type 0} (g : Ghosts S) (text : List ℕ) (params : Row) (old now : Held S) :
    Type 0 where
  pub given : HasCleanDisk (state g now) → HasGiven g text params now []
  pub same : HasCleanDisk (state g now) → IsUnchanged (state g old) (state g now)
  pub survives : Survives (state g old) (state g now) (λ _. ⊥)

module _ {S : Type 0} (g : Ghosts S) (text : List ℕ) (params : Row) (old now : Held S) where
  -- the connection is open
  pub begun_open : HasBegun g text params old now → IsTrue (state g now).is_open
  begun_open (inl given) = given.1.0.is_open
  begun_open (inr shown) = shown_on text params (state g old) (state g now) (returned now.reading)
      shown.1

  pub begins : (HasCleanDisk (state g old) → IsPlain (understood old.schema text)) →
      (HasCleanDisk (state g now) → HasBegun g text params old now)
      → Survives (state g old) (state g now) (CommitsShowing text params (state g old)) →
      Begins g text params old now
  begins plain begun survives = record {
    given = λ clean.
        (begun_plain g text params old now (plain (omega (arith, clean, survives.clean)))
        (begun clean)).0;
    same = λ clean.
        (begun_plain g text params old now (plain (omega (arith, clean, survives.clean)))
        (begun clean)).1;
    survives = looks text params (state g old) (state g now) plain survives;
  }

  module _ (new : Held S) (b : Begins g text params old now) (clean : HasCleanDisk (state g now))
      (tables : HasTables old.schema) (Tell : Database → List Row → Type 0)
      (tells : (a b : State) → HasTables a.now.schema → (rows : List Row) → Shown text params a b
      rows → Tell a.now rows) where
    -- all its rows say what its answer says
    pub whole_answer : (rest : List Row) → GivesRest g now new rest → Tell (state g old).now rest
    whole_answer rest gives =
        let it = gives text params [] (b.given clean) in
        let is : (state g it.0).now ≡ (state g old).now = it.1.0.now_is ∙ (b.same clean).0.now_is in
        subst (λ d. Tell d rest) is
        (tells (state g it.0) (state g new) (subst (λ (d : Database). HasTables d.schema)
        (sym is) tables) rest it.2)

-- The rows that a query without a recursion has given begin an answer.
pub rest_of_given : {S : Type 0} (g : Ghosts S) (text : List ℕ) (params : Row) (query : Program)
    (names : List (List ℕ)) → ((l : Layout) → IsSqlOf l text (Select query names)) → lets_of query
    ≡ []
    → (h : Held S) (given : List Row) → HasTables h.schema → IsUnchanged (state g h) (state g h) →
    HasGiven g text params h given → (tail : List Row) × Shown text params (state g h)
    (state g h) (given ++ tail)
rest_of_given g text params query names means none h given has same it =
    begins_shown text params (state g h) (state g h) given (given_begin g text params h given it)
    same
    (λ c db statement source. subst (λ k. EndsIn k db (timed params c.formats statement.now))
    (sym (command c statement)) (ends db (timed params c.formats statement.now)))
  where
    command : (c : Compiled) → IsStatement (state g h) text params c → c.command ≡ Select query
        names
    command c statement = sym (ap command_of statement.is)
        ∙ (ap (λ (s : Schema). command_of (understood s text)) has.is ∙ (means has.layout).is)

    ends : (db : Database) (values : Row) → EndsIn (Select query names) db values
    ends db values = subst (λ lets. Ends db.trees values [] lets) (sym none) tt

-- and with others say what that says
pub begun_answer : {S : Type 0} (g : Ghosts S) (text : List ℕ) (params : Row) (query : Program)
    (names : List (List ℕ)) → ((l : Layout) → IsSqlOf l text (Select query names)) → lets_of query
    ≡ []
    → (old now new : Held S) → Begins g text params old now → HasCleanDisk (state g now) →
    HasTables old.schema → IsUnchanged (state g now) (state g new) →
    (Tell : Database → List Row → Type 0)
    → ((a b : State) → HasTables a.now.schema → (rows : List Row) → Shown text params a b rows →
    Tell a.now rows) → (more : List Row) → GivesMore g now new more
    → (tail : List Row) × Tell (state g old).now (more ++ tail)
begun_answer g text params query names means none old now new b clean tables same Tell tells more
    gives =
    let is : (state g new).now ≡ (state g old).now = same.0.now_is ∙ (b.same clean).0.now_is in
    let has : HasTables new.schema = subst (λ (d : Database). HasTables d.schema) (sym is) tables in
    let rest = rest_of_given g text params query names means none new more has
    (unchanged_itself (state g new) same.0.is_open) (gives text params [] (b.given clean)) in (
      rest.0,
      subst (λ d. Tell d (more ++ rest.0)) is (tells (state g new) (state g new) has
          (more ++ rest.0) rest.1),
    )
