-- What an item does to the registry, and how the rows follow it.
use Rattle.std.proofs.Common.{◌≡◌, ℕ, Bool, true, false, cond, Bor, List, Ok, Err, Result, OnOk}
use Rattle.std.proofs.Common.{inl, inr, refl, sym, ap, subst, ◌∙◌, arith}
use Rattle.std.specs.Prelude.{None, Option, Some, IsSome, is_some, if◌then◌else◌}
use Rattle.std.specs.Option.{option_copied}
use Rattle.std.proofs.lemmas.Bool.{true≢false}
use Rattle.std.specs.FinMap.{get, insert, get-insert}
use Rattle.sqlite_trees.specs.declared.store.Store.{Ghosts}
use Rattle.sqlite_trees.specs.Tree.{Trees}
use Rattle.sqlite.specs.Effect.{Database}
use Rattle.sqlite.specs.Held.{Held, state}
use Rattle.sqlite.specs.State.{HasCleanDisk, State, Survives}
use Rattle.sqlite.proofs.StateLemmas.{survives_weaker}
use Rattle.rr_text.specs.Fields.{fields_eq}
use Rattle.rr_object.specs.declared.code.Code.{Code}
use Rattle.rr_object.specs.declared.code.Code.TheVariants.{E10, E11}
use Rattle.rr_object.specs.declared.key.Key.{Key}
use Rattle.rr_object.specs.Objects.{Obj}
use Rattle.rr_auth.specs.Conditions.{names_unknown, unauthorised}
use Rattle.rr_auth.specs.Laws.{key_about}
use Rattle.rr_auth.specs.declared.item.Item.{Item}
use Rattle.rr_auth.specs.declared.item.Item.TheVariants.{Submit, Delete as DeleteItem}
use Rattle.rr_auth.specs.declared.verdict.Verdict.{Verdict}
use Rattle.rr_auth.specs.declared.verdict.Verdict.TheVariants.{Add, Change, Delete, Refuse}
use Rattle.rr_auth.specs.declared.verdict.Verdict.TheVariants as verdicts
use Rattle.rr_auth.specs.Registries.{Reg}
use Rattle.rr_auth.specs.Verdicts.{after, change, fits_item, submission, verdict}
use Rattle.rr_object.proofs.KeyLaws.{keys_total, tied_key}
use Rattle.rr_auth.proofs.Steps.{verdicts_are_met}
use Rattle.rr_registry.specs.ConfinementLaws.{LeavesOthers}
use Rattle.rr_registry.specs.declared.outcome.Outcome.{Outcome}
use Rattle.rr_registry.specs.declared.outcome.Outcome.TheVariants.{Added, Changed, Unchanged}
use Rattle.rr_registry.specs.declared.outcome.Outcome.TheVariants.{Deleted, Refused}
use Rattle.rr_registry.specs.Runs.{IsStep, outcome_of}
use Rattle.rr_store.specs.Contents.{KeepsOthers}
use Rattle.rr_store.specs.Entries.{TreesOf}
use Rattle.rr_store.specs.Maps.{HasRows, Puts, TakesOut}
use Rattle.rr_store.proofs.OtherLemmas.{others_itself}
use Rattle.rr_store.specs.Adding.{AddsTo}
use Rattle.rr_store.specs.Calls.{IsSettled, Transacts, WhileOpen, database}
use Rattle.rr_desk.specs.Stops.{LeavesStopped, changes}
use Rattle.rr_desk.specs.Rows.{Holds}
use Rattle.rr_desk.specs.Stocks.{DatabaseLasts}
use Rattle.rr_desk.specs.Private.{Follows, FollowsIn, GainsObject, LeadsTo, LeavesRest, puts_one}

-- a change is never an addition
beyond : (b : Bool) (c : Code) (v : Verdict) → (if b then Refuse c else v) ≡ Add → v ≡ Add
beyond true c v e = absurd (cc)
beyond false c v e = e

kept_or_changed : (b : Bool) → (if b then verdicts.Unchanged else Change) ≡ Add → ⊥
kept_or_changed true e = cc
kept_or_changed false e = cc

change_is_no_add : (r : Reg) (secrets : List (List ℕ)) (stored o : Obj) → change r secrets stored o
    ≡ Add → ⊥
change_is_no_add r secrets stored o e =
    let eleven = beyond (names_unknown r o) E10 _ e in
    kept_or_changed (fields_eq stored.paragraph o.paragraph)
    (beyond (unauthorised r secrets stored) E11 _ eleven)

-- so an object is added where none stands under its key
absent_if_added : (r : Reg) (secrets : List (List ℕ)) (o : Obj) → verdict r secrets (Submit o)
    ≡ Add → get r o.key ≡ None
absent_if_added r secrets o added =
    elim (get r o.key) as (λ stored. submission stored r secrets o ≡ Add → stored ≡ None) [
      | None ↦ λ e. refl
      | Some stored ↦ λ e. absurd (change_is_no_add r secrets stored o e)
    ] added

-- a verdict that an item can meet leads where its outcome says
effect_leads : (before : Reg) (item : Item) (judged : Verdict) → fits_item item judged ≡ true →
    ((o : Obj) → item ≡ Submit o → judged ≡ Add → get before o.key ≡ None)
    → LeadsTo before (key_about item) (outcome_of judged) (after judged before item)
effect_leads before (Submit o) Add met absent =
    record { gain = record { object = o; of_key = refl; is = refl }; absent = absent o refl refl }
effect_leads before (Submit o) Change met absent = record { object = o; of_key = refl; is = refl }
effect_leads before (Submit o) verdicts.Unchanged met absent = refl
effect_leads before (Submit o) Delete met absent = absurd (true≢false (sym met))
effect_leads before (Submit o) (Refuse code) met absent = refl
effect_leads before (DeleteItem k) Add met absent = absurd (true≢false (sym met))
effect_leads before (DeleteItem k) Change met absent = absurd (true≢false (sym met))
effect_leads before (DeleteItem k) verdicts.Unchanged met absent = absurd (true≢false (sym met))
effect_leads before (DeleteItem k) Delete met absent = refl
effect_leads before (DeleteItem k) (Refuse code) met absent = refl

-- so does an item, which is refused where memory ran out or meets its verdict
leads : (before : Reg) (secrets : List (List ℕ)) (item : Item) (outcome : Outcome)
    (later : Reg) → IsStep before secrets item outcome later → LeadsTo before (key_about item)
    outcome later
leads before secrets item outcome later (inl e) =
    rw (e.outcome_is, e.effect) (effect_leads before item (verdict before secrets item)
    (verdicts_are_met before secrets item)
    (λ o is added. absent_if_added before secrets o (subst (λ i. verdict before secrets i ≡ Add) is
    added)))
leads before secrets item outcome later (inr w) = rw (w.outcome_is, w.effect) refl

-- where its key is this one
pub leads_at : (before : Reg) (secrets : List (List ℕ)) (item : Item) (key : Key)
    (outcome : Outcome) (later : Reg) → key ≡ key_about item → IsStep before secrets item outcome
    later → LeadsTo before key outcome later
leads_at before secrets item key outcome later is_key step =
    subst (λ k. LeadsTo before k outcome later) (sym is_key) (leads before secrets item outcome
    later step)

-- an object that was put in stands under its key
stands_there : (key : Key) (before after : Reg) (gain : GainsObject before key after) →
    get after key
    ≡ Some gain.object
stands_there key before after gain =
    ap (λ r. get r key) gain.is ∙ (get-insert keys_total before key gain.object key
    ∙ ap (λ b. cond b (Some gain.object) (get before key)) (tied_key key))

-- so one stands there after an outcome that put one in
pub stands_after : (before : Reg) (key : Key) (outcome : Outcome) (after : Reg) →
    LeadsTo before key outcome after → puts_one outcome ≡ true → is_some (get after key) ≡ true
stands_after before key Added after leading puts =
    ap is_some (stands_there key before after leading.gain)
stands_after before key Changed after leading puts =
    ap is_some (stands_there key before after leading)
stands_after before key Unchanged after leading puts = absurd (true≢false (sym puts))
stands_after before key Deleted after leading puts = absurd (true≢false (sym puts))
stands_after before key (Refused code) after leading puts = absurd (true≢false (sym puts))

-- an object that is lent is there
pub some_there : (found : Option (Bor Obj)) → is_some (option_copied found) ≡ true → IsSome found
some_there (Some object) there = there
some_there None there = there

-- the object that stands under the key of one that was put in is that one
the_gained : (key : Key) (before after : Reg) (object : Obj) → get after key ≡ Some object →
    (gain : GainsObject before key after) → object ≡ gain.object
the_gained key before after object found gain =
    let there : get after key ≡ Some gain.object = stands_there key before after gain in
    cc

-- its rows are put in with it
pub gain_follows : (key : Key) (after : Reg) (object : Obj) (old new : Database) → get after key
    ≡ Some object → Puts object.key object old new → Follows key Changed after old new
gain_follows key after object old new found puts before gain rows =
    let same = the_gained key before after object found gain in
    subst (λ r. HasRows r new) (ap (λ o. insert before o.key o) same
    ∙ (ap (λ k. insert before k gain.object) gain.of_key ∙ sym gain.is)) (puts before rows)

-- and added where there was none
pub new_follows : (key : Key) (after : Reg) (object : Obj) (old new : Database) → get after key
    ≡ Some object → AddsTo object.key object old new → Follows key Added after old new
new_follows key after object old new found adds before begun rows =
    let gain = begun.gain in
    let same = the_gained key before after object found gain in
    let here : object.key ≡ key = ap (λ o. o.key) same ∙ gain.of_key in
    subst (λ r. HasRows r new) (ap (λ o. insert before o.key o) same
    ∙ (ap (λ k. insert before k gain.object) gain.of_key ∙ sym gain.is))
    (adds before rows (ap (get before) here ∙ begun.absent))

-- and those of one that is deleted are taken out
pub loss_follows : (key : Key) (after : Reg) (old new : Database) → TakesOut key old new →
    Follows key Deleted after old new
loss_follows key after old new takes before is rows = subst (λ r. HasRows r new) (sym is)
    (takes before rows)

-- what is true of the database of trees can be said of them
pub trees_of : {P Q : Database → Type 0} → ((db : Database) → P db → Q db) → (trees : Trees) →
    TreesOf P trees → TreesOf Q trees
trees_of f trees h = (h.0, f h.0 h.1, h.2)

pub then_ok : {X E P Q : Type 0} (r : Result X E) → OnOk r P → (P → Q) → OnOk r Q
then_ok (Ok x) h f = f h
then_ok (Err e) h f = tt

module _ {S X E : Type 0} (g : Ghosts S) (P Q : Database → Database → Type 0) (old new : Held S)
    (result : Result X E) (f : (db : Database) → P (database g old) db →
    Q (database g old) db) where
  -- one change of the rows is another
  pub writes_as : Transacts g P old new result → Transacts g Q old new result
  writes_as writes = record {
    autocommit = writes.autocommit;
    opened = writes.opened;
    done = λ clean. then_ok result (writes.done clean) (f (database g new));
    is_open = writes.is_open;
    kept = writes.kept;
    crash = survives_weaker _ _ _ _ (λ clean trees made. (made.0, trees_of f trees made.1))
        writes.crash;
  }

  -- and so the rows follow
  pub writes_follow : Transacts g P old new result → IsSettled g new → FollowsIn g Q old new result
  writes_follow writes settled =
      let made = writes_as writes in
      record {
        done = made.done;
        is_open = λ clean on. made.is_open clean;
        settled = λ before.
            settled;
        kept = made.kept;
        crash = survives_weaker _ _ _ _ (λ clean trees left. left.1)
            made.crash;
      }

-- where nothing is done, a stop leaves what it left before
still_survives : {P : Trees → Type 0} (s : State) → Survives s s P
still_survives s = record {
  clean = omega arith;
  shield = λ shielded. shielded;
  counts = omega arith;
  limit = refl;
  closes = λ clean on. inl on;
  crash = λ clean trees may. inl may;
}

-- where nothing is done, all is left
pub rest_itself : {S : Type 0} (g : Ghosts S) (h : Held S) → LeavesRest g h h
rest_itself g h = record {
  stands = λ clean on. others_itself (database g h);
  crash = still_survives (state g h);
}

-- one transaction that keeps all else leaves it where it stands, also where it fails
writes_stand : {S X E : Type 0} (g : Ghosts S) (Change : Database → Database → Type 0)
    (old new : Held S) (result : Result X E) → Transacts g Change old new result
    → ((db : Database) → Change (database g old) db → KeepsOthers (database g old) db) →
    WhileOpen g new (KeepsOthers (database g old) (database g new))
writes_stand g change old new (Ok x) writes keeps clean on = keeps (database g new)
    (writes.done clean)
writes_stand g change old new (Err e) writes keeps clean on = subst (KeepsOthers (database g old))
    (sym (writes.kept clean on)) (others_itself (database g old))

-- and in what a stop may leave
pub writes_leave : {S X E : Type 0} (g : Ghosts S) (Change : Database → Database → Type 0)
    (old new : Held S) (result : Result X E) → Transacts g Change old new result
    → ((db : Database) → Change (database g old) db → KeepsOthers (database g old) db) →
    LeavesRest g old new
writes_leave g change old new result writes keeps = record {
  stands = writes_stand g change old new result writes keeps;
  crash = survives_weaker _ _ _ _ (λ clean trees made. trees_of keeps trees made.1) writes.crash;
}

-- where the rows followed the registry, the store holds the rows of the one after the item
pub still_held : {S X E : Type 0} (g : Ghosts S) (old new : Held S) (before after : Reg)
    (key : Key) (outcome : Outcome) (x : X) →
    (HasCleanDisk (state g old) → Holds before (state g old)) → LeadsTo before key outcome after
    → FollowsIn {E = E} g (Follows key outcome after) old new (Ok x) → HasCleanDisk (state g new) →
    Holds after (state g new)
still_held g old new before after key outcome x held leading follows clean =
    let was = held (let kept = follows.crash.clean in omega (arith, kept)) in
    let on = follows.is_open clean was.is_open in
    record {
      is_open = on;
      rows = follows.done clean before leading was.rows;
      leaves =
          follows.settled (λ on_open. was.leaves) on;
    }

-- through an item of a stock whose store held the rows of its registry its connection lasts
pub item_lasts : {S X E : Type 0} (g : Ghosts S) (Change : Database → Database → Type 0)
    (old new : Held S) (before : Reg) (result : Result X E) →
    (HasCleanDisk (state g old) → Holds before (state g old))
    → FollowsIn g Change old new result → LeavesRest g old new → DatabaseLasts (state g old)
    (state g new)
item_lasts g change old new before result held follows others =
    let survives = follows.crash in
    let earlier : HasCleanDisk (state g new) → HasCleanDisk (state g old) = λ clean.
    omega (arith, survives.clean) in
    record {
      survives = survives_weaker (state g old) (state g new) _ (λ trees. Unit {0})
          (λ clean trees made. tt) survives;
      was_open = λ clean on. (held (earlier clean)).is_open;
      others = others.stands;
    }

-- where they could not follow, those of the registry before the item stand
pub stops_there : {S X E : Type 0} (g : Ghosts S) (held_before held_after : Held S)
    (before after : Reg) (secrets : List (List ℕ)) (item : Item) (key : Key) (outcome : Outcome)
    (e : E) → key ≡ key_about item → IsStep before secrets item outcome after → LeavesOthers before
    secrets after → changes outcome ≡ true
    → (HasCleanDisk (state g held_before) → Holds before (state g held_before)) →
    FollowsIn {X = X} g (Follows key outcome after) held_before held_after (Err e)
    → LeavesRest g held_before held_after → LeavesStopped before secrets item after true
    (state g held_before) (state g held_after)
stops_there g held_before held_after before after secrets item key outcome e is_key step others
    changing held follows rest =
    let old = state g held_before in
    let new = state g held_after in
    let survives = follows.crash in
    let earlier : HasCleanDisk new → HasCleanDisk old = λ clean. omega (arith, survives.clean) in
    let leading : LeadsTo before key outcome after =
    leads_at before secrets item key outcome after is_key step in
    record {
      outcome = outcome;
      step = step;
      others = others;
      changing = changing;
      is_stopped = refl;
      rows = λ clean on. subst (HasRows before) (sym (follows.kept clean on))
          (held (earlier clean)).rows;
      leaves = λ clean trees may.
          let was = held (earlier clean) in
          elim (survives.crash clean trees may) [
            | inl first ↦ inl (old.now, was.rows, was.leaves trees first)
            | inr made ↦ inr (trees_of (λ db follows. follows before leading was.rows) trees made)
          ];
      leaves_others = λ clean trees may.
          elim (rest.crash.crash clean trees may) [
            | inl first ↦ (
              old.now,
              others_itself old.now,
              (held (earlier clean)).leaves trees
                  first,
            )
            | inr made ↦ made
          ];
      was_open = λ clean. (held clean).is_open;
      survives = survives_weaker old new _ _ (λ clean trees made.
          trees_of (λ db follows. follows before leading (held (earlier clean)).rows) trees made)
          survives;
    }
