-- All that is submitted in a history is one run, which confines what is foreign.
use Rattle.std.proofs.Common.{◌≡◌, ◌⊎◌, inl, inr, ℕ, Bool, true, false, List, [], ◌∷◌, ◌++◌, map}
use Rattle.std.proofs.Common.{Result, Ok, Err, refl, sym, ap, subst}
use Rattle.std.specs.Prelude.{IfOk, if◌then◌else◌}
use Rattle.rr_io.specs.Told.{Told}
use Rattle.rr_object.specs.declared.code.Code.{Code}
use Rattle.rr_auth.specs.declared.item.Item.{Item}
use Rattle.rr_auth.specs.Laws.{IsItem}
use Rattle.rr_auth.specs.Registries.{Reg}
use Rattle.rr_auth.specs.Sources.{IsReadIn}
use Rattle.rr_auth.proofs.Steps.{read_item}
use Rattle.rr_registry.specs.RunLaws.{AreFormed, AreReadIn}
use Rattle.rr_registry.specs.Runs.{Run, Submitted}
use Rattle.rr_registry.specs.declared.outcome.Outcome.{Outcome}
use Rattle.rr_registry.proofs.Confined.{runs_confine}
use Rattle.rr_registry.proofs.Running.{run_append}
use Rattle.rr_submission.proofs.Asking.{AreItems-read}
use Rattle.rr_answer.specs.Answers.{answer_bytes}
use Rattle.rr_answer.specs.Dumps.{dump}
use Rattle.rr_answer.specs.Queries.{is_too_long}
use Rattle.rr_submission.specs.declared.submission.SubmissionFault.{SubmissionFault}
use Rattle.rr_submission.specs.declared.submission.SubmissionFault.TheVariants.{ReadFault}
use Rattle.rr_submission.specs.declared.submission.SubmissionFault.TheVariants.{WriteFault}
use Rattle.rr_submission.specs.declared.submission.SubmissionFault.TheVariants.{LedgerStopped}
use Rattle.rr_submission.specs.declared.submission.SubmissionFault.TheVariants.{Memory}
use Rattle.rr_submission.specs.declared.submission.SubmissionFault.TheVariants.{Stopped}
use Rattle.rr_submission.specs.Handled.{StopsAt}
use Rattle.rr_submission.specs.Submissions.{SubmitsText, UnlessLedgerStopped}
use Rattle.rr_submission.specs.declared.submission.Done.{Done}
use Rattle.rr_submission.specs.SubmissionItems.{ItemRequest, submitted_item}
use Rattle.rr_desk.specs.Events.{Event, Making, asked, closed, counted, dumped, made, migrated}
use Rattle.rr_desk.specs.Events.{opened, stopped, submitted, unmade, unmigrated, unopened}
use Rattle.rr_desk.specs.HistoryLaws.{AreFirstItems, AreSubmittedIn, HistoriesAreConfined}
use Rattle.rr_desk.specs.Modes.{Found, IsGrownOfOne, IsOneOf, MayOpen, Mode, Moves, RunsAs, answers}
use Rattle.rr_desk.specs.Modes.{answers_halted, breaks, breaks_halted, breaks_resting, closes}
use Rattle.rr_desk.specs.Modes.{closes_halted, decides, halted, halted_reply, makes, makes_none}
use Rattle.rr_desk.specs.Modes.{may_be_none, migrates, migrates_none, no_registry, old_tables}
use Rattle.rr_desk.specs.Modes.{one_grown, one_made, opens, opens_none, plain_ledger, prints}
use Rattle.rr_desk.specs.Modes.{refuses, registry_in, resting, running, that_registry, with_grown}
use Rattle.rr_desk.specs.Modes.{with_made}
use Rattle.rr_desk.specs.Settings.{SettingsParts}
use Rattle.rr_desk.proofs.HistoryPrefixes.{reported_is_kept}

-- the items of a text are well formed
formed_action : (source : List ℕ) (action : Result Item Code) → IfOk action (IsReadIn source) →
    IfOk action IsItem
formed_action source (Ok item) read = read_item source item read
formed_action source (Err code) read = tt

formed_items : (source : List ℕ) (items later : List ItemRequest) →
    AreReadIn source (map submitted_item (items ++ later)) → AreFormed (map submitted_item items)
formed_items source [] later read = tt
formed_items source (i ∷ is) later read = (
  formed_action source i.request.action read.0,
  formed_items source is later read.1,
)

abbrev AreCounted : List ℕ → Told → ℕ → List ItemRequest → Type 0
AreCounted source start count items = (AreFirstItems source start count items)
    ⊎ ((items ≡ []) × (count ≡ 0))

formed_first : (source : List ℕ) (start : Told) (count : ℕ) (items : List ItemRequest) →
    AreCounted source start count items → AreFormed (map submitted_item items)
formed_first source start count items (inl first) = formed_items source items first.later
    (AreItems-read source first.are_items)
formed_first source start count items (inr none) = subst (λ is. AreFormed (map submitted_item is))
    (sym none.0) tt

both_formed : (first others : List Submitted) → AreFormed first → AreFormed others →
    AreFormed (first ++ others)
both_formed [] others is are = are
both_formed (one ∷ first) others is are = (is.0, both_formed first others is.1 are)

-- and so is all that is submitted in a history
all_formed : (events : List Event) (all : List Submitted) → AreSubmittedIn events all →
    AreFormed all
all_formed [] all are = subst AreFormed (sym are) tt
all_formed (submitted start now old new result ∷ later) all are =
    subst AreFormed (sym are.3) (both_formed (map submitted_item are.1) are.2
    (formed_first are.0 start (counted result) are.1 are.4) (all_formed later are.2 are.5))
all_formed (asked text bytes ∷ later) all are = all_formed later all are
all_formed (dumped full bytes ∷ later) all are = all_formed later all are
all_formed (closed ∷ later) all are = all_formed later all are
all_formed (opened by ∷ later) all are = all_formed later all are
all_formed (unopened by fault ∷ later) all are = all_formed later all are
all_formed (made by how ∷ later) all are = all_formed later all are
all_formed (unmade how ∷ later) all are = all_formed later all are
all_formed (migrated by ∷ later) all are = all_formed later all are
all_formed (unmigrated by fault ∷ later) all are = all_formed later all are
all_formed (stopped ∷ later) all are = all_formed later all are

-- each that may be found is a registry that is known
abbrev AreKnown : List Found → Type 0
AreKnown [] = Unit {0}
AreKnown (no_registry ∷ others) = ⊥
AreKnown (that_registry r ∷ others) = AreKnown others
AreKnown (one_made how ∷ others) = ⊥
AreKnown (old_tables objects ∷ others) = ⊥
AreKnown (one_grown by objects ∷ others) = ⊥

-- so a making and a migration add nothing
none_lacks : (found : List Found) → AreKnown found → may_be_none found ≡ false
none_lacks [] known = refl
none_lacks (no_registry ∷ others) known = absurd known
none_lacks (that_registry r ∷ others) known = none_lacks others known
none_lacks (one_made how ∷ others) known = absurd known
none_lacks (old_tables objects ∷ others) known = absurd known
none_lacks (one_grown by objects ∷ others) known = absurd known

same_with_made : (how : Making) (found : List Found) → AreKnown found → with_made how found ≡ found
same_with_made how found known = ap (λ (b : Bool). if b then one_made how ∷ found else found)
    (none_lacks found known)

same_with_grown : (by : SettingsParts) (found : List Found) → AreKnown found → with_grown by found
    ≡ found
same_with_grown by [] known = refl
same_with_grown by (no_registry ∷ others) known = absurd known
same_with_grown by (that_registry r ∷ others) known = ap (λ rest. that_registry r ∷ rest)
    (same_with_grown by others known)
same_with_grown by (one_made how ∷ others) known = absurd known
same_with_grown by (old_tables objects ∷ others) known = absurd known
same_with_grown by (one_grown other objects ∷ others) known = absurd known

not_grown : {A : Type 0} (by : SettingsParts) (found : List Found) (r : Reg) → AreKnown found →
    IsGrownOfOne by found r → A
not_grown by [] r known is = absurd is
not_grown by (no_registry ∷ others) r known is = absurd known
not_grown by (that_registry s ∷ others) r known is = not_grown by others r known is
not_grown by (one_made how ∷ others) r known is = absurd known
not_grown by (old_tables objects ∷ others) r known is = absurd known
not_grown by (one_grown other objects ∷ others) r known is = absurd known

abbrev IsKnown : Mode → Type 0
IsKnown (running by r) = Unit {0}
IsKnown (halted by found) = AreKnown found
IsKnown (resting found) = AreKnown found

-- one run of what these events submit
record Runs (mode : Mode) (events : List Event) (s : Reg) : Type 0 where
  pub first : Reg
  pub may : MayOpen mode first
  pub all : List Submitted
  pub outcomes : List Outcome
  pub are_submitted : AreSubmittedIn events all
  pub runs : Run first all outcomes s

-- what begins with a submission
with_submission : (by : SettingsParts) (r s : Reg) (next : Mode) (ro rn wo wn : Told)
    (result : Result Done SubmissionFault) (later : List Event)
    → Moves (running by r) (submitted ro rn wo wn result) next → Runs next later s →
    Runs (running by r) (submitted ro rn wo wn result ∷ later) s
with_submission by r s next ro rn wo wn result later moves rest =
    let kept = reported_is_kept by r rest.first next ro rn wo wn result moves rest.may in
    record {
      first = r;
      may = refl;
      all = map submitted_item kept.items ++ rest.all;
      outcomes = kept.outcomes ++ rest.outcomes;
      are_submitted = (by.source, kept.items, rest.all, refl, kept.are_first, rest.are_submitted);
      runs = run_append r rest.first s (map submitted_item kept.items) rest.all kept.outcomes
          rest.outcomes kept.runs rest.runs;
    }

-- a submission leads to a mode of registries that are known
stop_known : (by : SettingsParts) (middle new : Mode) (secrets : List (List ℕ))
    (action : Result Item Code) → StopsAt (plain_ledger by) middle secrets action new → IsKnown new
stop_known by middle new secrets (Ok item) halts = subst IsKnown (sym halts.halts) tt
stop_known by middle new secrets (Err code) halts = absurd halts

submitted_known : (by : SettingsParts) (r : Reg) (new : Mode) (ro rn wo wn : Told)
    (result : Result Done SubmissionFault) → SubmitsText (plain_ledger by) (running by r) new
    by.source
    ro rn wo wn result
    → UnlessLedgerStopped result (new ≡ running by (registry_in new)) → IsKnown new
submitted_known by r new ro rn wo wn (Ok done) it on = subst IsKnown (sym on) tt
submitted_known by r new ro rn wo wn (Err (ReadFault count)) it on = subst IsKnown (sym on) tt
submitted_known by r new ro rn wo wn (Err (WriteFault count)) it on = subst IsKnown (sym on) tt
submitted_known by r new ro rn wo wn (Err (LedgerStopped count)) it on =
    stop_known by it.handles.middle new it.handles.last.secrets it.handles.last.request.action
    it.handles.stops
submitted_known by r new ro rn wo wn (Err Memory) it on = subst IsKnown (sym on) tt
submitted_known by r new ro rn wo wn (Err Stopped) it on = absurd it

of_one : (r x : Reg) → IsOneOf (that_registry r ∷ []) x → x ≡ r
of_one r x (inl same) = same
of_one r x (inr none) = absurd none

-- an event that submits nothing
carry : (mode next : Mode) (event : Event) (later : List Event) (s : Reg) →
    ((all : List Submitted) → AreSubmittedIn later all → AreSubmittedIn (event ∷ later) all)
    → ((x : Reg) → MayOpen next x → MayOpen mode x) → Runs next later s → Runs mode (event ∷ later)
    s
carry mode next event later s none may rest = record {
  first = rest.first;
  may = may rest.first rest.may;
  all = rest.all;
  outcomes = rest.outcomes;
  are_submitted = none rest.all rest.are_submitted;
  runs = rest.runs;
}

never : {A : Type 0} (found : List Found) → AreKnown found → may_be_none found ≡ true → A
never found known none = let lacks = none_lacks found known in absurd (cc)

one_more : (mode next : Mode) (event : Event) (later : List Event) (s : Reg) → IsKnown mode →
    Moves mode event next → (IsKnown next → Runs next later s) → Runs mode (event ∷ later) s
one_more mode next event later s known (decides by r new ro rn wo wn result it on) rest =
    with_submission by r s new ro rn wo wn result later (decides by r new ro rn wo wn result it on)
    (rest (submitted_known by r new ro rn wo wn result it on))
one_more mode next event later s known (refuses by found ro rn wo wn result it) rest =
    let more = rest known in record {
      first = more.first;
      may = more.may;
      all = more.all;
      outcomes = more.outcomes;
      are_submitted = (
        by.source,
        [],
        more.all,
        refl,
        inr (refl, ap counted it.0),
        more.are_submitted,
      );
      runs = more.runs;
    }
one_more mode next event later s known (answers by r text answer it) rest =
    carry (running by r) (running by r) (asked text (answer_bytes answer)) later s (λ all are. are)
    (λ x may. may) (rest tt)
one_more mode next event later s known (answers_halted by found text) rest =
    carry (halted by found) (halted by found)
    (asked text (answer_bytes (halted_reply (is_too_long text)))) later s (λ all are. are)
    (λ x may. may) (rest known)
one_more mode next event later s known (prints by r full) rest = carry (running by r)
    (running by r) (dumped full (dump full r)) later s (λ all are. are) (λ x may. may) (rest tt)
one_more mode next event later s known (closes by r) rest = carry (running by r)
    (resting (that_registry r ∷ [])) closed later s (λ all are. are) (of_one r) (rest tt)
one_more mode next event later s known (closes_halted by found) rest = carry (halted by found)
    (resting found) closed later s (λ all are. are) (λ x may. may) (rest known)
one_more mode next event later s known (breaks by r) rest = carry (running by r)
    (resting (that_registry r ∷ [])) stopped later s (λ all are. are) (of_one r) (rest tt)
one_more mode next event later s known (breaks_halted by found) rest = carry (halted by found)
    (resting found) stopped later s (λ all are. are) (λ x may. may) (rest known)
one_more mode next event later s known (breaks_resting found) rest = carry (resting found)
    (resting found) stopped later s (λ all are. are) (λ x may. may) (rest known)
one_more mode next event later s known (opens by found r is of) rest =
    carry (resting found) (running by r) (opened by) later s (λ all are. are)
    (λ x may. subst (IsOneOf found) (sym may) is) (rest tt)
one_more mode next event later s known (opens_none by found fault) rest = carry (resting found)
    (resting found) (unopened by fault) later s (λ all are. are) (λ x may. may) (rest known)
one_more mode next event later s known (makes by how found r none is) rest = never found known none
one_more mode next event later s known (makes_none how found) rest =
    let same = same_with_made how found known in
    carry (resting found) (resting (with_made how found)) (unmade how) later s (λ all are. are)
    (λ x may. subst (λ f. IsOneOf f x) same may) (rest (subst AreKnown (sym same) known))
one_more mode next event later s known (migrates by found r is) rest = not_grown by found r known is
one_more mode next event later s known (migrates_none by found fault) rest =
    let same = same_with_grown by found known in
    carry (resting found) (resting (with_grown by found)) (unmigrated by fault) later s
    (λ all are. are) (λ x may. subst (λ f. IsOneOf f x) same may)
    (rest (subst AreKnown (sym same) known))

one_run : (events : List Event) (mode last : Mode) (s : Reg) → IsKnown mode →
    RunsAs mode events last → MayOpen last s → Runs mode events s
one_run [] mode last s known same may =
    record {
      first = s;
      may = subst (λ (m : Mode). MayOpen m s) same may;
      all = [];
      outcomes = [];
      are_submitted = refl;
      runs = refl;
    }
one_run (e ∷ es) mode last s known runs may =
    one_more mode runs.0 e es s known runs.1 (λ next_known. one_run es runs.0 last s next_known
    runs.2 may)

pub histories_are_confined : HistoriesAreConfined
histories_are_confined by r s events mode sound runs may =
    let it = one_run events (running by r) mode s tt runs may in
    let run : Run r it.all it.outcomes s = subst (λ (x : Reg). Run x it.all it.outcomes s) it.may
    it.runs in record {
      all = it.all;
      outcomes = it.outcomes;
      are_submitted = it.are_submitted;
      runs = run;
      confines = λ h held listed. runs_confine r s it.all it.outcomes sound
          (all_formed events it.all it.are_submitted) run h held listed;
    }
