-- How far a submission has come.
use Rattle.std.proofs.Common.{◌≡◌, ℕ, ◌+◌, ◌≤◌, Bool, true, false, List, [], ◌∷◌, ◌++◌, length}
use Rattle.std.proofs.Common.{cond, refl, ap, sym, subst, ◌∙◌, inl, inr, append_assoc}
use Rattle.std.proofs.Common.{length-append, Err, arith, suc, zero-add}
use Rattle.std.specs.Prelude.{map, ◌^◌, ◌⊎◌}
use Rattle.std.proofs.lemmas.List.Sums.{sum_by-append}
use Rattle.std.proofs.lemmas.List.{append-nil}
use Rattle.rr_io.specs.Told.{Told}
use Rattle.rr_io.specs.Sending.{Takes, TakesPrefix, TakesSome}
use Rattle.rr_io.proofs.Transfers.{Takes-none, Takes-then}
use Rattle.rr_io.specs.Receiving.{IsSpent}
use Rattle.rr_text.specs.Entries.{entries}
use Rattle.rr_text.specs.ParagraphReaders.{Entry, HasGiven, KeepsApart, held, reads_of, state_of}
use Rattle.rr_text.specs.declared.paragraphs.Paragraphs.{Paragraphs}
use Rattle.rr_text.specs.declared.paragraphs.ParagraphsState.{ParagraphsState}
use Rattle.rr_text.specs.declared.paragraphs.ParagraphsState.TheVariants.{Open, Ended, Broken}
use Rattle.rr_text.specs.declared.paragraphs.ParagraphsState.TheVariants.{Endless}
use Rattle.rr_text.specs.WholePart.{whole_part}
use Rattle.rr_text.proofs.ReaderLemmas.{held_few, within_limit}
use Rattle.rr_submission.specs.ItemParts.{FindsItem}
use Rattle.rr_auth.specs.Registries.{Reg, Sound}
use Rattle.rr_registry.specs.declared.outcome.Outcome.{Outcome}
use Rattle.rr_registry.specs.Runs.{Decides, Run}
use Rattle.rr_submission.specs.declared.ledger.Ledger.{Ghosts}
use Rattle.rr_submission.specs.declared.handling_fault.HandlingFault.{HandlingFault}
use Rattle.rr_submission.specs.declared.handling_fault.HandlingFault.TheVariants.{Memory}
use Rattle.rr_submission.specs.declared.handling_fault.HandlingFault.TheVariants.{Unwritten}
use Rattle.rr_submission.specs.declared.handling_fault.HandlingFault.TheVariants.{LedgerStopped}
use Rattle.rr_submission.specs.declared.handling.Course.{Course}
use Rattle.rr_submission.specs.declared.submission.Done.{Done}
use Rattle.rr_submission.specs.Requests.{Asked}
use Rattle.rr_submission.specs.SubmissionItems.{AreItems, ItemRequest, submitted_item}
use Rattle.rr_submission.specs.SubmissionItems.AreItems.{at_end}
use Rattle.rr_submission.specs.Refusals.{is_refusal, refusals}
use Rattle.rr_submission.specs.Reports.{item_line, lines_from, stop_lines}
use Rattle.rr_submission.specs.Handled.{StopsAt, ReadsItems, HandlesStopped, HandlesUnwritten}
use Rattle.rr_submission.specs.HandledParts.{HandlesItems, HandlesAll, HandlesOne}
use Rattle.rr_submission.proofs.Confining.{all_items_confined, items_confined}

-- items were decided by a ledger, which runs on: what lasts of it lasts, and what was so of it is
-- so
pub record GoesOn {L : Type 0} (g : Ghosts L) (old new : L) : Type 0 where
  pub running : g.is_stopped new ≡ false
  pub lasts : g.Lasts old new
  pub kept : g.Kept old → g.Kept new

-- one item more is decided
pub Run-more : (old between new : Reg) (items : List ItemRequest) (outcomes : List Outcome)
    (item : ItemRequest) (outcome : Outcome) →
    Run old (map submitted_item items) outcomes between → Decides between item.secrets
    item.request.action outcome new →
    Run old (map submitted_item (items ++ item ∷ [])) (outcomes ++ outcome ∷ []) new
Run-more old between new [] [] item outcome e d = (new, rw (← e) d, refl)
Run-more old between new [] (o ∷ os) item outcome e d = absurd e
Run-more old between new (i ∷ is) [] item outcome e d = absurd e
Run-more old between new (i ∷ is) (o ∷ os) item outcome r d =
    (r.0, r.1, Run-more r.0 between new is os item outcome r.2 d)

-- and has the next line
pub lines_from-more : (number : ℕ) (old new : Reg) (items : List ItemRequest)
    (outcomes : List Outcome) (item : ItemRequest) (outcome : Outcome) →
    Run old (map submitted_item items) outcomes new →
    lines_from number (items ++ item ∷ []) (outcomes ++ outcome ∷ []) ≡ lines_from number items
    outcomes ++ item_line (number + length items) item.request.key outcome
unfolding lines_from
lines_from-more number old new [] [] item outcome e =
    rw append-nil (ap (λ n. item_line n item.request.key outcome) (omega arith))
lines_from-more number old new [] (o ∷ os) item outcome e = absurd e
lines_from-more number old new (i ∷ is) [] item outcome e = absurd e
lines_from-more number old new (i ∷ is) (o ∷ os) item outcome r =
    let same : (number + 1) + length is ≡ number + suc (length is) = omega arith in
    let first = item_line number i.request.key o in
    let more = lines_from (number + 1) is os in
    ap (λ (ls : List ℕ). first ++ ls) (lines_from-more (number + 1) r.0 new is os item outcome r.2)
    ∙ (sym (append_assoc first more (item_line ((number + 1) + length is) item.request.key outcome))
    ∙ ap (λ n. (first ++ more) ++ item_line n item.request.key outcome) same)

-- and counts if it is refused
pub refusals-more : (outcomes : List Outcome) (outcome : Outcome) →
    refusals (outcomes ++ outcome ∷ []) ≡ refusals outcomes + cond (is_refusal outcome) 1 0
refusals-more outcomes outcome = sum_by-append _ outcomes (outcome ∷ [])
    ∙ ap (λ n. refusals outcomes + n) (zero-add (cond (is_refusal outcome) 1 0))

-- of what was given so far the items were decided and their lines written, from a sound registry
pub record ComesTo (source : List ℕ) (given : List Entry) (old new : Reg) (before after : Told)
    (secrets : List (List ℕ)) (done : Done) : Type 0 where
  pub items : List ItemRequest
  pub outcomes : List Outcome
  pub are_items : (more : List Entry) (later : List ItemRequest) → AreItems source secrets more
      later → AreItems source [] (given ++ more) (items ++ later)
  pub runs : Run old (map submitted_item items) outcomes new
  pub writes : Takes before after (lines_from 1 items outcomes)
  pub counted : done.items ≡ length items
  pub refused : done.refused ≡ refusals outcomes
  pub fewer : done.refused ≤ done.items
  pub few : done.items ≤ length given
  pub sound : Sound old

pub ComesTo-start : (source : List ℕ) (registry : Reg) (told : Told) → Sound registry →
    ComesTo source [] registry registry told told [] (record { items = 0; refused = 0 })
unfolding lines_from
ComesTo-start source registry told sound = record {
  items = [];
  outcomes = [];
  are_items = λ more later h. h;
  runs = refl;
  writes = Takes-none told;
  counted = refl;
  refused = refl;
  fewer = omega arith;
  few = omega arith;
  sound = sound;
}

at_most_one : (b : Bool) → cond b 1 0 ≤ 1
at_most_one true = omega arith
at_most_one false = omega arith

-- the next item is decided, and its line is written
pub ComesTo-more : {source : List ℕ} {given : List Entry} {old between : Reg}
    {before middle : Told} {secrets : List (List ℕ)} {done : Done}
    (start now : Told) (p : Paragraphs) (new : Reg) (after : Told) (then_secrets : List (List ℕ))
    (then : Done) (request : Asked) (outcome : Outcome) →
    ComesTo source given old between before middle secrets done →
    (found : FindsItem source start now p given secrets then_secrets request) →
    Decides between then_secrets request.action outcome new →
    then.items ≡ done.items + 1 → then.refused ≡ done.refused + cond (is_refusal outcome) 1 0 →
    Takes middle after (item_line then.items request.key outcome) →
    ComesTo source (given ++ found.added) old new before after then_secrets then
ComesTo-more {source} {given} start now p new after then_secrets then request outcome so found
    decides items refused line =
    let item : ItemRequest = record { secrets = then_secrets; request = request } in
    let number : then.items ≡ 1 + length so.items =
    items ∙ (ap (λ n. n + 1) so.counted ∙ omega arith) in
    let shown = rw number at line in
    record {
      items = so.items ++ item ∷ [];
      outcomes = so.outcomes ++ outcome ∷ [];
      are_items = λ more later h.
          let all : AreItems source [] (given ++ (found.added ++ more)) (so.items ++ item ∷ later)
          = so.are_items (found.added ++ more) (item ∷ later) (found.item more later h) in
          rw (append_assoc given found.added more, append_assoc so.items (item ∷ []) later) all;
      runs = Run-more _ _ _ so.items so.outcomes item outcome so.runs decides;
      writes = rw (lines_from-more 1 _ _ so.items so.outcomes item outcome so.runs)
          (Takes-then _ _ so.writes shown);
      counted = omega (arith, items, so.counted, length-append so.items (item ∷ []));
      refused = refused ∙ (ap (λ n. n + cond (is_refusal outcome) 1 0) so.refused
          ∙ sym (refusals-more so.outcomes outcome));
      fewer = omega (arith, refused, so.fewer, items, at_most_one (is_refusal outcome));
      few = omega (arith, items, so.few, found.some, length-append given found.added);
      sound = so.sound;
    }

-- what was given is within the bytes that a reader of paragraphs reads
pub given_few : (start now : Told) (p : Paragraphs) (given : List Entry) → HasGiven start now p
    given → length given ≤ 2 ^ 36
given_few start now p given has =
    let all : length has.text ≡ length has.prefix + length (held p) = ap length has.cut
    ∙ length-append has.prefix (held p) in
    omega (arith, all, has.few, has.bounded, p.few)

-- no item is left after what was given
pub HandlesAll-end : {source : List ℕ} {given : List Entry} {old new : Reg} {before after : Told}
    {secrets : List (List ℕ)} {done : Done} (added : List Entry) →
    ComesTo source given old new before after secrets done → AreItems source secrets added [] →
    HandlesAll source (given ++ added) old new before after done
HandlesAll-end {source} {given} {old} {new} added so none = record {
  items = so.items;
  outcomes = so.outcomes;
  are_items = rw append-nil at (so.are_items added [] none);
  runs = so.runs;
  confined = items_confined source (given ++ added) so.items [] old new so.outcomes so.sound
      (so.are_items added [] none) so.runs;
  writes = so.writes;
  counted = so.counted;
  refused = so.refused;
}

apart_by : (state : ParagraphsState) (now : Told) (prefix left : List ℕ) → KeepsApart state now
    prefix
    left → (whole_part prefix ≡ prefix) ⊎ ((left ≡ []) × IsSpent now)
apart_by Open now prefix left keeps = inl keeps
apart_by Ended now prefix left keeps = inr keeps
apart_by Broken now prefix left keeps = absurd keeps
apart_by Endless now prefix left keeps = absurd keeps

-- the prefix that was given
pub prefix_read : (start now : Told) (p : Paragraphs) (given : List Entry)
    (has : HasGiven start now p given) → ReadsItems start now has.prefix
prefix_read start now p given has = record {
  left = held p;
  gives = rw (← has.cut) has.gives;
  short = held_few p;
  apart = apart_by (state_of p) now has.prefix (held p) has.apart;
  few = within_limit start.reads now.reads (reads_of p) has.counts p.few;
}

-- the items up to one that was found
last_items : {source : List ℕ} {given : List Entry} {old between : Reg} {before middle : Told}
    {secrets : List (List ℕ)} {done : Done}
    (start now : Told) (p : Paragraphs) (then_secrets : List (List ℕ)) (request : Asked) →
    (so : ComesTo source given old between before middle secrets done) →
    (found : FindsItem source start now p given secrets then_secrets request) →
    AreItems source [] (entries found.has.prefix)
    (so.items ++ record { secrets = then_secrets; request = request } ∷ [])
last_items {source} {given} start now p then_secrets request so found =
    let item : ItemRequest = record { secrets = then_secrets; request = request } in
    let all : AreItems source [] (given ++ (found.added ++ [])) (so.items ++ item ∷ []) =
    so.are_items (found.added ++ []) (item ∷ []) (found.item [] [] at_end) in
    let same : entries found.has.prefix ≡ given ++ (found.added ++ []) = found.has.spelled
    ∙ ap (λ es. given ++ es) (sym (append-nil found.added)) in
    subst (λ es. AreItems source [] es (so.items ++ item ∷ [])) (sym same) all

-- a line could not be written
pub HandlesSome-cut : {source : List ℕ} {given : List Entry} {old between : Reg}
    {before middle : Told} {secrets : List (List ℕ)} {done : Done}
    (start now : Told) (p : Paragraphs) (new : Reg) (after : Told) (then_secrets : List (List ℕ))
    (count : ℕ) (request : Asked) (outcome : Outcome) →
    ComesTo source given old between before middle secrets done → FindsItem source start now p
    given secrets then_secrets request →
    Decides between then_secrets request.action outcome new → count ≡ done.items + 1 →
    TakesPrefix middle after (item_line count request.key outcome) →
    HandlesUnwritten source start now old new before after count
HandlesSome-cut {source} {old} {between} {middle} start now p new after then_secrets count request
    outcome so found decides items line =
    let item : ItemRequest = record { secrets = then_secrets; request = request } in
    let are : AreItems source [] (entries found.has.prefix) (so.items ++ item ∷ []) =
    last_items start now p then_secrets request so found in
    let run : Run old (map submitted_item (so.items ++ item ∷ [])) (so.outcomes ++ outcome ∷ [])
    new =
    Run-more old between new so.items so.outcomes item outcome so.runs decides in
    record {
      prefix = found.has.prefix;
      reads = prefix_read start now p _ found.has;
      handles = record {
        told = so.items;
        last = item;
        outcomes = so.outcomes;
        outcome = outcome;
        between = middle;
        are_items = are;
        runs = run;
        confined = all_items_confined source (entries found.has.prefix) (so.items ++ item ∷ []) old
            new (so.outcomes ++ outcome ∷ []) so.sound are run;
        writes = so.writes;
        cut = line;
        counted = items ∙ ap (λ n. n + 1) so.counted;
      };
    }

-- the ledger stopped
pub HandlesThenStops-cut : {L : Type 0} (g : Ghosts L) {source : List ℕ} {given : List Entry}
    (old between new : L) {before middle : Told} {secrets : List (List ℕ)} {done : Done}
    (start now : Told) (p : Paragraphs) (after : Told) (then_secrets : List (List ℕ)) (count : ℕ)
    (request : Asked) →
    ComesTo source given (g.registry old) (g.registry between) before middle secrets done →
    g.is_stopped between ≡ false → FindsItem source start now p given secrets then_secrets
    request →
    StopsAt g between then_secrets request.action new → count ≡ done.items → TakesSome middle after
    (stop_lines count request.key) →
    HandlesStopped g source start now old new before after count
HandlesThenStops-cut g {source} old between new {before} {middle} start now p after then_secrets
    count request so running found stops items line =
    let item : ItemRequest = record { secrets = then_secrets; request = request } in
    let are : AreItems source [] (entries found.has.prefix) (so.items ++ item ∷ []) =
    last_items start now p then_secrets request so found in
    record {
      prefix = found.has.prefix;
      reads = prefix_read start now p _ found.has;
      handles = record {
        told = so.items;
        last = item;
        outcomes = so.outcomes;
        middle = between;
        between = middle;
        are_items = are;
        runs = so.runs;
        confined = items_confined source (entries found.has.prefix) so.items (item ∷ [])
            (g.registry old) (g.registry between) so.outcomes so.sound are so.runs;
        running = running;
        stops = stops;
        writes = so.writes;
        ends = line;
        counted = items ∙ so.counted;
      };
    }

-- an item could not be handled
pub Handles-cut : {L : Type 0} (g : Ghosts L) {source : List ℕ} {given : List Entry}
    (old between new : L) {before middle : Told} {secrets : List (List ℕ)}
    (start now : Told) (p : Paragraphs) (after : Told) (course then : Course)
    (request : Asked) (stop : HandlingFault) →
    ComesTo source given (g.registry old) (g.registry between) before middle secrets course.done →
    g.is_stopped between ≡ false → FindsItem source start now p given secrets course.secrets
    request →
    HandlesOne g request course then between new middle after (Err stop) →
    HandlesItems g old new source start now before after (Err stop)
Handles-cut g old between new start now p after course then request Memory so running found one =
    absurd one
Handles-cut g old between new start now p after course then request (Unwritten count) so running
    found one =
    HandlesSome-cut start now p _ after course.secrets count request one.outcome so found
    one.decides one.items one.writes
Handles-cut g old between new start now p after course then request (LedgerStopped count) so
    running found one =
    HandlesThenStops-cut g old between new start now p after course.secrets count request so running
    found one.stops one.items one.writes
