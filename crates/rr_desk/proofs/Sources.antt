-- The registries of desks are of their settings' source.
use Rattle.std.proofs.Common.{◌≡◌, ℕ, List, [], ◌∷◌, ◌++◌, map, Result, Ok, Err, inl, inr, Bool}
use Rattle.std.proofs.Common.{true, false, refl, sym, ap, subst, ◌∙◌}
use Rattle.std.proofs.lemmas.List.{map-append}
use Rattle.std.specs.Prelude.{None, Some}
use Rattle.std.specs.List.{AllByRecursion}
use Rattle.std.specs.FinMap.{empty, get, insert, get-empty}
use Rattle.sqlite_trees.specs.declared.store.Store as store
use Rattle.sqlite_trees.proofs.ListLemmas.{all_weaker}
use Rattle.rr_io.specs.Told.{Told}
use Rattle.rr_text.specs.Entries.{entries}
use Rattle.rr_text.specs.WholePart.{whole_entries}
use Rattle.rr_object.specs.declared.code.Code.{Code}
use Rattle.rr_object.specs.declared.key.Key.{Key}
use Rattle.rr_object.specs.KeyOrders.{key_cmp}
use Rattle.rr_object.specs.Objects.{Obj}
use Rattle.rr_object.specs.Readings.{ReadsAs, obj_at}
use Rattle.rr_auth.specs.declared.item.Item.{Item}
use Rattle.rr_auth.specs.Registries.{Reg, Sound}
use Rattle.rr_auth.specs.Sources.{IsRegistryOf}
use Rattle.rr_auth.proofs.Keeping.{after_insert}
use Rattle.rr_registry.specs.declared.outcome.Outcome.{Outcome}
use Rattle.rr_registry.specs.Loading.{IsTaken, gathered}
use Rattle.rr_registry.specs.Runs.{Decides, Run}
use Rattle.rr_registry.proofs.Running.{run_more}
use Rattle.rr_store.specs.Maps.{IsObjectOf}
use Rattle.rr_submission.specs.declared.submission.SubmissionFault.{SubmissionFault}
use Rattle.rr_submission.specs.declared.submission.SubmissionFault.TheVariants.{ReadFault}
use Rattle.rr_submission.specs.declared.submission.SubmissionFault.TheVariants.{WriteFault}
use Rattle.rr_submission.specs.declared.submission.SubmissionFault.TheVariants.{LedgerStopped}
use Rattle.rr_submission.specs.declared.submission.SubmissionFault.TheVariants.{Memory}
use Rattle.rr_submission.specs.declared.submission.SubmissionFault.TheVariants.{Stopped}
use Rattle.rr_submission.specs.declared.submission.Done.{Done}
use Rattle.rr_submission.specs.Handled.{StopsAt, HandlesStopped}
use Rattle.rr_submission.specs.SubmissionItems.{submitted_item}
use Rattle.rr_submission.specs.Submissions.{Submits}
use Rattle.rr_submission.proofs.Keeping.{items_keep_the_source}
use Rattle.rr_desk.specs.declared.desk.Desk.{Desk}
use Rattle.rr_desk.specs.Opening.{IsOpeningRegistry}
use Rattle.rr_desk.specs.Settings.{IsSettings, SettingsParts}
use Rattle.rr_desk.specs.Stocks.{StockParts, stock_ledger}
use Rattle.rr_desk.proofs.Opens.{addresses_read, numbers_read, root_read, upper_read}
use Rattle.rr_desk.proofs.OpeningRegistry.{are_these, opening_objects, upper_object}

gathered_each : (P : Obj → Type 0) (r : Reg) (os : List Obj) →
    ((k : Key) (o : Obj) → get r k ≡ Some o → P o) → AllByRecursion P os → (k : Key) (o : Obj) →
    get (gathered r os) k ≡ Some o → P o
gathered_each P r [] old all = old
gathered_each P r (x ∷ os) old all = gathered_each P (insert r x.key x) os
    (after_insert (λ k o. P o) r x.key x all.0 old) all.1

nothing : {A : Type 0} (x : A) → None ≡ Some x → ⊥
nothing x e = cc

-- what holds of each object of a list holds of each that its registry has
pub taken_each : (P : Obj → Type 0) (os : List Obj) (r : Reg) → IsTaken os r →
    AllByRecursion P os → (k : Key) (o : Obj) → get r k ≡ Some o → P o
taken_each P os r taken all k o found =
    gathered_each P empty os (λ l x none. absurd (nothing x (sym (get-empty key_cmp l) ∙ none)))
    all k o (ap (λ m. get m k) (sym taken.whole) ∙ found)

-- an object is what its paragraph reads as in a source
abbrev pub IsReadIn : List ℕ → Obj → Type 0
IsReadIn source o = ReadsAs source o.paragraph o

pub taken_read : (source : List ℕ) (os : List Obj) (r : Reg) → IsTaken os r → Sound r →
    AllByRecursion (IsReadIn source) os → IsRegistryOf source r
taken_read source os r taken sound all =
    record { sound = sound; read = taken_each (IsReadIn source) os r taken all }

-- the registry of objects of a source is of it
pub taken_of_source : (source : List ℕ) (os : List Obj) (r : Reg) → IsTaken os r → Sound r →
    AllByRecursion (IsObjectOf source) os → IsRegistryOf source r
taken_of_source source os r taken sound all = taken_read source os r taken sound
    (all_weaker (IsObjectOf source) (IsReadIn source) (λ o is. is.read) os all)

-- with the block of the other AS numbers too
pub block_read : (s : SettingsParts) (b : Obj) → IsSettings s → b ≡ upper_object s →
    IsReadIn s.source b
unfolding obj_at
block_read s b is same = subst (IsReadIn s.source) (sym same) (upper_read s is)

-- the registry that opens with settings is of their source
opening_read : (s : SettingsParts) → IsSettings s → AllByRecursion (IsReadIn s.source)
    (opening_objects s)
unfolding obj_at
opening_read s is =
    (root_read s is, (numbers_read s is, (upper_read s is, (addresses_read s is, tt))))

pub opened_of_source : (s : SettingsParts) (r : Reg) → IsSettings s → Sound r →
    IsOpeningRegistry s r → IsRegistryOf s.source r
opened_of_source s r is sound opened =
    taken_read s.source opened.objects r opened.taken sound
    (subst (AllByRecursion (IsReadIn s.source))
    (sym (are_these s opened.objects is opened.are_opening)) (opening_read s is))

module _ {S : Type 0} (g : store.Ghosts S) (source : List ℕ) (old new : StockParts S) where
  -- what brings the desk to a stop is decided
  decided : (middle : StockParts S) (secrets : List (List ℕ)) (action : Result Item Code) →
      StopsAt (stock_ledger g) middle secrets action new → (outcome : Outcome)
      × Decides middle.registry secrets action outcome new.registry
  decided middle secrets (Ok item) stops = (stops.outcome, stops.step)
  decided middle secrets (Err code) stops = absurd stops

  stopped_of_source : (start now before after : Told) (count : ℕ) → HandlesStopped (stock_ledger g)
      source start now old new before after count → IsRegistryOf source old.registry →
      IsRegistryOf source new.registry
  stopped_of_source start now before after count served of =
      let s = served.handles in
      let last = decided s.middle s.last.secrets s.last.request.action s.stops in
      let run = run_more old.registry s.middle.registry new.registry (map submitted_item s.told)
      (submitted_item s.last) s.outcomes last.0 s.runs last.1 in
      items_keep_the_source source (entries served.prefix) (s.told ++ s.last ∷ []) old.registry
      new.registry (s.outcomes ++ last.0 ∷ []) of s.are_items
      (subst (λ items. Run old.registry items (s.outcomes ++ last.0 ∷ []) new.registry)
      (sym (map-append submitted_item s.told (s.last ∷ []))) run)

  -- a submission leaves the registry one of its source
  kept_of_source : (start now before after : Told) (result : Result Done SubmissionFault)
      → Submits (stock_ledger g) old new source
      (record {
        reader_before = start;
        reader_after = now;
        writer_before = before;
        writer_after = after;
        before = old.registry;
        after = new.registry;
      }) result
      → IsRegistryOf source old.registry → IsRegistryOf source new.registry
  kept_of_source start now before after (Ok done) h of = items_keep_the_source source
      (entries h.text) h.items old.registry new.registry h.outcomes of h.are_items h.runs
  kept_of_source start now before after (Err (ReadFault count)) h of = items_keep_the_source source
      (whole_entries h.text) h.items old.registry new.registry h.outcomes of h.are_items h.runs
  kept_of_source start now before after (Err (WriteFault count)) (inl h) of =
      let s = h.handles in
      items_keep_the_source source (entries h.prefix) (s.told ++ s.last ∷ []) old.registry
      new.registry (s.outcomes ++ s.outcome ∷ []) of s.are_items s.runs
  kept_of_source start now before after (Err (WriteFault count)) (inr h) of = items_keep_the_source
      source (entries h.text) h.items old.registry new.registry h.outcomes of h.are_items h.runs
  kept_of_source start now before after (Err (LedgerStopped count)) h of = stopped_of_source start
      now
      before after count h of
  kept_of_source start now before after (Err Memory) h of = subst (IsRegistryOf source)
      (sym h.same) of
  kept_of_source start now before after (Err Stopped) h of = absurd h

  -- and so does one that was refused
  submitted_where : (stopped : Bool) (start now before after : Told)
      (result : Result Done SubmissionFault) → (stopped ≡ true → new ≡ old)
      → (stopped ≡ false → Submits (stock_ledger g) old new source
      (record {
        reader_before = start;
        reader_after = now;
        writer_before = before;
        writer_after = after;
        before = old.registry;
        after = new.registry;
      }) result)
      → IsRegistryOf source old.registry → IsRegistryOf source new.registry
  submitted_where true start now before after result same submits of =
      subst (λ (s : StockParts S). IsRegistryOf source s.registry) (sym (same refl)) of
  submitted_where false start now before after result same submits of = kept_of_source start now
      before after result (submits refl) of

  pub submitted_of_source : (start now before after : Told) (result : Result Done SubmissionFault) →
      (old.stopped ≡ true → new ≡ old)
      → (old.stopped ≡ false → Submits (stock_ledger g) old new source
      (record {
        reader_before = start;
        reader_after = now;
        writer_before = before;
        writer_after = after;
        before = old.registry;
        after = new.registry;
      }) result)
      → IsRegistryOf source old.registry → IsRegistryOf source new.registry
  submitted_of_source start now before after result same submits of = submitted_where old.stopped
      start now before after result same submits of

-- a desk with another registry and store
abbrev pub with_stock : {S : Type 0} → Desk S → StockParts S → Desk S
with_stock desk stock = record { settings = desk.settings; stock = stock }

-- a desk is as it was where its registry and its store are
pub same_desk : {S : Type 0} (desk : Desk S) (stock : StockParts S) → stock ≡ desk.stock →
    with_stock desk stock ≡ desk
same_desk desk stock same = ap (with_stock desk) same
