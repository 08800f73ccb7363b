-- What a submission leaves is the registry after the first of its items.
use Rattle.std.proofs.Common.{◌≡◌, ◌⊎◌, inl, inr, ℕ, ◌+◌, List, [], ◌∷◌, ◌++◌, map, length, Result}
use Rattle.std.proofs.Common.{Ok, Err, Some, refl, sym, subst, ◌∙◌, append_assoc, arith}
use Rattle.std.proofs.lemmas.List.{append-nil, length-append, map-append}
use Rattle.rr_io.specs.Told.{Told}
use Rattle.rr_io.specs.Receiving.{Gives, Reads}
use Rattle.rr_io.specs.declared.receiving.ReadEnd.{ReadEnd}
use Rattle.rr_io.specs.declared.receiving.ReadEnd.TheVariants.{Whole, Broken, Endless}
use Rattle.rr_text.specs.Entries.{entries}
use Rattle.rr_text.specs.Fields.{Field}
use Rattle.rr_text.specs.WholePart.{whole_entries}
use Rattle.rr_text.specs.declared.text_fault.TextFault.{TextFault}
use Rattle.rr_object.specs.declared.code.Code.{Code}
use Rattle.rr_auth.specs.Registries.{Reg}
use Rattle.rr_auth.specs.declared.item.Item.{Item}
use Rattle.rr_registry.specs.declared.outcome.Outcome.{Outcome}
use Rattle.rr_registry.specs.Runs.{Decides, Run}
use Rattle.rr_registry.proofs.Running.{run_more}
use Rattle.rr_submission.specs.declared.submission.SubmissionFault.{SubmissionFault}
use Rattle.rr_submission.specs.declared.submission.SubmissionFault.TheVariants.{ReadFault}
use Rattle.rr_submission.specs.declared.submission.SubmissionFault.TheVariants.{WriteFault}
use Rattle.rr_submission.specs.declared.submission.SubmissionFault.TheVariants.{LedgerStopped}
use Rattle.rr_submission.specs.declared.submission.SubmissionFault.TheVariants.{Memory}
use Rattle.rr_submission.specs.declared.submission.SubmissionFault.TheVariants.{Stopped}
use Rattle.rr_submission.specs.declared.submission.Done.{Done}
use Rattle.rr_submission.specs.Handled.{HandlesStopped, HandlesUnwritten, ReadsItems, StopsAt}
use Rattle.rr_submission.specs.SubmissionItems.{AreItems, ItemRequest, submitted_item}
use Rattle.rr_submission.specs.Submissions.{SubmitsText, UnlessLedgerStopped}
use Rattle.rr_desk.specs.Events.{counted}
use Rattle.rr_desk.specs.HistoryLaws.{KeepsReported, ReportedIsKept}
use Rattle.rr_desk.specs.Modes.{IsOneOf, MayOpen, Mode, decides, halted, plain_ledger, registry_in}
use Rattle.rr_desk.specs.Modes.{resting, running, that_registry}
use Rattle.rr_desk.specs.Settings.{SettingsParts}

-- what was given begins what the reader had
abbrev pub Begins : Told → List ℕ → Type 0
Begins start text = (xs : List ℕ) → start.bytes ≡ Some xs → (rest : List ℕ) × (xs ≡ text ++ rest)

given : (start now : Told) (text : List ℕ) → Gives start now text → Begins start text
given start now text gives xs had = let left = gives.consumed xs had in (left.0, left.2)

begun : (start now : Told) (text : List ℕ) (end : ReadEnd) → Reads start now text end →
    Begins start text
begun start now text Whole reads = given start now text reads.0
begun start now text Broken reads = given start reads.0.between text reads.0.gives
begun start now text Endless reads = given start now text reads.0

read_begins : (start now : Told) (text : List ℕ) → ReadsItems start now text → Begins start text
read_begins start now text reads xs had =
    let left = reads.gives.consumed xs had in
    (reads.left ++ left.0, left.2 ∙ append_assoc text reads.left left.0)

-- all the items of a text
whole : (source : List ℕ) (items : List ItemRequest) (es : List (Result (List Field) TextFault)) →
    AreItems source [] es items → AreItems source [] es (items ++ [])
whole source items es are = subst (AreItems source [] es) (sym (append-nil items)) are

-- one of two that may be found
of_two : (before after s : Reg) → IsOneOf (that_registry before ∷ (that_registry after ∷ [])) s →
    (s ≡ before) ⊎ (s ≡ after)
of_two before after s (inl same) = inl same
of_two before after s (inr (inl same)) = inr same
of_two before after s (inr (inr none)) = absurd none

module _ (by : SettingsParts) (r s : Reg) (ro rn wo wn : Told) where
  -- where it runs on, the registry is that of the items decided
  runs_on : (next : Mode) → next ≡ running by (registry_in next) → MayOpen next s →
      s ≡ registry_in next
  runs_on (running other x) same may = may
  runs_on (halted other found) same may = absurd (cc)
  runs_on (resting found) same may = absurd (cc)

  -- all items of a text were decided
  all_kept : (text : List ℕ) (es : List (Result (List Field) TextFault)) (items : List ItemRequest)
      (outcomes : List Outcome) (after : Reg) (count : ℕ) → Begins ro text
      → (es ≡ entries text) ⊎ (es ≡ whole_entries text) → AreItems by.source [] es items →
      Run r (map submitted_item items) outcomes after → count ≡ length items → s ≡ after
      → KeepsReported by.source ro count r s
  all_kept text es items outcomes after count begins are is runs counts same = record {
    items = items;
    outcomes = outcomes;
    runs = subst (Run r (map submitted_item items) outcomes) (sym same) runs;
    are_first = inl (record {
      text = text;
      begins = begins;
      entries = es;
      later = [];
      are_entries = are;
      are_items = whole by.source items es is;
      at_least = omega (arith, counts);
      at_most = omega (arith, counts);
    });
  }

  -- those told, and one more
  one_more : (told : List ItemRequest) (last : ItemRequest) (outcomes : List Outcome)
      (outcome : Outcome) (middle after : Reg) → Run r (map submitted_item told) outcomes middle
      → Decides middle last.secrets last.request.action outcome after → s ≡ after →
      Run r (map submitted_item (told ++ last ∷ [])) (outcomes ++ outcome ∷ []) s
  one_more told last outcomes outcome middle after runs decided same =
      subst (λ (x : Reg). Run r (map submitted_item (told ++ last ∷ [])) (outcomes ++ outcome ∷ [])
      x) (sym same)
      (subst (λ items. Run r items (outcomes ++ outcome ∷ []) after)
      (sym (map-append submitted_item told (last ∷ [])))
      (run_more r middle after (map submitted_item told) (submitted_item last) outcomes outcome runs
      decided))

  -- where it stopped, it is the registry before the last item or the one after it
  record Halted (middle next : Mode) (secrets : List (List ℕ)) (action : Result Item Code) :
      Type 0 where
    pub after : Reg
    pub outcome : Outcome
    pub decided : Decides (registry_in middle) secrets action outcome after
    pub one : (s ≡ registry_in middle) ⊎ (s ≡ after)

  halted_at : (middle next : Mode) (secrets : List (List ℕ)) (action : Result Item Code) →
      StopsAt (plain_ledger by) middle secrets action next → MayOpen next s → Halted middle next
      secrets action
  halted_at middle next secrets (Ok item) halts may = record {
    after = halts.after;
    outcome = halts.outcome;
    decided = halts.step;
    one = of_two (registry_in middle) halts.after s (subst (λ (m : Mode). MayOpen m s) halts.halts
        may);
  }
  halted_at middle next secrets (Err code) halts may = absurd halts

  kept_stopped : (next : Mode) (count : ℕ) → HandlesStopped (plain_ledger by) by.source ro rn
      (running by r) next wo wn count → MayOpen next s → KeepsReported by.source ro count r s
  kept_stopped next count it may =
      let h = it.handles in
      let end = halted_at h.middle next h.last.secrets h.last.request.action h.stops may in
      let counts : count ≡ length h.told = h.counted in
      elim end.one [
        | inl same ↦ record {
          items = h.told;
          outcomes = h.outcomes;
          runs = subst (Run r (map submitted_item h.told) h.outcomes) (sym same) h.runs;
          are_first = inl (record {
            text = it.prefix;
            begins = read_begins ro rn it.prefix it.reads;
            entries = entries it.prefix;
            later = h.last ∷ [];
            are_entries = inl refl;
            are_items = h.are_items;
            at_least = omega (arith, counts);
            at_most = omega (arith, counts);
          });
        }
        | inr same ↦ record {
          items = h.told ++ h.last ∷ [];
          outcomes = h.outcomes ++ end.outcome ∷ [];
          runs = one_more h.told h.last h.outcomes end.outcome (registry_in h.middle) end.after
              h.runs end.decided same;
          are_first = inl (record {
            text = it.prefix;
            begins = read_begins ro rn it.prefix it.reads;
            entries = entries it.prefix;
            later = [];
            are_entries = inl refl;
            are_items = whole by.source (h.told ++ h.last ∷ []) (entries it.prefix) h.are_items;
            at_least = rw length-append (omega (arith, counts));
            at_most = rw length-append (omega (arith, counts));
          });
        }
      ]

  kept_unwritten : (after : Reg) (count : ℕ) → HandlesUnwritten by.source ro rn r after wo wn count
      → s ≡ after → KeepsReported by.source ro count r s
  kept_unwritten after count it same =
      let h = it.handles in
      let counts : count ≡ length h.told + 1 = h.counted in record {
        items = h.told ++ h.last ∷ [];
        outcomes = h.outcomes ++ h.outcome ∷ [];
        runs = subst (Run r (map submitted_item (h.told ++ h.last ∷ []))
            (h.outcomes ++ h.outcome ∷ [])) (sym same) h.runs;
        are_first = inl (record {
          text = it.prefix;
          begins = read_begins ro rn it.prefix it.reads;
          entries = entries it.prefix;
          later = [];
          are_entries = inl refl;
          are_items = whole by.source (h.told ++ h.last ∷ []) (entries it.prefix) h.are_items;
          at_least = rw length-append (omega (arith, counts));
          at_most = rw length-append (omega (arith, counts));
        });
      }

  -- nothing was decided
  none_kept : s ≡ r → KeepsReported by.source ro 0 r s
  none_kept same = record { items = []; outcomes = []; runs = same; are_first = inr (refl, refl) }

  kept : (next : Mode) (result : Result Done SubmissionFault) → SubmitsText (plain_ledger by)
      (running by r) next by.source ro rn wo wn result
      → UnlessLedgerStopped result (next ≡ running by (registry_in next)) → MayOpen next s →
      KeepsReported by.source ro (counted result) r s
  kept next (Ok done) it on may = all_kept it.text (entries it.text) it.items it.outcomes
      (registry_in next) done.items (begun ro rn it.text Whole it.reads) (inl refl) it.are_items
      it.runs it.counted (runs_on next on may)
  kept next (Err (ReadFault count)) it on may = all_kept it.text (whole_entries it.text) it.items
      it.outcomes (registry_in next) count (begun ro rn it.text it.end it.reads) (inr refl)
      it.are_items it.runs it.counted (runs_on next on may)
  kept next (Err (WriteFault count)) (inl it) on may = kept_unwritten (registry_in next) count it
      (runs_on next on may)
  kept next (Err (WriteFault count)) (inr it) on may = all_kept it.text (entries it.text) it.items
      it.outcomes (registry_in next) count (begun ro rn it.text Whole it.reads) (inl refl)
      it.are_items it.runs it.counted (runs_on next on may)
  kept next (Err (LedgerStopped count)) it on may = kept_stopped next count it may
  kept next (Err Memory) it on may = none_kept (runs_on next on may ∙ it.same)
  kept next (Err Stopped) it on may = absurd it

pub reported_is_kept : ReportedIsKept
reported_is_kept by r s next ro rn wo wn result (decides _ _ _ _ _ _ _ _ it on) may =
    kept by r s ro rn wo wn next result it on may
