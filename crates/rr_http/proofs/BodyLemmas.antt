-- Lemmas on submissions of a body: what is said of its reader is said of its bytes.
use Rattle.std.proofs.Common.{◌≡◌, ◌≢◌, ℕ, ◌+◌, ◌<◌, ◌≤◌, inl, inr, List, [], ◌∷◌, ◌++◌, length}
use Rattle.std.proofs.Common.{length-append, append_assoc, Some, Ok, Err, arith, refl, ap, sym, ◌∙◌}
use Rattle.std.proofs.Common.{subst}
use Rattle.std.specs.Prelude.{Result, replicate}
use Rattle.std.proofs.lemmas.List.{append_cancel_right, length-replicate}
use Rattle.rr_io.specs.Told.{Beside, Told}
use Rattle.rr_io.specs.Receiving.{BreaksOff, Gives, IsSpent, Reads}
use Rattle.rr_io.specs.declared.receiving.ReadEnd.{ReadEnd}
use Rattle.rr_io.specs.declared.receiving.ReadEnd.TheVariants.{Whole, Broken, Endless}
use Rattle.rr_submission.specs.declared.ledger.Ledger.{Ghosts}
use Rattle.rr_submission.specs.declared.submission.Done.{Done}
use Rattle.rr_submission.specs.declared.submission.SubmissionFault.{SubmissionFault}
use Rattle.rr_submission.specs.declared.submission.SubmissionFault.TheVariants as fault
use Rattle.rr_submission.specs.Handled.{ReadsItems}
use Rattle.rr_submission.specs.Submissions as submissions
use Rattle.rr_submission.specs.Submissions.{Sides, Submits}
use Rattle.rr_http.specs.declared.body.Body.{Body}
use Rattle.rr_http.specs.BodyParts.{body_failed, body_missing, body_reads, body_rest, body_told}
use Rattle.rr_http.specs.BodyParts.{told_short}
use Rattle.rr_http.specs.Answering.{EndsWhole, SubmitsBody, TellsMissing, in_memory}
use Rattle.rr_http.proofs.Asides.{reader_aside}

module _ (body rest : List ℕ) (missing faults reads : ℕ) where
  -- the reader before, and after: so many zeros stand after the bytes
  abbrev start : Told
  start = told_short body missing 0 0

  abbrev end : Told
  end = told_short rest missing faults reads

  abbrev plain_start : Told
  plain_start = in_memory body 0 0

  abbrev plain_end : Told
  plain_end = in_memory rest faults reads

  given : (bytes : List ℕ) → body ++ replicate missing 0 ≡ bytes ++ (rest ++ replicate missing 0) →
      body ≡ bytes ++ rest
  given bytes e = append_cancel_right _ _ _
      (e ∙ sym (append_assoc bytes rest (replicate missing 0)))

  gives_plain : (bytes : List ℕ) → Gives start end bytes → Gives plain_start plain_end bytes
  gives_plain bytes p =
      let all = p.consumed (body ++ replicate missing 0) refl in
      let left : rest ++ replicate missing 0 ≡ all.0 = cc in
      let is : body ≡ bytes ++ rest = given bytes (all.2 ∙ ap (λ xs. bytes ++ xs) (sym left)) in
      record {
        consumed = λ xs e. (rest, refl, (let same : xs ≡ body = cc in same ∙ is));
        no_fault = p.no_fault;
        aside = refl;
      }

  none_left : IsSpent end → rest ++ replicate missing 0 ≡ []
  none_left p = p.none_left (rest ++ replicate missing 0) refl

  none_missing : IsSpent end → missing ≡ 0
  none_missing p =
      let none : length (rest ++ replicate missing 0) ≡ 0 = ap (λ (xs : List ℕ). length xs)
      (none_left p) in
      omega (arith, length-append rest (replicate missing 0), length-replicate {A = ℕ} missing 0)

  no_rest : (xs ys : List ℕ) → xs ++ ys ≡ [] → xs ≡ []
  no_rest [] ys e = refl
  no_rest (x ∷ xs) ys e = cc

  spent_plain : IsSpent end → IsSpent plain_end
  spent_plain p = record {
    none_left = λ xs e. let same : xs ≡ rest = cc in same ∙ no_rest rest
        (replicate missing 0) (none_left p);
  }

  breaks_plain : (bytes : List ℕ) → BreaksOff start end bytes → BreaksOff plain_start plain_end
      bytes
  breaks_plain bytes p =
      let all = p.gives.consumed (body ++ replicate missing 0) refl in
      let stay : Some (rest ++ replicate missing 0) ≡ Some all.0 = p.fails.bytes_stay all.0 all.1 in
      let left : rest ++ replicate missing 0 ≡ all.0 = cc in
      let is : body ≡ bytes ++ rest = given bytes (all.2 ∙ ap (λ xs. bytes ++ xs) (sym left)) in
      record {
        between = in_memory rest p.between.faults p.between.reads;
        gives = record {
          consumed = λ xs e. (rest, refl, (let same : xs ≡ body = cc in same ∙ is));
          no_fault = p.gives.no_fault;
          aside = refl;
        };
        fails = record {
          bytes_stay = λ xs e. e;
          counted = p.fails.counted;
          no_read = p.fails.no_read;
          aside = refl;
        };
      }

  reads_plain : (bytes : List ℕ) (by : ReadEnd) → Reads start end bytes by →
      Reads plain_start plain_end bytes by
  reads_plain bytes Whole p = (gives_plain bytes p.0, spent_plain p.1, p.2)
  reads_plain bytes Broken p = (breaks_plain bytes p.0, p.1)
  reads_plain bytes Endless p = (gives_plain bytes p.0, p.1, p.2)

  prefix_plain : (prefix : List ℕ) → ReadsItems start end prefix → ReadsItems plain_start plain_end
      prefix
  prefix_plain prefix p = record {
    left = p.left;
    gives = gives_plain (prefix ++ p.left) p.gives;
    short = p.short;
    apart = elim p.apart [
      | inl whole ↦ inl whole
      | inr at_end ↦
          inr (at_end.0, spent_plain at_end.1)
    ];
    few = p.few;
  }

  prefix_whole : (prefix : List ℕ) → ReadsItems start end prefix → EndsWhole prefix missing
  prefix_whole prefix p = elim p.apart [
    | inl whole ↦ inl whole
    | inr at_end ↦
        inr (none_missing at_end.1)
  ]

  -- a reading that did not come to the end ended with a failed read after the bytes
  falls_short : (bytes : List ℕ) (by : ReadEnd) → length body ≤ 1048576 →
      (0 < faults → (0 < missing) × (rest ≡ [])) → by ≢ Whole → Reads start end bytes by →
      (missing ≢ 0) × (rest ≡ [])
  falls_short bytes Whole small fails unended p = absurd (unended refl)
  falls_short bytes Broken small fails unended p =
      let none : p.0.between.faults ≡ 0 = p.0.gives.no_fault in
      let one : faults ≡ p.0.between.faults + 1 = p.0.fails.counted.exact (omega arith) in
      let so = fails (omega arith) in
      ((λ e. let some : 0 < missing = so.0 in let no : ⊥ = omega arith in no), so.1)
  falls_short bytes Endless small fails unended p =
      let is = (gives_plain bytes p.0).consumed body refl in
      let whole : body ≡ bytes ++ is.0 = is.2 in
      let long : length body ≡ length (bytes ++ is.0) = ap (λ (xs : List ℕ). length xs) whole in
      absurd (omega (arith, p.1, length-append bytes is.0))

  same_plain : end ≡ start → plain_end ≡ plain_start
  same_plain e =
      let bytes : rest ++ replicate missing 0 ≡ body ++ replicate missing 0 =
      (let some = ap (λ (told : Told). told.bytes) e in cc) in
      let same : rest ≡ body = append_cancel_right _ _ _ bytes in
      let no_fault : faults ≡ 0 = ap (λ (told : Told). told.faults) e in
      let no_read : reads ≡ 0 = ap (λ (told : Told). told.reads) e in
      cc

  module _ {D : Type 0} (g : Ghosts D) (source : List ℕ) (before after : D) (old new : Told) where
    abbrev sides : Told → Told → Sides
    sides from to = record {
      reader_before = from;
      reader_after = to;
      writer_before = old;
      writer_after = new;
      before = g.registry before;
      after = g.registry after;
    }

    made : (result : Result Done SubmissionFault)
        (p : Submits g before after source (sides plain_start plain_end) result) →
        TellsMissing g source (sides plain_start plain_end) before after rest missing result p →
        SubmitsBody g source body missing before after old new result
    made result p tells = record {
      rest = rest;
      faults = faults;
      reads = reads;
      submits = p;
      tells = tells;
    }

    -- what is submitted is a body
    pub submits_body : (result : Result Done SubmissionFault) → length body ≤ 1048576 →
        (0 < faults → (0 < missing) × (rest ≡ [])) →
        Submits g before after source (sides start end) result → SubmitsBody g source body missing
        before after old new result
    submits_body (Ok done) small fails p = made (Ok done) (record {
      text = p.text;
      items = p.items;
      outcomes = p.outcomes;
      reads = reads_plain p.text Whole p.reads;
      are_items = p.are_items;
      runs = p.runs;
      confined = p.confined;
      writes = p.writes;
      counted = p.counted;
      refused = p.refused;
    }) (none_missing p.reads.1)
    submits_body (Err (fault.ReadFault items)) small fails p = made (Err (fault.ReadFault items))
        (record {
          text = p.text;
          end = p.end;
          items = p.items;
          outcomes = p.outcomes;
          between = p.between;
          reads = reads_plain p.text p.end p.reads;
          unended = p.unended;
          are_items = p.are_items;
          runs = p.runs;
          confined = p.confined;
          writes = p.writes;
          ends = p.ends;
          counted = p.counted;
        }) (falls_short p.text p.end small fails p.unended p.reads)
    submits_body (Err (fault.WriteFault items)) small fails (inl p) =
        made (Err (fault.WriteFault items)) (inl (record {
          prefix = p.prefix;
          reads = prefix_plain p.prefix p.reads;
          handles = p.handles;
        })) (prefix_whole p.prefix p.reads)
    submits_body (Err (fault.WriteFault items)) small fails (inr p) =
        made (Err (fault.WriteFault items)) (inr (record {
          text = p.text;
          items = p.items;
          outcomes = p.outcomes;
          between = p.between;
          reads = reads_plain p.text Whole p.reads;
          are_items = p.are_items;
          runs = p.runs;
          confined = p.confined;
          writes = p.writes;
          cut = p.cut;
          counted = p.counted;
        })) (none_missing p.reads.1)
    submits_body (Err (fault.LedgerStopped items)) small fails p =
        made (Err (fault.LedgerStopped items))
        (record {
          prefix = p.prefix;
          reads = prefix_plain p.prefix p.reads;
          handles = p.handles;
        }) (prefix_whole p.prefix p.reads)
    submits_body (Err fault.Memory) small fails p = made (Err fault.Memory) (record {
      unread = same_plain p.unread;
      same = p.same;
      writes = p.writes;
    }) tt
    submits_body (Err fault.Stopped) small fails p = absurd p

same_told : (xs ys : List ℕ) (m n f h r s : ℕ) → xs ≡ ys → m ≡ n → f ≡ h → r ≡ s →
    told_short xs m f r ≡ told_short ys n h s
same_told xs ys m n f h r s a b c d =
    ap (λ zs. told_short zs m f r) a
    ∙ (ap (λ k. told_short ys k f r) b ∙ (ap (λ k. told_short ys n k r) c ∙ ap (told_short ys n h)
    d))

-- what is submitted by this reader is a body
pub body_submitted : {D : Type 0} (g : Ghosts D) (source bytes : List ℕ) (missing : ℕ)
    (before after : D) (old new : Told) (result : Result Done SubmissionFault) (fresh used : Body) →
    length bytes ≤ 1048576 → body_rest fresh ≡ bytes → body_missing fresh ≡ missing →
    body_failed fresh ≡ 0 → body_reads fresh ≡ 0 →
    Submits g before after source (record {
      reader_before = body_told fresh;
      reader_after =
          body_told used;
      writer_before = old;
      writer_after = new;
      before = g.registry before;
      after = g.registry after;
    }) result →
    SubmitsBody g source bytes missing before after old new result
body_submitted g source bytes missing before after old new result fresh used small rest lacks
    failed reads p =
    let still : body_missing used ≡ missing = ap (λ (other : Beside). other.faults)
    (reader_aside g before after source
    (submissions.sides (body_told fresh) (body_told used) old new (g.registry before)
    (g.registry after)) result p) ∙ lacks in
    let first : body_told fresh ≡ told_short bytes missing 0 0 = same_told _ _ _ _ _ _ _ _ rest
    lacks failed reads in
    let last : body_told used ≡ told_short (body_rest used) missing (body_failed used)
    (body_reads used) = same_told _ _ _ _ _ _ _ _ refl still refl refl in
    submits_body bytes (body_rest used) missing (body_failed used) (body_reads used) g source
    before after old new result small
    (λ some. let at_end = used.fails_at_end some in
    ((let lacking : 0 < body_missing used = at_end.0 in omega arith), at_end.1))
    (subst (λ told. Submits g before after source
    (record {
      reader_before = told;
      reader_after = told_short (body_rest used) missing
          (body_failed used) (body_reads used);
      writer_before = old;
      writer_after = new;
      before =
          g.registry before;
      after = g.registry after;
    }) result) first
    (subst (λ told. Submits g before after source
    (record {
      reader_before = body_told fresh;
      reader_after = told;
      writer_before = old;
      writer_after = new;
      before = g.registry before;
      after = g.registry after;
    }) result) last p))
