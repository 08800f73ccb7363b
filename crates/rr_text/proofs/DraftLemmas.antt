-- Lemmas on what a draft has of the text so far: for `draft` and `paragraphs`.
-- A draft is told by a cut of the text: lines passed, the open block and the line that has begun.
-- It splits by the line's end (passed, taken, closed) and by whether the text kept is over its
-- limit. The new cut is given by hand in each case. `Draft` (`add`, `add_lines`, `finish`),
-- `Paragraphs::gather` and `ReaderLemmas` need it.
use Rattle.std.proofs.Common.{◌≡◌, ℕ, ◌+◌, ◌-◌, ◌<◌, ◌≤◌, Bool, true, false, ◌&&◌, ◌||◌, List, []}
use Rattle.std.proofs.Common.{◌∷◌, ◌++◌, ◌⊎◌, inl, inr, length, length-append, take, map, refl, sym}
use Rattle.std.proofs.Common.{ap, subst, ◌∙◌, arith, append_assoc, if◌then◌else◌}
use Rattle.std.proofs.lemmas.List.{append-nil, take_all, take_at, take-append-le}
use Rattle.std.proofs.Math.Bool.{or-true, and-false}
use Rattle.std.proofs.lemmas.List.Folds.{list_any-append}
use Rattle.std.specs.List.{list_any, concat, onto_first}
use Rattle.rr_text.specs.declared.draft.Draft.{Draft}
use Rattle.rr_text.specs.declared.line_so_far.LineSoFar.{LineSoFar}
use Rattle.rr_text.specs.declared.line_so_far.LineSoFar.TheVariants.{Nothing}
use Rattle.rr_text.specs.declared.line_so_far.LineEnd.{LineEnd}
use Rattle.rr_text.specs.declared.line_so_far.LineEnd.TheVariants.{Passed, Taken, Closed}
use Rattle.rr_text.specs.LineParts.{line_so_far, line_with, end_of_line}
use Rattle.rr_text.specs.DraftParts.{IsCutSo, KeepsBlock, IsUnclosed, HasEntry, IsClosed}
use Rattle.rr_text.specs.DraftParts.{GathersLines, Finishes, HasNoText, KeepsPiece, TakesLine}
use Rattle.rr_text.specs.DraftParts.{EndsLine}
use Rattle.rr_bytes.specs.Blanks.{is_line_feed}
use Rattle.rr_text.specs.Lines.{text_lines, are_whole_lines, IsWholeLine, is_blank_line}
use Rattle.rr_text.specs.Lines.{is_paragraph_line}
use Rattle.rr_text.specs.Blocks.{blocks}
use Rattle.rr_text.specs.PrivateParts.{starts_block}
use Rattle.rr_text.specs.Entries.{entries, block_entry, size_limit}
use Rattle.rr_text.specs.WholePart.{closes, closed_lines, whole_part, whole_entries}
use Rattle.rr_text.proofs.LineLemmas.{text_lines-append, are_whole_lines-append}
use Rattle.rr_text.proofs.LineSoFarLemmas.{or_none, single_after, whole_after, line_with-append}
use Rattle.rr_text.proofs.LineSoFarLemmas.{EndsSo, ends_so}
use Rattle.rr_text.proofs.BlockLemmas.{no_blocks}
use Rattle.rr_text.proofs.ApartLemmas.{IsSplit, lines_split, closed_prefix, closed_before}
use Rattle.rr_text.proofs.ApartLemmas.{whole_closed}
use Rattle.rr_text.proofs.LineEnds.{blocks_idle, idle_alone, blocks_one, IsAtLineEnd, no_text_lines}
use Rattle.rr_text.proofs.LineEnds.{passed_end, closed_end, IsLonger, idle_one, none_both, longer}
use Rattle.rr_text.proofs.LineEnds.{taken_end, after_lines, cut_more, cut_all, cut_ended}

prefix_more : (over : Bool) (whole : ℕ) (kept new piece block : List ℕ) → (whole ≤ length kept)
    × (take whole kept ≡ block) → (over ≡ false → new ≡ kept ++ piece) → (over ≡ true → new ≡ kept)
    → (whole ≤ length new) × (take whole new ≡ block)
prefix_more true whole kept new piece block prefix fits left = let e : new ≡ kept = left refl in
    rw e prefix
prefix_more false whole kept new piece block prefix fits left =
    let e : new ≡ kept ++ piece = fits refl in
    let within : whole ≤ length kept = prefix.0 in (
      rw e (omega (arith, length-append kept piece)),
      ap (take whole) e
          ∙ (take-append-le whole kept piece within ∙ prefix.1),
    )

large_by : (over : Bool) (block line piece kept : List ℕ) → (over ≡ false → kept ≡ block ++ line) →
    (over ≡ true → size_limit < length (block ++ line))
    → (over ≡ true) ⊎ (size_limit < length kept + length piece) → size_limit < length
    (block ++ (line ++ piece))
large_by true block line piece kept all large more =
    let long = large refl in
    omega (
      arith,
      long,
      length-append block line,
      length-append block (line ++ piece),
      length-append line piece,
    )
large_by false block line piece kept all large (inl e) = cc
large_by false block line piece kept all large (inr long) =
    let is : kept ≡ block ++ line = all refl in
    omega (
      arith,
      long,
      ap length is,
      length-append block line,
      length-append block
          (line ++ piece),
      length-append line piece,
    )

-- what is kept with a piece more
pub kept_more : (old new : Draft) (piece block line : List ℕ) → KeepsBlock block line
    old.kept.items old.over old.whole → KeepsPiece old new piece
    → KeepsBlock block (line ++ piece) new.kept.items new.over new.whole
kept_more old new piece block line kept keeps = record {
  all = λ e. let fits = keeps.fits e in
      fits.1 ∙ (ap (λ r. r ++ piece) (kept.all fits.0) ∙ append_assoc block line piece);
  large = λ e. large_by old.over block line piece old.kept.items kept.all kept.large
      (keeps.over e).1;
  kept_whole = λ within. let same : new.whole ≡ old.whole = keeps.whole in
      rw same (prefix_more new.over old.whole old.kept.items new.kept.items piece block
      (kept.kept_whole (omega (arith, within, same))) (λ e. (keeps.fits e).1)
      (λ e. (keeps.over e).0));
  too_large = λ past. kept.too_large (omega (arith, past, keeps.whole));
}

taken_prefix : (over : Bool) (whole : ℕ) (kept block : List ℕ) →
    whole ≡ (if over then size_limit + 1 else length kept) → (over ≡ false → kept ≡ block) →
    whole ≤ size_limit
    → (whole ≤ length kept) × (take whole kept ≡ block)
taken_prefix true whole kept block is all within = absurd (omega (arith, is, within))
taken_prefix false whole kept block is all within =
    (omega (arith, is), take_all whole kept (omega (arith, is)) ∙ all refl)

taken_large : (over : Bool) (whole : ℕ) (kept block : List ℕ) → length kept ≤ size_limit →
    whole ≡ (if over then size_limit + 1 else length kept) →
    (over ≡ true → size_limit < length block)
    → size_limit < whole → size_limit < length block
taken_large true whole kept block most is large past = large refl
taken_large false whole kept block most is large past = absurd (omega (arith, is, most, past))

-- what is kept where the line that has begun is one of the block
pub kept_taken : (old new : Draft) (block line : List ℕ) → length old.kept.items ≤ size_limit →
    KeepsBlock block line old.kept.items old.over old.whole → TakesLine old new
    → KeepsBlock (block ++ line) [] new.kept.items new.over new.whole
kept_taken old new block line most kept takes =
    let items : new.kept.items ≡ old.kept.items = takes.kept in
    let over : new.over ≡ old.over = takes.over in
    let same : (block ++ line) ++ [] ≡ block ++ line = append-nil (block ++ line) in
    record {
      all = λ e. items ∙ (kept.all (sym over ∙ e) ∙ sym same);
      large = λ e. rw same (kept.large (sym over ∙ e));
      kept_whole = λ within. rw items (taken_prefix old.over new.whole old.kept.items
          (block ++ line) takes.whole kept.all within);
      too_large = λ past. taken_large old.over new.whole old.kept.items (block ++ line) most
          takes.whole kept.large past;
    }

kept_fresh : (draft : Draft) → HasNoText draft → KeepsBlock [] [] draft.kept.items draft.over
    draft.whole
kept_fresh draft fresh = record {
  all = λ _. fresh.kept;
  large = λ e. let over = fresh.over in cc;
  kept_whole = λ _. (omega (arith, fresh.whole), ap (λ n. take n draft.kept.items) fresh.whole);
  too_large = λ past. absurd (omega (arith, fresh.whole, past));
}

no_whole_lines : are_whole_lines [] ≡ true
unfolding are_whole_lines
no_whole_lines = refl

cut_none : (text : List ℕ) (passed : List (List ℕ)) →
    ((more : List ℕ) → text_lines (text ++ more) ≡ passed ++ text_lines more) →
    list_any is_paragraph_line passed ≡ false
    → IsCutSo text false [] []
cut_none text passed lines idle = record {
  passed = passed;
  lines = λ more. lines more ∙ ap (λ ls. passed ++ (ls ++ text_lines more)) (sym no_text_lines);
  idle = idle;
  starts = ap starts_block no_text_lines;
  none = λ _. refl;
  unbroken = ap (list_any is_blank_line) no_text_lines;
  whole = no_whole_lines;
  unfinished = refl;
}

unclosed_with : (text : List ℕ) (draft : Draft) → HasNoText draft → IsCutSo text false [] [] →
    IsUnclosed text draft
unclosed_with text draft fresh cut = record {
  block = [];
  line = [];
  cut = let started : draft.started ≡ false = fresh.started in rw started cut;
  kept = kept_fresh draft fresh;
  known = fresh.line;
}

-- no text has begun
pub unclosed_none : (draft : Draft) → HasNoText draft → IsUnclosed [] draft
unclosed_none draft fresh = unclosed_with [] draft fresh (cut_none [] [] (λ more. refl) refl)

-- a piece without its LF
pub unclosed_more : (text piece : List ℕ) (old new : Draft) → IsUnclosed text old →
    KeepsPiece old new piece → text_lines piece ≡ piece ∷ [] → are_whole_lines piece ≡ false →
    IsUnclosed (text ++ piece) new
unclosed_more text piece old new unclosed keeps single h = record {
  block = unclosed.block;
  line = unclosed.line ++ piece;
  cut = let started : new.started ≡ old.started = keeps.started in
      rw started (cut_more text unclosed.block unclosed.line piece old.started unclosed.cut single
      h);
  kept = kept_more old new piece unclosed.block unclosed.line unclosed.kept keeps;
  known = keeps.line ∙ (ap (λ kind. line_with kind piece) unclosed.known ∙ line_with-append
      unclosed.line piece);
}

feed_in : (bs : List ℕ) → 0 < length bs → are_whole_lines bs ≡ true → list_any is_line_feed bs
    ≡ true
unfolding are_whole_lines
feed_in [] some h = absurd (omega arith)
feed_in (b ∷ []) some h = rw h refl
feed_in (b ∷ c ∷ cs) some h = ap (λ t. is_line_feed b || t) (feed_in (c ∷ cs) (omega arith) h)
    ∙ or-true (is_line_feed b)

both_true : (a b : Bool) → a ≡ true → b ≡ true → (a && b) ≡ true
both_true a b h k = rw (h, k) refl

-- what a draft has after a line with its LF, by what the line's end does
record IsAtFeed (text piece : List ℕ) (started : Bool) (block line : List ℕ) : Type 0 where
  pub cut : IsCutSo text started block line
  pub at : IsAtLineEnd (text ++ piece) started block (line ++ piece)
  pub whole : IsWholeLine (line ++ piece)
  pub some : 0 < length (line ++ piece)

feed_lines : (text piece block line : List ℕ) (started : Bool)
    (at : IsAtFeed text piece started block line) (more : List ℕ)
    → text_lines ((text ++ piece) ++ more) ≡ at.cut.passed ++ (text_lines block ++ (line ++ piece)
    ∷ text_lines more)
feed_lines text piece block line started at more =
    after_lines text piece line at.cut.passed (text_lines block) at.cut.lines more
    ∙ ap (λ ls. at.cut.passed ++ (text_lines block ++ ls)) (text_lines-append (line ++ piece) more
    at.whole.ended ∙ ap (λ ls. ls ++ text_lines more) at.whole.single)

fed_passed : (text piece block line : List ℕ) (new : Draft) → IsAtFeed text piece false block line
    → is_paragraph_line (line ++ piece) ≡ false → HasNoText new → IsUnclosed (text ++ piece) new
fed_passed text piece block line new at h fresh =
    let none : block ≡ [] = at.cut.none refl in
    let lines : (more : List ℕ) → text_lines ((text ++ piece) ++ more)
    ≡ (at.cut.passed ++ (line ++ piece) ∷ []) ++ text_lines more = λ more.
    feed_lines text piece block line false at more
    ∙ (ap (λ ls. at.cut.passed ++ (ls ++ (line ++ piece) ∷ text_lines more))
    (ap text_lines none ∙ no_text_lines)
    ∙ sym (append_assoc at.cut.passed ((line ++ piece) ∷ []) (text_lines more)))
    in
    let idle : list_any is_paragraph_line (at.cut.passed ++ (line ++ piece) ∷ []) ≡ false =
    list_any-append is_paragraph_line at.cut.passed ((line ++ piece) ∷ [])
    ∙ none_both (list_any is_paragraph_line at.cut.passed)
    (list_any is_paragraph_line ((line ++ piece) ∷ [])) at.cut.idle (idle_one (line ++ piece) h)
    in unclosed_with (text ++ piece) new fresh
    (cut_none (text ++ piece) (at.cut.passed ++ (line ++ piece) ∷ []) lines idle)

fed_taken : (text piece block line : List ℕ) (started : Bool) (mid new : Draft) →
    IsAtFeed text piece started block line → is_blank_line (line ++ piece) ≡ false
    → (started || is_paragraph_line (line ++ piece)) ≡ true → length mid.kept.items ≤ size_limit →
    KeepsBlock block (line ++ piece) mid.kept.items mid.over mid.whole → TakesLine mid new
    → IsUnclosed (text ++ piece) new
fed_taken text piece block line started mid new at h begins most kept takes =
    let more : IsLonger block (line ++ piece) = longer (text ++ piece) block (line ++ piece)
    started at.at h begins in
    let is : new.started ≡ true = takes.started in
    let both : text_lines (block ++ (line ++ piece)) ≡ text_lines block ++ (line ++ piece) ∷ [] =
    more.lines ∙ ap (λ ls. text_lines block ++ ls) at.whole.single in
    record {
      block = block ++ (line ++ piece);
      line = [];
      cut = rw is record {
        passed = at.cut.passed;
        lines = λ rest. feed_lines text piece block line started at rest
            ∙ ap (λ ls. at.cut.passed ++ ls)
            (sym (append_assoc (text_lines block) ((line ++ piece) ∷ []) (text_lines rest))
            ∙ ap (λ ls. ls ++ text_lines rest) (sym both));
        idle = at.cut.idle;
        starts = more.starts;
        none = λ e. cc;
        unbroken = more.unbroken;
        whole = are_whole_lines-append block (line ++ piece) at.cut.whole at.whole.ended;
        unfinished = refl;
      };
      kept = kept_taken mid new block (line ++ piece) most kept takes;
      known = takes.line;
    }

entries_are : (text : List ℕ) (all : List (List (List ℕ))) → blocks (text_lines text) ≡ all →
    entries text ≡ map block_entry all
unfolding entries
entries_are text all e = ap (map block_entry) e

entry_of : (text block : List ℕ) (draft : Draft) → starts_block (text_lines block) ≡ true
    → (draft.whole ≤ size_limit → (draft.whole ≤ length draft.kept.items)
    × (take draft.whole draft.kept.items ≡ block)) →
    (size_limit < draft.whole → size_limit < length block)
    → blocks (text_lines text) ≡ text_lines block ∷ [] → HasEntry text draft
entry_of text block draft starts kept_whole too_large one =
    record {
      block = block;
      starts = starts;
      kept_whole = kept_whole;
      too_large = too_large;
      one =
          entries_are text (text_lines block ∷ []) one;
    }

fed_closed : (text piece block line : List ℕ) (mid : Draft) → IsAtFeed text piece true block line →
    is_blank_line (line ++ piece) ≡ true
    → KeepsBlock block (line ++ piece) mid.kept.items mid.over mid.whole → IsClosed (text ++ piece)
    mid
fed_closed text piece block line mid at h kept =
    let closing : closes (line ++ piece) ≡ true = both_true (is_blank_line (line ++ piece))
    (list_any is_line_feed (line ++ piece)) h
    (feed_in (line ++ piece) at.some at.whole.ended) in
    let lines : text_lines (text ++ piece) ≡ (at.at.passed ++ text_lines block) ++ (line ++ piece)
    ∷ [] =
    at.at.lines ∙ (ap (λ ls. at.at.passed ++ (text_lines block ++ ls)) at.whole.single
    ∙ sym (append_assoc at.at.passed (text_lines block) ((line ++ piece) ∷ [])))
    in record {
      entry = entry_of (text ++ piece) block mid at.at.starts kept.kept_whole kept.too_large
          (closed_end (text ++ piece) block (line ++ piece) at.at h);
      apart = whole_closed (text ++ piece) (line ++ piece) (at.at.passed ++ text_lines block) lines
          closing;
    }

fed_by : (end : LineEnd) (text piece block line : List ℕ) (started closes : Bool) (mid new : Draft)
    → IsAtFeed text piece started block line
    → length mid.kept.items ≤ size_limit → KeepsBlock block (line ++ piece) mid.kept.items mid.over
    mid.whole
    → EndsSo started (line ++ piece) end → EndsLine end mid new closes → GathersLines closes
    (text ++ piece) new
fed_by Passed text piece block line started closes mid new at most kept so ends =
    let is : closes ≡ false = ends.1 in
    let was : started ≡ false = so.0 in
    rw is (fed_passed text piece block line new (rw was at at) so.1 ends.0)
fed_by Taken text piece block line started closes mid new at most kept so ends =
    let is : closes ≡ false = ends.1 in
    rw is (fed_taken text piece block line started mid new at so.0 so.1 most kept ends.0)
fed_by Closed text piece block line started closes mid new at most kept so ends =
    let is : closes ≡ true = ends.1 in
    let same : new ≡ mid = ends.0 in
    let was : started ≡ true = so.0 in
    rw (is, same) (fed_closed text piece block line mid (rw was at at) so.1 kept)

-- a piece with its LF, after which the line is at its end
pub unclosed_fed : (text piece : List ℕ) (old mid new : Draft) (closing : Bool) →
    IsUnclosed text old → KeepsPiece old mid piece
    → EndsLine (end_of_line mid.started mid.line) mid new closing → 0 < length piece →
    text_lines piece ≡ piece ∷ [] → are_whole_lines piece ≡ true → GathersLines closing
    (text ++ piece) new
unclosed_fed text piece old mid new closing unclosed keeps ends some single h =
    let started : mid.started ≡ old.started = keeps.started in
    let known : mid.line ≡ line_so_far (unclosed.line ++ piece) = keeps.line
    ∙ (ap (λ kind. line_with kind piece) unclosed.known ∙ line_with-append unclosed.line
    piece) in
    let so : EndsSo old.started (unclosed.line ++ piece) (end_of_line mid.started mid.line) =
    rw (started, known) (ends_so old.started (unclosed.line ++ piece)) in
    let at : IsAtFeed text piece old.started unclosed.block unclosed.line = record {
      cut = unclosed.cut;
      at = cut_ended text unclosed.block unclosed.line piece old.started unclosed.cut single;
      whole = record {
        single = single_after unclosed.line piece unclosed.cut.unfinished single;
        ended = whole_after unclosed.line piece some h;
      };
      some = omega (arith, some, length-append unclosed.line piece);
    } in
    fed_by (end_of_line mid.started mid.line) text piece unclosed.block unclosed.line old.started
    closing mid new at
    mid.most (kept_more old mid piece unclosed.block unclosed.line unclosed.kept keeps) so ends

unfinished_single : (b : ℕ) (bs : List ℕ) → list_any is_line_feed (b ∷ bs) ≡ false →
    text_lines (b ∷ bs) ≡ (b ∷ bs) ∷ []
unfolding text_lines
unfinished_single b [] h =
    let none : is_line_feed b ≡ false = (or_none (is_line_feed b) false h).0 in
    rw none refl
unfinished_single b (c ∷ cs) h =
    let none = or_none (is_line_feed b) (list_any is_line_feed (c ∷ cs)) h in
    let first : is_line_feed b ≡ false = none.0 in
    rw first (ap (onto_first b) (unfinished_single c cs none.1))

unfinished_lines : (line : List ℕ) → list_any is_line_feed line ≡ false → (line ≡ [])
    ⊎ (text_lines line ≡ line ∷ [])
unfinished_lines [] h = inl refl
unfinished_lines (b ∷ bs) h = inr (unfinished_single b bs h)

-- where no line has begun, the text is at its end or after a line
bare_end : (text block : List ℕ) (started : Bool) → IsCutSo text started block [] →
    blocks (text_lines text) ≡ blocks (text_lines block)
bare_end text block started cut =
    ap blocks (cut_all text block [] started cut)
    ∙ (blocks_idle cut.passed (text_lines block ++ text_lines []) cut.idle
    ∙ (ap (λ ls. blocks (text_lines block ++ ls)) no_text_lines ∙ ap blocks
    (append-nil (text_lines block))))

finishes_one : (started : Bool) (text : List ℕ) (draft : Draft) → started ≡ true →
    HasEntry text draft → Finishes started text draft
finishes_one true text draft e entry = entry
finishes_one false text draft e entry = cc

finishes_none : (started : Bool) (text : List ℕ) (draft : Draft) → started ≡ false → entries text
    ≡ [] → Finishes started text draft
finishes_none true text draft e none = cc
finishes_none false text draft e none = none

bare_by : (started closing : Bool) (text block : List ℕ) (old new : Draft) → IsCutSo text started
    block [] → KeepsBlock block [] old.kept.items old.over old.whole → old.started ≡ started
    → EndsLine (end_of_line started Nothing) old new closing → Finishes new.started text new
bare_by true closing text block old new cut kept was ends =
    let same : new ≡ old = ends.0 in
    let P : Draft → Type 0 = λ d. Finishes d.started text d in
    subst P (sym same) (finishes_one old.started text old was
    (entry_of text block old cut.starts kept.kept_whole kept.too_large
    (bare_end text block true cut ∙ blocks_one (text_lines block) cut.starts cut.unbroken)))
bare_by false closing text block old new cut kept was ends =
    finishes_none new.started text new ends.0.started
    (entries_are text [] (bare_end text block false cut
    ∙ (ap (λ b. blocks (text_lines b)) (cut.none refl)
    ∙ (ap blocks no_text_lines ∙ no_blocks))))

ended_by : (end : LineEnd) (text block line : List ℕ) (started closing : Bool) (old new : Draft) →
    IsAtLineEnd text started block line
    → KeepsBlock block line old.kept.items old.over old.whole → old.started ≡ started →
    EndsSo started line end → EndsLine end old new closing → Finishes new.started text new
ended_by Passed text block line started closing old new at kept was so ends =
    let none : started ≡ false = so.0 in
    finishes_none new.started text new ends.0.started
    (entries_are text [] (passed_end text block line (rw none at at) so.1))
ended_by Taken text block line started closing old new at kept was so ends =
    let more : IsLonger block line = longer text block line started at so.0 so.1 in
    let all : KeepsBlock (block ++ line) [] new.kept.items new.over new.whole =
    kept_taken old new block line old.most kept ends.0 in
    finishes_one new.started text new ends.0.started (entry_of text (block ++ line) new more.starts
    all.kept_whole all.too_large (taken_end text block line started at more))
ended_by Closed text block line started closing old new at kept was so ends =
    let same : new ≡ old = ends.0 in
    let begun : started ≡ true = so.0 in
    let whole : IsAtLineEnd text true block line = rw begun at at in
    let P : Draft → Type 0 = λ d. Finishes d.started text d in
    subst P (sym same) (finishes_one old.started text old (was ∙ begun)
    (entry_of text block old whole.starts kept.kept_whole kept.too_large
    (closed_end text block line whole so.1)))

-- the end of the text, whether or not a line has begun
pub unclosed_ended : (text : List ℕ) (old new : Draft) (closing : Bool) → IsUnclosed text old →
    EndsLine (end_of_line old.started old.line) old new closing → Finishes new.started text new
unclosed_ended text old new closing unclosed ends =
    elim (unfinished_lines unclosed.line unclosed.cut.unfinished) [
      | inl none ↦
          let known : old.line ≡ Nothing = unclosed.known ∙ ap line_so_far none in
          let cut : IsCutSo text old.started unclosed.block [] = rw none at unclosed.cut in
          let kept : KeepsBlock unclosed.block [] old.kept.items old.over old.whole =
          rw none at unclosed.kept in
          let so : EndsLine (end_of_line old.started Nothing) old new closing =
          subst (λ (kind : LineSoFar). EndsLine (end_of_line old.started kind) old new closing)
          known ends in
          bare_by old.started closing text unclosed.block old new cut kept refl so
      | inr single ↦
          let at : IsAtLineEnd text old.started unclosed.block unclosed.line = record {
            passed = unclosed.cut.passed;
            lines = cut_all text unclosed.block unclosed.line old.started unclosed.cut;
            idle = unclosed.cut.idle;
            starts = unclosed.cut.starts;
            none = unclosed.cut.none;
            unbroken = unclosed.cut.unbroken;
            whole = unclosed.cut.whole;
            single = single;
          } in
          let so : EndsSo old.started unclosed.line (end_of_line old.started old.line) =
          rw unclosed.known (ends_so old.started unclosed.line) in
          ended_by (end_of_line old.started old.line) text unclosed.block unclosed.line old.started
          closing old new at unclosed.kept refl so ends
    ]

unclosed_blocks : (lines : List (List ℕ)) → list_any is_blank_line lines ≡ false →
    list_any closes lines ≡ false
unclosed_blocks [] h = refl
unclosed_blocks (line ∷ others) h =
    let none = or_none (is_blank_line line) (list_any is_blank_line others) h in
    let first : is_blank_line line ≡ false = none.0 in
    none_both (closes line) (list_any closes others) (rw first refl) (unclosed_blocks others none.1)

unclosed_line : (line : List ℕ) → list_any is_line_feed line ≡ false → closes line ≡ false
unclosed_line line h = rw h (and-false (is_blank_line line))

unclosed_unfinished : (line : List ℕ) → list_any is_line_feed line ≡ false →
    list_any closes (text_lines line) ≡ false
unclosed_unfinished line h = elim (unfinished_lines line h) [
  | inl none ↦ rw none (ap (list_any closes) no_text_lines)
  | inr single ↦ ap (list_any closes) single ∙ none_both (closes line) false (unclosed_line line h)
      refl
]

idle_prefix : (prefix rest all : List (List ℕ)) → all ≡ prefix ++ rest → list_any is_paragraph_line
    all ≡ false → list_any is_paragraph_line prefix ≡ false
idle_prefix prefix rest all e h =
    (or_none (list_any is_paragraph_line prefix) (list_any is_paragraph_line rest)
    (sym (list_any-append is_paragraph_line prefix rest)
    ∙ (ap (list_any is_paragraph_line) (sym e) ∙ h))).0

-- of a text whose last block may go on nothing is whole
pub unclosed_whole : (text : List ℕ) (draft : Draft) → IsUnclosed text draft → whole_entries text
    ≡ []
unfolding whole_part
unclosed_whole text draft unclosed =
    let more = text_lines unclosed.block ++ text_lines unclosed.line in
    let all : text_lines text ≡ unclosed.cut.passed ++ more = cut_all text unclosed.block
    unclosed.line draft.started unclosed.cut in
    let closes_none : list_any closes more ≡ false =
    list_any-append closes (text_lines unclosed.block) (text_lines unclosed.line)
    ∙ none_both (list_any closes (text_lines unclosed.block))
    (list_any closes (text_lines unclosed.line))
    (unclosed_blocks (text_lines unclosed.block) unclosed.cut.unbroken)
    (unclosed_unfinished unclosed.line unclosed.cut.unfinished)
    in
    let kept : closed_lines (text_lines text) ≡ closed_lines unclosed.cut.passed =
    ap closed_lines all ∙ closed_before unclosed.cut.passed more closes_none in
    let prefix = closed_prefix unclosed.cut.passed in
    let cut : IsSplit (closed_lines unclosed.cut.passed) (prefix.0 ++ more) =
    lines_split text (closed_lines unclosed.cut.passed) (prefix.0 ++ more)
    (all ∙ (ap (λ ls. ls ++ more) prefix.1 ∙ append_assoc (closed_lines unclosed.cut.passed)
    prefix.0 more))
    in
    entries_are (concat (closed_lines (text_lines text))) []
    (ap (λ ls. blocks (text_lines (concat ls))) kept
    ∙ (ap blocks cut.prefix ∙ idle_alone (closed_lines unclosed.cut.passed)
    (idle_prefix (closed_lines unclosed.cut.passed) prefix.0 unclosed.cut.passed prefix.1
    unclosed.cut.idle)))

-- one line more of a text is added
pub lines_taken : (text done rest piece after : List ℕ) → text ≡ done ++ rest →
    rest ≡ piece ++ after → text ≡ (done ++ piece) ++ after
lines_taken text done rest piece after h e =
    h ∙ (ap (λ r. done ++ r) e ∙ sym (append_assoc done piece after))

-- the line that closes is the last one that was added
pub lines_closed : (past text done rest piece after : List ℕ) (draft : Draft) →
    text ≡ done ++ rest → rest ≡ piece ++ after → IsClosed ((past ++ done) ++ piece) draft
    → IsClosed (past ++ take (length text - length after) text) draft
lines_closed past text done rest piece after draft h e closed =
    let whole : text ≡ (done ++ piece) ++ after = lines_taken text done rest piece after h e in
    let lengths : length text ≡ length (done ++ piece) + length after = ap length whole
    ∙ length-append (done ++ piece) after in
    let prefix : take (length text - length after) text ≡ done ++ piece =
    ap (take (length text - length after)) whole ∙ take_at (done ++ piece) after
    (length text - length after) (omega arith)
    in
    let P : List ℕ → Type 0 = λ t. IsClosed t draft in
    subst P (append_assoc past done piece ∙ ap (λ r. past ++ r) (sym prefix)) closed

pub empty_list : (bs : List ℕ) → length bs ≡ 0 → bs ≡ []
empty_list [] h = refl
empty_list (b ∷ bs) h = absurd (omega arith)
