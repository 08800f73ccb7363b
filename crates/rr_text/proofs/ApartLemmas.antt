-- Lemmas on lines that are cut, on what a blank line closes, and on the one block of a text: for
-- texts that are read piece by piece.
-- No block goes past a blank line, so a text cut there reads as its parts do. Cuts are an
-- induction over bytes, split by LF; closing is one over lines. The parts are given by hand. The
-- law `closed_text_joins`, `DraftLemmas`, `ReaderLemmas` and `DumpTexts` need it.
use Rattle.std.proofs.Common.{◌≡◌, ◌≢◌, ℕ, ◌<◌, Bool, true, false, ◌&&◌, List, [], ◌∷◌, ◌++◌}
use Rattle.std.proofs.Common.{length, map, refl, sym, ap, ◌∙◌, arith, append_assoc}
use Rattle.std.proofs.lemmas.List.{append-nil, map-append}
use Rattle.std.proofs.lemmas.List.Folds.{concat-append}
use Rattle.std.specs.List.{list_any, concat, onto_first}
use Rattle.rr_bytes.specs.Blanks.{is_line_feed}
use Rattle.rr_text.specs.Lines.{text_lines, are_whole_lines, IsWholeLine, is_blank_line}
use Rattle.rr_text.specs.Blocks.{blocks}
use Rattle.rr_text.specs.Entries.{entries, block_entry}
use Rattle.rr_text.specs.WholePart.{closes, kept_before, closed_lines, whole_part, whole_entries}
use Rattle.rr_text.proofs.LineSoFarLemmas.{or_none, unended}
use Rattle.rr_text.proofs.LineLemmas.{text_lines-append, are_whole_lines-append}
use Rattle.rr_text.proofs.BlockLemmas.{blocks_apart, no_blocks}
use Rattle.rr_text.proofs.EntryLemmas.{concat-text_lines}

-- lines of a text, cut between two of them
pub record IsSplit (xs ys : List (List ℕ)) : Type 0 where
  pub prefix : text_lines (concat xs) ≡ xs
  pub whole : ys ≢ [] → are_whole_lines (concat xs) ≡ true
  pub back : text_lines (concat ys) ≡ ys

split_feed : (b : ℕ) (bs x : List ℕ) (xs ys : List (List ℕ)) → is_line_feed b ≡ true →
    (b ∷ []) ∷ text_lines bs ≡ x ∷ (xs ++ ys) → (text_lines bs ≡ xs ++ ys → IsSplit xs ys) →
    IsSplit (x ∷ xs) ys
unfolding text_lines are_whole_lines
split_feed b bs x xs ys h e rec =
    let is : x ≡ b ∷ [] = cc in
    let rest : IsSplit xs ys = rec (cc) in
    rw is record {
      prefix = rw h (ap (λ ls. (b ∷ []) ∷ ls) rest.prefix);
      whole = λ some. are_whole_lines-append (b ∷ []) (concat xs) h (rest.whole some);
      back = rest.back;
    }

whole_under : (b : ℕ) (bs : List ℕ) → 0 < length bs → are_whole_lines bs ≡ true →
    are_whole_lines (b ∷ bs) ≡ true
unfolding are_whole_lines
whole_under b [] some h = absurd (omega arith)
whole_under b (c ∷ cs) some h = h

some_lines : (bs line : List ℕ) (lines : List (List ℕ)) → text_lines bs ≡ line ∷ lines →
    0 < length bs
unfolding text_lines
some_lines [] line lines e = cc
some_lines (b ∷ bs) line lines e = omega arith

split_lone : (b : ℕ) (x : List ℕ) (xs ys : List (List ℕ)) → is_line_feed b ≡ false → (b ∷ []) ∷ []
    ≡ x ∷ (xs ++ ys) → IsSplit (x ∷ xs) ys
unfolding text_lines
split_lone b x [] [] h e = let is : x ≡ b ∷ [] = cc in rw is record {
  prefix = rw h refl;
  whole =
      λ some. absurd (some refl);
  back = refl;
}
split_lone b x [] (y ∷ ys) h e = cc
split_lone b x (z ∷ zs) ys h e = cc

split_on : (b : ℕ) (bs l x : List ℕ) (ls xs ys : List (List ℕ)) → is_line_feed b ≡ false →
    text_lines bs ≡ l ∷ ls → (b ∷ l) ∷ ls ≡ x ∷ (xs ++ ys)
    → (text_lines bs ≡ (l ∷ xs) ++ ys → IsSplit (l ∷ xs) ys) → IsSplit (x ∷ xs) ys
unfolding text_lines
split_on b bs l x ls xs ys h lines e rec =
    let is : x ≡ b ∷ l = cc in
    let under : text_lines bs ≡ (l ∷ xs) ++ ys = cc in
    let rest : IsSplit (l ∷ xs) ys = rec under in
    rw is record {
      prefix = rw h (ap (onto_first b) rest.prefix);
      whole = λ some. whole_under b (concat (l ∷ xs))
          (some_lines (concat (l ∷ xs)) l xs rest.prefix) (rest.whole some);
      back = rest.back;
    }

split_under : (b : ℕ) (bs x : List ℕ) (lines xs ys : List (List ℕ)) → is_line_feed b ≡ false →
    text_lines bs ≡ lines → onto_first b lines ≡ x ∷ (xs ++ ys)
    → ((zs : List (List ℕ)) → text_lines bs ≡ zs ++ ys → IsSplit zs ys) → IsSplit (x ∷ xs) ys
split_under b bs x [] xs ys h lines e rec = split_lone b x xs ys h e
split_under b bs x (l ∷ ls) xs ys h lines e rec = split_on b bs l x ls xs ys h lines e
    (rec (l ∷ xs))

split_by : (t : Bool) (b : ℕ) (bs x : List ℕ) (xs ys : List (List ℕ)) → is_line_feed b ≡ t →
    text_lines (b ∷ bs) ≡ x ∷ (xs ++ ys)
    → ((zs : List (List ℕ)) → text_lines bs ≡ zs ++ ys → IsSplit zs ys) → IsSplit (x ∷ xs) ys
unfolding text_lines
split_by true b bs x xs ys h e rec = split_feed b bs x xs ys h (rw h at e) (rec xs)
split_by false b bs x xs ys h e rec = split_under b bs x (text_lines bs) xs ys h refl (rw h at e)
    rec

-- each part of the lines of a text is the lines of what it joins to
pub lines_split : (text : List ℕ) (xs ys : List (List ℕ)) → text_lines text ≡ xs ++ ys →
    IsSplit xs ys
unfolding text_lines are_whole_lines
lines_split text [] ys e = record {
  prefix = refl;
  whole = λ _. refl;
  back = ap (λ ls. text_lines (concat ls)) (sym e) ∙ (ap text_lines (concat-text_lines text) ∙ e);
}
lines_split [] (x ∷ xs) ys e = cc
lines_split (b ∷ bs) (x ∷ xs) ys e = split_by (is_line_feed b) b bs x xs ys refl e
    (λ zs. lines_split bs zs ys)

kept_prefix_by : (t : Bool) (line : List ℕ) (others kept rest : List (List ℕ)) →
    others ≡ kept ++ rest → (more : List (List ℕ))
    × (line ∷ others ≡ kept_before t line kept ++ more)
kept_prefix_by true line others kept rest e = (rest, ap (λ ls. line ∷ ls) e)
kept_prefix_by false line others [] rest e = (line ∷ others, refl)
kept_prefix_by false line others (next ∷ kept) rest e = (rest, ap (λ ls. line ∷ ls) e)

-- what closes is the beginning of the lines
pub closed_prefix : (lines : List (List ℕ)) → (rest : List (List ℕ))
    × (lines ≡ closed_lines lines ++ rest)
unfolding closed_lines
closed_prefix [] = ([], refl)
closed_prefix (line ∷ others) =
    let more = closed_prefix others in
    kept_prefix_by (closes line) line others (closed_lines others) more.0 more.1

-- lines of which none closes leave what the lines before them close
pub closed_none : (lines : List (List ℕ)) → list_any closes lines ≡ false → closed_lines lines ≡ []
unfolding closed_lines
closed_none [] h = refl
closed_none (line ∷ others) h =
    let none = or_none (closes line) (list_any closes others) h in
    let here : closes line ≡ false = none.0 in
    let later : closed_lines others ≡ [] = closed_none others none.1 in
    ap (λ t. kept_before t line (closed_lines others)) here ∙ ap (kept_before false line) later

pub closed_before : (lines more : List (List ℕ)) → list_any closes more ≡ false →
    closed_lines (lines ++ more) ≡ closed_lines lines
unfolding closed_lines
closed_before [] more h = closed_none more h
closed_before (line ∷ others) more h = ap (kept_before (closes line) line)
    (closed_before others more h)

kept_some : (t : Bool) (line next : List ℕ) (kept : List (List ℕ)) →
    kept_before t line (next ∷ kept) ≡ line ∷ (next ∷ kept)
kept_some true line next kept = refl
kept_some false line next kept = refl

kept_all : (t : Bool) (line : List ℕ) (kept : List (List ℕ)) → kept ≢ [] → kept_before t line kept
    ≡ line ∷ kept
kept_all t line [] some = absurd (some refl)
kept_all t line (next ∷ kept) some = kept_some t line next kept

some_after : (lines : List (List ℕ)) (more : List (List ℕ)) → more ≢ [] → lines ++ more ≢ []
some_after [] more some e = some e
some_after (line ∷ others) more some e = cc

-- after whatever lines, a closed part is all kept
pub closed_after : (lines more : List (List ℕ)) → more ≢ [] → closed_lines more ≡ more →
    closed_lines (lines ++ more) ≡ lines ++ more
unfolding closed_lines
closed_after [] more some all = all
closed_after (line ∷ others) more some all =
    ap (kept_before (closes line) line) (closed_after others more some all) ∙ kept_all
    (closes line) line (others ++ more) (some_after others more some)

pub closed_line : (line : List ℕ) → closes line ≡ true → closed_lines (line ∷ []) ≡ line ∷ []
unfolding closed_lines
closed_line line h = ap (λ t. kept_before t line []) h

-- a text whose last line closes counts whole
pub whole_closed : (text line : List ℕ) (lines : List (List ℕ)) → text_lines text ≡ lines ++ line
    ∷ [] → closes line ≡ true → whole_part text ≡ text
unfolding whole_part
whole_closed text line lines e h =
    ap (λ ls. concat (closed_lines ls)) e
    ∙ (ap concat (closed_after lines (line ∷ []) (λ z. cc) (closed_line line h))
    ∙ (ap concat (sym e) ∙ concat-text_lines text))

-- lines of which the last one closes
pub record EndsClosed (lines : List (List ℕ)) : Type 0 where
  pub prefix : List (List ℕ)
  pub last : List ℕ
  pub is : lines ≡ prefix ++ last ∷ []
  pub closed : closes last ≡ true

last_by : (t : Bool) (line : List ℕ) → closes line ≡ t → kept_before t line [] ≡ line ∷ [] →
    closes line ≡ true
last_by true line h e = h
last_by false line h e = cc

later_all : (t : Bool) (line : List ℕ) (kept others : List (List ℕ)) → kept_before t line kept
    ≡ line ∷ others → others ≢ [] → kept ≡ others
later_all true line kept others e some = cc
later_all false line [] others e some = cc
later_all false line (next ∷ kept) others e some = cc

-- lines that count whole end with one that closes
pub ends_closed : (line : List ℕ) (others : List (List ℕ)) → closed_lines (line ∷ others) ≡ line
    ∷ others → EndsClosed (line ∷ others)
unfolding closed_lines
ends_closed line [] e = record {
  prefix = [];
  last = line;
  is = refl;
  closed =
      last_by (closes line) line refl e;
}
ends_closed line (next ∷ others) e =
    let rest : EndsClosed (next ∷ others) = ends_closed next others
    (later_all (closes line) line (closed_lines (next ∷ others)) (next ∷ others) e (λ z. cc)) in
    record {
      prefix = line ∷ rest.prefix;
      last = rest.last;
      is = ap (λ ls. line ∷ ls) rest.is;
      closed = rest.closed;
    }

pub closed_on : (lines more : List (List ℕ)) → closed_lines lines ≡ lines →
    closed_lines (lines ++ more) ≡ lines ++ closed_lines more
unfolding closed_lines
closed_on [] more e = refl
closed_on (line ∷ []) more e = ap (λ t. kept_before t line (closed_lines more))
    (last_by (closes line) line refl e)
closed_on (line ∷ (next ∷ others)) more e =
    ap (kept_before (closes line) line)
    (closed_on (next ∷ others) more
    (later_all (closes line) line (closed_lines (next ∷ others)) (next ∷ others) e (λ z. cc)))
    ∙ kept_some (closes line) line next (others ++ closed_lines more)

-- the lines of a text that counts whole count whole
pub whole_lines : (text : List ℕ) → whole_part text ≡ text → closed_lines (text_lines text)
    ≡ text_lines text
unfolding whole_part
whole_lines text e =
    let prefix = closed_prefix (text_lines text) in
    let cut : IsSplit (closed_lines (text_lines text)) prefix.0 =
    lines_split text (closed_lines (text_lines text)) prefix.0 prefix.1 in
    sym cut.prefix ∙ ap text_lines e

closes_both : (a b : Bool) → (a && b) ≡ true → (a ≡ true) × (b ≡ true)
closes_both true b h = (refl, h)
closes_both false b h = cc

ended_by : (t : Bool) (line : List ℕ) → are_whole_lines line ≡ t → text_lines line ≡ line ∷ [] →
    list_any is_line_feed line ≡ true → are_whole_lines line ≡ true
ended_by true line h single feed = h
ended_by false line h single feed = let none : list_any is_line_feed line ≡ false =
    unended line single h in cc

-- a line that closes is a whole one
pub closing_whole : (line : List ℕ) → closes line ≡ true → text_lines line ≡ line ∷ [] →
    IsWholeLine line
closing_whole line h single =
    let both = closes_both (is_blank_line line) (list_any is_line_feed line) h in
    record { single = single; ended = ended_by (are_whole_lines line) line refl single both.1 }

-- the whole lines of a text whose last line closes
pub record IsApart (text : List ℕ) : Type 0 where
  pub whole : are_whole_lines text ≡ true
  pub lines : EndsClosed (text_lines text)

pub apart : (text line : List ℕ) (others : List (List ℕ)) → text_lines text ≡ line ∷ others →
    whole_part text ≡ text → IsApart text
apart text line others e h =
    let all : closed_lines (line ∷ others) ≡ line ∷ others = ap closed_lines (sym e)
    ∙ (whole_lines text h ∙ e) in
    let ends : EndsClosed (line ∷ others) = ends_closed line others all in
    let is : text_lines text ≡ ends.prefix ++ ends.last ∷ [] = e ∙ ends.is in
    let cut : IsSplit ends.prefix (ends.last ∷ []) = lines_split text ends.prefix (ends.last ∷ [])
    is in
    let single : text_lines ends.last ≡ ends.last ∷ [] = ap text_lines (sym (append-nil ends.last))
    ∙ cut.back in
    let last : IsWholeLine ends.last = closing_whole ends.last ends.closed single in
    let joined : text ≡ concat ends.prefix ++ ends.last =
    sym (concat-text_lines text)
    ∙
    (ap concat is ∙ (concat-append ends.prefix (ends.last ∷ [])
    ∙ ap (λ r. concat ends.prefix ++ r) (append-nil ends.last)))
    in
    record {
      whole = rw joined (are_whole_lines-append (concat ends.prefix) ends.last
          (cut.whole (λ z. cc)) last.ended);
      lines = record { prefix = ends.prefix; last = ends.last; is = is; closed = ends.closed };
    }

entries_apart : (prefix back : List ℕ) → IsApart prefix → entries (prefix ++ back) ≡ entries prefix
    ++ entries back
unfolding entries
entries_apart prefix back h =
    let blank : is_blank_line h.lines.last ≡ true =
    (closes_both (is_blank_line h.lines.last) (list_any is_line_feed h.lines.last)
    h.lines.closed).0 in
    let all : text_lines (prefix ++ back) ≡ h.lines.prefix ++ h.lines.last ∷ text_lines back =
    text_lines-append prefix back h.whole ∙ (ap (λ ls. ls ++ text_lines back) h.lines.is
    ∙ append_assoc h.lines.prefix (h.lines.last ∷ []) (text_lines back))
    in
    let own : blocks (text_lines prefix) ≡ blocks h.lines.prefix =
    ap blocks h.lines.is ∙ (blocks_apart h.lines.prefix h.lines.last [] blank
    ∙ (ap (λ bs. blocks h.lines.prefix ++ bs) no_blocks ∙ append-nil (blocks h.lines.prefix)))
    in
    ap (λ ls. map block_entry (blocks ls)) all
    ∙ (ap (map block_entry) (blocks_apart h.lines.prefix h.lines.last (text_lines back) blank
    ∙ ap (λ bs. bs ++ blocks (text_lines back)) (sym own))
    ∙ map-append block_entry (blocks (text_lines prefix)) (blocks (text_lines back)))

no_text : (text : List ℕ) → text_lines text ≡ [] → text ≡ []
no_text text e = sym (concat-text_lines text) ∙ ap concat e

pub no_entries : entries [] ≡ []
unfolding entries text_lines
no_entries = ap (map block_entry) no_blocks

pub no_whole : whole_part [] ≡ []
unfolding whole_part closed_lines text_lines
no_whole = refl

joins_by : (lines : List (List ℕ)) (prefix back : List ℕ) → text_lines prefix ≡ lines →
    whole_part prefix ≡ prefix → entries (prefix ++ back) ≡ entries prefix ++ entries back
joins_by [] prefix back e h = let none : prefix ≡ [] = no_text prefix e in rw (none, no_entries)
    refl
joins_by (line ∷ others) prefix back e h = entries_apart prefix back (apart prefix line others e h)

-- a text that counts whole keeps its entries apart from what follows
pub entries_after : (prefix back : List ℕ) → whole_part prefix ≡ prefix → entries (prefix ++ back)
    ≡ entries prefix ++ entries back
entries_after prefix back h = joins_by (text_lines prefix) prefix back refl h

whole_by : (lines : List (List ℕ)) (prefix back : List ℕ) → text_lines prefix ≡ lines →
    whole_part prefix ≡ prefix → whole_part (prefix ++ back) ≡ prefix ++ whole_part back
unfolding whole_part
whole_by [] prefix back e h = let none : prefix ≡ [] = no_text prefix e in rw none refl
whole_by (line ∷ others) prefix back e h =
    ap (λ ls. concat (closed_lines ls))
    (text_lines-append prefix back (apart prefix line others e h).whole)
    ∙ (ap concat (closed_on (text_lines prefix) (text_lines back) (whole_lines prefix h))
    ∙ (concat-append (text_lines prefix) (closed_lines (text_lines back))
    ∙ ap (λ r. r ++ concat (closed_lines (text_lines back))) (concat-text_lines prefix)))

-- so does its whole part
pub whole_joined : (prefix back : List ℕ) → whole_part prefix ≡ prefix →
    whole_part (prefix ++ back) ≡ prefix ++ whole_part back
whole_joined prefix back h = whole_by (text_lines prefix) prefix back refl h

pub joins : (prefix back : List ℕ) → whole_part prefix ≡ prefix →
    (entries (prefix ++ back) ≡ entries prefix ++ entries back)
    × (whole_entries (prefix ++ back) ≡ entries prefix ++ whole_entries back)
joins prefix back h = (
  entries_after prefix back h,
  ap entries (whole_joined prefix back h) ∙ entries_after prefix (whole_part back) h,
)
