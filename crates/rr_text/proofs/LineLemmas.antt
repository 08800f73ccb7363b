-- Lemmas on the lines of a text: for `split_line`, and for blocks and entries.
use Rattle.std.proofs.Common.{◌≡◌, ◌≢◌, ℕ, ◌+◌, ◌<◌, ◌≤◌, Bool, true, false, not, cond, List, []}
use Rattle.std.proofs.Common.{◌∷◌, ◌++◌, length, take, drop, Some, None, refl, ap, ◌∙◌, arith, suc}
use Rattle.std.proofs.Common.{zero, add-one}
use Rattle.std.proofs.lemmas.Bool.Decides.{nat_tests}
use Rattle.std.specs.List.{position, position_or_len, onto_first}
use Rattle.rr_bytes.specs.Blanks.{is_line_feed}
use Rattle.rr_text.specs.Lines.{text_lines, are_whole_lines}

-- a text is its first line and what follows that
pub record IsCut (text line after : List ℕ) : Type 0 where
  pub lines : text_lines text ≡ line ∷ text_lines after
  pub single : text_lines line ≡ line ∷ []
  pub ended : are_whole_lines line ≡ true

cut_here : (b : ℕ) (bs : List ℕ) → is_line_feed b ≡ true → IsCut (b ∷ bs) (b ∷ []) bs
unfolding text_lines are_whole_lines
cut_here b bs h = record { lines = rw h refl; single = rw h refl; ended = h }

whole_more : (b : ℕ) (line : List ℕ) → text_lines line ≡ line ∷ [] → are_whole_lines line ≡ true →
    are_whole_lines (b ∷ line) ≡ true
unfolding text_lines are_whole_lines
whole_more b [] single whole = cc
whole_more b (c ∷ cs) single whole = whole

cut_later : (b : ℕ) (bs line after : List ℕ) → is_line_feed b ≡ false → IsCut bs line after →
    IsCut (b ∷ bs) (b ∷ line) after
unfolding text_lines
cut_later b bs line after h cut = record {
  lines = rw h (ap (onto_first b) cut.lines);
  single = rw h (ap (onto_first b) cut.single);
  ended = whole_more b line cut.single cut.ended;
}

cut_by : (t : Bool) (b : ℕ) (bs : List ℕ) (n : ℕ) → is_line_feed b ≡ t →
    cond (not t) (1 + position_or_len is_line_feed bs) 0 ≡ n → n < length (b ∷ bs)
    → ((m : ℕ) → position_or_len is_line_feed bs ≡ m → m < length bs → IsCut bs (take (suc m) bs)
    (drop (suc m) bs))
    → IsCut (b ∷ bs) (take (suc n) (b ∷ bs)) (drop (suc n) (b ∷ bs))
cut_by true b bs zero h e lt rec = cut_here b bs h
cut_by true b bs (suc n) h e lt rec = cc
cut_by false b bs zero h e lt rec = absurd (omega arith)
cut_by false b bs (suc n) h e lt rec = cut_later b bs _ _ h (rec n (omega arith) (omega arith))

cut_at : (bs : List ℕ) (n : ℕ) → position_or_len is_line_feed bs ≡ n → n < length bs →
    IsCut bs (take (suc n) bs) (drop (suc n) bs)
cut_at [] n e lt = absurd (omega arith)
cut_at (b ∷ bs) n e lt = cut_by (is_line_feed b) b bs n refl e lt (λ m. cut_at bs m)

-- where the first LF stands, the first line ends
pub cut_some : (text line after : List ℕ) (n : ℕ) → Some n ≡ position is_line_feed text →
    line ≡ take (n + 1) text → after ≡ drop (n + 1) text → IsCut text line after
cut_some text line after n e is_line is_after =
    let at : position_or_len is_line_feed text ≡ n = grind (arith, nat_tests) in
    let within : n < length text = grind (arith, nat_tests) in
    let cut : IsCut text (take (suc n) text) (drop (suc n) text) = cut_at text n at within in
    rw (is_line, is_after, add-one) cut

-- a text with no LF is one line
lone_by : (t : Bool) (b : ℕ) (bs : List ℕ) → is_line_feed b ≡ t → length (b ∷ bs) ≤ cond (not t)
    (1 + position_or_len is_line_feed bs) 0
    → (length bs ≤ position_or_len is_line_feed bs → 0 < length bs → text_lines bs ≡ bs ∷ []) →
    text_lines (b ∷ bs) ≡ (b ∷ bs) ∷ []
unfolding text_lines
lone_by true b bs h e rec = absurd (omega arith)
lone_by false b [] h e rec = rw h refl
lone_by false b (c ∷ cs) h e rec = let one : text_lines (c ∷ cs) ≡ (c ∷ cs) ∷ [] =
    rec (omega arith) (omega arith) in rw h (ap (onto_first b) one)

lone_at : (bs : List ℕ) → length bs ≤ position_or_len is_line_feed bs → 0 < length bs →
    text_lines bs ≡ bs ∷ []
lone_at [] h e = absurd (omega arith)
lone_at (b ∷ bs) h e = lone_by (is_line_feed b) b bs refl h (lone_at bs)

pub cut_none : (text : List ℕ) → None ≡ position is_line_feed text → 0 < length text →
    text_lines text ≡ text ∷ []
cut_none text e some = lone_at text (grind (arith, nat_tests)) some

pub no_lines : text_lines [] ≡ []
unfolding text_lines
no_lines = refl

onto_some : (b : ℕ) (lines : List (List ℕ)) → onto_first b lines ≢ []
onto_some b [] e = cc
onto_some b (line ∷ others) e = cc

onto_append : (b : ℕ) (some more : List (List ℕ)) → some ≢ [] → onto_first b (some ++ more)
    ≡ onto_first b some ++ more
onto_append b [] more h = absurd (h refl)
onto_append b (line ∷ others) more h = refl

has_line_by : (t : Bool) (b : ℕ) (bs : List ℕ) → is_line_feed b ≡ t → text_lines (b ∷ bs) ≢ []
unfolding text_lines
has_line_by true b bs h = rw h (λ e. cc)
has_line_by false b bs h = rw h (onto_some b (text_lines bs))

append_by : (t : Bool) (b : ℕ) (bs more : List ℕ) → is_line_feed b ≡ t →
    (t ≡ false → text_lines bs ≢ []) → text_lines (bs ++ more) ≡ text_lines bs ++ text_lines more
    → text_lines ((b ∷ bs) ++ more) ≡ text_lines (b ∷ bs) ++ text_lines more
unfolding text_lines
append_by true b bs more h some rec = rw h (ap (λ lines. (b ∷ []) ∷ lines) rec)
append_by false b bs more h some rec =
    rw h (ap (onto_first b) rec ∙ onto_append b (text_lines bs) (text_lines more) (some refl))

-- whole lines keep what follows them apart
pub text_lines-append : (prefix back : List ℕ) → are_whole_lines prefix ≡ true →
    text_lines (prefix ++ back) ≡ text_lines prefix ++ text_lines back
unfolding text_lines are_whole_lines
text_lines-append [] back h = refl
text_lines-append (b ∷ []) back h = rw h refl
text_lines-append (b ∷ c ∷ cs) back h =
    append_by (is_line_feed b) b (c ∷ cs) back refl (λ _. has_line_by (is_line_feed c) c cs refl)
    (text_lines-append (c ∷ cs) back h)

whole_by : (c : ℕ) (cs back : List ℕ) → are_whole_lines back ≡ true → are_whole_lines (c ∷ cs)
    ≡ true → are_whole_lines ((c ∷ cs) ++ back) ≡ true
unfolding are_whole_lines
whole_by c [] [] h e = e
whole_by c [] (b ∷ bs) h e = h
whole_by c (d ∷ ds) back h e = whole_by d ds back h e

pub are_whole_lines-append : (prefix back : List ℕ) → are_whole_lines prefix ≡ true →
    are_whole_lines back ≡ true → are_whole_lines (prefix ++ back) ≡ true
are_whole_lines-append [] back h e = e
are_whole_lines-append (c ∷ cs) back h e = whole_by c cs back e h
