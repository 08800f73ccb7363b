-- Lemmas on what a connection wants: its prefix says it.
use Rattle.std.proofs.Common.{◌≡◌, ℕ, suc, ◌+◌, ◌-◌, ◌<◌, ◌≤◌, inl, inr, Bool, true, false, ◌==◌}
use Rattle.std.proofs.Common.{◌&&◌, List, [], ◌∷◌, ◌++◌, length, take, Option, None, Some, arith}
use Rattle.std.proofs.Common.{refl, ap, sym, ◌∙◌, subst, length-append}
use Rattle.std.specs.Prelude.{nat_lt, nat_le, is_some, IfSome}
use Rattle.std.specs.Option.{option_map}
use Rattle.std.proofs.lemmas.Bool.{and_parts, and_right, le-leb, ltb-true, or_left, or_right}
use Rattle.std.proofs.lemmas.Bool.Decides.{nat_tests}
use Rattle.std.proofs.lemmas.List.Folds.{list_any-append}
use Rattle.std.proofs.lemmas.List.{append-nil, take-append-le, take_all}
use Rattle.std.proofs.Math.Seq.{take-append-add}
use Rattle.rr_bytes.specs.Blanks.{is_blank, is_line_feed}
use Rattle.rr_bytes.specs.Trims.{trim_end}
use Rattle.rr_http.specs.Heads.{head_length, has_line_feed, line_end}
use Rattle.rr_http.specs.Lines.{line_of, names_version, speaks_http, whois_query}
use Rattle.rr_http.specs.Wants.{HeadWants, RequestAsks, RequestWants, Wants, WantsByItsHead}
use Rattle.rr_http.specs.Wants.{is_full, says_by, whois}

pub line_of_feed : (b : ℕ) (bs : List ℕ) → (b == 10) ≡ true → line_of (b ∷ bs) ≡ []
line_of_feed b bs e = rw e refl

pub one_more : (b : ℕ) (bs : List ℕ) (n : ℕ) → take (1 + n) (b ∷ bs) ≡ b ∷ take n bs
one_more b bs n = ap (λ k. take k (b ∷ bs)) (let more : 1 + n ≡ suc n = omega arith in more)

pub line_of_on : (b : ℕ) (bs : List ℕ) → (b == 10) ≡ false → line_of (b ∷ bs) ≡ b ∷ line_of bs
line_of_on b bs e = rw e (one_more b bs _)

feed_after : (b : ℕ) (bs : List ℕ) → (b == 10) ≡ false → has_line_feed (b ∷ bs) ≡ true →
    has_line_feed bs ≡ true
feed_after b bs e h = rw e at h

line_of_step : (b : ℕ) (bs more : List ℕ) (t : Bool) → (b == 10) ≡ t →
    (has_line_feed bs ≡ true → line_of (bs ++ more) ≡ line_of bs) →
    has_line_feed (b ∷ bs) ≡ true → line_of (b ∷ (bs ++ more)) ≡ line_of (b ∷ bs)
line_of_step b bs more true e rec h = line_of_feed b (bs ++ more) e ∙ sym (line_of_feed b bs e)
line_of_step b bs more false e rec h =
    line_of_on b (bs ++ more) e ∙ (ap (λ line. b ∷ line) (rec (feed_after b bs e h))
    ∙ sym (line_of_on b bs e))

-- the first line ends at the first LF, whatever follows
pub line_of-append : (text more : List ℕ) → has_line_feed text ≡ true → line_of (text ++ more)
    ≡ line_of text
line_of-append [] more h = cc
line_of-append (b ∷ bs) more h = line_of_step b bs more (b == 10) refl (line_of-append bs more) h

pub has_line_feed-append : (text more : List ℕ) → has_line_feed text ≡ true →
    has_line_feed (text ++ more) ≡ true
has_line_feed-append text more h = list_any-append is_line_feed text more ∙ rw h refl

pub speaks_http-append : (text more : List ℕ) → has_line_feed text ≡ true →
    speaks_http (text ++ more) ≡ speaks_http text
speaks_http-append text more h = ap (λ line. names_version (trim_end is_blank line))
    (line_of-append text more h)

pub whois_query-append : (text more : List ℕ) → has_line_feed text ≡ true →
    whois_query (text ++ more) ≡ whois_query text
whois_query-append text more h = rw (
  has_line_feed-append text more h,
  h,
  line_of-append text more
      h,
) refl

no_line_end : (b : ℕ) (t : Bool) → is_line_feed b ≡ t → (t ≡ true → ⊥) → line_end (b ∷ []) ≡ 0
no_line_end b true e h = absurd (h refl)
no_line_end b false e h = rw e (rw (and_right (b == 13) false refl) refl)

line_end_kept : (text more : List ℕ) → 0 < line_end text → line_end (text ++ more) ≡ line_end text
line_end_kept [] more h = absurd (omega arith)
line_end_kept (b ∷ []) more h = line_end_one b more (is_line_feed b) refl h
  where
    line_end_one : (b : ℕ) (more : List ℕ) (t : Bool) → is_line_feed b ≡ t → 0 < line_end (b ∷ [])
        → line_end (b ∷ more) ≡ line_end (b ∷ [])
    line_end_one b more true e h = rw e refl
    line_end_one b more false e h = let none : line_end (b ∷ []) ≡ 0 = no_line_end b false e
        (λ f. let g : false ≡ true = f in cc) in absurd (omega arith)
line_end_kept (b ∷ c ∷ cs) more h = refl

line_end_within : (text : List ℕ) → line_end text ≤ length text
line_end_within [] = omega arith
line_end_within (b ∷ []) = one (is_line_feed b) refl
  where
    one : (t : Bool) → is_line_feed b ≡ t → line_end (b ∷ []) ≤ 1
    one true e = rw e (omega arith)
    one false e = let none : line_end (b ∷ []) ≡ 0 = no_line_end b false e
        (λ f. let g : false ≡ true = f in cc) in omega arith
line_end_within (b ∷ c ∷ cs) = grind (arith, nat_tests)

-- where a text has a whole head, its line ends are those of any longer text
long_enough : (text more : List ℕ) → is_some (head_length text) ≡ true → line_end (text ++ more)
    ≡ line_end text
unfolding head_length
long_enough [] more h = cc
long_enough (b ∷ []) more h = let none : (is_line_feed b && nat_lt 0 0) ≡ false =
    and_right (is_line_feed b) false refl in let g = rw none at h in cc
long_enough (b ∷ c ∷ cs) more h = refl

pub none_at_all : is_some (head_length []) ≡ false
unfolding head_length
none_at_all = refl

pub head_at : (b : ℕ) (bs : List ℕ) → (is_line_feed b && nat_lt 0 (line_end bs)) ≡ true →
    head_length (b ∷ bs) ≡ Some (1 + line_end bs)
unfolding head_length
head_at b bs e = rw e refl

pub head_after : (b : ℕ) (bs : List ℕ) → (is_line_feed b && nat_lt 0 (line_end bs)) ≡ false →
    head_length (b ∷ bs) ≡ option_map (λ n. 1 + n) (head_length bs)
unfolding head_length
head_after b bs e = rw e refl

mapped_some : (found : Option ℕ) → is_some (option_map (λ n. 1 + n) found) ≡ true → is_some found
    ≡ true
mapped_some None h = h
mapped_some (Some n) h = refl

head_step : (b : ℕ) (bs more : List ℕ) (t : Bool) → (is_line_feed b && nat_lt 0 (line_end bs)) ≡ t →
    (is_some (head_length bs) ≡ true → head_length (bs ++ more) ≡ head_length bs) →
    is_some (head_length (b ∷ bs)) ≡ true → head_length (b ∷ (bs ++ more)) ≡ head_length (b ∷ bs)
head_step b bs more true e rec h =
    let kept = line_end_kept bs more (ltb-true 0 (line_end bs) (and_parts _ _ e).1) in
    let there : (is_line_feed b && nat_lt 0 (line_end (bs ++ more))) ≡ true =
    ap (λ n. is_line_feed b && nat_lt 0 n) kept ∙ e in
    head_at b (bs ++ more) there ∙ (ap (λ n. Some (1 + n)) kept ∙ sym (head_at b bs e))
head_step b bs more false e rec h =
    let rest = mapped_some (head_length bs) (rw (head_after b bs e) at h) in
    let there : (is_line_feed b && nat_lt 0 (line_end (bs ++ more))) ≡ false =
    ap (λ n. is_line_feed b && nat_lt 0 n) (long_enough bs more rest) ∙ e in
    head_after b (bs ++ more) there ∙ (ap (λ found. option_map (λ n. 1 + n) found) (rec rest)
    ∙ sym (head_after b bs e))

-- a head that is whole ends where it does, whatever follows
pub head_length-append : (text more : List ℕ) → is_some (head_length text) ≡ true →
    head_length (text ++ more) ≡ head_length text
head_length-append [] more h = let g = none_at_all in cc
head_length-append (b ∷ bs) more h = head_step b bs more (is_line_feed b && nat_lt 0 (line_end bs))
    refl (head_length-append bs more) h

-- a text with a whole head has an LF
feed_step : (b : ℕ) (bs : List ℕ) (t : Bool) → (is_line_feed b && nat_lt 0 (line_end bs)) ≡ t →
    (is_some (head_length bs) ≡ true → has_line_feed bs ≡ true) →
    is_some (head_length (b ∷ bs)) ≡ true → has_line_feed (b ∷ bs) ≡ true
feed_step b bs true e rec h = or_left (is_line_feed b) (has_line_feed bs)
    (and_parts (is_line_feed b) (nat_lt 0 (line_end bs)) e).0
feed_step b bs false e rec h = or_right (is_line_feed b) (has_line_feed bs)
    (rec (mapped_some (head_length bs) (rw (head_after b bs e) at h)))

pub head_has_feed : (text : List ℕ) → is_some (head_length text) ≡ true → has_line_feed text ≡ true
head_has_feed [] h = let g = none_at_all in cc
head_has_feed (b ∷ bs) h = feed_step b bs (is_line_feed b && nat_lt 0 (line_end bs)) refl
    (head_has_feed bs) h

-- a head is a part of the text
mapped_within : (n : ℕ) (found : Option ℕ) → IfSome found (λ place. place ≤ n) →
    IfSome (option_map (λ place. 1 + place) found) (λ place. place ≤ suc n)
mapped_within n None h = tt
mapped_within n (Some place) h = omega arith

pub head_within : (text : List ℕ) → IfSome (head_length text) (λ place. place ≤ length text)
unfolding head_length
head_within [] = tt
head_within (b ∷ bs) = within_step b bs (is_line_feed b && nat_lt 0 (line_end bs)) refl
    (head_within bs)
  where
    within_step : (b : ℕ) (bs : List ℕ) (t : Bool) → (is_line_feed b && nat_lt 0 (line_end bs))
        ≡ t → IfSome (head_length bs) (λ place. place ≤ length bs) →
        IfSome (head_length (b ∷ bs)) (λ place. place ≤ length (b ∷ bs))
    within_step b bs true e rec = rw (head_at b bs e) (omega (arith, line_end_within bs))
    within_step b bs false e rec = rw (head_after b bs e)
        (mapped_within (length bs) (head_length bs) rec)

-- what a whole head asks does not depend on what follows
head_kept : (found : Option ℕ) (prefix more : List ℕ) (full wide : Bool) (wants : Wants) →
    is_some found ≡ true → IfSome found (λ place. place ≤ length prefix) →
    RequestWants found prefix full wants → RequestWants found (prefix ++ more) wide wants
head_kept None prefix more full wide wants h within asked = cc
head_kept (Some place) prefix more full wide wants h within asked = (
  asked.0,
  subst (λ text. RequestAsks text asked.0)
      (sym (take-append-le place prefix more within)) asked.1,
  asked.2,
)

-- a prefix that has what it was read for wants the same with more after it
reached_on : (prefix more : List ℕ) (speaks full wide : Bool) (wants : Wants) → speaks_http prefix
    ≡ speaks →
    says_by speaks prefix ≡ true → HeadWants speaks prefix full wants →
    HeadWants (speaks_http (prefix ++ more)) (prefix ++ more) wide wants
reached_on prefix more false full wide wants is h asked =
    subst (λ speaks. HeadWants speaks (prefix ++ more) wide wants)
    (sym (speaks_http-append prefix more h ∙ is))
    (asked ∙ ap whois (sym (whois_query-append prefix more h)))
reached_on prefix more true full wide wants is h asked =
    subst (λ speaks. HeadWants speaks (prefix ++ more) wide wants)
    (sym (speaks_http-append prefix more (head_has_feed prefix h) ∙ is))
    (subst (λ found. RequestWants found (prefix ++ more) wide wants)
    (sym (head_length-append prefix more h))
    (head_kept (head_length prefix) prefix more full wide wants h (head_within prefix) asked))

same_wants : (prefix text : List ℕ) (full wide : Bool) (wants : Wants) → prefix ≡ text →
    full ≡ wide → HeadWants (speaks_http prefix) prefix full wants →
    HeadWants (speaks_http text) text wide wants
same_wants prefix text full wide wants e f asked =
    subst (λ xs. HeadWants (speaks_http xs) xs wide wants) e
    (subst (λ b. HeadWants (speaks_http prefix) prefix b wants) f asked)

-- the first 8,192 bytes are the prefix and some of what follows
prefix_of_all : (prefix more : List ℕ) → length prefix ≤ 8192 → take 8192 (prefix ++ more)
    ≡ prefix ++ take (8192 - length prefix) more
prefix_of_all prefix more short =
    let all : length prefix + (8192 - length prefix) ≡ 8192 = omega arith in
    ap (λ n. take n (prefix ++ more)) (sym all) ∙ take-append-add prefix more (8192 - length prefix)

full_prefix : (prefix more : List ℕ) → length prefix ≡ 8192 → prefix ≡ take 8192 (prefix ++ more)
full_prefix prefix more full =
    sym (prefix_of_all prefix more (omega arith)
    ∙ (ap (λ n. prefix ++ take n more) (let none : 8192 - length prefix ≡ 0 = omega arith in none)
    ∙ append-nil prefix))

pub wants_kept : WantsByItsHead
wants_kept prefix more at_end wants short (inl reached) done asked =
    subst (λ xs. HeadWants (speaks_http xs) xs (is_full (prefix ++ more)) wants)
    (sym (prefix_of_all prefix more short))
    (reached_on prefix (take (8192 - length prefix) more) (speaks_http prefix) (is_full prefix)
    (is_full (prefix ++ more)) wants refl reached asked)
wants_kept prefix more at_end wants short (inr (inl full)) done asked =
    let at_prefix : is_full prefix ≡ true = le-leb 8192 (length prefix) (omega arith) in
    let at_all : is_full (prefix ++ more) ≡ true = le-leb 8192 (length (prefix ++ more))
    (omega (arith, length-append prefix more)) in
    same_wants prefix _ _ _ wants (full_prefix prefix more full) (at_prefix ∙ sym at_all) asked
wants_kept prefix more at_end wants short (inr (inr over)) done asked =
    let whole : prefix ++ more ≡ prefix = ap (λ xs. prefix ++ xs) (done over) ∙ append-nil prefix in
    let cut : take 8192 (prefix ++ more) ≡ prefix = ap (take 8192) whole ∙ take_all 8192 prefix
    short in
    same_wants prefix _ _ _ wants (sym cut) (ap (λ xs. nat_le 8192 (length {A = ℕ} xs))
    (sym whole)) asked
