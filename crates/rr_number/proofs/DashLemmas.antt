-- Lemmas on texts with a dash between them, and on the blanks beside it: for spans and blocks.
use Rattle.std.proofs.Common.{◌≡◌, ℕ, ◌&&◌, Bool, true, false, cond, not, List, [], ◌∷◌, ◌++◌, Some}
use Rattle.std.proofs.Common.{refl, ap, sym, subst, ◌∙◌, arith, append_assoc}
use Rattle.std.proofs.lemmas.Bool.Decides.{nat_tests}
use Rattle.std.specs.List.{list_all}
use Rattle.rr_bytes.specs.Cuts.{cut_at}
use Rattle.rr_bytes.specs.Blanks.{is_blank}
use Rattle.rr_bytes.specs.Trims.{trim_start, trim_end, before_trimmed}
use Rattle.rr_number.specs.Dashes.{IsDashed, dash, dashed_of}
use Rattle.rr_bytes.proofs.CutLemmas.{cut_at-append, cut_at-joined, lacks, lacks-append}
use Rattle.rr_number.proofs.Choices.{option_map-some}

-- no byte of the text is a blank
abbrev pub HasNoBlank : List ℕ → Type 0
HasNoBlank text = list_all (λ b. not (is_blank b)) text ≡ true

false_true : false ≡ true → ⊥
false_true e = cc

both_true : (a b : Bool) → (a && b) ≡ true → (a ≡ true) × (b ≡ true)
both_true true b e = (refl, e)
both_true false b e = (e, absurd (false_true e))

not_true : (a : Bool) → not a ≡ true → a ≡ false
not_true true e = sym e
not_true false e = refl

-- a blank at the end is trimmed
pub trim_end-blank : (xs : List ℕ) (b : ℕ) → is_blank b ≡ true → trim_end is_blank (xs ++ (b ∷ []))
    ≡ trim_end is_blank xs
unfolding trim_end
trim_end-blank [] b is = ap (λ x. cond x [] (b ∷ [])) is
trim_end-blank (x ∷ xs) b is = ap (before_trimmed is_blank x) (trim_end-blank xs b is)

-- another byte at the end stays
pub trim_end-other : (xs : List ℕ) (b : ℕ) → is_blank b ≡ false →
    trim_end is_blank (xs ++ (b ∷ [])) ≡ xs ++ (b ∷ [])
unfolding trim_end
trim_end-other [] b is = ap (λ x. cond x [] (b ∷ [])) is
trim_end-other (x ∷ []) b is = ap (before_trimmed is_blank x) (trim_end-other [] b is)
trim_end-other (x ∷ y ∷ ys) b is = ap (before_trimmed is_blank x) (trim_end-other (y ∷ ys) b is)

-- blanks before what is left of a text
pub record StandsAfter (kept text : List ℕ) : Type 0 where
  pub blanks : List ℕ
  pub blank : list_all is_blank blanks ≡ true
  pub spelled : text ≡ blanks ++ kept

-- blanks after what is left of a text
pub record StandsBefore (kept text : List ℕ) : Type 0 where
  pub blanks : List ℕ
  pub blank : list_all is_blank blanks ≡ true
  pub spelled : text ≡ kept ++ blanks

start_step : (b : ℕ) (bs : List ℕ) (x : Bool) → is_blank b ≡ x →
    StandsAfter (trim_start is_blank bs) bs →
    StandsAfter (cond x (trim_start is_blank bs) (b ∷ bs)) (b ∷ bs)
unfolding trim_start
start_step b bs true is rest = record {
  blanks = b ∷ rest.blanks;
  blank = rw is rest.blank;
  spelled = ap (λ xs. b ∷ xs) rest.spelled;
}
start_step b bs false is rest = record { blanks = []; blank = refl; spelled = refl }

-- what is trimmed at the start are blanks
pub trim_start-after : (text : List ℕ) → StandsAfter (trim_start is_blank text) text
unfolding trim_start
trim_start-after [] = record { blanks = []; blank = refl; spelled = refl }
trim_start-after (b ∷ bs) = start_step b bs (is_blank b) refl (trim_start-after bs)

end_alone : (b : ℕ) (bs : List ℕ) (x : Bool) → is_blank b ≡ x → StandsBefore [] bs →
    StandsBefore (cond x [] (b ∷ [])) (b ∷ bs)
end_alone b bs true is rest = record {
  blanks = b ∷ rest.blanks;
  blank = rw is rest.blank;
  spelled = ap (λ xs. b ∷ xs) rest.spelled;
}
end_alone b bs false is rest = record {
  blanks = rest.blanks;
  blank = rest.blank;
  spelled =
      ap (λ xs. b ∷ xs) rest.spelled;
}

end_step : (b : ℕ) (bs kept : List ℕ) → StandsBefore kept bs →
    StandsBefore (before_trimmed is_blank b kept) (b ∷ bs)
end_step b bs [] rest = end_alone b bs (is_blank b) refl rest
end_step b bs (c ∷ cs) rest = record {
  blanks = rest.blanks;
  blank = rest.blank;
  spelled =
      ap (λ xs. b ∷ xs) rest.spelled;
}

-- what is trimmed at the end are blanks
pub trim_end-before : (text : List ℕ) → StandsBefore (trim_end is_blank text) text
unfolding trim_end
trim_end-before [] = record { blanks = []; blank = refl; spelled = refl }
trim_end-before (b ∷ bs) = end_step b bs (trim_end is_blank bs) (trim_end-before bs)

-- blanks alone are trimmed whole
trim_end-blanks : (blanks : List ℕ) → list_all is_blank blanks ≡ true → trim_end is_blank blanks
    ≡ []
unfolding trim_end
trim_end-blanks [] all = refl
trim_end-blanks (b ∷ bs) all =
    let parts = both_true (is_blank b) (list_all is_blank bs) all in
    ap (before_trimmed is_blank b) (trim_end-blanks bs parts.1) ∙ ap (λ x. cond x [] (b ∷ []))
    parts.0

-- a text without blanks is what is left of it with blanks after
pub trim_end-kept : (text blanks : List ℕ) → HasNoBlank text → list_all is_blank blanks ≡ true →
    trim_end is_blank (text ++ blanks) ≡ text
unfolding trim_end
trim_end-kept [] blanks none all = trim_end-blanks blanks all
trim_end-kept (b ∷ []) blanks none all =
    ap (before_trimmed is_blank b) (trim_end-blanks blanks all) ∙ ap (λ x. cond x [] (b ∷ []))
    (not_true (is_blank b) (both_true (not (is_blank b)) true none).0)
trim_end-kept (b ∷ c ∷ cs) blanks none all =
    ap (before_trimmed is_blank b)
    (trim_end-kept (c ∷ cs) blanks
    (both_true (not (is_blank b)) (list_all (λ x. not (is_blank x)) (c ∷ cs)) none).1 all)

-- and with blanks before
pub trim_start-kept : (blanks text : List ℕ) → HasNoBlank text → list_all is_blank blanks ≡ true →
    trim_start is_blank (blanks ++ text) ≡ text
unfolding trim_start
trim_start-kept [] [] none all = refl
trim_start-kept [] (b ∷ bs) none all =
    ap (λ x. cond x (trim_start is_blank bs) (b ∷ bs))
    (not_true (is_blank b) (both_true (not (is_blank b)) (list_all (λ x. not (is_blank x)) bs)
    none).0)
trim_start-kept (c ∷ cs) text none all =
    let parts = both_true (is_blank c) (list_all is_blank cs) all in
    ap (λ x. cond x (trim_start is_blank (cs ++ text)) (c ∷ (cs ++ text))) parts.0
    ∙ trim_start-kept cs text none parts.1

-- blanks have no dash among them
lacks-blanks : (blanks : List ℕ) → list_all is_blank blanks ≡ true → lacks dash blanks ≡ true
lacks-blanks [] all = refl
lacks-blanks (b ∷ bs) all =
    let parts = both_true (is_blank b) (list_all is_blank bs) all in
    grind (arith, nat_tests, parts.0, lacks-blanks bs parts.1)

-- what is cut at a dash stands round it
pub dashed_of-spelled : (text : List ℕ) (ends : List ℕ × List ℕ) → dashed_of text ≡ Some ends →
    IsDashed text ends.0 ends.1
unfolding dashed_of
dashed_of-spelled text ends read =
    option_map-some _ (cut_at dash text) ends read (λ parts cut is.
    subst (λ (e : List ℕ × List ℕ). IsDashed text e.0 e.1) is
    (around text parts.0 parts.1 (cut_at-joined dash text parts.0 parts.1 cut)))
  where
    around : (text before after : List ℕ) → text ≡ before ++ (dash ∷ after) →
        IsDashed text (trim_end is_blank before) (trim_start is_blank after)
    around text before after spelled =
        let prefix = trim_end-before before in
        let back = trim_start-after after in
        record {
          before = prefix.blanks;
          after = back.blanks;
          before_blank = prefix.blank;
          after_blank = back.blank;
          spelled = spelled ∙ ap (λ xs. xs ++ (dash ∷ after)) prefix.spelled
              ∙ append_assoc (trim_end is_blank before) prefix.blanks (dash ∷ after)
              ∙ ap (λ xs. trim_end is_blank before ++ (prefix.blanks ++ (dash ∷ xs))) back.spelled;
        }

-- two texts round a dash are cut there, if neither has a blank and the first no dash
pub dashed_of-read : (text first last : List ℕ) → IsDashed text first last → HasNoBlank first →
    HasNoBlank last → lacks dash first ≡ true → dashed_of text ≡ Some (first, last)
unfolding dashed_of
dashed_of-read text first last dashed none_first none_last no_dash =
    let joined : text ≡ (first ++ dashed.before) ++ (dash ∷ (dashed.after ++ last)) =
    dashed.spelled ∙ sym (append_assoc first dashed.before (dash ∷ (dashed.after ++ last))) in
    let cut : cut_at dash text ≡ Some (first ++ dashed.before, dashed.after ++ last) =
    ap (cut_at dash) joined ∙ cut_at-append dash (first ++ dashed.before) (dashed.after ++ last)
    (lacks-append dash first dashed.before no_dash
    (lacks-blanks dashed.before dashed.before_blank)) in
    let prefix : trim_end is_blank (first ++ dashed.before) ≡ first = trim_end-kept first
    dashed.before none_first dashed.before_blank in
    let back : trim_start is_blank (dashed.after ++ last) ≡ last = trim_start-kept dashed.after
    last none_last dashed.after_blank in
    rw (cut, prefix, back) refl
