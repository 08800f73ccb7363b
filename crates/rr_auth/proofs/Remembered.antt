-- What is remembered of secrets, as more of them are tried and as others are added.
use Rattle.std.proofs.Common.{◌≡◌, ◌+◌, ◌-◌, ℕ, ◌≤◌, ◌<◌, Bool, true, false, cond, ◌||◌, List, []}
use Rattle.std.proofs.Common.{◌∷◌, ◌++◌, length, take, drop, get_or, arith, length-append}
use Rattle.std.proofs.Common.{length-drop, refl, sym, ap, subst, ◌∙◌}
use Rattle.std.specs.Prelude.{IfSome, Option, Some}
use Rattle.std.specs.BTreeMap.{BTreeMap, Updates, get, is_at}
use Rattle.std.specs.BTreeSet.{BTreeSet, contains}
use Rattle.std.specs.BTreeSet as set
use Rattle.std.specs.Cmp.Lexicographic.{slice_cmp}
use Rattle.std.specs.Global.{Vec}
use Rattle.std.specs.List.{list_any}
use Rattle.std.specs.Map.{lookup}
use Rattle.std.specs.Ordering.{nat_cmp}
use Rattle.std.specs.Str.{bytes_eq}
use Rattle.std.proofs.lemmas.Bool.{false_from_ne_true, true≢false}
use Rattle.std.proofs.lemmas.List.{take-append-drop, take-append-le, take_all}
use Rattle.std.proofs.lemmas.List.Folds.{list_any-append, list_any_more}
use Rattle.std.proofs.lemmas.Map.Text.{is_eq-slice_cmp}
use Rattle.std.proofs.lemmas.Option.{IfSome_then}
use Rattle.std.proofs.lemmas.Slice.Eq.{bytes_eq-Decides}
use Rattle.rr_object.specs.Parts.{AuthParts}
use Rattle.rr_auth.specs.declared.tried.Answer.{Answer}
use Rattle.rr_auth.specs.declared.tried.Trial.{Trial}
use Rattle.rr_auth.specs.Passing.{fits_line}
use Rattle.rr_auth.specs.TrialParts.{AreAnswers, AreDigests, HasDigests, IsTrial, salt_cmp}
use Rattle.rr_auth.specs.TrialParts.{some_line_fits}

abbrev Answers : Type 0
Answers = BTreeMap (List ℕ) Answer

abbrev Digests : Type 0
Digests = BTreeMap (Vec ℕ) (BTreeSet (List ℕ))

-- what passes a test in a list stands in a prefix of it or after that
any_parted : (p : List ℕ → Bool) (n : ℕ) (xs : List (List ℕ)) → list_any p xs
    ≡ (list_any p (take n xs) || list_any p (drop n xs))
any_parted p n xs = ap (list_any p) (sym (take-append-drop n xs)) ∙ list_any-append p (take n xs)
    (drop n xs)

or_swap : (a b c d : Bool) → ((a || b) || (c || d)) ≡ ((a || c) || (b || d))
or_swap true b c d = refl
or_swap false true true d = refl
or_swap false true false d = refl
or_swap false false c d = refl

some_line_parted : (n : ℕ) (secrets : List (List ℕ)) (lines : List AuthParts)
    → some_line_fits secrets lines ≡ (some_line_fits (take n secrets) lines || some_line_fits
    (drop n secrets) lines)
some_line_parted n secrets [] = refl
some_line_parted n secrets (line ∷ lines) =
    (λ i. any_parted (fits_line line) n secrets i || some_line_parted n secrets lines i)
    ∙ or_swap (list_any (fits_line line) (take n secrets))
    (list_any (fits_line line) (drop n secrets)) (some_line_fits (take n secrets) lines)
    (some_line_fits (drop n secrets) lines)

module _ (secrets : List (List ℕ)) (lines : List AuthParts) (trial : Trial)
    (is : IsTrial secrets lines trial) where
  parted : some_line_fits secrets lines ≡ (trial.fits || some_line_fits (drop trial.tried secrets)
      lines)
  parted = some_line_parted trial.tried secrets lines
      ∙ ap (λ b. b || some_line_fits (drop trial.tried secrets) lines) (sym is.told)

  -- lines one of which some secret was seen to fit
  pub seen_to_fit : trial.fits ≡ true → trial.fits ≡ some_line_fits secrets lines
  seen_to_fit e = e ∙ sym (parted ∙ ap (λ b. b || some_line_fits (drop trial.tried secrets) lines)
      e)

  -- lines with which each secret was tried
  pub all_tried : trial.tried ≡ length secrets → trial.fits ≡ some_line_fits secrets lines
  all_tried e = is.told ∙ ap (λ (tried : List (List ℕ)). some_line_fits tried lines)
      (ap (λ n. take n secrets) e ∙ take_all (length secrets) secrets (omega arith))

  -- where none of those that were tried fits, the rest decides
  pub rest_decides : trial.fits ≡ false →
      some_line_fits (take (length secrets - trial.tried) (drop trial.tried secrets)) lines
      ≡ some_line_fits secrets lines
  rest_decides e =
      ap (λ (rest : List (List ℕ)). some_line_fits rest lines)
      (take_all (length secrets - trial.tried) (drop trial.tried secrets)
      (omega (arith, length-drop trial.tried secrets)))
      ∙ sym (parted ∙ ap (λ b. b || some_line_fits (drop trial.tried secrets) lines) e)

-- lines with which all secrets were tried
pub whole_trial : (secrets : List (List ℕ)) (lines : List AuthParts) (trial : Trial) → trial.tried
    ≡ length secrets → trial.fits ≡ some_line_fits secrets lines → IsTrial secrets lines trial
whole_trial secrets lines trial all told = record {
  within = subst (λ n. n ≤ length secrets) (sym all) (omega arith);
  told = told ∙ ap (λ (tried : List (List ℕ)). some_line_fits tried lines)
      (sym (ap (λ n. take n secrets) all ∙ take_all (length secrets) secrets (omega arith)));
}

no_secret_fits : (lines : List AuthParts) → false ≡ some_line_fits [] lines
no_secret_fits [] = refl
no_secret_fits (line ∷ lines) = no_secret_fits lines

-- no secret was tried
pub none_tried : (secrets : List (List ℕ)) (lines : List AuthParts) (trial : Trial) → trial.tried
    ≡ 0 → trial.fits ≡ false → IsTrial secrets lines trial
none_tried secrets lines trial zeroth fails = record {
  within = subst (λ n. n ≤ length secrets) (sym zeroth) (omega arith);
  told = fails ∙ no_secret_fits lines ∙ ap (λ n. some_line_fits (take n secrets) lines)
      (sym zeroth);
}

trial_stays : (secrets more : List (List ℕ)) (answer : Answer) → IsTrial secrets answer.lines.items
    answer.trial → IsTrial (secrets ++ more) answer.lines.items answer.trial
trial_stays secrets more answer is = record {
  within = omega (arith, is.within, length-append secrets more);
  told = is.told ∙ ap (λ (tried : List (List ℕ)). some_line_fits tried answer.lines.items)
      (sym (take-append-le answer.trial.tried secrets more is.within));
}

-- what is remembered of secrets holds where others are added after them
pub answers_stay : (secrets more : List (List ℕ)) (answers : Answers) → AreAnswers secrets answers
    → AreAnswers (secrets ++ more) answers
answers_stay secrets more answers are = λ name.
    IfSome_then (get (slice_cmp nat_cmp) answers name) (are name) (trial_stays secrets more)

-- of nothing that is remembered all is true
pub nothing_remembered : (secrets : List (List ℕ)) (answers : Answers) → answers.entries ≡ [] →
    AreAnswers secrets answers
nothing_remembered secrets answers none = λ name.
    subst (λ (es : List (List ℕ × Answer)). IfSome (lookup (is_at (slice_cmp nat_cmp name)) es)
    (λ answer. IsTrial secrets answer.lines.items answer.trial)) (sym none) tt

put_at : (secrets : List (List ℕ)) (answer : Answer) (b : Bool) (before : Option Answer) →
    IsTrial secrets answer.lines.items answer.trial
    → IfSome before (λ other. IsTrial secrets other.lines.items other.trial) →
    IfSome (cond b (Some answer) before) (λ other. IsTrial secrets other.lines.items
    other.trial)
put_at secrets answer true before is were = is
put_at secrets answer false before is were = were

-- one more answer is remembered
pub answer_put : (secrets : List (List ℕ)) (name : List ℕ) (answer : Answer) (old new : Answers) →
    Updates (slice_cmp nat_cmp) old new name (Some answer)
    → AreAnswers secrets old → IsTrial secrets answer.lines.items answer.trial →
    AreAnswers secrets new
answer_put secrets name answer old new put were is = λ other.
    subst (λ (o : Option Answer). IfSome o (λ a. IsTrial secrets a.lines.items a.trial))
    (sym (put.0 other))
    (put_at secrets answer (is_at (slice_cmp nat_cmp name) other)
    (get (slice_cmp nat_cmp) old other) is (were other))

-- where memory is refused, what was remembered stays
pub answers_kept : (secrets : List (List ℕ)) (old new : Answers) → new.entries ≡ old.entries →
    AreAnswers secrets old → AreAnswers secrets new
answers_kept secrets old new same were = λ name.
    subst (λ (es : List (List ℕ × Answer)). IfSome (lookup (is_at (slice_cmp nat_cmp name)) es)
    (λ answer. IsTrial secrets answer.lines.items answer.trial)) (sym same) (were name)

-- of no salts all is true
pub nothing_salted : (wanted : BTreeSet (List ℕ)) (secrets : List (List ℕ)) (digests : Digests) →
    digests.entries ≡ [] → AreDigests wanted secrets digests
nothing_salted wanted secrets digests none = λ salt.
    subst (λ (es : List (Vec ℕ × BTreeSet (List ℕ))). IfSome (lookup (is_at (salt_cmp salt)) es)
    (HasDigests salt.items wanted secrets)) (sym none) tt

salt_at : (wanted : BTreeSet (List ℕ)) (secrets : List (List ℕ)) (salt other : List ℕ)
    (digests : BTreeSet (List ℕ)) (b : Bool) (before : Option (BTreeSet (List ℕ))) →
    (b ≡ true → salt ≡ other)
    → HasDigests salt wanted secrets digests → IfSome before (HasDigests other wanted secrets) →
    IfSome (cond b (Some digests) before) (HasDigests other wanted secrets)
salt_at wanted secrets salt other digests true before same has were =
    subst (λ (s : List ℕ). HasDigests s wanted secrets digests) (same refl) has
salt_at wanted secrets salt other digests false before same has were = were

-- the digests of one more salt
pub salt_put : (wanted : BTreeSet (List ℕ)) (secrets : List (List ℕ)) (salt : Vec ℕ)
    (digests : BTreeSet (List ℕ)) (old new : Digests) → Updates salt_cmp old new salt (Some digests)
    → AreDigests wanted secrets old → HasDigests salt.items wanted secrets digests →
    AreDigests wanted secrets new
salt_put wanted secrets salt digests old new put were has = λ other.
    subst (λ (o : Option (BTreeSet (List ℕ))). IfSome o (HasDigests other.items wanted secrets))
    (sym (put.0 other))
    (salt_at wanted secrets salt.items other.items digests (is_at (salt_cmp salt) other)
    (get salt_cmp old other)
    (λ e. (bytes_eq-Decides salt.items other.items).0 (sym (is_eq-slice_cmp salt.items other.items)
    ∙ e)) has (were other))

-- where memory is refused, the digests stay
pub salts_kept : (wanted : BTreeSet (List ℕ)) (secrets : List (List ℕ)) (old new : Digests) →
    new.entries ≡ old.entries → AreDigests wanted secrets old → AreDigests wanted secrets new
salts_kept wanted secrets old new same were = λ salt.
    subst (λ (es : List (Vec ℕ × BTreeSet (List ℕ))). IfSome (lookup (is_at (salt_cmp salt)) es)
    (HasDigests salt.items wanted secrets)) (sym same) (were salt)

or_false : (b : Bool) → b ≡ (b || false)
or_false true = refl
or_false false = refl

or_last : (a b : Bool) → cond a true b ≡ (b || a)
or_last true true = refl
or_last true false = refl
or_last false true = refl
or_last false false = refl

-- the wanted ones of the texts that a function gives of some others, as a set
abbrev pub HasImages : (List ℕ → List ℕ) → BTreeSet (List ℕ) → List (List ℕ) → BTreeSet (List ℕ) →
    Type 0
HasImages f wanted xs set = (y : List ℕ) → contains (slice_cmp nat_cmp) wanted y ≡ true →
    contains (slice_cmp nat_cmp) set y ≡ list_any (λ x. bytes_eq (f x) y) xs

module _ (f : List ℕ → List ℕ) (wanted : BTreeSet (List ℕ)) (xs : List (List ℕ)) (i : ℕ)
    (x : List ℕ) (inside : i < length xs) (is : x ≡ get_or xs i x) where
  one_more : (y : List ℕ) → list_any (λ z. bytes_eq (f z) y) (take (i + 1) xs)
      ≡ (list_any (λ z. bytes_eq (f z) y) (take i xs) || bytes_eq (f x) y)
  one_more y = list_any_more (λ z. bytes_eq (f z) y) xs i x inside
      ∙ ap (λ z. list_any (λ w. bytes_eq (f w) y) (take i xs) || bytes_eq (f z) y) (sym is)

  -- one that is wanted is put in
  pub one_image_more : (old new : BTreeSet (List ℕ)) → set.Updates (slice_cmp nat_cmp) old new
      (f x) true → HasImages f wanted (take i xs) old → HasImages f wanted (take (i + 1) xs) new
  one_image_more old new update before y w =
      update.0 y
      ∙ ap (λ b. cond b true (contains (slice_cmp nat_cmp) old y)) (is_eq-slice_cmp (f x) y)
      ∙ or_last (bytes_eq (f x) y) (contains (slice_cmp nat_cmp) old y)
      ∙ ap (λ b. b || bytes_eq (f x) y) (before y w)
      ∙ sym (one_more y)

  -- one that is not wanted is left out
  pub one_image_less : (old : BTreeSet (List ℕ)) → contains (slice_cmp nat_cmp) wanted (f x)
      ≡ false → HasImages f wanted (take i xs) old → HasImages f wanted (take (i + 1) xs) old
  one_image_less old out before y w =
      let other : bytes_eq (f x) y ≡ false =
      false_from_ne_true _
      (λ e. true≢false (sym w ∙ ap (contains (slice_cmp nat_cmp) wanted)
      (sym ((bytes_eq-Decides (f x) y).0 e)) ∙ out)) in
      before y w
      ∙ or_false (list_any (λ z. bytes_eq (f z) y) (take i xs))
      ∙ ap (λ b. list_any (λ z. bytes_eq (f z) y) (take i xs) || b) (sym other)
      ∙ sym (one_more y)
