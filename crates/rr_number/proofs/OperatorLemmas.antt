-- Lemmas on the texts of operators: for `Operator::read`.
use Rattle.std.proofs.Common.{◌≡◌, ℕ, ◌<◌, ◌==◌, Bool, true, false, List, [], ◌∷◌, ◌++◌, length}
use Rattle.std.proofs.Common.{Option, Some, None, cond, nat_le, refl, ap, subst, sym, inl, inr}
use Rattle.std.proofs.Common.{arith}
use Rattle.std.proofs.lemmas.Bool.Decides.{nat_tests}
use Rattle.std.proofs.lemmas.Option.{cond_some, option_and_then_some}
use Rattle.std.proofs.lemmas.Slice.Eq.{bytes_eq-Decides}
use Rattle.std.specs.Char.{is_ascii_digit}
use Rattle.std.specs.Fmt.{decimal}
use Rattle.std.specs.Str.{all_ascii_digits, bytes_eq}
use Rattle.rr_number.specs.Bounds.{Bounds, IsBounds}
use Rattle.rr_bytes.specs.Cuts.{cut_at}
use Rattle.rr_number.specs.Dashes.{dash}
use Rattle.rr_number.specs.Operators.{IsOperator, IsOneLength, IsOperatorValue, IsTwoLengths, caret}
use Rattle.rr_number.specs.Operators.{carried_of, lengths_cut_of, one_length_of, operator_of}
use Rattle.rr_number.specs.Operators.{operator_text, plus, two_lengths_of}
use Rattle.rr_number.specs.Prefixes.{length_of}
use Rattle.rr_number.specs.declared.operator.Operator.{Operator}
use Rattle.rr_number.specs.declared.operator.Operator.TheVariants.{Plain, Plus, Minus, Lengths}
use Rattle.rr_number.proofs.Choices.{option_map-some}
use Rattle.rr_bytes.proofs.CutLemmas.{cut_at-append, cut_at-joined, cut_at-lacks, lacks-digits}
use Rattle.rr_number.proofs.Decimals.{IsNumber-decimal, number_of-read, number_of-spelled}

-- what is read as one length or two is spelled so
lengths-spelled : (text : List ℕ) (cut : Option (List ℕ × List ℕ)) (o : Operator) →
    cut_at dash text ≡ cut → lengths_cut_of text cut ≡ Some o → IsOperator (caret ∷ text) o
unfolding one_length_of two_lengths_of
lengths-spelled text None o is_cut read =
    option_map-some _ (length_of text) o read (λ n is_n value.
    subst (λ (p : Operator). IsOperator (caret ∷ text) p) value (inl (record {
      digits = text;
      spelled = refl;
      low = number_of-spelled 2 33 text n is_n;
      same = refl;
    })))
lengths-spelled text (Some parts) o is_cut read =
    option_and_then_some _ (length_of parts.0) o read (λ low is_low rest.
    option_and_then_some _ (length_of parts.1) o rest (λ high is_high ordered.
    let kept = cond_some (nat_le low high) _ _ ordered in
    subst (λ (p : Operator). IsOperator (caret ∷ text) p) kept.1 (inr (record {
      first = parts.0;
      second = parts.1;
      spelled = ap (λ bs. caret ∷ bs) (cut_at-joined dash text parts.0 parts.1 is_cut);
      low = number_of-spelled 2 33 parts.0 low is_low;
      high = number_of-spelled 2 33 parts.1 high is_high;
      ordered = grind (arith, nat_tests, kept.0);
    }))))

-- what is read after a caret is spelled so
carried-spelled : (is_plus is_dash : Bool) (text : List ℕ) (o : Operator) →
    bytes_eq text (plus ∷ []) ≡ is_plus → bytes_eq text (dash ∷ []) ≡ is_dash →
    cond is_plus (Some Plus) (cond is_dash (Some Minus) (lengths_cut_of text (cut_at dash text)))
    ≡ Some o → IsOperator (caret ∷ text) o
carried-spelled true is_dash text o at_plus at_dash read =
    let same : Plus ≡ o = cc in
    subst (λ (p : Operator). IsOperator (caret ∷ text) p) same
    (ap (λ bs. caret ∷ bs) ((bytes_eq-Decides text (plus ∷ [])).0 at_plus))
carried-spelled false true text o at_plus at_dash read =
    let same : Minus ≡ o = cc in
    subst (λ (p : Operator). IsOperator (caret ∷ text) p) same
    (ap (λ bs. caret ∷ bs) ((bytes_eq-Decides text (dash ∷ [])).0 at_dash))
carried-spelled false false text o at_plus at_dash read = lengths-spelled text (cut_at dash text) o
    refl read

-- what is read of a text that begins with a byte is spelled so
begun-spelled : (is_caret : Bool) (b : ℕ) (bs : List ℕ) (o : Operator) → (b == caret) ≡ is_caret →
    cond is_caret (carried_of bs) None ≡ Some o → IsOperator (b ∷ bs) o
unfolding carried_of
begun-spelled true b bs o at_caret read =
    let same : b ≡ caret = grind (arith, nat_tests) in
    rw same (carried-spelled (bytes_eq bs (plus ∷ [])) (bytes_eq bs (dash ∷ [])) bs o refl refl
    read)
begun-spelled false b bs o at_caret read = cc

-- what is read is spelled
pub operator_of-spelled : (text : List ℕ) (o : Operator) → operator_of text ≡ Some o →
    IsOperator text o
unfolding operator_of
operator_of-spelled [] o read =
    let same : Plain ≡ o = cc in
    subst (λ (p : Operator). IsOperator [] p) same refl
operator_of-spelled (b ∷ bs) o read = begun-spelled (b == caret) b bs o refl read

-- digits are no sign
no_sign : (c : ℕ) (text : List ℕ) → is_ascii_digit c ≡ false → all_ascii_digits text ≡ true →
    bytes_eq text (c ∷ []) ≡ false
no_sign c [] other digits = refl
no_sign c (b ∷ bs) other digits = grind (arith, nat_tests)

-- nor is a text that begins with a digit
no_sign-begun : (c : ℕ) (prefix text : List ℕ) → is_ascii_digit c ≡ false → all_ascii_digits prefix
    ≡ true → 0 < length prefix → bytes_eq (prefix ++ text) (c ∷ []) ≡ false
no_sign-begun c [] text other digits some = absurd (omega (arith, some))
no_sign-begun c (b ∷ bs) text other digits some = grind (arith, nat_tests)

-- one length is read
one-read : (text : List ℕ) (b : Bounds) → IsOneLength text b → operator_of text ≡ Some (Lengths b)
unfolding operator_of carried_of one_length_of
one-read text b spelled =
    let no_plus : bytes_eq spelled.digits (plus ∷ []) ≡ false = no_sign plus spelled.digits refl
    spelled.low.digits in
    let no_dash : bytes_eq spelled.digits (dash ∷ []) ≡ false = no_sign dash spelled.digits refl
    spelled.low.digits in
    let uncut : cut_at dash spelled.digits ≡ None = cut_at-lacks dash spelled.digits
    (lacks-digits dash spelled.digits refl spelled.low.digits) in
    let at_low : length_of spelled.digits ≡ Some b.low = number_of-read 2 33 spelled.digits b.low
    spelled.low in
    rw (spelled.spelled, no_plus, no_dash, uncut, at_low)
    (ap (λ high. Some (Lengths (record { low = b.low; high = high }))) (sym spelled.same))

-- two lengths are read
two-read : (text : List ℕ) (b : Bounds) → IsTwoLengths text b → operator_of text ≡ Some (Lengths b)
unfolding operator_of carried_of two_lengths_of
two-read text b spelled =
    let no_plus : bytes_eq (spelled.first ++ (dash ∷ spelled.second)) (plus ∷ []) ≡ false =
    no_sign-begun plus spelled.first _ refl spelled.low.digits spelled.low.some in
    let no_dash : bytes_eq (spelled.first ++ (dash ∷ spelled.second)) (dash ∷ []) ≡ false =
    no_sign-begun dash spelled.first _ refl spelled.low.digits spelled.low.some in
    let cut : cut_at dash (spelled.first ++ (dash ∷ spelled.second))
    ≡ Some (spelled.first, spelled.second) =
    cut_at-append dash spelled.first spelled.second
    (lacks-digits dash spelled.first refl spelled.low.digits) in
    let at_low : length_of spelled.first ≡ Some b.low = number_of-read 2 33 spelled.first b.low
    spelled.low in
    let at_high : length_of spelled.second ≡ Some b.high = number_of-read 2 33 spelled.second
    b.high spelled.high in
    let ordered : nat_le b.low b.high ≡ true = grind (arith, nat_tests, spelled.ordered) in
    rw (spelled.spelled, no_plus, no_dash, cut, at_low, at_high, ordered) refl

-- what is spelled is read
pub operator_of-read : (text : List ℕ) (o : Operator) → IsOperator text o → operator_of text
    ≡ Some o
unfolding operator_of carried_of
operator_of-read text Plain spelled = rw spelled refl
operator_of-read text Plus spelled = rw spelled refl
operator_of-read text Minus spelled = rw spelled refl
operator_of-read text (Lengths b) (inl one) = one-read text b one
operator_of-read text (Lengths b) (inr two) = two-read text b two

-- printed lengths are spelled
lengths_text-spelled : (same : Bool) (b : Bounds) → IsBounds b → (b.low == b.high) ≡ same →
    IsOperator
    (cond same (caret ∷ decimal b.low) (caret ∷ (decimal b.low ++ (dash ∷ decimal b.high))))
    (Lengths b)
lengths_text-spelled true b is same = inl (record {
  digits = decimal b.low;
  spelled = refl;
  low = IsNumber-decimal 2 33 b.low (omega arith) (omega (arith, is.ordered, is.short))
      (omega (arith, is.ordered, is.short)) (omega (arith, is.ordered, is.short));
  same = grind (arith, nat_tests);
})
lengths_text-spelled false b is same = inr (record {
  first = decimal b.low;
  second = decimal b.high;
  spelled = refl;
  low = IsNumber-decimal 2 33 b.low (omega arith) (omega (arith, is.ordered, is.short))
      (omega (arith, is.ordered, is.short)) (omega (arith, is.ordered, is.short));
  high = IsNumber-decimal 2 33 b.high (omega arith) (omega (arith, is.short))
      (omega (arith, is.short)) (omega (arith, is.short));
  ordered = is.ordered;
})

-- a printed operator spells it
pub IsOperator-text : (o : Operator) → IsOperatorValue o → IsOperator (operator_text o) o
unfolding operator_text
IsOperator-text Plain is = refl
IsOperator-text Plus is = refl
IsOperator-text Minus is = refl
IsOperator-text (Lengths b) is = lengths_text-spelled (b.low == b.high) b is refl
