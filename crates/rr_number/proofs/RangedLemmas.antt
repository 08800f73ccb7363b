-- Lemmas on the texts of prefixes with operators: for `read_ranged`, and for `laws`.
use Rattle.std.proofs.Common.{◌≡◌, ℕ, ◌==◌, ◌⊎◌, true, List, [], ◌∷◌, ◌++◌, length, Some, refl}
use Rattle.std.proofs.Common.{subst, sym, inl, inr, take-append-drop}
use Rattle.std.proofs.lemmas.List.{take_at, drop_at}
use Rattle.std.proofs.lemmas.Option.{option_and_then_some}
use Rattle.std.specs.List.{before_first, position_or_len}
use Rattle.rr_number.specs.Applied.{IsRanged, operator_for, ranged_from, range_text, ranged_of}
use Rattle.rr_bytes.specs.Cuts.{from_first}
use Rattle.rr_number.specs.Operators.{IsOperator, caret, operator_of, operator_text}
use Rattle.rr_number.specs.Prefixes.{PrefixParts, IsPrefix, prefix_of, prefix_text, slash}
use Rattle.rr_number.specs.Ranges.{RangeParts, IsRange}
use Rattle.rr_number.specs.declared.operator.Operator.{Operator}
use Rattle.rr_number.specs.declared.operator.Operator.TheVariants.{Plain, Plus, Minus, Lengths}
use Rattle.rr_number.proofs.AddressLemmas.{lacks-address}
use Rattle.rr_number.proofs.Choices.{option_map-some}
use Rattle.rr_bytes.proofs.CutLemmas.{lacks, lacks-digits, lacks-joined, place_after}
use Rattle.rr_number.proofs.OperatorLemmas.{IsOperator-text, operator_of-read, operator_of-spelled}
use Rattle.rr_number.proofs.PrefixLemmas.{IsPrefix-text, prefix_of-read, prefix_of-spelled}
use Rattle.rr_number.proofs.RangeLemmas.{IsOperatorValue-for}

-- what is read is spelled
pub ranged_of-spelled : (text : List ℕ) (ranged : PrefixParts × Operator) → ranged_of text
    ≡ Some ranged → IsRanged text ranged.0 ranged.1
unfolding ranged_of ranged_from
ranged_of-spelled text ranged read =
    option_and_then_some _ (prefix_of (before_first (λ b. b == caret) text)) ranged read
    (λ prefix is_prefix rest.
    option_map-some _ (operator_of (from_first caret text)) ranged rest
    (λ operator is_operator value.
    subst (λ (r : PrefixParts × Operator). IsRanged text r.0 r.1) value (record {
      before = before_first (λ b. b == caret) text;
      rest = from_first caret text;
      spelled = sym (take-append-drop (position_or_len (λ b. b == caret) text) text);
      first = prefix_of-spelled _ prefix is_prefix;
      second = operator_of-spelled _ operator is_operator;
    })))

-- an operator's text is empty or begins with a caret
begins : (text : List ℕ) (o : Operator) → IsOperator text o → (text ≡ [])
    ⊎ ((rest : List ℕ) × (text ≡ caret ∷ rest))
begins text Plain spelled = inl spelled
begins text Plus spelled = inr (_, spelled)
begins text Minus spelled = inr (_, spelled)
begins text (Lengths b) (inl one) = inr (one.digits, one.spelled)
begins text (Lengths b) (inr two) = inr (_, two.spelled)

-- a prefix's text has no caret
lacks-prefix : (text : List ℕ) (p : PrefixParts) → IsPrefix text p → lacks caret text ≡ true
lacks-prefix text p spelled =
    rw spelled.spelled (lacks-joined caret slash spelled.address_text spelled.length_text refl
    (lacks-address caret _ spelled.address refl refl spelled.first)
    (lacks-digits caret spelled.length_text refl spelled.second.digits))

-- what is spelled is read
pub ranged_of-read : (text : List ℕ) (p : PrefixParts) (o : Operator) → IsRanged text p o →
    ranged_of text ≡ Some (p, o)
unfolding ranged_of ranged_from
ranged_of-read text p o spelled =
    let place : position_or_len (λ b. b == caret) (spelled.before ++ spelled.rest)
    ≡ length spelled.before =
    place_after caret spelled.before spelled.rest (lacks-prefix _ p spelled.first)
    (begins _ o spelled.second) in
    let before : before_first (λ b. b == caret) (spelled.before ++ spelled.rest) ≡ spelled.before =
    take_at spelled.before spelled.rest _ (sym place) in
    let rest : from_first caret (spelled.before ++ spelled.rest) ≡ spelled.rest =
    drop_at spelled.before spelled.rest _ (sym place) in
    let at_prefix : prefix_of spelled.before ≡ Some p = prefix_of-read _ p spelled.first in
    let at_operator : operator_of spelled.rest ≡ Some o = operator_of-read _ o spelled.second in
    rw (spelled.spelled, before, rest, at_prefix, at_operator) refl

-- the text of a range spells its prefix and its operator
pub IsRanged-text : (r : RangeParts) → IsRange r → IsRanged (range_text r) r.prefix (operator_for r)
unfolding range_text
IsRanged-text r is = record {
  before = prefix_text r.prefix;
  rest = operator_text (operator_for r);
  spelled = refl;
  first = IsPrefix-text r.prefix is.masked;
  second = IsOperator-text (operator_for r) (IsOperatorValue-for r is);
}
