-- What a walk of a tree of prefixes lists, and the list put in order.
use Rattle.std.proofs.Common.{◌≡◌, ◌+◌, ◌<◌, Bool, true, false, cond, ◌&&◌, ◌||◌, List, []}
use Rattle.std.proofs.Common.{◌∷◌, map, length, get_or, Option, Some, None, is_some, refl, sym, ap}
use Rattle.std.proofs.Common.{◌∙◌, arith}
use Rattle.std.proofs.lemmas.List.{get_or-map, length-map}
use Rattle.std.specs.List.{list_any, dedup, dedup_from}
use Rattle.std.specs.List.Sorted.{IsSorted, IsSortedByKey}
use Rattle.std.specs.Option.{option_or}
use Rattle.std.specs.Ordering.{eq_by_cmp, is_lt}
use Rattle.rr_number.specs.Prefixes.{PrefixParts, span_of}
use Rattle.rr_number.specs.Spans.{Ends, covers, span_cmp}
use Rattle.rr_cover.specs.PrefixTrees.{IsFork, IsTree}
use Rattle.rr_cover.specs.TreeParts.{own, standing, is_listed}
use Rattle.rr_cover.specs.declared.prefix_tree.Tree.{Tree}
use Rattle.rr_cover.proofs.Ties.{tied_same}
use Rattle.rr_cover.proofs.Ordered.{span_eq}
use Rattle.rr_cover.proofs.TreeHeld.{MadeOf, no_cover_root}

-- a span is among the spans of prefixes where it is that of one
pub listed_spans : (ps : List PrefixParts) (u : Ends) → list_any (eq_by_cmp span_cmp u)
    (map span_of ps) ≡ is_listed ps u
listed_spans [] u = refl
listed_spans (p ∷ ps) u = ap (λ b. eq_by_cmp span_cmp u (span_of p) || b) (listed_spans ps u)

abbrev pub same_span : PrefixParts → PrefixParts → Bool
same_span p q = span_eq (span_of p) (span_of q)

from_spans : (p : PrefixParts) (ps : List PrefixParts) → map span_of (dedup_from same_span p ps)
    ≡ dedup_from span_eq (span_of p) (map span_of ps)
from_spans p [] = refl
from_spans p (q ∷ ps) = either (same_span q p) (from_spans p ps) (from_spans q ps)
  where
    either : (b : Bool) → map span_of (dedup_from same_span p ps) ≡ dedup_from span_eq (span_of p)
        (map span_of ps) → map span_of (dedup_from same_span q ps) ≡ dedup_from span_eq (span_of q)
        (map span_of ps) →
        map span_of (cond b (dedup_from same_span p ps) (p ∷ dedup_from same_span q ps))
        ≡ cond b (dedup_from span_eq (span_of p) (map span_of ps))
        (span_of p ∷ dedup_from span_eq (span_of q) (map span_of ps))
    either true rest next = rest
    either false rest next = ap (λ l. span_of p ∷ l) next

-- without repeats the spans are those without repeats
pub deduped_spans : (ps : List PrefixParts) → map span_of (dedup same_span ps) ≡ dedup span_eq
    (map span_of ps)
deduped_spans [] = refl
deduped_spans (p ∷ ps) = from_spans p ps

-- prefixes in order of their spans have their spans in order
pub sorted_spans : (ps : List PrefixParts) → IsSortedByKey span_of span_cmp ps →
    IsSorted span_cmp (map span_of ps)
sorted_spans ps sorted k d from within =
    let some : PrefixParts = record { address = 0; length = 0 } in
    let count : length (map span_of ps) ≡ length ps = length-map ps span_of in
    let there : k + 1 < length ps = rw (← count) within in
    let second : get_or (map span_of ps) (k + 1) d ≡ span_of (get_or ps (k + 1) some) =
    get_or-map span_of ps (k + 1) some d there in
    let first : get_or (map span_of ps) k d ≡ span_of (get_or ps k some) = get_or-map span_of ps k
    some d (omega (arith, there)) in
    ap (λ t. is_lt (span_cmp t (get_or (map span_of ps) k d))) second
    ∙ ap (λ t. is_lt (span_cmp (span_of (get_or ps (k + 1) some)) t)) first
    ∙ sorted k some from there

both_walked : (old has low high test : Bool) →
    (((old || (has && test)) || (low && test)) || (high && test))
    ≡ (old || ((has || (low || high)) && test))
both_walked true has low high test = refl
both_walked false true low high true = refl
both_walked false true true true false = refl
both_walked false true true false false = refl
both_walked false true false true false = refl
both_walked false true false false false = refl
both_walked false false true high true = refl
both_walked false false true true false = refl
both_walked false false true false false = refl
both_walked false false false high test = refl

walked : (old tied has wanted low high test : Bool) → (tied ≡ true → wanted ≡ (has && test)) →
    (((old || (tied && wanted)) || (low && test)) || (high && test))
    ≡ (old || (((tied && has) || (low || high)) && test))
walked old true has wanted low high test is =
    ap (λ w. ((old || w) || (low && test)) || (high && test)) (is refl) ∙ both_walked old has low
    high test
walked old false has wanted low high test is = both_walked old false low high test

pub and_test : (a b : Bool) → b ≡ true → a ≡ (a && b)
and_test true b is = sym is
and_test false b is = refl

or_false : (b : Bool) → b ≡ (b || false)
or_false true = refl
or_false false = refl

and_none : (a b : Bool) → (a ≡ true → b ≡ false) → (a && b) ≡ false
and_none true b none = none refl
and_none false b none = refl

module _ {T : Type 0} where
  some_in : (a b c : Option T) → is_some (option_or a (option_or b c))
      ≡ (is_some a || (is_some b || is_some c))
  some_in (Some x) b c = refl
  some_in None (Some x) c = refl
  some_in None None c = refl

  some_own : (t : Bool) (value : Option T) → is_some (cond t value None) ≡ (t && is_some value)
  some_own true value = refl
  some_own false value = refl

  module _ (tree : Tree T) (prefix : PrefixParts) (value : Option T) (lower upper : Tree T)
      (made : MadeOf tree prefix value lower upper) where
    held_parts : (u : Ends) → is_some (standing tree u)
        ≡ ((eq_by_cmp span_cmp u (span_of prefix) && is_some value) ||
        (is_some (standing lower u) || is_some (standing upper u)))
    held_parts u =
        ap is_some (made.all u)
        ∙ some_in (own prefix value u) (standing lower u) (standing upper u)
        ∙ ap (λ b. b || (is_some (standing lower u) || is_some (standing upper u)))
        (some_own (eq_by_cmp span_cmp u (span_of prefix)) value)

    -- the root and then both sides listed
    pub listed_all : (u : Ends) (old wanted test : Bool) →
        (u ≡ span_of prefix → wanted ≡ (is_some value && test)) →
        (((old || (eq_by_cmp span_cmp u (span_of prefix) && wanted)) ||
        (is_some (standing lower u) && test)) || (is_some (standing upper u) && test))
        ≡ (old || (is_some (standing tree u) && test))
    listed_all u old wanted test is =
        walked old (eq_by_cmp span_cmp u (span_of prefix)) (is_some value) wanted
        (is_some (standing lower u)) (is_some (standing upper u)) test
        (λ tied. is (tied_same u (span_of prefix) tied))
        ∙ ap (λ b. old || (b && test)) (sym (held_parts u))

    -- nothing covers what the root does not cover
    pub none_covering : IsFork prefix lower upper × (IsTree lower × IsTree upper) → (s u : Ends)
        (old : Bool) → covers (span_of prefix) s ≡ false →
        old ≡ (old || (is_some (standing tree u) && covers u s))
    none_covering is s u old apart =
        let none = no_cover_root tree prefix value lower upper made is s apart in
        or_false old ∙ ap (λ b. old || b)
        (sym (and_none (is_some (standing tree u)) (covers u s) (λ held. none.none u held)))
