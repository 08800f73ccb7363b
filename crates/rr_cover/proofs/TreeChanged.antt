-- A tree of prefixes with another value at its root, or with another side.
use Rattle.std.proofs.Common.{◌≡◌, ◌≤◌, Bool, true, false, cond, Option, Some, None, refl, sym, ap}
use Rattle.std.proofs.Common.{subst, ◌∙◌}
use Rattle.std.specs.Option.{option_or}
use Rattle.std.specs.Ordering.{eq_by_cmp}
use Rattle.rr_number.specs.Prefixes.{PrefixParts, span_of}
use Rattle.rr_number.specs.Spans.{Ends, span_cmp}
use Rattle.rr_cover.specs.PrefixTrees.{in_upper, lies_on, IsRootedOn, IsFork, IsTree}
use Rattle.rr_cover.specs.TreeParts.{own, standing, is_idle, only_side}
use Rattle.rr_cover.specs.declared.prefix_tree.Tree.{Tree}
use Rattle.rr_cover.specs.declared.prefix_tree.Tree.TheVariants.{Empty, Fork'}
use Rattle.rr_cover.proofs.Ties.{tied_same, contradicted}
use Rattle.rr_cover.proofs.TreeHeld.{MadeOf, own_other, none_of, or_none, in_low, in_high, not_root}
use Rattle.rr_cover.proofs.TreeHeld.{none_lower, none_upper}

module _ {T : Type 0} where
  module _ (tree : Tree T) (prefix : PrefixParts) (value : Option T) (lower upper : Tree T)
      (made : MadeOf tree prefix value lower upper) (is : IsFork prefix lower upper
      × (IsTree lower × IsTree upper)) where
    nothing_else : (o low high : Option T) → low ≡ None → high ≡ None →
        option_or o (option_or low high) ≡ o
    nothing_else o low high is_low is_high = ap (λ x. option_or o (option_or x high)) is_low
        ∙ ap (option_or o) is_high ∙ or_none o

    root_case : (k : Ends) (o : Option T) → k ≡ span_of prefix → (s : Ends) (b : Bool) →
        eq_by_cmp span_cmp s k ≡ b → option_or (cond b o None)
        (option_or (standing lower s) (standing upper s)) ≡ cond b o
        (option_or (cond b value None) (option_or (standing lower s) (standing upper s)))
    root_case k o same s true tied =
        let own_span : s ≡ span_of prefix = tied_same s k tied ∙ same in
        nothing_else o (standing lower s) (standing upper s)
        (none_of (standing lower s) (λ low. not_root tree prefix value lower upper made is false s
        (in_low tree prefix value lower upper made is s low) own_span))
        (none_of (standing upper s) (λ high. not_root tree prefix value lower upper made is true s
        (in_high tree prefix value lower upper made is s high) own_span))
    root_case k o same s false tied = refl

    -- the root with another value, or with none
    pub changed_root : (k : Ends) (o : Option T) → k ≡ span_of prefix → (s : Ends) →
        option_or (own prefix o s) (option_or (standing lower s) (standing upper s))
        ≡ cond (eq_by_cmp span_cmp s k) o (standing tree s)
    changed_root k o same s =
        let tests : eq_by_cmp span_cmp s (span_of prefix) ≡ eq_by_cmp span_cmp s k =
        ap (eq_by_cmp span_cmp s) (sym same) in
        ap (λ b. option_or (cond b o None) (option_or (standing lower s) (standing upper s))) tests
        ∙ root_case k o same s (eq_by_cmp span_cmp s k) refl
        ∙ ap (cond (eq_by_cmp span_cmp s k) o)
        (sym
        (made.all s
        ∙ ap (λ b. option_or (cond b value None)
        (option_or (standing lower s) (standing upper s))) tests))

    upper_case : (k : Ends) (o : Option T) (new : Tree T) → k.first ≤ k.last → in_upper prefix k
        ≡ true → (s : Ends) (b : Bool) → eq_by_cmp span_cmp s k ≡ b → standing new s ≡ cond b o
        (standing upper s) → option_or (own prefix value s)
        (option_or (standing lower s) (standing new s)) ≡ cond b o (standing tree s)
    upper_case k o new some lies s true tied stands =
        let same : s ≡ k = tied_same s k tied in
        let there : lies_on prefix true s ≡ true = ap (in_upper prefix) same ∙ lies in
        ap (λ x. option_or x (option_or (standing lower s) (standing new s)))
        (own_other prefix value s (eq_by_cmp span_cmp s (span_of prefix)) refl
        (not_root tree prefix value lower upper made is true s there))
        ∙ ap (λ x. option_or x (standing new s)) (none_lower tree prefix value lower upper made is
        s (subst (λ (t : Ends). t.first ≤ t.last) (sym same) some) there)
        ∙ stands
    upper_case k o new some lies s false tied stands =
        ap (λ x. option_or (own prefix value s) (option_or (standing lower s) x)) stands
        ∙ sym (made.all s)

    -- the upper side changed at a span of the upper half
    pub changed_upper : (k : Ends) (o : Option T) (new : Tree T) → k.first ≤ k.last →
        in_upper prefix k ≡ true → ((s : Ends) → standing new s ≡ cond (eq_by_cmp span_cmp s k) o
        (standing upper s)) → (s : Ends) → option_or (own prefix value s)
        (option_or (standing lower s) (standing new s)) ≡ cond (eq_by_cmp span_cmp s k) o
        (standing tree s)
    changed_upper k o new some lies changed s = upper_case k o new some lies s
        (eq_by_cmp span_cmp s k) refl (changed s)

    lower_case : (k : Ends) (o : Option T) (new : Tree T) → eq_by_cmp span_cmp k (span_of prefix)
        ≡ false → in_upper prefix k ≡ false → (s : Ends) (b : Bool) → eq_by_cmp span_cmp s k ≡ b →
        standing new s ≡ cond b o (standing lower s) → option_or (own prefix value s)
        (option_or (standing new s) (standing upper s)) ≡ cond b o (standing tree s)
    lower_case k o new apart lies s true tied stands =
        let same : s ≡ k = tied_same s k tied in
        ap (λ x. option_or x (option_or (standing new s) (standing upper s)))
        (ap (λ b. cond b value None) (ap (λ t. eq_by_cmp span_cmp t (span_of prefix)) same
        ∙ apart))
        ∙ ap (option_or (standing new s)) (none_upper tree prefix value lower upper made is s
        (ap (in_upper prefix) same ∙ lies))
        ∙ or_none (standing new s)
        ∙ stands
    lower_case k o new apart lies s false tied stands =
        ap (λ x. option_or (own prefix value s) (option_or x (standing upper s))) stands
        ∙ sym (made.all s)

    -- the lower side changed at another span than the root's, outside the upper half
    pub changed_lower : (k : Ends) (o : Option T) (new : Tree T) → eq_by_cmp span_cmp k
        (span_of prefix) ≡ false → in_upper prefix k ≡ false →
        ((s : Ends) → standing new s ≡ cond (eq_by_cmp span_cmp s k) o (standing lower s)) →
        (s : Ends) → option_or (own prefix value s) (option_or (standing new s) (standing upper s))
        ≡ cond (eq_by_cmp span_cmp s k) o (standing tree s)
    changed_lower k o new apart lies changed s = lower_case k o new apart lies s
        (eq_by_cmp span_cmp s k) refl (changed s)

  -- a node with another side whose root lies in the same half
  pub fork_upper : (prefix : PrefixParts) (lower upper new : Tree T) → IsFork prefix lower upper
      × (IsTree lower × IsTree upper) → IsRootedOn prefix true new → IsTree new →
      IsFork prefix lower new × (IsTree lower × IsTree new)
  fork_upper prefix lower upper new is rooted order =
      (record { masked = is.0.masked; low = is.0.low; high = rooted }, (is.1.0, order))

  pub fork_lower : (prefix : PrefixParts) (lower upper new : Tree T) → IsFork prefix lower upper
      × (IsTree lower × IsTree upper) → IsRootedOn prefix false new → IsTree new →
      IsFork prefix new upper × (IsTree new × IsTree upper)
  fork_lower prefix lower upper new is rooted order =
      (record { masked = is.0.masked; low = rooted; high = is.0.high }, (order, is.1.1))

  pub same_either : (b : Bool) (o : Option T) → cond b o o ≡ o
  same_either true o = refl
  same_either false o = refl

  -- where the root is idle, its one side holds all
  pub idle_all : (prefix : PrefixParts) (value : Option T) (lower upper : Tree T) (s : Ends) →
      is_idle value lower upper ≡ true → standing (only_side lower upper) s ≡ option_or
      (own prefix value s) (option_or (standing lower s) (standing upper s))
  idle_all prefix (Some x) lower upper s idle = absurd (contradicted _ refl idle)
  idle_all prefix None Empty upper s idle =
      sym (ap (λ o. option_or o (standing upper s))
      (same_either (eq_by_cmp span_cmp s (span_of prefix)) None))
  idle_all prefix None (Fork' a p value low high) Empty s idle =
      let lower : Tree T = Fork' a p value low high in
      sym (ap (λ o. option_or o (option_or (standing lower s) None))
      (same_either (eq_by_cmp span_cmp s (span_of prefix)) None) ∙ or_none (standing lower s))
  idle_all prefix None (Fork' a p value low high) (Fork' b q other first last) s idle =
      absurd (contradicted _ refl idle)
