-- A search tree of spans as the map that it holds.
use Rattle.std.proofs.Common.{◌≡◌, ◌+◌, ◌<◌, ◌≤◌, Bool, true, false, cond, ◌⊎◌, inl, inr, List, []}
use Rattle.std.proofs.Common.{◌∷◌, ◌++◌, Option, Some, None, is_some, refl, sym, ap, ◌∙◌, arith}
use Rattle.std.proofs.lemmas.Bool.Decides.{nat_tests}
use Rattle.std.specs.FinMap.{contains_key, find, insert, remove, get-from_entries}
use Rattle.std.specs.Option.{option_or, IfSome, IfNone, MatchOption}
use Rattle.std.specs.Ordering.{eq_by_cmp}
use Rattle.rr_number.specs.Spans.{Ends, IsSpan, covers, crosses, size, span_cmp}
use Rattle.rr_number.proofs.SpanOrder.{span_cmp_total}
use Rattle.rr_cover.specs.SpanMaps.{NoneCross, IsClosest, NoneCovers, crosses_some}
use Rattle.rr_cover.specs.SpanNests.{is_ahead, at_span, standing, entries_of, nested, HasNoCrossing}
use Rattle.rr_cover.specs.SpanNests.{IsNest, IsSound}
use Rattle.rr_cover.specs.NestParts.{IsLastReaching, NoneReaches, SomeCrosses, NoneCrosses}
use Rattle.rr_cover.specs.declared.span_nest.Nest.{Nest}
use Rattle.rr_cover.specs.declared.span_nest.Nest.TheVariants.{Empty, Fork'}
use Rattle.rr_cover.proofs.Ties.{tied_same, contradicted}
use Rattle.rr_cover.proofs.Ordered.{Answers, map_inserted, map_removed, crosses_found}
use Rattle.rr_cover.proofs.Ordered.{crosses_missed, crosses_none, crosses_itself, crosses_swapped}

smaller : (s t u : Ends) → IsSpan s → t.first < s.first + 1 → s.last ≤ t.last → covers u s ≡ true →
    crosses t u ≡ false → is_ahead t u ≡ false → size t ≤ size u
smaller s t u is begins reaches over apart later =
    let some : s.first ≤ s.last = is.ordered in
    grind (arith, nat_tests)

covered : (s t : Ends) → t.first < s.first + 1 → s.last ≤ t.last → covers t s ≡ true
covered s t begins reaches = grind (arith, nat_tests)

begins_over : (s u : Ends) → covers u s ≡ true → (u.first < s.first + 1) × (s.last ≤ u.last)
begins_over s u over = (grind (arith, nat_tests), grind (arith, nat_tests))

not_over : (s u : Ends) → (u.first < s.first + 1 → u.last < s.last) → (b : Bool) → covers u s ≡ b →
    b ≡ false
not_over s u short false is = refl
not_over s u short true is =
    let over = begins_over s u is in
    absurd (omega (arith, short over.0, over.1))

-- what follows where there is nothing, and what follows of what there is
pub on_either : {X : Type 0} (o : Option X) (P Q : Type 0) (R S : X → Type 0) → IfNone o P
    → IfSome o R → (P → Q) → ((x : X) → R x → S x) → MatchOption o Q S
on_either None P Q R S none some without within = without none
on_either (Some x) P Q R S none some without within = within x some

module _ {T : Type 0} where
  this_or : (b : Bool) (own rest low high : Option T) → (v : T) × (own ≡ Some v) →
      rest ≡ option_or low high → cond b own rest ≡ option_or (cond b own low) high
  this_or true own rest low high is both = is.1 ∙ sym (ap (λ o. option_or o high) is.1)
  this_or false own rest low high is both = both

  pub find_both : (s : Ends) (es fs : List (Ends × T)) → find span_cmp s (es ++ fs) ≡ option_or
      (find span_cmp s es) (find span_cmp s fs)
  find_both s [] fs = refl
  find_both s (e ∷ es) fs = this_or (eq_by_cmp span_cmp s e.0) (Some e.1)
      (find span_cmp s (es ++ fs)) (find span_cmp s es) (find span_cmp s fs) (e.1, refl)
      (find_both s es fs)

  first_of : (b : Bool) (v : T) (rest : Option T) → cond b (Some v) rest ≡ option_or
      (cond b (Some v) None) rest
  first_of true v rest = refl
  first_of false v rest = refl

  find_standing : (nest : Nest T) (s : Ends) → find span_cmp s (entries_of nest) ≡ standing nest s
  find_standing Empty s = refl
  find_standing (Fork' p span value height bounds before after) s =
      find_both s (entries_of before) ((span, value) ∷ entries_of after)
      ∙ ap (λ o. option_or o (find span_cmp s ((span, value) ∷ entries_of after)))
      (find_standing before s)
      ∙ ap (option_or (standing before s)) (first_of (eq_by_cmp span_cmp s span) value
      (find span_cmp s (entries_of after)) ∙ ap (option_or (at_span span value s))
      (find_standing after s))

  -- what stands in the tree stands in its map
  pub nest_answers : (nest : Nest T) → Answers (nested nest) (standing nest)
  nest_answers nest = record {
    all = λ s. get-from_entries span_cmp_total (entries_of nest) s
        ∙ find_standing nest s;
  }

  pub held_nested : (nest : Nest T) (s : Ends) → contains_key (nested nest) s ≡ is_some
      (standing nest s)
  held_nested nest s = ap is_some ((nest_answers nest).all s)

  pub apart_nested : (nest : Nest T) → HasNoCrossing nest → NoneCross (nested nest)
  apart_nested nest apart =
      record {
        apart = λ s t in_s in_t. apart.apart s t (sym (held_nested nest s) ∙ in_s)
            (sym (held_nested nest t) ∙ in_t);
      }

  -- the last in order of the spans that cover s is the closest
  pub closest_last : (nest : Nest T) (s t : Ends) (v : T) → HasNoCrossing nest → IsSpan s →
      IsLastReaching nest (s.first + 1) s.last t v → IsClosest (nested nest) s t v
  closest_last nest s t v apart is last = record {
    held = (nest_answers nest).all t ∙ last.held;
    above = covered s t last.begins last.reaches;
    least = λ u held over.
        let there : is_some (standing nest u) ≡ true = sym (held_nested nest u) ∙ held in
        let begins = begins_over s u over in
        smaller s t u is last.begins last.reaches over (apart.apart t u (ap is_some last.held)
        there) (last.last u there begins.0 begins.1);
  }

  -- the test for a crossing span tells what the map's does
  pub crosses_is : (nest : Nest T) (s : Ends) (r : Bool) → (r ≡ true → SomeCrosses nest s) →
      (r ≡ false → NoneCrosses nest s) → r ≡ crosses_some (nested nest) s
  crosses_is nest s true some none =
      let found = some refl in
      sym (crosses_found (nested nest) s found.span (held_nested nest found.span ∙ found.held)
      found.crossing)
  crosses_is nest s false some none =
      sym
      (crosses_missed (nested nest) s
      (λ t held. (none refl).none t (sym (held_nested nest t) ∙ held)))

  -- the tree with another value, or without one, holds the map so changed, and stays sound
  pub nested_inserted : (old new : Nest T) (k : Ends) (v : T) →
      ((s : Ends) → standing new s ≡ cond (eq_by_cmp span_cmp s k) (Some v) (standing old s)) →
      nested new ≡ insert (nested old) k v
  nested_inserted old new k v changed = map_inserted (nested old) (nested new) (standing old)
      (standing new) k v (nest_answers old) (nest_answers new) changed

  pub nested_removed : (old new : Nest T) (k : Ends) →
      ((s : Ends) → standing new s ≡ cond (eq_by_cmp span_cmp s k) None (standing old s)) →
      nested new ≡ remove (nested old) k
  nested_removed old new k changed = map_removed (nested old) (nested new) (standing old)
      (standing new) k (nest_answers old) (nest_answers new) changed

  still_held : (old : Option T) (s k : Ends) (b : Bool) → eq_by_cmp span_cmp s k ≡ b →
      is_some (cond b None old) ≡ true → is_some old ≡ true
  still_held old s k true tied held = absurd (contradicted _ refl held)
  still_held old s k false tied held = held

  pub sound_removed : (old new : Nest T) (k : Ends) → IsSound old → IsNest new →
      ((s : Ends) → standing new s ≡ cond (eq_by_cmp span_cmp s k) None (standing old s)) →
      IsSound new
  sound_removed old new k sound order changed = record {
    order = order;
    apart = record { apart = λ s t in_s in_t. sound.apart.apart s t (there s in_s) (there t in_t) };
  }
    where
      there : (s : Ends) → is_some (standing new s) ≡ true → is_some (standing old s) ≡ true
      there s held = still_held (standing old s) s k (eq_by_cmp span_cmp s k) refl
          (sym (ap is_some (changed s)) ∙ held)

  now_held : (old : Option T) (v : T) (s k : Ends) (b : Bool) → eq_by_cmp span_cmp s k ≡ b →
      is_some (cond b (Some v) old) ≡ true → (s ≡ k) ⊎ (is_some old ≡ true)
  now_held old v s k true tied held = inl (tied_same s k tied)
  now_held old v s k false tied held = inr held

  pub sound_inserted : (old new : Nest T) (k : Ends) (v : T) → IsSound old → IsNest new →
      ((s : Ends) → standing new s ≡ cond (eq_by_cmp span_cmp s k) (Some v) (standing old s)) →
      crosses_some (nested old) k ≡ false → IsSound new
  sound_inserted old new k v sound order changed none =
      record { order = order; apart = record { apart = apart } }
    where
      there : (s : Ends) → is_some (standing new s) ≡ true → (s ≡ k)
          ⊎ (is_some (standing old s) ≡ true)
      there s held = now_held (standing old s) v s k (eq_by_cmp span_cmp s k) refl
          (sym (ap is_some (changed s)) ∙ held)

      beside : (s : Ends) → is_some (standing old s) ≡ true → crosses s k ≡ false
      beside s held = crosses_none (nested old) k s none (held_nested old s ∙ held)

      apart : (s t : Ends) → is_some (standing new s) ≡ true → is_some (standing new t) ≡ true →
          crosses s t ≡ false
      apart s t in_s in_t =
          elim (there s in_s) [
            | inl same ↦
                elim (there t in_t) [
                  | inl other ↦ ap (λ u. crosses u t) (same ∙ sym other) ∙ crosses_itself t
                  | inr held ↦ ap (λ u. crosses u t) same ∙ crosses_swapped k t ∙ beside t held
                ]
            | inr old_s ↦
                elim (there t in_t) [
                  | inl other ↦ ap (crosses s) other ∙ beside s old_s
                  | inr held ↦ sound.apart.apart s t old_s held
                ]
          ]

  pub closest_none : (nest : Nest T) (s : Ends) → NoneReaches nest (s.first + 1) s.last →
      NoneCovers (nested nest) s
  closest_none nest s none = record {
    none = λ u held.
        let there : is_some (standing nest u) ≡ true = sym (held_nested nest u) ∙ held in
        not_over s u (none.none u there) (covers u s) refl;
  }
