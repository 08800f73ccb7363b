-- A tree of prefixes as the map that it holds.
use Rattle.std.proofs.Common.{◌≡◌, Bool, true, false, cond, ◌++◌, Option, Some, None, is_some, refl}
use Rattle.std.proofs.Common.{sym, ap, ◌∙◌}
use Rattle.std.specs.FinMap.{contains_key, find, insert, remove, get-from_entries}
use Rattle.std.specs.Option.{option_or}
use Rattle.std.specs.Ordering.{eq_by_cmp}
use Rattle.rr_number.specs.Prefixes.{PrefixParts, span_of}
use Rattle.rr_number.specs.Spans.{Ends, crosses, span_cmp}
use Rattle.rr_number.proofs.SpanOrder.{span_cmp_total}
use Rattle.rr_number.proofs.PrefixSpans.{never_cross}
use Rattle.rr_cover.specs.SpanMaps.{NoneCross, IsClosest, NoneCovers}
use Rattle.rr_cover.specs.PrefixTrees.{own_entry, entries_of, held_by, IsTree}
use Rattle.rr_cover.specs.TreeParts.{own, standing, IsSmallestCover, NoCover}
use Rattle.rr_cover.specs.declared.prefix_tree.Tree.{Tree}
use Rattle.rr_cover.specs.declared.prefix_tree.Tree.TheVariants.{Empty, Fork'}
use Rattle.rr_cover.proofs.NestModel.{find_both}
use Rattle.rr_cover.proofs.Ordered.{Answers, map_inserted, map_removed}
use Rattle.rr_cover.proofs.TreeHeld.{held_placed}

module _ {T : Type 0} where
  same_either : (b : Bool) (o : Option T) → cond b o o ≡ o
  same_either true o = refl
  same_either false o = refl

  find_own : (prefix : PrefixParts) (value : Option T) (s : Ends) →
      find span_cmp s (own_entry prefix value) ≡ own prefix value s
  find_own prefix None s = sym (same_either (eq_by_cmp span_cmp s (span_of prefix)) None)
  find_own prefix (Some value) s = refl

  find_standing : (tree : Tree T) (s : Ends) → find span_cmp s (entries_of tree) ≡ standing tree s
  find_standing Empty s = refl
  find_standing (Fork' p prefix value lower upper) s =
      find_both s (own_entry prefix value) (entries_of lower ++ entries_of upper)
      ∙ ap (λ o. option_or o (find span_cmp s (entries_of lower ++ entries_of upper)))
      (find_own prefix value s)
      ∙ ap (option_or (own prefix value s)) (find_both s (entries_of lower) (entries_of upper)
      ∙ ap (λ o. option_or o (find span_cmp s (entries_of upper))) (find_standing lower s)
      ∙ ap (option_or (standing lower s)) (find_standing upper s))

  -- what stands in the tree stands in its map
  pub tree_answers : (tree : Tree T) → Answers (held_by tree) (standing tree)
  tree_answers tree = record {
    all = λ s. get-from_entries span_cmp_total (entries_of tree) s
        ∙ find_standing tree s;
  }

  pub held_map : (tree : Tree T) (s : Ends) → contains_key (held_by tree) s ≡ is_some
      (standing tree s)
  held_map tree s = ap is_some ((tree_answers tree).all s)

  -- prefixes never cross
  pub apart_tree : (tree : Tree T) → IsTree tree → NoneCross (held_by tree)
  apart_tree tree is = record {
    apart = λ s t in_s in_t.
        let one = held_placed tree is s (sym (held_map tree s) ∙ in_s) in
        let other = held_placed tree is t (sym (held_map tree t) ∙ in_t) in
        ap (λ u. crosses u t) one.is ∙ ap (crosses (span_of one.prefix)) other.is ∙ never_cross
        one.prefix other.prefix one.masked other.masked;
  }

  -- the smallest cover in the tree is the closest span of its map
  pub closest_tree : (tree : Tree T) (s t : Ends) (v : T) → IsSmallestCover tree s t v →
      IsClosest (held_by tree) s t v
  closest_tree tree s t v cover = record {
    held = (tree_answers tree).all t ∙ cover.held;
    above = cover.above;
    least = λ u held over. cover.least u (sym (held_map tree u) ∙ held) over;
  }

  pub none_tree : (tree : Tree T) (s : Ends) → NoCover tree s → NoneCovers (held_by tree) s
  none_tree tree s none = record { none = λ t held. none.none t (sym (held_map tree t) ∙ held) }

  -- the tree with another value, or without one, holds the map so changed
  pub tree_inserted : (old new : Tree T) (k : Ends) (v : T) →
      ((s : Ends) → standing new s ≡ cond (eq_by_cmp span_cmp s k) (Some v) (standing old s)) →
      held_by new ≡ insert (held_by old) k v
  tree_inserted old new k v changed = map_inserted (held_by old) (held_by new) (standing old)
      (standing new) k v (tree_answers old) (tree_answers new) changed

  pub tree_removed : (old new : Tree T) (k : Ends) →
      ((s : Ends) → standing new s ≡ cond (eq_by_cmp span_cmp s k) None (standing old s)) →
      held_by new ≡ remove (held_by old) k
  tree_removed old new k changed = map_removed (held_by old) (held_by new) (standing old)
      (standing new) k (tree_answers old) (tree_answers new) changed
