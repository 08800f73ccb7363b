-- What the private functions of a tree of prefixes answer and leave. No public contract cites
-- these.
use Rattle.std.specs.Prelude.{◌≡◌, ℕ, ◌-◌, ◌≤◌, Bool, true, false, not, ◌&&◌}
use Rattle.std.specs.Prelude.{◌||◌, if◌then◌else◌, List, Option, None, Some, Result, is_some}
use Rattle.std.specs.Prelude.{IfErr, OnOk, OnErr}
use Rattle.std.specs.List.{list_any}
use Rattle.std.specs.Option.{option_or}
use Rattle.std.specs.Ordering.{eq_by_cmp}
use Rattle.rr_number.specs.Prefixes.{PrefixParts, IsMasked, span_of}
use Rattle.rr_number.specs.Spans.{Ends, covers, size, span_cmp}
use Rattle.rr_cover.specs.PrefixTrees.{in_upper, lies_on, IsRootedOn, IsTree}
use Rattle.rr_cover.specs.declared.prefix_tree.Tree.{Tree}
use Rattle.rr_cover.specs.declared.prefix_tree.Tree.TheVariants.{Empty, Fork'}

-- What a node itself holds at a span: its value, if it has one, at the span of its prefix.
abbrev pub own : {T : Type 0} → PrefixParts → Option T → Ends → Option T
own prefix value s = if eq_by_cmp span_cmp s (span_of prefix) then value else None

-- The value that a tree holds at a span.
abbrev pub standing : {T : Type 0} → Tree T → Ends → Option T
standing Empty s = None
standing (Fork' p prefix value lower upper) s =
    option_or (own prefix value s) (option_or (standing lower s) (standing upper s))

-- A tree holds the value at the span, and at any other what another holds.
abbrev pub TreeHoldsWith : {T : Type 0} → Tree T → Ends → T → Tree T → Type 0
TreeHoldsWith old span value new =
    (s : Ends) → standing new s
    ≡ (if eq_by_cmp span_cmp s span then Some value else standing old s)

-- The side of a node on which a span would stand.
abbrev pub side_of : {T : Type 0} → PrefixParts → Tree T → Tree T → Ends → Tree T
side_of prefix lower upper s = if in_upper prefix s then upper else lower

-- The smallest span of a tree that covers s, with its value.
pub record IsSmallestCover {T : Type 0} (tree : Tree T) (s t : Ends) (value : T) : Type 0 where
  pub held : standing tree t ≡ Some value
  pub above : covers t s ≡ true
  pub least : (u : Ends) → is_some (standing tree u) ≡ true → covers u s ≡ true
      → size t ≤ size u

-- No span of a tree covers s.
pub record NoCover {T : Type 0} (tree : Tree T) (s : Ends) : Type 0 where
  pub none : (u : Ends) → is_some (standing tree u) ≡ true → covers u s ≡ false

-- The prefix at the root of a tree covers s.
abbrev pub is_above : {T : Type 0} → Tree T → Ends → Bool
is_above Empty s = false
is_above (Fork' p prefix value lower upper) s = covers (span_of prefix) s

-- Two prefixes lie in different halves of a prefix.
pub record IsParting (p a b : PrefixParts) : Type 0 where
  pub side : Bool
  pub masked : IsMasked p
  pub one : lies_on p side (span_of a) ≡ true
  pub other : lies_on p (not side) (span_of b) ≡ true

-- The root of the new tree lies in each half of a prefix in which that of the old one lay.
abbrev pub StaysRooted : {T : Type 0} → Tree T → Tree T → Type 0
StaysRooted old new =
    (p : PrefixParts) (side : Bool) → IsRootedOn p side old → IsRootedOn p side new

-- The root of the new tree lies in each half of a prefix in which that of the old one and a span
-- lay.
abbrev pub StaysRootedWith : {T : Type 0} → Ends → Tree T → Tree T → Type 0
StaysRootedWith s old new = (p : PrefixParts) (side : Bool) → IsMasked p
    → lies_on p side s ≡ true → IsRootedOn p side old → IsRootedOn p side new

-- A tree has no root.
abbrev pub is_empty : {T : Type 0} → Tree T → Bool
is_empty Empty = true
is_empty (Fork' p prefix value lower upper) = false

-- A node has no value, and prefixes on one side at most.
abbrev pub is_idle : {T : Type 0} → Option T → Tree T → Tree T → Bool
is_idle value lower upper = not (is_some value) && (is_empty lower || is_empty upper)

-- The lower side of a node, unless it is empty; then the upper one.
abbrev pub only_side : {T : Type 0} → Tree T → Tree T → Tree T
only_side Empty upper = upper
only_side (Fork' p prefix value lower upper) other = Fork' p prefix value lower upper

-- The prefix at the root of a tree.
abbrev pub root_of : {T : Type 0} → Tree T → Option PrefixParts
root_of Empty = None
root_of (Fork' p prefix value lower upper) = Some prefix

-- A list of prefixes has one with the span u.
abbrev pub is_listed : List PrefixParts → Ends → Bool
is_listed prefixes u = list_any (λ p. eq_by_cmp span_cmp u (span_of p)) prefixes

-- For how many levels there is room from the root of a tree on: one for each length from the root's
-- up to 32.
abbrev pub room : {T : Type 0} → Tree T → ℕ
room Empty = 0
room (Fork' p prefix value lower upper) = 33 - prefix.length

-- A tree holds nothing at the span, and at any other what another holds.
abbrev pub TreeHoldsWithout : {T : Type 0} → Tree T → Ends → Tree T → Type 0
TreeHoldsWithout old span new =
    (s : Ends) → standing new s ≡ (if eq_by_cmp span_cmp s span then None else standing old s)

-- A value can be put into a tree at a prefix: the tree is in order, and the prefix has at most 32
-- bits, with only zeros after them.
pub record CanPut {T : Type 0} (old : Tree T) (prefix : PrefixParts) : Type 0 where
  pub order : IsTree old
  pub masked : IsMasked prefix

-- A tree can get a new branch, if its root does not cover the branch's prefix: the tree is in
-- order, its root is at `at`, and the prefix has at most 32 bits, with only zeros after them.
pub record CanBranch {T : Type 0} (old : Tree T) (at prefix : PrefixParts) : Type 0 where
  pub tree : IsTree old
  pub root : root_of old ≡ Some at
  pub masked : IsMasked prefix

-- A tree in order has its root at a prefix, and holds the value at the span, and at any other what
-- another holds.
pub record Grows {T : Type 0} (old : Tree T) (span : Ends) (value : T) (at : PrefixParts)
    (new : Tree T) : Type 0 where
  pub all : TreeHoldsWith old span value new
  pub tree : IsTree new
  pub root : root_of new ≡ Some at

-- The value is put at the span; or nothing changes, and the value comes back. The tree is in order.
pub record PutsInTree {T X : Type 0} (old : Tree T) (span : Ends) (value : T) (new : Tree T)
    (result : Result X T) : Type 0 where
  pub all : OnOk result (TreeHoldsWith old span value new)
  pub err : OnErr result (new ≡ old)
  pub back : IfErr result (λ given. given ≡ value)
  pub tree : IsTree new

-- What stood at the span is taken out, and comes back. The tree is in order, and its root lies in
-- each half of a prefix in which it lay.
pub record TakesFromTree {T : Type 0} (old : Tree T) (span : Ends) (new : Tree T)
    (result : Option T)
    : Type 0 where
  pub value : result ≡ standing old span
  pub all : TreeHoldsWithout old span new
  pub tree : IsTree new
  pub root : StaysRooted old new
