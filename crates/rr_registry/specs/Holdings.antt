-- Who holds a prefix, and what is theirs in a registry (profile, from RFC 2725, 9: who is asked for
-- what lies below).
use Rattle.std.specs.Prelude.{◌≡◌, ℕ, Bool, true, false, not, ◌==◌, ◌&&◌, ◌||◌}
use Rattle.std.specs.Prelude.{List, [], ◌∷◌, Some, is_some}
use Rattle.std.specs.List.{list_any, list_all}
use Rattle.std.specs.Option.{option_map_or}
use Rattle.std.specs.Str.{bytes_eq}
use Rattle.std.specs.FinMap.{get}
use Rattle.rr_number.specs.AsNumbers.{as_number_of}
use Rattle.rr_number.specs.Prefixes.{PrefixParts, span_of}
use Rattle.rr_number.specs.SetNames.{components}
use Rattle.rr_number.specs.Spans.{Ends, covers}
use Rattle.rr_object.specs.declared.key.Key.{Key}
use Rattle.rr_object.specs.declared.key.Key.TheVariants.{Mntner, AsBlock, AutNum, Inetnum, Route}
use Rattle.rr_object.specs.declared.key.Key.TheVariants.{AsSet, RouteSet}
use Rattle.rr_object.specs.Objects.{Obj, names_of}
use Rattle.rr_auth.specs.declared.item.Item.{Item}
use Rattle.rr_auth.specs.declared.item.Item.TheVariants.{Submit, Delete}
use Rattle.rr_auth.specs.Closest.{same_prefix}
use Rattle.rr_auth.specs.Passing.{names_pass}
use Rattle.rr_auth.specs.Registries.{Reg}

-- A prefix, the names of the maintainers that hold it, and their AS numbers.
pub record Holding : Type 0 where
  pub prefix : PrefixParts
  pub holders : List (List ℕ)
  pub numbers : List ℕ

-- The addresses that are held.
abbrev pub space_of : Holding → Ends
space_of h = span_of h.prefix

-- The name is that of a holder.
abbrev pub is_holder : Holding → List ℕ → Bool
is_holder h name = list_any (bytes_eq name) h.holders

-- The AS number is one of the holders'.
abbrev pub has_number : Holding → ℕ → Bool
has_number h n = list_any (λ m. n == m) h.numbers

-- Of several components the first is one of the holders' AS numbers.
abbrev pub begins_with_number : Holding → List (List ℕ) → Bool
begins_with_number h [] = false
begins_with_number h (c ∷ []) = false
begins_with_number h (c ∷ d ∷ ds) = option_map_or (has_number h) (as_number_of c) false

-- A set stands under an AS of the holders where its name has several components, of which the first
-- is that AS number.
abbrev pub is_under : Holding → List ℕ → Bool
is_under h name = begins_with_number h (components name)

-- What is held: the mntners of the holders, their aut-nums, the inetnums and routes inside the
-- prefix, and the sets under their ASes.
abbrev pub is_held : Holding → Key → Bool
is_held h (Mntner name) = is_holder h name
is_held h (AsBlock s) = false
is_held h (AutNum n) = has_number h n
is_held h (Inetnum s) = covers (space_of h) s
is_held h (Route p n) = covers (space_of h) (span_of p)
is_held h (AsSet name) = is_under h name
is_held h (RouteSet name) = is_under h name

-- The key is that of a mntner.
abbrev pub is_mntner : Key → Bool
is_mntner (Mntner name) = true
is_mntner _ = false

-- An object names holders alone in mnt-by, and, where it is not a mntner, in mnt-lower and
-- mnt-routes.
abbrev pub names_holders : Holding → Key → Obj → Bool
names_holders h k o =
    list_all (is_holder h) o.maintainers
    && (is_mntner k
    || (list_all (is_holder h) o.lower && list_all (λ g. is_holder h g.name) o.routes))

-- The prefix is held in a registry: the holders are registered, and so are the aut-nums of their AS
-- numbers, and an inetnum and a route of exactly the prefix. All that is held names holders alone.
pub record IsHeld (h : Holding) (r : Reg) : Type 0 where
  pub registered : (name : List ℕ) → is_holder h name ≡ true
      → is_some (get r (Mntner name)) ≡ true
  pub space : is_some (get r (Inetnum (space_of h))) ≡ true
  pub origin : ℕ
  pub routed : is_some (get r (Route h.prefix origin)) ≡ true
  pub numbered : (n : ℕ) → has_number h n ≡ true → is_some (get r (AutNum n)) ≡ true
  pub theirs : (k : Key) (o : Obj) → is_held h k ≡ true → get r k ≡ Some o
      → names_holders h k o ≡ true

-- Two registries agree on what is held.
abbrev pub Agree : Holding → Reg → Reg → Type 0
Agree h r q = (k : Key) → is_held h k ≡ true → get r k ≡ get q k

-- An item is foreign where no secret given with it fits a mntner of the holders.
abbrev pub is_foreign : Holding → Reg → List (List ℕ) → Bool
is_foreign h r secrets = not (names_pass r secrets h.holders)

-- The key is that of an inetnum inside the prefix, of a route inside it with an origin of the
-- holders, or of a set under their ASes.
abbrev pub is_within : Holding → Key → Bool
is_within h (Inetnum s) = covers (space_of h) s
is_within h (Route p n) = covers (space_of h) (span_of p) && has_number h n
is_within h (AsSet name) = is_under h name
is_within h (RouteSet name) = is_under h name
is_within h _ = false

-- The ends of two spans are the same.
abbrev pub same_ends : Ends → Ends → Bool
same_ends s t = s.first == t.first && s.last == t.last

-- The key is that of an inetnum or a route of exactly the prefix.
abbrev pub is_whole : Holding → Key → Bool
is_whole h (Inetnum s) = same_ends s (space_of h)
is_whole h (Route p n) = same_prefix p h.prefix
is_whole h _ = false

-- An item is the holders' own where it is about an inetnum inside the prefix, a route inside it
-- with an origin of theirs, or a set under their ASes. An object that is submitted names holders
-- alone, and what is deleted is no inetnum and no route of exactly the prefix.
abbrev pub is_own : Holding → Item → Bool
is_own h (Submit o) = is_within h o.key && list_all (is_holder h) (names_of o)
is_own h (Delete k) = is_within h k && not (is_whole h k)
