-- A verdict is the same for lists of the same secrets.
use Rattle.std.proofs.Common.{◌≡◌, ℕ, Bool, true, false, cond, not, ◌||◌, List, [], ◌∷◌, refl, sym}
use Rattle.std.proofs.Common.{ap, ◌∙◌}
use Rattle.std.specs.Prelude.{Option, None, Some}
use Rattle.std.specs.List.{list_any}
use Rattle.std.specs.Option.{option_map_or}
use Rattle.std.specs.Str.{bytes_eq}
use Rattle.std.specs.FinMap.{get}
use Rattle.rr_number.specs.Prefixes.{PrefixParts, span_of}
use Rattle.rr_number.specs.Parents.{parent_of}
use Rattle.rr_number.specs.declared.set_kind.SetKind.{SetKind}
use Rattle.rr_number.specs.declared.set_kind.SetKind.TheVariants as kinds
use Rattle.rr_text.specs.Fields.{fields_eq}
use Rattle.rr_object.specs.declared.code.Code.TheVariants.{E10, E11, E12, E13, E14, E15, E16, E17}
use Rattle.rr_object.specs.declared.key.Key.{Key}
use Rattle.rr_object.specs.declared.key.Key.TheVariants.{Mntner, AsBlock, AutNum, Inetnum, Route}
use Rattle.rr_object.specs.declared.key.Key.TheVariants.{AsSet, RouteSet}
use Rattle.rr_object.specs.Objects.{Obj, names_of}
use Rattle.rr_auth.specs.declared.item.Item.{Item}
use Rattle.rr_auth.specs.declared.item.Item.TheVariants.{Submit, Delete as DeleteItem}
use Rattle.rr_auth.specs.declared.verdict.Verdict.TheVariants.{Add, Change, Unchanged, Delete}
use Rattle.rr_auth.specs.Authority.{lower_of, routes_of}
use Rattle.rr_auth.specs.SetParents.{parent_object, parent_refuses}
use Rattle.rr_auth.specs.Closest.{closest_inetnum, closest_block, closest_route_prefix, origins}
use Rattle.rr_auth.specs.Conditions.{names_unknown, lacks_origin, origin_refuses, is_uncovered}
use Rattle.rr_auth.specs.Conditions.{cover_refuses, space_passes, crosses_registered, is_in_use}
use Rattle.rr_auth.specs.Laws.{SameSecrets}
use Rattle.rr_auth.specs.Passing.{fits_line, names_pass}
use Rattle.rr_auth.specs.Registries.{Reg, maintainer, some_is_unknown, seen_by}
use Rattle.rr_auth.proofs.Members.{both_or_none}
use Rattle.rr_auth.specs.Verdicts.{first_of, by_place, submission, deletion, verdict}
use Rattle.std.proofs.lemmas.Slice.Eq.{bytes_eq-Decides}

-- secrets with equal bytes are equal, and each is equal to itself
texts_equal : (s t : List ℕ) → bytes_eq s t ≡ true → s ≡ t
texts_equal s t e = (bytes_eq-Decides s t).0 e

equal_texts : (s t : List ℕ) → s ≡ t → bytes_eq s t ≡ true
equal_texts s t e = (bytes_eq-Decides s t).1 e

or_later : (a b : Bool) → b ≡ true → (a || b) ≡ true
or_later true b e = refl
or_later false b e = e

-- a secret of a list that passes a test
pub passing_secret : (p : List ℕ → Bool) (secrets : List (List ℕ)) (s : List ℕ) →
    list_any (bytes_eq s) secrets ≡ true → p s ≡ true → list_any p secrets ≡ true
passing_secret p [] s m h = m
passing_secret p (x ∷ xs) s m h =
    elim (bytes_eq s x) as (λ b. bytes_eq s x ≡ b → (b || list_any (bytes_eq s) xs) ≡ true →
    (p x || list_any p xs) ≡ true) [
      | true ↦ λ e g. ap (λ b. b || list_any p xs) (sym (ap p (texts_equal s x e)) ∙ h)
      | false ↦ λ e g. or_later (p x) _ (passing_secret p xs s g h)
    ] refl m

-- some secret of the list passes the test
some_secret : (p : List ℕ → Bool) (secrets : List (List ℕ)) → list_any p secrets ≡ true →
    (s : List ℕ) × (p s ≡ true) × (list_any (bytes_eq s) secrets ≡ true)
some_secret p [] e = cc
some_secret p (x ∷ xs) e =
    elim (p x) as (λ b. p x ≡ b → (b || list_any p xs) ≡ true → (s : List ℕ) × (p s ≡ true)
    × ((bytes_eq s x || list_any (bytes_eq s) xs) ≡ true)) [
      | true ↦ λ h g. (x, h, ap (λ b. b || list_any (bytes_eq x) xs) (equal_texts x x refl))
      | false ↦ λ h g. let rest = some_secret p xs g in
          (rest.0, rest.1, or_later (bytes_eq rest.0 x) _ rest.2)
    ] refl e

carried : (p : List ℕ → Bool) (secrets others : List (List ℕ)) → SameSecrets secrets others →
    list_any p secrets ≡ true → list_any p others ≡ true
carried p secrets others s e = let found = some_secret p secrets e in passing_secret p others
    found.0 (sym (s found.0) ∙ found.2) found.1

module _ (secrets others : List (List ℕ)) (s : SameSecrets secrets others) where
  any_secret : (p : List ℕ → Bool) → list_any p secrets ≡ list_any p others
  any_secret p = both_or_none _ _ (carried p secrets others s)
      (carried p others secrets (λ x. sym (s x)))

  names_say : (r : Reg) (names : List (List ℕ)) → names_pass r secrets names ≡ names_pass r others
      names
  names_say r names = λ i.
      list_any (λ n. option_map_or (λ o. list_any (λ line. any_secret (fits_line line) i) o.auths)
      (maintainer r n) false) names

  origin_says : (r : Reg) (k : Key) → origin_refuses r secrets k ≡ origin_refuses r others k
  origin_says r (Route p n) = λ i.
      not (option_map_or (λ x. names_say r (routes_of x p) i) (get r (AutNum n)) false)
  origin_says r (Mntner n) = refl
  origin_says r (AsBlock n) = refl
  origin_says r (AutNum n) = refl
  origin_says r (Inetnum n) = refl
  origin_says r (AsSet n) = refl
  origin_says r (RouteSet n) = refl

  space_says : (r : Reg) (p : PrefixParts) (closest : Option PrefixParts) → space_passes r secrets
      p closest ≡ space_passes r others p closest
  space_says r p None = λ i. option_map_or (λ x. names_say r (routes_of x p) i)
      (closest_inetnum r (span_of p)) false
  space_says r p (Some q) = λ i. list_any (λ n. option_map_or (λ x. names_say r (routes_of x p) i)
      (get r (Route q n)) false) (origins r q)

  below_says : (r : Reg) (cover : Option Obj) →
      option_map_or (λ x. names_pass r secrets (lower_of x)) cover false ≡ option_map_or
      (λ x. names_pass r others (lower_of x)) cover false
  below_says r cover = λ i. option_map_or (λ x. names_say r (lower_of x) i) cover false

  parent_says : (r : Reg) (kind : SetKind) (name : List ℕ) → parent_refuses r secrets kind name
      ≡ parent_refuses r others kind name
  parent_says r kind name = λ i.
      option_map_or (λ parent. not (below_says r (parent_object r kind parent) i)) (parent_of name)
      false

  cover_says : (r : Reg) (k : Key) → cover_refuses r secrets k ≡ cover_refuses r others k
  cover_says r (Mntner n) = refl
  cover_says r (AsBlock t) = ap not (below_says r (closest_block r t))
  cover_says r (AutNum n) = ap not (below_says r (closest_block r (record { first = n; last = n })))
  cover_says r (Inetnum t) = ap not (below_says r (closest_inetnum r t))
  cover_says r (Route p n) = ap not (space_says r p (closest_route_prefix r p))
  cover_says r (AsSet name) = parent_says r kinds.AsSet name
  cover_says r (RouteSet name) = parent_says r kinds.RouteSet name

  place_says : (r : Reg) (k : Key) → by_place r secrets k ≡ by_place r others k
  place_says r k = λ i. first_of (
      record { holds = crosses_registered r k; code = E16 } ∷ (
      record { holds = lacks_origin r k; code = E14 } ∷ (
      record { holds = origin_says r k i; code = E15 } ∷ (
      record { holds = is_uncovered r k; code = E12 } ∷ (
      record { holds = cover_says r k i; code = E13 } ∷ []))))) Add

  submission_says : (r : Reg) (o : Obj) (stored : Option Obj) → submission stored r secrets o
      ≡ submission stored r others o
  submission_says r o None = λ i. first_of (
      record { holds = names_unknown (seen_by (Some o) r) o; code = E10 } ∷ (
      record { holds = not (names_say (seen_by (Some o) r) o.maintainers i); code = E11 } ∷ []))
      (place_says r o.key i)
  submission_says r o (Some stored) = λ i. first_of (
      record { holds = some_is_unknown r (names_of o); code = E10 } ∷ (
      record { holds = not (names_say r stored.maintainers i); code = E11 } ∷ []))
      (cond (fields_eq stored.paragraph o.paragraph) Unchanged Change)

  deletion_says : (r : Reg) (k : Key) (stored : Option Obj) → deletion stored r secrets k
      ≡ deletion stored r others k
  deletion_says r k None = refl
  deletion_says r k (Some stored) = λ i. first_of (
      record { holds = not (names_say r stored.maintainers i); code = E11 } ∷ (
      record { holds = is_in_use r k; code = E17 } ∷ [])) Delete

pub secrets_are_a_set : (r : Reg) (secrets others : List (List ℕ)) (i : Item) →
    SameSecrets secrets others → verdict r secrets i ≡ verdict r others i
secrets_are_a_set r secrets others (Submit o) s = submission_says secrets others s r o (get r o.key)
secrets_are_a_set r secrets others (DeleteItem k) s = deletion_says secrets others s r k (get r k)
