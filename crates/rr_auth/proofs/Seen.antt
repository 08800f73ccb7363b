-- What an object sees in the registry that it is judged in.
use Rattle.std.proofs.Common.{◌≡◌, ℕ, true, false, cond, ◌||◌, List, [], ◌∷◌, refl, sym, ap, ◌∙◌}
use Rattle.std.specs.Prelude.{Some, map, filter, ◌&&◌}
use Rattle.std.specs.Str.{bytes_eq}
use Rattle.std.specs.Ordering.{eq_by_cmp}
use Rattle.std.specs.Cmp.Lexicographic.{nat_list_eq_equiv, texts_ties}
use Rattle.std.specs.FinMap.{get, get-insert}
use Rattle.rr_object.specs.declared.key.Key.{Key}
use Rattle.rr_object.specs.declared.key.Key.TheVariants.{Mntner, AsBlock, AutNum, Inetnum, Route}
use Rattle.rr_object.specs.declared.key.Key.TheVariants.{AsSet, RouteSet}
use Rattle.rr_object.specs.Objects.{Obj}
use Rattle.rr_object.specs.KeyOrders.{key_cmp}
use Rattle.rr_auth.specs.Registries.{Reg, maintainer, with_mntner, seen_by}
use Rattle.rr_object.specs.Keys.{is_mntner_of}
use Rattle.std.specs.List.{list_any}
use Rattle.rr_number.specs.Prefixes.{PrefixParts}
use Rattle.rr_auth.specs.Authority.{grants}
use Rattle.rr_object.specs.Parts.{GrantParts}
use Rattle.rr_auth.specs.Passing.{names_pass, name_passes}
use Rattle.rr_object.proofs.KeyLaws.{keys_total}

-- mntners' keys tie where their names are equal
pub mntners_tie : (n m : List ℕ) → eq_by_cmp key_cmp (Mntner n) (Mntner m) ≡ bytes_eq m n
mntners_tie n m = sym (texts_ties n m) ∙ nat_list_eq_equiv.symm n m

maintainer_with : (r : Reg) (k : Key) (o : Obj) (n : List ℕ) → maintainer (with_mntner r k o) n
    ≡ cond (is_mntner_of n k) (Some o) (maintainer r n)
maintainer_with r (Mntner m) o n =
    get-insert keys_total r (Mntner m) o (Mntner n) ∙ ap (λ b. cond b (Some o) (get r (Mntner n)))
    (mntners_tie n m)
maintainer_with r (AsBlock s) o n = refl
maintainer_with r (AutNum m) o n = refl
maintainer_with r (Inetnum s) o n = refl
maintainer_with r (Route p m) o n = refl
maintainer_with r (AsSet m) o n = refl
maintainer_with r (RouteSet m) o n = refl

-- the mntner of a name in the registry that an object sees: itself, where it is that mntner
pub maintainer_seen : (r : Reg) (o : Obj) (n : List ℕ) → maintainer (seen_by (Some o) r) n
    ≡ cond (is_mntner_of n o.key) (Some o) (maintainer r n)
maintainer_seen r o n = maintainer_with r o.key o n

-- the names of the entries that pass a test pass where some entry passes it and its name passes
pub passes_granted : (r : Reg) (secrets : List (List ℕ)) (p : PrefixParts) (es : List GrantParts)
    → names_pass r secrets (map (λ g. g.name) (filter (grants p) es)) ≡ list_any
    (λ g. grants p g && name_passes r secrets g.name) es
passes_granted r secrets p [] = refl
passes_granted r secrets p (e ∷ es) =
    elim (grants p e) as
    (λ b. names_pass r secrets
    (map (λ g. g.name) (cond b (e ∷ filter (grants p) es) (filter (grants p) es)))
    ≡ ((b && name_passes r secrets e.name) || list_any (λ g. grants p g && name_passes r secrets
    g.name) es)) [
      | true ↦ ap (λ b. name_passes r secrets e.name || b) (passes_granted r secrets p es)
      | false ↦ passes_granted r secrets p es
    ]
