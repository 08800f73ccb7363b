-- The keys of maintainers by name, as objects come and go.
use Rattle.std.proofs.Common.{◌≡◌, ◌||◌, ◌&&◌, ℕ, Bool, true, false, cond, not, List, [], refl, sym}
use Rattle.std.proofs.Common.{ap, ◌∙◌}
use Rattle.std.specs.Prelude.{Option, None, Some, is_some}
use Rattle.std.specs.BTreeMap.{BTreeMap, get as key_at, is_at}
use Rattle.std.specs.Cmp.Lexicographic.{slice_cmp}
use Rattle.std.specs.FinMap.{contains_key, empty, get, insert, remove, get-empty}
use Rattle.std.specs.Map.{lookup}
use Rattle.std.specs.Ordering.{eq_by_cmp, nat_cmp}
use Rattle.std.specs.Str.{bytes_eq}
use Rattle.std.proofs.lemmas.Map.Text.{is_eq-slice_cmp}
use Rattle.std.proofs.lemmas.Slice.Eq.{bytes_eq-Decides}
use Rattle.rr_object.specs.declared.key.Key.{Key}
use Rattle.rr_object.specs.declared.key.Key.TheVariants.{AsBlock, AsSet, AutNum, Inetnum, Mntner}
use Rattle.rr_object.specs.declared.key.Key.TheVariants.{Route, RouteSet}
use Rattle.rr_object.specs.KeyOrders.{key_cmp}
use Rattle.rr_object.specs.Objects.{Obj}
use Rattle.rr_auth.proofs.Seen.{mntners_tie}
use Rattle.rr_auth.specs.Registries.{Reg}
use Rattle.rr_index.proofs.Spans.{keys_in, keys_out}
use Rattle.rr_index.specs.NameIndexes.{HasNames}

abbrev Keys : Type 0
Keys = BTreeMap (List ℕ) Key

abbrev pub ChangesAt : List ℕ → Option Key → Keys → Keys → Type 0
ChangesAt name key old new = (other : List ℕ) → key_at (slice_cmp nat_cmp) new other
    ≡ cond (is_at (slice_cmp nat_cmp name) other) key (key_at (slice_cmp nat_cmp) old other)

pub names_none : (m : Keys) → m.entries ≡ [] → HasNames empty m
names_none m none = λ name.
    ap (λ (es : List (List ℕ × Key)). lookup (is_at (slice_cmp nat_cmp name)) es) none
    ∙ sym (ap (λ v. cond (is_some v) (Some (Mntner name)) None) (get-empty key_cmp (Mntner name)))

case_in : (name other : List ℕ) (b there : Bool) → (b ≡ true → name ≡ other) →
    cond b (Some (Mntner name)) (cond there (Some (Mntner other)) None) ≡ cond (b || there)
    (Some (Mntner other)) None
case_in name other true there same = ap (λ n. Some (Mntner n)) (same refl)
case_in name other false there same = refl

case_out : (other : List ℕ) (b there : Bool) → cond b None (cond there (Some (Mntner other)) None)
    ≡ cond (not b && there) (Some (Mntner other)) None
case_out other true there = refl
case_out other false there = refl

pub names_in : (r : Reg) (o : Obj) (name copy : List ℕ) (key : Key) (old new : Keys) →
    HasNames r old → copy ≡ name → key ≡ Mntner name → ChangesAt copy (Some key) old new
    → HasNames (insert r (Mntner name) o) new
names_in r o name copy key old new has same is change = λ other.
    change other
    ∙ (λ i. cond (is_at (slice_cmp nat_cmp (same i)) other) (Some (is i)) (has other i))
    ∙ ap
    (λ b. cond b (Some (Mntner name)) (cond (contains_key r (Mntner other))
    (Some (Mntner other)) None)) (is_eq-slice_cmp name other)
    ∙ case_in name other (bytes_eq name other) (contains_key r (Mntner other))
    (λ e. (bytes_eq-Decides name other).0 e)
    ∙ ap (λ b. cond (b || contains_key r (Mntner other)) (Some (Mntner other)) None)
    (sym (mntners_tie other name))
    ∙ ap (λ b. cond b (Some (Mntner other)) None) (sym (keys_in r (Mntner name) o (Mntner other)))

pub names_out : (r : Reg) (name : List ℕ) (old new : Keys) → HasNames r old →
    ChangesAt name None old new → HasNames (remove r (Mntner name)) new
names_out r name old new has change = λ other.
    change other
    ∙ (λ i. cond (is_eq-slice_cmp name other i) None (has other i))
    ∙ case_out other (bytes_eq name other) (contains_key r (Mntner other))
    ∙ ap (λ b. cond (not b && contains_key r (Mntner other)) (Some (Mntner other)) None)
    (sym (mntners_tie other name))
    ∙ ap (λ b. cond b (Some (Mntner other)) None) (sym (keys_out r (Mntner name) (Mntner other)))

module _ (r : Reg) (keys : Keys) (has : HasNames r keys) where
  other_in : (k : Key) (o : Obj) → ((n : List ℕ) → eq_by_cmp key_cmp (Mntner n) k ≡ false) →
      HasNames (insert r k o) keys
  other_in k o apart = λ n. has n ∙ ap (λ b. cond b (Some (Mntner n)) None)
      (ap (λ b. b || contains_key r (Mntner n)) (sym (apart n)) ∙ sym (keys_in r k o (Mntner n)))

  other_out : (k : Key) → ((n : List ℕ) → eq_by_cmp key_cmp (Mntner n) k ≡ false) →
      HasNames (remove r k) keys
  other_out k apart = λ n. has n ∙ ap (λ b. cond b (Some (Mntner n)) None)
      (ap (λ b. not b && contains_key r (Mntner n)) (sym (apart n)) ∙ sym (keys_out r k (Mntner n)))

  pub rest_in : (k : Key) (o : Obj) → ((n : List ℕ) → k ≡ Mntner n → ⊥) → HasNames (insert r k o)
      keys
  rest_in (Mntner n) o a = absurd (a n refl)
  rest_in (AsBlock s) o a = other_in (AsBlock s) o (λ n. refl)
  rest_in (AutNum n) o a = other_in (AutNum n) o (λ m. refl)
  rest_in (Inetnum s) o a = other_in (Inetnum s) o (λ n. refl)
  rest_in (Route p n) o a = other_in (Route p n) o (λ m. refl)
  rest_in (AsSet n) o a = other_in (AsSet n) o (λ m. refl)
  rest_in (RouteSet n) o a = other_in (RouteSet n) o (λ m. refl)

  pub rest_out : (k : Key) → ((n : List ℕ) → k ≡ Mntner n → ⊥) → HasNames (remove r k) keys
  rest_out (Mntner n) a = absurd (a n refl)
  rest_out (AsBlock s) a = other_out (AsBlock s) (λ n. refl)
  rest_out (AutNum n) a = other_out (AutNum n) (λ m. refl)
  rest_out (Inetnum s) a = other_out (Inetnum s) (λ n. refl)
  rest_out (Route p n) a = other_out (Route p n) (λ m. refl)
  rest_out (AsSet n) a = other_out (AsSet n) (λ m. refl)
  rest_out (RouteSet n) a = other_out (RouteSet n) (λ m. refl)

some_same : {A : Type 0} {x y : A} → Some x ≡ Some y → x ≡ y
some_same e = cc

-- the key under a name leads to the maintainer of that name
pub named_key : (r : Reg) (name : List ℕ) (k : Key) → Some k ≡ cond (contains_key r (Mntner name))
    (Some (Mntner name)) None → get r k ≡ get r (Mntner name)
named_key r name k is =
    elim (contains_key r (Mntner name)) as (λ b. Some k ≡ cond b (Some (Mntner name)) None →
    get r k ≡ get r (Mntner name)) [
      | true ↦ λ e. ap (λ l. get r l) (some_same e)
      | false ↦ λ e. cc
    ] is

-- and where there is none, there is no such maintainer
pub no_name : (r : Reg) (name : List ℕ) → None ≡ cond (contains_key r (Mntner name))
    (Some (Mntner name)) None → None ≡ get r (Mntner name)
no_name r name is =
    elim (get r (Mntner name)) as (λ v. None ≡ cond (is_some v) (Some (Mntner name)) None →
    None ≡ v) [
      | None ↦ λ e. refl
      | Some o ↦ λ e. cc
    ] is
