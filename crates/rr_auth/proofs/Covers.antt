-- The closest objects of a class: what `closest_of` gives, and what it gives where a closest object
-- is known.
use Rattle.std.proofs.Common.{◌≡◌, ℕ, ◌≤◌, Bool, true, false, not, ◌&&◌, ◌||◌, inl, inr, List, []}
use Rattle.std.proofs.Common.{◌∷◌, refl, sym, ap, subst, ◌∙◌, arith}
use Rattle.std.specs.Prelude.{Option, None, Some, is_none, nat_le}
use Rattle.std.specs.List.{list_any, list_all}
use Rattle.std.specs.Option.{option_map_or}
use Rattle.std.specs.FinMap.{get, values}
use Rattle.std.proofs.lemmas.Bool.{and_from, and_parts, cases_lt, false_from_ne_true, le-leb}
use Rattle.std.proofs.lemmas.Bool.{leb-true, true≢false}
use Rattle.rr_number.specs.Spans.{Ends, covers, crosses, size}
use Rattle.rr_object.specs.declared.key.Key.{Key}
use Rattle.rr_object.specs.Objects.{Obj}
use Rattle.rr_auth.specs.Registries.{Reg, Sound}
use Rattle.rr_auth.specs.Closest.{closest_of, is_closest, is_cover, is_no_closer}
use Rattle.rr_auth.specs.Elements.{IsIn}
use Rattle.rr_auth.proofs.Members.{all_pass, each_passes, found_in, found_passes, mapped_value}
use Rattle.rr_auth.proofs.Members.{none_found, none_passes, some_passes, stands_at}
use Rattle.rr_auth.proofs.Nesting.{one_span}

-- an object is closest to s: it is registered, it covers s, and no registered object of the class
-- that does is smaller
pub record IsClosestAt (class : Key → Option Ends) (r : Reg) (s : Ends) (o : Obj) : Type 0 where
  pub there : get r o.key ≡ Some o
  pub span : Ends
  pub class_is : class o.key ≡ Some span
  pub covering : covers span s ≡ true
  pub least : (k : Key) (x : Obj) (u : Ends) → get r k ≡ Some x → class k ≡ Some u → covers u s
      ≡ true → size span ≤ size u

-- the spans of a class do not cross
pub record IsNested (class : Key → Option Ends) (r : Reg) : Type 0 where
  pub nested : (k l : Key) (o x : Obj) (t u : Ends) → get r k ≡ Some o → get r l ≡ Some x →
      class k ≡ Some t → class l ≡ Some u → crosses t u ≡ false

some_same : {A : Type 0} {x y : A} → Some x ≡ Some y → x ≡ y
some_same e = cc

-- what a test that is no smaller says of a cover
no_smaller : (cover : Bool) (m n : ℕ) → (not cover || nat_le m n) ≡ true → cover ≡ true → m ≤ n
no_smaller true m n e c = leb-true m n e
no_smaller false m n e c = cc

said_no_closer : (cover : Bool) (m n : ℕ) → (cover ≡ true → m ≤ n) → (not cover || nat_le m n)
    ≡ true
said_no_closer true m n f = le-leb m n (f refl)
said_no_closer false m n f = refl

module _ (class : Key → Option Ends) where
  -- what the test of the closest says
  record IsClosestAmong (all : List Obj) (s : Ends) (o : Obj) : Type 0 where
    span : Ends
    class_is : class o.key ≡ Some span
    covering : covers span s ≡ true
    least : list_all (is_no_closer class s span) all ≡ true

  closest_reads : (all : List Obj) (s : Ends) (o : Obj) → is_closest class all s o ≡ true →
      IsClosestAmong all s o
  closest_reads all s o e =
      let value = mapped_value (λ t. covers t s && list_all (is_no_closer class s t) all)
      (class o.key) e in
      let parts = and_parts _ _ value.1.1 in
      record { span = value.0; class_is = value.1.0; covering = parts.0; least = parts.1 }

  -- what the test says in a sound registry
  pub closest_said : (r : Reg) (s : Ends) (o : Obj) → Sound r → get r o.key ≡ Some o →
      is_closest class (values r) s o ≡ true → IsClosestAt class r s o
  closest_said r s o sound there e =
      let read = closest_reads (values r) s o e in
      record {
        there = there;
        span = read.span;
        class_is = read.class_is;
        covering = read.covering;
        least = λ k x u f c h.
            let test = each_passes (is_no_closer class s read.span) x (values r) read.least
            (found_in r k x f) in
            let of_class : class x.key ≡ Some u = ap class (sound.keyed k x f) ∙ c in
            no_smaller (covers u s) (size read.span) (size u)
            (ap (λ v. option_map_or (λ u. not (covers u s) || nat_le (size read.span) (size u))
            v true) (sym of_class) ∙ test) h;
      }

  no_closer : (s t : Ends) (x : Obj) (v : Option Ends) → class x.key ≡ v →
      ((u : Ends) → v ≡ Some u → covers u s ≡ true → size t ≤ size u) → is_no_closer class s t x
      ≡ true
  no_closer s t x None e h =
      ap (λ v. option_map_or (λ u. not (covers u s) || nat_le (size t) (size u)) v true) e
  no_closer s t x (Some u) e h =
      ap (λ v. option_map_or (λ u. not (covers u s) || nat_le (size t) (size u)) v true) e
      ∙ said_no_closer (covers u s) (size t) (size u) (h u refl)

  -- a closest object passes the test
  pub closest_passes : (r : Reg) (s : Ends) (o : Obj) → Sound r → IsClosestAt class r s o →
      is_closest class (values r) s o ≡ true
  closest_passes r s o sound c =
      ap (λ v. option_map_or (λ t. covers t s && list_all (is_no_closer class s t) (values r)) v
      false) c.class_is
      ∙ and_from _ _ c.covering (all_pass _ (values r) (λ x i.
      no_closer s c.span x (class x.key) refl
      (λ u of_class. c.least x.key x u (stands_at r x sound i) of_class)))

  -- what `closest_of` gives is closest
  pub closest_found : (r : Reg) (s : Ends) (o : Obj) → Sound r → closest_of class (values r) s
      ≡ Some o → IsClosestAt class r s o
  closest_found r s o sound e =
      let found = found_passes (is_closest class (values r) s) o (values r) e in
      closest_said r s o sound (stands_at r o sound found.1) found.0

  -- where it gives nothing, nothing is closest
  pub closest_missed : (r : Reg) (s : Ends) (o : Obj) → Sound r → closest_of class (values r) s
      ≡ None → IsClosestAt class r s o → ⊥
  closest_missed r s o sound e c =
      let fails = none_passes _ o (values r) (none_found _ (values r) e)
      (found_in r o.key o c.there) in
      true≢false (sym (closest_passes r s o sound c) ∙ fails)

  -- a smallest one of the listed objects that cover s
  record IsLeast (all : List Obj) (s : Ends) (o : Obj) : Type 0 where
    member : IsIn o all
    span : Ends
    class_is : class o.key ≡ Some span
    covering : covers span s ≡ true
    least : (x : Obj) (u : Ends) → IsIn x all → class x.key ≡ Some u → covers u s ≡ true →
        size span ≤ size u

  cover_said : (s u : Ends) (x : Obj) → class x.key ≡ Some u → is_cover class s x ≡ covers u s
  cover_said s u x e = ap (λ v. option_map_or (λ t. covers t s) v false) e

  least_first : (y : Obj) (ys : List Obj) (s t : Ends) → class y.key ≡ Some t → covers t s ≡ true
      → ((x : Obj) (u : Ends) → IsIn x ys → class x.key ≡ Some u → covers u s ≡ true →
      size t ≤ size u) → IsLeast (y ∷ ys) s y
  least_first y ys s t of_class cover rest = record {
    member = inl refl;
    span = t;
    class_is = of_class;
    covering = cover;
    least = λ x u i e f. elim i [
      | inl same ↦
          let one : t ≡ u = some_same (sym of_class ∙ ap (λ (z : Obj). class z.key) (sym same)
          ∙ e) in
          subst (λ v. size t ≤ size v) one (omega arith)
      | inr later ↦ rest x u later e f
    ];
  }

  least_later : (y : Obj) (ys : List Obj) (s : Ends) (o : Obj) → (c : IsLeast ys s o)
      → ((u : Ends) → class y.key ≡ Some u → covers u s ≡ true → size c.span ≤ size u) →
      IsLeast (y ∷ ys) s o
  least_later y ys s o c first = record {
    member = inr c.member;
    span = c.span;
    class_is = c.class_is;
    covering = c.covering;
    least = λ x u i e f. elim i [
      | inl same ↦ first u (ap (λ (z : Obj). class z.key) (sym same) ∙ e) f
      | inr later ↦ c.least x u later e f
    ];
  }

  least_of_two : (y : Obj) (ys : List Obj) (s t : Ends) (o : Obj) → class y.key ≡ Some t →
      covers t s ≡ true → IsLeast ys s o → (x : Obj) × IsLeast (y ∷ ys) s x
  least_of_two y ys s t o of_class cover c =
      elim (cases_lt (size t) (size c.span)) [
        | inl smaller ↦ (
          y,
          least_first y ys s t of_class cover (λ x u i e f. let after : size c.span ≤ size u
              = c.least x u i e f in omega arith),
        )
        | inr larger ↦ (
          o,
          least_later y ys s o c (λ u e f.
              let one : t ≡ u = some_same (sym of_class ∙ e) in
              subst (λ v. size c.span ≤ size v) one larger),
        )
      ]

  least_where_first : (y : Obj) (ys : List Obj) (s : Ends) (b : Bool) → list_any (is_cover class s)
      ys ≡ b → is_cover class s y ≡ true
      → (b ≡ true → (x : Obj) × IsLeast ys s x) → (x : Obj) × IsLeast (y ∷ ys) s x
  least_where_first y ys s false none covering later =
      let value = mapped_value (λ t. covers t s) (class y.key) covering in (
        y,
        least_first y ys s value.0 value.1.0 value.1.1 (λ x u i e f.
            absurd (true≢false (sym (cover_said s u x e ∙ f) ∙ none_passes (is_cover class s) x ys
            none i))),
      )
  least_where_first y ys s true some covering later =
      let value = mapped_value (λ t. covers t s) (class y.key) covering in
      let rest = later refl in
      least_of_two y ys s value.0 rest.0 value.1.0 value.1.1 rest.1

  -- where some listed object covers s, one of these is a smallest
  least_among : (all : List Obj) (s : Ends) → list_any (is_cover class s) all ≡ true → (x : Obj)
      × IsLeast all s x
  least_among [] s e = cc
  least_among (y ∷ ys) s e =
      elim (is_cover class s y) as (λ b. is_cover class s y ≡ b →
      (b || list_any (is_cover class s) ys) ≡ true → (x : Obj) × IsLeast (y ∷ ys) s x) [
        | true ↦ λ covering g. least_where_first y ys s (list_any (is_cover class s) ys) refl
            covering (λ h. least_among ys s h)
        | false ↦ λ covering g.
            let rest = least_among ys s g in (
              rest.0,
              least_later y ys s rest.0 rest.1
                  (λ u of_class f.
                  absurd (true≢false (sym (cover_said s u y of_class ∙ f) ∙ covering))),
            )
      ] refl e

  -- a closest object is found where some object covers
  pub closest_exists : (r : Reg) (s : Ends) → Sound r → list_any (is_cover class s) (values r)
      ≡ true → (o : Obj) × IsClosestAt class r s o
  closest_exists r s sound e =
      let one = least_among (values r) s e in
      let o = one.0 in
      let c = one.1 in (
        o,
        record {
          there = stands_at r o sound c.member;
          span = c.span;
          class_is = c.class_is;
          covering = c.covering;
          least = λ k x u f of_class g. c.least x u (found_in r k x f)
              (ap class (sound.keyed k x f) ∙ of_class) g;
        },
      )

  least_passes : (all : List Obj) (s : Ends) (o : Obj) → IsLeast all s o → is_closest class all s o
      ≡ true
  least_passes all s o c =
      ap (λ v. option_map_or (λ t. covers t s && list_all (is_no_closer class s t) all) v false)
      c.class_is
      ∙ and_from _ _ c.covering
      (all_pass _ all (λ x i. no_closer s c.span x (class x.key) refl
      (λ u of_class. c.least x u i of_class)))

  -- nothing covers where nothing is closest
  pub none_covers : (all : List Obj) (s : Ends) → closest_of class all s ≡ None →
      list_any (is_cover class s) all ≡ false
  none_covers all s e =
      false_from_ne_true _ (λ some.
      let one = least_among all s some in
      true≢false (sym (least_passes all s one.0 one.1) ∙ none_passes (is_closest class all s) one.0
      all (none_found _ all e) one.1.member))

  -- what is closest is of the class
  pub closest_span_is : (all : List Obj) (s : Ends) (o : Obj) → closest_of class all s ≡ Some o →
      (t : Ends) × (class o.key ≡ Some t)
  closest_span_is all s o e =
      let read = closest_reads all s o (found_passes (is_closest class all s) o all e).0 in
      (read.span, read.class_is)

  some_covers : (all : List Obj) (s : Ends) (o : Obj) → closest_of class all s ≡ Some o →
      list_any (is_cover class s) all ≡ true
  some_covers all s o e =
      let found = found_passes (is_closest class all s) o all e in
      let read = closest_reads all s o found.0 in
      some_passes (is_cover class s) o all found.1 (cover_said s read.span o read.class_is
      ∙ read.covering)

  -- nothing is closest exactly where nothing covers
  pub none_where_uncovered : (all : List Obj) (s : Ends) → is_none (closest_of class all s)
      ≡ not (list_any (is_cover class s) all)
  none_where_uncovered all s =
      elim (closest_of class all s) as (λ v. closest_of class all s ≡ v → is_none v
      ≡ not (list_any (is_cover class s) all)) [
        | None ↦ λ e. ap not (sym (none_covers all s e))
        | Some o ↦ λ e. ap not (sym (some_covers all s o e))
      ] refl

  -- nothing is closest where no registered object of the class covers s
  pub closest_none : (r : Reg) (s : Ends) → Sound r →
      ((k : Key) (x : Obj) (u : Ends) → get r k ≡ Some x → class k ≡ Some u → covers u s ≡ false)
      → closest_of class (values r) s ≡ None
  closest_none r s sound h =
      elim (closest_of class (values r) s) as (λ v. closest_of class (values r) s ≡ v → v ≡ None) [
        | None ↦ λ e. refl
        | Some o ↦ λ e.
            let c = closest_found r s o sound e in
            absurd (true≢false (sym c.covering ∙ h o.key o c.span c.there c.class_is))
      ] refl

  -- and no registered object of the class covers s where nothing is closest
  pub closest_none_back : (r : Reg) (s : Ends) → Sound r → closest_of class (values r) s ≡ None
      → (k : Key) (x : Obj) (u : Ends) → get r k ≡ Some x → class k ≡ Some u → covers u s ≡ false
  closest_none_back r s sound e k x u f of_class =
      sym (cover_said s u x (ap class (sound.keyed k x f) ∙ of_class)) ∙ none_passes
      (is_cover class s) x (values r) (none_covers (values r) s e) (found_in r k x f)

  -- closest objects have one span, where the class does not cross
  pub closest_span : (r : Reg) (s : Ends) (o x : Obj) → IsNested class r → s.first ≤ s.last →
      (c : IsClosestAt class r s o) (d : IsClosestAt class r s x) → c.span ≡ d.span
  closest_span r s o x nested ordered c d =
      one_span s c.span d.span ordered c.covering d.covering
      (c.least x.key x d.span d.there d.class_is d.covering)
      (d.least o.key o c.span c.there c.class_is c.covering)
      (nested.nested o.key x.key o x c.span d.span c.there d.there c.class_is d.class_is)
      (nested.nested x.key o.key x o d.span c.span d.there c.there d.class_is c.class_is)

  -- where some object is closest, one of its span is given
  pub closest_given : (r : Reg) (s : Ends) (o : Obj) → Sound r → IsNested class r →
      s.first ≤ s.last → (c : IsClosestAt class r s o)
      → (x : Obj) × ((closest_of class (values r) s ≡ Some x)
      × ((d : IsClosestAt class r s x) × (c.span ≡ d.span)))
  closest_given r s o sound nested ordered c =
      elim (closest_of class (values r) s) as (λ v. closest_of class (values r) s ≡ v → (x : Obj)
      × ((v ≡ Some x) × ((d : IsClosestAt class r s x) × (c.span ≡ d.span)))) [
        | None ↦ λ e. absurd (closest_missed r s o sound e c)
        | Some x ↦ λ e. let d = closest_found r s x sound e in
            (x, (refl, (d, closest_span r s o x nested ordered c d)))
      ] refl

  -- where the span of a key tells it, a closest object is the one that is given
  pub closest_there : (r : Reg) (s : Ends) (o : Obj) → ((k l : Key) (t : Ends) → class k ≡ Some t →
      class l ≡ Some t → k ≡ l)
      → Sound r → IsNested class r → s.first ≤ s.last → IsClosestAt class r s o →
      closest_of class (values r) s ≡ Some o
  closest_there r s o exact sound nested ordered c =
      let given = closest_given r s o sound nested ordered c in
      let d = given.1.1.0 in
      let keys : given.0.key ≡ o.key = exact given.0.key o.key d.span d.class_is
      (c.class_is ∙ ap (λ t. Some t) given.1.1.1) in
      let same : given.0 ≡ o = some_same (sym d.there ∙ ap (λ k. get r k) keys ∙ c.there) in
      given.1.0 ∙ ap (λ x. Some x) same
