-- Which of some edges are enough for a value.
-- An edge may go where a kept one makes the same pair; what is enough for one value is so for its
-- kind. It is long because edges are dropped, repeated or kept, and labels keep values or change
-- them. Which edge makes a pair is given by hand. `effects`, `pairs` and `settling::pass_run` need
-- it.
use Rattle.std.proofs.Common.{◌≡◌, ◌⊎◌, ◌↔◌, true, false, cond, List, [], ◌∷◌, ◌++◌, Contains, Bool}
use Rattle.std.proofs.Common.{IsTrue, Option, None, Some, Ordering, refl, sym, ap, ◌∙◌, subst, inl}
use Rattle.std.proofs.Common.{inr}
use Rattle.std.specs.BTreeMap.{is_at}
use Rattle.std.specs.BTreeSet.{BTreeSet, Updates, contains}
use Rattle.std.specs.Cmp.{IsTotalOrder}
use Rattle.std.specs.Global.{Vec}
use Rattle.std.specs.List.{filter_map}
use Rattle.std.specs.Option.{IfSome, option_map}
use Rattle.std.specs.Ordering.{eq_by_cmp}
use Rattle.std.proofs.lemmas.Bool.{cases_Bool}
use Rattle.std.proofs.lemmas.List.Elements.{Contains-append_cases, Contains-append_left}
use Rattle.std.proofs.lemmas.List.Elements.{Contains-append_right, Contains-push}
use Rattle.std.proofs.lemmas.List.Elements.{Contains-push_cases}
use Rattle.std.proofs.lemmas.Map.Lookups.{CmpEqualImpliesEq}
use Rattle.std.proofs.lemmas.Map.Views.{btree_set_contains_iff, tells_apart}
use Rattle.rr_graph.specs.EffectParts.{AddsAtMost, IsChoice, IsCovered, IsDistinct, IsEnough}
use Rattle.rr_graph.specs.EffectParts.{AreChoices, IsMadeBut, Makes, changed}
use Rattle.rr_graph.specs.ReversedParts.{LeadsBack}
use Rattle.rr_graph.specs.declared.effects.Choice.{Choice}
use Rattle.rr_graph.specs.declared.labels.Edge.{Edge}
use Rattle.rr_graph.proofs.Lists.{Contains-filter, Contains-filter_map, Contains-nil}

module _ {N L V : Type 0} (passed : L → V → Option V) where
  -- what fewer edges make, more do
  Makes-wider : (value : V) (some more : List (Edge N L)) →
      ((e : Edge N L) → Contains some e → Contains more e) → (node : N) (made : V) →
      Makes passed value some node made → Makes passed value more node made
  Makes-wider value some more wider node made (e, has, to, is) = (e, wider e has, to, is)

  -- all edges are enough
  pub IsEnough-all : (edges : List (Edge N L)) (value : V) → IsEnough passed edges value edges
  IsEnough-all edges value = record { among = λ e has. has; whole = λ node made is. is }

  -- one more edge, which the new ones that are kept stand for
  IsEnough-more : (edges kept new : List (Edge N L)) (value : V) (edge : Edge N L) →
      IsEnough passed edges value kept → ((e : Edge N L) → Contains kept e → Contains new e) →
      ((e : Edge N L) → Contains new e → Contains kept e ⊎ (edge ≡ e)) →
      ((made : V) → passed edge.label value ≡ Some made → Makes passed value new edge.to made) →
      IsEnough passed (edges ++ edge ∷ []) value new
  IsEnough-more edges kept new value edge before wider only stands =
      record { among = among; whole = whole } where
        among : (e : Edge N L) → Contains new e → Contains (edges ++ edge ∷ []) e
        among e has = elim (only e has) [
          | inl earlier ↦ Contains-append_left edges (edge ∷ []) e (before.among e earlier)
          | inr last ↦ subst (Contains (edges ++ edge ∷ [])) last (Contains-push edges edge)
        ]

        whole : (node : N) (made : V) → Makes passed value (edges ++ edge ∷ []) node made →
            Makes passed value new node made
        whole node made (e, has, to, is) = elim (Contains-push_cases edges edge e has) [
          | inl earlier ↦ Makes-wider value kept new wider node made
              (before.whole node made (e, earlier, to, is))
          | inr last ↦
              let made_by : passed edge.label value ≡ Some made =
              subst (λ (f : Edge N L). passed f.label value ≡ Some made) (sym last) is in
              let at : edge.to ≡ node = subst (λ (f : Edge N L). f.to ≡ node) (sym last) to in
              subst (λ (n : N). Makes passed value new n made) at (stands made made_by)
        ]

  module _ {cmp : N × V → N × V → Ordering} (order : IsTotalOrder cmp)
      (exact : CmpEqualImpliesEq cmp) (value : V) where
    -- no edges
    pub IsDistinct-none : (kept : List (Edge N L)) (made : BTreeSet (N × V)) → kept ≡ [] →
        made.keys ≡ [] → IsDistinct cmp passed value [] kept made
    IsDistinct-none kept made none empty = record {
      enough = subst (λ (l : List (Edge N L)). IsEnough passed [] value l) (sym none)
          (IsEnough-all [] value);
      only = λ p has.
          absurd
          (Contains-nil p (subst (λ (l : List (N × V)). Contains l p) empty
          ((btree_set_contains_iff order exact made p).0 has)));
    }

    -- an index that has less
    pub IsDistinct-fewer : (edges kept : List (Edge N L)) (made new : BTreeSet (N × V)) →
        ((p : N × V) → IsTrue (contains cmp new p) → IsTrue (contains cmp made p)) →
        IsDistinct cmp passed value edges kept made → IsDistinct cmp passed value edges kept new
    IsDistinct-fewer edges kept made new fewer before = record {
      enough = before.enough;
      only =
          λ p has. before.only p (fewer p has);
    }

    module _ (edges kept : List (Edge N L)) (made : BTreeSet (N × V)) (edge : Edge N L)
        (before : IsDistinct cmp passed value edges kept made) where
      -- an edge that drops the value
      pub IsDistinct-dropped : passed edge.label value ≡ None → IsDistinct cmp passed value
          (edges ++ edge ∷ []) kept made
      IsDistinct-dropped none = record {
        enough = IsEnough-more edges kept kept value edge before.enough (λ e has. has)
            (λ e has. inl has) (λ w is. let wrong : None ≡ Some w = sym none ∙ is in cc);
        only = before.only;
      }

      -- an edge that makes what another does
      pub IsDistinct-again : (w : V) (new : BTreeSet (N × V)) → passed edge.label value ≡ Some w →
          contains cmp made (edge.to, w) ≡ true → Updates cmp made new (edge.to, w) true →
          IsDistinct cmp passed value (edges ++ edge ∷ []) kept new
      IsDistinct-again w new is there update = record {
        enough = IsEnough-more edges kept kept value edge before.enough (λ e has. has)
            (λ e has. inl has)
            (λ v also. let both : Some w ≡ Some v = sym is ∙ also in let same : w ≡ v = cc in
            subst (λ (x : V). Makes passed value kept edge.to x) same
            (before.only (edge.to, w) there));
        only = λ p has. elim (cases_Bool (eq_by_cmp cmp (edge.to, w) p)) [
          | inl same ↦ subst (λ (q : N × V). Makes passed value kept q.0 q.1)
              (tells_apart exact (edge.to, w) p same) (before.only (edge.to, w) there)
          | inr other ↦ before.only p (sym (update.2 p other) ∙ has)
        ];
      }

      -- an edge that is kept
      pub IsDistinct-push : (w : V) (new : BTreeSet (N × V)) → passed edge.label value ≡ Some w →
          Updates cmp made new (edge.to, w) true → IsDistinct cmp passed value (edges ++ edge ∷ [])
          (kept ++ edge ∷ []) new
      IsDistinct-push w new is update = record {
        enough = IsEnough-more edges kept (kept ++ edge ∷ []) value edge before.enough
            (λ e has. Contains-append_left kept (edge ∷ []) e has)
            (λ e has. Contains-push_cases kept edge e has)
            (λ v also. (edge, Contains-push kept edge, refl, also));
        only = λ p has. elim (cases_Bool (eq_by_cmp cmp (edge.to, w) p)) [
          | inl same ↦
              let it : (edge.to, w) ≡ p = tells_apart exact (edge.to, w) p same in (
                edge,
                Contains-push kept edge,
                ap (λ (q : N × V). q.0) it,
                is ∙ ap Some (ap (λ (q : N × V). q.1) it),
              )
          | inr other ↦ Makes-wider value kept (kept ++ edge ∷ [])
              (λ e there. Contains-append_left kept (edge ∷ []) e there) p.0 p.1
              (before.only p (sym (update.2 p other) ∙ has))
        ];
      }

-- the parts of a pair that a value was mapped to
mapped : {N V : Type 0} (o : Option V) (n : N) (q : N × V) → option_map (λ (v : V). (n, v)) o
    ≡ Some q → (n ≡ q.0) × (o ≡ Some q.1)
mapped None n q is = cc
mapped {N} {V} (Some v) n q is = let same : (n, v) ≡ q = cc in
    (ap (λ (p : N × V). p.0) same, ap Some (ap (λ (p : N × V). p.1) same))

-- the pair that an edge makes of a value
abbrev pub pair_by : {N L V : Type 0} → (L → V → Option V) → V → Edge N L → Option (N × V)
pair_by passed value edge = option_map (λ carried. (edge.to, carried)) (passed edge.label value)

module _ {L V : Type 0} (keeps : L → Bool) (passed : L → V → Option V) where
  -- a label that does not keep values changes them
  changed-other : (l : L) (v : V) → keeps l ≡ false → changed keeps passed l v ≡ passed l v
  changed-other l v other = ap (λ (b : Bool). cond b None (passed l v)) other

  -- one that makes a value and changes values does not keep them
  changed-Some : (l : L) (v w : V) → changed keeps passed l v ≡ Some w → keeps l ≡ false
  changed-Some l v w is = elim (cases_Bool (keeps l)) [
    | inl stays ↦ let wrong : None ≡ Some w =
        sym (ap (λ (b : Bool). cond b None (passed l v)) stays) ∙ is in cc
    | inr other ↦ other
  ]

  -- what a label that changes values makes, it makes
  passed-changed : (l : L) (v w : V) → changed keeps passed l v ≡ Some w → passed l v ≡ Some w
  passed-changed l v w is = sym (changed-other l v (changed-Some l v w is)) ∙ is

  module _ {K : Type 0} (kind_of : V → K) (alike : (l m : L) (v w : V) → keeps l ≡ false →
      keeps m ≡ false → kind_of v ≡ kind_of w → passed l v ≡ passed m v → passed l w ≡ passed m w)
      (dropped : (l : L) (v w : V) → keeps l ≡ false → kind_of v ≡ kind_of w → passed l v ≡ None →
      passed l w ≡ None) where
    -- what a label drops that changes values, it drops of each value of that kind
    changed-dropped : (l : L) (v w : V) → kind_of v ≡ kind_of w → changed keeps passed l v ≡ None →
        changed keeps passed l w ≡ None
    changed-dropped l v w same none = elim (cases_Bool (keeps l)) [
      | inl stays ↦ ap (λ (b : Bool). cond b None (passed l w)) stays
      | inr other ↦ changed-other l w other ∙ dropped l v w other same
          (sym (changed-other l v other) ∙ none)
    ]

    -- labels that change values and make the same of one make the same of each value of its kind
    changed-alike : (l m : L) (v w x : V) → kind_of v ≡ kind_of w → changed keeps passed l v
        ≡ Some x → changed keeps passed m v ≡ Some x → changed keeps passed l w ≡ changed keeps
        passed m w
    changed-alike l m v w x same one two =
        let l_other : keeps l ≡ false = changed-Some l v x one in
        let m_other : keeps m ≡ false = changed-Some m v x two in
        changed-other l w l_other ∙ alike l m v w l_other m_other same
        (passed-changed l v x one ∙ sym (passed-changed m v x two))
        ∙ sym (changed-other m w m_other)

module _ {N L V : Type 0} (keeps : L → Bool) (passed : L → V → Option V) where
  -- pairs that edges make
  pub Contains-pairs : (value : V) (edges : List (Edge N L)) (q : N × V) →
      Contains (filter_map (pair_by passed value) edges) q ↔ Makes passed value edges q.0 q.1
  Contains-pairs value edges q = (
    λ has.
        let r = (Contains-filter_map (pair_by passed value) edges q).0 has in
        let m = mapped (passed r.0.label value) r.0.to q r.2 in
        (r.0, r.1, m.0, m.1),
    λ (f, among, to, makes). (Contains-filter_map (pair_by passed value) edges q).1
        (f, among, ap (option_map (λ (v : V). (f.to, v))) makes ∙ ap (λ (n : N). Some (n, q.1)) to),
  )

  -- what edges that change values make, all edges do
  Makes-changed : (value : V) (edges : List (Edge N L)) (node : N) (made : V) →
      Makes (changed keeps passed) value edges node made → Makes passed value edges node made
  Makes-changed value edges node made (e, has, to, is) =
      (e, has, to, passed-changed keeps passed e.label value made is)

  -- pairs over all edges
  pub IsMadeBut-all : (edges : List (Edge N L)) (value : V) (before : Bool) (pairs : List (N × V))
      → pairs ≡ filter_map (pair_by passed value) edges → IsMadeBut keeps passed edges value before
      pairs
  IsMadeBut-all edges value before pairs is = record {
    only = λ q has. (Contains-pairs value edges q).0 (subst (λ (l : List (N × V)). Contains l q) is
        has);
    whole = λ q makes.
        inl (subst (λ (l : List (N × V)). Contains l q) (sym is)
        ((Contains-pairs value edges q).1 makes));
  }

  module _ (edges : List (Edge N L)) (value : V) (choice : Choice N L)
      (chosen : IsChoice keeps passed edges value choice) where
    -- an edge that keeps values is chosen
    keeping-has : (e : Edge N L) → Contains choice.keeping.items e
        ↔ (Contains edges e × IsTrue (keeps e.label))
    keeping-has e =
        let r = Contains-filter (λ (x : Edge N L). keeps x.label) edges e in (
          λ has. r.0 (subst (λ (l : List (Edge N L)). Contains l e) chosen.keeping has),
          λ both. subst (λ (l : List (Edge N L)). Contains l e) (sym chosen.keeping) (r.1 both),
        )

    -- what the chosen edges that keep values make
    keeping-makes : (q : N × V) → Contains (filter_map (pair_by passed value) choice.keeping.items)
        q → Makes passed value edges q.0 q.1
    keeping-makes q has =
        let (e, among, to, is) = (Contains-pairs value choice.keeping.items q).0 has in
        (e, ((keeping-has e).0 among).0, to, is)

    -- what an edge makes is kept or changed
    kept-or-changed : (q : N × V) → Makes passed value edges q.0 q.1 →
        Contains (filter_map (pair_by passed value) choice.keeping.items) q
        ⊎ Makes (changed keeps passed) value edges q.0 q.1
    kept-or-changed q (e, has, to, is) = elim (cases_Bool (keeps e.label)) [
      | inl stays ↦
          inl ((Contains-pairs value choice.keeping.items q).1 (
            e,
            (keeping-has e).1 (has, stays),
            to,
            is,
          ))
      | inr other ↦ inr (e, has, to, changed-other keeps passed e.label value other ∙ is)
    ]

    -- pairs over the chosen edges that keep values
    pub IsMadeBut-keeping : (before : Bool) (pairs : List (N × V)) → IsTrue before →
        pairs ≡ filter_map (pair_by passed value) choice.keeping.items → IsMadeBut keeps passed
        edges value before pairs
    IsMadeBut-keeping before pairs marked is = record {
      only = λ q has. keeping-makes q (subst (λ (l : List (N × V)). Contains l q) is has);
      whole = λ q makes. elim (kept-or-changed q makes) [
        | inl kept ↦ inl (subst (λ (l : List (N × V)). Contains l q) (sym is) kept)
        | inr other ↦ inr (marked, other)
      ];
    }

    -- pairs over all chosen edges
    pub IsMadeBut-chosen : (others : List (Edge N L)) → IsEnough (changed keeps passed) edges value
        others → (before : Bool) (pairs : List (N × V)) → pairs ≡ filter_map (pair_by passed value)
        choice.keeping.items ++ filter_map (pair_by passed value) others → IsMadeBut keeps passed
        edges value before pairs
    IsMadeBut-chosen others enough before pairs is = record { only = only; whole = whole } where
      keeping : List (N × V)
      keeping = filter_map (pair_by passed value) choice.keeping.items

      changing : List (N × V)
      changing = filter_map (pair_by passed value) others

      only : (q : N × V) → Contains pairs q → Makes passed value edges q.0 q.1
      only q has =
          elim (Contains-append_cases keeping changing q
          (subst (λ (l : List (N × V)). Contains l q) is has)) [
            | inl kept ↦ keeping-makes q kept
            | inr other ↦
                let (e, among, to, makes) = (Contains-pairs value others q).0 other in
                (e, enough.among e among, to, makes)
          ]

      whole : (q : N × V) → Makes passed value edges q.0 q.1 → Contains pairs q
          ⊎ (IsTrue before × Makes (changed keeps passed) value edges q.0 q.1)
      whole q makes = inl (subst (λ (l : List (N × V)). Contains l q) (sym is)
          (elim (kept-or-changed q makes) [
            | inl kept ↦ Contains-append_left keeping changing q kept
            | inr other ↦ Contains-append_right keeping changing q
                ((Contains-pairs value others q).1 (Makes-changed value others q.0 q.1
                (enough.whole q.0 q.1 other)))
          ]))

  module _ {K : Type 0} (kind_of : V → K) (alike : (l m : L) (v w : V) → keeps l ≡ false →
      keeps m ≡ false → kind_of v ≡ kind_of w → passed l v ≡ passed m v → passed l w ≡ passed m w)
      (dropped : (l : L) (v w : V) → keeps l ≡ false → kind_of v ≡ kind_of w → passed l v ≡ None →
      passed l w ≡ None) where
    -- what is enough for a value is enough for each of its kind
    IsEnough-alike : (edges kept : List (Edge N L)) (v w : V) → kind_of v ≡ kind_of w →
        IsEnough (changed keeps passed) edges v kept → IsEnough (changed keeps passed) edges w kept
    IsEnough-alike edges kept v w same enough = record { among = enough.among; whole = whole } where
      whole : (node : N) (made : V) → Makes (changed keeps passed) w edges node made →
          Makes (changed keeps passed) w kept node made
      whole node made (e, has, to, is) = go (changed keeps passed e.label v) refl where
        go : (o : Option V) → changed keeps passed e.label v ≡ o → Makes (changed keeps passed) w
            kept node made
        go None none = let wrong : None ≡ Some made =
            sym (changed-dropped keeps passed kind_of alike dropped e.label v w same none) ∙ is in
            cc
        go (Some x) some =
            let (f, kept_, at, makes) = enough.whole node x (e, has, to, some) in (
              f,
              kept_,
              at,
              sym (changed-alike keeps passed kind_of alike dropped e.label f.label v
                  w x same some makes) ∙ is,
            )

    -- and so if some are chosen
    IfSome-alike : (edges : List (Edge N L)) (o : Option (Vec (Edge N L))) (v w : V) → kind_of v
        ≡ kind_of w → IfSome o (λ kept. IsEnough (changed keeps passed) edges v kept.items) →
        IfSome o (λ kept. IsEnough (changed keeps passed) edges w kept.items)
    IfSome-alike edges None v w same is = is
    IfSome-alike edges (Some kept) v w same enough = IsEnough-alike edges kept.items v w same enough

    module _ {cmp : N × K → N × K → Ordering} (exact : CmpEqualImpliesEq cmp)
        (all : N → List (Edge N L)) (old new : N × K → Option (Choice N L)) (node : N) (value : V)
        (choice : Choice N L) where
      -- one more node and kind
      pub AreChoices-entered : AreChoices keeps passed kind_of all old → IsChoice keeps passed
          (all node)
          value choice → ((key : N × K) → new key ≡ cond (is_at (cmp (node, kind_of value)) key)
          (Some choice) (old key)) → AreChoices keeps passed kind_of all new
      AreChoices-entered before chosen step n v k has =
          elim (cases_Bool (is_at (cmp (node, kind_of value)) (n, kind_of v))) [
            | inl same ↦
                let it : (node, kind_of value) ≡ (n, kind_of v) = tells_apart exact
                (node, kind_of value) (n, kind_of v) same in
                let both : Some choice ≡ Some k =
                sym (step (n, kind_of v) ∙ ap (λ b. cond b (Some choice) (old (n, kind_of v)))
                same) ∙ has in
                let alike_ : choice ≡ k = cc in
                subst (λ (m : N). IsChoice keeps passed (all m) v k) (ap (λ (q : N × K). q.0) it)
                (subst (λ (c : Choice N L). IsChoice keeps passed (all node) v c) alike_
                (record {
                  keeping = chosen.keeping;
                  changing = IfSome-alike (all node)
                      choice.changing value v (ap (λ (q : N × K). q.1) it) chosen.changing;
                }))
            | inr other ↦
                before n v k
                (sym (step (n, kind_of v) ∙ ap (λ b. cond b (Some choice) (old (n, kind_of v)))
                other)
                ∙ has)
          ]

  module _ {K R : Type 0} (kind_of : V → K) (group_of : V → R) (same : (l : L) (v w : V) →
      keeps l ≡ false → kind_of v ≡ kind_of w → group_of v ≡ group_of w → passed l v ≡ passed l
      w) where
    -- nothing is marked
    pub IsCovered-none : (all : N → List (Edge N L)) (marked : (N × K) × R → Bool)
        (There : N × V → Type 0) → ((m : (N × K) × R) → marked m ≡ false) → IsCovered keeps passed
        kind_of group_of all marked There
    IsCovered-none all marked There none n v has = let wrong : true ≡ false =
        sym has ∙ none ((n, kind_of v), group_of v) in cc

    -- edges that change values make the same of all values of one kind and group
    Makes-same : (edges : List (Edge N L)) (v w : V) → kind_of v ≡ kind_of w → group_of v
        ≡ group_of w → (node : N) (made : V) → Makes (changed keeps passed) v edges node made →
        Makes passed w edges node made
    Makes-same edges v w kind group node made (e, has, to, is) = (
      e,
      has,
      to,
      sym (same e.label v w (changed-Some keeps passed e.label v made is) kind
          group) ∙ passed-changed keeps passed e.label v made is,
    )

    module _ (all : N → List (Edge N L)) (old new : (N × K) × R → Bool) (There Now : N × V →
        Type 0) (node : N) (value : V) (pairs : List (N × V))
        (before : IsCovered keeps passed kind_of group_of all old There)
        (made : IsMadeBut keeps passed (all node) value
        (old ((node, kind_of value), group_of value)) pairs) (grows : (q : N × V) → There q →
        Now q) (added : (q : N × V) → Contains pairs q → Now q) where
      -- all that the edges make of the value is there
      pub there-made : (q : N × V) → Makes passed value (all node) q.0 q.1 → Now q
      there-made q makes = elim (made.whole q makes) [
        | inl has ↦ added q has
        | inr (marked, other) ↦ grows q (before node value marked q other)
      ]

      -- one more value is covered
      pub IsCovered-more : AddsAtMost old new ((node, kind_of value), group_of value) →
          IsCovered keeps passed kind_of group_of all new Now
      IsCovered-more adds n v marked q makes = elim (adds ((n, kind_of v), group_of v) marked) [
        | inl earlier ↦ grows q (before n v earlier q makes)
        | inr it ↦
            let at : node ≡ n = ap (λ (m : (N × K) × R). m.0.0) it in
            let kind : kind_of value ≡ kind_of v = ap (λ (m : (N × K) × R). m.0.1) it in
            let group : group_of value ≡ group_of v = ap (λ (m : (N × K) × R). m.1) it in
            there-made q (subst (λ (m : N). Makes passed value (all m) q.0 q.1) (sym at)
            (Makes-same (all n) v value (sym kind) (sym group) q.0 q.1 makes))
      ]

-- a set with one more mark
pub AddsAtMost-insert : {M : Type 0} {cmp : M → M → Ordering} (exact : CmpEqualImpliesEq cmp)
    (old new : BTreeSet M) (mark : M) → Updates cmp old new mark true →
    AddsAtMost (contains cmp old) (contains cmp new) mark
AddsAtMost-insert {M} {cmp} exact old new mark update m has =
    elim (cases_Bool (eq_by_cmp cmp mark m)) [
      | inl same ↦ inr (tells_apart exact mark m same)
      | inr other ↦ inl (sym (update.2 m other) ∙ has)
    ]

-- where edges lead a value back, they make it
pub LeadsBack-makes : {N L V : Type 0} (passed : L → V → Option V) (backward : N → List (Edge N L))
    (p q : N × V) → LeadsBack passed backward p q ↔ Makes passed p.1 (backward p.0) q.0 q.1
LeadsBack-makes {N} {L} passed backward p q = (
  λ (label, has, is). (record { to = q.0; label = label }, has, refl, is),
  λ (e, has, to, is). (
    e.label,
    subst (λ (n : N). Contains (backward p.0) (record { to = n; label = e.label })) to
        has,
    is,
  ),
)
