-- What is read of the items of `mnt-routes` is what they spell.
-- Both ways are inductions: one over items, by three states of the reader, one over entries, by
-- three forms. Reading keeps how the items so far are cut; spelling needs that a name is no
-- keyword and no brace. These cuts are given by hand. The law `grants_are_read_as_spelled` needs
-- both ways.
use Rattle.std.proofs.Common.{◌≡◌, arith, ℕ, List, [], ◌∷◌, ◌++◌, Option, Some, None, Bool, true}
use Rattle.std.proofs.Common.{false, ◌⊎◌, inl, inr, refl, sym, ap, ◌∙◌, append_assoc, if◌then◌else◌}
use Rattle.std.proofs.Common.{is_some}
use Rattle.std.proofs.lemmas.List.{append-nil}
use Rattle.std.proofs.lemmas.List.Elements.{filter_map-append}
use Rattle.std.proofs.lemmas.List.Folds.{list_all-append}
use Rattle.std.proofs.lemmas.Slice.Eq.{bytes_eq-Decides}
use Rattle.std.specs.Prelude.{codes}
use Rattle.std.proofs.lemmas.Bool.Decides.{nat_tests}
use Rattle.std.proofs.lemmas.Iterator.Adapters.{option_map_id}
use Rattle.std.specs.Char.{to_ascii_lowercase, to_ascii_uppercase}
use Rattle.std.specs.Option.{option_map, option_and_then, option_to_list}
use Rattle.rr_number.specs.Applied.{ranged_from, ranged_of}
use Rattle.rr_bytes.specs.Cuts.{cut_at}
use Rattle.rr_bytes.specs.LetterCase.{upper}
use Rattle.rr_bytes.specs.NameBytes.{is_name}
use Rattle.rr_number.specs.Names.{is_maintainer_name, is_reserved, maintainer_name_of, name_of}
use Rattle.rr_number.specs.Prefixes.{prefix_of}
use Rattle.rr_number.specs.Ranges.{RangeParts}
use Rattle.rr_object.specs.declared.grants.OpenGrant.{OpenGrant}
use Rattle.rr_object.specs.declared.grants.OpenGrant.TheVariants.{Nothing, Named, Braced}
use Rattle.rr_object.specs.Grants.{grants_after, for_each_prefix, for_no_prefix, is_any, is_closing}
use Rattle.rr_object.specs.Grants.{is_opening, last_grant, next_grant, range_item, with_range}
use Rattle.rr_object.specs.GrantTexts.{AreGrants, IsGrant, ReadGrantsAreSpelled}
use Rattle.rr_object.specs.GrantTexts.{SpelledGrantsAreRead}
use Rattle.rr_bytes.specs.LetterCase.{is_keyword, lowered}
use Rattle.rr_object.specs.Items.{are_good, meant, meant_by}
use Rattle.rr_object.specs.Parts.{GrantParts}

-- items that spell a name, an opening brace and ranges
record IsOpened (items : List (List ℕ)) (grant : GrantParts) : Type 0 where
  pub item : List ℕ
  pub listed : List (List ℕ)
  pub spelled : items ≡ item ∷ (codes "{" ∷ listed)
  pub named : maintainer_name_of item ≡ Some grant.name
  pub good : are_good range_item listed ≡ true
  pub value : grant ≡ record { name = grant.name; any = false; ranges = meant range_item listed }

record IsName (items : List (List ℕ)) (name : List ℕ) : Type 0 where
  pub item : List ℕ
  pub spelled : items ≡ item ∷ []
  pub named : maintainer_name_of item ≡ Some name

-- items that spell what is open
abbrev Begins : OpenGrant → List (List ℕ) → Type 0
Begins Nothing items = items ≡ []
Begins (Named name) items = IsName items name
Begins (Braced grant) items = IsOpened items grant

-- items that spell the entry that was ended, if one was
abbrev Ends : Option GrantParts → List (List ℕ) → Type 0
Ends None items = items ≡ []
Ends (Some grant) items = IsGrant items grant

-- items cut in those of the entry that was ended and of what is open
record IsTurn (items : List (List ℕ)) (next : Option GrantParts × OpenGrant) : Type 0 where
  pub done : List (List ℕ)
  pub left : List (List ℕ)
  pub cut : items ≡ done ++ left
  pub ended : Ends next.0 done
  pub begins : Begins next.1 left

abbrev named_next : List ℕ → Option GrantParts × OpenGrant
named_next name = (None, Named name)

nothing_turn : (item : List ℕ) (next : Option GrantParts × OpenGrant) (r : Option (List ℕ)) →
    maintainer_name_of item ≡ r
    → option_map named_next r ≡ Some next → IsTurn (item ∷ []) next
nothing_turn item next None at e = cc
nothing_turn item next (Some name) at e =
    let same : named_next name ≡ next = cc in
    rw (← same) (record {
      done = [];
      left = item ∷ [];
      cut = refl;
      ended = refl;
      begins =
          record { item = item; spelled = refl; named = at };
    })

abbrev also_named : List ℕ → List ℕ → Option GrantParts × OpenGrant
also_named name next = (Some (for_each_prefix name), Named next)

abbrev ended_next : GrantParts → Option GrantParts × OpenGrant
ended_next grant = (Some grant, Nothing)

abbrev opened_next : List ℕ → Option GrantParts × OpenGrant
opened_next name = (None, Braced (for_no_prefix name))

named_turn : (name item : List ℕ) (items : List (List ℕ)) (next : Option GrantParts × OpenGrant)
    (b c : Bool) (r : Option (List ℕ))
    → IsName items name → is_any item ≡ b → is_opening item ≡ c → maintainer_name_of item ≡ r
    → (if b then Some (ended_next (for_each_prefix name)) else if c then Some (opened_next name)
    else option_map (also_named name) r) ≡ Some next
    → IsTurn (items ++ (item ∷ [])) next
named_turn name item items next true c r begins any opening at e =
    let same : ended_next (for_each_prefix name) ≡ next = cc in
    let entry : IsGrant (items ++ (item ∷ [])) (for_each_prefix name) =
    inr (inl (record {
      item = begins.item;
      keyword = item;
      spelled = ap (λ xs. xs ++ (item ∷ [])) begins.spelled;
      named = begins.named;
      any = any;
      value = refl;
    })) in
    rw (← same)
    (record {
      done = items ++ (item ∷ []);
      left = [];
      cut =
          sym (append-nil (items ++ (item ∷ [])));
      ended = entry;
      begins = refl;
    })
named_turn name item items next false true r begins any opening at e =
    let same : opened_next name ≡ next = cc in
    let brace : item ≡ codes "{" = (bytes_eq-Decides item (codes "{")).0 opening in
    let opened : IsOpened (items ++ (item ∷ [])) (for_no_prefix name) =
    record {
      item = begins.item;
      listed = [];
      spelled = ap (λ xs. xs ++ (item ∷ [])) begins.spelled ∙ ap (λ i. begins.item ∷ (i ∷ []))
          brace;
      named = begins.named;
      good = refl;
      value = refl;
    } in
    rw (← same) (record {
      done = [];
      left = items ++ (item ∷ []);
      cut = refl;
      ended = refl;
      begins = opened;
    })
named_turn name item items next false false None begins any opening at e = cc
named_turn name item items next false false (Some n) begins any opening at e =
    let same : also_named name n ≡ next = cc in
    let entry : IsGrant items (for_each_prefix name) =
    inl (record {
      item = begins.item;
      spelled = begins.spelled;
      named = begins.named;
      value =
          refl;
    }) in
    rw (← same)
    (record {
      done = items;
      left = item ∷ [];
      cut = refl;
      ended = entry;
      begins =
          record { item = item; spelled = refl; named = at };
    })

-- one range more is well spelled, and stands for what it is
good_more : (listed : List (List ℕ)) (item : List ℕ) (range : Option RangeParts) → range_item item
    ≡ Some range
    → are_good range_item listed ≡ true → are_good range_item (listed ++ (item ∷ [])) ≡ true
good_more listed item range at good =
    list_all-append (λ i. is_some (range_item i)) listed (item ∷ []) ∙ rw (good, at) refl

meant_more : (listed : List (List ℕ)) (item : List ℕ) (range : Option RangeParts) → range_item item
    ≡ Some range
    → meant range_item (listed ++ (item ∷ [])) ≡ meant range_item listed ++ option_to_list range
meant_more listed item range at =
    filter_map-append (λ i. meant_by (range_item i)) listed (item ∷ [])
    ∙ ap (λ xs. meant range_item listed ++ xs) (meant_one item range at)
  where
    meant_one : (item : List ℕ) (range : Option RangeParts) → range_item item ≡ Some range →
        meant range_item (item ∷ []) ≡ option_to_list range
    meant_one item None at = rw at refl
    meant_one item (Some r) at = rw at refl

abbrev in_braces : GrantParts → Option RangeParts → Option GrantParts × OpenGrant
in_braces grant range = (None, Braced (with_range grant range))

ranges_more : (grant : GrantParts) (ranges : List RangeParts) (range : Option RangeParts)
    → grant ≡ record { name = grant.name; any = false; ranges = ranges }
    → with_range grant range ≡ record {
      name = grant.name;
      any = false;
      ranges =
          ranges ++ option_to_list range;
    }
ranges_more grant ranges None at =
    at ∙ ap (λ rs. record { name = grant.name; any = false; ranges = rs }) (sym (append-nil ranges))
ranges_more grant ranges (Some range) at =
    ap (λ g. record { name = grant.name; any = g.any; ranges = g.ranges ++ (range ∷ []) }) at

name_kept : (grant : GrantParts) (range : Option RangeParts) → (with_range grant range).name
    ≡ grant.name
name_kept grant None = refl
name_kept grant (Some range) = refl

opened_more : (grant : GrantParts) (item : List ℕ) (items : List (List ℕ))
    (range : Option RangeParts) → IsOpened items grant
    → range_item item ≡ Some range → IsOpened (items ++ (item ∷ [])) (with_range grant range)
opened_more grant item items range begins at =
    record {
      item = begins.item;
      listed = begins.listed ++ (item ∷ []);
      spelled = ap (λ xs. xs ++ (item ∷ [])) begins.spelled;
      named = begins.named ∙ ap Some (sym (name_kept grant range));
      good = good_more begins.listed item range at begins.good;
      value =
          ranges_more grant (meant range_item begins.listed) range begins.value
          ∙ (λ i. record {
            name = sym (name_kept grant range) i;
            any = false;
            ranges =
                sym (meant_more begins.listed item range at) i;
          });
    }

braced_turn : (grant : GrantParts) (item : List ℕ) (items : List (List ℕ))
    (next : Option GrantParts × OpenGrant) (b : Bool)
    (r : Option (Option RangeParts)) → IsOpened items grant → is_closing item ≡ b → range_item item
    ≡ r
    → (if b then Some (ended_next grant) else option_map (in_braces grant) r) ≡ Some next →
    IsTurn (items ++ (item ∷ [])) next
braced_turn grant item items next true r begins closing at e =
    let same : ended_next grant ≡ next = cc in
    let brace : item ≡ codes "}" = (bytes_eq-Decides item (codes "}")).0 closing in
    let entry : IsGrant (items ++ (item ∷ [])) grant =
    inr (inr (record {
      item = begins.item;
      listed = begins.listed;
      spelled = ap (λ xs. xs ++ (item ∷ [])) begins.spelled
          ∙ ap (λ i. begins.item ∷ (codes "{" ∷ (begins.listed ++ (i ∷ [])))) brace;
      named = begins.named;
      good = begins.good;
      value = begins.value;
    })) in
    rw (← same)
    (record {
      done = items ++ (item ∷ []);
      left = [];
      cut =
          sym (append-nil (items ++ (item ∷ [])));
      ended = entry;
      begins = refl;
    })
braced_turn grant item items next false None begins closing at e = cc
braced_turn grant item items next false (Some range) begins closing at e =
    let same : in_braces grant range ≡ next = cc in
    rw (← same)
    (record {
      done = [];
      left = items ++ (item ∷ []);
      cut = refl;
      ended = refl;
      begins =
          opened_more grant item items range begins at;
    })

turned : (open_grant : OpenGrant) (item : List ℕ) (items : List (List ℕ)) (next : Option GrantParts
    × OpenGrant) → Begins open_grant items
    → next_grant open_grant item ≡ Some next → IsTurn (items ++ (item ∷ [])) next
unfolding next_grant
turned Nothing item items next begins e =
    rw begins (nothing_turn item next (maintainer_name_of item) refl e)
turned (Named name) item items next begins e =
    named_turn name item items next (is_any item) (is_opening item) (maintainer_name_of item)
    begins refl refl refl e
turned (Braced grant) item items next begins e =
    braced_turn grant item items next (is_closing item) (range_item item) begins refl refl e

-- a list of entries is read as its first item's step and what is read after it
record IsStep (open_grant : OpenGrant) (item : List ℕ) (others : List (List ℕ))
    (grants : List GrantParts) : Type 0 where
  pub next : Option GrantParts × OpenGrant
  pub entries : List GrantParts
  pub is : next_grant open_grant item ≡ Some next
  pub after : grants_after next.1 others ≡ Some entries
  pub whole : option_to_list next.0 ++ entries ≡ grants

step_after : (open_grant : OpenGrant) (item : List ℕ) (others : List (List ℕ))
    (grants : List GrantParts) (next : Option GrantParts × OpenGrant)
    (read : Option (List GrantParts)) → next_grant open_grant item ≡ Some next →
    grants_after next.1 others ≡ read
    → option_map (λ entries. option_to_list next.0 ++ entries) read ≡ Some grants →
    IsStep open_grant item others grants
step_after open_grant item others grants next None is at e = cc
step_after open_grant item others grants next (Some entries) is at e =
    record { next = next; entries = entries; is = is; after = at; whole = cc }

step_next : (open_grant : OpenGrant) (item : List ℕ) (others : List (List ℕ))
    (grants : List GrantParts)
    (found : Option (Option GrantParts × OpenGrant)) → next_grant open_grant item ≡ found
    → option_and_then (λ next. option_map (λ entries. option_to_list next.0 ++ entries)
    (grants_after next.1 others)) found ≡ Some grants
    → IsStep open_grant item others grants
step_next open_grant item others grants None is e = cc
step_next open_grant item others grants (Some next) is e =
    step_after open_grant item others grants next (grants_after next.1 others) is refl e

stepped : (open_grant : OpenGrant) (item : List ℕ) (others : List (List ℕ))
    (grants : List GrantParts)
    → grants_after open_grant (item ∷ others) ≡ Some grants → IsStep open_grant item others grants
unfolding grants_after
stepped open_grant item others grants e = step_next open_grant item others grants
    (next_grant open_grant item) refl e

-- at the end of the items
ended : (open_grant : OpenGrant) (items : List (List ℕ)) (grants : List GrantParts) →
    Begins open_grant items → last_grant open_grant ≡ Some grants
    → AreGrants grants items
ended Nothing items grants begins e = let same : [] ≡ grants = cc in rw (← same) begins
ended (Named name) items grants begins e =
    let same : for_each_prefix name ∷ [] ≡ grants = cc in
    let entry : IsGrant items (for_each_prefix name) =
    inl (record {
      item = begins.item;
      spelled = begins.spelled;
      named = begins.named;
      value =
          refl;
    }) in
    rw (← same) (record {
      head = items;
      rest = [];
      cut = sym (append-nil items);
      first = entry;
      others = refl;
    })
ended (Braced grant) items grants begins e = cc

-- the entry that was ended goes before those after it
put_before : (over : Option GrantParts) (done rest : List (List ℕ)) (entries : List GrantParts) →
    Ends over done → AreGrants entries rest
    → AreGrants (option_to_list over ++ entries) (done ++ rest)
put_before None done rest entries ends others = rw ends others
put_before (Some grant) done rest entries ends others =
    record { head = done; rest = rest; cut = refl; first = ends; others = others }

all_after : (whole done left rest : List (List ℕ)) (over : Option GrantParts)
    (entries grants : List GrantParts)
    → whole ≡ done ++ (left ++ rest) → option_to_list over ++ entries ≡ grants
    → AreGrants (option_to_list over ++ entries) (done ++ (left ++ rest)) → AreGrants grants whole
all_after whole done left rest over entries grants cut same all = rw (cut, ← same) all

read_after : (left : List (List ℕ)) (open_grant : OpenGrant) (items : List (List ℕ))
    (grants : List GrantParts) → Begins open_grant items
    → grants_after open_grant left ≡ Some grants → AreGrants grants (items ++ left)
unfolding grants_after
read_after [] open_grant items grants begins e = rw (append-nil items)
    (ended open_grant items grants begins e)
read_after (item ∷ left) open_grant items grants begins e =
    let step = stepped open_grant item left grants e in
    let turn = turned open_grant item items step.next begins step.is in
    let after = read_after left step.next.1 turn.left step.entries turn.begins step.after in
    let all = put_before step.next.0 turn.done (turn.left ++ left) step.entries turn.ended after in
    let cut : items ++ (item ∷ left) ≡ turn.done ++ (turn.left ++ left) =
    sym (append_assoc items (item ∷ []) left) ∙ ap (λ xs. xs ++ left) turn.cut ∙ append_assoc
    turn.done turn.left left in
    all_after (items ++ (item ∷ left)) turn.done turn.left left step.next.0 step.entries grants cut
    step.whole all

pub read_grants_are_spelled : ReadGrantsAreSpelled
read_grants_are_spelled items grants e = read_after items Nothing [] grants refl e

-- what begins with a maintainer's name
record IsLed (items : List (List ℕ)) : Type 0 where
  pub item : List ℕ
  pub name : List ℕ
  pub others : List (List ℕ)
  pub spelled : items ≡ item ∷ others
  pub named : maintainer_name_of item ≡ Some name

entry_led : (grant : GrantParts) (items rest : List (List ℕ)) → IsGrant items grant →
    IsLed (items ++ rest)
entry_led grant items rest (inl e) =
    record {
      item = e.item;
      name = grant.name;
      others = rest;
      spelled = ap (λ xs. xs ++ rest)
          e.spelled;
      named = e.named;
    }
entry_led grant items rest (inr (inl e)) =
    record {
      item = e.item;
      name = grant.name;
      others = e.keyword ∷ rest;
      spelled =
          ap (λ xs. xs ++ rest) e.spelled;
      named = e.named;
    }
entry_led grant items rest (inr (inr e)) =
    record {
      item = e.item;
      name = grant.name;
      others = codes "{" ∷ ((e.listed ++ (codes "}" ∷ [])) ++ rest);
      spelled = ap (λ xs. xs ++ rest) e.spelled;
      named = e.named;
    }

entries_led : (grants : List GrantParts) (items : List (List ℕ)) → AreGrants grants items →
    (items ≡ []) ⊎ IsLed items
entries_led [] items e = inl e
entries_led (grant ∷ grants) items e = inr (rw e.cut (entry_led grant e.head e.rest e.first))

-- the keyword and the braces are no names, and a brace is no range
upper_lowered : (bs : List ℕ) → upper (lowered bs) ≡ upper bs
upper_lowered [] = refl
upper_lowered (b ∷ bs) = λ i. upper_lowered_byte b i ∷ upper_lowered bs i
  where
    upper_lowered_byte : (b : ℕ) → to_ascii_uppercase (to_ascii_lowercase b) ≡ to_ascii_uppercase b
    upper_lowered_byte b = grind (arith, nat_tests)

any_no_name : (item name : List ℕ) (b : Bool) → is_any item ≡ b → maintainer_name_of item
    ≡ Some name → b ≡ false
unfolding is_keyword is_reserved
any_no_name item name false at named = refl
any_no_name item name true at named =
    let low : lowered item ≡ codes "any" = (bytes_eq-Decides (lowered item) (codes "any")).0 at in
    let high : upper item ≡ codes "ANY" = sym (upper_lowered item) ∙ ap upper low in
    let none : maintainer_name_of item ≡ None =
    ap (λ u. if is_maintainer_name u then name_of item else None) high in
    absurd (cc (none, named))

opening_no_name : (item name : List ℕ) (b : Bool) → is_opening item ≡ b → maintainer_name_of item
    ≡ Some name → b ≡ false
unfolding is_name is_reserved
opening_no_name item name false at named = refl
opening_no_name item name true at named =
    let none : maintainer_name_of item ≡ None = ap maintainer_name_of
    ((bytes_eq-Decides item (codes "{")).0 at) in
    absurd (cc (none, named))

brace_no_range : range_item (codes "}") ≡ None
unfolding range_item ranged_of prefix_of ranged_from cut_at
brace_no_range = refl

closing_no_range : (item : List ℕ) (range : Option RangeParts) (b : Bool) → is_closing item ≡ b →
    range_item item ≡ Some range → b ≡ false
closing_no_range item range false at read = refl
closing_no_range item range true at read =
    let none : range_item item ≡ None = ap range_item ((bytes_eq-Decides item (codes "}")).0 at)
    ∙ brace_no_range in
    absurd (cc (none, read))

-- what is read after an item's step
abbrev after_next : List (List ℕ) → Option (Option GrantParts × OpenGrant) →
    Option (List GrantParts)
after_next others found =
    option_and_then (λ next. option_map (λ entries. option_to_list next.0 ++ entries)
    (grants_after next.1 others)) found

name_first : (item name : List ℕ) (others : List (List ℕ)) → maintainer_name_of item ≡ Some name
    → grants_after Nothing (item ∷ others) ≡ grants_after (Named name) others
unfolding grants_after next_grant
name_first item name others named =
    ap (λ r. after_next others (option_map named_next r)) named ∙ option_map_id
    (grants_after (Named name) others)

next_named : (name n : List ℕ) (b c : Bool) (r : Option (List ℕ)) → b ≡ false → c ≡ false →
    r ≡ Some n
    → (if b then Some (ended_next (for_each_prefix name)) else if c then Some (opened_next name)
    else option_map (also_named name) r)
    ≡ Some (also_named name n)
next_named name n b c r eb ec er = rw (eb, ec, er) refl

-- a name ends before another name and at the end of the items
name_ends : (name : List ℕ) (rest : List (List ℕ)) → (rest ≡ []) ⊎ IsLed rest
    → grants_after (Named name) rest ≡ option_map (λ es. for_each_prefix name ∷ es)
    (grants_after Nothing rest)
unfolding grants_after next_grant
name_ends name rest (inl e) = rw e refl
name_ends name rest (inr led) =
    let no_any = any_no_name led.item led.name (is_any led.item) refl led.named in
    let no_opening = opening_no_name led.item led.name (is_opening led.item) refl led.named in
    let next = next_named name led.name (is_any led.item) (is_opening led.item)
    (maintainer_name_of led.item) no_any no_opening led.named in
    rw led.spelled
    (ap (after_next led.others) next
    ∙ ap (option_map (λ es. for_each_prefix name ∷ es))
    (sym (name_first led.item led.name led.others led.named)))

any_ends : (name keyword : List ℕ) (rest : List (List ℕ)) → is_any keyword ≡ true
    → grants_after (Named name) (keyword ∷ rest) ≡ option_map (λ es. for_each_prefix name ∷ es)
    (grants_after Nothing rest)
unfolding grants_after next_grant
any_ends name keyword rest any =
    ap
    (λ b. after_next rest
    (if b then Some (ended_next (for_each_prefix name)) else if is_opening keyword then Some
    (opened_next name) else option_map (also_named name) (maintainer_name_of keyword)))
    any

brace_opens : (name : List ℕ) (rest : List (List ℕ)) → grants_after (Named name) (codes "{" ∷ rest)
    ≡ grants_after (Braced (for_no_prefix name)) rest
unfolding grants_after next_grant is_keyword
brace_opens name rest = option_map_id (grants_after (Braced (for_no_prefix name)) rest)

abbrev with_ranges : GrantParts → List RangeParts → GrantParts
with_ranges grant ranges = record {
  name = grant.name;
  any = grant.any;
  ranges =
      grant.ranges ++ ranges;
}

next_range : (grant : GrantParts) (range : Option RangeParts) (b : Bool)
    (r : Option (Option RangeParts)) → b ≡ false → r ≡ Some range
    → (if b then Some (ended_next grant) else option_map (in_braces grant) r)
    ≡ Some (in_braces grant range)
next_range grant range b r eb er = rw (eb, er) refl

range_then : (grant : GrantParts) (range : Option RangeParts) (ranges : List RangeParts)
    → with_ranges (with_range grant range) ranges ≡ with_ranges grant
    (option_to_list range ++ ranges)
range_then grant None ranges = refl
range_then grant (Some range) ranges =
    ap (λ rs. record { name = grant.name; any = grant.any; ranges = rs })
    (append_assoc grant.ranges (range ∷ []) ranges)

meant_first : (item : List ℕ) (listed : List (List ℕ)) (range : Option RangeParts) →
    range_item item ≡ Some range
    → meant range_item (item ∷ listed) ≡ option_to_list range ++ meant range_item listed
meant_first item listed None at = rw at refl
meant_first item listed (Some range) at = rw at refl

good_rest : (item : List ℕ) (listed : List (List ℕ)) (r : Option (Option RangeParts)) →
    range_item item ≡ r
    → are_good range_item (item ∷ listed) ≡ true → (range : Option RangeParts)
    × ((r ≡ Some range) × (are_good range_item listed ≡ true))
good_rest item listed None at good = absurd (let bad = rw at at good in cc bad)
good_rest item listed (Some range) at good = (range, (refl, rw at at good))

ranges_read : (listed rest : List (List ℕ)) (grant : GrantParts) → are_good range_item listed ≡ true
    → grants_after (Braced grant) (listed ++ (codes "}" ∷ rest))
    ≡ option_map (λ es. with_ranges grant (meant range_item listed) ∷ es)
    (grants_after Nothing rest)
unfolding grants_after next_grant
ranges_read [] rest grant good =
    ap (λ g. option_map (λ es. g ∷ es) (grants_after Nothing rest))
    (λ i. record { name = grant.name; any = grant.any; ranges = sym (append-nil grant.ranges) i })
ranges_read (item ∷ listed) rest grant good =
    let first = good_rest item listed (range_item item) refl good in
    let no_closing = closing_no_range item first.0 (is_closing item) refl first.1.0 in
    let next = next_range grant first.0 (is_closing item) (range_item item) no_closing first.1.0 in
    ap (after_next (listed ++ (codes "}" ∷ rest))) next
    ∙ option_map_id (grants_after (Braced (with_range grant first.0))
    (listed ++ (codes "}" ∷ rest)))
    ∙ ranges_read listed rest (with_range grant first.0) first.1.1
    ∙ ap (λ g. option_map (λ es. g ∷ es) (grants_after Nothing rest))
    (range_then grant first.0 (meant range_item listed) ∙ ap (with_ranges grant)
    (sym (meant_first item listed first.0 first.1.0)))

entry_read : (grant : GrantParts) (items rest : List (List ℕ)) → IsGrant items grant → (rest ≡ [])
    ⊎ IsLed rest
    → grants_after Nothing (items ++ rest) ≡ option_map (λ es. grant ∷ es)
    (grants_after Nothing rest)
entry_read grant items rest (inl e) led =
    rw e.spelled
    (name_first e.item grant.name rest e.named ∙ name_ends grant.name rest led
    ∙ ap (λ g. option_map (λ es. g ∷ es) (grants_after Nothing rest)) (sym e.value))
entry_read grant items rest (inr (inl e)) led =
    rw e.spelled
    (name_first e.item grant.name (e.keyword ∷ rest) e.named ∙ any_ends grant.name e.keyword rest
    e.any
    ∙ ap (λ g. option_map (λ es. g ∷ es) (grants_after Nothing rest)) (sym e.value))
entry_read grant items rest (inr (inr e)) led =
    rw e.spelled
    (name_first e.item grant.name (codes "{" ∷ ((e.listed ++ (codes "}" ∷ [])) ++ rest)) e.named
    ∙ brace_opens grant.name ((e.listed ++ (codes "}" ∷ [])) ++ rest)
    ∙ ap (grants_after (Braced (for_no_prefix grant.name))) (append_assoc e.listed (codes "}" ∷ [])
    rest)
    ∙ ranges_read e.listed rest (for_no_prefix grant.name) e.good
    ∙ ap (λ g. option_map (λ es. g ∷ es) (grants_after Nothing rest)) (sym e.value))

spelled_after : (grants : List GrantParts) (items : List (List ℕ)) → AreGrants grants items →
    grants_after Nothing items ≡ Some grants
unfolding grants_after
spelled_after [] items e = rw e refl
spelled_after (grant ∷ grants) items e =
    rw e.cut
    (entry_read grant e.head e.rest e.first (entries_led grants e.rest e.others)
    ∙ ap (option_map (λ es. grant ∷ es)) (spelled_after grants e.rest e.others))

pub spelled_grants_are_read : SpelledGrantsAreRead
spelled_grants_are_read items grants e = spelled_after grants items e
