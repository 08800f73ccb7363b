-- The parent of a set's name, which is all of its components but the last: for `SetName::parent`.
use Rattle.std.proofs.Common.{◌≡◌, ◌⊎◌, inl, inr, ⊎_elim, ℕ, ◌-◌, ◌≤◌, ◌==◌, Bool, true, false}
use Rattle.std.proofs.Common.{◌&&◌, ◌||◌, cond, List, [], ◌∷◌, ◌++◌, length, length-append, map}
use Rattle.std.proofs.Common.{take, Some, None, refl, ap, sym, ◌∙◌, subst, arith, append_assoc}
use Rattle.std.specs.List.{onto_first, join_with_byte, list_all, list_any}
use Rattle.std.proofs.lemmas.Bool.{and_from, and_parts, le-leb, leb-true, or_cases}
use Rattle.std.proofs.lemmas.List.{take_at, length-map}
use Rattle.std.proofs.lemmas.List.Splits.{join_with_byte-slice_split}
use Rattle.rr_bytes.specs.Cuts.{cut_at}
use Rattle.std.specs.Prelude.{codes, nat_le}
use Rattle.std.specs.Cmp.Lexicographic.{bytes_decides}
use Rattle.std.specs.Str.{bytes_eq}
use Rattle.rr_bytes.specs.LetterCase.{upper}
use Rattle.rr_number.specs.declared.set_kind.SetKind.{SetKind}
use Rattle.rr_number.specs.declared.set_kind.SetKind.TheVariants.{AsSet, RouteSet}
use Rattle.rr_number.specs.Parents.{but_last, parent_text_by, parent_text}
use Rattle.rr_number.specs.SetNames.{component_text, components, is_any_set, is_as_number}
use Rattle.rr_number.specs.SetNames.{is_component, is_name_of_kind, is_set_name, is_set_word}
use Rattle.rr_number.specs.SetNames.{set_text, IsSetText}
use Rattle.rr_number.proofs.Components.{components-join, components-uncut, components-upper}
use Rattle.rr_number.proofs.Components.{some_component, EachLacks, EachLacks-components}
use Rattle.rr_number.proofs.SetNameLemmas.{components-set_text, or_left, or_right}
use Rattle.rr_bytes.proofs.CutLemmas.{cut_at-joined}

-- the last text is the whole, or stands after a colon
abbrev pub IsLastOf : List ℕ → List ℕ → Type 0
IsLastOf last text = (last ≡ text) ⊎ ((parent : List ℕ) × (text ≡ parent ++ (58 ∷ last)))

-- after a cut the rest stands after a colon
pub IsLastOf-cut : (text last before after : List ℕ) → IsLastOf last text → cut_at 58 last
    ≡ Some (before, after) → IsLastOf after text
IsLastOf-cut text last before after (inl whole) cut =
    inr (before, sym whole ∙ cut_at-joined 58 last before after cut)
IsLastOf-cut text last before after (inr (parent, stands)) cut =
    inr (
      parent ++ (58 ∷ before),
      stands ∙ ap (λ t. parent ++ (58 ∷ t))
          (cut_at-joined 58 last before after cut)
          ∙ sym (append_assoc parent (58 ∷ before) (58 ∷ after)),
    )

first-append : (t : Bool) (b : ℕ) (cs ds : List (List ℕ)) (c : List ℕ) (more : List (List ℕ)) →
    cs ≡ c ∷ more → cond t ([] ∷ (cs ++ ds)) (onto_first b (cs ++ ds)) ≡ cond t ([] ∷ cs)
    (onto_first b cs) ++ ds
first-append true b cs ds c more some = refl
first-append false b cs ds c more some = rw some refl

-- a colon stands between the components of what is before and after it
pub components-append : (parent last : List ℕ) → components (parent ++ (58 ∷ last)) ≡ components
    parent ++ components last
components-append [] last = refl
components-append (b ∷ bs) last =
    let some = some_component bs in
    rw (components-append bs last) (first-append (b == 58) b (components bs) (components last)
    some.0 some.1 some.2)

but_last-append : (cs : List (List ℕ)) (c : List ℕ) → but_last (cs ++ (c ∷ [])) ≡ cs
but_last-append [] c = refl
but_last-append (d ∷ []) c = refl
but_last-append (d ∷ e ∷ es) c = ap (λ t. d ∷ t) (but_last-append (e ∷ es) c)

parent_text_by-some : (cs : List (List ℕ)) (c : List ℕ) (more : List (List ℕ)) → cs ≡ c ∷ more →
    parent_text_by cs ≡ Some (join_with_byte 58 cs)
parent_text_by-some cs c more some = rw some refl

-- what stands before the last colon is the parent
pub parent_text-colon : (text parent last : List ℕ) → text ≡ parent ++ (58 ∷ last) → cut_at 58 last
    ≡ None → parent_text text ≡ Some parent
unfolding parent_text
parent_text-colon text parent last stands uncut =
    let some = some_component parent in
    let all : but_last (components text) ≡ components parent =
    ap (λ t. but_last (components t)) stands ∙ ap but_last (components-append parent last)
    ∙ ap (λ t. but_last (components parent ++ t)) (components-uncut last uncut)
    ∙ but_last-append (components parent) last in
    ap parent_text_by all ∙ parent_text_by-some (components parent) some.0 some.1 some.2 ∙ ap Some
    (join_with_byte-slice_split 58 parent)

-- a text without a colon has no parent
pub parent_text-uncut : (text : List ℕ) → cut_at 58 text ≡ None → parent_text text ≡ None
unfolding parent_text
parent_text-uncut text uncut = ap (λ cs. parent_text_by (but_last cs)) (components-uncut text uncut)

-- as long as the text is only the text itself
pub parent_text-whole : (text last : List ℕ) → IsLastOf last text → cut_at 58 last ≡ None →
    length last ≡ length text → parent_text text ≡ None
parent_text-whole text last (inl whole) uncut same = parent_text-uncut text (rw (sym whole) uncut)
parent_text-whole text last (inr (parent, stands)) uncut same =
    absurd (omega (arith, length-append parent (58 ∷ last), ap length stands))

pub parent_text-part : (text last : List ℕ) → IsLastOf last text → cut_at 58 last ≡ None →
    (length last ≡ length text → ⊥) → parent_text text
    ≡ Some (take (length text - length last - 1) text)
parent_text-part text last (inl whole) uncut other = absurd (other (ap length whole))
parent_text-part text last (inr (parent, stands)) uncut other =
    let place : length text - length last - 1 ≡ length parent =
    omega (arith, length-append parent (58 ∷ last), ap length stands) in
    parent_text-colon text parent last stands uncut ∙ ap Some
    (sym (ap (take (length text - length last - 1)) stands ∙ take_at parent (58 ∷ last) _
    (sym place)))

-- there is a last component
last_part : (c : List ℕ) (cs : List (List ℕ)) → (last : List ℕ)
    × (c ∷ cs ≡ but_last (c ∷ cs) ++ (last ∷ []))
last_part c [] = (c, refl)
last_part c (d ∷ ds) = let last = last_part d ds in (last.0, ap (λ t. c ∷ t) last.1)

EachLacks-but_last : (cs : List (List ℕ)) → EachLacks cs → EachLacks (but_last cs)
EachLacks-but_last [] lack = tt
EachLacks-but_last (c ∷ []) lack = tt
EachLacks-but_last (c ∷ d ∷ ds) lack = (lack.0, EachLacks-but_last (d ∷ ds) lack.1)

components-parent_text_by : (cs : List (List ℕ)) (parent : List ℕ) → EachLacks cs →
    parent_text_by cs ≡ Some parent → components parent ≡ cs
components-parent_text_by [] parent lack found = absurd (cc)
components-parent_text_by (c ∷ cs) parent lack found =
    let joined : join_with_byte 58 (c ∷ cs) ≡ parent = cc in
    ap components (sym joined) ∙ components-join c cs lack

-- the components are those of the parent and one more
pub parent_parts : (text parent : List ℕ) → parent_text text ≡ Some parent → (last : List ℕ)
    × (components text ≡ components parent ++ (last ∷ []))
unfolding parent_text
parent_parts text parent found =
    let some = some_component text in
    let last = last_part some.0 some.1 in
    let parts : components parent ≡ but_last (components text) = components-parent_text_by
    (but_last (components text)) parent (EachLacks-but_last (components text)
    (EachLacks-components text)) found in (
      last.0,
      some.2 ∙ last.1 ∙ ap (λ t. but_last t ++ (last.0 ∷ [])) (sym some.2)
          ∙ ap (λ t. t ++ (last.0 ∷ [])) (sym parts),
    )

texts-append : (cs : List (List ℕ)) (c : List ℕ) → map component_text (cs ++ (c ∷ []))
    ≡ map component_text cs ++ (component_text c ∷ [])
texts-append [] c = refl
texts-append (d ∷ ds) c = ap (λ t. component_text d ∷ t) (texts-append ds c)

-- the parent of a printed text is printed
parent_printed : (text parent last : List ℕ) → IsSetText text → components text ≡ components parent
    ++ (last ∷ []) → map component_text (components parent) ≡ components parent
parent_printed text parent last is parts =
    let whole : components text ≡ map component_text (components text) =
    ap components (sym is.printed) ∙ components-set_text text in
    let sides : components parent ++ (last ∷ []) ≡ map component_text (components parent) ++
    (component_text last ∷ []) =
    sym parts ∙ whole ∙ ap (map component_text) parts ∙ texts-append (components parent) last in
    sym (sym (but_last-append (components parent) last) ∙ ap but_last sides ∙ but_last-append
    (map component_text (components parent)) (component_text last))

set_text-parent : (parent : List ℕ) → map component_text (components parent) ≡ components parent →
    set_text parent ≡ parent
unfolding set_text
set_text-parent parent same = ap (join_with_byte 58) same ∙ join_with_byte-slice_split 58 parent

joined_longer : (cs : List (List ℕ)) (c : List ℕ) → length (join_with_byte 58 cs) ≤ length
    (join_with_byte 58 (cs ++ (c ∷ [])))
joined_longer [] c = omega arith
joined_longer (d ∷ []) c = omega (arith, length-append d (58 ∷ c))
joined_longer (d ∷ e ∷ es) c =
    omega (
      arith,
      joined_longer (e ∷ es) c,
      length-append d (58 ∷ join_with_byte 58 (e ∷ es)),
      length-append d (58 ∷ join_with_byte 58 ((e ∷ es) ++ (c ∷ []))),
    )

parent_shorter : (text parent last : List ℕ) → components text ≡ components parent ++ (last ∷ []) →
    length parent ≤ length text
parent_shorter text parent last parts =
    let one : length (join_with_byte 58 (components parent)) ≡ length parent =
    ap length (join_with_byte-slice_split 58 parent) in
    let two : length (join_with_byte 58 (components parent ++ (last ∷ []))) ≡ length text =
    ap (λ cs. length (join_with_byte 58 cs)) (sym parts) ∙ ap length
    (join_with_byte-slice_split 58 text) in
    omega (arith, joined_longer (components parent) last, one, two)

all_but_last : (p : List ℕ → Bool) (cs : List (List ℕ)) (c : List ℕ) → list_all p (cs ++ (c ∷ []))
    ≡ true → list_all p cs ≡ true
all_but_last p [] c all = refl
all_but_last p (d ∷ ds) c all =
    let parts = and_parts (p d) (list_all p (ds ++ (c ∷ []))) all in
    and_from (p d) (list_all p ds) parts.0 (all_but_last p ds c parts.1)

some_word_step : (number word numbers words : Bool) → (number || word) ≡ true → (number && numbers)
    ≡ false → (numbers ≡ false → words ≡ true) → (word || words) ≡ true
some_word_step true true numbers words one other rest = refl
some_word_step true false numbers words one other rest = rest other
some_word_step false true numbers words one other rest = refl
some_word_step false false numbers words one other rest = absurd (cc)

-- where not all components are AS numbers, one is a word
some_word : (kind : SetKind) (cs : List (List ℕ)) → list_all (is_component kind) cs ≡ true →
    list_all is_as_number cs ≡ false → list_any (is_set_word kind) cs ≡ true
some_word kind [] all other = absurd (cc)
some_word kind (c ∷ cs) all other =
    let parts = and_parts (is_component kind c) (list_all (is_component kind) cs) all in
    some_word_step (is_as_number c) (is_set_word kind c) (list_all is_as_number cs)
    (list_any (is_set_word kind) cs) parts.0 other (λ o. some_word kind cs parts.1 o)

parent_text_kind : (kind : SetKind) (text parent last : List ℕ) → components text ≡ components
    parent ++ (last ∷ []) → list_all is_as_number (components parent) ≡ false →
    is_name_of_kind kind text ≡ true → is_name_of_kind kind parent ≡ true
parent_text_kind kind text parent last parts other named =
    let split = and_parts (list_all (is_component kind) (components text))
    (list_any (is_set_word kind) (components text)) named in
    let all : list_all (is_component kind) (components parent) ≡ true =
    all_but_last (is_component kind) (components parent) last
    (subst (λ (cs : List (List ℕ)). list_all (is_component kind) cs ≡ true) parts split.0) in
    and_from _ _ all (some_word kind (components parent) all other)

-- `AS-ANY` and `RS-ANY` have one component
any_is_one : (text parent last word : List ℕ) → components text ≡ components parent ++ (last ∷ [])
    → components word ≡ word ∷ [] → bytes_eq (upper text) word ≡ true → ⊥
any_is_one text parent last word parts one same =
    let some = some_component parent in
    let alike : map upper (components text) ≡ word ∷ [] = sym (components-upper text)
    ∙ ap components ((bytes_decides (upper text) word).0 same) ∙ one in
    let count : length (components parent ++ (last ∷ [])) ≡ 1 = ap length (sym parts)
    ∙ sym (length-map (components text) upper) ∙ ap length alike in
    omega (arith, length-append (components parent) (last ∷ []), count, ap length some.2)

is_set_name-parent : (text parent last : List ℕ) → is_set_name text ≡ true → components text
    ≡ components parent ++ (last ∷ []) → list_all is_as_number (components parent) ≡ false →
    is_set_name parent ≡ true
unfolding is_set_name
is_set_name-parent text parent last named parts other =
    let split = and_parts (nat_le (length text) 255) _ named in
    let few : length parent ≤ 255 = omega (
      arith,
      parent_shorter text parent last parts,
      leb-true (length text) 255 split.0,
    ) in
    and_from (nat_le (length parent) 255) _ (le-leb (length parent) 255 few)
    (⊎_elim
    (λ any. absurd (⊎_elim (any_is_one text parent last (codes "AS-ANY") parts refl)
    (any_is_one text parent last (codes "RS-ANY") parts refl) (or_cases _ _ any)))
    (λ of_kind. or_right (is_any_set parent) _
    (⊎_elim
    (λ as_set. or_left (is_name_of_kind AsSet parent) _ (parent_text_kind AsSet text parent last
    parts other as_set))
    (λ route_set. or_right (is_name_of_kind AsSet parent) _ (parent_text_kind RouteSet text parent
    last parts other route_set))
    (or_cases (is_name_of_kind AsSet text) (is_name_of_kind RouteSet text) of_kind)))
    (or_cases (is_any_set text) (is_name_of_kind AsSet text || is_name_of_kind RouteSet text)
    split.1))

-- the parent of a set's name is one, unless it has AS numbers alone
pub IsSetText-parent : (text parent : List ℕ) → IsSetText text → parent_text text ≡ Some parent →
    list_all is_as_number (components parent) ≡ false → IsSetText parent
IsSetText-parent text parent is found other =
    let parts = parent_parts text parent found in
    record {
      spelled = is_set_name-parent text parent parts.0 is.spelled parts.1 other;
      printed = set_text-parent parent (parent_printed text parent parts.0 is parts.1);
    }
