-- What is printed of a set's name is a set's name, and its own printed text: for `SetName::read`.
use Rattle.std.proofs.Common.{◌≡◌, ℕ, ◌≤◌, Bool, true, false, ◌||◌, List, [], ◌∷◌, ⊎_elim, length}
use Rattle.std.proofs.Common.{length-append, map, refl, ap, sym, ◌∙◌, arith}
use Rattle.std.proofs.lemmas.Bool.{and_from, and_parts, or_cases, le-leb, leb-true}
use Rattle.std.proofs.lemmas.List.Splits.{join_with_byte-slice_split}
use Rattle.std.specs.Cmp.Lexicographic.{bytes_decides}
use Rattle.std.specs.List.{join_with_byte, list_all, list_any}
use Rattle.std.specs.Prelude.{codes, nat_le}
use Rattle.std.specs.Str.{bytes_eq}
use Rattle.rr_number.specs.AsNumbers.{as_number_of}
use Rattle.rr_bytes.specs.LetterCase.{upper}
use Rattle.rr_number.specs.Numerals.{number_of}
use Rattle.rr_number.specs.SetNames.{component_text, components, is_any_set, is_component}
use Rattle.rr_number.specs.SetNames.{is_name_of_kind, is_set_name, is_set_word, set_text, IsSetText}
use Rattle.rr_number.specs.declared.set_kind.SetKind.{SetKind}
use Rattle.rr_number.specs.declared.set_kind.SetKind.TheVariants.{AsSet, RouteSet}
use Rattle.rr_number.proofs.Components.{components-join, components-upper, some_component}
use Rattle.rr_number.proofs.Components.{EachLacks, EachLacks-components}
use Rattle.rr_number.proofs.ComponentTexts.{component_text-again, component_text-upper}
use Rattle.rr_number.proofs.ComponentTexts.{is_component-printed, is_set_word-printed}
use Rattle.rr_number.proofs.ComponentTexts.{lacks-component_text, length-component_text}

EachLacks-texts : (cs : List (List ℕ)) → EachLacks cs → EachLacks (map component_text cs)
EachLacks-texts [] lack = tt
EachLacks-texts (c ∷ cs) lack = (lacks-component_text c lack.0, EachLacks-texts cs lack.1)

components-join_texts : (cs : List (List ℕ)) (d : List ℕ) (ds : List (List ℕ)) → cs ≡ d ∷ ds →
    EachLacks cs → components (join_with_byte 58 (map component_text cs)) ≡ map component_text cs
components-join_texts [] d ds some lack = absurd (cc)
components-join_texts (c ∷ cs) d ds some lack = components-join (component_text c)
    (map component_text cs) (EachLacks-texts (c ∷ cs) lack)

-- the components of the printed text are those of the spelling, printed
pub components-set_text : (text : List ℕ) → components (set_text text) ≡ map component_text
    (components text)
unfolding set_text
components-set_text text =
    let some = some_component text in
    components-join_texts (components text) some.0 some.1 some.2 (EachLacks-components text)

texts-again : (cs : List (List ℕ)) → map component_text (map component_text cs)
    ≡ map component_text cs
texts-again [] = refl
texts-again (c ∷ cs) = λ i. component_text-again c i ∷ texts-again cs i

set_text-is : (text : List ℕ) → set_text text ≡ join_with_byte 58
    (map component_text (components text))
unfolding set_text
set_text-is text = refl

pub set_text-again : (text : List ℕ) → set_text (set_text text) ≡ set_text text
set_text-again text =
    set_text-is (set_text text) ∙ ap (λ cs. join_with_byte 58 (map component_text cs))
    (components-set_text text)
    ∙ ap (join_with_byte 58) (texts-again (components text)) ∙ sym (set_text-is text)

length-joined : (cs : List (List ℕ)) → length (join_with_byte 58 (map component_text cs)) ≤ length
    (join_with_byte 58 cs)
length-joined [] = omega arith
length-joined (c ∷ []) = length-component_text c
length-joined (c ∷ d ∷ ds) =
    omega (
      arith,
      length-component_text c,
      length-joined (d ∷ ds),
      length-append (component_text c)
          (58 ∷ join_with_byte 58 (map component_text (d ∷ ds))),
      length-append c (58 ∷ join_with_byte 58 (d ∷ ds)),
    )

pub length-set_text : (text : List ℕ) → length (set_text text) ≤ length text
unfolding set_text
length-set_text text = omega (
  arith,
  length-joined (components text),
  ap length (join_with_byte-slice_split 58 text),
)

texts-upper : (cs : List (List ℕ)) → map component_text (map upper cs) ≡ map component_text cs
texts-upper [] = refl
texts-upper (c ∷ cs) = λ i. component_text-upper c i ∷ texts-upper cs i

pub set_text-upper : (text : List ℕ) → set_text (upper text) ≡ set_text text
unfolding set_text
set_text-upper text = rw (components-upper text, texts-upper (components text)) refl

each-printed : (kind : SetKind) (cs : List (List ℕ)) → list_all (is_component kind) cs ≡ true →
    list_all (is_component kind) (map component_text cs) ≡ true
each-printed kind [] each = refl
each-printed kind (c ∷ cs) each =
    let parts = and_parts (is_component kind c) (list_all (is_component kind) cs) each in
    and_from _ _ (is_component-printed kind c parts.0) (each-printed kind cs parts.1)

pub or_left : (x y : Bool) → x ≡ true → (x || y) ≡ true
or_left x y is = ap (λ t. t || y) is

pub or_right : (x y : Bool) → y ≡ true → (x || y) ≡ true
or_right true y is = refl
or_right false y is = is

some-printed : (kind : SetKind) (cs : List (List ℕ)) → list_any (is_set_word kind) cs ≡ true →
    list_any (is_set_word kind) (map component_text cs) ≡ true
some-printed kind [] some = some
some-printed kind (c ∷ cs) some =
    ⊎_elim
    (λ first. or_left (is_set_word kind (component_text c))
    (list_any (is_set_word kind) (map component_text cs)) (is_set_word-printed kind c first))
    (λ later. or_right (is_set_word kind (component_text c))
    (list_any (is_set_word kind) (map component_text cs)) (some-printed kind cs later))
    (or_cases (is_set_word kind c) (list_any (is_set_word kind) cs) some)

is_name_of_kind-printed : (kind : SetKind) (text : List ℕ) → is_name_of_kind kind text ≡ true →
    is_name_of_kind kind (set_text text) ≡ true
is_name_of_kind-printed kind text named =
    let parts = and_parts (list_all (is_component kind) (components text))
    (list_any (is_set_word kind) (components text)) named in
    rw (components-set_text text) (and_from _ _ (each-printed kind (components text) parts.0)
    (some-printed kind (components text) parts.1))

as_any-printed : set_text (codes "AS-ANY") ≡ codes "AS-ANY"
unfolding set_text as_number_of number_of
as_any-printed = refl

rs_any-printed : set_text (codes "RS-ANY") ≡ codes "RS-ANY"
unfolding set_text as_number_of number_of
rs_any-printed = refl

-- a text that is a word in any letter case is printed as the word, if that is
word-printed : (text word : List ℕ) → set_text word ≡ word → bytes_eq (upper text) word ≡ true →
    set_text text ≡ word
word-printed text word printed same =
    sym (set_text-upper text) ∙ ap set_text ((bytes_decides (upper text) word).0 same) ∙ printed

is_any_set-printed : (text : List ℕ) → is_any_set text ≡ true → is_any_set (set_text text) ≡ true
is_any_set-printed text any =
    ⊎_elim
    (λ as_any. rw (word-printed text (codes "AS-ANY") as_any-printed as_any) refl)
    (λ rs_any. rw (word-printed text (codes "RS-ANY") rs_any-printed rs_any) refl)
    (or_cases (bytes_eq (upper text) (codes "AS-ANY")) (bytes_eq (upper text) (codes "RS-ANY")) any)

pub is_set_name-printed : (text : List ℕ) → is_set_name text ≡ true → is_set_name (set_text text)
    ≡ true
unfolding is_set_name
is_set_name-printed text named =
    let parts = and_parts (nat_le (length text) 255) _ named in
    let few : length (set_text text) ≤ 255 =
    omega (arith, length-set_text text, leb-true (length text) 255 parts.0) in
    and_from (nat_le (length (set_text text)) 255) _ (le-leb (length (set_text text)) 255 few)
    (⊎_elim
    (λ any. or_left (is_any_set (set_text text)) _ (is_any_set-printed text any))
    (λ of_kind. or_right (is_any_set (set_text text)) _
    (⊎_elim
    (λ as_set. or_left (is_name_of_kind AsSet (set_text text)) _
    (is_name_of_kind-printed AsSet text as_set))
    (λ route_set. or_right (is_name_of_kind AsSet (set_text text)) _
    (is_name_of_kind-printed RouteSet text route_set))
    (or_cases (is_name_of_kind AsSet text) (is_name_of_kind RouteSet text) of_kind)))
    (or_cases (is_any_set text) (is_name_of_kind AsSet text || is_name_of_kind RouteSet text)
    parts.1))

pub IsSetText-set_text : (text : List ℕ) → is_set_name text ≡ true → IsSetText (set_text text)
IsSetText-set_text text named = record {
  spelled = is_set_name-printed text named;
  printed =
      set_text-again text;
}
