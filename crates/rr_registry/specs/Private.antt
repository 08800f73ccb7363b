-- What the private functions of src promise each other. No public clause cites these.
use Rattle.std.specs.Prelude.{◌≡◌, ◌⊎◌, ◌||◌, ℕ, Bool, true, false, List, []}
use Rattle.std.specs.Prelude.{◌∷◌, None, Some, map}
use Rattle.std.specs.BTreeMap.{values}
use Rattle.std.specs.List.{list_any}
use Rattle.std.specs.FinMap.{contains_key, empty, get, insert}
use Rattle.std.specs.Ordering.{eq_by_cmp, is_lt}
use Rattle.rr_number.specs.Spans.{Ends}
use Rattle.rr_object.specs.declared.code.Code.TheVariants.{E90}
use Rattle.rr_object.specs.declared.key.Key.{Key}
use Rattle.rr_object.specs.declared.key.Key.TheVariants.{AsBlock, Inetnum}
use Rattle.rr_object.specs.KeyOrders.{IsKeyValue, key_cmp}
use Rattle.rr_object.specs.Objects.{Obj}
use Rattle.rr_auth.specs.declared.item.Item.{Item}
use Rattle.rr_auth.specs.declared.verdict.Verdict.{Verdict}
use Rattle.rr_auth.specs.declared.verdict.Verdict.TheVariants.{Refuse}
use Rattle.rr_auth.specs.declared.known.Known.{Known}
use Rattle.rr_auth.specs.Known.{IsKnown}
use Rattle.rr_auth.specs.Laws.{IsItem}
use Rattle.rr_auth.specs.Registries.{Reg, Sound, keys_cross, is_crossed_by_some}
use Rattle.rr_auth.specs.Verdicts.{verdict}
use Rattle.rr_book.specs.Books.{book_of, entry, is_in_order}
use Rattle.rr_cover.specs.SpanMaps.{SpanMap}
use Rattle.rr_registry.specs.declared.gathered.Gathered.{Gathered}
use Rattle.rr_registry.specs.declared.load.LoadFault.{LoadFault}
use Rattle.rr_registry.specs.declared.load.LoadFault.TheVariants.{Memory}
use Rattle.rr_registry.specs.Loading.{clash, clash_of, gathered, is_key_of_some}

-- Objects in order whose registry has each under its own well formed key and no two that cross:
-- sound but for names.
pub record IsApart (os : List Obj) : Type 0 where
  pub ordered : is_in_order os ≡ true
  pub keyed : (k : Key) (o : Obj) → get (book_of os) k ≡ Some o → o.key ≡ k
  pub formed : (k : Key) (o : Obj) → get (book_of os) k ≡ Some o → IsKeyValue k
  pub apart : (k l : Key) (o x : Obj) → get (book_of os) k ≡ Some o
      → get (book_of os) l ≡ Some x → keys_cross k l ≡ false

-- The n-th object was put among those before it.
pub record IsTakenIn (before : List Obj) (n : ℕ) (o : Obj) (grown : List Obj) : Type 0 where
  pub free : clash_of before n o ≡ None
  pub apart : IsApart grown
  pub put : book_of grown ≡ insert (book_of before) o.key o
  pub joined : (p : Obj → Bool) → list_any p grown ≡ (p o || list_any p before)

-- The objects of a list were put in, one after the other.
pub record IsGathered (os : List Obj) (grown : List Obj) : Type 0 where
  pub free : clash [] 1 os ≡ None
  pub apart : IsApart grown
  pub whole : book_of grown ≡ gathered empty os

-- The fault is that of the first object of a list whose key stands twice or whose span crosses one
-- before it, or memory ran out.
abbrev pub IsClashOf : List Obj → LoadFault → Type 0
IsClashOf os fault = (fault ≡ Memory) ⊎ (clash [] 1 os ≡ Some fault)

-- The key of an object is below that of the first of others, if there is one.
abbrev pub is_below : Obj → List Obj → Bool
is_below o [] = true
is_below o (x ∷ xs) = is_lt (key_cmp o.key x.key)

-- The objects that were gathered, in the order of their keys.
abbrev pub objects_of : Gathered → List Obj
objects_of g = values g.objects

-- The spans are those of the inetnums and of the as-blocks of a list.
pub record HoldsSpans (os : List Obj) (inetnums blocks : SpanMap (Unit {0})) : Type 0 where
  pub inetnums_are : (s : Ends) → contains_key inetnums s ≡ is_key_of_some (Inetnum s) os
  pub blocks_are : (s : Ends) → contains_key blocks s ≡ is_key_of_some (AsBlock s) os

-- The span of a key that no object of a list crosses was put among those of the list.
pub record IsEntered (os : List Obj) (key : Key)
    (inetnums blocks : SpanMap (Unit {0})) : Type 0 where
  pub free : is_crossed_by_some key os ≡ false
  pub inetnums_are : (s : Ends) → contains_key inetnums s
      ≡ (eq_by_cmp key_cmp (Inetnum s) key || is_key_of_some (Inetnum s) os)
  pub blocks_are : (s : Ends) → contains_key blocks s
      ≡ (eq_by_cmp key_cmp (AsBlock s) key || is_key_of_some (AsBlock s) os)

-- What was gathered is consistent: each object stands under its own key, and the spans are those of
-- the objects.
pub record IsConsistent (g : Gathered) : Type 0 where
  pub apart : IsApart (values g.objects)
  pub keyed : g.objects.entries ≡ map entry (values g.objects)
  pub spans : HoldsSpans (values g.objects) g.spans.inetnums g.spans.blocks

-- A registry is sound, and what is known of it holds.
pub record IsKeptRegistry (r : Reg) (known : Known) : Type 0 where
  pub sound : Sound r
  pub remembered : IsKnown r known

-- The verdict on an item, or a refusal with E90 if memory runs out (profile).
abbrev pub IsJudged : Reg → List (List ℕ) → Item → Verdict → Type 0
IsJudged r secrets item judged = (judged ≡ verdict r secrets item) ⊎ (judged ≡ Refuse E90)

-- The verdict on an item is that of the rules, or a refusal with E90 if memory runs out. The item
-- is well formed, and the secrets stay as they were (profile).
pub record JudgesItem (r : Reg) (secrets : List (List ℕ)) (item : Item) (judged : Verdict)
    (after : List (List ℕ)) : Type 0 where
  pub verdict_is : IsJudged r secrets item judged
  pub formed : IsItem item
  pub same_secrets : after ≡ secrets
