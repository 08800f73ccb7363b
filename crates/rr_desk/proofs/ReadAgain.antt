-- The full dump of a registry is read again as that registry.
use Rattle.std.proofs.Common.{◌≡◌, ℕ, true, T, List, [], ◌∷◌, ◌++◌, length, map, Ok, Result, Less}
use Rattle.std.proofs.Common.{Greater, refl, sym, ap, subst, ◌∙◌, arith, append_assoc}
use Rattle.std.specs.List.{AllByRecursion}
use Rattle.std.specs.Ordering.{is_lt, ordering_reverse}
use Rattle.std.specs.FinMap.{empty, entries, entries_sorted, entries-insert, insert, is_sorted}
use Rattle.std.specs.FinMap.{len-empty, len-entries, same_entries_map, values}
use Rattle.std.specs.FinMap.Entries.{below_all, by_order, put}
use Rattle.std.proofs.lemmas.List.{append-nil}
use Rattle.rr_object.specs.declared.key.Key.{Key}
use Rattle.rr_object.specs.KeyOrders.{key_cmp}
use Rattle.rr_object.specs.Objects.{Obj}
use Rattle.rr_object.proofs.Parsed.{of_any_source}
use Rattle.rr_auth.specs.Registries.{Reg}
use Rattle.rr_object.proofs.KeyLaws.{keys_total}
use Rattle.rr_registry.specs.Loading.{IsTaken, gathered}
use Rattle.rr_store.specs.Maps.{IsKeyed}
use Rattle.rr_store.proofs.MapEntries.{first_part, is_less, second_part}
use Rattle.rr_store.proofs.MapLists.{in_order_apart, values_in_order}
use Rattle.rr_store.proofs.MapRows.{each_value, keys_told}
use Rattle.rr_desk.specs.declared.dump_read_fault.DumpReadFault.{DumpReadFault}
use Rattle.rr_desk.specs.Dumps.{IsDumpOf, dump_objects}
use Rattle.rr_desk.specs.DumpLaws.{FullDumpsAreRead, IsDumpable}
use Rattle.rr_answer.specs.Dumps.{dump}
use Rattle.rr_desk.proofs.DumpTexts.{IsPrinted, dump_read}
use Rattle.rr_desk.proofs.SoundLists.{sound_list}

-- an object as an entry of its registry
abbrev entry : Obj → Key × Obj
entry o = (o.key, o)

below_at : (k : Key) (es : List (Key × Obj)) (e : Key × Obj) (rest : List (Key × Obj)) →
    T (below_all key_cmp k (es ++ e ∷ rest)) → key_cmp k e.0 ≡ Less
below_at k [] e rest h = is_less _ (first_part (is_lt (key_cmp k e.0)) _ h)
below_at k (x ∷ es) e rest h = below_at k es e rest (second_part (is_lt (key_cmp k x.0)) _ h)

-- an entry above all others is put after them
put_last : (es : List (Key × Obj)) (e : Key × Obj) (rest : List (Key × Obj)) →
    T (is_sorted key_cmp (es ++ e ∷ rest)) → put key_cmp e.0 e.1 es ≡ es ++ e ∷ []
put_last [] e rest h = refl
put_last (x ∷ es) e rest h =
    let less = below_at x.0 es e rest (first_part (below_all key_cmp x.0 (es ++ e ∷ rest)) _ h) in
    let greater : key_cmp e.0 x.0 ≡ Greater = keys_total.antisymm e.0 x.0 ∙ ap ordering_reverse
    less in
    (λ i. by_order (greater i) ((e.0, e.1) ∷ (x ∷ es)) ((x.0, e.1) ∷ es)
    (x ∷ put key_cmp e.0 e.1 es))
    ∙ ap (λ l. x ∷ l)
    (put_last es e rest (second_part (below_all key_cmp x.0 (es ++ e ∷ rest)) _ h))

-- objects in order, all above those of a registry, are its last entries once they are put in
entries_gathered : (r : Reg) (os : List Obj) → T (is_sorted key_cmp (entries r ++ map entry os)) →
    entries (gathered r os) ≡ entries r ++ map entry os
entries_gathered r [] h = sym (append-nil (entries r))
entries_gathered r (o ∷ os) h =
    let step : entries (insert r o.key o) ≡ entries r ++ entry o ∷ [] = entries-insert keys_total r
    o.key o ∙ put_last (entries r) (entry o) (map entry os) h in
    let shape : entries (insert r o.key o) ++ map entry os ≡ entries r ++ entry o ∷ map entry os =
    ap (λ es. es ++ map entry os) step ∙ append_assoc (entries r) (entry o ∷ [])
    (map entry os) in
    entries_gathered (insert r o.key o) os (subst (λ es. T (is_sorted key_cmp es)) (sym shape) h)
    ∙ shape

no_entry : (es : List (Key × Obj)) → length es ≡ 0 → es ≡ []
no_entry [] none = refl
no_entry (e ∷ es) none = absurd (omega arith)

empty_entries : entries (empty {X = Obj} {R = key_cmp}) ≡ []
empty_entries = no_entry (entries empty) (sym (len-entries (empty {X = Obj} {R = key_cmp}))
    ∙ len-empty key_cmp Obj)

entries_told : (es : List (Key × Obj)) → AllByRecursion (λ (e : Key × Obj). e.1.key ≡ e.0) es →
    map entry (map (λ e. e.1) es) ≡ es
entries_told [] told = refl
entries_told (e ∷ es) told = let rest = entries_told es told.1 in λ i. (told.0 i, e.1) ∷ rest i

-- a registry is its objects put in one by one
values_gathered : (r : Reg) → IsKeyed r → gathered empty (values r) ≡ r
values_gathered r keyed =
    let told : map entry (values r) ≡ entries r = entries_told (entries r) (keys_told r keyed) in
    let shape : entries empty ++ map entry (values r) ≡ entries r =
    ap (λ es. es ++ map entry (values r)) empty_entries ∙ told in
    same_entries_map (gathered empty (values r)) r
    (entries_gathered empty (values r) (subst (λ es. T (is_sorted key_cmp es)) (sym shape)
    (entries_sorted r)) ∙ shape)

keyed_as_dumped : (source : List ℕ) (r : Reg) → IsDumpable source r → IsKeyed r
keyed_as_dumped source r is = record {
  keyed = is.of_source.sound.keyed;
  formed = is.of_source.sound.formed;
  read = λ k o found. record {
    fields = is.fields k o found;
    read = of_any_source o.paragraph
        source o (is.of_source.read k o found);
  };
}

-- and nothing is the matter with them
values_taken : (source : List ℕ) (r : Reg) → IsDumpable source r → IsTaken (values r) r
values_taken source r is =
    let keyed = keyed_as_dumped source r is in
    let same = values_gathered r keyed in
    record {
      faultless = sound_list (values r) r (in_order_apart (values r) (values_in_order r keyed))
          is.of_source.sound same;
      whole = sym same;
    }

values_read : (source : List ℕ) (r : Reg) → IsDumpable source r → dump_objects source (dump true r)
    ≡ Ok (values r)
values_read source r is =
    dump_read source (values r) (length (values r)) (each_value r (keyed_as_dumped source r is)
    (IsPrinted source) (λ k o found. record {
      read = is.of_source.read k o found;
      fields =
          is.fields k o found;
      small = is.small k o found;
    }))

-- a text is a dump of one registry
one_dump : (source text : List ℕ) (a b : Reg) → IsDumpOf source text a → IsDumpOf source text b →
    a ≡ b
one_dump source text a b of_a of_b =
    let both : ◌≡◌ {A = Result (List Obj) DumpReadFault} (Ok of_a.objects) (Ok of_b.objects) =
    sym of_a.are ∙ of_b.are in
    let same : of_a.objects ≡ of_b.objects = cc in
    of_a.taken.whole ∙ ap (gathered empty) same ∙ sym of_b.taken.whole

pub full_dumps_read : FullDumpsAreRead
full_dumps_read source r is =
    let this : IsDumpOf source (dump true r) r =
    record {
      objects = values r;
      are = values_read source r is;
      taken = values_taken source r
          is;
    } in
    record {
      objects = values_read source r is;
      same = this;
      alone = λ other of_other.
          one_dump source (dump true r) other r of_other this;
    }
