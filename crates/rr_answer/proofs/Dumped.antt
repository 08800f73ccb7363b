-- Parts of dumps, one after the other.
use Rattle.std.proofs.Common.{◌≡◌, ℕ, ◌+◌, ◌<◌, ◌≤◌, Bool, true, false, Bor, List, ◌++◌, length}
use Rattle.std.proofs.Common.{get_or, drop, sym, ap, ◌∙◌, append_assoc, arith}
use Rattle.std.specs.Prelude.{codes, decimal, flat_map}
use Rattle.std.proofs.Math.ListN.{drop_of_length-le}
use Rattle.std.proofs.lemmas.List.{append-nil, length-append, length-map}
use Rattle.std.specs.FinMap.{values}
use Rattle.rr_auth.specs.Registries.{Reg}
use Rattle.rr_io.specs.Told.{Told}
use Rattle.rr_io.specs.Sending.{Takes}
use Rattle.rr_io.proofs.Transfers.{Takes-then, TakesPrefix-more, TakesPrefix-then, flat_map-next}
use Rattle.rr_object.specs.Objects.{Obj}
use Rattle.rr_sets.specs.Lists.{lent}
use Rattle.rr_answer.specs.declared.dumping.DumpFault.{DumpFault}
use Rattle.rr_answer.specs.declared.dumping.DumpFault.TheVariants.{Write, Memory}
use Rattle.rr_answer.specs.HasBytes.{line_has_bytes}
use Rattle.rr_answer.specs.Dumps.{IsCut, dump, dumped, end_line}
use Rattle.rr_answer.proofs.Lists.{texts_lent}

part_whole : (xs ys zs prefix rest : List ℕ) → ys ≡ prefix ++ rest → xs ++ (ys ++ zs)
    ≡ (xs ++ prefix) ++ (rest ++ zs)
part_whole xs ys zs prefix rest e =
    ap (λ l. xs ++ (l ++ zs)) e ∙ ap (λ l. xs ++ l) (append_assoc prefix rest zs)
    ∙ sym (append_assoc xs prefix (rest ++ zs))

-- what was taken, and then something that was cut short, with more to come
pub cut_between : (start middle end : Told) (xs ys zs : List ℕ) (fault : DumpFault) →
    Takes start middle xs → IsCut ys middle end fault
    → IsCut (xs ++ (ys ++ zs)) start end fault
cut_between start middle end xs ys zs Write p q = TakesPrefix-then xs (ys ++ zs) p
    (TakesPrefix-more ys zs q)
cut_between start middle end xs ys zs Memory p q = record {
  prefix = xs ++ q.prefix;
  rest = q.rest ++ zs;
  whole = part_whole xs ys zs q.prefix q.rest q.whole;
  some_left = let l : 0 < length q.rest = q.some_left in rw length-append (omega arith);
  takes = Takes-then xs q.prefix p q.takes;
}

-- what was taken, and then something that was cut short
pub cut_after : (start middle end : Told) (xs ys : List ℕ) (fault : DumpFault) →
    Takes start middle xs → IsCut ys middle end fault
    → IsCut (xs ++ ys) start end fault
cut_after start middle end xs ys Write p q = TakesPrefix-then xs ys p q
cut_after start middle end xs ys Memory p q = record {
  prefix = xs ++ q.prefix;
  rest = q.rest;
  whole = ap (λ l. xs ++ l) q.whole ∙ sym (append_assoc xs q.prefix q.rest);
  some_left = q.some_left;
  takes = Takes-then xs q.prefix p q.takes;
}

-- an object in a dump has the empty line after it
pub object_has_bytes : (full : Bool) (o : Obj) → 0 < length (dumped full o)
object_has_bytes true o = line_has_bytes _
object_has_bytes false o = line_has_bytes _

-- a dump has its last line
pub dump_has_bytes : (full : Bool) (r : Reg) → 0 < length (dump full r)
dump_has_bytes full r =
    let l : 0 < length (end_line (length (values r))) =
    line_has_bytes (codes "% end " ++ decimal (length (values r))) in
    rw length-append (omega arith)

-- the next object, and those after it
pub next_of : (full : Bool) (objects : List (Bor Obj)) (i : ℕ) (object : Bor Obj) (taken : List ℕ)
    → i < length objects → object ≡ get_or objects i object
    → flat_map (λ o. dumped full o.now) objects ≡ taken ++ flat_map (λ o. dumped full o.now)
    (drop i objects)
    → flat_map (λ o. dumped full o.now) objects ≡ taken ++
    (dumped full object.now ++ flat_map (λ o. dumped full o.now) (drop (i + 1) objects))
next_of full objects i object taken inside is before =
    before ∙ ap (λ rest. taken ++ rest) (flat_map-next (λ (o : Bor Obj). dumped full o.now) objects
    i object inside
    ∙ ap (λ (o : Bor Obj). dumped full o.now ++ flat_map (λ x. dumped full x.now)
    (drop (i + 1) objects)) (sym is))

-- the same of what is lent
pub next_lent : (full : Bool) (objects : List (Bor Obj)) (i : ℕ) (object : Bor Obj)
    (taken : List ℕ) → i < length objects → object ≡ get_or objects i object
    → flat_map (λ o. dumped full o.now) objects ≡ taken ++ flat_map (λ o. dumped full o.now)
    (drop i objects)
    → flat_map (dumped full) (lent objects) ≡ taken ++
    (dumped full object.now ++ flat_map (λ o. dumped full o.now) (drop (i + 1) objects))
next_lent full objects i object taken inside is before = texts_lent (dumped full) objects
    ∙ next_of full objects i object taken inside is before

-- after the last object all is taken
pub all_taken : (full : Bool) (objects : List (Bor Obj)) (i : ℕ) (taken : List ℕ) →
    length objects ≤ i
    → flat_map (λ o. dumped full o.now) objects ≡ taken ++ flat_map (λ o. dumped full o.now)
    (drop i objects)
    → flat_map (dumped full) (lent objects) ≡ taken
all_taken full objects i taken past before =
    texts_lent (dumped full) objects ∙ before ∙ ap (λ (rest : List (Bor Obj)).
    taken ++ flat_map (λ o. dumped full o.now) rest) (drop_of_length-le objects past)
    ∙ append-nil taken

-- how many objects are lent
pub count_is : (r : Reg) (items objects : List (Bor Obj)) → lent items ≡ values r →
    objects ≡ items → length objects ≡ length (values r)
count_is r items objects all same = ap length same
    ∙ sym (length-map items (λ (object : Bor Obj). object.now)) ∙ ap length all

-- a dump by the objects that are lent
pub dump_is : (full : Bool) (r : Reg) (items objects : List (Bor Obj)) → lent items ≡ values r →
    objects ≡ items
    → flat_map (dumped full) (lent objects) ++ end_line (length objects) ≡ dump full r
dump_is full r items objects all same =
    let listed : lent objects ≡ values r = ap lent same ∙ all in
    let lengths = count_is r items objects all same in
    λ i. flat_map (dumped full) (listed i) ++ end_line (lengths i)
