-- Readings and writings joined one after the other: for `write_all`, `write_pieces` and `Joined`,
-- and for the proofs of all crates that read a stream or print.
use Rattle.std.proofs.Common.{◌≡◌, ℕ, ◌+◌, ◌<◌, List, [], ◌++◌, length, refl, ap, sym, ◌∙◌}
use Rattle.std.proofs.Common.{append_assoc, length-append, arith, add-one, get_or, drop, drop-cons}
use Rattle.std.specs.List.{flat_map}
use Rattle.std.specs.Prelude.{Result, Ok, Err}
use Rattle.std.proofs.lemmas.List.{append-nil}
use Rattle.rr_io.specs.Told.{Beside, Told, Fails, set_beside}
use Rattle.rr_io.specs.Sending.{Takes, TakesPrefix, WritesOnce}
use Rattle.rr_io.specs.Receiving.{Gives, ReadsOnce}

-- nothing was written yet
pub Takes-none : (told : Told) → Takes told told []
Takes-none told = record {
  appended = λ xs e. rw append-nil e;
  no_fault = refl;
  no_read = refl;
  aside = refl;
}

-- one writing and then another
pub Takes-then : {start middle end : Told} (xs ys : List ℕ) → Takes start middle xs →
    Takes middle end ys → Takes start end (xs ++ ys)
Takes-then xs ys p q = record {
  appended = λ zs e. rw (← append_assoc) (q.appended _ (p.appended zs e));
  no_fault = q.no_fault ∙ p.no_fault;
  no_read = q.no_read ∙ p.no_read;
  aside = q.aside ∙ p.aside;
}

-- one writing, and then another that a fault cut short
pub TakesPrefix-then : {start middle end : Told} (xs ys : List ℕ) → Takes start middle xs →
    TakesPrefix middle end ys → TakesPrefix start end (xs ++ ys)
TakesPrefix-then xs ys p q = record {
  prefix = xs ++ q.prefix;
  rest = q.rest;
  whole = ap (λ zs. xs ++ zs) q.whole ∙ sym (append_assoc xs q.prefix q.rest);
  some_left = q.some_left;
  between = q.between;
  takes = Takes-then _ _ p q.takes;
  fails = q.fails;
}

-- what would have been written next is not taken either
pub TakesPrefix-more : {start end : Told} (xs ys : List ℕ) → TakesPrefix start end xs →
    TakesPrefix start end (xs ++ ys)
TakesPrefix-more xs ys p = record {
  prefix = p.prefix;
  rest = p.rest ++ ys;
  whole = ap (λ zs. zs ++ ys) p.whole ∙ append_assoc p.prefix p.rest ys;
  some_left = let l : 0 < length p.rest = p.some_left in rw length-append (omega arith);
  between = p.between;
  takes = p.takes;
  fails = p.fails;
}

-- a writing that failed before its first byte
pub TakesPrefix-fails : {start end : Told} (xs : List ℕ) → 0 < length xs → Fails start end →
    TakesPrefix start end xs
TakesPrefix-fails {start} xs h p = record {
  prefix = [];
  rest = xs;
  whole = refl;
  some_left = h;
  between = start;
  takes = Takes-none start;
  fails = p;
}

-- nothing was read yet
pub Gives-none : (told : Told) → Gives told told []
Gives-none told = record {
  consumed = λ xs e. (xs, e, refl);
  no_fault = refl;
  aside = refl;
}

-- one reading and then another
pub Gives-then : {start middle end : Told} (xs ys : List ℕ) → Gives start middle xs →
    Gives middle end ys → Gives start end (xs ++ ys)
Gives-then xs ys p q = record {
  consumed = λ zs e. let a = p.consumed zs e in let b = q.consumed a.0 a.1 in
      (b.0, b.1, a.2 ∙ (ap (λ r. xs ++ r) b.2 ∙ sym (append_assoc xs ys b.0)));
  no_fault = q.no_fault ∙ p.no_fault;
  aside = q.aside ∙ p.aside;
}

-- a read is the same whatever stands beside the reader
pub ReadsOnce-beside : {E : Type 0} (result : Result ℕ E) (buf : List ℕ) (other : Beside)
    (old new : Told) → ReadsOnce old new buf result →
    ReadsOnce (set_beside other old) (set_beside other new) buf result
ReadsOnce-beside (Ok count) buf other old new p = record {
  bound = p.bound;
  gives = record { consumed = p.gives.consumed; no_fault = p.gives.no_fault; aside = refl };
  spent = λ none some. record { none_left = (p.spent none some).none_left };
  counts = p.counts;
}
ReadsOnce-beside (Err error) buf other old new p = record {
  bytes_stay = p.bytes_stay;
  counted = p.counted;
  no_read = p.no_read;
  aside = refl;
}

-- a write is the same whatever stands beside the writer
pub WritesOnce-beside : {E : Type 0} (result : Result ℕ E) (bytes : List ℕ) (other : Beside)
    (old new : Told) → WritesOnce old new bytes result →
    WritesOnce (set_beside other old) (set_beside other new) bytes result
WritesOnce-beside (Ok count) bytes other old new p = record {
  bound = p.bound;
  some = p.some;
  takes = record {
    appended = p.takes.appended;
    no_fault = p.takes.no_fault;
    no_read = p.takes.no_read;
    aside = refl;
  };
}
WritesOnce-beside (Err error) bytes other old new p = record {
  bytes_stay = p.bytes_stay;
  counted = p.counted;
  no_read = p.no_read;
  aside = refl;
}

-- the next piece, and those after it
pub flat_map-next : {X : Type 0} (f : X → List ℕ) (xs : List X) (i : ℕ) (d : X) → i < length xs →
    flat_map f (drop i xs) ≡ f (get_or xs i d) ++ flat_map f (drop (i + 1) xs)
flat_map-next f xs i d h = rw (add-one, drop-cons xs i d h)
