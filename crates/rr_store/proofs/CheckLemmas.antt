-- What an answer in order says of the rows of a table.
use Rattle.std.proofs.Common.{◌≡◌, List, [], ◌∷◌, Ok, Err, Result, IfErr, IfOk, subst}
use Rattle.std.proofs.Common.{IsPermutation}
use Rattle.std.proofs.lemmas.List.Sorted.{IsPermutation-sym, Contains-permutation}
use Rattle.sqlite_value.specs.Order.{Row}
use Rattle.sqlite.proofs.Callers.{one_permutation}
use Rattle.rr_store.specs.declared.version.Version.{Version}
use Rattle.rr_store.specs.declared.store_fault.OpenFault.{OpenFault}
use Rattle.rr_store.specs.declared.store_fault.OpenFault.TheVariants.{WrongVersion, BadRow, Store}
use Rattle.rr_store.specs.declared.store_fault.OpenFault.TheVariants.{Memory}
use Rattle.rr_store.specs.CheckParts.{IsVersionFault}

pub each_err : {X E : Type 0} (r : Result X E) (P Q : E → Type 0) → IfErr r P →
    ((e : E) → P e → Q e) → IfErr r Q
each_err (Ok x) P Q h f = tt
each_err (Err e) P Q h f = f e h

pub both_ok : {X E : Type 0} (r : Result X E) (P Q R : X → Type 0) → IfOk r P → IfOk r Q →
    ((x : X) → P x → Q x → R x) → IfOk r R
both_ok (Ok x) P Q R p q f = f x p q
both_ok (Err e) P Q R p q f = tt

pub both_err : {X E : Type 0} (r : Result X E) (P Q R : E → Type 0) → IfErr r P → IfErr r Q →
    ((e : E) → P e → Q e → R e) → IfErr r R
both_err (Ok x) P Q R p q f = tt
both_err (Err e) P Q R p q f = f e p q

pub only_row : (x : Row) (rows held : List Row) → IsPermutation held rows → rows ≡ x ∷ [] →
    held ≡ x ∷ []
only_row x rows held same is = one_permutation x held
    (subst (λ l. IsPermutation l held) is (IsPermutation-sym held rows same))

pub fault_of_held : (version : Version) (rows held : List Row) → IsPermutation held rows →
    (fault : OpenFault) → IsVersionFault version rows fault → IsVersionFault version held fault
fault_of_held version rows held same (WrongVersion n) h =
    (h.0, Contains-permutation rows held _ (IsPermutation-sym held rows same) h.1)
fault_of_held version rows held same BadRow h = record {
  no_other = λ n low says. h.no_other n low (Contains-permutation held rows _ same says);
  bad = λ is. h.bad (only_row _ held rows (IsPermutation-sym held rows same) is);
}
fault_of_held version rows held same (Store error) h = tt
fault_of_held version rows held same Memory h = tt
