-- Lemmas on what a request asks.
use Rattle.std.proofs.Common.{◌≡◌, ℕ, ◌≤◌, Bool, true, false, List, ◌∷◌, length, Some, None, arith}
use Rattle.std.proofs.Common.{refl, ap, cond, subst, length-append}
use Rattle.std.specs.Prelude.{nat_eq, codes, All}
use Rattle.std.specs.List.{starts_with}
use Rattle.std.proofs.lemmas.Bool.{and_parts}
use Rattle.std.proofs.lemmas.Bool.Decides.{Decides-eqb}
use Rattle.std.proofs.lemmas.Slice.Eq.{starts_is}
use Rattle.std.proofs.lemmas.List.Elements.{All-tail}
use Rattle.httparse.specs.Spans.{IsHeaderWithin, header_bytes}
use Rattle.httparse.specs.declared.spans.HeaderSpan.{HeaderSpan}
use Rattle.rr_http.specs.AskedParts.{fields_of}
use Rattle.rr_http.specs.declared.asking.Page.TheVariants as page
use Rattle.rr_http.specs.Requests.{page_of, is_field_of, values_of}

-- a field of another name has no value of this one
pub values_passed : (name head : List ℕ) (rest after : List HeaderSpan) (field : HeaderSpan) →
    rest ≡ field ∷ after →
    is_field_of name (header_bytes head field) ≡ false → values_of name (fields_of head rest)
    ≡ values_of name (fields_of head after)
values_passed name head rest after field cut other = rw cut (rw other refl)

-- what holds of the spans holds of those after the first
pub within_rest : (n : ℕ) (rest after : List HeaderSpan) (field : HeaderSpan) → rest ≡ field
    ∷ after → All (IsHeaderWithin n) rest → All (IsHeaderWithin n) after
within_rest n rest after field cut within = All-tail (IsHeaderWithin n) field after
    (subst (λ spans. All (IsHeaderWithin n) spans) cut within)

last_of : (a b q : Bool) → cond a (Some page.Submissions)
    (cond b (Some page.Dump) (cond q (Some page.Query) None)) ≡ Some page.Query → q ≡ true
last_of true b q e = cc
last_of false true q e = cc
last_of false false true e = refl
last_of false false false e = cc

-- the path of a query has seven bytes before the query
pub query_follows : (path : List ℕ) → page_of path ≡ Some page.Query → 7 ≤ length path
unfolding page_of
query_follows path e =
    let begins = and_parts _ _ (last_of _ _ _ e) in
    let cut =
    (starts_is Decides-eqb path (codes "/query/") (starts_with nat_eq path (codes "/query/"))
    refl).0 begins.0 in
    omega (arith, simp length-append at (ap length cut))
