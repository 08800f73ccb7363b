-- Lemmas on the bytes of replies.
use Rattle.std.proofs.Common.{◌≡◌, ℕ, ◌+◌, ◌≤◌, List, ◌++◌, length, Some, lit≤, refl, ap, ◌∙◌}
use Rattle.std.proofs.Common.{append_assoc, arith}
use Rattle.std.specs.Prelude.{codes}
use Rattle.http.specs.StatusCode.{code_digits, reason_phrase}
use Rattle.rr_http.specs.declared.asking.Page.TheVariants as page
use Rattle.rr_http.specs.declared.asking.Refusal.{Refusal}
use Rattle.rr_http.specs.declared.asking.Refusal.TheVariants.{HeadTooLarge, BadRequest}
use Rattle.rr_http.specs.declared.asking.Refusal.TheVariants.{NotImplemented, NotFound}
use Rattle.rr_http.specs.declared.asking.Refusal.TheVariants.{MethodNotAllowed, LengthRequired}
use Rattle.rr_http.specs.declared.asking.Refusal.TheVariants.{PayloadTooLarge, Unavailable}
use Rattle.rr_http.specs.Replies.{allow_line, reason_of, status_of, status_words}

-- the reason words are those of the standard
pub reason_known : (refusal : Refusal) → reason_phrase (status_of refusal)
    ≡ Some (reason_of refusal)
reason_known HeadTooLarge = refl
reason_known BadRequest = refl
reason_known NotImplemented = refl
reason_known NotFound = refl
reason_known (MethodNotAllowed page) = refl
reason_known LengthRequired = refl
reason_known PayloadTooLarge = refl
reason_known Unavailable = refl

pub reason_short : (refusal : Refusal) → length (reason_of refusal) ≤ 31
reason_short HeadTooLarge = lit≤ tt
reason_short BadRequest = lit≤ tt
reason_short NotImplemented = lit≤ tt
reason_short NotFound = lit≤ tt
reason_short (MethodNotAllowed page) = lit≤ tt
reason_short LengthRequired = lit≤ tt
reason_short PayloadTooLarge = lit≤ tt
reason_short Unavailable = lit≤ tt

pub allow_short : (refusal : Refusal) → length (allow_line refusal) ≤ 13
allow_short HeadTooLarge = lit≤ tt
allow_short BadRequest = lit≤ tt
allow_short NotImplemented = lit≤ tt
allow_short NotFound = lit≤ tt
allow_short (MethodNotAllowed page.Submissions) = lit≤ tt
allow_short (MethodNotAllowed page.Query) = lit≤ tt
allow_short (MethodNotAllowed page.Dump) = lit≤ tt
allow_short LengthRequired = lit≤ tt
allow_short PayloadTooLarge = lit≤ tt
allow_short Unavailable = lit≤ tt

pub words_length : (refusal : Refusal) → length (status_words refusal) + 1
    ≡ length (reason_of refusal) + 5
unfolding status_words
words_length refusal = omega arith

pub ruleset lengths = (reason_short, words_length)

-- the code and the reason words appended in turn
pub words_joined : (refusal : Refusal) (start s1 s2 s3 : List ℕ) → s1 ≡ start ++ code_digits
    (status_of refusal) → s2 ≡ s1 ++ codes " " →
    s3 ≡ s2 ++ reason_of refusal → s3 ≡ start ++ status_words refusal
unfolding status_words
words_joined refusal start s1 s2 s3 p q r =
    r ∙ (ap (λ xs. xs ++ reason_of refusal) (q ∙ ap (λ xs. xs ++ codes " ") p) ∙ simp append_assoc)

-- five pieces appended in turn
pub five_joined : (start a b c d e s1 s2 s3 s4 s5 : List ℕ) → s1 ≡ start ++ a → s2 ≡ s1 ++ b →
    s3 ≡ s2 ++ c → s4 ≡ s3 ++ d → s5 ≡ s4 ++ e →
    s5 ≡ start ++ (a ++ (b ++ (c ++ (d ++ e))))
five_joined start a b c d e s1 s2 s3 s4 s5 p q r s t =
    t
    ∙
    (ap (λ xs. xs ++ e)
    (s ∙ ap (λ xs. xs ++ d) (r ∙ ap (λ xs. xs ++ c) (q ∙ ap (λ xs. xs ++ b) p)))
    ∙ simp append_assoc)
