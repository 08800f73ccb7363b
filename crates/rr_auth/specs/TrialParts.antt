-- What is remembered of the maintainers that were tried. Only private functions of src promise it
-- to each other: no verdict depends on it.
use Rattle.std.specs.Prelude.{◌≡◌, ℕ, Bool, ◌≤◌, true, List, length, take, IfOk, IfSome, IsTrue}
use Rattle.std.specs.Prelude.{Result}
use Rattle.std.specs.declared.cmp.Ordering.{Ordering}
use Rattle.std.specs.BTreeMap.{BTreeMap, get}
use Rattle.std.specs.BTreeSet.{BTreeSet, contains}
use Rattle.std.specs.Cmp.Lexicographic.{slice_cmp}
use Rattle.std.specs.Global.{Vec}
use Rattle.std.specs.List.{list_any}
use Rattle.std.specs.Ordering.{nat_cmp}
use Rattle.rr_object.specs.Parts.{AuthParts}
use Rattle.rr_auth.specs.declared.tried.Answer.{Answer}
use Rattle.rr_auth.specs.declared.tried.Trial.{Trial}
use Rattle.rr_auth.specs.Passing.{fits_line}

-- One of the secrets fits one of the lines.
abbrev pub some_line_fits : List (List ℕ) → List AuthParts → Bool
some_line_fits secrets lines = list_any (λ line. list_any (fits_line line) secrets) lines

-- So many secrets, from the first on, were tried with the lines, and it says whether one of these
-- fits one of them.
pub record IsTrial (secrets : List (List ℕ)) (lines : List AuthParts)
    (trial : Trial) : Type 0 where
  pub within : trial.tried ≤ length secrets
  pub told : trial.fits ≡ some_line_fits (take trial.tried secrets) lines

-- An answer is one about these secrets and the lines that are kept with it.
abbrev pub IsTrialAnswer : List (List ℕ) → Answer → Type 0
IsTrialAnswer secrets answer = IsTrial secrets answer.lines.items answer.trial

-- Each answer that is remembered is one about these secrets and the lines that are kept with it.
abbrev pub AreAnswers : List (List ℕ) → BTreeMap (List ℕ) Answer → Type 0
AreAnswers secrets answers =
    (name : List ℕ) → IfSome (get (slice_cmp nat_cmp) answers name) (IsTrialAnswer secrets)

-- Where the answers are right, so much was tried with the lines.
abbrev pub Recalls : BTreeMap (List ℕ) Answer → List AuthParts → Trial → Type 0
Recalls answers lines trial =
    (secrets : List (List ℕ)) → AreAnswers secrets answers → IsTrial secrets lines trial

-- Where the answers were right and so much was tried with the lines, the new answers are right.
abbrev pub Records
    : BTreeMap (List ℕ) Answer → List AuthParts → Trial → BTreeMap (List ℕ) Answer
    → Type 0
Records old lines trial new =
    (secrets : List (List ℕ))
    → AreAnswers secrets old → IsTrial secrets lines trial → AreAnswers secrets new

-- The digests of the secrets with a salt, as far as they are wanted: one of the secrets fits a line
-- of the salt and a wanted digest where this is among them.
abbrev pub HasDigests : List ℕ → BTreeSet (List ℕ) → List (List ℕ) → BTreeSet (List ℕ)
    → Type 0
HasDigests salt wanted secrets digests =
    (digest : List ℕ) → contains (slice_cmp nat_cmp) wanted digest ≡ true
    → contains (slice_cmp nat_cmp) digests digest
    ≡ list_any (fits_line (record { salt = salt; digest = digest })) secrets

-- The line's digest is wanted.
abbrev pub HasWantedDigest : BTreeSet (List ℕ) → AuthParts → Type 0
HasWantedDigest wanted line = IsTrue (contains (slice_cmp nat_cmp) wanted line.digest)

-- The order of salts.
abbrev pub salt_cmp : Vec ℕ → Vec ℕ → Ordering
salt_cmp a b = slice_cmp nat_cmp a.items b.items

-- The wanted digests of the secrets with each salt.
abbrev pub AreDigests
    : BTreeSet (List ℕ) → List (List ℕ) → BTreeMap (Vec ℕ) (BTreeSet (List ℕ))
    → Type 0
AreDigests wanted secrets digests =
    (salt : Vec ℕ) → IfSome (get salt_cmp digests salt) (HasDigests salt.items wanted secrets)

-- It is answered whether one of the secrets fits the line, unless memory runs out; and the digests
-- that are remembered are those of the secrets.
pub record AsksLine {E : Type 0} (wanted : BTreeSet (List ℕ)) (secrets : List (List ℕ))
    (line : AuthParts) (digests : BTreeMap (Vec ℕ) (BTreeSet (List ℕ))) (result : Result Bool E)
    : Type 0 where
  pub answer : IfOk result (λ fits. fits ≡ list_any (fits_line line) secrets)
  pub remembers : AreDigests wanted secrets digests
