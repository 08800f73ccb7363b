-- Lemmas on lists of attributes: for `Paragraph::without` and `with_values`.
use Rattle.std.proofs.Common.{◌≡◌, ℕ, Bool, true, false, List, [], ◌∷◌, map, filter, arith, refl}
use Rattle.rr_text.specs.Fields.{Field, IsLine, IsField, AreFields, has_name, with_value}

kept_by : (t : Bool) (test : Field → Bool) (field : Field) (others : List Field) → test field ≡ t →
    IsField field → AreFields (filter test others) → AreFields (filter test (field ∷ others))
kept_by true test field others h good rec = rw h (good, rec)
kept_by false test field others h good rec = rw h rec

-- some of the well-formed attributes of a list are well-formed attributes
pub AreFields-filter : (test : Field → Bool) (fields : List Field) → AreFields fields →
    AreFields (filter test fields)
AreFields-filter test [] good = tt
AreFields-filter test (field ∷ others) good = kept_by (test field) test field others refl good.0
    (AreFields-filter test others good.1)

valued_by : (t : Bool) (name line : List ℕ) (field : Field) → has_name name field ≡ t →
    IsLine line → IsField field → IsField (with_value name line field)
valued_by true name line field h is good =
    rw h (record { named = good.named; lower = good.lower; some = omega arith; good = (is, tt) })
valued_by false name line field h is good = rw h good

-- a well-formed line leaves them well formed
pub AreFields-with_value : (name line : List ℕ) (fields : List Field) → IsLine line →
    AreFields fields → AreFields (map (with_value name line) fields)
AreFields-with_value name line [] is good = tt
AreFields-with_value name line (field ∷ others) is good = (
  valued_by (has_name name field) name line field refl is good.0,
  AreFields-with_value name line
      others is good.1,
)
