-- When keys are well formed, and how they are ordered: for keys of objects and all that lists by
-- keys. `Key` of `src/key.rt` derives the order `key_cmp`, in which registries, answers and dumps
-- list. For well-formed keys `class_and_bytes_cmp` is the same order, by the bytes that rows have.
-- `src/laws.rt` has both laws.
use Rattle.std.specs.Prelude.{◌≡◌, ℕ, ◌≤◌, false, List, [], ◌∷◌}
use Rattle.std.specs.declared.cmp.Ordering.{Ordering}
use Rattle.std.specs.Ordering.{ordering_then, nat_cmp}
use Rattle.std.specs.Cmp.Lexicographic.{slice_cmp}
use Rattle.rr_number.specs.AsNumbers.{greatest_as_number}
use Rattle.rr_number.specs.AsSpans.{IsAsSpan}
use Rattle.rr_number.specs.Names.{IsUpperName}
use Rattle.rr_number.specs.Prefixes.{PrefixParts, IsMasked}
use Rattle.rr_number.specs.SetNames.{IsSetText, is_any_set, kind_of}
use Rattle.rr_number.specs.declared.set_kind.SetKind.{SetKind}
use Rattle.rr_number.specs.declared.set_kind.SetKind.TheVariants as kinds
use Rattle.rr_number.specs.Spans.{IsSpan}
use Rattle.rr_object.specs.declared.key.Key.{Key}
use Rattle.rr_object.specs.declared.key.Key.TheVariants.{Mntner, AsBlock, AutNum, Inetnum, Route}
use Rattle.rr_object.specs.declared.key.Key.TheVariants.{AsSet, RouteSet}
use Rattle.rr_object.specs.Classes.{class_number}
use Rattle.rr_object.specs.Keys.{class_of}
use Rattle.rr_object.specs.KeyTexts.{key_bytes}

-- the prefix of a route has an address below 2^32, a length of at most 32 and no bit past its
-- length. Its origin is an AS number (RFC 2622, 4)
pub record IsRoute (prefix : PrefixParts) (origin : ℕ) : Type 0 where
  pub masked : IsMasked prefix
  pub numbered : origin ≤ greatest_as_number

-- the name of a registered set is a set's name as it is printed, of this kind (RFC 2622, 5), and
-- neither `AS-ANY` nor `RS-ANY` (profile)
pub record IsSetKey (kind : SetKind) (name : List ℕ) : Type 0 where
  pub text : IsSetText name
  pub of_kind : kind_of name ≡ kind
  pub no_any : is_any_set name ≡ false

-- a maintainer's key is a name in upper case; a set's key is a set's name as it is printed, of
-- whichever kind. Other keys are a span, an AS number, or a prefix and an AS number (RFC 2622, 2;
-- profile)
abbrev pub HasKeyParts : Key → Type 0
HasKeyParts (Mntner name) = IsUpperName name
HasKeyParts (AsBlock block) = IsAsSpan block
HasKeyParts (AutNum number) = number ≤ greatest_as_number
HasKeyParts (Inetnum span) = IsSpan span
HasKeyParts (Route prefix origin) = IsRoute prefix origin
HasKeyParts (AsSet name) = IsSetText name
HasKeyParts (RouteSet name) = IsSetText name

-- a key is well formed where it is as `HasKeyParts` says. A set's name must also be of the key's
-- class, and neither `AS-ANY` nor `RS-ANY` (RFC 2622, 2 and 5; profile)
abbrev pub IsKeyValue : Key → Type 0
IsKeyValue (Mntner name) = IsUpperName name
IsKeyValue (AsBlock block) = IsAsSpan block
IsKeyValue (AutNum number) = number ≤ greatest_as_number
IsKeyValue (Inetnum span) = IsSpan span
IsKeyValue (Route prefix origin) = IsRoute prefix origin
IsKeyValue (AsSet name) = IsSetKey kinds.AsSet name
IsKeyValue (RouteSet name) = IsSetKey kinds.RouteSet name

-- the numbers that make up a key: the bytes of a name, the ends of a span, or an AS number. Of a
-- route they are the address and the length of its prefix, and its origin
abbrev pub words_of : Key → List ℕ
words_of (Mntner n) = n
words_of (AsBlock s) = s.first ∷ (s.last ∷ [])
words_of (AutNum n) = n ∷ []
words_of (Inetnum s) = s.first ∷ (s.last ∷ [])
words_of (Route p n) = p.address ∷ (p.length ∷ (n ∷ []))
words_of (AsSet n) = n
words_of (RouteSet n) = n

-- the order of keys, also in answers and dumps: by the number of the class, then by the numbers
-- that make up the key, as in a dictionary (profile)
abbrev pub key_cmp : Key → Key → Ordering
key_cmp a b =
    ordering_then (nat_cmp (class_number (class_of a)) (class_number (class_of b)))
    (slice_cmp nat_cmp (words_of a) (words_of b))

-- keys by the number of the class, then by the bytes that rows have, as in a dictionary (profile).
-- For well-formed keys this is the order `key_cmp`
abbrev pub class_and_bytes_cmp : Key → Key → Ordering
class_and_bytes_cmp a b =
    ordering_then (nat_cmp (class_number (class_of a)) (class_number (class_of b)))
    (slice_cmp nat_cmp (key_bytes a) (key_bytes b))

-- two keys of one class are equal if their bytes are equal
abbrev pub BytesTell : Key → Key → Type 0
BytesTell a b = class_of a ≡ class_of b → key_bytes a ≡ key_bytes b → a ≡ b

-- two keys of a class that are well formed have equal bytes only if they are equal (profile)
abbrev pub BytesTellKeys : Type 0
BytesTellKeys = (a b : Key) → IsKeyValue a → IsKeyValue b → BytesTell a b
