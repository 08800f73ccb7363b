-- Keys are ordered, and told apart, by their classes and bytes.
use Rattle.std.proofs.Common.{◌≡◌, ℕ, ◌+◌, ◌/◌, ◌%◌, ◌≤◌, ◌<◌, true, ◌&&◌, List, ◌∷◌, ◌++◌, length}
use Rattle.std.proofs.Common.{Some, refl, sym, ap, ◌∙◌, arith}
use Rattle.std.proofs.lemmas.Bool.{and_parts}
use Rattle.std.proofs.lemmas.Bool.Decides.{nat_tests}
use Rattle.std.proofs.lemmas.Option.{cond_some}
use Rattle.std.specs.declared.cmp.Ordering.TheVariants.{Equal}
use Rattle.std.specs.Ordering.{nat_cmp, ordering_then}
use Rattle.std.specs.Cmp.{tied_itself}
use Rattle.std.specs.Cmp.Lexicographic.{slice_cmp, nat_list_cmp_total}
use Rattle.std.specs.FinMap.{nat_cmp-IsAntisymmetric}
use Rattle.std.specs.Int.{to_be_bytes, w16, w32}
use Rattle.std.specs.List.{list_all}
use Rattle.hex.specs.Hex.{encode_with}
use Rattle.rr_number.specs.AsNumbers.{greatest_as_number}
use Rattle.rr_number.specs.Prefixes.{PrefixParts}
use Rattle.rr_number.specs.Spans.{Ends, IsSpan}
use Rattle.rr_object.specs.declared.key.Key.{Key}
use Rattle.rr_object.specs.declared.key.Key.TheVariants.{Mntner, AsBlock, AutNum, Inetnum, Route}
use Rattle.rr_object.specs.declared.key.Key.TheVariants.{AsSet, RouteSet}
use Rattle.rr_object.specs.contracts.key.KeyOrd.TheImpl as derived
use Rattle.rr_object.specs.Classes.{class_number}
use Rattle.rr_object.specs.Keys.{class_of}
use Rattle.rr_object.specs.KeyOrders.{BytesTellKeys, HasKeyParts, class_and_bytes_cmp}
use Rattle.rr_object.specs.KeyTexts.{bytes_with, eight_digits, key_bytes, length_bytes, route_bytes}
use Rattle.rr_object.specs.KeyTexts.{span_bytes}
use Rattle.rr_object.specs.OldKeys.{OldBytesKeepOrder, OldBytesTellKeys, four_digits}
use Rattle.rr_object.specs.OldKeys.{has_two_octets, numbers_in, old_key_bytes}
use Rattle.rr_number.proofs.NumberOrders.{ties}
use Rattle.rr_object.proofs.DerivedOrder.{derived_order}
use Rattle.rr_object.proofs.Digits.{decimal_parts, four_bytes, four_bytes_cmp, hex_cmp, joined_cmp}
use Rattle.rr_object.proofs.Digits.{then_assoc, then_equal, two_bytes, two_bytes_cmp}
use Rattle.rr_object.proofs.KeyBounds.{has_parts}

-- digits that are equally many for each number, and are ordered as the numbers are up to a bound
record TellNumbers (digits : ℕ → List ℕ) (bound : ℕ) : Type 0 where
  lengths : (m n : ℕ) → length (digits m) ≡ length (digits n)
  order : (m n : ℕ) → m ≤ bound → n ≤ bound → slice_cmp nat_cmp (digits m) (digits n) ≡ nat_cmp m n

eight_lengths : (m n : ℕ) → length (eight_digits m) ≡ length (eight_digits n)
unfolding encode_with
eight_lengths m n = refl

four_lengths : (m n : ℕ) → length (four_digits m) ≡ length (four_digits n)
unfolding encode_with
four_lengths m n = refl

eight : TellNumbers eight_digits greatest_as_number
eight = record {
  lengths = eight_lengths;
  order = λ m n lm ln.
      hex_cmp (to_be_bytes w32 m) (to_be_bytes w32 n) (four_bytes m) (four_bytes n)
      ∙ four_bytes_cmp m n (omega arith) (omega arith);
}

four : TellNumbers four_digits 65535
four = record {
  lengths = four_lengths;
  order = λ m n lm ln.
      hex_cmp (to_be_bytes w16 m) (to_be_bytes w16 n) (two_bytes m) (two_bytes n) ∙ two_bytes_cmp m
      n (omega arith) (omega arith);
}

-- the AS numbers of a key, which stand in digits, are not above a bound
abbrev IsUpTo : ℕ → Key → Type 0
IsUpTo bound (Mntner name) = Unit {0}
IsUpTo bound (AsBlock block) = block.last ≤ bound
IsUpTo bound (AutNum number) = number ≤ bound
IsUpTo bound (Inetnum span) = Unit {0}
IsUpTo bound (Route prefix origin) = origin ≤ bound
IsUpTo bound (AsSet name) = Unit {0}
IsUpTo bound (RouteSet name) = Unit {0}

length_cmp : (m n : ℕ) → slice_cmp nat_cmp (length_bytes m) (length_bytes n) ≡ nat_cmp m n
length_cmp m n = ap (ordering_then (nat_cmp (48 + m / 10) (48 + n / 10)))
    (then_equal (nat_cmp (48 + m % 10) (48 + n % 10))) ∙ decimal_parts m n

-- spans are ordered by the first number, then by the last
span_cmp : (digits : ℕ → List ℕ) (bound : ℕ) → TellNumbers digits bound → (s t : Ends)
    → s.first ≤ s.last → s.last ≤ bound → t.first ≤ t.last → t.last ≤ bound
    → slice_cmp nat_cmp (span_bytes digits s) (span_bytes digits t) ≡ ordering_then
    (nat_cmp s.first t.first) (nat_cmp s.last t.last)
span_cmp digits bound tell s t so sl to tl =
    joined_cmp (digits s.first) (45 ∷ digits s.last) (digits t.first) (45 ∷ digits t.last)
    (tell.lengths s.first t.first)
    ∙ ap (ordering_then _) (tell.order s.last t.last sl tl)
    ∙ ap (λ o. ordering_then o (nat_cmp s.last t.last)) (tell.order s.first t.first (omega arith)
    (omega arith))

-- a route's length and origin after its address
rest_cmp : (digits : ℕ → List ℕ) (bound : ℕ) → TellNumbers digits bound → (k l m n : ℕ) →
    m ≤ bound → n ≤ bound
    → slice_cmp nat_cmp (47 ∷ (length_bytes k ++ (45 ∷ digits m)))
    (47 ∷ (length_bytes l ++ (45 ∷ digits n)))
    ≡ ordering_then (nat_cmp k l) (nat_cmp m n)
rest_cmp digits bound tell k l m n lm ln =
    joined_cmp (length_bytes k) (45 ∷ digits m) (length_bytes l) (45 ∷ digits n) refl
    ∙ ap (ordering_then _) (tell.order m n lm ln)
    ∙ ap (λ o. ordering_then o (nat_cmp m n)) (length_cmp k l)

route_cmp : (digits : ℕ → List ℕ) (bound : ℕ) → TellNumbers digits bound →
    (p q : PrefixParts) (m n : ℕ)
    → p.address < 4294967296 → q.address < 4294967296 → m ≤ bound → n ≤ bound
    → slice_cmp nat_cmp (route_bytes digits p m) (route_bytes digits q n)
    ≡ ordering_then (nat_cmp p.address q.address) (ordering_then (nat_cmp p.length q.length)
    (nat_cmp m n))
route_cmp digits bound tell p q m n fp fq lm ln =
    joined_cmp (eight_digits p.address) (47 ∷ (length_bytes p.length ++ (45 ∷ digits m)))
    (eight_digits q.address) (47 ∷ (length_bytes q.length ++ (45 ∷ digits n)))
    (eight_lengths p.address q.address)
    ∙ ap (ordering_then _) (rest_cmp digits bound tell p.length q.length m n lm ln)
    ∙ ap (λ o. ordering_then o (ordering_then (nat_cmp p.length q.length) (nat_cmp m n)))
    (eight.order p.address q.address (omega arith) (omega arith))

span_last : (s : Ends) → IsSpan s → s.last ≤ greatest_as_number
span_last s is =
    let fits : s.last < 4294967296 = is.fits in
    omega arith

-- the order that is derived for keys is that of their classes and of bytes with such digits
ordered_with : (digits : ℕ → List ℕ) (bound : ℕ) → TellNumbers digits bound → (a b : Key) →
    HasKeyParts a → HasKeyParts b
    → IsUpTo bound a → IsUpTo bound b
    → (derived.ghosts).cmp a b
    ≡ ordering_then (nat_cmp (class_number (class_of a)) (class_number (class_of b)))
    (slice_cmp nat_cmp (bytes_with digits a) (bytes_with digits b))
ordered_with digits bound tell (Mntner n) (Mntner m) fa fb ua ub = refl
ordered_with digits bound tell (AsBlock s) (AsBlock t) fa fb ua ub =
    sym (span_cmp digits bound tell s t fa.ordered ua fb.ordered ub)
ordered_with digits bound tell (AutNum n) (AutNum m) fa fb ua ub = sym (tell.order n m ua ub)
ordered_with digits bound tell (Inetnum s) (Inetnum t) fa fb ua ub =
    sym (span_cmp eight_digits greatest_as_number eight s t fa.ordered (span_last s fa) fb.ordered
    (span_last t fb))
ordered_with digits bound tell (Route p n) (Route q m) fa fb ua ub =
    then_assoc (nat_cmp p.address q.address) (nat_cmp p.length q.length) (nat_cmp n m)
    ∙ sym (route_cmp digits bound tell p q n m fa.masked.fits fb.masked.fits ua ub)
ordered_with digits bound tell (AsSet n) (AsSet m) fa fb ua ub = refl
ordered_with digits bound tell (RouteSet n) (RouteSet m) fa fb ua ub = refl
ordered_with digits bound tell a b fa fb ua ub = refl

tied : (xs ys : List ℕ) → xs ≡ ys → slice_cmp nat_cmp xs ys ≡ Equal
tied xs ys e = ap (slice_cmp nat_cmp xs) (sym e) ∙ tied_itself nat_list_cmp_total xs

same_ends : (s t : Ends) → ordering_then (nat_cmp s.first t.first) (nat_cmp s.last t.last)
    ≡ Equal → s ≡ t
same_ends s t e =
    let first : s.first ≡ t.first = nat_cmp-IsAntisymmetric _ _ (ties _ _ e).0 in
    let last : s.last ≡ t.last = nat_cmp-IsAntisymmetric _ _ (ties _ _ e).1 in
    (λ i. record { first = first i; last = last i })

same_route : (p q : PrefixParts) (m n : ℕ)
    → ordering_then (nat_cmp p.address q.address) (ordering_then (nat_cmp p.length q.length)
    (nat_cmp m n)) ≡ Equal
    → Route p m ≡ Route q n
same_route p q m n e =
    let rest = (ties _ _ e).1 in
    let address : p.address ≡ q.address = nat_cmp-IsAntisymmetric _ _ (ties _ _ e).0 in
    let length : p.length ≡ q.length = nat_cmp-IsAntisymmetric _ _ (ties _ _ rest).0 in
    let origin : m ≡ n = nat_cmp-IsAntisymmetric _ _ (ties _ _ rest).1 in
    (λ i. Route (record { address = address i; length = length i }) (origin i))

-- two keys of a class have equal bytes with such digits only if they are equal
told_with : (digits : ℕ → List ℕ) (bound : ℕ) → TellNumbers digits bound → (a b : Key) →
    HasKeyParts a → HasKeyParts b
    → IsUpTo bound a → IsUpTo bound b → class_of a ≡ class_of b → bytes_with digits a ≡ bytes_with
    digits b → a ≡ b
told_with digits bound tell (Mntner n) (Mntner m) fa fb ua ub same e = ap Mntner e
told_with digits bound tell (AsBlock s) (AsBlock t) fa fb ua ub same e =
    ap AsBlock (same_ends s t (sym (span_cmp digits bound tell s t fa.ordered ua fb.ordered ub)
    ∙ tied (span_bytes digits s) (span_bytes digits t) e))
told_with digits bound tell (AutNum n) (AutNum m) fa fb ua ub same e =
    ap AutNum (nat_cmp-IsAntisymmetric n m (sym (tell.order n m ua ub) ∙ tied (digits n) (digits m)
    e))
told_with digits bound tell (Inetnum s) (Inetnum t) fa fb ua ub same e =
    ap Inetnum (same_ends s t
    (sym (span_cmp eight_digits greatest_as_number eight s t fa.ordered (span_last s fa) fb.ordered
    (span_last t fb))
    ∙ tied (span_bytes eight_digits s) (span_bytes eight_digits t) e))
told_with digits bound tell (Route p n) (Route q m) fa fb ua ub same e =
    same_route p q n m
    (sym (route_cmp digits bound tell p q n m fa.masked.fits fb.masked.fits ua ub)
    ∙ tied (route_bytes digits p n) (route_bytes digits q m) e)
told_with digits bound tell (AsSet n) (AsSet m) fa fb ua ub same e = ap AsSet e
told_with digits bound tell (RouteSet n) (RouteSet m) fa fb ua ub same e = ap RouteSet e
told_with digits bound tell a b fa fb ua ub same e = cc

-- no AS number is above the greatest
up_to_greatest : (k : Key) → HasKeyParts k → IsUpTo greatest_as_number k
up_to_greatest (Mntner n) is = tt
up_to_greatest (AsBlock s) is = is.bound
up_to_greatest (AutNum n) is = is
up_to_greatest (Inetnum s) is = tt
up_to_greatest (Route p n) is = is.numbered
up_to_greatest (AsSet n) is = tt
up_to_greatest (RouteSet n) is = tt

pub ordered_by_bytes : (a b : Key) → HasKeyParts a → HasKeyParts b → (derived.ghosts).cmp a b
    ≡ class_and_bytes_cmp a b
ordered_by_bytes a b fa fb = ordered_with eight_digits greatest_as_number eight a b fa fb
    (up_to_greatest a fa) (up_to_greatest b fb)

pub bytes_tell_parts : (a b : Key) → HasKeyParts a → HasKeyParts b → class_of a ≡ class_of b →
    key_bytes a ≡ key_bytes b → a ≡ b
bytes_tell_parts a b fa fb same e =
    told_with eight_digits greatest_as_number eight a b fa fb (up_to_greatest a fa)
    (up_to_greatest b fb) same e

pub bytes_tell : BytesTellKeys
bytes_tell a b fa fb same e = bytes_tell_parts a b (has_parts a fa) (has_parts b fb) same e

-- the numbers of a key that has old bytes have two octets
two_octets : (n : ℕ) → has_two_octets n ≡ true → n ≤ 65535
two_octets n e = grind (arith, nat_tests)

up_to_two_octets : (k : Key) → list_all has_two_octets (numbers_in k) ≡ true → IsUpTo 65535 k
up_to_two_octets (Mntner n) e = tt
up_to_two_octets (AsBlock s) e =
    two_octets s.last (and_parts (has_two_octets s.last) true
    (and_parts (has_two_octets s.first) (has_two_octets s.last && true) e).1).0
up_to_two_octets (AutNum n) e = two_octets n (and_parts (has_two_octets n) true e).0
up_to_two_octets (Inetnum s) e = tt
up_to_two_octets (Route p n) e = two_octets n (and_parts (has_two_octets n) true e).0
up_to_two_octets (AsSet n) e = tt
up_to_two_octets (RouteSet n) e = tt

-- what old bytes of a key are
old_parts : (k : Key) (bytes : List ℕ) → old_key_bytes k ≡ Some bytes → IsUpTo 65535 k
    × (bytes_with four_digits k ≡ bytes)
old_parts k bytes e =
    let parts = cond_some (list_all has_two_octets (numbers_in k)) (bytes_with four_digits k) bytes
    e in
    (up_to_two_octets k parts.0, parts.1)

pub old_bytes_keep_order : OldBytesKeepOrder
old_bytes_keep_order a b x y fa fb ea eb =
    let of_a = old_parts a x ea in
    let of_b = old_parts b y eb in
    sym (derived_order a b)
    ∙ ordered_with four_digits 65535 four a b (has_parts a fa) (has_parts b fb) of_a.0 of_b.0
    ∙ (λ i. ordering_then (nat_cmp (class_number (class_of a)) (class_number (class_of b)))
    (slice_cmp nat_cmp (of_a.1 i) (of_b.1 i)))

pub old_bytes_tell : OldBytesTellKeys
old_bytes_tell a b bytes fa fb same ea eb =
    let of_a = old_parts a bytes ea in
    let of_b = old_parts b bytes eb in
    told_with four_digits 65535 four a b (has_parts a fa) (has_parts b fb) of_a.0 of_b.0 same
    (of_a.1 ∙ sym of_b.1)
