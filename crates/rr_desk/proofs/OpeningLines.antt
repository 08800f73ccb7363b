-- The lines of the opening objects, and what they mean.
use Rattle.std.proofs.Common.{◌≡◌, ℕ, ◌+◌, ◌<◌, Bool, true, false, ◌&&◌, length, List, [], ◌∷◌}
use Rattle.std.proofs.Common.{◌++◌, drop, Some, None, refl, sym, ap, ◌∙◌, arith, codes, nat_le}
use Rattle.std.proofs.Common.{cond}
use Rattle.std.proofs.lemmas.Bool.Decides.{nat_tests}
use Rattle.std.proofs.lemmas.Grind.{common_steps}
use Rattle.std.proofs.lemmas.List.{append-nil, take_at}
use Rattle.std.proofs.lemmas.List.Folds.{list_all-append}
use Rattle.std.proofs.lemmas.List.Sums.{list_all-from_AllPass}
use Rattle.std.specs.Prelude.{is_some}
use Rattle.std.specs.Char.{is_ascii_alphanumeric}
use Rattle.std.specs.Str.{bytes_eq}
use Rattle.std.specs.List.{after_first, before_first, list_all, position_or_len}
use Rattle.hex.specs.Hex.{IsBytes, encode_lower, is_hex_digit}
use Rattle.hex.proofs.HexLemmas.{decode_of-encode_lower, decode_of-ok, decode_sized-encode_lower}
use Rattle.rr_bytes.specs.Blanks.{is_blank, is_blank_or_comma}
use Rattle.rr_bytes.specs.LetterCase.{is_keyword, upper}
use Rattle.rr_bytes.specs.NameBytes.{begins_with_letter, ends_with_alphanumeric, is_name}
use Rattle.rr_bytes.specs.NameBytes.{is_name_byte}
use Rattle.rr_bytes.specs.Parts.{is_filled, words}
use Rattle.rr_number.specs.Names.{IsUpperName, is_maintainer_name, maintainer_name_of}
use Rattle.rr_number.proofs.NameLemmas.{name_of-upper_name}
use Rattle.rr_text.specs.Bytes.{is_colon}
use Rattle.rr_object.specs.Auths.{auth_item, auth_of_words, is_salt, salted_digest_of}
use Rattle.rr_object.specs.Items.{items}
use Rattle.rr_object.specs.Parts.{AuthParts}
use Rattle.rr_desk.specs.Settings.{IsSaltedDigest}
use Rattle.rr_desk.specs.Opening.{auth_line}
use Rattle.rr_desk.proofs.PlainTexts.{IsShown, all_follow, both_true, is_plain, plain_blank}
use Rattle.rr_desk.proofs.PlainTexts.{plain_item, shown_between, shown_plain, split_after}
use Rattle.rr_desk.proofs.PlainTexts.{split_whole}

-- names are plain
name_byte_plain : (b : ℕ) → is_name_byte b ≡ true → is_plain b ≡ true
name_byte_plain b is = grind (arith, nat_tests)

letter_plain : (b : ℕ) → is_ascii_alphanumeric b ≡ true → is_plain b ≡ true
letter_plain b is = grind (arith, nat_tests)

some_first : (text : List ℕ) → begins_with_letter text ≡ true → 0 < length text
some_first [] is = cc
some_first (b ∷ bs) is = omega arith

-- a name is a plain text that is not empty
pub record IsPlainLine (text : List ℕ) : Type 0 where
  pub all : list_all is_plain text ≡ true
  pub some : 0 < length text

pub plain_name : (name : List ℕ) → is_name name ≡ true → IsPlainLine name
unfolding is_name
plain_name name is =
    let long = both_true (nat_le (length name) 80)
    (list_all is_name_byte name && (begins_with_letter name && ends_with_alphanumeric name))
    is in
    let bytes = both_true (list_all is_name_byte name)
    (begins_with_letter name && ends_with_alphanumeric name) long.1 in
    let ends = both_true (begins_with_letter name) (ends_with_alphanumeric name) bytes.1 in
    record {
      all = all_follow is_name_byte is_plain name_byte_plain name bytes.0;
      some =
          some_first name ends.0;
    }

pub shown_name : (name : List ℕ) → is_name name ≡ true → IsShown name
shown_name name is = let plain = plain_name name is in shown_plain name plain.all plain.some

-- a plain text, as the one item of a list
filled : (text : List ℕ) → 0 < length text → is_filled text ≡ true
filled [] some = absurd (omega arith)
filled (b ∷ bs) some = grind (arith, nat_tests)

pub one_item : (text : List ℕ) → IsPlainLine text → items ((text ++ 44 ∷ []) ++ []) ≡ text ∷ []
unfolding items
one_item text plain =
    rw (
      append-nil (text ++ 44 ∷ []),
      split_after is_plain is_blank_or_comma plain_item text 44 []
          plain.all refl,
      filled text plain.some,
    ) refl

-- a maintainer's name that is kept in upper case is read as itself
pub maintainer_read : (name : List ℕ) → IsUpperName name → is_maintainer_name name ≡ true →
    maintainer_name_of name ≡ Some name
maintainer_read name is maintainer =
    let kept : is_maintainer_name (upper name) ≡ true = ap is_maintainer_name is.upper_case
    ∙ maintainer in
    rw kept (name_of-upper_name name is)

-- a text is equal to itself
pub equal_texts : (text : List ℕ) → bytes_eq text text ≡ true
equal_texts [] = refl
equal_texts (b ∷ bs) = rw (equal_texts bs) (grind (arith, nat_tests))

-- the salt and the digits of an `auth`
abbrev pub salted_digits : AuthParts → List ℕ
salted_digits auth = auth.salt ++ (58 ∷ encode_lower auth.digest)

within_plain : (b low high : ℕ) → 44 < low → high < 127 → (nat_le low b && nat_le b high) ≡ true →
    is_plain b ≡ true
within_plain b low high above below is = grind (arith, nat_tests)

digit_plain : (b : ℕ) (p q r : Bool) (x y z : ℕ) → (nat_le 65 b && nat_le b 70) ≡ p →
    (nat_le 97 b && nat_le b 102) ≡ q → (nat_le 48 b && nat_le b 57) ≡ r
    → is_some (cond p (Some x) (cond q (Some y) (cond r (Some z) None))) ≡ true → is_plain b ≡ true
digit_plain b true q r x y z ep eq er is = within_plain b 65 70 (omega arith) (omega arith) ep
digit_plain b false true r x y z ep eq er is = within_plain b 97 102 (omega arith) (omega arith) eq
digit_plain b false false true x y z ep eq er is = within_plain b 48 57 (omega arith) (omega arith)
    er
digit_plain b false false false x y z ep eq er is = cc

hex_plain : (b : ℕ) → is_hex_digit b ≡ true → is_plain b ≡ true
hex_plain b is = digit_plain b _ _ _ _ _ _ refl refl refl is

digits_plain : (digest : List ℕ) → IsBytes digest → list_all is_plain (encode_lower digest) ≡ true
digits_plain digest bytes =
    let digits =
    (decode_of-ok (encode_lower digest) digest (decode_of-encode_lower digest bytes)).1 in
    all_follow is_hex_digit is_plain hex_plain (encode_lower digest)
    (list_all-from_AllPass is_hex_digit (encode_lower digest) digits)

salt_plain : (salt : List ℕ) → is_salt salt ≡ true → list_all is_plain salt ≡ true
salt_plain salt is =
    all_follow is_ascii_alphanumeric is_plain letter_plain salt
    (both_true (nat_le (length salt) 16) (list_all is_ascii_alphanumeric salt) is).1

some_colon : (salt digits : List ℕ) → 0 < length (salt ++ (58 ∷ digits))
some_colon [] digits = omega arith
some_colon (b ∷ bs) digits = omega arith

plain_digits : (auth : AuthParts) → IsSaltedDigest auth → IsPlainLine (salted_digits auth)
plain_digits auth is = record {
  all = rw (
    list_all-append is_plain auth.salt (58 ∷ encode_lower auth.digest),
    salt_plain auth.salt is.salted,
    digits_plain auth.digest is.bytes,
  ) refl;
  some = some_colon auth.salt (encode_lower auth.digest);
}

-- the line of an `auth` is a line
pub shown_auth : (auth : AuthParts) → IsSaltedDigest auth → IsShown (auth_line auth)
shown_auth auth is =
    let plain = plain_digits auth is in
    shown_between (codes "SHA256-PW") (32 ∷ []) (salted_digits auth) refl (omega arith) refl
    plain.all plain.some

-- a salt and the digits after its colon
colon_place : (salt digits : List ℕ) → list_all is_ascii_alphanumeric salt ≡ true →
    position_or_len is_colon (salt ++ (58 ∷ digits)) ≡ length salt
colon_place [] digits all = refl
colon_place (b ∷ bs) digits all =
    let parts = both_true (is_ascii_alphanumeric b) (list_all is_ascii_alphanumeric bs) all in
    let here = parts.0 in
    let rest = colon_place bs digits parts.1 in
    grind (arith, nat_tests)

drop_after : (xs : List ℕ) (s : ℕ) (ys : List ℕ) → drop (length xs + 1) (xs ++ (s ∷ ys)) ≡ ys
drop_after [] s ys = refl
drop_after (x ∷ xs) s ys = grind (arith, common_steps, drop_after xs s ys)

salted_read : (auth : AuthParts) → IsSaltedDigest auth → salted_digest_of (salted_digits auth)
    ≡ Some auth
unfolding salted_digest_of
salted_read auth is =
    let letters =
    (both_true (nat_le (length auth.salt) 16) (list_all is_ascii_alphanumeric auth.salt)
    is.salted).1 in
    let place = colon_place auth.salt (encode_lower auth.digest) letters in
    let prefix : before_first is_colon (salted_digits auth) ≡ auth.salt =
    take_at auth.salt (58 ∷ encode_lower auth.digest) _ (sym place) in
    let back : after_first is_colon (salted_digits auth) ≡ encode_lower auth.digest =
    rw place (drop_after auth.salt 58 (encode_lower auth.digest)) in
    rw (prefix, back, is.salted, decode_sized-encode_lower auth.digest 32 is.sized is.bytes) refl

auth_words : (auth : AuthParts) → IsSaltedDigest auth → words (auth_line auth) ≡ codes "SHA256-PW"
    ∷ (salted_digits auth ∷ [])
unfolding words
auth_words auth is =
    let plain = plain_digits auth is in
    let whole = split_whole is_plain is_blank plain_blank (salted_digits auth) plain.all in
    let full = filled (salted_digits auth) plain.some in
    rw (whole, full) refl

-- the line of an `auth` is read as it
pub auth_read : (auth : AuthParts) → IsSaltedDigest auth → auth_item (auth_line auth)
    ≡ Some (Some auth)
unfolding auth_of_words is_keyword
auth_read auth is = rw (auth_words auth is, salted_read auth is) refl
