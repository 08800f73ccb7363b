-- Values of `auth` (RFC 2622, 3; the scheme `SHA256-PW`: profile): for `read_auth`, and for the
-- reading of objects and settings.
use Rattle.std.specs.Prelude.{ℕ, Bool, ◌&&◌, nat_le, length, List, [], ◌∷◌, Option}
use Rattle.std.specs.Prelude.{Some, None, codes, if◌then◌else◌}
use Rattle.std.specs.Char.{is_ascii_alphanumeric}
use Rattle.std.specs.List.{list_all, before_first, after_first}
use Rattle.std.specs.Option.{option_map, option_and_then}
use Rattle.std.specs.Result.{result_ok}
use Rattle.hex.specs.Hex.{decode_sized}
use Rattle.rr_text.specs.Bytes.{is_colon}
use Rattle.rr_bytes.specs.LetterCase.{is_keyword}
use Rattle.rr_bytes.specs.Parts.{words}
use Rattle.rr_object.specs.Items.{only}
use Rattle.rr_object.specs.Parts.{AuthParts}

-- a SHA-256 digest has so many bytes (FIPS 180-4)
abbrev pub digest_bytes : ℕ
digest_bytes = 32

-- the most bytes of a salt (profile)
abbrev pub salt_limit : ℕ
salt_limit = 16

-- a salt is 0 to 16 letters or digits (profile)
abbrev pub is_salt : List ℕ → Bool
is_salt salt = nat_le (length salt) salt_limit && list_all is_ascii_alphanumeric salt

-- the salt and the digest that a word spells, if it does: a salt, a colon and the 64 hexadecimal
-- digits of a digest, in either case (profile)
unfoldable pub salted_digest_of : List ℕ → Option AuthParts
salted_digest_of word =
    let salt = before_first is_colon word in
    if is_salt salt then
    option_map (λ digest. record { salt = salt; digest = digest })
    (result_ok (decode_sized (after_first is_colon word) digest_bytes))
    else None

-- the scheme whose lines are read, in any letter case (profile)
abbrev pub is_sha256_pw : List ℕ → Bool
is_sha256_pw word = is_keyword (codes "sha256-pw") word

-- what the words of an `auth` stand for: the salt and the digest of the one word after `SHA256-PW`;
-- another scheme is well spelled and stands for nothing. Badly spelled is no word at all, and
-- `SHA256-PW` without such a word or with more (RFC 2622, 3; profile)
unfoldable pub auth_of_words : List (List ℕ) → Option (Option AuthParts)
auth_of_words [] = None
auth_of_words (scheme ∷ further) =
    if is_sha256_pw scheme then option_map Some (option_and_then salted_digest_of (only further))
    else Some None

-- what a value of `auth` stands for, by its words (RFC 2622, 3)
abbrev pub auth_item : List ℕ → Option (Option AuthParts)
auth_item value = auth_of_words (words value)
