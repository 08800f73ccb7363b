-- Settings that were read are good.
use Rattle.std.proofs.Common.{◌≡◌, ℕ, ◌≤◌, Bool, true, false, ◌&&◌, cond, List, [], ◌∷◌, Option}
use Rattle.std.proofs.Common.{Some, None, Result, Ok, Err, refl, sym, ap, ◌∙◌, arith, nat_le, codes}
use Rattle.std.proofs.lemmas.Bool.Decides.{nat_tests}
use Rattle.std.proofs.lemmas.Option.{cond_some}
use Rattle.std.specs.Option.{option_and_then, option_map}
use Rattle.std.specs.Result.{result_ok}
use Rattle.std.specs.List.{before_first, after_first}
use Rattle.hex.specs.declared.error.FromHexError.{FromHexError}
use Rattle.hex.specs.Hex.{decode_sized, decode_pairs}
use Rattle.hex.proofs.HexLemmas.{decode_sized-ok, decode_sized-twice, decode_of-ok}
use Rattle.rr_bytes.specs.LetterCase.{is_keyword, upper}
use Rattle.rr_bytes.specs.NameBytes.{is_name}
use Rattle.rr_number.specs.Names.{is_maintainer_name, is_reserved, maintainer_name_of, name_of}
use Rattle.rr_number.proofs.NameLemmas.{name_of-kept}
use Rattle.rr_text.specs.Bytes.{is_colon}
use Rattle.rr_object.specs.Auths.{auth_of_words, is_salt, is_sha256_pw, salted_digest_of}
use Rattle.rr_bytes.specs.Parts.{words}
use Rattle.rr_object.specs.Items.{meant_by, only}
use Rattle.rr_object.specs.Parts.{AuthParts}
use Rattle.rr_desk.specs.declared.settings.Setting.{Setting}
use Rattle.rr_desk.specs.declared.settings.Setting.TheVariants.{Source, Root, Auth, Limit}
use Rattle.rr_desk.specs.declared.settings.TheConstants.{GREATEST_LIMIT}
use Rattle.rr_desk.specs.Settings.{IsSaltedDigest, IsSettings, SettingsParts, auth_of, built_in}
use Rattle.rr_desk.specs.Settings.{limit_of, needed, or_bad, settings_of}

-- what a setting was read from
pub record IsRead {X Y : Type 0} (read : X → Option Y) (value : Y) : Type 0 where
  pub text : X
  pub spelled : read text ≡ Some value

found_value : {Y : Type 0} (setting : Setting) (found : Option Y) (value : Y) →
    or_bad setting found ≡ Ok value → found ≡ Some value
found_value setting (Some x) value e = cc
found_value setting None value e = cc

pub needed_value : {X Y : Type 0} (setting : Setting) (read : X → Option Y) (given : Option X)
    (value : Y) → needed setting read given ≡ Ok value → IsRead read value
needed_value setting read (Some text) value e =
    record { text = text; spelled = found_value setting (read text) value e }
needed_value setting read None value e = cc

-- a maintainer's name is kept in upper case
kept_maintainer : (name root : List ℕ) (b : Bool) → is_maintainer_name (upper name) ≡ b →
    cond b (name_of name) None ≡ Some root
    → (name_of name ≡ Some root) × (is_maintainer_name root ≡ true)
unfolding is_name
kept_maintainer name root false is e = cc
kept_maintainer name root true is e =
    let same : upper name ≡ root = (cond_some (is_name name) (upper name) root e).1 in
    (e, ap is_maintainer_name (sym same) ∙ is)

-- the digest of a word that spells one
optional_digest : (salt : List ℕ) (found : Option (List ℕ)) (auth : AuthParts)
    → option_map (λ digest. record { salt = salt; digest = digest }) found ≡ Some auth →
    (found ≡ Some auth.digest) × (salt ≡ auth.salt)
optional_digest salt None auth e = cc
optional_digest salt (Some digest) auth e =
    let same : record { salt = salt; digest = digest } ≡ auth = cc in
    (ap (λ a. Some a.digest) same, ap (λ a. a.salt) same)

decoded : (found : Result (List ℕ) FromHexError) (digest : List ℕ) → result_ok found ≡ Some digest
    → found ≡ Ok digest
decoded (Ok bytes) digest e = cc
decoded (Err fault) digest e = cc

salted : (salt digits : List ℕ) (auth : AuthParts) (b : Bool) → is_salt salt ≡ b
    → cond b (option_map (λ digest. record { salt = salt; digest = digest })
    (result_ok (decode_sized digits 32))) None ≡ Some auth → IsSaltedDigest auth
salted salt digits auth false is e = cc
salted salt digits auth true is e =
    let parts = optional_digest salt (result_ok (decode_sized digits 32)) auth e in
    let read = decoded (decode_sized digits 32) auth.digest parts.0 in
    let long = decode_sized-ok digits 32 auth.digest read in
    let bytes = decode_of-ok digits auth.digest (sym (decode_sized-twice digits 32 long) ∙ read) in
    record {
      salted = ap is_salt (sym parts.1) ∙ is;
      sized = omega (arith, long, bytes.2);
      bytes = bytes.3;
    }

word_digest : (word : List ℕ) (auth : AuthParts) → salted_digest_of word ≡ Some auth →
    IsSaltedDigest auth
unfolding salted_digest_of
word_digest word auth e = salted (before_first is_colon word) (after_first is_colon word) auth
    (is_salt (before_first is_colon word)) refl e

one_word : (further : List (List ℕ)) (auth : AuthParts) → option_and_then salted_digest_of
    (only further) ≡ Some auth → IsSaltedDigest auth
one_word [] auth e = cc
one_word (word ∷ []) auth e = word_digest word auth e
one_word (word ∷ (other ∷ others)) auth e = cc

well_spelled : (found : Option AuthParts) (auth : AuthParts) → meant_by (option_map Some found)
    ≡ Some auth → found ≡ Some auth
well_spelled None auth e = cc
well_spelled (Some read) auth e = e

of_scheme : (further : List (List ℕ)) (auth : AuthParts) (b : Bool)
    → meant_by (cond b (option_map Some (option_and_then salted_digest_of (only further)))
    (Some None)) ≡ Some auth → IsSaltedDigest auth
of_scheme further auth false e = cc
of_scheme further auth true e = one_word further auth
    (well_spelled (option_and_then salted_digest_of (only further)) auth e)

of_words : (found : List (List ℕ)) (auth : AuthParts) → meant_by (auth_of_words found) ≡ Some auth
    → IsSaltedDigest auth
unfolding auth_of_words
of_words [] auth e = cc
of_words (scheme ∷ further) auth e = of_scheme further auth (is_sha256_pw scheme) e

pub digest_read : (value : List ℕ) (auth : AuthParts) → auth_of value ≡ Some auth →
    IsSaltedDigest auth
digest_read value auth e = of_words (words value) auth e

-- a limit that was read is within its bounds
pub limit_read : (given limit : ℕ) → limit_of given ≡ Some limit → (1 ≤ limit)
    × (limit ≤ GREATEST_LIMIT)
limit_read given limit e =
    let parts = cond_some (nat_le 1 given && nat_le given GREATEST_LIMIT) given limit e in
    let test = parts.0 in
    let same : given ≡ limit = parts.1 in
    (grind (arith, nat_tests), grind (arith, nat_tests))

-- settings that were read are good
pub good_settings : (source root auth : Option (List ℕ)) (limit : Option ℕ)
    (settings : SettingsParts)
    → needed Source name_of source ≡ Ok settings.source → needed Root maintainer_name_of root
    ≡ Ok settings.root
    → needed Auth auth_of auth ≡ Ok settings.auth → needed Limit limit_of limit ≡ Ok settings.limit
    → IsSettings settings
good_settings source root auth limit settings es er ea el =
    let s = needed_value Source name_of source settings.source es in
    let r = needed_value Root maintainer_name_of root settings.root er in
    let a = needed_value Auth auth_of auth settings.auth ea in
    let l = needed_value Limit limit_of limit settings.limit el in
    let kept = kept_maintainer r.text settings.root (is_maintainer_name (upper r.text)) refl
    r.spelled in
    let bounds = limit_read l.text settings.limit l.spelled in
    record {
      source = name_of-kept s.text settings.source s.spelled;
      root = name_of-kept r.text settings.root kept.0;
      maintainer = kept.1;
      auth = digest_read a.text settings.auth a.spelled;
      some = bounds.0;
      bounded = bounds.1;
    }

-- the built-in settings are read from their texts
pub built_in_read : result_ok (settings_of (Some (codes "TEST")) (Some (codes "ROOT-MNT"))
    (Some (codes "SHA256-PW a:ba7816bf8f01cfea414140de5dae2223b00361a396177a9cb410ff61f20015ad"))
    (Some 10000)) ≡ Some built_in
unfolding settings_of is_name is_reserved words auth_of_words is_keyword salted_digest_of
    decode_pairs
built_in_read = refl
