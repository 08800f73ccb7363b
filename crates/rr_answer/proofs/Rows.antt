-- Worked queries and answers, computed from their definitions.
use Rattle.std.proofs.Common.{◌≡◌, ℕ, List, [], ◌∷◌, ◌++◌, false, true, refl}
use Rattle.std.specs.Prelude.{Err, Ok, codes}
use Rattle.rr_bytes.specs.Cuts.{cut_at}
use Rattle.rr_bytes.specs.LetterCase.{is_keyword}
use Rattle.rr_bytes.specs.NameBytes.{is_name}
use Rattle.rr_text.specs.CanonicalText.{canonical, ended}
use Rattle.rr_number.specs.Addresses.{address_of, joined_of}
use Rattle.rr_number.specs.AsNumbers.{as_number_of}
use Rattle.rr_number.specs.Names.{is_reserved}
use Rattle.rr_number.specs.Numerals.{number_of}
use Rattle.rr_number.specs.Prefixes.{masked_of, prefix_of}
use Rattle.rr_number.specs.SetNames.{is_set_name, set_text}
use Rattle.rr_object.specs.declared.key.Key.TheVariants.{AutNum, Mntner}
use Rattle.rr_bytes.specs.Parts.{words}
use Rattle.rr_object.specs.KeySpellings.{key_of_text}
use Rattle.rr_object.specs.Objects.{Obj}
use Rattle.rr_object.specs.Readings.{public_of}
use Rattle.rr_answer.specs.declared.query_fault.QueryFault.TheVariants.{Bad, Stopped}
use Rattle.rr_answer.specs.declared.query.Query.TheVariants.{Object, Closest, Less, Naming, Expand}
use Rattle.rr_answer.specs.Dumps.{dumped}
use Rattle.rr_answer.specs.Faults.{error_line}
use Rattle.rr_answer.specs.Queries.{query_of, query_of_more}
use Rattle.rr_answer.specs.Texts.{members_text, objects_text}

-- a key in any letter case, with a CR after it
object_read : query_of (codes "object mntner a-mnt" ++ 13 ∷ [])
    ≡ Ok (Object (Mntner (codes "A-MNT")))
unfolding query_of query_of_more words is_keyword key_of_text is_name is_reserved
object_read = refl

-- a name alone is a maintainer's
name_read : query_of (codes "a-mnt") ≡ Ok (Object (Mntner (codes "A-MNT")))
unfolding query_of words key_of_text as_number_of prefix_of cut_at address_of is_set_name is_name
    is_reserved
name_read = refl

-- an AS number alone is an aut-num's
number_read : query_of (codes "AS70000") ≡ Ok (Object (AutNum 70000))
unfolding query_of words key_of_text as_number_of number_of
number_read = refl

-- an address stands for the prefix of it alone
place_read : query_of (codes "Less 10.1.2.3")
    ≡ Ok (Less (record { address = 167838211; length = 32 }))
unfolding query_of words is_keyword prefix_of cut_at address_of joined_of number_of
place_read = refl

-- a prefix alone asks for the closest
closest_read : query_of (codes "10.0.0.5/8")
    ≡ Ok (Closest (record { address = 167772160; length = 8 }))
unfolding query_of words key_of_text as_number_of prefix_of masked_of cut_at address_of joined_of
    number_of
closest_read = refl

-- a maintainer's name alone can be named
naming_read : query_of (codes "inverse mnt A-MNT") ≡ Ok (Naming (codes "A-MNT"))
unfolding query_of query_of_more words is_keyword is_name is_reserved
naming_read = refl

any_refused : query_of (codes "inverse mnt any") ≡ Err Bad
unfolding query_of query_of_more words is_keyword is_name is_reserved
any_refused = refl

-- all ASes can be expanded, and are no object
any_expanded : query_of (codes "expand as-any") ≡ Ok (Expand (codes "AS-ANY"))
unfolding query_of words is_keyword is_set_name set_text as_number_of number_of
any_expanded = refl

any_is_no_object : query_of (codes "AS-ANY") ≡ Err Bad
unfolding query_of words key_of_text as_number_of number_of prefix_of cut_at address_of is_set_name
    set_text is_name is_reserved
any_is_no_object = refl

-- no words, and a word that is no name
nothing_refused : query_of [] ≡ Err Bad
unfolding query_of words
nothing_refused = refl

dot_refused : query_of (codes ".") ≡ Err Bad
unfolding query_of words key_of_text as_number_of prefix_of cut_at address_of joined_of number_of
    is_set_name is_name is_reserved
dot_refused = refl

-- an LF, even after a good query
line_feed_refused : query_of (codes "a-mnt" ++ 10 ∷ []) ≡ Err Bad
unfolding query_of
line_feed_refused = refl

-- a maintainer with a digest, as it is answered and as it is dumped
maintainer : Obj
maintainer = record {
  key = Mntner (codes "A-MNT");
  paragraph =
      record { name = codes "mntner"; lines = codes "A-MNT" ∷ [] } ∷ record {
        name = codes "auth";
        lines = codes "SHA256-PW ab:0f" ∷ [];
      }
      ∷ record { name = codes "mnt-by"; lines = codes "A-MNT" ∷ [] }
      ∷ record { name = codes "source"; lines = codes "TEST" ∷ [] } ∷ [];
  maintainers = codes "A-MNT" ∷ [];
  lower = [];
  routes = [];
  auths = [];
  members = [];
  by_ref = record { any = false; names = [] };
  member_of = [];
}

maintainer_shown : objects_text (maintainer ∷ []) ≡
    ended (codes "mntner:         A-MNT") ++ ended (codes "auth:           # filtered") ++ ended
    (codes "mnt-by:         A-MNT")
    ++ ended (codes "source:         TEST") ++ ended []
unfolding objects_text public_of canonical maintainer
maintainer_shown = refl

maintainer_dumped : dumped true maintainer ≡
    ended (codes "mntner:         A-MNT") ++ ended (codes "auth:           SHA256-PW ab:0f") ++
    ended (codes "mnt-by:         A-MNT")
    ++ ended (codes "source:         TEST") ++ ended []
unfolding canonical maintainer
maintainer_dumped = refl

none_shown : objects_text [] ≡ ended (codes "% no entries")
unfolding objects_text
none_shown = refl

-- a missing name after what is found
numbers_shown : members_text (λ (name : List ℕ). name) (codes "AS1" ∷ codes "AS2" ∷ [])
    (codes "AS-GONE" ∷ []) ≡
    ended (codes "AS1") ++ ended (codes "AS2") ++ ended (codes "% missing AS-GONE")
unfolding members_text
numbers_shown = refl

nobody_shown : members_text (λ (name : List ℕ). name) [] [] ≡ ended (codes "% empty")
unfolding members_text
nobody_shown = refl

-- the lines of errors
stopped_shown : error_line Stopped ≡ ended (codes "% error 6")
stopped_shown = refl
