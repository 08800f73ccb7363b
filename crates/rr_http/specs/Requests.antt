-- What a request asks, by its method, its target and its fields (RFC 9110; profile): for
-- `read_request`.
use Rattle.std.specs.Prelude.{ℕ, ◌≤◌, Bool, false, nat_eq, ◌==◌, ◌&&◌, not, nat_lt}
use Rattle.std.specs.Prelude.{nat_le}
use Rattle.std.specs.Prelude.{List, [], ◌∷◌, length, map, filter, drop, codes, Option, None}
use Rattle.std.specs.Prelude.{Some}
use Rattle.std.specs.Prelude.{Result, Ok, Err, if◌then◌else◌}
use Rattle.std.specs.List.{before_first, list_all, list_any, starts_with}
use Rattle.std.specs.Str.{bytes_eq}
use Rattle.std.specs.Char.{is_ascii_digit}
use Rattle.std.specs.Str.Parse.{digits_value}
use Rattle.rr_bytes.specs.LetterCase.{is_keyword}
use Rattle.rr_http.specs.declared.asking.Page.{Page}
use Rattle.rr_http.specs.declared.asking.Page.TheVariants as page
use Rattle.rr_http.specs.declared.asking.Refusal.{Refusal}
use Rattle.rr_http.specs.declared.asking.Refusal.TheVariants.{BadRequest, NotImplemented, NotFound}
use Rattle.rr_http.specs.declared.asking.Refusal.TheVariants.{MethodNotAllowed, LengthRequired}
use Rattle.rr_http.specs.declared.asking.Refusal.TheVariants.{PayloadTooLarge}
use Rattle.rr_http.specs.declared.body_size.TheConstants.{BODY_LIMIT}

-- a field of a head: its name, and its value less the white space around it (RFC 9110, 5)
abbrev pub HeadField : Type 0
HeadField = List ℕ × List ℕ

-- what a request asks: to be refused, the report on a body of so many bytes, the answer to a query
-- with these escapes, or the dump
pub data Asks : Type 0 where
  refused : Refusal → Asks
  submission : ℕ → Asks
  query : List ℕ → Asks
  dump : Asks

-- the path of a target ends before its first `?` (RFC 9110, 7.1; RFC 3986, 3.4)
abbrev pub path_of : List ℕ → List ℕ
path_of target = before_first (λ b. b == 63) target

-- a segment of a path has bytes, and none of them is a slash (RFC 3986, 3.3)
abbrev pub is_segment : List ℕ → Bool
is_segment [] = false
is_segment (b ∷ bs) = not (list_any (λ c. c == 47) (b ∷ bs))

-- what stands after `/query/` in a path
abbrev pub after_query : List ℕ → List ℕ
after_query path = drop (length (codes "/query/")) path

-- the path of a query is `/query/` and one segment after it (profile)
abbrev pub is_query_path : List ℕ → Bool
is_query_path path = starts_with nat_eq path (codes "/query/") && is_segment (after_query path)

-- the pages: `/submissions`, `/dump`, and `/query/` with one segment after it (profile)
unfoldable pub page_of : List ℕ → Option Page
page_of path =
    if bytes_eq path (codes "/submissions") then Some page.Submissions
    else (if bytes_eq path (codes "/dump") then Some page.Dump
    else (if is_query_path path then Some page.Query else None))

-- a field has this name, in any case of letters (RFC 9110, 5.1)
abbrev pub is_field_of : List ℕ → HeadField → Bool
is_field_of name field = is_keyword name field.0

-- the values of the fields of this name
abbrev pub values_of : List ℕ → List HeadField → List (List ℕ)
values_of name fields = map (λ (field : HeadField). field.1) (filter (is_field_of name) fields)

-- there is a field of this name
abbrev pub has_field : List ℕ → List HeadField → Bool
has_field name fields = nat_lt 0 (length (values_of name fields))

-- a length is spelled in decimal digits alone (RFC 9110, 8.6)
abbrev pub is_length : List ℕ → Bool
is_length [] = false
is_length (b ∷ bs) = list_all is_ascii_digit (b ∷ bs)

-- the number of bytes that a length spells; what is no length is a bad request, and more than
-- 1,048,576 bytes are too many (profile)
unfoldable pub size_of : List ℕ → Result ℕ Refusal
size_of value =
    if is_length value
    then (if nat_le (digits_value 10 value) BODY_LIMIT then Ok (digits_value 10 value)
    else Err PayloadTooLarge)
    else Err BadRequest

-- the size of a body by its lengths: exactly one is needed (RFC 9110, 8.6; profile)
abbrev pub body_size : List (List ℕ) → Result ℕ Refusal
body_size [] = Err LengthRequired
body_size (value ∷ []) = size_of value
body_size (value ∷ other ∷ rest) = Err BadRequest

-- what is asked by a submission whose body has this size, or whose size is refused so
abbrev pub asks_submission : Result ℕ Refusal → Asks
asks_submission (Ok size) = submission size
asks_submission (Err refusal) = refused refusal

-- the one method of each page (RFC 9110, 9.3; profile)
abbrev pub method_of : Page → List ℕ
method_of page.Submissions = codes "POST"
method_of page.Query = codes "GET"
method_of page.Dump = codes "GET"

-- what is asked of a page by its own method; a query is what stands after `/query/`
abbrev pub asks_page : List ℕ → List HeadField → Page → Asks
asks_page path fields page.Submissions =
    asks_submission (body_size (values_of (codes "Content-Length") fields))
asks_page path fields page.Query = query (after_query path)
asks_page path fields page.Dump = dump

-- what is asked at a path: it is refused where no page stands there, or by another method than that
-- of the page
abbrev pub asks_at : List ℕ → List ℕ → List HeadField → Option Page → Asks
asks_at method path fields None = refused NotFound
asks_at method path fields (Some found) =
    if bytes_eq method (method_of found) then asks_page path fields found
    else refused (MethodNotAllowed found)

-- what a request asks. The first refusal of these is given: a transfer coding, no such page,
-- another method, and for a body no length, a bad length or more than one, a length that is too
-- large (RFC 9110, 15; profile)
unfoldable pub asks_of : List ℕ → List ℕ → List HeadField → Asks
asks_of method target fields =
    if has_field (codes "Transfer-Encoding") fields then refused NotImplemented
    else asks_at method (path_of target) fields (page_of (path_of target))

-- the query of a request has no more bytes than its head, which has so many (RFC 9112, 2.1)
abbrev pub HasQueryWithin : ℕ → Asks → Type 0
HasQueryWithin size (refused refusal) = Unit {0}
HasQueryWithin size (submission body) = Unit {0}
HasQueryWithin size (query escaped) = length escaped ≤ size
HasQueryWithin size dump = Unit {0}
