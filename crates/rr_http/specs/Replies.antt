-- The bytes of replies (RFC 9112, 4; profile): for `write_refusal` and what is answered.
use Rattle.std.specs.Prelude.{ℕ, ◌+◌, List, [], ◌++◌, length, codes, decimal}
use Rattle.http.specs.StatusCode.{code_digits}
use Rattle.rr_http.specs.declared.asking.Refusal.{Refusal}
use Rattle.rr_http.specs.declared.asking.Refusal.TheVariants.{HeadTooLarge, BadRequest}
use Rattle.rr_http.specs.declared.asking.Refusal.TheVariants.{NotImplemented, NotFound}
use Rattle.rr_http.specs.declared.asking.Refusal.TheVariants.{MethodNotAllowed, LengthRequired}
use Rattle.rr_http.specs.declared.asking.Refusal.TheVariants.{PayloadTooLarge, Unavailable}
use Rattle.rr_http.specs.Requests.{method_of}

-- the status code of a refusal (RFC 9110, 15; RFC 6585, 5)
abbrev pub status_of : Refusal → ℕ
status_of HeadTooLarge = 431
status_of BadRequest = 400
status_of NotImplemented = 501
status_of NotFound = 404
status_of (MethodNotAllowed page) = 405
status_of LengthRequired = 411
status_of PayloadTooLarge = 413
status_of Unavailable = 503

-- the reason words of a refusal (RFC 9110, 15; for 431 RFC 6585, 5; for 413 those of RFC 7231,
-- 6.5.11)
abbrev pub reason_of : Refusal → List ℕ
reason_of HeadTooLarge = codes "Request Header Fields Too Large"
reason_of BadRequest = codes "Bad Request"
reason_of NotImplemented = codes "Not Implemented"
reason_of NotFound = codes "Not Found"
reason_of (MethodNotAllowed page) = codes "Method Not Allowed"
reason_of LengthRequired = codes "Length Required"
reason_of PayloadTooLarge = codes "Payload Too Large"
reason_of Unavailable = codes "Service Unavailable"

-- the status of a refusal in words: its code, a space and its reason words
unfoldable pub status_words : Refusal → List ℕ
status_words refusal = code_digits (status_of refusal) ++ (codes " " ++ reason_of refusal)

-- the line of a refusal that names the method of the page, where another was asked with; otherwise
-- nothing (RFC 9110, 10.2.1)
abbrev pub allow_line : Refusal → List ℕ
allow_line (MethodNotAllowed page) = codes "Allow: " ++ (method_of page ++ codes "\r\n")
allow_line other = []

-- the fields of a refusal, with the length of its body, and the empty line after them
-- (RFC 9112, 2.1; profile)
abbrev pub refusal_fields : Refusal → List ℕ
refusal_fields refusal =
    codes "\r\nContent-Type: text/plain\r\nContent-Length: "
    ++ (decimal (length (status_words refusal) + 1)
    ++ (codes "\r\nConnection: close\r\n" ++ (allow_line refusal ++ codes "\r\n")))

-- the reply to a request that is refused: its body is the status in words, and an LF (profile)
unfoldable pub refusal_reply : Refusal → List ℕ
refusal_reply refusal =
    codes "HTTP/1.1 " ++ (status_words refusal
    ++ (refusal_fields refusal ++ (status_words refusal ++ codes "\n")))

-- the head of a reply whose body is what was asked, of status 200: the body ends with the
-- connection (RFC 9112, 6.3)
unfoldable pub ok_head : List ℕ
ok_head = codes "HTTP/1.1 200 OK\r\nContent-Type: text/plain\r\nConnection: close\r\n\r\n"
