-- What a request asks, as code says it: for `read_request`.
use Rattle.rr_http.specs.declared.asking.Requested.{Requested}
use Rattle.rr_http.specs.declared.asking.Requested.TheVariants as asked
use Rattle.rr_http.specs.Requests.{Asks, refused, submission, query, dump}

-- what is asked, with the bytes of a query in place of a reference to them
abbrev pub view_of : Requested → Asks
view_of (asked.Refused refusal) = refused refusal
view_of (asked.Submission size) = submission size
view_of (asked.Query escaped) = query escaped.now
view_of asked.Dump = dump
