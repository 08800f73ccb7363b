-- What private functions that read a request promise each other. No public clause cites these.
use Rattle.std.specs.Prelude.{ℕ, List, map}
use Rattle.httparse.specs.Spans.{header_bytes}
use Rattle.httparse.specs.declared.spans.HeaderSpan.{HeaderSpan}
use Rattle.rr_http.specs.declared.fields.Fields.{Fields}
use Rattle.rr_http.specs.Requests.{HeadField}

-- the fields that these spans of a head cover
abbrev pub fields_of : List ℕ → List HeaderSpan → List HeadField
fields_of head fields = map (header_bytes head) fields

-- the fields of a head, as code keeps them
abbrev pub fields_in : Fields → List HeadField
fields_in fields = fields_of fields.head.now fields.spans.now
