use Rattle.std.proofs.Common.{◌≡◌, length}
use Rattle.std.specs.Prelude.{All}
use Rattle.httparse.specs.Spans.{IsHeaderWithin}
use Rattle.rr_http.specs.AskedParts.{fields_in, fields_of}
use Rattle.rr_http.specs.Requests.{values_of}
use Rattle.rr_http.proofs.fields.Fields.find.Given as goal

-- the fields passed have another name
abbrev pub invariant-fields : goal.invariant-fields
invariant-fields l = record {
  same : values_of l.name (fields_in l.self)
      ≡ values_of l.name (fields_of l.self.head.now l.rest);
  within : All (IsHeaderWithin (length l.self.head.now)) l.rest;
}

abbrev pub decreases-fields : goal.decreases-fields
decreases-fields l = length l.rest
