use Rattle.std.proofs.Common.{[], ap, inl, refl, string_bytes}
use Rattle.rr_commands.specs.Faults.{name_on_line}
use Rattle.rr_commands.proofs.places.about_paragraph.Goals as goal

pub returns-in-Some : goal.returns-in-Some
returns-in-Some g c =
    let named = c.in-Some.ensures in
    record {
      trouble = ap (λ fault. fault.trouble) c.named.ensures;
      shows = record {
        found = named.0;
        text = string_bytes c.in-Some.name;
        names = named.1;
        shows = ap (λ fault. name_on_line fault.about) c.named.ensures;
      };
    }

pub returns-in-None : goal.returns-in-None
returns-in-None g c = record {
  trouble = ap (λ fault. fault.trouble) c.of.ensures;
  shows = record {
    found = [];
    text = _;
    names = inl refl;
    shows = ap (λ fault. name_on_line fault.about) c.of.ensures;
  };
}
