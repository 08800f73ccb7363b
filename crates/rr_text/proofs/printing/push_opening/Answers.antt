use Rattle.std.proofs.Common.{append_assoc, rules}
use Rattle.rr_text.proofs.PrintLemmas.{starts_more, starts_then}
use Rattle.rr_text.proofs.printing.push_opening.Goals as goal

pub returns : goal.returns
returns c =
    let begun = c.in_ok-extend_from_slice.ensures.items in record {
      ok = search (rules, begun, append_assoc);
      err = search (
        rules,
        starts_then c.args.out.now.items c.extend_from_slice.new.self.items
            c.push_value.new.out.items (starts_more _ _ _ begun),
      );
    }
