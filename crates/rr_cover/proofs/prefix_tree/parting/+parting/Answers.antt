use Rattle.std.proofs.Common.{◌≡◌, ◌<◌, ◌-◌, true, ap, sym, subst, ◌∙◌, arith}
use Rattle.rr_number.specs.Prefixes.{PrefixParts, IsMasked, span_of}
use Rattle.rr_number.specs.Spans.{covers}
use Rattle.rr_cover.specs.TreeParts.{IsParting}
use Rattle.rr_cover.proofs.TreeHalves.{covers_further}
use Rattle.rr_cover.proofs.TreeParting.{some_bits, masked_shortened, shortened_covers, parted}
use Rattle.rr_cover.proofs.prefix_tree.parting.+parting.Goals as goal

pub shorter-wider-requires : goal.shorter-wider-requires
shorter-wider-requires t c = some_bits c.args.common c.args.other c.requires.common
    c.requires.masked c.requires.short

pub parting-requires : goal.parting-requires
parting-requires t c =
    let some : 0 < c.args.common.length = some_bits c.args.common c.args.other c.requires.common
    c.requires.masked c.requires.short in
    let length : c.shorter-wider.result.length ≡ c.args.common.length - 1 =
    ap (λ (p : PrefixParts). p.length) c.shorter-wider.ensures in
    let wider : covers (span_of c.shorter-wider.result) (span_of c.args.common) ≡ true =
    ap (λ (p : PrefixParts). covers (span_of p) (span_of c.args.common))
    c.shorter-wider.ensures ∙ shortened_covers c.args.common c.requires.common some in (
      omega (arith, length, some, c.decreases),
      (
        subst IsMasked (sym c.shorter-wider.ensures)
            (masked_shortened c.args.common c.requires.common),
        (
          c.requires.masked,
          (
            covers_further (span_of c.shorter-wider.result) (span_of c.args.common)
                (span_of c.args.prefix) wider c.requires.over,
            (sym c.if-covers.ensures, c.requires.apart),
          ),
        ),
      ),
    )

pub returns-then-covers : goal.returns-then-covers
returns-then-covers t c =
    subst (λ p. IsParting p c.args.prefix c.args.other) (sym c.shorter-wider.ensures)
    (parted c.args.common c.args.prefix c.args.other c.requires.common c.requires.masked
    c.requires.over c.requires.short c.requires.apart
    (sym (ap (λ (p : PrefixParts). covers (span_of p) (span_of c.args.other))
    c.shorter-wider.ensures) ∙ sym c.if-covers.ensures))
