use Rattle.std.proofs.Common.{ap, sym, ◌∙◌, rules}
use Rattle.std.specs.Option.{option_or}
use Rattle.rr_cover.specs.SpanNests.{is_ahead, at_span, standing}
use Rattle.rr_cover.proofs.NestTurns.{fits_last, fits_between, low_of, high_of, turned_last}
use Rattle.rr_cover.proofs.NestTurns.{turned_last_twice}
use Rattle.rr_cover.proofs.span_nest.changes.rotate_left.Goals as goal

pub make_root-requires-then-height : goal.make_root-requires-then-height
make_root-requires-then-height g c = record {
  fits = let root = c.in-Some.root.value in
      let opened = c.in-Some.ensures.some in
      fits_last c.args.node.value.span c.args.node.value.value c.args.before c.args.after root.span
      root.value c.in-Some.inner c.in-Some.outer c.in-Some.inner c.make_root-left.result
      c.requires.fits opened (record { all = c.make_root-left.ensures.all }) opened.fits.ahead;
  nests = search rules;
}

pub returns-then-height : goal.returns-then-height
returns-then-height g c = record {
  all = λ s.
      turned_last (standing c.args.before s) (at_span c.args.node.value.span c.args.node.value.value
      s) (standing c.in-Some.inner s)
      (at_span c.in-Some.root.value.span c.in-Some.root.value.value s)
      (standing c.in-Some.outer s) (standing c.args.after s) (standing c.make_root-left.result s)
      (standing c.make_root-then-height.result s) (c.in-Some.ensures.some.all s)
      (c.make_root-left.ensures.all s) (c.make_root-then-height.ensures.all s);
  nest = search rules;
}

pub make_root-requires-in_default-open : goal.make_root-requires-in_default-open
make_root-requires-in_default-open g c = record {
  fits = let node = c.args.node.value in
      let root = c.in-Some.root.value in
      let opened = c.in-Some.ensures.some in
      fits_last node.span node.value c.args.before c.args.after root.span root.value c.in-Some.inner
      c.in-Some.outer c.in-Some.inner c.make_root-left-in_default-open.result c.requires.fits
      opened (record {
        all = λ s.
            c.make_root-left-in_default-open.ensures.all s
            ∙ ap (λ x. option_or (standing c.args.before s)
            (option_or (at_span node.span node.value s) x))
            (sym (c.in_default-open.ensures.none s));
      }) opened.fits.ahead;
  nests = search rules;
}

pub returns-in_default-open : goal.returns-in_default-open
returns-in_default-open g c = record {
  all = λ s.
      let node = c.args.node.value in
      turned_last (standing c.args.before s) (at_span node.span node.value s)
      (standing c.in-Some.inner s) (at_span c.in-Some.root.value.span c.in-Some.root.value.value
      s) (standing c.in-Some.outer s) (standing c.args.after s)
      (standing c.make_root-left-in_default-open.result s)
      (standing c.make_root-in_default-open.result s) (c.in-Some.ensures.some.all s)
      (c.make_root-left-in_default-open.ensures.all s
      ∙ ap (λ x. option_or (standing c.args.before s)
      (option_or (at_span node.span node.value s) x))
      (sym (c.in_default-open.ensures.none s))) (c.make_root-in_default-open.ensures.all s);
  nest = search rules;
}

pub make_root-right-requires : goal.make_root-right-requires
make_root-right-requires g c = record {
  fits = let root = c.in-Some.root.value in
      let top = c.in-Some-open.top.value in
      let opened = c.in-Some.ensures.some in
      record {
        ordered = opened.fits.ordered;
        ahead = high_of c.in-Some.inner top.span top.value c.in-Some-open.low c.in-Some-open.high
            c.in-Some-open.ensures.some (λ u. is_ahead u root.span) opened.fits.ahead;
        after = opened.fits.after;
      };
  nests = search rules;
}

pub make_root-requires-2 : goal.make_root-requires-2
make_root-requires-2 g c = record {
  fits = let node = c.args.node.value in
      let root = c.in-Some.root.value in
      let top = c.in-Some-open.top.value in
      let opened = c.in-Some.ensures.some in
      fits_between node.span node.value root.span root.value c.args.before c.in-Some-open.low
      c.in-Some-open.high c.in-Some.outer c.make_root-left-2.result c.make_root-right.result
      c.in-Some.inner top.span top.value c.in-Some-open.ensures.some
      (record { all = c.make_root-left-2.ensures.all })
      (record { all = c.make_root-right.ensures.all }) c.requires.fits.ahead
      (low_of c.args.after root.span root.value c.in-Some.inner c.in-Some.outer opened
      (λ u. is_ahead node.span u) c.requires.fits.after) opened.fits.ahead opened.fits.after;
  nests = search rules;
}

pub returns : goal.returns
returns g c = record {
  all = λ s.
      turned_last_twice (standing c.args.before s)
      (at_span c.args.node.value.span c.args.node.value.value s) (standing c.in-Some-open.low s)
      (at_span c.in-Some-open.top.value.span c.in-Some-open.top.value.value s)
      (standing c.in-Some-open.high s)
      (at_span c.in-Some.root.value.span c.in-Some.root.value.value s)
      (standing c.in-Some.outer s) (standing c.in-Some.inner s) (standing c.args.after s)
      (standing c.make_root-left-2.result s) (standing c.make_root-right.result s)
      (standing c.make_root-2.result s) (c.in-Some.ensures.some.all s)
      (c.in-Some-open.ensures.some.all s) (c.make_root-left-2.ensures.all s)
      (c.make_root-right.ensures.all s) (c.make_root-2.ensures.all s);
  nest = search rules;
}
