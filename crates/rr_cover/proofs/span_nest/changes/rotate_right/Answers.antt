use Rattle.std.proofs.Common.{ap, sym, ◌∙◌, rules}
use Rattle.std.specs.Option.{option_or}
use Rattle.rr_cover.specs.SpanNests.{is_ahead, at_span, standing}
use Rattle.rr_cover.proofs.NestTurns.{fits_first, fits_between, high_of, turned_first}
use Rattle.rr_cover.proofs.NestTurns.{turned_first_twice}
use Rattle.rr_cover.proofs.span_nest.changes.rotate_right.Goals as goal

pub make_root-requires-then-height : goal.make_root-requires-then-height
make_root-requires-then-height g c = record {
  fits = let root = c.in-Some.root.value in
      let opened = c.in-Some.ensures.some in
      fits_first c.args.node.value.span c.args.node.value.value c.args.before c.args.after root.span
      root.value c.in-Some.outer c.in-Some.inner c.in-Some.inner c.make_root-right.result
      c.requires.fits opened (record { all = c.make_root-right.ensures.all }) opened.fits.after;
  nests = search rules;
}

pub returns-then-height : goal.returns-then-height
returns-then-height g c = record {
  all = λ s.
      turned_first _ _ _ (at_span c.args.node.value.span c.args.node.value.value s)
      (standing c.args.after s) _ _ _ (c.in-Some.ensures.some.all s)
      (c.make_root-right.ensures.all s) (c.make_root-then-height.ensures.all s);
  nest = search rules;
}

pub make_root-requires-in_default-open : goal.make_root-requires-in_default-open
make_root-requires-in_default-open g c = record {
  fits = let root = c.in-Some.root.value in
      let opened = c.in-Some.ensures.some in
      let none = c.in_default-open.ensures.none in
      fits_first c.args.node.value.span c.args.node.value.value c.args.before c.args.after root.span
      root.value c.in-Some.outer c.in-Some.inner c.in-Some.inner
      c.make_root-right-in_default-open.result c.requires.fits opened (record {
        all = λ s.
            c.make_root-right-in_default-open.ensures.all s
            ∙ ap
            (λ x.
            option_or x (option_or (at_span c.args.node.value.span c.args.node.value.value s)
            (standing c.args.after s))) (sym (none s));
      }) opened.fits.after;
  nests = search rules;
}

pub returns-in_default-open : goal.returns-in_default-open
returns-in_default-open g c = record {
  all = λ s.
      let none = c.in_default-open.ensures.none in
      turned_first _ _ _ (at_span c.args.node.value.span c.args.node.value.value s)
      (standing c.args.after s) _ _ _ (c.in-Some.ensures.some.all s)
      (c.make_root-right-in_default-open.ensures.all s
      ∙ ap (λ x. option_or x (option_or (at_span c.args.node.value.span c.args.node.value.value s)
      (standing c.args.after s))) (sym (none s))) (c.make_root-in_default-open.ensures.all s);
  nest = search rules;
}

pub make_root-right-requires-2 : goal.make_root-right-requires-2
make_root-right-requires-2 g c = record {
  fits = let span = c.args.node.value.span in
      let root = c.in-Some.root.value in
      let top = c.in-Some-open.top.value in
      record {
        ordered = c.requires.fits.ordered;
        ahead = high_of c.in-Some.inner top.span top.value c.in-Some-open.low c.in-Some-open.high
            c.in-Some-open.ensures.some (λ u. is_ahead u span)
            (high_of c.args.before root.span root.value c.in-Some.outer c.in-Some.inner
            c.in-Some.ensures.some (λ u. is_ahead u span) c.requires.fits.ahead);
        after = c.requires.fits.after;
      };
  nests = search rules;
}

pub make_root-requires-2 : goal.make_root-requires-2
make_root-requires-2 g c = record {
  fits = let node = c.args.node.value in
      let root = c.in-Some.root.value in
      let top = c.in-Some-open.top.value in
      let opened = c.in-Some.ensures.some in
      fits_between root.span root.value node.span node.value c.in-Some.outer c.in-Some-open.low
      c.in-Some-open.high c.args.after c.make_root-left.result c.make_root-right-2.result
      c.in-Some.inner top.span top.value c.in-Some-open.ensures.some
      (record { all = c.make_root-left.ensures.all })
      (record { all = c.make_root-right-2.ensures.all }) opened.fits.ahead opened.fits.after
      (high_of c.args.before root.span root.value c.in-Some.outer c.in-Some.inner opened
      (λ u. is_ahead u node.span) c.requires.fits.ahead) c.requires.fits.after;
  nests = search rules;
}

pub returns : goal.returns
returns g c = record {
  all = λ s.
      turned_first_twice _ _ _ _ _ (at_span c.args.node.value.span c.args.node.value.value s)
      (standing c.args.after s) _ _ _ _ _ (c.in-Some.ensures.some.all s)
      (c.in-Some-open.ensures.some.all s) (c.make_root-left.ensures.all s)
      (c.make_root-right-2.ensures.all s) (c.make_root-2.ensures.all s);
  nest = search rules;
}
