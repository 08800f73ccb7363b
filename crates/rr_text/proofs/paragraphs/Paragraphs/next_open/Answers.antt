-- By what was gathered the answer is one entry more, or the last.
use Rattle.std.proofs.Common.{ℕ, ◌∙◌, ◌++◌, refl, rules, sym, subst}
use Rattle.rr_text.specs.ParagraphReaders.{held, left_of, Nearer}
use Rattle.rr_text.proofs.ReaderLemmas.{closed_next, left_same, nearer_found, fields_found}
use Rattle.rr_text.proofs.ReaderLemmas.{last_next, last_nearer, last_fields, broken_end}
use Rattle.rr_text.proofs.ReaderLemmas.{endless_end, open_stays}
use Rattle.rr_text.proofs.paragraphs.Paragraphs.next_open.Goals as goal

pub returns-in-Open : goal.returns-in-Open
returns-in-Open g c =
    let closed = c.in-Open.ensures in
    let found = c.entry.ensures closed.prefix closed.closed.entry in record {
      given = λ start given has. closed_next start _ _ _ c.gather-state.new.self _ given _ has
          c.requires closed refl refl c.in-Open.is found;
      stays = open_stays _ _ _ _ _ _ c.requires;
      nearer = nearer_found c.args.self.now c.gather-state.new.self closed.given closed.prefix
          closed.reading.count _ closed.reading.reads closed.reading.bounded closed.cut found;
      fields = fields_found closed.prefix _ found;
      aside = closed.reading.gives.aside;
    }

pub returns-in-Ended : goal.returns-in-Ended
returns-in-Ended g c =
    let rest = c.in-Ended.ensures in
    let same = c.last.ensures.same in
    let last = c.last.ensures.last (held c.args.self.now ++ rest.given) rest.unclosed in
    let P : ℕ → Type 0 = λ n. Nearer (left_of c.args.self.now) n c.last.result in record {
      given = λ start given has. last_next start _ _ _ c.gather-state.new.self _ given _ has
          c.requires rest same.0 same.1 (same.2 ∙ c.in-Ended.is) last;
      stays = open_stays _ _ _ _ _ _ c.requires;
      nearer = subst P (sym (left_same c.gather-state.new.self c.last.new.self same.0 same.1))
          (last_nearer _ _ c.args.self.now c.gather-state.new.self _ rest last);
      fields = last_fields (held c.args.self.now ++ rest.given) _ last;
      aside = rest.reading.gives.0.aside;
    }

pub returns-in-Broken : goal.returns-in-Broken
returns-in-Broken g c =
    let breaks = c.in-Broken.ensures.0.reading.gives in record {
      given = λ start given has. (
        c.in-Broken.is,
        broken_end start _ _ _ c.gather-state.new.self given has c.requires c.in-Broken.ensures,
      );
      stays = open_stays _ _ _ _ _ _ c.requires;
      nearer = search rules;
      fields = search rules;
      aside = breaks.fails.aside ∙ breaks.gives.aside;
    }

pub returns-in-Endless : goal.returns-in-Endless
returns-in-Endless g c = record {
  given = λ start given has. (
    c.in-Endless.is,
    endless_end start _ _ _ c.gather-state.new.self given has c.requires c.in-Endless.ensures,
  );
  stays = open_stays _ _ _ _ _ _ c.requires;
  nearer = search rules;
  fields = search rules;
  aside = c.in-Endless.ensures.0.reading.gives.aside;
}
