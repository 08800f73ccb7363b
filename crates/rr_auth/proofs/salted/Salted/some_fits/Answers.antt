use Rattle.std.proofs.Common.{ℕ, List, Option, ap, sym, subst, ◌∙◌}
use Rattle.std.specs.Prelude.{IfSome}
use Rattle.std.specs.BTreeSet.{BTreeSet, contains}
use Rattle.std.specs.Cmp.Lexicographic.{slice_cmp}
use Rattle.std.specs.List.{list_any}
use Rattle.std.specs.Ordering.{nat_cmp}
use Rattle.rr_auth.specs.Passing.{fits_line}
use Rattle.rr_auth.specs.TrialParts.{HasDigests}
use Rattle.rr_auth.proofs.salted.Salted.some_fits.Goals as goal

pub returns-in-Some : goal.returns-in-Some
returns-in-Some c =
    let line = c.args.line.now in
    let salt : List ℕ = c.in_ok-salt.salt.items in
    let has : HasDigests salt c.args.wanted.now c.args.secrets.now c.in-Some.digests.now =
    subst (λ (o : Option (BTreeSet (List ℕ))).
    IfSome o (HasDigests salt c.args.wanted.now c.args.secrets.now))
    (sym c.in-Some.ensures.value) (c.requires.remembered c.in_ok-salt.salt) in record {
      answer = c.contains.ensures
          ∙ ap (contains (slice_cmp nat_cmp) c.in-Some.digests.now) c.digest.ensures
          ∙ has line.digest c.requires.wanted
          ∙ ap (λ (s : List ℕ). list_any (fits_line (record { salt = s; digest = line.digest }))
          c.args.secrets.now) (c.in_ok-salt.ensures.items ∙ c.salt.ensures);
      remembers = c.requires.remembered;
    }
