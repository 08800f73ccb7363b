use Rattle.std.proofs.Common.{◌≡◌, drop}
use Rattle.std.specs.Option.{option_copied}
use Rattle.rr_auth.specs.Passing.{names_pass}
use Rattle.rr_auth.specs.Registries.{seen_by}
use Rattle.rr_auth.proofs.passing.names_pass.Given as goal

-- the names that are left decide
abbrev pub invariant-names : goal.invariant-names
invariant-names g l = record {
  left : names_pass (seen_by (option_copied l.own) (g.B.Book.contents l.book)) l.initial.secrets
      (drop l.name-index l.names)
      ≡ names_pass (seen_by (option_copied l.own) (g.B.Book.contents l.book)) l.initial.secrets
      l.names;
  same_secrets : l.secrets ≡ l.initial.secrets;
}
