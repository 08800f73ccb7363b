use Rattle.std.proofs.Common.{◌≡◌, drop}
use Rattle.std.specs.Prelude.{◌&&◌}
use Rattle.std.specs.List.{list_any}
use Rattle.rr_auth.specs.Authority.{grants}
use Rattle.rr_auth.specs.Passing.{name_passes}
use Rattle.rr_auth.proofs.authority.some_entry_passes.Given as goal

-- the entries that are left decide
abbrev pub invariant-entries : goal.invariant-entries
invariant-entries g l = record {
  left : list_any (λ entry. grants l.prefix entry && name_passes (g.B.Book.contents l.book)
      l.initial.secrets entry.name) (drop l.entry-index l.entries)
      ≡ list_any (λ entry. grants l.prefix entry && name_passes (g.B.Book.contents l.book)
      l.initial.secrets entry.name) l.entries;
  same_secrets : l.secrets ≡ l.initial.secrets;
}
