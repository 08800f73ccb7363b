use Rattle.std.proofs.Common.{◌≡◌, drop}
use Rattle.std.specs.List.{list_any}
use Rattle.rr_auth.specs.Conditions.{route_passes}
use Rattle.rr_auth.proofs.judging.some_route_passes.Given as goal

-- the origins that are left decide
abbrev pub invariant-origins : goal.invariant-origins
invariant-origins g l = record {
  left : list_any (route_passes (g.B.Book.contents l.book) l.initial.secrets l.prefix l.closest)
      (drop l.origin-index l.origins)
      ≡ list_any (route_passes (g.B.Book.contents l.book) l.initial.secrets l.prefix l.closest)
      l.origins;
  same_secrets : l.secrets ≡ l.initial.secrets;
}
