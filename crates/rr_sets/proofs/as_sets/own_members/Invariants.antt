use Rattle.std.proofs.Common.{◌≡◌, ◌↔◌, Contains, take, List, ℕ}
use Rattle.std.specs.List.{filter}
use Rattle.std.specs.Prelude.{not}
use Rattle.rr_sets.specs.AsSets.{IsDirect, has_as_set}
use Rattle.rr_sets.proofs.as_sets.own_members.Given as goal

abbrev pub invariant-loop-place : goal.invariant-loop-place
invariant-loop-place g l = record {
  found : (n : ℕ) → Contains l.found.items n
      ↔ ((s : List ℕ) × Contains (take l.place l.names) s
      × IsDirect (g.B.Book.contents l.book) s n);
  missing : l.missing.items ≡ filter (λ (s : List ℕ). not (has_as_set (g.B.Book.contents l.book) s))
      (take l.place l.names);
}
