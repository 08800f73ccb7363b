use Rattle.std.proofs.Common.{map, reverse}
use Rattle.rr_store.proofs.OnceLemmas.{IsOnce}
use Rattle.rr_store.proofs.names.each_once.Given as goal

abbrev pub invariant-loop-name : goal.invariant-loop-name
invariant-loop-name l = IsOnce (reverse (map (λ name. name.now) l.yielded)) l.kept.items l.seen
