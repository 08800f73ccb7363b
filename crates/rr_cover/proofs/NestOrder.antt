-- The order in which a search tree keeps its spans: outer ones ahead of inner ones.
use Rattle.std.proofs.Common.{◌≡◌, true, false, arith}
use Rattle.std.proofs.lemmas.Bool.Decides.{nat_tests}
use Rattle.std.specs.Ordering.{eq_by_cmp}
use Rattle.rr_number.specs.Spans.{Ends, span_cmp}
use Rattle.rr_cover.specs.SpanNests.{is_ahead}

pub ahead_itself : (s : Ends) → is_ahead s s ≡ false
ahead_itself s = grind (arith, nat_tests)

pub ahead_back : (s t : Ends) → is_ahead s t ≡ true → is_ahead t s ≡ false
ahead_back s t ahead = grind (arith, nat_tests)

pub ahead_chain : (s t u : Ends) → is_ahead s t ≡ true → is_ahead t u ≡ true → is_ahead s u ≡ true
ahead_chain s t u first second = grind (arith, nat_tests)

-- of two spans one is ahead, or they are one
pub ahead_other : (s t : Ends) → eq_by_cmp span_cmp s t ≡ false → is_ahead s t ≡ false →
    is_ahead t s ≡ true
ahead_other s t apart after = grind (arith, nat_tests)
