-- The spans of a registry's objects, by class.
use Rattle.std.specs.Prelude.{◌≡◌, ℕ, true}
use Rattle.std.specs.FinMap.{contains_key}
use Rattle.rr_number.specs.Prefixes.{IsMasked, PrefixParts, span_of}
use Rattle.rr_number.specs.Spans.{Ends}
use Rattle.rr_object.specs.declared.key.Key.TheVariants.{AsBlock, Inetnum, Route}
use Rattle.rr_auth.specs.Registries.{Reg}
use Rattle.rr_cover.specs.SpanMaps.{SpanMap}

-- Some route is registered whose prefix has the addresses of the span.
pub record IsRouted (r : Reg) (s : Ends) : Type 0 where
  pub prefix : PrefixParts
  pub span_is : span_of prefix ≡ s
  pub origin : ℕ
  pub there : contains_key r (Route prefix origin) ≡ true

-- The spans of exactly the registered inetnums, as-blocks and prefixes of routes are held, and such
-- a prefix has no bit past its length (profile).
pub record HasSpans (r : Reg) (inetnums blocks routes : SpanMap (Unit {0})) : Type 0 where
  pub inetnums_are : (s : Ends) → contains_key inetnums s ≡ contains_key r (Inetnum s)
  pub blocks_are : (s : Ends) → contains_key blocks s ≡ contains_key r (AsBlock s)
  pub routed : (s : Ends) → contains_key routes s ≡ true → IsRouted r s
  pub routes_are : (p : PrefixParts) (n : ℕ) → contains_key r (Route p n) ≡ true
      → contains_key routes (span_of p) ≡ true
  pub masked : (p : PrefixParts) (n : ℕ) → contains_key r (Route p n) ≡ true → IsMasked p
