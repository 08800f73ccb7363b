-- What a search answers, in other words.
use Rattle.std.proofs.Common.{◌≡◌, ◌↔◌, ℕ, Result, Err, IfOk, Ok, ap, sym, subst}
use Rattle.std.proofs.lemmas.Result.{IfOk-weaker, on_ok_weaker}
use Rattle.rr_graph.specs.Answered.{FindsWithin}
use Rattle.rr_graph.specs.Chain.{MoreThan}
use Rattle.rr_graph.specs.declared.ReachFault.{ReachFault}
use Rattle.rr_graph.specs.declared.ReachFault.TheVariants.{TooMany}
use Rattle.rr_graph.proofs.Listings.{MoreThan-weaker}

-- what two clauses say of one value
pub IfOk-both : {X E : Type 0} (r : Result X E) (P Q R : X → Type 0) →
    ((x : X) → P x → Q x → R x) → IfOk r P → IfOk r Q → IfOk r R
IfOk-both (Ok x) P Q R both p q = both x p q
IfOk-both (Err e) P Q R both p q = tt

-- a search for what suffices, with a limit that is gone over at the same time
pub FindsWithin-weaker : {X : Type 0} {IsWhole Suffices : X → Type 0} {Over Beyond : Type 0}
    {result : Result X ReachFault} → FindsWithin IsWhole Over result →
    ((x : X) → IsWhole x → Suffices x) → (Over → Beyond) → (Beyond → Over) →
    FindsWithin Suffices Beyond result
FindsWithin-weaker {IsWhole = IsWhole} {Suffices = Suffices} {result = result} finds enough over
    back = record {
      found = IfOk-weaker result IsWhole Suffices enough finds.found;
      few = on_ok_weaker result (λ few beyond. few (back beyond)) finds.few;
      many = λ is. over (finds.many is);
    }

-- more than `limit` of the same things
pub FindsWithin-alike : {X Y : Type 0} {IsWhole Suffices : X → Type 0}
    {result : Result X ReachFault} (limit : ℕ) (P Q : Y → Type 0) →
    FindsWithin IsWhole (MoreThan limit P) result → ((x : X) → IsWhole x → Suffices x) →
    ((y : Y) → P y ↔ Q y) → FindsWithin Suffices (MoreThan limit Q) result
FindsWithin-alike {IsWhole = IsWhole} {Suffices = Suffices} {result = result} limit P Q finds
    enough same =
    FindsWithin-weaker {IsWhole = IsWhole} {Suffices = Suffices} {Over = MoreThan limit P}
    {Beyond = MoreThan limit Q} {result = result} finds enough
    (MoreThan-weaker limit P Q (λ y. (same y).0)) (MoreThan-weaker limit Q P (λ y. (same y).1))

-- a fault that is passed on
pub FindsWithin-failed : {X Y : Type 0} {IsWhole : X → Type 0} {Suffices : Y → Type 0}
    {Over Beyond : Type 0} {fault : ReachFault} (told : ReachFault)
    (result : Result Y ReachFault) → FindsWithin IsWhole Over (Err fault) → result ≡ Err told →
    told ≡ fault → (Over → Beyond) → FindsWithin Suffices Beyond result
FindsWithin-failed {X = X} {Y = Y} {Suffices = Suffices} {Beyond = Beyond} {fault = fault} told
    result failed is same over =
    subst (FindsWithin Suffices Beyond) (sym is) (record {
      found = tt;
      few = tt;
      many = λ many.
          let named : fault ≡ TooMany = cc in
          over (failed.many (ap (λ (f : ReachFault). Err f) named));
    })
