use Rattle.std.proofs.Common.{◌≡◌, ◌++◌, ◌∷◌, [], ℕ, All, Bool, IsTrue, List, ap, cond, false, refl}
use Rattle.std.proofs.Common.{subst, sym, take, true, ◌∙◌}
use Rattle.std.specs.BTreeMap.{is_at}
use Rattle.std.specs.BTreeSet.{contains}
use Rattle.std.specs.Cmp.Lexicographic.{slice_cmp}
use Rattle.std.specs.Ordering.{nat_cmp}
use Rattle.std.proofs.lemmas.List.{take_more}
use Rattle.std.proofs.lemmas.List.Elements.{All-push, All-weaker}
use Rattle.rr_object.specs.Parts.{AuthParts}
use Rattle.rr_auth.specs.TrialParts.{HasWantedDigest}
use Rattle.rr_auth.proofs.salted.digests_of.Goals as goal

-- what holds stays so
stays : (b x : Bool) → x ≡ true → cond b true x ≡ true
stays true x is = refl
stays false x is = is

pub loop-line-preserved : goal.loop-line-preserved
loop-line-preserved c =
    let before : List AuthParts = take c.loop-line.line-index c.args.lines.now in
    let kept : (line : AuthParts) → HasWantedDigest c.loop-line.digests line →
    HasWantedDigest c.insert.new.self
    line =
    λ line has. c.in_ok-insert.ensures.updates.0 line.digest
    ∙ stays (is_at (slice_cmp nat_cmp c.digest.result.now) line.digest)
    (contains (slice_cmp nat_cmp) c.loop-line.digests line.digest) has in
    let last : HasWantedDigest c.insert.new.self c.line-item.result =
    subst (λ (digest : List ℕ). IsTrue (contains (slice_cmp nat_cmp) c.insert.new.self digest))
    c.digest.ensures c.in_ok-insert.ensures.updates.1 in
    subst (All (HasWantedDigest c.insert.new.self))
    (sym (take_more c.args.lines.now c.loop-line.line-index c.line-item.result
    c.loop-line-test.true ∙ ap (λ (line : AuthParts). before ++ line ∷ [])
    (sym c.line-item.is)))
    (All-push (HasWantedDigest c.insert.new.self) before c.line-item.result
    (All-weaker (HasWantedDigest c.loop-line.digests) (HasWantedDigest c.insert.new.self) kept
    before
    c.loop-line.invariant) last)
