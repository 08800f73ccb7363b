use Rattle.std.proofs.Common.{◌≡◌, ◌+◌, ◌++◌, ℕ, List, take, false, true, ap, subst, sym, ◌∙◌}
use Rattle.std.specs.BTreeMap.{is_at}
use Rattle.std.specs.BTreeSet.{BTreeSet, Updates, contains}
use Rattle.std.specs.Cmp.Lexicographic.{slice_cmp}
use Rattle.std.specs.List.{list_any}
use Rattle.std.specs.Ordering.{nat_cmp}
use Rattle.std.proofs.lemmas.List.{take_all}
use Rattle.sha2.specs.Sha256.{sha256}
use Rattle.rr_auth.specs.Passing.{fits_line}
use Rattle.rr_auth.proofs.Remembered.{one_image_less, one_image_more}
use Rattle.rr_auth.specs.TrialParts.{HasDigests}
use Rattle.rr_auth.proofs.salted.digests.Goals as goal
use Rattle.rr_auth.proofs.salted.digests.Goals.{then-contains+in_ok-insert, else-contains}

pub loop-secret-init : goal.loop-secret-init
loop-secret-init c = λ digest wanted. ap (list_any (is_at (slice_cmp nat_cmp digest)))
    c.new-digests.ensures.empty

pub loop-secret-preserved : goal.loop-secret-preserved
loop-secret-preserved c =
    let P : BTreeSet (List ℕ) → Type 0 = λ digests. HasDigests c.args.salt.now c.args.wanted.now
    (take (c.loop-secret.secret-index + 1) c.args.secrets.now) digests in
    elim c.if-contains.branch [
      | then-contains+in_ok-insert w ↦
          let update : Updates (slice_cmp nat_cmp) c.loop-secret.digests w.insert.new.self
          (sha256 (c.args.salt.now ++ c.secret-item.result)) true =
          subst (λ (digest : List ℕ). Updates (slice_cmp nat_cmp) c.loop-secret.digests
          w.insert.new.self digest true) c.salted_digest-digest.ensures
          w.in_ok-insert.ensures.updates in
          subst P (sym w.digests-is)
          (one_image_more (λ secret. sha256 (c.args.salt.now ++ secret)) c.args.wanted.now
          c.args.secrets.now c.loop-secret.secret-index c.secret-item.result
          c.loop-secret-test.true c.secret-item.is c.loop-secret.digests w.insert.new.self update
          c.loop-secret.invariant)
      | else-contains w ↦
          let out : contains (slice_cmp nat_cmp) c.args.wanted.now
          (sha256 (c.args.salt.now ++ c.secret-item.result)) ≡ false =
          ap (contains (slice_cmp nat_cmp) c.args.wanted.now) (sym c.salted_digest-digest.ensures)
          ∙ sym c.contains.ensures ∙ w.if-contains.false in
          subst P (sym w.digests-is)
          (one_image_less (λ secret. sha256 (c.args.salt.now ++ secret)) c.args.wanted.now
          c.args.secrets.now c.loop-secret.secret-index c.secret-item.result
          c.loop-secret-test.true c.secret-item.is c.loop-secret.digests out
          c.loop-secret.invariant)
    ]

pub returns : goal.returns
returns c = λ digest wanted.
    c.loop-secret.invariant digest wanted
    ∙ ap (list_any (fits_line (record { salt = c.args.salt.now; digest = digest })))
    (take_all c.loop-secret.secret-index c.args.secrets.now c.loop-secret-test.false)
