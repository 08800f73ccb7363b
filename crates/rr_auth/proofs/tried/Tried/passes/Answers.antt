use Rattle.std.proofs.Common.{◌≡◌, List, length, drop, take, ◌-◌, ap, arith, ◌∙◌}
use Rattle.rr_object.specs.Parts.{AuthParts}
use Rattle.rr_auth.specs.TrialParts.{IsTrial, some_line_fits}
use Rattle.rr_auth.proofs.Remembered.{all_tried, rest_decides, seen_to_fit, whole_trial}
use Rattle.rr_auth.proofs.tried.Tried.passes.Goals as goal
use Rattle.rr_auth.proofs.tried.Tried.passes.Goals.{then-known-via-then-known}
use Rattle.rr_auth.proofs.tried.Tried.passes.Goals.{then-known-via-else-known+then-known-secrets}

pub returns-then-known-clause-answer : goal.returns-then-known-clause-answer
returns-then-known-clause-answer c =
    let known = c.known-known.result in
    let lines : List AuthParts = c.args.maintainer.now.auths in
    let is : IsTrial c.args.secrets.now lines known = c.known-known.ensures c.args.secrets.now
    c.requires in
    elim c.then-known.branch [
      | then-known-via-then-known w ↦ seen_to_fit c.args.secrets.now lines known is w.if-known.true
      | then-known-via-else-known+then-known-secrets w ↦ all_tried c.args.secrets.now lines known
          is (omega arith)
    ]

pub returns-clause-answer : goal.returns-clause-answer
returns-clause-answer c =
    let known = c.known-known.result in
    let lines : List AuthParts = c.args.maintainer.now.auths in
    let is : IsTrial c.args.secrets.now lines known = c.known-known.ensures c.args.secrets.now
    c.requires in
    c.some_line_fits-fits.ensures
    ∙ ap
    (some_line_fits (take (length c.args.secrets.now - known.tried)
    (drop known.tried c.args.secrets.now))) c.auths.ensures
    ∙ rest_decides c.args.secrets.now lines known is c.if-known.false

pub returns-clause-remembers : goal.returns-clause-remembers
returns-clause-remembers c =
    let known = c.known-known.result in
    let lines : List AuthParts = c.args.maintainer.now.auths in
    let is : IsTrial c.args.secrets.now lines known = c.known-known.ensures c.args.secrets.now
    c.requires in
    let told : c.some_line_fits-fits.result ≡ some_line_fits c.args.secrets.now lines =
    c.some_line_fits-fits.ensures
    ∙ ap
    (some_line_fits (take (length c.args.secrets.now - known.tried)
    (drop known.tried c.args.secrets.now))) c.auths.ensures
    ∙ rest_decides c.args.secrets.now lines known is c.if-known.false in
    c.remember.ensures c.args.secrets.now c.requires (whole_trial c.args.secrets.now lines _
    (omega arith) told)
