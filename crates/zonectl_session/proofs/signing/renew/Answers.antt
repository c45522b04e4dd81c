use Rattle.std.proofs.Common.{List, ℕ, inl, inr, refl, ap, ◌∙◌}
use Rattle.zonectl_session.specs.Replies.{Reply, done, failed, memory}
use Rattle.zonectl_session.specs.Steps.{IsRenewed, empty_zone, with_zone}
use Rattle.zonectl_session.proofs.Pushing.{pushed}
use Rattle.zonectl_session.proofs.signing.renew.Goals as goal

pub returns-in-Ok : goal.returns-in-Ok
returns-in-Ok c =
    let old = c.args.served.now in
    let is_origin = c.in-Ok.ensures.ok.0 in
    let low = c.in-Ok.ensures.ok.1 in
    let is = λ (reply : Reply). IsRenewed old c.args.nx_proof_kind reply (with_zone old c.empty_zone.result) in
    pushed is done _ _ _ c.push_str.ensures.bytes
    (inl (refl, ap (with_zone old) (c.empty_zone.ensures ∙ ap (λ (origin : List (List ℕ)). empty_zone origin c.args.nx_proof_kind) (low ∙ is_origin))))

pub returns-in-Err : goal.returns-in-Err
returns-in-Err c =
    let old = c.args.served.now in
    pushed (λ (reply : Reply). IsRenewed old c.args.nx_proof_kind reply old) (failed memory) _ _ _ c.push_str-in-Err.ensures.bytes (inr (refl, refl))
