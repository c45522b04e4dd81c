use Rattle.std.proofs.Common.{inr, refl}
use Rattle.zonectl_session.specs.Replies.{Reply, done, refused, memory}
use Rattle.zonectl_session.specs.Steps.{IsKeyed, with_zone}
use Rattle.zonectl_session.proofs.Pushing.{pushed}
use Rattle.zonectl_session.proofs.Stepping.{key_added, key_refused}
use Rattle.zonectl_session.proofs.signing.add_key.Goals as goal

pub returns-in_default : goal.returns-in_default
returns-in_default c =
    let old = c.args.served.now in
    pushed (λ (reply : Reply). IsKeyed old c.args.number reply old) (refused memory) _ _ _ c.push_str.ensures.bytes (inr (refl, refl))

pub returns-in-Ok-add_zone_signing_key : goal.returns-in-Ok-add_zone_signing_key
returns-in-Ok-add_zone_signing_key c =
    let old = c.args.served.now in
    let new = c.add_zone_signing_key.new.self in
    pushed (λ (reply : Reply). IsKeyed old c.args.number reply (with_zone old new)) done _ _ _ c.push_str-in-Ok-add_zone_signing_key.ensures.bytes
    (key_added old new c.args.number c.in-Ok.signer c.in-Ok.ensures.made _ _ c.in-Ok-add_zone_signing_key.is c.add_zone_signing_key.ensures)

pub returns-in-Err-Memory : goal.returns-in-Err-Memory
returns-in-Err-Memory c =
    let old = c.args.served.now in
    let new = c.add_zone_signing_key.new.self in
    pushed (λ (reply : Reply). IsKeyed old c.args.number reply (with_zone old new)) (refused memory) _ _ _ c.push_str-in-Err-Memory.ensures.bytes
    (key_refused old new c.args.number c.in-Ok.signer _ _ c.in-Err-Memory.is c.add_zone_signing_key.ensures)
