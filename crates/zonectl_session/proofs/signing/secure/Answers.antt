use Rattle.std.proofs.Common.{◌≡◌, ◌++◌, Result, OnErr, codes, decimal, sym, refl, ap, subst}
use Rattle.lookup_types.specs.declared.secure_error.SecureError.{SecureError}
use Rattle.zone_lookup.specs.StartOfAuthority.{serial}
use Rattle.zonectl_session.specs.declared.session.Served.{Served}
use Rattle.zonectl_session.specs.Replies.{Reply, secured, refused, secure_word}
use Rattle.zonectl_session.specs.Steps.{IsSecuredAt, RepliesSecured, with_zone}
use Rattle.zonectl_session.proofs.Pushing.{written}
use Rattle.zonectl_session.proofs.signing.secure.Goals as goal

pub returns-in-Ok : goal.returns-in-Ok
returns-in-Ok c =
    let old = c.args.served.now in
    let zone = c.secure_zone.new.self in
    let new : Served = record { zone = zone; moment = c.args.now } in
    written (λ (reply : Reply). IsSecuredAt old c.args.now reply new) (secured (serial zone.inner.records zone.origin)) _ _ _ _
    c.writeln.ensures.bytes
    (ap (λ n. codes "ok " ++ decimal n ++ codes "\n") c.serial.ensures)
    (c.secure_zone.result, c.secure_zone.ensures, subst (λ (result : Result (Unit {0}) SecureError). RepliesSecured old c.args.now result (secured (serial zone.inner.records zone.origin)) new) (sym c.in-Ok.is) (refl, refl))

pub returns-in-Err : goal.returns-in-Err
returns-in-Err c =
    let old = c.args.served.now in
    let zone = c.secure_zone.new.self in
    let new = with_zone old zone in
    let same : zone ≡ old.zone = subst (λ (result : Result (Unit {0}) SecureError). OnErr result (zone ≡ old.zone)) c.in-Err.is c.secure_zone.ensures.same in
    written (λ (reply : Reply). IsSecuredAt old c.args.now reply new) (refused (secure_word c.in-Err.error)) _ _ _ _
    c.writeln-in-Err.ensures.bytes
    (ap (λ word. codes "refused " ++ word ++ codes "\n") c.word_of.ensures)
    (c.secure_zone.result, c.secure_zone.ensures, subst (λ (result : Result (Unit {0}) SecureError). RepliesSecured old c.args.now result (refused (secure_word c.in-Err.error)) new) (sym c.in-Err.is) (refl, ap (with_zone old) same))
