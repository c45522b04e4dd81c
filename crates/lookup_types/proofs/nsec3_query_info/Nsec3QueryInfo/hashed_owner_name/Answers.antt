use Rattle.std.proofs.Common.{◌≡◌, ap, ◌∙◌}
use Rattle.zone_proto.specs.Base32.{base32_text}
use Rattle.lookup_types.proofs.HashedOwners.{made_owner, refused_owner}
use Rattle.lookup_types.proofs.nsec3_query_info.Nsec3QueryInfo.hashed_owner_name.Goals as goal

pub returns-clause-ok : goal.returns-clause-ok
returns-clause-ok g c =
    let text : c.as_bytes.result.now ≡ base32_text c.in_ok-digest.digest.items = c.as_bytes.ensures.value ∙ c.in_ok-label.ensures.ok ∙ ap base32_text c.deref.ensures.value in
    made_owner c.args.zone.now _ c.in_ok-digest.digest.items c.as_bytes.result.now c.prepend_label.result c.in_ok-digest.ensures.ok text c.prepend_label.ensures.ok c.prepend_label.ensures.refusal

pub returns-clause-err : goal.returns-clause-err
returns-clause-err g c =
    let text : c.as_bytes.result.now ≡ base32_text c.in_ok-digest.digest.items = c.as_bytes.ensures.value ∙ c.in_ok-label.ensures.ok ∙ ap base32_text c.deref.ensures.value in
    refused_owner c.args.zone.now _ c.in_ok-digest.digest.items c.as_bytes.result.now c.prepend_label.result c.in_ok-digest.ensures.ok text c.prepend_label.ensures.refusal
