use Rattle.std.proofs.Common.{◌∙◌}
use Rattle.std.specs.Prelude.{option_copied}
use Rattle.zone_response.specs.HashedDenials.{hash_of}
use Rattle.zone_response.proofs.LabelCounts.{below_counted}
use Rattle.zone_response.proofs.ProvenNames.{absent_is, below_had}
use Rattle.zone_response.proofs.hashed_denials.absent_below.Goals as goal

pub returns-in_err-wildcard_set-clause-counted : goal.returns-in_err-wildcard_set-clause-counted
returns-in_err-wildcard_set-clause-counted g c =
    below_counted c.args.query.qname.now c.args.encloser.child c.num_labels.result c.args.hashes.now c.hashed_closer.new.hashes c.known_or_hashed.new.hashes c.requires.child c.num_labels.ensures.count c.hashed_closer.ensures.counted c.known_or_hashed.ensures.counted

pub returns-in_err-in_owner_order-clause-counted : goal.returns-in_err-in_owner_order-clause-counted
returns-in_err-in_owner_order-clause-counted g c =
    below_counted c.args.query.qname.now c.args.encloser.child c.num_labels.result c.args.hashes.now c.hashed_closer.new.hashes c.known_or_hashed.new.hashes c.requires.child c.num_labels.ensures.count c.hashed_closer.ensures.counted c.known_or_hashed.ensures.counted

pub returns-clause-ok : goal.returns-clause-ok
returns-clause-ok g c =
    let hash = hash_of g.H.Nsec3Hash.digest_of c.args.zone.now c.args.query in
    c.in_ok-in_owner_order.ensures.ok
    ∙ absent_is hash c.args.zone.now.origin.now c.args.zone.now.denials.now c.args.query.qname.now c.args.encloser.child c.num_labels.result c.requires.child c.num_labels.ensures.count
    c.in_ok-closer.closer c.in_ok-closer.ensures.name c.in_ok-closer.ensures.owner (option_copied c.in_ok-closer_set.closer_set) c.in_ok-closer_set.ensures.ok
    c.args.encloser.set.now c.requires.set c.into_wildcard.result c.in_ok-wildcard.wildcard.owner (option_copied c.in_ok-wildcard_set.wildcard_set) c.into_wildcard.ensures c.in_ok-wildcard.ensures.owner c.in_ok-wildcard_set.ensures.ok

pub returns-clause-hashed : goal.returns-clause-hashed
returns-clause-hashed g c =
    let hash = hash_of g.H.Nsec3Hash.digest_of c.args.zone.now c.args.query in
    below_had hash c.args.query.qname.now c.args.encloser.child c.num_labels.result c.requires.child c.num_labels.ensures.count
    c.in_ok-closer.closer c.into_wildcard.result c.in_ok-wildcard.wildcard.owner c.in_ok-closer.ensures.name c.in_ok-closer.ensures.owner c.into_wildcard.ensures c.in_ok-wildcard.ensures.owner

pub returns-clause-counted : goal.returns-clause-counted
returns-clause-counted g c =
    below_counted c.args.query.qname.now c.args.encloser.child c.num_labels.result c.args.hashes.now c.hashed_closer.new.hashes c.known_or_hashed.new.hashes c.requires.child c.num_labels.ensures.count c.hashed_closer.ensures.counted c.known_or_hashed.ensures.counted
