use Rattle.std.proofs.Common.{◌≡◌, ◌+◌, ◌++◌, ℕ, suc, List, ap, ◌∙◌, arith}
use Rattle.sha1.specs.Sha1.{sha1}
use Rattle.zone_sha1.specs.Digests.{iterated_hash}
use Rattle.zone_sha1.proofs.sha1_hash.iterated_digest.Goals as goal

pub loop-preserved : goal.loop-preserved
loop-preserved c =
    let next : suc c.loop.counter ≡ c.loop.counter + 1 = omega arith in
    c.salted_digest-digest-in-loop.ensures
    ∙ ap (λ (digest : List ℕ). sha1 (digest ++ c.args.salt.now)) c.loop.invariant
    ∙ ap (iterated_hash sha1 c.args.salt.now c.args.octets.now) next
