use Rattle.std.proofs.Common.{◌∙◌, sym}
use Rattle.zone_lookup.specs.FoundSets.{found_set}
use Rattle.ready_referrals.proofs.KeptSets.{no_signature, not_so}
use Rattle.ready_referrals.proofs.kept_sets.is_unsigned.Goals as goal

pub returns-else-eq : goal.returns-else-eq
returns-else-eq c = λ t.
    let s = c.args.sent.now in no_signature s.part s.ttl (found_set s.set) (sym c.has_signature.ensures ∙ not_so c.has_signature.result t)
