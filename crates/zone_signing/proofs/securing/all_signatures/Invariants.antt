use Rattle.zone_map.specs.Zones.{AreStored}
use Rattle.zone_signing.specs.Secured.{secured_set}
use Rattle.zone_signing.proofs.Handings.{HandsOver}
use Rattle.zone_signing.proofs.securing.all_signatures.Given as goal

-- the sets that are left are under their keys; and what was made hands over the signatures of all sets, with what hands
-- over those of the sets that are left
abbrev pub invariant-loop-key : goal.invariant-loop-key
invariant-loop-key g l =
    let h = secured_set g.S.Signer.signature_of l.now l.apex l.signers in
    record {
      stored : AreStored l.key-iterator;
      made : HandsOver (λ e. (h e.0 e.1).signatures) l.zone l.key-iterator l.lists.items l.exchanged;
    }
