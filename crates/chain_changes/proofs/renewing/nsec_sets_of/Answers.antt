use Rattle.std.proofs.Common.{sym, ap, ◌∙◌, subst}
use Rattle.zone_map.specs.Zones.{Sets, last_at, AreStored}
use Rattle.chain_changes.proofs.MadeSets.{AreStored-made, last_at-made}
use Rattle.chain_changes.proofs.renewing.nsec_sets_of.Goals as goal

pub from_entries-requires : goal.from_entries-requires
from_entries-requires c =
    subst AreStored (sym c.in_ok-entries.ensures.ok) (AreStored-made c.args.origin.now c.args.zone.now c.args.ttl c.args.serial c.len-zone.ensures.zone c.args.names.now)

pub returns-clause-ok : goal.returns-clause-ok
returns-clause-ok c = λ n t.
    c.in_ok-sets.ensures.ok n t
    ∙ ap (λ (es : Sets). last_at es n t) c.in_ok-entries.ensures.ok
    ∙ last_at-made c.args.origin.now c.args.zone.now c.args.ttl c.args.serial c.args.names.now n t
