use Rattle.std.proofs.Common.{List, sym, subst, Bool}
use Rattle.zone_proto.specs.declared.record_type.RecordType.{RecordType}
use Rattle.zone_proto.specs.Names.{Name}
use Rattle.zone_verify.specs.ChainSets.{sets_of}
use Rattle.zone_verify.specs.Lists.{IsListed, MayBeListed}
use Rattle.zone_verify.proofs.nsec3_name.HashedZone.push.Goals as goal

pub returns-clause-may : goal.returns-clause-may
returns-clause-may g c = λ t l.
    let m = sets_of c.args.self.now.sets in
    let site = c.in_ok-site.site in
    let own = c.in_ok-check_list.ensures.ok t (subst (λ (ts : List RecordType). IsListed ts t) (sym c.as_slice-types.ensures) l) in
    subst (λ (d : Bool). MayBeListed c.args.self.now.sets.records.now m c.args.name.now d t) c.in_ok-site.ensures.delegation (subst (λ (n : Name). MayBeListed c.args.self.now.sets.records.now m n site.is_delegation t) c.in_ok-site.ensures.name own)
