-- What is told of the digests of a zone is told of the set that the zone has
use Rattle.std.proofs.Common.{◌≡◌, sym, subst, List, Bool, Option, Some, None}
use Rattle.std.specs.Prelude.{IfSome}
use Rattle.std.specs.List.{list_all}
use Rattle.zone_proto.specs.declared.record.Record.{Record}
use Rattle.zone_proto.specs.Names.{Name}
use Rattle.zone_proto.specs.Sets.{RRset}
use Rattle.zone_map.specs.Zones.{Sets}
use Rattle.zone_check.specs.Digests.{is_digest_right, is_set_right}

pub told_of_set : (told : Option Bool) (origin : Name) (m : Sets) (found : Option RRset) (s : RRset) (rs : List Record) → found ≡ Some s → rs ≡ s.records
    → IfSome told (λ right. right ≡ list_all (λ (r : Record). is_digest_right origin m rs r.rdata) rs) → IfSome told (λ right. right ≡ is_set_right origin m found)
told_of_set told origin m found s rs there same of =
    subst (λ (w : Option RRset). IfSome told (λ right. right ≡ is_set_right origin m w)) (sym there)
    (subst (λ (xs : List Record). IfSome told (λ right. right ≡ list_all (λ (r : Record). is_digest_right origin m xs r.rdata) xs)) same of)
