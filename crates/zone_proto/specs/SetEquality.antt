-- The equality of record sets is an equivalence
use Rattle.std.specs.Cmp.{IsEquivalence, nat_eq_equiv, on_equiv, and_equiv}
use Rattle.std.specs.Cmp.Lexicographic.{lists_equiv}
use Rattle.zone_proto.specs.NameLaws.{caseless_eq_equiv}
use Rattle.zone_proto.specs.DataEquality.{same_record_equiv}
use Rattle.zone_proto.specs.Sets.{RRset, same_set}

pub same_set_equiv : IsEquivalence same_set
same_set_equiv =
    and_equiv (on_equiv (λ (s : RRset). s.owner) caseless_eq_equiv)
    (and_equiv (on_equiv (λ (s : RRset). s.record_type) nat_eq_equiv)
    (and_equiv (on_equiv (λ (s : RRset). s.class) nat_eq_equiv)
    (and_equiv (on_equiv (λ (s : RRset). s.ttl) nat_eq_equiv)
    (and_equiv (on_equiv (λ (s : RRset). s.serial) nat_eq_equiv)
    (and_equiv (on_equiv (λ (s : RRset). s.records) (lists_equiv same_record_equiv))
    (on_equiv (λ (s : RRset). s.signatures) (lists_equiv same_record_equiv)))))))
