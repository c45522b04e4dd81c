use Rattle.std.proofs.Common.{◌≡◌, ap, sym, ◌∙◌}
use Rattle.std.specs.Prelude.{unwrap_or}
use Rattle.zone_proto.specs.declared.rdata.RData.TheVariants as V
use Rattle.zone_proto.specs.declared.record.Record.{Record}
use Rattle.zone_proto.specs.Keys.{key}
use Rattle.zone_proto.specs.Names.{lower}
use Rattle.zone_proto.specs.Sets.{RRset, inserted, empty_set}
use Rattle.zone_proto.specs.Types.{NSEC, IN}
use Rattle.zone_map.proofs.Upserting.{same_from_lower}
use Rattle.zone_denial.specs.NsecSets.{nsec_data}
use Rattle.zone_denial.proofs.Sets.TypesJoined.{numbers, of_numbers}
use Rattle.chain_changes.proofs.entries.nsec_entry.Goals as goal

pub insert-requires-clause-owner : goal.insert-requires-clause-owner
insert-requires-clause-owner c =
    let owner : c.from_rdata-record.result.name ≡ c.args.name.now = ap (λ (r : Record). r.name) c.from_rdata-record.ensures ∙ c.from-2.ensures ∙ c.in_ok-clone-2.ensures.copy.ok in
    let other : c.new-set.result.owner ≡ c.args.name.now = ap (λ (s : RRset). s.owner) c.new-set.ensures ∙ c.from-3.ensures ∙ c.in_ok-clone-3.ensures.copy.ok in
    same_from_lower c.from_rdata-record.result.name c.new-set.result.owner (ap lower (owner ∙ sym other))

pub returns-clause-ok : goal.returns-clause-ok
returns-clause-ok c =
    let owner = c.from-2.ensures ∙ c.in_ok-clone-2.ensures.copy.ok in
    let other = c.from-3.ensures ∙ c.in_ok-clone-3.ensures.copy.ok in
    let next = c.from.ensures ∙ c.in_ok-clone.ensures.copy.ok in
    let listed = of_numbers c.args.types in
    let empty : c.new-set.result ≡ empty_set c.args.name.now NSEC c.args.serial = c.new-set.ensures ∙ (λ i. empty_set (other i) NSEC c.args.serial) in
    let one : c.from_rdata-record.result ≡ record { name = c.args.name.now; dns_class = record { 0 = IN }; ttl = c.args.ttl; rdata = V.NSEC (nsec_data c.args.next.now (numbers c.args.types)) } =
    c.from_rdata-record.ensures
    ∙ (λ i. record { name = owner i; dns_class = record { 0 = IN }; ttl = c.args.ttl; rdata = V.NSEC (record { next_domain_name = next i; types = listed i }) }) in
    let own_key = c.new.ensures.value ∙ ap (λ n. key n NSEC) c.in_ok-clone-4.ensures.copy.ok in
    let taken = c.in_ok-insert.ensures.after ∙ (λ i. unwrap_or (inserted (empty i) (one i) c.args.serial) (empty i)) in
    λ i. (own_key i, taken i)
