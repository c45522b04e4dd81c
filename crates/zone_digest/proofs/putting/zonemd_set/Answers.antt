use Rattle.std.proofs.Common.{◌≡◌, refl, sym, ap, ◌∙◌}
use Rattle.std.specs.Prelude.{unwrap_or}
use Rattle.zone_proto.specs.declared.rdata.RData.TheVariants as V
use Rattle.zone_proto.specs.declared.record.Record.{Record}
use Rattle.zone_proto.specs.Data.{type_of}
use Rattle.zone_proto.specs.Names.{lower}
use Rattle.zone_proto.specs.Sets.{RRset, inserted, empty_set}
use Rattle.zone_proto.specs.Types.{IN}
use Rattle.zone_map.proofs.Upserting.{same_from_lower}
use Rattle.zone_digest.specs.ZoneText.{zonemd_type}
use Rattle.zone_digest.proofs.putting.zonemd_set.Goals as goal

pub insert-requires-clause-owner : goal.insert-requires-clause-owner
insert-requires-clause-owner c =
    let owner : c.from_rdata.result.name ≡ c.args.origin.now = ap (λ (r : Record). r.name) c.from_rdata.ensures ∙ c.from-owner.ensures ∙ c.in_ok-clone-2.ensures.copy.ok in
    let other : c.new-set.result.owner ≡ c.args.origin.now = ap (λ (s : RRset). s.owner) c.new-set.ensures ∙ c.from.ensures ∙ c.in_ok-clone.ensures.copy.ok in
    same_from_lower c.from_rdata.result.name c.new-set.result.owner (ap lower (owner ∙ sym other))

pub insert-requires-clause-kind : goal.insert-requires-clause-kind
insert-requires-clause-kind c =
    ap (λ (r : Record). type_of r.rdata) c.from_rdata.ensures ∙ ap type_of (c.other_data.ensures refl) ∙ sym (ap (λ (s : RRset). s.record_type) c.new-set.ensures)

pub returns-clause-ok : goal.returns-clause-ok
returns-clause-ok c =
    let owner = c.from-owner.ensures ∙ c.in_ok-clone-2.ensures.copy.ok in
    let other = c.from.ensures ∙ c.in_ok-clone.ensures.copy.ok in
    let rdata = c.other_data.ensures refl in
    let empty : c.new-set.result ≡ empty_set c.args.origin.now zonemd_type c.args.serial = c.new-set.ensures ∙ (λ i. empty_set (other i) zonemd_type c.args.serial) in
    let one :
    c.from_rdata.result ≡ record { name = c.args.origin.now; dns_class = record { 0 = IN }; ttl = c.args.ttl; rdata = V.Other (record { record_type = record { 0 = zonemd_type }; octets = c.args.data.items; other = refl }) } =
    c.from_rdata.ensures ∙ (λ i. record { name = owner i; dns_class = record { 0 = IN }; ttl = c.args.ttl; rdata = rdata i }) in
    c.in_ok-insert.ensures.after ∙ (λ i. unwrap_or (inserted (empty i) (one i) c.args.serial) (empty i))
