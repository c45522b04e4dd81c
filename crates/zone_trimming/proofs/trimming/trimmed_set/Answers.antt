use Rattle.std.proofs.Common.{◌≡◌, take, sym, ap, ◌∙◌}
use Rattle.zone_proto.specs.declared.record.Record.{Record}
use Rattle.zone_proto.specs.Data.{type_of}
use Rattle.zone_proto.specs.Names.{lower}
use Rattle.zone_proto.specs.Sets.{RRset, record_of}
use Rattle.zone_proto.specs.Types.{IN}
use Rattle.zone_map.proofs.Upserting.{same_from_lower}
use Rattle.zone_denial.specs.Nsec3Sets.{with_taken}
use Rattle.zone_trimming.specs.Trimming.{trimmed_data}
use Rattle.zone_trimming.proofs.TrimmedSets.{trimmed_type, made_keeps, kind_at, put_more}
use Rattle.zone_trimming.proofs.trimming.trimmed_set.Goals as goal

pub insert-requires-clause-owner : goal.insert-requires-clause-owner
insert-requires-clause-owner c =
    let s = c.args.set.now in
    let own = ap (λ (w : RRset). w.owner) c.loop-stored.invariant ∙ (made_keeps s (take c.loop-stored.stored-index s.records)).0 in
    let name = ap (λ (r : Record). r.name) c.from_rdata-record.ensures ∙ c.in_ok-owner.ensures.ok ∙ c.name-in-loop-stored.ensures in
    same_from_lower c.from_rdata-record.result.name c.loop-stored.trimmed.owner (ap lower (name ∙ sym own))

pub insert-requires-clause-kind : goal.insert-requires-clause-kind
insert-requires-clause-kind c =
    let s = c.args.set.now in
    let own = ap (λ (w : RRset). w.record_type) c.loop-stored.invariant ∙ (made_keeps s (take c.loop-stored.stored-index s.records)).1 in
    ap (λ (r : Record). type_of r.rdata) c.from_rdata-record.ensures
    ∙ ap type_of c.in_ok-trimmed_data.ensures.ok
    ∙ trimmed_type c.stored-item.result.rdata
    ∙ kind_at s c.as_slice-stored-items.result.now c.loop-stored.stored-index c.stored-item.result c.as_slice-stored-items.ensures.value c.loop-stored-test.true c.stored-item.is c.as_slice-stored-items.ensures.rule.types
    ∙ sym own

pub loop-stored-preserved : goal.loop-stored-preserved
loop-stored-preserved c =
    let s = c.args.set.now in
    let name = c.in_ok-owner.ensures.ok ∙ c.name-in-loop-stored.ensures in
    let given : c.from_rdata-record.result ≡ record_of s (trimmed_data c.stored-item.result.rdata) =
    c.from_rdata-record.ensures ∙ (λ i. record { name = name i; dns_class = record { 0 = IN }; ttl = c.ttl.ensures i; rdata = c.in_ok-trimmed_data.ensures.ok i }) in
    put_more s c.loop-stored.trimmed c.insert.new.self c.as_slice-stored-items.result.now c.loop-stored.stored-index c.stored-item.result c.from_rdata-record.result
    c.as_slice-stored-items.ensures.value c.loop-stored-test.true c.stored-item.is given c.loop-stored.invariant
    (c.in_ok-insert.ensures.after ∙ ap (λ n. with_taken n c.loop-stored.trimmed c.from_rdata-record.result) c.serial-serial.ensures)
