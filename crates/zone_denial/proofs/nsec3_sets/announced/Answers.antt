use Rattle.std.proofs.Common.{ℕ, sym, ap, ◌∙◌, subst}
use Rattle.std.specs.Prelude.{None, IfSome}
use Rattle.std.proofs.lemmas.Result.{IfOk-weaker}
use Rattle.zone_proto.specs.declared.record.Record.{Record}
use Rattle.zone_proto.specs.declared.rr_key.RrKey.{RrKey}
use Rattle.zone_proto.specs.Data.{type_of}
use Rattle.zone_proto.specs.Keys.{key}
use Rattle.zone_proto.specs.Names.{Name, lower}
use Rattle.zone_proto.specs.Types.{NSEC3PARAM}
use Rattle.zone_map.specs.Zones.{IsStoredAt, set_at}
use Rattle.zone_denial.specs.Nsec3Sets.{announced_set}
use Rattle.zone_denial.proofs.Sets.TakenRecords.{set_taking}
use Rattle.zone_denial.proofs.nsec3_sets.announced.Goals as goal

pub entry_with-requires : goal.entry_with-requires
entry_with-requires c =
    let origin = c.args.origin.now in
    let made = c.in_ok-record.ensures.ok in
    let own = c.new-key.ensures.value ∙ ap (λ (n : Name). key n NSEC3PARAM) c.in_ok-clone.ensures.copy.ok in
    let named = ap (λ (k : RrKey). k.name) own ∙ sym (ap (λ (x : Record). lower x.name) made ∙ c.in_ok-clone.ensures.valid.lower) in
    let typed = ap (λ (k : RrKey). k.record_type.0) own ∙ sym (ap (λ (x : Record). type_of x.rdata) made) in
    subst (λ (k : Name × ℕ). IfSome c.get.result (λ s. IsStoredAt k.0 k.1 s.now)) (λ i. (named i, typed i)) c.get.ensures.stored

pub returns-clause-ok : goal.returns-clause-ok
returns-clause-ok c =
    let origin = c.args.origin.now in
    let made = c.in_ok-record.ensures.ok in
    let own = c.new-key.ensures.value ∙ ap (λ (n : Name). key n NSEC3PARAM) c.in_ok-clone.ensures.copy.ok in
    let found = c.get.ensures.found ∙ ap (λ (k : RrKey). set_at c.args.records.now k.name k.record_type.0) own in
    IfOk-weaker c.entry_with.result _ _
    (λ e is. is
    ∙ (λ i. (key (lower (made i).name) (type_of (made i).rdata), set_taking c.args.serial (made i).name (type_of (made i).rdata) (found i) (made i)))
    ∙ (λ i. (key (c.in_ok-clone.ensures.valid.lower i) NSEC3PARAM, announced_set origin c.args.records.now (λ _. None) c.args.parameters.now c.args.ttl c.args.serial)))
    c.entry_with.ensures.ok
