use Rattle.std.proofs.Common.{◌≡◌, sym, ap, ◌∙◌, subst}
use Rattle.std.specs.Prelude.{None}
use Rattle.zone_proto.specs.declared.record.Record.{Record}
use Rattle.zone_proto.specs.declared.rr_key.RrKey.{RrKey}
use Rattle.zone_proto.specs.Keys.{key}
use Rattle.zone_proto.specs.Names.{Name, IsName, lower}
use Rattle.zone_proto.specs.Sets.{RRset, empty_set}
use Rattle.zone_proto.specs.Types.{NSEC3}
use Rattle.zone_map.specs.Zones.{IsStoredAt}
use Rattle.zone_map.proofs.Upserting.{same_from_lower}
use Rattle.zone_denial.specs.Nsec3Sets.{with_taken}
use Rattle.zone_denial.proofs.Sets.TakenRecords.{taken_stored}
use Rattle.hashed_changes.specs.Renewals.{record_by}
use Rattle.hashed_changes.proofs.entries.entry_by.Goals as goal

pub insert-requires-clause-owner : goal.insert-requires-clause-owner
insert-requires-clause-owner c =
    let owner : c.in_ok-record.record.name ≡ c.args.owner.now = ap (λ (r : Record). r.name) c.in_ok-record.ensures.ok in
    let other : c.new-set.result.owner ≡ c.args.owner.now = ap (λ (s : RRset). s.owner) c.new-set.ensures ∙ c.from.ensures ∙ c.in_ok-clone.ensures.copy.ok in
    same_from_lower c.in_ok-record.record.name c.new-set.result.owner (ap lower (owner ∙ sym other))

pub returns-clause-stored : goal.returns-clause-stored
returns-clause-stored c =
    let o = c.args.owner.now in
    let r = record_by c.args.parameters.now c.args.ttl o c.args.link.now in
    let own : c.new.result ≡ key o NSEC3 = c.new.ensures.value ∙ ap (λ (n : Name). key n NSEC3) c.in_ok-clone-2.ensures.copy.ok in
    let named : IsName o = subst IsName (ap (λ (k : RrKey). k.name) own) c.new.ensures.named.name in
    let lowered : lower o ≡ o = subst (λ (n : Name). lower n ≡ n) (ap (λ (k : RrKey). k.name) own) c.new.ensures.named.lower in
    let other = c.from.ensures ∙ c.in_ok-clone.ensures.copy.ok in
    let empty : c.new-set.result ≡ empty_set o NSEC3 c.args.serial = c.new-set.ensures ∙ (λ i. empty_set (other i) NSEC3 c.args.serial) in
    let after : c.insert.new.self ≡ with_taken c.args.serial (empty_set o NSEC3 c.args.serial) r = c.in_ok-insert.ensures.after ∙ (λ i. with_taken c.args.serial (empty i) (c.in_ok-record.ensures.ok i)) in
    let there : IsStoredAt o NSEC3 (with_taken c.args.serial (empty_set o NSEC3 c.args.serial) r) =
    subst (λ (n : Name). IsStoredAt n NSEC3 (with_taken c.args.serial (empty_set o NSEC3 c.args.serial) r)) lowered (taken_stored r c.args.serial (subst IsName (sym lowered) named) None tt) in
    subst (λ (e : RrKey × RRset). IsStoredAt e.0.name e.0.record_type.0 e.1) (sym (λ i. (own i, after i))) there
