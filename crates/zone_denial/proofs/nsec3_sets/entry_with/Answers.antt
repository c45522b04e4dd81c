use Rattle.std.proofs.Common.{ℕ, sym, ap, ◌∙◌, subst}
use Rattle.std.specs.Prelude.{option_copied, unwrap_or}
use Rattle.zone_proto.specs.declared.rr_key.RrKey.{RrKey}
use Rattle.zone_proto.specs.Data.{type_of}
use Rattle.zone_proto.specs.Keys.{key}
use Rattle.zone_proto.specs.Names.{IsName, lower, same_name}
use Rattle.zone_proto.specs.Sets.{RRset, empty_set}
use Rattle.zone_map.specs.Zones.{IsStoredAt}
use Rattle.zone_denial.specs.Nsec3Sets.{with_taken}
use Rattle.zone_denial.proofs.Sets.TakenRecords.{taking_owner, taking_kind, taken_stored, of_copied}
use Rattle.zone_denial.proofs.nsec3_sets.entry_with.Goals as goal

pub insert-requires-clause-owner : goal.insert-requires-clause-owner
insert-requires-clause-owner c =
    let r = c.args.new in
    let before = of_copied (IsStoredAt (lower r.name) (type_of r.rdata)) c.args.before c.requires in
    let set = c.in_ok-set.ensures.ok ∙ ap (λ (u : ℕ). unwrap_or (option_copied c.args.before) (empty_set r.name u c.args.serial)) c.record_type-record_type.ensures in
    ap (λ (s : RRset). same_name r.name s.owner) set ∙ taking_owner r c.args.serial (option_copied c.args.before) before

pub insert-requires-clause-kind : goal.insert-requires-clause-kind
insert-requires-clause-kind c =
    let r = c.args.new in
    let before = of_copied (IsStoredAt (lower r.name) (type_of r.rdata)) c.args.before c.requires in
    let set = c.in_ok-set.ensures.ok ∙ ap (λ (u : ℕ). unwrap_or (option_copied c.args.before) (empty_set r.name u c.args.serial)) c.record_type-record_type.ensures in
    taking_kind r c.args.serial (option_copied c.args.before) before ∙ sym (ap (λ (s : RRset). s.record_type) set)

pub returns-clause-ok : goal.returns-clause-ok
returns-clause-ok c =
    let r = c.args.new in
    let own = c.new-key.ensures.value ∙ (λ i. key (c.in_ok-new.ensures.ok i) (c.record_type-record_type.ensures i)) in
    let set = c.in_ok-set.ensures.ok ∙ ap (λ (u : ℕ). unwrap_or (option_copied c.args.before) (empty_set r.name u c.args.serial)) c.record_type-record_type.ensures in
    let taken = c.in_ok-insert.ensures.after ∙ ap (λ (s : RRset). with_taken c.args.serial s r) set in
    λ i. (own i, taken i)

pub returns-clause-stored : goal.returns-clause-stored
returns-clause-stored c =
    let r = c.args.new in
    let before = of_copied (IsStoredAt (lower r.name) (type_of r.rdata)) c.args.before c.requires in
    let own = c.new-key.ensures.value ∙ (λ i. key (c.in_ok-new.ensures.ok i) (c.record_type-record_type.ensures i)) in
    let named = subst IsName (ap (λ (k : RrKey). k.name) own) c.new-key.ensures.named.name in
    let set = c.in_ok-set.ensures.ok ∙ ap (λ (u : ℕ). unwrap_or (option_copied c.args.before) (empty_set r.name u c.args.serial)) c.record_type-record_type.ensures in
    let taken = c.in_ok-insert.ensures.after ∙ ap (λ (s : RRset). with_taken c.args.serial s r) set in
    subst (λ (e : RrKey × RRset). IsStoredAt e.0.name e.0.record_type.0 e.1) (sym (λ i. (own i, taken i))) (taken_stored r c.args.serial named (option_copied c.args.before) before)
