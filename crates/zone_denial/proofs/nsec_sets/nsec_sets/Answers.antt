use Rattle.std.proofs.Common.{ap, sym, subst, ◌∙◌}
use Rattle.std.specs.List.Sorted.{IsStrictlySortedBy}
use Rattle.std.specs.Map.{keys_of}
use Rattle.std.proofs.lemmas.List.Kept.{IsStrictlySortedBy-filter}
use Rattle.zone_proto.specs.Keys.{key_cmp}
use Rattle.zone_proto.specs.Types.{NSEC}
use Rattle.zone_denial.specs.AuthoritativeKeys.{is_circle_key}
use Rattle.zone_denial.specs.StandingSets.{standing_sets}
use Rattle.zone_denial.proofs.Sets.CircleSets.{AreStored-linked, last_at-linked}
use Rattle.zone_denial.proofs.Sets.KeyRuns.{lent_keys}
use Rattle.zone_denial.proofs.Sets.StandingSets.{last_at-standing}
use Rattle.zone_denial.proofs.nsec_sets.nsec_sets.Goals as goal

pub nsec_sets_stand-requires : goal.nsec_sets_stand-requires
nsec_sets_stand-requires c =
    let are = ap lent_keys c.as_slice.ensures.value ∙ c.in_ok-keys.ensures.ok in
    subst (IsStrictlySortedBy key_cmp) (sym are)
    (IsStrictlySortedBy-filter key_cmp (is_circle_key c.args.origin.now c.args.records.now NSEC) (keys_of c.args.records.now) c.in_ok-keys.ensures.zone.ordered)

pub nsec_entries-requires : goal.nsec_entries-requires
nsec_entries-requires c =
    let are = ap lent_keys c.as_slice-2.ensures.value ∙ c.in_ok-keys.ensures.ok in
    subst (IsStrictlySortedBy key_cmp) (sym are)
    (IsStrictlySortedBy-filter key_cmp (is_circle_key c.args.origin.now c.args.records.now NSEC) (keys_of c.args.records.now) c.in_ok-keys.ensures.zone.ordered)

pub from_entries-requires : goal.from_entries-requires
from_entries-requires c =
    let are = ap lent_keys c.as_slice-2.ensures.value ∙ c.in_ok-keys.ensures.ok in
    AreStored-linked c.args.origin.now c.args.records.now (lent_keys c.as_slice-2.result.now) are c.args.ttl c.args.serial c.in_ok-entries.entries.items c.in_ok-entries.ensures.ok
    c.in_ok-keys.ensures.zone

pub returns-then-nsec_sets_stand-clause-standing : goal.returns-then-nsec_sets_stand-clause-standing
returns-then-nsec_sets_stand-clause-standing c = λ n t.
    let are = ap lent_keys c.as_slice.ensures.value ∙ c.in_ok-keys.ensures.ok in
    let standing = standing_sets NSEC c.args.serial c.args.records.now in
    sym (last_at-standing c.args.records.now c.in_ok-keys.ensures.zone NSEC c.args.serial n t)
    ∙ last_at-linked c.args.origin.now c.args.records.now (lent_keys c.as_slice.result.now) are c.args.ttl c.args.serial standing (c.nsec_sets_stand.ensures c.if-nsec_sets_stand.true c.args.serial) n t

pub returns-clause-made : goal.returns-clause-made
returns-clause-made c = λ n t.
    let are = ap lent_keys c.as_slice-2.ensures.value ∙ c.in_ok-keys.ensures.ok in
    c.in_ok-from_entries.ensures.ok n t
    ∙ last_at-linked c.args.origin.now c.args.records.now (lent_keys c.as_slice-2.result.now) are c.args.ttl c.args.serial c.in_ok-entries.entries.items c.in_ok-entries.ensures.ok n t
