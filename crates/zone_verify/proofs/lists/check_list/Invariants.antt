use Rattle.std.proofs.Common.{◌⊎◌, drop, ℕ, map}
use Rattle.zone_proto.proofs.Members.{In}
use Rattle.zone_verify.specs.ChainSets.{sets_of}
use Rattle.zone_verify.specs.Lists.{MayBeListed}
use Rattle.zone_verify.proofs.lists.check_list.Given as goal

-- each type that isn't left may be listed
abbrev pub invariant-loop-record_type : goal.invariant-loop-record_type
invariant-loop-record_type l =
    (t : ℕ) → In t (map (λ u. u.0) l.types) → In t (map (λ u. u.0) (drop l.record_type-index l.types)) ⊎ MayBeListed l.sets.records.now (sets_of l.sets) l.site.name.now l.site.is_delegation t
