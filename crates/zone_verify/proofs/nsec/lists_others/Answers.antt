use Rattle.std.proofs.Common.{ℕ, ◌<◌, List, length, map}
use Rattle.std.specs.Prelude.{◌≢◌, slice_index_or}
use Rattle.std.proofs.lemmas.List.Elements.{Contains-get_or}
use Rattle.zone_proto.specs.declared.record_type.RecordType.{RecordType}
use Rattle.zone_proto.specs.Types.{NSEC, RRSIG}
use Rattle.zone_proto.proofs.Members.{Contains-In, In-Contains, In-map}
use Rattle.zone_verify.specs.Lists.{IsListed}
use Rattle.zone_verify.proofs.nsec.lists_others.Goals as goal

listed_other : (types : List RecordType) (i : ℕ) (d : RecordType) → i < length types
    → ((slice_index_or types i d).0 ≢ NSEC) × ((slice_index_or types i d).0 ≢ RRSIG) → (t : ℕ) × IsListed types t × (t ≢ NSEC) × (t ≢ RRSIG)
listed_other types i d lt apart =
    let u : RecordType = slice_index_or types i d in (
      u.0,
      In-Contains u.0 (map (λ (u : RecordType). u.0) types) (In-map (λ (u : RecordType). u.0) u types (Contains-In u types (Contains-get_or types i d lt))),
      apart.0,
      apart.1,
    )

pub returns-then-is_other : goal.returns-then-is_other
returns-then-is_other c = λ _. listed_other c.args.types.now c.loop-record_type.record_type-index _ c.loop-record_type-test.true (c.is_other.ensures c.if-is_other.true)
