-- Why a zone isn't planned
use Rattle.std.specs.Prelude.{ℕ, List, Option, Some, None, option_and_then}
use Rattle.std.specs.Option.{option_or}
use Rattle.zone_proto.specs.declared.nx_proof_kind.NxProofKind.{NxProofKind}
use Rattle.zone_proto.specs.declared.nx_proof_kind.NxProofKind.TheVariants as kind
use Rattle.zone_proto.specs.Names.{Name}
use Rattle.lookup_types.specs.declared.secure_error.SecureError.{SecureError}
use Rattle.lookup_types.specs.declared.secure_error.SecureError.TheVariants as error
use Rattle.zone_map.specs.Zones.{Sets}
use Rattle.zone_sha1.specs.Digests.{name_digest}
use Rattle.zone_denial.specs.Nsec3Sets.{nsec3_fault}
use Rattle.zone_denial.specs.Nsec3Zones.{hash_with}
use Rattle.zone_planning.specs.declared.fault.PlanFault.{PlanFault}
use Rattle.zone_planning.specs.declared.fault.PlanFault.TheVariants as fault
use Rattle.zone_planner.specs.declared.keys.PlannedKey.{PlannedKey}
use Rattle.zone_planner.specs.declared.request.Request.{Request}
use Rattle.zone_planner.specs.Keys.{keyed}
use Rattle.zone_planner.specs.Requests.{keys_fault, moments_fault}
use Rattle.zone_planner.specs.Zones.{zone_fault}

-- why names get no NSEC3 sets
abbrev pub hash_fault : SecureError → Option PlanFault
hash_fault error.Hash = Some fault.Hash
hash_fault error.OwnerTooLong = Some fault.OwnerTooLong
hash_fault _ = None

-- why a zone doesn't get the denials that are asked for
abbrev pub denial_fault : NxProofKind → Name → Sets → Option PlanFault
denial_fault kind.Nsec origin m = None
denial_fault (kind.Nsec3 algorithm salt iterations opt_out) origin m =
    option_and_then hash_fault (nsec3_fault origin m (hash_with name_digest (record { algorithm = algorithm; opt_out = opt_out; iterations = iterations; salt = salt })) opt_out)

-- why no set of a zone is signed: by its keys and the moments, in this order
abbrev pub request_fault : List PlannedKey → Request → Option PlanFault
request_fault keys request = option_or (keys_fault keys) (moments_fault request)

-- why a zone isn't planned: by its keys, the moments, its sets, and the denials of the zone with its keys, in this order
abbrev pub plan_fault : Name → Sets → List PlannedKey → Request → Option PlanFault
plan_fault origin m keys request =
    option_or (keys_fault keys) (option_or (moments_fault request) (option_or (zone_fault origin m) (denial_fault request.nx_proof_kind origin (keyed origin keys request m))))
