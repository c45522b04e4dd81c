-- How a caller that isn't Rattle wants a zone to be signed
use Rattle.std.specs.Prelude.{ℕ, ◌==◌, ◌||◌, not, Bool, List, length, nat_lt, Option, Some, None, if◌then◌else◌}
use Rattle.zone_proto.specs.declared.nx_proof_kind.NxProofKind.{NxProofKind}
use Rattle.zone_proto.specs.declared.nx_proof_kind.NxProofKind.TheVariants as kind
use Rattle.zone_planner.specs.declared.request.Request.{Request}
use Rattle.plan_calls.specs.declared.signing.Signing.{Signing}

-- the denials of a number: 0 are NSEC, 1 NSEC3 with a salt and iterations that can stand in a record (RFC 5155 section 3.2), and 2 the same with opt-out
abbrev pub kind_of : Signing → List ℕ → Option NxProofKind
kind_of how salt =
    if how.denial == 0 then Some kind.Nsec
    else (if nat_lt 2 how.denial || (nat_lt 65535 how.iterations || nat_lt 255 (length salt)) then None
    else Some (kind.Nsec3 1 salt how.iterations (how.denial == 2)))

-- what is asked of a plan
abbrev pub request_of : Signing → NxProofKind → Request
request_of how kind = record { inception = how.inception; expiration = how.expiration; jitter = how.jitter; key_ttl = how.key_ttl; nx_proof_kind = kind }

-- whether the parent is asked for DS records of keys
abbrev pub asks_parent : Signing → Bool
asks_parent how = not (how.asks_parent == 0)
