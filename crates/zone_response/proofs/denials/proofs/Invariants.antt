use Rattle.std.proofs.Common.{Bor, ◌≡◌, ◌≤◌, ◌+◌, [], length, map, drop}
use Rattle.std.specs.Prelude.{flat_map, fold}
use Rattle.zone_proto.specs.Sets.{RRset}
use Rattle.zone_response.specs.Denials.{with_wildcard_proof, wildcard_hashed_names, have_owners_by}
use Rattle.zone_response.specs.Queries.{zone_of}
use Rattle.zone_response.proofs.denials.proofs.Given as goal

-- the sets so far, with those of the names that are left, are all; and so it is with the names that were hashed, each of which has an owner
abbrev pub invariant-loop-name : goal.invariant-loop-name
invariant-loop-name g l = record {
  sets :
      fold (with_wildcard_proof (zone_of g.S.Signer.signature_of g.H.Nsec3Hash.digest_of l.zone)) (map (λ (b : Bor RRset). b.now) l.sets.items) (drop l.name-index l.made)
      ≡ fold (with_wildcard_proof (zone_of g.S.Signer.signature_of g.H.Nsec3Hash.digest_of l.zone)) [] l.made;
  hashed :
      have_owners_by (zone_of g.S.Signer.signature_of g.H.Nsec3Hash.digest_of l.zone) (zone_of g.S.Signer.signature_of g.H.Nsec3Hash.digest_of l.zone).nx_proof_kind
      (flat_map (wildcard_hashed_names (zone_of g.S.Signer.signature_of g.H.Nsec3Hash.digest_of l.zone)) (drop l.name-index l.made))
      ≡ have_owners_by (zone_of g.S.Signer.signature_of g.H.Nsec3Hash.digest_of l.zone) (zone_of g.S.Signer.signature_of g.H.Nsec3Hash.digest_of l.zone).nx_proof_kind
      (flat_map (wildcard_hashed_names (zone_of g.S.Signer.signature_of g.H.Nsec3Hash.digest_of l.zone)) l.made);
  counted :
      l.hashes + length (flat_map (wildcard_hashed_names (zone_of g.S.Signer.signature_of g.H.Nsec3Hash.digest_of l.zone)) (drop l.name-index l.made))
      ≤ l.fn.hashes + length (flat_map (wildcard_hashed_names (zone_of g.S.Signer.signature_of g.H.Nsec3Hash.digest_of l.zone)) l.made);
}
