use Rattle.std.proofs.Common.{◌≡◌, ◌++◌, length, drop}
use Rattle.std.specs.Option.{option_or}
use Rattle.zone_proto.specs.Names.{Name}
use Rattle.denial_validation.specs.Nsec3Proofs.{owner_of, shown_encloser, wildcard_answer}
use Rattle.denial_validation.specs.Nsec3Responses.{hash_of}
use Rattle.denial_validation.proofs.nsec3_response.Nsec3Response.encloser_walk.Given as goal

-- the encloser is that of the name that the walk is at, which has the last labels of the whole
abbrev pub invariant-loop-hashed : goal.invariant-loop-hashed
invariant-loop-hashed g l = record {
  above : l.above ≡ drop 1 l.next_closer;
  passed : (front : Name) × (l.self.name ≡ front ++ l.next_closer);
  hashed : l.hashed ≡ owner_of l.self.apex (hash_of g.H.Nsec3Hash.digest_of l.self) l.next_closer;
  shown : shown_encloser l.self.apex (hash_of g.H.Nsec3Hash.digest_of l.self) l.self.records l.self.name
      ≡ shown_encloser l.self.apex (hash_of g.H.Nsec3Hash.digest_of l.self) l.self.records l.next_closer;
  answer : option_or (wildcard_answer l.self.apex (hash_of g.H.Nsec3Hash.digest_of l.self) l.self.records l.next_closer) l.answer
      ≡ wildcard_answer l.self.apex (hash_of g.H.Nsec3Hash.digest_of l.self) l.self.records l.self.name;
}

abbrev pub decreases-loop-hashed : goal.decreases-loop-hashed
decreases-loop-hashed g l = length l.next_closer
