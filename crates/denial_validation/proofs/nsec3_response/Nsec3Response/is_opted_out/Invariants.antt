use Rattle.std.proofs.Common.{◌≡◌, ◌&&◌}
use Rattle.std.specs.Prelude.{option_copied}
use Rattle.std.specs.List.{list_any}
use Rattle.denial_validation.specs.Nsec3Proofs.{covers_owner}
use Rattle.denial_validation.specs.Nsec3Records.{Nsec3Record}
use Rattle.denial_validation.proofs.nsec3_response.Nsec3Response.is_opted_out.Given as goal

-- if there is one, it is among those that are left
abbrev pub invariant-loop-nsec3 : goal.invariant-loop-nsec3
invariant-loop-nsec3 g l = record {
  callable : (goal.iterator-loop-nsec3 g).can_next l.nsec3-iterator;
  finite : (goal.iterator-loop-nsec3 g).is_finite l.nsec3-iterator;
  left : list_any (λ (r : Nsec3Record). covers_owner l.self.apex r (option_copied l.hashed) && r.opt_out) l.self.records
      ≡ list_any (λ (r : Nsec3Record). covers_owner l.self.apex r (option_copied l.hashed) && r.opt_out) l.nsec3-iterator;
}
