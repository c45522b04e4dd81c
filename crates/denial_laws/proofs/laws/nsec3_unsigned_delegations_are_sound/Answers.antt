use Rattle.denial_laws.proofs.Nsec3CircleLaws.{nsec3_unsigned_delegation_sound, nsec3_all_in_sound}
use Rattle.denial_laws.proofs.laws.nsec3_unsigned_delegations_are_sound.Goals as goal

pub returns-clause-own : goal.returns-clause-own
returns-clause-own c = nsec3_unsigned_delegation_sound

pub returns-clause-all_in : goal.returns-clause-all_in
returns-clause-all_in c = nsec3_all_in_sound
