-- All that a validator makes of the sets that deny a judged name by NSEC3
use Rattle.denial_laws.specs.Nsec3Chains.{Nsec3ChainDenialAccepted, Nsec3ChainWildcardAnswerAccepted}
use Rattle.denial_laws.specs.Nsec3Scope.{read_nsec3_sets}
use Rattle.denial_laws.specs.Nsec3Soundness.{IsNsec3SoundOn}
use Rattle.denial_laws.proofs.Chains.Nsec3EmptyAnswers.{error_accepted, empty_accepted, wildcard_accepted, delegation_accepted, asked_wildcard_proved}
use Rattle.denial_laws.proofs.Chains.Nsec3Soundness.{nsec3_records_sound}
use Rattle.denial_laws.proofs.Chains.Nsec3Sums.{nsec3_denial_summed_up, nsec3_wildcard_summed_up}

pub nsec3_denial_accepted : Nsec3ChainDenialAccepted
nsec3_denial_accepted origin beside m hash parameters names x j answer of_zone given = record {
  error = λ plain. (error_accepted j answer of_zone given plain, λ p. (sound.error p).denied);
  empty = empty_accepted j answer of_zone given;
  wildcard = wildcard_accepted j answer of_zone given;
  delegation = delegation_accepted j answer of_zone given;
  sound = sound;
  sum = nsec3_denial_summed_up origin beside m hash parameters names x j answer of_zone given;
}
  where
    sound : IsNsec3SoundOn origin m hash names x (read_nsec3_sets answer)
    sound = nsec3_records_sound origin beside m hash parameters names (read_nsec3_sets answer) x j of_zone

pub nsec3_wildcard_answer_accepted : Nsec3ChainWildcardAnswerAccepted
nsec3_wildcard_answer_accepted origin beside m hash parameters names x j answer of_zone given = record {
  wildcard_name = asked_wildcard_proved j answer given;
  sound = nsec3_records_sound origin beside m hash parameters names (read_nsec3_sets answer) x j of_zone;
  sum = nsec3_wildcard_summed_up origin beside m hash parameters names x j answer of_zone given;
}
