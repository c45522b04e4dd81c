-- What is proved of a chain of NSEC sets holds of a circle, which is one
use Rattle.std.proofs.Common.{◌≡◌, ℕ, Bool, true, false, refl, sym, ◌∙◌, true≢false}
use Rattle.zone_proto.specs.Names.{Name}
use Rattle.zone_proto.specs.Types.{NS, NSEC}
use Rattle.zone_proto.proofs.Names.NameTree.{is_at_or_above_complete}
use Rattle.zone_map.specs.Zones.{Sets, owns}
use Rattle.zone_denial.proofs.Chain.NsecBelow.{above_at}
use Rattle.zone_denial.proofs.Chain.NsecLists.{lists_all_owned}
use Rattle.zone_denial.proofs.Chains.Circles.{nsec_circle_is_chain}
use Rattle.denial_laws.specs.Acceptance.{NameErrorAccepted, WildcardErrorAccepted, NoDataAccepted, EmptyAccepted, WildcardNoDataAccepted, WildcardAnswerAccepted, UnsignedDelegationAccepted, DenialAccepted}
use Rattle.denial_laws.specs.Chains.{IsInScopeOfChain}
use Rattle.denial_laws.specs.Scope.{IsInScope}
use Rattle.denial_laws.specs.Soundness.{NameErrorSound, NoDataSound, IsWithoutData, EmptySound, IsEmptyNonTerminal, WildcardNoDataSound, WildcardAnswerSound, UnsignedDelegationSound, NothingBelowCut}
use Rattle.denial_laws.specs.Sums.{DenialSummedUp}
use Rattle.denial_laws.proofs.Chains.Accepted as accepted
use Rattle.denial_laws.proofs.Chains.EmptyAnswers as empty
use Rattle.denial_laws.proofs.Chains.NameErrors as errors
use Rattle.denial_laws.proofs.Chains.Silence as silence
use Rattle.denial_laws.proofs.Chains.Soundness as sound
use Rattle.denial_laws.proofs.Chains.Sums as sums

pub in_chain : (origin : Name) (m : Sets) (x : Name) → IsInScope origin m x → IsInScopeOfChain origin m x
in_chain origin m x j = record { zone = nsec_circle_is_chain origin m j.zone; one_kind = j.one_kind; unreferred = j.unreferred; inside = j.inside; uncut = j.uncut; no_dname = j.no_dname }

-- ---- what is so is proved

pub name_error_accepted : NameErrorAccepted
name_error_accepted origin m x j = errors.name_error_accepted origin m x (in_chain origin m x j)

pub wildcard_error_accepted : WildcardErrorAccepted
wildcard_error_accepted origin m x j = errors.wildcard_error_accepted origin m x (in_chain origin m x j)

pub no_data_accepted : NoDataAccepted
no_data_accepted origin m signed x t j = empty.no_data_accepted origin m signed x t (in_chain origin m x j)

pub empty_accepted : EmptyAccepted
empty_accepted origin m x j = empty.empty_accepted origin m x (in_chain origin m x j)

pub wildcard_no_data_accepted : WildcardNoDataAccepted
wildcard_no_data_accepted origin m signed x t j = empty.wildcard_no_data_accepted origin m signed x t (in_chain origin m x j)

pub wildcard_answer_accepted : WildcardAnswerAccepted
wildcard_answer_accepted origin m x e j = errors.wildcard_answer_accepted origin m x e (in_chain origin m x j)

pub unsigned_delegation_accepted : UnsignedDelegationAccepted
unsigned_delegation_accepted origin m x j = empty.unsigned_delegation_accepted origin m x (in_chain origin m x j)

pub denial_accepted : DenialAccepted
denial_accepted origin m x j = accepted.denial_accepted origin m x (in_chain origin m x j)

pub denial_summed_up : DenialSummedUp
denial_summed_up origin m x j = sums.denial_summed_up origin m x (in_chain origin m x j)

-- ---- what is proved is so

pub name_error_sound : NameErrorSound
name_error_sound origin m rs x j = sound.name_error_sound origin m rs x (in_chain origin m x j)

pub no_data_sound : NoDataSound
no_data_sound origin m rs x t j = sound.no_data_sound origin m rs x t (in_chain origin m x j)

pub empty_sound : EmptySound
empty_sound origin m rs x j = sound.empty_sound origin m rs x (in_chain origin m x j)

pub empty_without_data : (origin : Name) (m : Sets) (x : Name) → IsInScope origin m x → IsEmptyNonTerminal m x → (t : ℕ) → IsWithoutData origin m x t
empty_without_data origin m x j = sound.empty_without_data origin m x (in_chain origin m x j)

pub wildcard_no_data_sound : WildcardNoDataSound
wildcard_no_data_sound origin m rs x t j = sound.wildcard_no_data_sound origin m rs x t (in_chain origin m x j)

pub wildcard_answer_sound : WildcardAnswerSound
wildcard_answer_sound origin m rs x e j = sound.wildcard_answer_sound origin m rs x e (in_chain origin m x j)

pub unsigned_delegation_sound : UnsignedDelegationSound
unsigned_delegation_sound origin m rs x h = sound.unsigned_delegation_sound origin m rs x (nsec_circle_is_chain origin m h)

-- ---- where nothing is proved

-- a cut is on the circle, whatever is above it
pub nothing_below_cut : NothingBelowCut
nothing_below_cut origin m rs x c h zone cut = silence.nothing_below_owner origin m rs x c (nsec_circle_is_chain origin m h) zone cut (by (owns m c NSEC) refl)
  where
    by : (b : Bool) → owns m c NSEC ≡ b → b ≡ true
    by true e = refl
    by false e = absurd (true≢false (sym ((lists_all_owned origin m h c NS cut.delegated).off e (is_at_or_above_complete origin c (above_at origin c cut.below))) ∙ cut.topmost))
