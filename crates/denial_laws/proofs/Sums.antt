-- An unsigned delegation, and the judgement of NSEC records by its tests
use Rattle.std.proofs.Common.{◌≡◌, Bool, true, false, not, ◌&&◌, length}
use Rattle.std.specs.Prelude.{Option, Some, option_map, if◌then◌else◌}
use Rattle.zone_proto.specs.Names.{Name}
use Rattle.zone_proto.specs.Types.{NS, SOA, DS}
use Rattle.zone_proto.proofs.Members.{and_left, and_right, not_true}
use Rattle.zone_map.specs.Zones.{Sets, owns}
use Rattle.denial_validation.specs.declared.proof.Proof.{Proof}
use Rattle.denial_validation.specs.declared.proof.Proof.TheVariants.{NameError, UnsignedDelegation, EmptyNonTerminal, NoData, WildcardNoData, WildcardAnswer}
use Rattle.denial_laws.specs.Sums.{is_unsigned}

-- what owns NS, and neither DS nor SOA
pub cut_of : (m : Sets) (x : Name) → is_unsigned m x ≡ true → (owns m x NS ≡ true) × (owns m x DS ≡ false) × (owns m x SOA ≡ false)
cut_of m x e =
    let two = and_left (owns m x NS && not (owns m x DS)) (not (owns m x SOA)) e in
    (and_left (owns m x NS) (not (owns m x DS)) two, not_true (owns m x DS) (and_right (owns m x NS) (not (owns m x DS)) two), not_true (owns m x SOA) (and_right (owns m x NS && not (owns m x DS)) (not (owns m x SOA)) e))

pub not_cut : (m : Sets) (x : Name) → owns m x NS ≡ false → is_unsigned m x ≡ false
not_cut m x e = λ i. e i && not (owns m x DS) && not (owns m x SOA)

-- the judgement by its tests
abbrev pub steps : Bool → Bool → Bool → Bool → Bool → Option Name → Option Proof
steps error delegation empty none bare answer =
    if error then Some (NameError false)
    else (if delegation then Some UnsignedDelegation
    else (if empty then Some EmptyNonTerminal
    else (if none then Some NoData
    else (if bare then Some (WildcardNoData false)
    else option_map (λ e. WildcardAnswer (length e) false) answer))))
