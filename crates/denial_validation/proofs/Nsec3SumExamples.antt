-- By which NSEC3 records a name is judged, and what they prove summed up, computed from the definitions for a zone of a few names whose digests are made up
use Rattle.std.proofs.Common.{◌≡◌, ℕ, ◌==◌, Bool, true, false, cond, List, [], ◌∷◌, map, codes, refl}
use Rattle.std.specs.Prelude.{Option, Some, None, find, option_map}
use Rattle.zone_proto.specs.declared.rdata.RData.TheVariants as V
use Rattle.zone_proto.specs.declared.rdata.denial.NSEC3.{NSEC3 as Nsec3Data}
use Rattle.zone_proto.specs.declared.record.Record.{Record}
use Rattle.zone_proto.specs.HashedOwners.{hashed_owner}
use Rattle.zone_proto.specs.Names.{Label, Name, name_eq, wildcard_under}
use Rattle.zone_proto.specs.Types.{A, NS, SOA, MX, DS, IN}
use Rattle.denial_validation.specs.declared.proof.Proof.{Proof}
use Rattle.denial_validation.specs.declared.proof.Proof.TheVariants.{NameError, UnsignedDelegation, NoData, WildcardNoData, WildcardAnswer}
use Rattle.denial_validation.specs.Judgement.{nsec3_proof}
use Rattle.denial_validation.specs.Nsec3Parameters.{common_parameters, concluded}
use Rattle.denial_validation.specs.Nsec3Proofs.{proves_wildcard_answer}

abbrev pub apex : Name
apex = codes "example" ∷ []

abbrev pub under : Label → Name → Name
under label parent = label ∷ parent

-- names that are there: a host, a delegation, a name that owns nothing, and the wildcard at it
abbrev pub host : Name
host = under (codes "a") apex

abbrev pub cut : Name
cut = under (codes "c") apex

abbrev pub empty : Name
empty = under (codes "w") apex

-- and names that aren't
abbrev pub absent : Name
absent = under (codes "b") apex

abbrev pub below_absent : Name
below_absent = under (codes "y") absent

abbrev pub below_empty : Name
below_empty = under (codes "x") empty

-- one of another zone, and one below the delegation
abbrev pub foreign : Name
foreign = codes "www" ∷ codes "other" ∷ []

abbrev pub below_cut : Name
below_cut = under (codes "x") cut

-- their digests in order, and those of the wildcards that are asked
abbrev pub table : List (Name × List ℕ)
table =
    (wildcard_under empty, 10 ∷ []) ∷ (foreign, 12 ∷ []) ∷ (absent, 15 ∷ []) ∷ (apex, 20 ∷ []) ∷ (below_absent, 25 ∷ []) ∷ (below_empty, 28 ∷ []) ∷ (host, 30 ∷ [])
    ∷ (wildcard_under apex, 35 ∷ []) ∷ (cut, 40 ∷ []) ∷ (below_cut, 45 ∷ []) ∷ (empty, 50 ∷ []) ∷ []

-- algorithm 1 alone is known
abbrev pub digest_of : ℕ → List ℕ → Name → ℕ → Option (List ℕ)
digest_of algorithm salt x iterations = cond (algorithm == 1) (option_map (λ e. e.1) (find (λ e. name_eq e.0 x) table)) None

-- ---- the records

abbrev pub data_of : ℕ → List ℕ → Bool → ℕ → List ℕ → Nsec3Data
data_of algorithm salt opt_out next types =
    record { algorithm = algorithm; opt_out = opt_out; iterations = 5; salt = salt; next_hashed_owner_name = next ∷ []; types = map (λ t. record { 0 = t }) types }

-- in the zone with an apex
abbrev pub answer_of : Name → ℕ → Nsec3Data → Record
answer_of zone digest said = record { name = hashed_owner zone (digest ∷ []); dns_class = record { 0 = IN }; ttl = 300; rdata = V.NSEC3 said }

abbrev pub answer : ℕ → Nsec3Data → Record
answer = answer_of apex

abbrev pub says : Bool → ℕ → ℕ → List ℕ → Record
says opt_out digest next types = answer digest (data_of 1 (7 ∷ []) opt_out next types)

abbrev pub circle : Bool → List Record
circle opt_out =
    says opt_out 10 20 (MX ∷ []) ∷ says opt_out 20 30 (NS ∷ SOA ∷ []) ∷ says opt_out 30 40 (A ∷ []) ∷ says opt_out 40 50 (NS ∷ []) ∷ says opt_out 50 10 [] ∷ []

abbrev pub proof : List Record → Name → ℕ → Option Proof
proof rs x t = concluded digest_of apex x rs None (λ hash read. nsec3_proof apex hash read x t)

-- ---- each case

name_error : proof (circle false) absent A ≡ Some (NameError false)
name_error = refl

delegation : proof (circle false) cut DS ≡ Some UnsignedDelegation
delegation = refl

no_data : proof (circle false) host MX ≡ Some NoData
no_data = refl

empty_name : proof (circle false) empty A ≡ Some NoData
empty_name = refl

wildcard_no_data : proof (circle false) below_empty A ≡ Some (WildcardNoData false)
wildcard_no_data = refl

wildcard_answer : proof (circle false) below_empty MX ≡ Some (WildcardAnswer 2 false)
wildcard_answer = refl

owned : proof (circle false) host A ≡ None
owned = refl

-- ---- opt-out: where the wildcard is shown to have nothing, this is told, and else that there may be a delegation

out_name_error : proof (circle true) absent A ≡ Some (NameError true)
out_name_error = refl

out_wildcard : proof (circle true) below_empty A ≡ Some (WildcardNoData true)
out_wildcard = refl

out_delegation : proof (circle true) below_empty MX ≡ Some UnsignedDelegation
out_delegation = refl

-- of DS it is told before the name error: the name may be a delegation that is there
out_ds : proof (circle true) absent DS ≡ Some UnsignedDelegation
out_ds = refl

-- a wildcard's answer, by the record that covers the next closer name alone: the name may be a delegation
out_answer : proof (says true 10 20 (MX ∷ []) ∷ []) absent A ≡ Some (WildcardAnswer 1 true)
out_answer = refl

-- ---- a wildcard's answer without a record of the encloser. One record covers b and, by chance, y.b, so that it proves
-- an answer from either wildcard: the one that is told has b for its next closer name

abbrev covering : List Record
covering = says false 10 30 (MX ∷ []) ∷ []

by_either : concluded digest_of apex below_absent covering false (λ hash read. proves_wildcard_answer apex hash read below_absent absent) ≡ true
by_either = refl

by_apex : concluded digest_of apex below_absent covering false (λ hash read. proves_wildcard_answer apex hash read below_absent apex) ≡ true
by_apex = refl

nearest_the_apex : proof covering below_absent A ≡ Some (WildcardAnswer 1 false)
nearest_the_apex = refl

-- ---- parameters

-- those of all records
common : common_parameters digest_of apex host (circle false) ≡ Some (data_of 1 (7 ∷ []) false 20 (MX ∷ []))
common = refl

-- a record of an algorithm that isn't known is ignored, wherever it stands
abbrev unknown : Record
unknown = answer 30 (data_of 2 (7 ∷ []) false 40 (A ∷ []))

ignored : proof (unknown ∷ circle false) absent A ≡ Some (NameError false)
ignored = refl

all_ignored : proof (unknown ∷ []) host MX ≡ None
all_ignored = refl

-- one with another salt is not, and then nothing is proved
abbrev salted : Record
salted = answer 30 (data_of 1 (8 ∷ []) false 40 (A ∷ []))

at_odds : proof (salted ∷ circle false) absent A ≡ None
at_odds = refl

alone : proof (salted ∷ []) host MX ≡ Some NoData
alone = refl

-- nothing of a name that the hash has no digest of, nor without records
unhashed : proof (circle false) (under (codes "q") apex) A ≡ None
unhashed = refl

nothing : proof [] absent A ≡ None
nothing = refl
