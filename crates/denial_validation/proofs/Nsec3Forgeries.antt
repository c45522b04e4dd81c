-- What NSEC3 records don't prove: genuine ones of other zones, of other digests, shown for names where they have no say, or turned a little; computed from the definitions
use Rattle.std.proofs.Common.{◌≡◌, ℕ, true, false, List, [], ◌∷◌, map, codes, refl}
use Rattle.std.specs.Prelude.{Some, None}
use Rattle.zone_proto.specs.declared.rdata.denial.NSEC3.{NSEC3 as Nsec3Data}
use Rattle.zone_proto.specs.declared.record.Record.{Record}
use Rattle.zone_proto.specs.Names.{Name}
use Rattle.zone_proto.specs.Types.{A, NS, SOA, MX, DS, DNAME}
use Rattle.denial_validation.specs.declared.proof.Proof.TheVariants.{NameError, UnsignedDelegation, NoData, WildcardAnswer}
use Rattle.denial_validation.specs.Nsec3Parameters.{concluded}
use Rattle.denial_validation.specs.Nsec3Proofs.{proves_wildcard_answer}
use Rattle.denial_validation.proofs.Nsec3SumExamples.{apex, under, host, cut, absent, foreign, below_cut, digest_of, data_of, answer, answer_of, says, circle, proof}

-- ---- records of other zones

-- that of a child zone with the same parameters: it comes after all owners of this zone, so that it would cover all
-- digests before its next one
abbrev sub : Name
sub = under (codes "sub") apex

abbrev childs : Record
childs = answer_of sub 10 (data_of 1 (7 ∷ []) false 20 (MX ∷ []))

child_covers : proof (childs ∷ []) absent A ≡ None
child_covers = refl

childs_is_ignored : proof (childs ∷ circle false) absent A ≡ Some (NameError false)
childs_is_ignored = refl

-- with another salt it doesn't make the parameters of this zone unclear
childs_salt_is_ignored : proof (answer_of sub 10 (data_of 1 (8 ∷ []) false 20 (MX ∷ [])) ∷ circle false) absent A ≡ Some (NameError false)
childs_salt_is_ignored = refl

-- that of a zone beside it
beside : proof (answer_of (codes "aaa" ∷ []) 10 (data_of 1 (7 ∷ []) false 20 (MX ∷ [])) ∷ []) absent A ≡ None
beside = refl

-- a next digest that is longer than the owner's
abbrev longer : Nsec3Data
longer = record { algorithm = 1; opt_out = false; iterations = 5; salt = 7 ∷ []; next_hashed_owner_name = 20 ∷ 0 ∷ []; types = [] }

longer_next : proof (answer 10 longer ∷ []) absent A ≡ None
longer_next = refl

-- ---- wildcard answers from a wildcard that isn't of the zone

abbrev answers : Name → Name → List Record → Type 0
answers x e rs = concluded digest_of apex x rs false (λ hash read. proves_wildcard_answer apex hash read x e) ≡ true

abbrev answers_not : Name → Name → List Record → Type 0
answers_not x e rs = concluded digest_of apex x rs false (λ hash read. proves_wildcard_answer apex hash read x e) ≡ false

from_apex : answers absent apex (says false 10 20 (MX ∷ []) ∷ [])
from_apex = refl

-- of a name of another zone, whose digest is covered too
from_other_zone : answers_not foreign (codes "other" ∷ []) (says false 10 20 (MX ∷ []) ∷ [])
from_other_zone = refl

-- of an encloser above the apex, whose next closer name is the apex
from_root : answers_not absent [] (says false 10 30 (MX ∷ []) ∷ [])
from_root = refl

-- ---- below a zone cut and a DNAME (RFC 6840 section 4.1)

below : proof (circle false) below_cut A ≡ None
below = refl

-- the record of the cut covers the name as well
by_cut : proof (says false 40 50 (NS ∷ []) ∷ []) below_cut A ≡ None
by_cut = refl

by_signed_cut : proof (says false 40 50 (NS ∷ DS ∷ []) ∷ []) below_cut A ≡ None
by_signed_cut = refl

by_dname : proof (says false 40 50 (DNAME ∷ []) ∷ []) below_cut A ≡ None
by_dname = refl

-- with A in place of NS it is the record of a host
by_host : proof (says false 40 50 (A ∷ []) ∷ []) below_cut A ≡ Some (WildcardAnswer 2 false)
by_host = refl

-- by another record alone a cut between isn't excluded
by_other : proof (says false 30 50 (A ∷ []) ∷ []) below_cut A ≡ Some (WildcardAnswer 1 false)
by_other = refl

-- at the cut, the types of the child
at_cut : proof (says false 40 50 (NS ∷ DS ∷ []) ∷ []) cut A ≡ None
at_cut = refl

-- ---- an apex with NS and no SOA, and one whose bit map is empty: it is no delegation of its own zone, and the zone's own record has no
-- say on its DS (RFC 4035 section 5.2)

without_soa : proof (says false 20 30 (NS ∷ []) ∷ []) apex DS ≡ None
without_soa = refl

apex_delegation : proof (says false 20 30 (NS ∷ []) ∷ []) apex A ≡ None
apex_delegation = refl

bare_apex : proof (says false 20 30 [] ∷ []) apex DS ≡ None
bare_apex = refl

bare_apex_data : proof (says false 20 30 [] ∷ []) apex A ≡ Some NoData
bare_apex_data = refl

-- a host has no DS
host_ds : proof (says false 30 40 (A ∷ []) ∷ []) host DS ≡ Some NoData
host_ds = refl

cut_ds : proof (says false 40 50 (NS ∷ []) ∷ []) cut DS ≡ Some UnsignedDelegation
cut_ds = refl
