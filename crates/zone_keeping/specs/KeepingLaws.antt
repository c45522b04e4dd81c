-- What a plan with standing signatures is once it is answered, and what these signatures are
use Rattle.std.specs.Prelude.{◌≡◌, ℕ, List, length, Contains, Option, Some, IsTrue}
use Rattle.zone_proto.specs.declared.rdata.RData.TheVariants as V
use Rattle.zone_proto.specs.declared.rdata.signing.DNSKEY.{DNSKEY}
use Rattle.zone_proto.specs.declared.rdata.signing.RRSIG.{RRSIG}
use Rattle.zone_proto.specs.declared.record.Record.{Record}
use Rattle.zone_proto.specs.Names.{Name}
use Rattle.zone_proto.specs.Sets.{RRset}
use Rattle.zone_proto.specs.Signing.{SignedPart}
use Rattle.zone_map.specs.Renewals.{with_signatures}
use Rattle.zone_map.specs.Zones.{Sets, AreStored}
use Rattle.zone_signing.specs.Secured.{SetsBy, IsSecured}
use Rattle.zone_planning.specs.declared.signer.PlanSigner.{PlanSigner}
use Rattle.zone_planning.specs.Answering.{plans, AreFound}
use Rattle.zone_planning.specs.Filling.{blanks, filled}
use Rattle.zone_planning.specs.SignedData.{signed_data}
use Rattle.zone_keeping.specs.declared.span.Span.{Span}
use Rattle.zone_keeping.specs.Fitting.{holds, is_alike, is_made, set_of, first_fit}
use Rattle.zone_keeping.specs.Keeping.{kept, keeping, answers_left}

module _ (octets_of : PlanSigner → SignedPart → List ℕ) (span : Span) (usable : List (Option DNSKEY)) (old : Sets) (now : ℕ) (origin : Name) (signers : List PlanSigner) (sets : SetsBy) (m : Sets) where
  -- once what is left blank is answered, the zone is the one that is secured by signers that answer so, or by what stands; and there are as many answers as blank ones
  pub record IsKeptPlan : Type 0 where
    pub secured : IsSecured (keeping octets_of span usable old) now origin signers sets (with_signatures (kept span usable old m) (filled (kept span usable old m) (answers_left octets_of span usable old now signers m)))
    pub count : length (answers_left octets_of span usable old now signers m) ≡ length (blanks (kept span usable old m))

-- so it is of each zone that is secured by planning signers
abbrev pub KeptPlansAreSecured : Type 0
KeptPlansAreSecured =
    (octets_of : PlanSigner → SignedPart → List ℕ) (span : Span) (usable : List (Option DNSKEY)) (old : Sets) (now : ℕ) (origin : Name) (signers : List PlanSigner) (sets : SetsBy) (m : Sets)
    → IsSecured plans now origin signers sets m → AreFound m → AreStored m → IsKeptPlan octets_of span usable old now origin signers sets m

-- a signature that stands is one of the old zone's set, of the algorithm, tag and signer of the key that is asked and as long as those of that key; it holds; and what it is made of there is what it would be made of here
pub record IsStanding (span : Span) (key : DNSKEY) (part : SignedPart) (old : RRset) (blank r : RRSIG) : Type 0 where
  pub stood : (s : Record) × Contains old.signatures s × (s.rdata ≡ V.RRSIG r)
  pub alike : IsTrue (is_alike blank r)
  pub held : IsTrue (holds span r)
  pub made : IsTrue (is_made key r)
  pub octets : signed_data r (set_of part) ≡ signed_data r old

abbrev pub KeptSignaturesAreStanding : Type 0
KeptSignaturesAreStanding =
    (span : Span) (key : DNSKEY) (part : SignedPart) (old : RRset) (blank r : RRSIG) → first_fit span key part old blank old.signatures ≡ Some r → IsStanding span key part old blank r
