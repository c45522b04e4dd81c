-- Where sets stand, and the digests of delegations
use Rattle.std.specs.Prelude.{ℕ, ◌==◌, ◌||◌, ◌&&◌, not, List, [], ◌∷◌, length, Bool, true, false, Option, Some, None, if◌then◌else◌}
use Rattle.std.specs.List.{flat_map}
use Rattle.zone_proto.specs.declared.record.Record.{Record}
use Rattle.zone_proto.specs.declared.rdata.RData.{RData}
use Rattle.zone_proto.specs.declared.rdata.RData.TheVariants as V
use Rattle.zone_proto.specs.Names.{Name}
use Rattle.zone_proto.specs.Types.{DS, NS, NSEC, NSEC3, RRSIG}
use Rattle.zone_map.specs.Zones.{Sets, owns}
use Rattle.zone_publication.specs.declared.finding.Finding.{Finding}
use Rattle.zone_publication.specs.declared.finding.What.{What}
use Rattle.zone_publication.specs.declared.finding.What.TheVariants as what
use Rattle.zone_publication.specs.Names.{is_below, is_below_dname}

abbrev pub CDS : ℕ
CDS = 59

abbrev pub finding : Name → ℕ → What → Finding
finding n t w = record { owner = n; record_type = record { 0 = t }; what = w }

abbrev pub finding_if : Bool → Finding → List Finding
finding_if true f = f ∷ []
finding_if false f = []

-- A DS stands at a zone cut: not at the apex, and beside NS (RFC 4034 section 5, RFC 4035 section 2.4)
abbrev pub placing : Name → Sets → Name → ℕ → List Finding
placing origin m n t =
    if not (t == DS) then []
    else (if not (is_below origin n) then finding n t what.AtApex ∷ []
    else finding_if (not (owns m n NS)) (finding n t what.WithoutNs))

-- "Resource records MUST NOT exist at any subdomain of the owner of a DNAME" (RFC 6672 section 2.4), but for those of DNSSEC
abbrev pub is_of_denial : ℕ → Bool
is_of_denial t = t == NSEC || (t == NSEC3 || t == RRSIG)

abbrev pub below_dname : Name → Sets → Name → ℕ → List Finding
below_dname origin m n t = finding_if (not (is_of_denial t) && is_below_dname origin m n) (finding n t what.BelowDname)

-- The length of a digest in octets, by its type: SHA-1 (RFC 4034 section 5.1.4), SHA-256 (RFC 4509), GOST R 34.11-94 (RFC 5933),
-- SHA-384 (RFC 6605); none of a type that isn't known
abbrev pub digest_length : ℕ → Option ℕ
digest_length d =
    if d == 1 then Some 20
    else (if d == 2 || d == 3 then Some 32
    else (if d == 4 then Some 48
    else None))

abbrev pub is_length : ℕ → Option ℕ → Bool
is_length n None = true
is_length n (Some l) = n == l

-- the data of DS and CDS: a key tag, an algorithm, the type of a digest, and the digest; algorithm 0 stands for no DS (RFC 8078
-- section 4)
abbrev pub digest_finding : Name → ℕ → List ℕ → List Finding
digest_finding n t (a ∷ b ∷ algorithm ∷ d ∷ digest) =
    finding_if (not (algorithm == 0 || is_length (length digest) (digest_length d))) (finding n t (what.DigestLength d))
digest_finding n t (a ∷ b ∷ c ∷ []) = []
digest_finding n t (a ∷ b ∷ []) = []
digest_finding n t (a ∷ []) = []
digest_finding n t [] = []

abbrev pub record_digest : Name → ℕ → RData → List Finding
record_digest n t (V.Other d) = digest_finding n t d.octets
record_digest n t _ = []

abbrev pub digests : Name → ℕ → List Record → List Finding
digests n t rs = if t == DS || t == CDS then flat_map (λ r. record_digest n t r.rdata) rs else []
