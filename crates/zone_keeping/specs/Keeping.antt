-- A plan with standing signatures in the places of blank ones
use Rattle.std.specs.Prelude.{ℕ, cond, List, [], ◌∷◌, ◌++◌, map, filter_map, Option, Some, None, is_some, unwrap_or, option_map, option_and_then}
use Rattle.zone_proto.specs.declared.rdata.RData.{RData}
use Rattle.zone_proto.specs.declared.rdata.RData.TheVariants as V
use Rattle.zone_proto.specs.declared.rdata.signing.DNSKEY.{DNSKEY}
use Rattle.zone_proto.specs.declared.rdata.signing.RRSIG.{RRSIG}
use Rattle.zone_proto.specs.declared.record.Record.{Record}
use Rattle.zone_proto.specs.declared.rr_key.RrKey.{RrKey}
use Rattle.zone_proto.specs.Names.{lower}
use Rattle.zone_proto.specs.Sets.{RRset}
use Rattle.zone_proto.specs.Signing.{SignedPart, signed_part}
use Rattle.zone_map.specs.Renewals.{with_signatures}
use Rattle.zone_map.specs.Zones.{Sets, set_at}
use Rattle.zone_planning.specs.declared.signer.PlanSigner.{PlanSigner}
use Rattle.zone_planning.specs.Blank.{planned}
use Rattle.zone_keeping.specs.declared.span.Span.{Span}
use Rattle.zone_keeping.specs.Fitting.{first_fit}
use Rattle.zone_keeping.specs.Usable.{key_for}

-- ---- the plan

-- the signature of the old zone's set that stands in the place of one that a key is to make, if there are the set and the key
abbrev pub standing_in : Span → Option DNSKEY → Option RRset → SignedPart → RRSIG → Option RRSIG
standing_in span None old part blank = None
standing_in span (Some key) None part blank = None
standing_in span (Some key) (Some old) part blank = first_fit span key part old blank old.signatures

module _ (span : Span) (usable : List (Option DNSKEY)) where
  abbrev pub kept_data : Option RRset → SignedPart → RData → RData
  kept_data old part (V.RRSIG r) = V.RRSIG (unwrap_or (standing_in span (key_for usable (V.RRSIG r)) old part r) r)
  kept_data old part d = d

  -- a record of a signature, with the one that stands if it is blank
  abbrev pub kept_record : Option RRset → SignedPart → Record → Record
  kept_record old part r = record r { rdata = kept_data old part r.rdata }

  -- the signatures of a set, each so
  abbrev pub kept_list : Option RRset → RRset → List Record
  kept_list old s = map (kept_record old (signed_part s)) s.signatures

  -- those of all sets of a zone, in the order of the keys
  abbrev pub kept_lists : Sets → Sets → List (List Record)
  kept_lists old m = map (λ (e : RrKey × RRset). kept_list (set_at old e.0.name e.0.record_type.0) e.1) m

  -- the zone with these
  abbrev pub kept : Sets → Sets → Sets
  kept old m = with_signatures m (kept_lists old m)

-- ---- what it is once it is answered

-- the signature that stands in the place of a blank one of this set
abbrev pub standing : Span → List (Option DNSKEY) → Sets → SignedPart → RRSIG → Option RRSIG
standing span usable old part blank = standing_in span (key_for usable (V.RRSIG blank)) (set_at old (lower part.owner) part.record_type) part blank

module _ (octets_of : PlanSigner → SignedPart → List ℕ) (span : Span) (usable : List (Option DNSKEY)) (old : Sets) where
  -- the signers that sign what was planned by the signature that stands, or else by these octets
  abbrev pub keeping : PlanSigner → SignedPart → ℕ → ℕ → Option RRSIG
  keeping s part class now = option_map (λ (r : RRSIG). unwrap_or (standing span usable old part r) (record r { signature = octets_of s part })) (planned s part now)

  -- a key's answer for a set, if it is asked
  abbrev pub answer_left : ℕ → RRset → PlanSigner → Option (List ℕ)
  answer_left now s signer =
      option_and_then (λ (r : RRSIG). cond (is_some (standing span usable old (signed_part s) r)) None (Some (octets_of signer (signed_part s)))) (planned signer (signed_part s) now)

  -- the answers to what is left blank, in order
  abbrev pub answers_left : ℕ → List PlanSigner → Sets → List (List ℕ)
  answers_left now signers [] = []
  answers_left now signers (e ∷ es) = filter_map (answer_left now e.1) signers ++ answers_left now signers es
