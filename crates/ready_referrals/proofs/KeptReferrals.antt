-- What is kept of a referral is put again
use Rattle.std.proofs.Common.{◌≡◌, ◌==◌, ℕ, Bool, true, false, not, cond, List, [], ◌∷◌, ◌++◌, map, take, refl, sym, ap, subst, ◌∙◌}
use Rattle.std.specs.List.{flat_map, AllByRecursion}
use Rattle.std.specs.Prelude.{Option, Some, None, IfSome}
use Rattle.std.proofs.lemmas.List.{map-append}
use Rattle.zone_proto.specs.Names.{Name, lower, is_at_or_above}
use Rattle.zone_proto.specs.Sets.{RRset}
use Rattle.zone_proto.specs.declared.response_code.ResponseCode.TheVariants.{NoError}
use Rattle.zone_proto.specs.Types.{A, DS, IN, NS}
use Rattle.zone_map.specs.Zones.{Sets}
use Rattle.message_reading.specs.declared.query.Query.{Query as ReadQuery}
use Rattle.message_writing.specs.KnownNames.{IsKnown}
use Rattle.message_writing.specs.declared.kept_records.KeptRecords.{KeptRecords}
use Rattle.zone_response.specs.Additional.{addresses, diverted_host, host_sets, hosts, sibling_glue, sibling_sets}
use Rattle.zone_response.specs.Descent.{Diversion, cut, renaming, diversion}
use Rattle.zone_response.specs.Queries.{Zone}
use Rattle.zone_response.specs.QueryTypes.{is_no_data}
use Rattle.zone_response.specs.Responses.{lacks_proofs, IsResponse}
use Rattle.zone_response.specs.Sections.{Sections, as_it_is, sections}
use Rattle.zone_response.specs.Steps.{referred}
use Rattle.zone_response.specs.declared.response.Part.TheVariants as part
use Rattle.zone_response.specs.declared.response.Response.{Response}
use Rattle.zone_server.specs.Answers.{asked_of, IsSent}
use Rattle.ready_referrals.proofs.ReferredNames.{names_below_a_cut_are_referred_alike}
use Rattle.ready_referrals.proofs.Unauthoritative.{unauthoritative_responses_are_referrals}
use Rattle.ready_referrals.specs.Referrals.{additional_for, authorities_for, referral, unsigned, AreSetsKept, IsBelowCut, IsKeptReferral, IsReferral, IsReferralBy, IsReferred, SaysReferral}
use Rattle.ready_referrals.specs.declared.keeping.ReadyReferral.{ReadyReferral}

-- ---- the additional section without DNSSEC is that with it, without signatures

unsigned_records : (ss : List RRset) → map unsigned (map (as_it_is part.Records) ss) ≡ map (as_it_is part.Records) ss
unsigned_records [] = refl
unsigned_records (s ∷ ss) = ap (λ l. as_it_is part.Records s ∷ l) (unsigned_records ss)

unsigned_signed : (ss : List RRset) → map unsigned (map (as_it_is part.Signed) ss) ≡ map (as_it_is part.Records) ss
unsigned_signed [] = refl
unsigned_signed (s ∷ ss) = ap (λ l. as_it_is part.Records s ∷ l) (unsigned_signed ss)

module _ (origin : Name) (m : Sets) where
  host_unsigned : (h : Name) (d : Option Diversion) → map unsigned (diverted_host m true true h d) ≡ diverted_host m false true h d
  host_unsigned h None = unsigned_signed (addresses m h)
  host_unsigned h (Some (cut c)) = unsigned_records (addresses m h)
  host_unsigned h (Some (renaming d)) = refl

  inside_unsigned : (h : Name) (b : Bool) → map unsigned (cond b (diverted_host m true true h (diversion origin m h A)) []) ≡ cond b (diverted_host m false true h (diversion origin m h A)) []
  inside_unsigned h true = host_unsigned h (diversion origin m h A)
  inside_unsigned h false = refl

  sibling_unsigned : (h : Name) (b : Bool) → map unsigned (cond b [] (host_sets origin m true true h)) ≡ cond b [] (host_sets origin m false true h)
  sibling_unsigned h true = refl
  sibling_unsigned h false = inside_unsigned h (is_at_or_above origin h)

  all_unsigned : (child : Name) (hs : List Name) → map unsigned (flat_map (sibling_sets origin m true child) hs) ≡ flat_map (sibling_sets origin m false child) hs
  all_unsigned child [] = refl
  all_unsigned child (h ∷ hs) =
      map-append unsigned (sibling_sets origin m true child h) (flat_map (sibling_sets origin m true child) hs)
      ∙ (λ i. sibling_unsigned h (is_at_or_above child h) i ++ all_unsigned child hs i)

  pub plain_siblings : (c : RRset) → map unsigned (sibling_glue origin m true c) ≡ sibling_glue origin m false c
  plain_siblings c = all_unsigned (lower c.owner) (hosts c)

-- ---- what is kept for a query with DNSSEC or without

first_kept : (x : Name) (s : RRset) (ss : List RRset) (ks : List KeptRecords) → AreSetsKept x (s ∷ ss) ks → AreSetsKept x (s ∷ []) (take 1 ks)
first_kept x s ss [] h = absurd h
first_kept x s ss (k ∷ ks) h = (h.0, tt)

module _ (z : Zone) (soa ns : RRset) (r : ReadyReferral) (h : IsReferralBy z soa ns r) where
  pub authorities_kept : (signed : Bool) → AreSetsKept r.cut (referral z soa signed ns).authorities (authorities_for signed r)
  authorities_kept true = h.kept.authorities
  authorities_kept false = first_kept r.cut _ _ r.authorities.items h.kept.authorities

  pub additional_kept : (signed : Bool) → AreSetsKept r.cut (referral z soa signed ns).additionals (additional_for signed r.additional)
  additional_kept true = h.kept.additional.signed
  additional_kept false = subst (λ (ss : List RRset). AreSetsKept r.cut ss (additional_for false r.additional)) (plain_siblings z.origin z.sets ns) h.kept.additional.plain

-- behind octets in which the name stands at a place
module _ (r : ReadyReferral) (signed : Bool) (z : Zone) (h : IsReferral z r) (octets : List ℕ) (place : ℕ) (known : IsKnown octets place r.cut) where
  pub authorities_placed : (x : Name) × (ss : List RRset) × IsKnown octets place x × AreSetsKept x ss (authorities_for signed r)
  authorities_placed = (r.cut, (referral z h.0 signed h.1).authorities, known, authorities_kept z h.0 h.1 r h.2 signed)

  pub additional_placed : (x : Name) × (ss : List RRset) × IsKnown octets place x × AreSetsKept x ss (additional_for signed r.additional)
  additional_placed = (r.cut, (referral z h.0 signed h.1).additionals, known, additional_kept z h.0 h.1 r h.2 signed)

-- ---- what was asked is a referral, and is kept

pub referral_told : (z : Zone) (x : Name) (o : Option Response) (r : Response) → IsResponse z (record { name = x; record_type = NS; class = IN; signed = true }) (sections r)
    → IfSome o (λ s. s ≡ r) → IfSome o (λ s. (sections s).code ≡ NoError) → IfSome o (λ s. (sections s).authoritative ≡ false) → IfSome o (λ s. (sections s).answers ≡ [])
    → IfSome o (λ s. SaysReferral z x (sections s))
referral_told z x None r h same fine other none = tt
referral_told z x (Some s) r h same fine other none =
    unauthoritative_responses_are_referrals z x (sections s)
    (subst (λ (t : Response). IsResponse z (record { name = x; record_type = NS; class = IN; signed = true }) (sections t)) (sym same) h) fine other none

pub kept_says : (z : Zone) (x : Name) (s : Sections) (r : ReadyReferral) → SaysReferral z x s → IsKeptReferral x s r → IsReferral z r
kept_says z x s r says kept =
    let at : IsKeptReferral r.cut s r = subst (λ n. IsKeptReferral n s r) (sym kept.cut) kept in (
      says.soa,
      says.ns,
      record {
        below = subst (IsBelowCut z says.soa says.ns) (sym kept.cut) says.below;
        proven = says.proven;
        kept = subst (λ t. IsKeptReferral r.cut t r) says.is at;
      },
    )

-- ---- all of them

pub push_all : {X : Type 0} (P : X → Type 0) (xs : List X) (x : X) → AllByRecursion P xs → P x → AllByRecursion P (xs ++ x ∷ [])
push_all P [] x h k = (k, tt)
push_all P (y ∷ xs) x h k = (h.0, push_all P xs x h.1 k)

-- ---- the response

proven_for : (z : Zone) (ns : RRset) (signed : Bool) → lacks_proofs z true [] (referred ns) ≡ false → lacks_proofs z signed [] (referred ns) ≡ false
proven_for z ns true h = h
proven_for z ns false h = refl

pub is_referred : (z : Zone) (limit : ℕ) (q : ReadQuery) (x : Name) (octets : List ℕ) (r : ReadyReferral) (h : IsReferral z r) → is_at_or_above r.cut x ≡ true → x ≡ (asked_of q).name
    → (asked_of q).class ≡ IN → is_no_data (asked_of q).record_type ≡ false → ((asked_of q).record_type == DS) ≡ false → IsSent limit q (referral z h.0 (asked_of q).signed h.1) octets
    → IsReferred z limit q octets
is_referred z limit q x octets r h above same class is_data no_ds sent = record {
  said = referral z h.0 (asked_of q).signed h.1;
  says = names_below_a_cut_are_referred_alike z (asked_of q) h.0 h.1 r.cut h.2.below (subst (λ n. is_at_or_above r.cut n ≡ true) same above) class is_data no_ds
      (proven_for z h.1 (asked_of q).signed h.2.proven);
  sent = sent;
}

pub not_false : (b : Bool) → not b ≡ false → b ≡ true
not_false true e = refl
not_false false e = sym e
