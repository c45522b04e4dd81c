-- A set that is signed is sent with a signature that a validator looks at
use Rattle.std.proofs.Common.{◌≡◌, ◌≢◌, ℕ, true, cond, ◌&&◌, map, sym, ap, ◌∙◌, true≢false}
use Rattle.std.specs.Prelude.{◌==◌}
use Rattle.zone_proto.specs.declared.rdata.RData.{RData}
use Rattle.zone_proto.specs.declared.rdata.RData.TheVariants as V
use Rattle.zone_proto.specs.declared.record.Record.{Record}
use Rattle.zone_proto.specs.Names.{Name, lower, name_eq}
use Rattle.zone_proto.specs.Sets.{RRset}
use Rattle.zone_proto.specs.Types.{NS}
use Rattle.zone_proto.proofs.Members.{In-filter, In-map, In-from_any, any_from_In, and_left}
use Rattle.zone_map.specs.Zones.{set_at, IsZone}
use Rattle.denial_laws.proofs.OwnTypes.{differs}
use Rattle.zone_response.specs.declared.response.Part.TheVariants as part
use Rattle.zone_response.specs.Queries.{Zone}
use Rattle.zone_response.specs.Sections.{covers, own_signatures, with_ttl, sent}
use Rattle.response_laws.specs.ProvedSayings.{counted_labels, signs, is_signed_by, AreSigned}
use Rattle.response_laws.proofs.SentSets.{IsSentSet, authority_part}

module _ (origin : Name) (s : RRset) where
  covers_type : (d : RData) → signs origin s d ≡ true → covers s.record_type d ≡ true
  covers_type (V.RRSIG d) e =
      and_left (d.type_covered.0 == s.record_type) (name_eq (lower d.signer_name) origin)
      (and_left ((d.type_covered.0 == s.record_type) && name_eq (lower d.signer_name) origin) (d.num_labels == counted_labels s.owner) e)
  covers_type _ e = absurd (true≢false (sym e))

  signed_as_sent : (ttl : ℕ) → is_signed_by origin s ≡ true → is_signed_by origin (sent part.Signed ttl s) ≡ true
  signed_as_sent ttl e =
      let r = In-from_any (λ (r : Record). signs origin s r.rdata) s.signatures e in
      any_from_In (λ (r : Record). signs origin s r.rdata) (with_ttl ttl r.0) (map (with_ttl ttl) (own_signatures s))
      (In-map (with_ttl ttl) r.0 (own_signatures s) (In-filter (λ (r : Record). covers s.record_type r.rdata) r.0 s.signatures r.1 (covers_type r.0.rdata r.2))) r.2

-- a set of the authority section that isn't NS is signed where the zone's sets of its type are
pub signed_in_authority : (z : Zone) → IsZone z.denials → (t : ℕ) → t ≢ NS → AreSigned z t → (s : RRset) → IsSentSet z.denials (authority_part s) s → s.record_type ≡ t → is_signed_by z.origin s ≡ true
signed_in_authority z zone t other all s set is =
    ap (is_signed_by z.origin) sent_signed ∙ signed_as_sent z.origin set.stored set.ttl (all set.name set.stored (ap (set_at z.denials set.name) type' ∙ set.stands))
  where
    signed_part : authority_part s ≡ part.Signed
    signed_part = ap (λ u. cond (u == NS) part.Records part.Signed) is ∙ ap (λ b. cond b part.Records part.Signed) (differs t NS other)

    sent_signed : s ≡ sent part.Signed set.ttl set.stored
    sent_signed = set.sent ∙ ap (λ p. sent p set.ttl set.stored) signed_part

    type' : t ≡ set.record_type
    type' = sym is ∙ ap (λ (v : RRset). v.record_type) sent_signed ∙ (zone.stored set.name set.record_type set.stored set.stands).record_type
