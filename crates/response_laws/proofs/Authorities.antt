-- The sets of an authority section are the zone's
use Rattle.std.proofs.Common.{◌≡◌, ℕ, true, false, cond, List, map, refl, sym, ap, ◌∙◌, subst, inl, inr}
use Rattle.std.specs.Prelude.{Option, Some, None, min, option_to_list, ◌==◌}
use Rattle.zone_proto.specs.Names.{Name, lower}
use Rattle.zone_proto.specs.Sets.{RRset}
use Rattle.zone_proto.specs.Types.{NS, SOA, DS}
use Rattle.zone_proto.proofs.Members.{In, In-from_map}
use Rattle.zone_map.specs.Zones.{Sets, set_at, IsZone}
use Rattle.zone_response.specs.declared.response.Part.{Part}
use Rattle.zone_response.specs.declared.response.Part.TheVariants as part
use Rattle.zone_response.specs.Responses.{negative_ttl, child_ds, ds_at, end_sets}
use Rattle.zone_response.specs.Sections.{sent, as_it_is}
use Rattle.zone_response.specs.Steps.{End, complete, referred, missing, outside, unfollowed, too_long, failed}
use Rattle.response_laws.proofs.OwnerSets.{AreOwners}
use Rattle.response_laws.proofs.Parts.{as_proof}
use Rattle.response_laws.proofs.SentSets.{IsSentSet, authority_part}

module _ (m : Sets) (zone : IsZone m) where
  -- ---- the sets

  sent_set : (p : Part) (n : Name) (t ttl : ℕ) (stored : RRset) → set_at m n t ≡ Some stored → authority_part (sent p ttl stored) ≡ p → IsSentSet m (authority_part (sent p ttl stored)) (sent p ttl stored)
  sent_set p n t ttl stored e same = subst (λ (p' : Part). IsSentSet m p' (sent p ttl stored)) (sym same) (record { name = n; record_type = t; stored = stored; stands = e; ttl = ttl; sent = refl })

  signed_part : (n : Name) (t ttl : ℕ) (stored : RRset) → set_at m n t ≡ Some stored → (t == NS) ≡ false → authority_part (sent part.Signed ttl stored) ≡ part.Signed
  signed_part n t ttl stored e other = ap (λ b. cond b part.Records part.Signed) (ap (λ u. u == NS) (zone.stored n t stored e).record_type ∙ other)

  signed_set : (n : Name) (t ttl : ℕ) (stored : RRset) → set_at m n t ≡ Some stored → (t == NS) ≡ false → IsSentSet m (authority_part (sent part.Signed ttl stored)) (sent part.Signed ttl stored)
  signed_set n t ttl stored e other = sent_set part.Signed n t ttl stored e (signed_part n t ttl stored e other)

  servers_set : (n : Name) (stored : RRset) → set_at m n NS ≡ Some stored → IsSentSet m (authority_part (as_it_is part.Records stored)) (as_it_is part.Records stored)
  servers_set n stored e = sent_set part.Records n NS stored.ttl stored e (ap (λ b. cond b part.Records part.Signed) (ap (λ u. u == NS) (zone.stored n NS stored e).record_type))

  -- ---- the sets of denial

  pub proof_is : (t : ℕ) → (t == NS) ≡ false → (ttl : ℕ) (proofs : List RRset) → AreOwners t m proofs → (s : RRset) → In s (map (as_proof ttl) proofs) → IsSentSet m (authority_part s) s
  proof_is t other ttl proofs owners s i =
      let r = In-from_map (as_proof ttl) s proofs i in
      subst (λ (v : RRset). IsSentSet m (authority_part v) v) r.2 (signed_set (lower r.0.owner) t (min r.0.ttl ttl) r.0 (owners r.0 r.1) other)

  -- ---- what precedes them

  -- the SOA of a negative response, or the sets of a referral
  pub front_is : (origin : Name) (soa : RRset) (e : End) → set_at m origin SOA ≡ Some soa → ((c : RRset) → e ≡ referred c → (n : Name) × (set_at m n NS ≡ Some c)) → (s : RRset) → In s (end_sets (ds_at m e) true soa e)
      → IsSentSet m (authority_part s) s
  front_is origin soa (missing x wildcard_name there) stands cut s (inl q) = subst (λ (v : RRset). IsSentSet m (authority_part v) v) q (signed_set origin SOA (negative_ttl soa) soa stands refl)
  front_is origin soa (missing x wildcard_name there) stands cut s (inr i) = absurd i
  front_is origin soa (referred c) stands cut s (inl q) = let n = cut c refl in subst (λ (v : RRset). IsSentSet m (authority_part v) v) q (servers_set n.0 c n.1)
  front_is origin soa (referred c) stands cut s (inr i) = by (child_ds m c) refl i
    where
      by : (o : Option RRset) → child_ds m c ≡ o → In s (map (as_it_is part.Signed) (option_to_list o)) → IsSentSet m (authority_part s) s
      by (Some d) e (inl q) = subst (λ (v : RRset). IsSentSet m (authority_part v) v) q (signed_set (lower c.owner) DS d.ttl d e refl)
      by (Some d) e (inr i) = absurd i
      by None e i = absurd i
  front_is origin soa complete stands cut s i = absurd i
  front_is origin soa (outside x) stands cut s i = absurd i
  front_is origin soa unfollowed stands cut s i = absurd i
  front_is origin soa too_long stands cut s i = absurd i
  front_is origin soa failed stands cut s i = absurd i
