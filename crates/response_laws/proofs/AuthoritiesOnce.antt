-- No set of an authority section repeats one that comes before it: sets of denial are of several owners, and no others
-- are of their types
use Rattle.std.proofs.Common.{◌≡◌, ℕ, Bool, true, false, cond, ◌&&◌, List, [], ◌∷◌, ◌++◌, map, refl, sym, ap, ◌∙◌, subst, inl, inr, true≢false, eqb-true}
use Rattle.std.specs.Prelude.{Option, Some, None, option_to_list, ◌==◌, fold}
use Rattle.std.proofs.lemmas.List.{map-append}
use Rattle.zone_proto.specs.Names.{Name, lower, same_name}
use Rattle.zone_proto.specs.Sets.{RRset}
use Rattle.zone_proto.specs.Types.{NS, SOA, DS}
use Rattle.zone_proto.proofs.Members.{In, In-from_map, none_passes}
use Rattle.zone_lookup.specs.Runs.{with_new}
use Rattle.zone_map.specs.Upserts.{is_denial_type}
use Rattle.zone_map.specs.Zones.{IsZone}
use Rattle.zone_response.specs.declared.response.Part.TheVariants as part
use Rattle.zone_response.specs.Denials.{same_owner, wildcard_proof, end_proof, with_wildcard_proof, proofs}
use Rattle.zone_response.specs.Queries.{Zone, Query}
use Rattle.zone_response.specs.Responses.{negative_ttl, child_ds, ds_at, end_sets}
use Rattle.zone_response.specs.Sections.{Sections, sent, as_it_is, part_for, is_alike}
use Rattle.zone_response.specs.Steps.{End, complete, referred, missing, outside, unfollowed, too_long, failed}
use Rattle.response_laws.specs.Repeats.{repeats}
use Rattle.response_laws.proofs.Leads.{sent_type}
use Rattle.response_laws.proofs.Once.{Once, once_both, unlike, once_after, Apart, apart_new}
use Rattle.response_laws.proofs.Parts.{path_of, as_proof, IsMadeOf}
use Rattle.response_laws.proofs.Said.{none_any, referred_stands}

-- ---- sets of denial

all_apart : (more sets : List RRset) → Apart same_owner [] sets → Apart same_owner [] (fold (with_new same_owner) sets more)
all_apart [] sets h = h
all_apart (s ∷ more) sets h = all_apart more (with_new same_owner sets s) (apart_new same_owner sets s h)

wildcards_apart : (z : Zone) (made : List Name) (sets : List RRset) → Apart same_owner [] sets → Apart same_owner [] (fold (with_wildcard_proof z) sets made)
wildcards_apart z [] sets h = h
wildcards_apart z (x ∷ made) sets h = wildcards_apart z made (with_wildcard_proof z sets x) (all_apart (wildcard_proof z x) sets h)

proofs_apart : (z : Zone) (ds : Option RRset) (made : List Name) (e : End) → Apart same_owner [] (proofs z ds made e)
proofs_apart z ds made e = all_apart (end_proof z ds e) (fold (with_wildcard_proof z) [] made) (wildcards_apart z made [] tt)

-- as they are sent
proofs_once : (ttl : ℕ) (before sets : List RRset) → Apart same_owner before sets → Once (map (as_proof ttl) before) (map (as_proof ttl) sets)
proofs_once ttl before [] h = tt
proofs_once ttl before (s ∷ sets) h =
    (none_any (repeats (as_proof ttl s)) (map (as_proof ttl) before) none, subst (λ l. Once l (map (as_proof ttl) sets)) (map-append (as_proof ttl) before (s ∷ [])) (proofs_once ttl (before ++ s ∷ []) sets h.1))
  where
    other : (y : RRset) → In y before → (b : Bool) → same_name y.owner s.owner ≡ b → (y.record_type == s.record_type) && b ≡ false
    other y i true e = absurd (none_passes (λ y. same_owner y s) y before h.0 i e)
    other y i false e = by (y.record_type == s.record_type)
      where
        by : (b : Bool) → b && false ≡ false
        by true = refl
        by false = refl

    none : (r : RRset) → In r (map (as_proof ttl) before) → repeats (as_proof ttl s) r ≡ false
    none r i =
        let v = In-from_map (as_proof ttl) r before i in
        subst (λ r. repeats (as_proof ttl s) r ≡ false) v.2 (unlike (as_proof ttl s) (as_proof ttl v.0) (other v.0 v.1 (same_name v.0.owner s.owner) refl))

-- ---- the others

other_type : (s r : RRset) → (r.record_type == s.record_type) ≡ false → is_alike s r ≡ false
other_type s r e = λ i. e i && same_name r.owner s.owner

module _ (z : Zone) (zone : IsZone z.sets) (q : Query) (r : Sections) (h : IsMadeOf z q r) where
  abbrev ends : End
  ends = (path_of z q).end

  -- the front of the section has no set of denial, and each once
  record IsFront (sets : List RRset) : Type 0 where
    once : Once [] sets
    plain : (s : RRset) → In s sets → is_denial_type s.record_type ≡ false

  none : IsFront []
  none = record { once = tt; plain = λ s i. absurd i }

  of_negative : IsFront (sent (part_for q.signed) (negative_ttl h.soa) h.soa ∷ [])
  of_negative = record { once = (refl, tt); plain = by }
    where
      by : (s : RRset) → In s (sent (part_for q.signed) (negative_ttl h.soa) h.soa ∷ []) → is_denial_type s.record_type ≡ false
      by s (inl e) =
          ap (λ (s : RRset). is_denial_type s.record_type) (sym e)
          ∙ ap is_denial_type (sent_type (part_for q.signed) (negative_ttl h.soa) h.soa ∙ (zone.stored z.origin SOA h.soa h.stands).record_type)
      by s (inr i) = absurd i

  of_referral : (c : RRset) → ends ≡ referred c → (signed : Bool) (ds : Option RRset) → child_ds z.sets c ≡ ds → IsFront (as_it_is part.Records c ∷ cond signed (map (as_it_is part.Signed) (option_to_list ds)) [])
  of_referral c e = by
    where
      servers : c.record_type ≡ NS
      servers = let n = referred_stands z zone q r h c e in (zone.stored n.0 NS c n.1).record_type

      digests : (d : RRset) → child_ds z.sets c ≡ Some d → d.record_type ≡ DS
      digests d f = (zone.stored (lower c.owner) DS d f).record_type

      of_child : (s : RRset) → as_it_is part.Records c ≡ s → is_denial_type s.record_type ≡ false
      of_child s e = ap (λ (s : RRset). is_denial_type s.record_type) (sym e) ∙ ap is_denial_type servers

      alone : (s : RRset) → In s (as_it_is part.Records c ∷ []) → is_denial_type s.record_type ≡ false
      alone s (inl e) = of_child s e
      alone s (inr i) = absurd i

      both : (d : RRset) → child_ds z.sets c ≡ Some d → (s : RRset) → In s (as_it_is part.Records c ∷ as_it_is part.Signed d ∷ []) → is_denial_type s.record_type ≡ false
      both d f s (inl e) = of_child s e
      both d f s (inr (inl e)) = ap (λ (s : RRset). is_denial_type s.record_type) (sym e) ∙ ap is_denial_type (digests d f)
      both d f s (inr (inr i)) = absurd i

      by : (signed : Bool) (ds : Option RRset) → child_ds z.sets c ≡ ds → IsFront (as_it_is part.Records c ∷ cond signed (map (as_it_is part.Signed) (option_to_list ds)) [])
      by true None f = record { once = (refl, tt); plain = alone }
      by false ds f = record { once = (refl, tt); plain = alone }
      by true (Some d) f =
          record {
            once = (
              refl,
              (
                none_any (repeats (as_it_is part.Signed d)) (as_it_is part.Records c ∷ [])
                    (λ s i. unlike (as_it_is part.Signed d) s (other_type (as_it_is part.Signed d) s (other s i))),
                tt,
              ),
            );
            plain = both d f;
          }
        where
          other : (s : RRset) → In s (as_it_is part.Records c ∷ []) → (s.record_type == d.record_type) ≡ false
          other s (inl e) = (λ i. (sym (ap (λ (s : RRset). s.record_type) e) ∙ servers) i == digests d f i)
          other s (inr i) = absurd i

  front : (e : End) → ends ≡ e → IsFront (end_sets (ds_at z.sets e) q.signed h.soa e)
  front (missing x wildcard_name there) e = of_negative
  front (referred c) e = of_referral c e q.signed (child_ds z.sets c) refl
  front complete e = none
  front (outside x) e = none
  front unfollowed e = none
  front too_long e = none
  front failed e = none

  -- ---- the section

  proved : (signed : Bool) → q.signed ≡ signed → Apart same_owner [] h.proofs
  proved true e = subst (Apart same_owner []) (h.given e) (proofs_apart z (ds_at z.sets ends) (path_of z q).made ends)
  proved false e = subst (Apart same_owner []) (sym (h.unproved e)) tt

  pub authorities_once : Once [] (end_sets (ds_at z.sets (path_of z q).end) q.signed h.soa (path_of z q).end ++ map (as_proof (negative_ttl h.soa)) h.proofs)
  authorities_once =
      let f = front ends refl in
      once_both [] (end_sets (ds_at z.sets ends) q.signed h.soa ends) (map (as_proof (negative_ttl h.soa)) h.proofs) f.once
      (once_after (end_sets (ds_at z.sets ends) q.signed h.soa ends) (map (as_proof (negative_ttl h.soa)) h.proofs) (proofs_once (negative_ttl h.soa) [] h.proofs (proved q.signed refl)) (λ s k i j. by f.plain s k i j))
    where
      differ : (s k : RRset) → is_denial_type s.record_type ≡ true → is_denial_type k.record_type ≡ false → (b : Bool) → (k.record_type == s.record_type) ≡ b → b ≡ false
      differ s k d p true e = absurd (true≢false (sym d ∙ ap is_denial_type (sym (eqb-true k.record_type s.record_type e)) ∙ p))
      differ s k d p false e = refl

      by : ((k : RRset) → In k (end_sets (ds_at z.sets ends) q.signed h.soa ends) → is_denial_type k.record_type ≡ false) → (s k : RRset) → In s (map (as_proof (negative_ttl h.soa)) h.proofs) → In k (end_sets (ds_at z.sets ends) q.signed h.soa ends) → is_alike s k ≡ false
      by plain s k i j =
          let v = In-from_map (as_proof (negative_ttl h.soa)) s h.proofs i in
          other_type s k (differ s k (ap (λ (s : RRset). is_denial_type s.record_type) (sym v.2) ∙ (h.denials v.0 v.1).denial) (plain k j) (k.record_type == s.record_type) refl)
