-- The sets of an additional section are address sets of the zone
use Rattle.std.proofs.Common.{◌≡◌, Bool, true, false, cond, List, [], ◌∷◌, map, refl, sym, ◌⊎◌, inl, inr}
use Rattle.std.specs.Prelude.{Option, Some, None, ◌==◌}
use Rattle.std.specs.Option.{option_map_or}
use Rattle.zone_proto.specs.Names.{Name, lower, is_at_or_above}
use Rattle.zone_proto.specs.Sets.{RRset}
use Rattle.zone_proto.specs.Types.{A, AAAA, NS}
use Rattle.zone_proto.proofs.Members.{In, In-from_map, In-from_filter_map, In-from_flat_map}
use Rattle.zone_map.specs.Zones.{set_at}
use Rattle.zone_lookup.specs.Flattening.{last_set}
use Rattle.zone_response.specs.declared.response.Part.{Part}
use Rattle.zone_response.specs.declared.response.Part.TheVariants as part
use Rattle.zone_response.specs.Additional.{hosts, addresses, diverted_host, host_sets, beside, sibling_sets}
use Rattle.zone_response.specs.Queries.{Inquiry}
use Rattle.zone_response.specs.Responses.{additional_sets}
use Rattle.zone_response.specs.Sections.{as_it_is, part_for}
use Rattle.zone_response.specs.Steps.{End, complete, referred, missing, outside, unfollowed, too_long, failed}
use Rattle.zone_response.specs.Descent.{Diversion, cut, renaming, diversion}
use Rattle.response_laws.specs.Contents.{IsHelpful}

module _ (q : Inquiry) (s : RRset) where
  of_addresses : (h : Name) (p : Part) → (p ≡ part_for q.signed) ⊎ (p ≡ part.Records) → In s (map (as_it_is p) (addresses q.sets h)) → IsHelpful q s
  of_addresses h p goes i =
      let v = In-from_map (as_it_is p) s (addresses q.sets h) i in
      let t = In-from_filter_map (set_at q.sets h) v.0 (A ∷ AAAA ∷ []) v.1 in
      record { name = h; record_type = t.0; stored = v.0; stands = t.2; part' = p; goes_out = goes; sent = sym v.2 }

  of_turned : (below : Bool) (h : Name) (o : Option Diversion) → In s (diverted_host q.sets q.signed below h o) → IsHelpful q s
  of_turned below h None i = of_addresses h (part_for q.signed) (inl refl) i
  of_turned true h (Some (cut c)) i = of_addresses h part.Records (inr refl) i
  of_turned false h (Some (cut c)) i = absurd i
  of_turned below h (Some (renaming d)) i = absurd i

  of_host : (below : Bool) (h : Name) → In s (host_sets q.origin q.sets q.signed below h) → IsHelpful q s
  of_host below h = by (is_at_or_above q.origin h)
    where
      by : (b : Bool) → In s (cond b (diverted_host q.sets q.signed below h (diversion q.origin q.sets h A)) []) → IsHelpful q s
      by true i = of_turned below h (diversion q.origin q.sets h A) i
      by false i = absurd i

  of_sibling : (child h : Name) → In s (sibling_sets q.origin q.sets q.signed child h) → IsHelpful q s
  of_sibling child h = by (is_at_or_above child h)
    where
      by : (b : Bool) → In s (cond b [] (host_sets q.origin q.sets q.signed true h)) → IsHelpful q s
      by true i = absurd i
      by false i = of_host true h i

  pub helpful : (answers : List RRset) (e : End) → In s (additional_sets q answers e) → IsHelpful q s
  helpful answers complete i = of (last_set answers) i
    where
      of : (o : Option RRset) → In s (option_map_or (beside q.origin q.sets q.signed) o []) → IsHelpful q s
      of None i = absurd i
      of (Some v) i = let h = In-from_flat_map (host_sets q.origin q.sets q.signed (v.record_type == NS)) s (hosts v) i in of_host (v.record_type == NS) h.0 h.2
  helpful answers (referred c) i = let h = In-from_flat_map (sibling_sets q.origin q.sets q.signed (lower c.owner)) s (hosts c) i in of_sibling (lower c.owner) h.0 h.2
  helpful answers (missing x wildcard_name there) i = absurd i
  helpful answers (outside x) i = absurd i
  helpful answers unfollowed i = absurd i
  helpful answers too_long i = absurd i
  helpful answers failed i = absurd i
