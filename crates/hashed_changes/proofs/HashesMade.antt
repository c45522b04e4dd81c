-- The sets that take the place of others are those of the zone after the change
use Rattle.std.proofs.Common.{◌≡◌, ℕ, Bool, true, false, not, ◌==◌, ◌&&◌, List, ◌∷◌, sym, ap, ◌∙◌, subst}
use Rattle.std.specs.Prelude.{Option, None, filter_map, option_map, option_to_list, if◌then◌else◌}
use Rattle.std.specs.Cmp.{both_ways}
use Rattle.zone_proto.specs.declared.rdata.denial.NSEC3PARAM.{NSEC3PARAM as Nsec3Parameters}
use Rattle.zone_proto.specs.declared.rr_key.RrKey.{RrKey}
use Rattle.zone_proto.specs.Names.{Name, name_cmp}
use Rattle.zone_proto.specs.Sets.{RRset}
use Rattle.zone_proto.specs.Types.{NSEC3}
use Rattle.zone_proto.proofs.Members.{In, In-Contains, In-flat_map, In-from_flat_map}
use Rattle.zone_map.specs.Zones.{Sets, last_at, owners}
use Rattle.zone_denial.specs.Nsec3Sets.{nsec3_set_at}
use Rattle.zone_denial.proofs.ReadBack.{filter_same}
use Rattle.zone_trimming.specs.Trimming.{trimmed_set}
use Rattle.hashed_changes.specs.Among.{is_among}
use Rattle.hashed_changes.specs.declared.places.Affected.{Affected}
use Rattle.hashed_changes.specs.declared.renewals.Renewal.{Renewal}
use Rattle.hashed_changes.specs.AffectedPlaces.{AreAffected}
use Rattle.hashed_changes.specs.Around.{nearest_around}
use Rattle.hashed_changes.specs.Places.{owners_of}
use Rattle.hashed_changes.specs.Renewal.{hashed_owners, owners_besides, renewed, with_nearest, with_all_nearest}
use Rattle.hashed_changes.specs.Renewals.{AreRight, entry_of, owners_made}
use Rattle.hashed_changes.specs.Standing.{IsStanding}
use Rattle.hashed_changes.proofs.AffectedPlaces.{same_owners}
use Rattle.hashed_changes.proofs.Counted.{among_from}
use Rattle.hashed_changes.proofs.MadeSets.{last_at-made, none_made}
use Rattle.hashed_changes.proofs.Names.{among_in}

-- the nearest owners are the same where the same owners are passed over
module _ (m : Sets) (some others : List Name) (same : (o : Name) → is_among some o ≡ is_among others o) where
  same_besides : owners_besides m some ≡ owners_besides m others
  same_besides = filter_same (λ o. not (is_among some o)) (λ o. not (is_among others o)) (owners m NSEC3) (λ o i. ap not (same o))

  same_with : (o : Name) → with_nearest m some o ≡ with_nearest m others o
  same_with o = ap (λ (os : List Name). o ∷ option_to_list (nearest_around name_cmp os o)) same_besides

  all_in : (o : Name) → is_among (with_all_nearest m some) o ≡ true → is_among (with_all_nearest m others) o ≡ true
  all_in o e =
      let r = In-from_flat_map (with_nearest m some) o some (among_in (with_all_nearest m some) o e) in
      among_from (with_all_nearest m others) o
      (In-flat_map (with_nearest m others) r.0 o others (among_in others r.0 (sym (same r.0) ∙ among_from some r.0 r.1)) (subst (λ (os : List Name). In o os) (same_with r.0) r.2))

same_nearest : (m : Sets) (some others : List Name) → ((o : Name) → is_among some o ≡ is_among others o) → (o : Name) → is_among (with_all_nearest m some) o ≡ is_among (with_all_nearest m others) o
same_nearest m some others same o =
    both_ways (is_among (with_all_nearest m some) o) (is_among (with_all_nearest m others) o) (all_in m some others same o) (all_in m others some (λ x. sym (same x)) o)

module _ (origin : Name) (zone : Sets) (hash : Name → Option (List ℕ)) (opt_out : Bool) (names lent : List Name) (affected slice : List Affected) (is_names : lent ≡ names) (is_affected : slice ≡ affected) (are : AreAffected origin zone hash opt_out lent affected) where
  pub are_names : AreAffected origin zone hash opt_out names slice
  are_names = subst (λ (places : List Affected). AreAffected origin zone hash opt_out names places) (sym is_affected) (subst (λ (ns : List Name). AreAffected origin zone hash opt_out ns affected) is_names are)

  pub owners_renewed : (made held : List Renewal) (owners : List Name) → held ≡ made → owners ≡ owners_made held → owners_made made ≡ with_all_nearest zone (owners_of slice)
      → (o : Name) → is_among owners o ≡ is_among (renewed hash origin zone names) o
  owners_renewed made held owners h e f o =
      ap (λ (os : List Name). is_among os o) (e ∙ ap owners_made h ∙ f)
      ∙ same_nearest zone (owners_of slice) (hashed_owners hash origin names) (same_owners origin zone hash opt_out names slice are_names) o

pub sets_made : (origin : Name) (old zone : Sets) (keys : List RrKey) (names : List Name) (hash : Name → Option (List ℕ)) (parameters : Nsec3Parameters) (ttl serial : ℕ) (affected : List Affected) (made lent held : List Renewal) (entries : Sets) (owners : List Name)
    → IsStanding origin old zone keys names hash parameters ttl serial → AreAffected origin zone hash parameters.opt_out names affected → AreRight origin zone affected made
    → lent ≡ made → entries ≡ filter_map (entry_of parameters ttl serial) lent → held ≡ made → owners ≡ owners_made held
    → (o : Name) (t : ℕ) (s trimmed : Option RRset) → s ≡ last_at entries o t → trimmed ≡ option_map trimmed_set s → trimmed ≡ (if (t == NSEC3) && is_among owners o then option_map trimmed_set (nsec3_set_at origin zone hash parameters ttl serial o) else None)
sets_made origin old zone keys names hash parameters ttl serial affected made lent held entries owners st are right l e h w o t s trimmed k turned =
    turned
    ∙ ap (option_map trimmed_set) k
    ∙ ap (λ (es : Sets). option_map trimmed_set (last_at es o t)) (e ∙ ap (filter_map (entry_of parameters ttl serial)) l)
    ∙ last_at-made trimmed_set parameters ttl serial (λ x. option_map trimmed_set (nsec3_set_at origin zone hash parameters ttl serial x)) made (λ r i. right r (In-Contains r made i) old keys names hash parameters ttl serial st are) o t
    ∙ ap (λ (os : List Name). if (t == NSEC3) && is_among os o then option_map trimmed_set (nsec3_set_at origin zone hash parameters ttl serial o) else None) (sym (w ∙ ap owners_made h))

pub others_made : (parameters : Nsec3Parameters) (ttl serial : ℕ) (made lent held : List Renewal) (entries : Sets) (owners : List Name)
    → lent ≡ made → entries ≡ filter_map (entry_of parameters ttl serial) lent → held ≡ made → owners ≡ owners_made held
    → (o : Name) (t : ℕ) (s trimmed : Option RRset) → s ≡ last_at entries o t → trimmed ≡ option_map trimmed_set s → ((t == NSEC3) && is_among owners o) ≡ false → trimmed ≡ None
others_made parameters ttl serial made lent held entries owners l e h w o t s trimmed k turned none =
    turned
    ∙ ap (option_map trimmed_set)
    (k
    ∙ ap (λ (es : Sets). last_at es o t) (e ∙ ap (filter_map (entry_of parameters ttl serial)) l)
    ∙ none_made parameters ttl serial made o t (ap (λ (os : List Name). (t == NSEC3) && is_among os o) (sym (w ∙ ap owners_made h)) ∙ none))
