-- A zone whose NSEC sets are its own has its own again once it is changed in place
use Rattle.std.proofs.Common.{◌≡◌, ◌==◌, ℕ, Bool, true, false, cond, List, refl, sym, ap, ◌∙◌}
use Rattle.std.specs.Prelude.{Option, Some, None, is_some, min, option_and_then, option_map}
use Rattle.std.specs.Option.{option_map_or}
use Rattle.zone_proto.specs.declared.rdata.start_of_authority.SOA.{SOA as SoaData}
use Rattle.zone_proto.specs.declared.record.Record.{Record}
use Rattle.zone_proto.specs.Names.{Name}
use Rattle.zone_proto.specs.Sets.{RRset}
use Rattle.zone_proto.specs.Types.{NS, SOA, NSEC}
use Rattle.zone_lookup.specs.StartOfAuthority.{first_soa, serial}
use Rattle.zone_map.specs.Zones.{Sets, set_at, owns}
use Rattle.zone_denial.specs.Authority.{is_authoritative}
use Rattle.zone_denial.specs.NsecSets.{nsec_set, nsec_set_at}
use Rattle.zone_trimming.specs.Trimming.{trimmed_at, trimmed_set}
use Rattle.zone_planner.specs.Plans.{denial_ttl}
use Rattle.chain_changes.proofs.Changes.{changes_told}
use Rattle.chain_changes.proofs.Local.{authority_is_local, denials_are_local}
use Rattle.chain_changes.proofs.RenewedCircle.{all_made}
use Rattle.signed_changes.specs.Renewing.{changed_keys}
use Rattle.signed_changes.proofs.ClosedChain.{changed_is_nsec_chain}
use Rattle.signed_in_place.specs.ChainLaws.{OwnChainStays}

abbrev records_of : Option RRset → Option (List Record)
records_of o = option_map (λ (s : RRset). s.records) o

-- the records of a set of denial are those of each serial
any_serial : (origin : Name) (m : Sets) (ttl s r : ℕ) (n : Name) → records_of (trimmed_at (nsec_set_at origin m ttl s) n NSEC) ≡ records_of (trimmed_at (nsec_set_at origin m ttl r) n NSEC)
any_serial origin m ttl s r n = by (is_authoritative origin m NSEC n)
  where
    by : (b : Bool) → records_of (option_map trimmed_set (cond b (Some (nsec_set origin m ttl s n)) None)) ≡ records_of (option_map trimmed_set (cond b (Some (nsec_set origin m ttl r n)) None))
    by true = refl
    by false = refl

-- zones whose names own the same types have the same NSEC sets
module _ (origin : Name) (m after : Sets) (same : (n : Name) (t : ℕ) → (t == NSEC) ≡ false → owns after n t ≡ owns m n t) where
  unmoved : (n : Name) → is_authoritative origin after NSEC n ≡ is_authoritative origin m NSEC n
  unmoved n = authority_is_local origin m after n (same n) (λ a up over. same a NS refl)

  same_sets : (n : Name) (ttl s t : ℕ) → nsec_set_at origin after ttl s n t ≡ nsec_set_at origin m ttl s n t
  same_sets n ttl s t = denials_are_local origin m after n (same n) (λ a up over. same a NS refl) (λ x d l. absurd (d (unmoved x))) ttl s t

-- the TTL of denials and the serial are told by the SOA set
abbrev ttl_by : Option RRset → ℕ
ttl_by o = min (option_map_or (λ (a : SoaData). a.minimum) (option_and_then (λ (s : RRset). first_soa s.records) o) 0) (option_map_or (λ (s : RRset). s.ttl) o 0)

same_ttl : (origin : Name) (m after : Sets) → set_at after origin SOA ≡ set_at m origin SOA → denial_ttl m origin ≡ denial_ttl after origin
same_ttl origin m after e = sym (ap ttl_by e)

pub own_chain_stays : OwnChainStays
own_chain_stays origin keys request names old next new before after prepared zone stands low soa changed kept ttl own made =
    let t = denial_ttl next origin in
    let s = serial next origin in
    let stood = λ (n : Name).
    ap records_of (kept n)
    ∙ own n
    ∙ ap (λ (u : ℕ). records_of (trimmed_at (nsec_set_at origin old u (serial old origin)) n NSEC)) ttl
    ∙ any_serial origin old t (serial old origin) s n in
    let told = changes_told names old next before after changed in
    let same = λ (n : Name) (u : ℕ) (h : (u == NSEC) ≡ false). ap is_some (made.data' n u h) in (
      λ n. all_made trimmed_set origin old next new (changed_keys before after) t s told stood made.renewed n
          ∙ sym (ap (λ (o : Option RRset). records_of (option_map trimmed_set o)) (same_sets origin next new same n t s NSEC))
          ∙ ap (λ (u : ℕ). records_of (trimmed_at (nsec_set_at origin new u s) n NSEC)) (same_ttl origin next new (made.data' origin SOA refl))
          ∙ any_serial origin new (denial_ttl new origin) s (serial new origin) n,
      changed_is_nsec_chain origin names old next new before after t s zone stands low soa changed stood made.renewed,
    )
