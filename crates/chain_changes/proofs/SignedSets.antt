-- Sets of a chain whose lists have RRSIG: a zone of such sets has a chain of them, and one that is made with a trimmed list is one of them
use Rattle.std.proofs.Common.{◌≡◌, ℕ, Bool, true, false, not, ◌&&◌, cond, List, [], length, map, refl, sym, ap, ◌∙◌, subst, inl}
use Rattle.std.specs.Prelude.{Option, Some, None, is_some, option_map}
use Rattle.std.specs.List.{Contains}
use Rattle.zone_proto.specs.declared.record.Record.{Record}
use Rattle.zone_proto.specs.Names.{Name, lower, is_at_or_above}
use Rattle.zone_proto.specs.Sets.{RRset}
use Rattle.zone_proto.specs.Types.{SOA, RRSIG, NSEC}
use Rattle.zone_proto.proofs.Members.{and_left}
use Rattle.zone_proto.proofs.Names.NameTree.{is_at_or_above_complete}
use Rattle.zone_map.specs.Zones.{Sets, IsZone, set_at, owns}
use Rattle.zone_denial.specs.Authority.{is_authoritative, is_below_cut, owns_besides}
use Rattle.zone_denial.specs.Chains.{IsInNsecChain}
use Rattle.zone_denial.specs.NsecCircle.{first_nsec}
use Rattle.zone_denial.specs.NsecSets.{nsec_set, nsec_set_at}
use Rattle.zone_denial.specs.TypeLists.{nsec_types}
use Rattle.zone_denial.proofs.Chain.NsecSecured.{same_next, same_types}
use Rattle.zone_denial.proofs.Names.AuthoritativeNames.{OwnSameBesides, same_authority, authoritative_from, besides_from, origin_uncut}
use Rattle.zone_trimming.specs.Trimming.{trimmed_at, trimmed_set}
use Rattle.zone_trimming.proofs.TrimmedLists.{left, same_left}
use Rattle.chain_changes.specs.Renewal.{nsec_records}
use Rattle.chain_changes.specs.SignedChains.{IsSignedNsecChain, TrimmedIsSigned}
use Rattle.chain_changes.proofs.ListsMade.{low_next, next_is, left_right, left_own, left_signed, left_hashed}
use Rattle.chain_changes.proofs.RenewedCircle.{some_mapped}

abbrev pub records_of : Option RRset → Option (List Record)
records_of o = option_map (λ (s : RRset). s.records) o

-- the set of a name is one of the chain, and its list has RRSIG
abbrev pub IsSignedSet : Name → Sets → Name → RRset → Type 0
IsSignedSet origin m n s = (r : IsInNsecChain origin m n s) × Contains r.types RRSIG

-- who owns NSEC in a zone is whom it is authoritative for
abbrev pub OwnsByAuthority : Name → Sets → Type 0
OwnsByAuthority origin m = (n : Name) → owns m n NSEC ≡ is_authoritative origin m NSEC n

-- ---- a zone of such sets

same_list : (types listed : List ℕ) → Some types ≡ Some listed → types ≡ listed
same_list types listed e = cc

pub signed_from : (origin : Name) (m : Sets) → IsZone m → owns m origin SOA ≡ true → OwnsByAuthority origin m
    → ((n : Name) (s : RRset) → set_at m n NSEC ≡ Some s → IsSignedSet origin m n s) → IsSignedNsecChain origin m
signed_from origin m zone soa held each = record {
  chain = record {
    zone = zone;
    begins =
        held origin
        ∙ authoritative_from origin m NSEC origin (is_at_or_above_complete origin origin ([], refl)) (besides_from m NSEC origin SOA refl soa) (origin_uncut origin m);
    authoritative = λ n k. sym (held n) ∙ k;
    complete = λ n k. inl (held n ∙ k);
    each = λ n s e. (each n s e).0;
  };
  complete = λ n k. held n ∙ k;
  signed = λ n s types e f. let r = each n s e in subst (λ xs. Contains xs RRSIG) (same_list r.0.types types (sym r.0.listed ∙ f)) r.1;
}

-- ---- a set that is made for a zone, in one whose names own the same other types

module _ (origin : Name) (m after : Sets) (ttl serial : ℕ) (zone : IsZone m) (low : lower origin ≡ origin) (soa : owns m origin SOA ≡ true) (same : OwnSameBesides NSEC m after) where
  abbrev pub IsMade : Name → Type 0
  IsMade n = nsec_records after n ≡ records_of (trimmed_at (nsec_set_at origin m ttl serial) n NSEC)

  -- a name owns it where the zone is authoritative for the name
  pub made_owned : (n : Name) → IsMade n → owns after n NSEC ≡ is_authoritative origin m NSEC n
  made_owned n made = sym (some_mapped (λ (s : RRset). s.records) (set_at after n NSEC)) ∙ ap is_some made ∙ by (is_authoritative origin m NSEC n)
    where
      by : (b : Bool) → is_some (records_of (option_map trimmed_set (cond b (Some (nsec_set origin m ttl serial n)) None))) ≡ b
      by true = refl
      by false = refl

  module _ (held : OwnsByAuthority origin after) (n : Name) (s : RRset) (there : set_at after n NSEC ≡ Some s) (made : IsMade n) where
    on : owns after n NSEC ≡ true
    on = ap is_some there

    inside : is_at_or_above origin n ≡ true
    inside = and_left (is_at_or_above origin n) (owns_besides after NSEC n && not (is_below_cut origin after n)) (sym (held n) ∙ on)

    starts : owns after origin SOA ≡ true
    starts = same origin SOA refl ∙ soa

    records : s.records ≡ (trimmed_set (nsec_set origin m ttl serial n)).records
    records = by (is_authoritative origin m NSEC n) (sym (ap records_of there) ∙ made)
      where
        by : (b : Bool) → Some s.records ≡ records_of (option_map trimmed_set (cond b (Some (nsec_set origin m ttl serial n)) None)) → s.records ≡ (trimmed_set (nsec_set origin m ttl serial n)).records
        by true q = cc
        by false q = absurd cc

    pub made_signed : IsSignedSet origin after n s
    made_signed = (
      record {
        single = ap length records;
        next =
            ap (λ rs. option_map (λ a. lower a.next_domain_name) (first_nsec rs)) records
            ∙ ap Some (low_next origin m zone low n ∙ sym (same_next origin m after same n) ∙ next_is origin after held n);
        types = left (nsec_types after n);
        listed =
            ap (λ rs. option_map (λ a. map (λ t. t.0) a.types) (first_nsec rs)) records
            ∙ ap Some (same_left (nsec_types m n) ∙ ap left (sym (same_types origin m after same n)));
        right = left_right origin after starts n inside on;
        own = λ d. left_own origin after starts n inside on;
        hashed = left_hashed origin after starts n inside on;
      },
      left_signed origin after starts n inside on,
    )

-- so a zone of which all are made so has a chain of them
pub trimmed_is_signed : TrimmedIsSigned
trimmed_is_signed origin m after ttl serial zone stands low soa h =
    let held = λ (n : Name). made_owned origin m after ttl serial zone low soa h.others n (h.denials n) ∙ sym (same_authority NSEC refl origin m after h.others n) in
    signed_from origin after stands (h.others origin SOA refl ∙ soa) held (λ n s e. made_signed origin m after ttl serial zone low soa h.others held n s e (h.denials n))
