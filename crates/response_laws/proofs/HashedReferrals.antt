-- What the NSEC3 records of a referral prove of the child
use Rattle.std.proofs.Common.{◌≡◌, ℕ, Bool, true, false, List, [], refl, sym, ap, ◌∙◌, subst, true≢false, ◌⊎◌, inl, inr}
use Rattle.std.specs.Prelude.{Option, Some, None, is_some}
use Rattle.zone_proto.specs.declared.rdata.denial.NSEC3PARAM.{NSEC3PARAM as Nsec3Parameters}
use Rattle.zone_proto.specs.Names.{Name, lower, IsAbove, wildcard_under}
use Rattle.zone_proto.specs.Sets.{RRset}
use Rattle.zone_proto.specs.Types.{NS, SOA, DS}
use Rattle.zone_proto.proofs.Members.{In, or_left, or_right}
use Rattle.zone_proto.proofs.Names.NameTree.{is_at_or_above_sound}
use Rattle.zone_proto.proofs.Names.Tree.{above_cases}
use Rattle.zone_map.specs.Zones.{Sets, owns, IsZone}
use Rattle.zone_denial.proofs.Chains.Nsec3Names.{is_named, named_in, IsEnclosed}
use Rattle.zone_denial.proofs.Names.ExistingAncestors.{exists_from}
use Rattle.denial_validation.specs.Nsec3Proofs.{is_covered, proves_opted_out, shows_unsigned_delegation}
use Rattle.denial_validation.specs.Nsec3Records.{Nsec3Record}
use Rattle.denial_laws.specs.Nsec3Scope.{read_nsec3_sets, AreNsec3OfZone}
use Rattle.denial_laws.proofs.Chains.Nsec3Readings.{record_of}
use Rattle.zone_response.specs.declared.response.Part.TheVariants as part
use Rattle.zone_response.specs.Denials.{proofs}
use Rattle.zone_response.specs.HashedDenials.{present_sets}
use Rattle.zone_response.specs.Queries.{Zone, Query}
use Rattle.zone_response.specs.Responses.{child_ds, ds_at}
use Rattle.zone_response.specs.Sections.{Sections}
use Rattle.zone_response.specs.Steps.{referred}
use Rattle.response_laws.specs.HashedSayings.{zone_hash, DeniesByNsec3, HashesDistinctly, shown_nsec3, IsHashedUnsigned}
use Rattle.response_laws.specs.ProvedSayings.{HasAuthority, IsProvedReferral}
use Rattle.response_laws.specs.Sayings.{referral, saying}
use Rattle.response_laws.proofs.HashedNames.{plain_under}
use Rattle.response_laws.proofs.HashedParts.{zone_owner, of_child}
use Rattle.response_laws.proofs.HashedProved.{records_proved, shown_of, hashed_name, there_on}
use Rattle.response_laws.proofs.HashedShown.{IsEncloserShown, own_matched, encloser_matched}
use Rattle.response_laws.proofs.HashedSummed.{sum_of_delegation, sum_of_digest}
use Rattle.response_laws.proofs.HashedTold.{IsHashedName, away, enclosed, not_handed, no_encloser, own_delegates, opted_out_is}
use Rattle.response_laws.proofs.LentSets.{owns_kept}
use Rattle.response_laws.proofs.Parts.{path_of, IsMadeOf}
use Rattle.response_laws.proofs.SaidNames.{IsCut, reached_cut, IsReferralTo, referral_of}

module _ (z : Zone) (parameters : Nsec3Parameters) (q : Query) (r : Sections) (d : DeniesByNsec3 z parameters) (signed : q.signed ≡ true) (h : IsMadeOf z q r) where
  abbrev o : Name
  o = z.origin

  -- the sets that deny
  abbrev m : Sets
  m = z.denials

  abbrev hash : Name → Option (List ℕ)
  hash = zone_hash z parameters

  abbrev zone : IsZone z.sets
  zone = d.zone

  abbrev rs : List Nsec3Record
  rs = shown_nsec3 r

  -- a child without DS, which no SOA shows to be an apex
  module _ (c : RRset) (end : (path_of z q).end ≡ referred c) (unsigned : child_ds z.sets c ≡ None) (k : IsCut z q d.top.no_dname c) (no_apex : owns z.sets (lower c.owner) SOA ≡ false) (apart : HashesDistinctly z parameters d.names (lower c.owner)) where
    abbrev child : Name
    child = lower c.owner

    abbrev j : IsHashedName o z.sets m hash parameters d.names child
    j = hashed_name z parameters q r d signed h child k.reached apart

    abbrev of_zone : AreNsec3OfZone m rs
    of_zone = records_proved z parameters q r d signed h

    abbrev sets : List RRset
    sets = present_sets o m (zone_owner z parameters) child

    among : (s : RRset) → In s sets → In s h.proofs
    among =
        of_child z d.chain.zone parameters d.flag d.kind (path_of z q).made c h.proofs
        (subst (λ ds. proofs z ds (path_of z q).made (referred c) ≡ h.proofs) unsigned (subst (λ e. proofs z (ds_at z.sets e) (path_of z q).made e ≡ h.proofs) end (h.given signed)))

    ns : owns z.sets child NS ≡ true
    ns = ap is_some k.stands

    -- it is below the origin, as NS at the origin is beside SOA
    under : IsAbove o child
    under = by (above_cases o child (is_at_or_above_sound o child k.reached.inside))
      where
        by : (o ≡ child) ⊎ IsAbove o child → IsAbove o child
        by (inl e) = absurd (true≢false (sym (d.top.unreferred child ([], e) ns) ∙ no_apex))
        by (inr u) = u

    proved_by : (b : Bool) → is_named d.names child ≡ b → IsHashedUnsigned z parameters r child
    proved_by true on = record {
      proved = or_left (shows_unsigned_delegation o hash rs child) (proves_opted_out o hash rs child) shows;
      call_concludes = sum_of_delegation o hash rs child DS (not_handed j rs of_zone) (no_encloser j rs of_zone i shown (λ r. r.opt_out) (λ e. true))
          (no_encloser j rs of_zone i shown (λ r. true) (λ e. is_covered o hash rs (wildcard_under e))) shows;
      none = record { below = under; delegated = ns; unsigned = ap is_some unsigned; no_apex = no_apex };
    }
      where
        i : In child d.names
        i = named_in d.names child on

        shown : In (record_of j.zone j.apart child) rs
        shown = shown_of z parameters q r d signed h sets among (record_of j.zone j.apart child) (own_matched j.zone j.apart i)

        shows : shows_unsigned_delegation o hash rs child ≡ true
        shows = own_delegates j rs of_zone i shown under (owns_kept z d.denials child NS refl ∙ ns) (owns_kept z d.denials child DS refl ∙ ap is_some unsigned) (owns_kept z d.denials child SOA refl ∙ no_apex)
    proved_by false off = record {
      proved = or_right (shows_unsigned_delegation o hash rs child) (proves_opted_out o hash rs child) out;
      call_concludes = sum_of_digest o hash rs child (not_handed j rs of_zone) out;
      none = record { below = under; delegated = ns; unsigned = ap is_some unsigned; no_apex = no_apex };
    }
      where
        opts : parameters.opt_out ≡ true
        opts = by parameters.opt_out refl
          where
            by : (b : Bool) → parameters.opt_out ≡ b → b ≡ true
            by true f = refl
            by false f = absurd (true≢false (sym (there_on z parameters q r d signed h child k.reached.inside j.reached.uncut (plain_under m child j.reached.no_dname) f (exists_from z.sets child child NS ns refl ([], refl))) ∙ off))

        n : (a : Name) × (c : Name) × IsEnclosed d.names child a c
        n = enclosed j off

        encloser_there : IsEncloserShown j.zone j.apart n.0 n.1 (read_nsec3_sets sets)
        encloser_there = encloser_matched j.zone j.apart (away j child off) n.0 n.1 n.2

        out : proves_opted_out o hash rs child ≡ true
        out =
            opted_out_is j rs of_zone off n.0 n.1 n.2
            (record {
              encloser = shown_of z parameters q r d signed h sets among (record_of j.zone j.apart n.0) encloser_there.encloser;
              cover = encloser_there.cover;
              is_cover = encloser_there.is_cover;
              has_cover = shown_of z parameters q r d signed h sets among (record_of j.zone j.apart encloser_there.cover) encloser_there.has_cover;
            })
            ∙ opts

  pub referral_said : (c : Name) → saying q r ≡ Some (referral c) → IsProvedReferral z r (λ n. HashesDistinctly z parameters d.names n → IsHashedUnsigned z parameters r n) c
  referral_said c e = subst (IsProvedReferral z r Unsigned) k.child (record { servers = k.servers cut.stands; keys = λ no_apex. keys no_apex k.keys })
    where
      Unsigned : Name → Type 0
      Unsigned n = HashesDistinctly z parameters d.names n → IsHashedUnsigned z parameters r n

      k : IsReferralTo z q r zone signed h c
      k = referral_of z q r zone signed h c e

      cut : IsCut z q d.top.no_dname k.set
      cut = reached_cut z q d.top.no_dname zone k.last k.set k.refers

      keys : owns z.sets (lower k.set.owner) SOA ≡ false → HasAuthority z r part.Signed (lower k.set.owner) DS ⊎ (child_ds z.sets k.set ≡ None)
          → HasAuthority z r part.Signed (lower k.set.owner) DS ⊎ Unsigned (lower k.set.owner)
      keys no_apex (inl ds) = inl ds
      keys no_apex (inr f) = inr (λ apart. proved_by k.set k.end f cut no_apex apart (is_named d.names (lower k.set.owner)) refl)
