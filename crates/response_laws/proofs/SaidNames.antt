-- The names of which a response says something, and what its authority section has of them, whichever sets deny
use Rattle.std.proofs.Common.{◌≡◌, ℕ, Bool, true, false, cond, List, [], ◌++◌, map, refl, sym, ap, ◌∙◌, subst, ◌⊎◌, inl, inr}
use Rattle.std.specs.Prelude.{Option, Some, None, option_to_list, ◌==◌}
use Rattle.zone_proto.specs.Names.{Name, lower, IsAbove}
use Rattle.zone_proto.specs.Sets.{RRset}
use Rattle.zone_proto.specs.Types.{NS, SOA, DS, DNAME}
use Rattle.zone_proto.proofs.Members.{In, In-Contains, In-from_append, In-append_left}
use Rattle.zone_map.specs.Zones.{set_at, owns, IsZone}
use Rattle.zone_denial.specs.Chains.{chain_sets}
use Rattle.zone_denial.proofs.Chain.NsecBelow.{above_at}
use Rattle.zone_response.specs.declared.response.Part.TheVariants as part
use Rattle.zone_response.specs.Queries.{Zone, Query, inquiry}
use Rattle.zone_response.specs.Responses.{negative_ttl, child_ds, ds_at, end_sets}
use Rattle.zone_response.specs.Dname.{in_place_of, synthesized_alias}
use Rattle.zone_response.specs.Sections.{Sections, as_it_is, part_for}
use Rattle.zone_response.specs.Steps.{End, complete, referred, missing, outside, unfollowed, too_long, failed}
use Rattle.zone_response.specs.Descent.{cut}
use Rattle.response_laws.specs.HashedSayings.{IsReached}
use Rattle.response_laws.specs.ProvedSayings.{IsAliasData, HasAuthority}
use Rattle.response_laws.specs.Sayings.{Saying, data_of, name_error, no_data, referral, last_name, saying}
use Rattle.response_laws.proofs.Authorities.{proof_is, front_is}
use Rattle.response_laws.proofs.Dnames.{sent_dname_target}
use Rattle.response_laws.proofs.LastNames.{IsMissing, IsAliasAsked, IsReferred}
use Rattle.response_laws.proofs.LentSets.{set_kept, lends}
use Rattle.response_laws.proofs.OwnerSets.{AreOwners}
use Rattle.response_laws.proofs.Parts.{path_of, as_proof, IsMadeOf}
use Rattle.response_laws.proofs.Said.{Said, says_nothing, says_data, says_referral, says_missing, said, referred_stands}
use Rattle.response_laws.proofs.SentSets.{IsSentSet, authority_part}
use Rattle.response_laws.proofs.Stepped.{IsUndiverted}
use Rattle.response_laws.proofs.Turned.{turned_first, unturned, cut_set, reached}

-- what is said is said once
pub same_saying : (v w : Saying) (o : Option Saying) → o ≡ Some v → o ≡ Some w → v ≡ w
same_saying v w o e f = by v w (sym e ∙ f)
  where
    by : (v w : Saying) → Some v ≡ Some w → v ≡ w
    by v w e = cc

-- ---- names that are reached

module _ (z : Zone) (q : Query) (no_dname : (a : Name) → IsAbove a z.origin → owns z.sets a DNAME ≡ false) where
  -- the search ends at a name that nothing turns
  pub reached_unturned : (y : Name) → IsUndiverted (inquiry z q) y → IsReached z.origin z.sets y
  reached_unturned y u = reached z no_dname y q.record_type y ([], refl) u.inside (λ b v. unturned z.origin z.sets y q.record_type u.unturned b (above_at b y v))

  -- or at a cut
  pub record IsCut (c : RRset) : Type 0 where
    pub stands : set_at z.sets (lower c.owner) NS ≡ Some c
    pub reached : IsReached z.origin z.sets (lower c.owner)

  pub reached_cut : IsZone z.sets → (y : Name) (c : RRset) → IsReferred (inquiry z q) y c → IsCut c
  reached_cut zone y c h =
      let f = turned_first z.origin z.sets y q.record_type (cut c) h.turned in
      let s = cut_set z.origin z.sets y q.record_type f.name c f.turns in
      let own = (zone.stored f.name NS c s.1).owner in
      record {
        stands = ap (λ n. set_at z.sets n NS) own ∙ s.1;
        reached = subst (IsReached z.origin z.sets) (sym own) (reached z no_dname y q.record_type f.name f.above s.0 f.first);
      }

module _ (z : Zone) (q : Query) (r : Sections) (zone : IsZone z.sets) (signed : q.signed ≡ true) (h : IsMadeOf z q r) where
  abbrev ends : End
  ends = (path_of z q).end

  abbrev proofs : List RRset
  proofs = map (as_proof (negative_ttl h.soa)) h.proofs

  -- ---- the authority section

  pub authorities_are : r.authorities ≡ end_sets (ds_at z.sets (path_of z q).end) true h.soa (path_of z q).end ++ map (as_proof (negative_ttl h.soa)) h.proofs
  authorities_are = h.authorities ∙ ap (λ b. end_sets (ds_at z.sets ends) b h.soa ends ++ proofs) signed

  among : (e : End) → ends ≡ e → (s : RRset) → In s (end_sets (ds_at z.sets e) true h.soa e) → In s r.authorities
  among e g s i = subst (In s) (sym (authorities_are ∙ ap (λ e. end_sets (ds_at z.sets e) true h.soa e ++ proofs) g)) (In-append_left s (end_sets (ds_at z.sets e) true h.soa e) proofs i)

  -- each set is one of those that the zone lends, where the sets of denial are
  module _ (same : z.denials ≡ chain_sets z.nx_proof_kind z.sets) where
    front_same : (e : End) → end_sets (ds_at z.sets e) true h.soa e ≡ end_sets (ds_at z.denials e) true h.soa e
    front_same (referred c) = ap (λ ds. end_sets ds true h.soa (referred c)) (sym (set_kept z same (lower c.owner) DS refl))
    front_same (missing x wildcard_name there) = refl
    front_same complete = refl
    front_same (outside x) = refl
    front_same unfollowed = refl
    front_same too_long = refl
    front_same failed = refl

    stands_there : (c : RRset) → ends ≡ referred c → (n : Name) × (set_at z.denials n NS ≡ Some c)
    stands_there c e = let n = referred_stands z zone q r h c e in (n.0, set_kept z same n.0 NS refl ∙ n.1)

    pub authority_of : (t : ℕ) → (t == NS) ≡ false → AreOwners t z.denials h.proofs → (s : RRset) → In s r.authorities → IsSentSet z.denials (authority_part s) s
    authority_of t other owners s i = by (In-from_append s (end_sets (ds_at z.sets ends) true h.soa ends) proofs (subst (In s) authorities_are i))
      where
        lent : IsZone z.denials
        lent = (lends z same zone).zone

        by : In s (end_sets (ds_at z.sets ends) true h.soa ends) ⊎ In s proofs → IsSentSet z.denials (authority_part s) s
        by (inl k) = front_is z.denials lent z.origin h.soa ends (set_kept z same z.origin SOA refl ∙ h.stands) stands_there s (subst (In s) (front_same ends) k)
        by (inr k) = proof_is z.denials lent t other (negative_ttl h.soa) h.proofs owners s k

  -- ---- a negative response

  -- its name is that where the search ends
  pub record IsMissingName (x : Name) (there : Bool) : Type 0 where
    pub wildcard_name : Option Name
    pub end : (path_of z q).end ≡ missing x wildcard_name there
    pub unturned : IsUndiverted (inquiry z q) x
    pub how : IsMissing (inquiry z q) x wildcard_name there

  pub missing_said : (there : Bool) (x : Name) → saying q r ≡ Some (cond there (no_data x) (name_error x)) → IsMissingName x there
  missing_said there x e = by (said z zone q r h)
    where
      negative : Saying
      negative = cond there (no_data x) (name_error x)

      same : (v : Saying) → saying q r ≡ Some v → v ≡ negative
      same v f = same_saying v negative (saying q r) f e

      no_answer : (there : Bool) (y : Name) → data_of y ≡ cond there (no_data x) (name_error x) → ⊥
      no_answer true y f = cc
      no_answer false y f = cc

      no_referral : (there : Bool) (y : Name) → referral y ≡ cond there (no_data x) (name_error x) → ⊥
      no_referral true y f = cc
      no_referral false y f = cc

      both : (a b : Bool) (y : Name) → cond a (no_data y) (name_error y) ≡ cond b (no_data x) (name_error x) → (a ≡ b) × (y ≡ x)
      both true true y f = (refl, cc)
      both false false y f = (refl, cc)
      both true false y f = absurd cc
      both false true y f = absurd cc

      by : Said z q r → IsMissingName x there
      by (says_nothing f) = let p : None ≡ Some negative = sym f ∙ e in absurd cc
      by (says_data y sets f g u) = absurd (no_answer there y (same (data_of y) f))
      by (says_referral y c f g u) = absurd (no_referral there (lower c.owner) (same (referral (lower c.owner)) f))
      by (says_missing y wildcard_name a f g u k) =
          let s = both a there y (same (cond a (no_data y) (name_error y)) f) in
          record {
            wildcard_name = wildcard_name;
            end = g ∙ (λ i. missing (s.1 i) wildcard_name (s.0 i));
            unturned = subst (IsUndiverted (inquiry z q)) s.1 u;
            how = subst (λ n. IsMissing (inquiry z q) n wildcard_name there) s.1 (subst (IsMissing (inquiry z q) y wildcard_name) s.0 k);
          }

  -- ---- an alias by a DNAME

  -- the CNAME was asked for, and the DNAME set that makes it is in the answer section
  pub alias_said : (y : Name) (sets : List RRset) (w : Saying) → w ≡ data_of y → last_name q.record_type q.name (path_of z q).answers ≡ record { name = y; sets = sets }
      → IsAliasAsked (inquiry z q) (path_of z q).answers y sets → IsAliasData z q r w
  alias_said y sets w e g a = record {
    name = y;
    says = e;
    asked = a.asked;
    alias = synthesized_alias a.dname y (in_place_of a.dname.owner a.target y);
    answer = ap (last_name q.record_type q.name) h.answers ∙ g ∙ ap (λ sets. record { name = y; sets = sets }) a.alone;
    made = record {
      dname = as_it_is part.Signed a.dname;
      among = In-Contains (as_it_is part.Signed a.dname) r.answers (subst (In (as_it_is part.Signed a.dname)) (sym h.answers) (subst (λ b. In (as_it_is (part_for b) a.dname) (path_of z q).answers) signed a.among));
      record_type = a.above.type';
      stands = record { name = a.above.name; record_type = DNAME; stored = a.dname; stands = a.above.stands; sent = ap (λ b. as_it_is (part_for b) a.dname) (sym signed) };
      target = a.target;
      call_concludes = sent_dname_target a.dname ∙ a.call_concludes;
      name = y;
      below = subst (λ k. IsAbove k y) (sym a.above.owner) a.above.above;
      made = refl;
      ttl = refl;
    };
  }

  -- ---- a referral

  -- it is to a cut where the search ends, and has the DS set of the child, if that has one
  pub record IsReferralTo (c : Name) : Type 0 where
    pub last : Name
    pub set : RRset
    pub child : lower set.owner ≡ c
    pub end : (path_of z q).end ≡ referred set
    pub refers : IsReferred (inquiry z q) last set
    pub servers : set_at z.sets (lower set.owner) NS ≡ Some set → HasAuthority z r part.Records (lower set.owner) NS
    pub keys : HasAuthority z r part.Signed (lower set.owner) DS ⊎ (child_ds z.sets set ≡ None)

  pub referral_of : (c : Name) → saying q r ≡ Some (referral c) → IsReferralTo c
  referral_of c e = by (said z zone q r h)
    where
      same : (v : Saying) → saying q r ≡ Some v → v ≡ referral c
      same v f = same_saying v (referral c) (saying q r) f e

      one_child : (n : Name) → referral n ≡ referral c → n ≡ c
      one_child n e = cc

      no_referral : (there : Bool) (y : Name) → cond there (no_data y) (name_error y) ≡ referral c → ⊥
      no_referral true y e = cc
      no_referral false y e = cc

      keys : (s : RRset) → ends ≡ referred s → (ds : Option RRset) → child_ds z.sets s ≡ ds → HasAuthority z r part.Signed (lower s.owner) DS ⊎ (child_ds z.sets s ≡ None)
      keys s g None f = inr f
      keys s g (Some v) f =
          inl
          (record {
            stored = v;
            stands = f;
            among =
                In-Contains (as_it_is part.Signed v) r.authorities
                (among (referred s) g (as_it_is part.Signed v) (inr (subst (λ d. In (as_it_is part.Signed v) (map (as_it_is part.Signed) (option_to_list d))) (sym f) (inl refl))));
          })

      by : Said z q r → IsReferralTo c
      by (says_nothing f) = let p : None ≡ Some (referral c) = sym f ∙ e in absurd cc
      by (says_data y sets f g u) = let p : data_of y ≡ referral c = same (data_of y) f in absurd cc
      by (says_referral y s f g u) = record {
        last = y;
        set = s;
        child = one_child (lower s.owner) (same (referral (lower s.owner)) f);
        end = g;
        refers = u;
        servers = λ stands. record { stored = s; stands = stands; among = In-Contains (as_it_is part.Records s) r.authorities (among (referred s) g (as_it_is part.Records s) (inl refl)) };
        keys = keys s g (child_ds z.sets s) refl;
      }
      by (says_missing y wildcard_name there f g u k) = absurd (no_referral there y (same (cond there (no_data y) (name_error y)) f))
