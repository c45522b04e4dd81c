-- What is in the sections of a response that is more than a code
use Rattle.std.proofs.Common.{◌≡◌, ℕ, Bool, true, false, cond, not, ◌&&◌, List, [], ◌∷◌, ◌++◌, map, refl, sym, ap, ◌∙◌, subst, true≢false, ◌⊎◌, inl, inr}
use Rattle.std.specs.Prelude.{Option, Some, None, take, option_to_list, fold, min, is_some}
use Rattle.std.specs.List.{Contains, list_any}
use Rattle.std.specs.Option.{option_map_or}
use Rattle.zone_proto.specs.declared.rdata.start_of_authority.SOA.{SOA as SoaData}
use Rattle.zone_proto.specs.declared.record.Record.{Record}
use Rattle.zone_proto.specs.Names.{Name, lower, name_eq, is_at_or_above}
use Rattle.zone_proto.specs.Sets.{RRset}
use Rattle.zone_proto.specs.Types.{A, AAAA, NS, SOA}
use Rattle.zone_proto.proofs.Members.{In, In-Contains, Contains-In, In-from_any, In-from_map, In-map, In-filter_map, In-from_filter_map, In-from_append, In-append_left, In-append_right, In-from_flat_map, In-flat_map}
use Rattle.zone_proto.proofs.Names.NameTree.{name_eq-Decides}
use Rattle.zone_map.specs.Zones.{Sets, set_at, IsZone}
use Rattle.zone_lookup.specs.StartOfAuthority.{soa_of, first_soa}
use Rattle.zone_response.specs.declared.response.Part.TheVariants as part
use Rattle.zone_response.specs.Additional.{host_of, with_host, hosts, addresses, glue_of}
use Rattle.zone_response.specs.Queries.{Zone, Query, HasOwnDenials, inquiry}
use Rattle.zone_response.specs.Responses.{code_at, negative_ttl, child_ds, ds_at, end_sets, fails, glue_at}
use Rattle.zone_response.specs.Sections.{Sections, sent, as_it_is, part_for}
use Rattle.zone_response.specs.Steps.{End, complete, referred, missing, outside, unfollowed, too_long, failed}
use Rattle.response_laws.specs.Contents.{is_delegated, is_refusal, Origin, IsFoundByItsWildcard, IsNegative, HasToProve, AuthorityOrigin, start, servers, digests, denial, IsGlueOf, IsHelpful, NegativeTtlIsLesser, HasContents}
use Rattle.response_laws.specs.Sayings.{Saying, data_of, name_error, no_data, referral, saying, SaysEnd}
use Rattle.response_laws.proofs.Answers.{ByWildcardOf, path_answers}
use Rattle.response_laws.proofs.Helpful.{helpful}
use Rattle.response_laws.proofs.Origins.{origin_by}
use Rattle.response_laws.proofs.Parts.{path_of, as_proof, IsMadeOf}
use Rattle.response_laws.proofs.Reasons.{NeedsProof, proves_what, path_starred}
use Rattle.response_laws.proofs.Said.{Said, says_nothing, says_data, says_referral, says_missing, said, says_end, referred_stands}
use Rattle.response_laws.proofs.SaidNames.{same_saying}
use Rattle.response_laws.proofs.Starts.{authority_is}

same_set : (a b : RRset) → Some a ≡ Some b → a ≡ b
same_set a b e = cc

pub negative_ttl_is_lesser : NegativeTtlIsLesser
negative_ttl_is_lesser soa r rs a e f =
    ap (λ records. option_map_or (λ (d : SoaData). min soa.ttl d.minimum) (first_soa records) soa.ttl) e
    ∙ ap (λ data'. option_map_or (λ (d : SoaData). min soa.ttl d.minimum) (soa_of data') soa.ttl) f

-- ---- hosts

-- a host stays among names, and is among them if a record names it
with_kept : (names : List Name) (r : Record) (h : Name) → In h names → In h (with_host names r)
with_kept names r h i = by (host_of r.rdata)
  where
    new : (n : Name) (b : Bool) → In h (cond b names (names ++ n ∷ []))
    new n true = i
    new n false = In-append_left h names (n ∷ []) i

    by : (o : Option Name) → In h (option_map_or (λ n. cond (list_any (λ y. name_eq y n) names) names (names ++ n ∷ [])) o names)
    by None = i
    by (Some n) = new n (list_any (λ y. name_eq y n) names)

kept_host : (rs : List Record) (names : List Name) (h : Name) → In h names → In h (fold with_host names rs)
kept_host [] names h i = i
kept_host (r ∷ rs) names h i = kept_host rs (with_host names r) h (with_kept names r h i)

with_named : (names : List Name) (r : Record) (h : Name) → host_of r.rdata ≡ Some h → In h (with_host names r)
with_named names r h e = subst (λ o. In h (option_map_or (λ n. cond (list_any (λ y. name_eq y n) names) names (names ++ n ∷ [])) o names)) (sym e) (new (list_any (λ y. name_eq y h) names) refl)
  where
    new : (b : Bool) → list_any (λ y. name_eq y h) names ≡ b → In h (cond b names (names ++ h ∷ []))
    new true f = let n = In-from_any (λ y. name_eq y h) names f in subst (λ y. In y names) ((name_eq-Decides n.0 h).0 n.2) n.1
    new false f = In-append_right h names (h ∷ []) (inl refl)

named_host : (rs : List Record) (names : List Name) (r : Record) (h : Name) → In r rs → host_of r.rdata ≡ Some h → In h (fold with_host names rs)
named_host [] names r h i e = absurd i
named_host (k ∷ rs) names r h (inl same) e = kept_host rs (with_host names k) h (with_named names k h (ap (λ (v : Record). host_of v.rdata) same ∙ e))
named_host (k ∷ rs) names r h (inr i) e = named_host rs (with_host names k) r h i e

-- and no other is
record Names (rs : List Record) (h : Name) : Type 0 where
  pub record' : Record
  pub among : In record' rs
  pub names : host_of record'.rdata ≡ Some h

from_with : (names : List Name) (r : Record) (h : Name) → In h (with_host names r) → In h names ⊎ (host_of r.rdata ≡ Some h)
from_with names r h = by (host_of r.rdata) refl
  where
    new : (n : Name) → host_of r.rdata ≡ Some n → (b : Bool) → In h (cond b names (names ++ n ∷ [])) → In h names ⊎ (host_of r.rdata ≡ Some h)
    new n e true i = inl i
    new n e false i = of (In-from_append h names (n ∷ []) i)
      where
        of : In h names ⊎ In h (n ∷ []) → In h names ⊎ (host_of r.rdata ≡ Some h)
        of (inl u) = inl u
        of (inr (inl same)) = inr (e ∙ ap Some same)
        of (inr (inr u)) = absurd u

    by : (o : Option Name) → host_of r.rdata ≡ o → In h (option_map_or (λ n. cond (list_any (λ y. name_eq y n) names) names (names ++ n ∷ [])) o names) → In h names ⊎ (host_of r.rdata ≡ Some h)
    by None e i = inl i
    by (Some n) e i = new n e (list_any (λ y. name_eq y n) names) i

from_hosts : (rs : List Record) (names : List Name) (h : Name) → In h (fold with_host names rs) → In h names ⊎ Names rs h
from_hosts [] names h i = inl i
from_hosts (r ∷ rs) names h i = by (from_hosts rs (with_host names r) h i)
  where
    first : In h names ⊎ (host_of r.rdata ≡ Some h) → In h names ⊎ Names (r ∷ rs) h
    first (inl u) = inl u
    first (inr e) = inr (record { record' = r; among = inl refl; names = e })

    by : In h (with_host names r) ⊎ Names rs h → In h names ⊎ Names (r ∷ rs) h
    by (inl u) = first (from_with names r h u)
    by (inr k) = inr (record { record' = k.record'; among = inr k.among; names = k.names })

-- ---- addresses

module _ (m : Sets) (h : Name) where
  has_address : (t : ℕ) (s : RRset) → (t ≡ A) ⊎ (t ≡ AAAA) → set_at m h t ≡ Some s → In s (addresses m h)
  has_address t s (inl e) f = In-filter_map (set_at m h) A s (A ∷ AAAA ∷ []) (inl refl) (ap (set_at m h) (sym e) ∙ f)
  has_address t s (inr e) f = In-filter_map (set_at m h) AAAA s (A ∷ AAAA ∷ []) (inr (inl refl)) (ap (set_at m h) (sym e) ∙ f)

  from_addresses : (s : RRset) → In s (addresses m h) → (t : ℕ) × ((t ≡ A) ⊎ (t ≡ AAAA)) × (set_at m h t ≡ Some s)
  from_addresses s i = let t = In-from_filter_map (set_at m h) s (A ∷ AAAA ∷ []) i in (t.0, of t.0 t.1, t.2)
    where
      of : (t : ℕ) → In t (A ∷ AAAA ∷ []) → (t ≡ A) ⊎ (t ≡ AAAA)
      of t (inl e) = inl (sym e)
      of t (inr (inl e)) = inr (sym e)
      of t (inr (inr u)) = absurd u

module _ (z : Zone) (zone : IsZone z.sets) (own : HasOwnDenials z) (q : Query) (r : Sections) (h : IsMadeOf z q r) where
  abbrev m : Sets
  m = z.sets

  abbrev ends : End
  ends = (path_of z q).end

  -- ---- AA

  no_refusal : (e : End) → is_refusal (code_at e) ≡ false
  no_refusal (missing x wildcard_name true) = refl
  no_refusal (missing x wildcard_name false) = refl
  no_refusal (referred c) = refl
  no_refusal complete = refl
  no_refusal (outside x) = refl
  no_refusal unfollowed = refl
  no_refusal too_long = refl
  no_refusal failed = refl

  authoritative_is : r.authoritative ≡ not (is_refusal r.code) && not (is_delegated z q)
  authoritative_is =
      h.authoritative
      ∙ authority_is (inquiry z q) q.name h.inside (λ e. true≢false (sym (ap fails e) ∙ h.passes))
      ∙ ap (λ b. not b && not (is_delegated z q)) (sym (ap is_refusal h.code ∙ no_refusal ends))

  -- ---- answers

  answers_are : (s : RRset) → Contains r.answers s → Origin (inquiry z q) r.answers (IsFoundByItsWildcard (inquiry z q)) s
  answers_are s c =
      origin_by (inquiry z q) r.answers s (ByWildcardOf (inquiry z q) (path_of z q).made) (IsFoundByItsWildcard (inquiry z q))
      (λ y u found k. record { absent = k.1.made.absent; wildcard_name = k.1.wildcard_name; asked = k.1.made.wildcard_name; stored = k.1.stored; stands = k.1.stands; made = k.1.is })
      (subst (λ all. Origin (inquiry z q) all (ByWildcardOf (inquiry z q) (path_of z q).made) s) (sym h.answers)
      (path_answers (inquiry z q) zone q.name s (subst (In s) h.answers (Contains-In s r.answers c))))

  -- ---- the authority section

  says_so : (e : End) → ends ≡ e → SaysEnd q r e
  says_so e f = subst (SaysEnd q r) f (says_end z zone q r h)

  negative_said : (x : Name) (there : Bool) → saying q r ≡ Some (cond there (no_data x) (name_error x)) → IsNegative (saying q r)
  negative_said x true e = subst IsNegative (sym e) tt
  negative_said x false e = subst IsNegative (sym e) tt

  -- with DNSSEC alone something is proved
  is_signed' : (s : RRset) → In s h.proofs → q.signed ≡ true
  is_signed' s i = by q.signed refl
    where
      by : (b : Bool) → q.signed ≡ b → b ≡ true
      by true e = refl
      by false e = absurd (subst (In s) (h.unproved e) i)

  -- the NS set of a child is its own
  child_stands : (c : RRset) → ends ≡ referred c → set_at m (lower c.owner) NS ≡ Some c
  child_stands c e = let n = referred_stands z zone q r h c e in ap (λ k. set_at m k NS) (zone.stored n.0 NS c n.1).owner ∙ n.1

  front_is : (e : End) → ends ≡ e → (s : RRset) → In s (end_sets (ds_at m e) q.signed h.soa e) → AuthorityOrigin z q r s
  front_is (missing x wildcard_name there) f s (inl k) = start h.soa (negative_said x there (says_so (missing x wildcard_name there) f)) h.stands (sym k)
  front_is (missing x wildcard_name there) f s (inr i) = absurd i
  front_is (referred c) f s (inl k) = servers (lower c.owner) c (says_so (referred c) f) (child_stands c f) (sym k)
  front_is (referred c) f s (inr i) = by q.signed refl (child_ds m c) refl i
    where
      by : (b : Bool) → q.signed ≡ b → (o : Option RRset) → child_ds m c ≡ o → In s (cond b (map (as_it_is part.Signed) (option_to_list o)) []) → AuthorityOrigin z q r s
      by true signed (Some d) e (inl k) = digests (lower c.owner) d signed (says_so (referred c) f) e (sym k)
      by true signed (Some d) e (inr i) = absurd i
      by true signed None e i = absurd i
      by false signed o e i = absurd i
  front_is complete f s i = absurd i
  front_is (outside x) f s i = absurd i
  front_is unfollowed f s i = absurd i
  front_is too_long f s i = absurd i
  front_is failed f s i = absurd i

  to_prove : (s : RRset) → In s h.proofs → HasToProve z q r
  to_prove s i = by (proves_what z (ds_at m ends) (path_of z q).made ends h.proofs s (h.given (is_signed' s i)) i)
    where
      at : (e : End) → ends ≡ e → NeedsProof (ds_at m e) e → HasToProve z q r
      at (missing x wildcard_name there) f n = inl (negative_said x there (says_so (missing x wildcard_name there) f))
      at (referred c) f n = inr (inl (lower c.owner, says_so (referred c) f, without (child_ds m c) n))
        where
          without : (o : Option RRset) → NeedsProof o (referred c) → is_some o ≡ false
          without None n = refl
          without (Some d) n = absurd n
      at complete f n = absurd n
      at (outside x) f n = absurd n
      at unfollowed f n = absurd n
      at too_long f n = absurd n
      at failed f n = absurd n

      by : ((y : Name) × In y (path_of z q).made) ⊎ NeedsProof (ds_at m ends) ends → HasToProve z q r
      by (inl (y, u)) = let a = path_starred (inquiry z q) q.name y u in inr (inr (a.set, In-Contains a.set r.answers (subst (In a.set) (sym h.answers) a.among), a.absent))
      by (inr n) = at ends refl n

  proof_is : (s : RRset) → In s (map (as_proof (negative_ttl h.soa)) h.proofs) → AuthorityOrigin z q r s
  proof_is s i =
      let v = In-from_map (as_proof (negative_ttl h.soa)) s h.proofs i in
      let k = h.denials v.0 v.1 in
      denial h.soa (lower v.0.owner) v.0.record_type v.0 (is_signed' v.0 v.1) (to_prove v.0 v.1) h.stands k.denial (own.own (lower v.0.owner) v.0.record_type v.0 k.stands) (sym v.2)

  abbrev front : List RRset
  front = end_sets (ds_at m ends) q.signed h.soa ends

  authorities_are : (s : RRset) → Contains r.authorities s → AuthorityOrigin z q r s
  authorities_are s c = by (In-from_append s front (map (as_proof (negative_ttl h.soa)) h.proofs) (subst (In s) h.authorities (Contains-In s r.authorities c)))
    where
      by : In s front ⊎ In s (map (as_proof (negative_ttl h.soa)) h.proofs) → AuthorityOrigin z q r s
      by (inl i) = front_is ends refl s i
      by (inr i) = proof_is s i

  abbrev sent_soa : RRset → RRset
  sent_soa soa = sent (part_for q.signed) (negative_ttl soa) soa

  start_stands : IsNegative (saying q r) → (soa : RRset) → set_at z.sets z.origin SOA ≡ Some soa → Contains r.authorities (sent (part_for q.signed) (negative_ttl soa) soa)
  start_stands n soa e =
      subst (λ v. Contains r.authorities (sent_soa v)) (same_set h.soa soa (sym h.stands ∙ e)) (In-Contains (sent_soa h.soa) r.authorities (by (said z zone q r h)))
    where
      by : Said z q r → In (sent_soa h.soa) r.authorities
      by (says_nothing f) = absurd (subst IsNegative f n)
      by (says_data y sets f g u) = absurd (subst IsNegative f n)
      by (says_referral y c f g u) = absurd (subst IsNegative f n)
      by (says_missing y wildcard_name there f g u k) =
          subst (In (sent_soa h.soa)) (sym h.authorities)
          (In-append_left (sent_soa h.soa) front (map (as_proof (negative_ttl h.soa)) h.proofs)
          (subst (λ w. In (sent_soa h.soa) (end_sets (ds_at m w) q.signed h.soa w)) (sym g) (inl refl)))

  -- ---- glue

  one_child : (a b : Name) → referral a ≡ referral b → a ≡ b
  one_child a b e = cc

  not_negative : (there : Bool) (y c : Name) → cond there (no_data y) (name_error y) ≡ referral c → ⊥
  not_negative true y c e = cc
  not_negative false y c e = cc

  glue_all : (c : Name) → saying q r ≡ Some (referral c) → (s : RRset) → IsGlueOf z.sets c s → Contains r.glue s
  glue_all c e s g = In-Contains s r.glue (by (said z zone q r h))
    where
      same : (v : Saying) → saying q r ≡ Some v → v ≡ referral c
      same v f = same_saying v (referral c) (saying q r) f e

      by : Said z q r → In s r.glue
      by (says_nothing f) = let p : None ≡ Some (referral c) = sym f ∙ e in absurd cc
      by (says_data y sets f k u) = let p : data_of y ≡ referral c = same (data_of y) f in absurd cc
      by (says_missing y wildcard_name there f k u n) = absurd (not_negative there y c (same (cond there (no_data y) (name_error y)) f))
      by (says_referral y v f k u) =
          subst (In s) (sym (h.glue ∙ ap (glue_at m) k))
          (In-flat_map (glue_of m (lower v.owner)) g.host s (hosts v)
          (named_host (take 64 v.records) [] g.server.record' g.host (subst (λ (w : RRset). In g.server.record' (take 64 w.records)) servers_is (Contains-In g.server.record' (take 64 g.server.servers.records) g.server.among)) g.server.names)
          (subst (λ b. In s (cond b (map (as_it_is part.Records) (addresses m g.host)) [])) (sym (subst (λ n. is_at_or_above n g.host ≡ true) (sym child) g.server.below))
          (subst (λ w. In w (map (as_it_is part.Records) (addresses m g.host))) (sym g.sent)
          (In-map (as_it_is part.Records) g.stored (addresses m g.host) (has_address m g.host g.record_type g.stored g.is_address g.stands)))))
        where
          child : lower v.owner ≡ c
          child = one_child (lower v.owner) c (same (referral (lower v.owner)) f)

          servers_is : g.server.servers ≡ v
          servers_is = same_set g.server.servers v (sym g.server.stands ∙ ap (λ n. set_at m n NS) (sym child) ∙ child_stands v k)

  glue_only : (s : RRset) → Contains r.glue s → (c : Name) × (saying q r ≡ Some (referral c)) × IsGlueOf z.sets c s
  glue_only s c = by ends refl (subst (In s) h.glue (Contains-In s r.glue c))
    where
      by : (e : End) → ends ≡ e → In s (glue_at m e) → (c : Name) × (saying q r ≡ Some (referral c)) × IsGlueOf z.sets c s
      by (referred v) f i = (lower v.owner, says_so (referred v) f, of host.0 host.1 (is_at_or_above (lower v.owner) host.0) refl host.2)
        where
          host : (n : Name) × In n (hosts v) × In s (glue_of m (lower v.owner) n)
          host = In-from_flat_map (glue_of m (lower v.owner)) s (hosts v) i

          named : (n : Name) → In n [] ⊎ Names (take 64 v.records) n → Names (take 64 v.records) n
          named n (inl u) = absurd u
          named n (inr k) = k

          of : (n : Name) → In n (hosts v) → (b : Bool) → is_at_or_above (lower v.owner) n ≡ b → In s (cond b (map (as_it_is part.Records) (addresses m n)) []) → IsGlueOf z.sets (lower v.owner) s
          of n j false below u = absurd u
          of n j true below u =
              let w = In-from_map (as_it_is part.Records) s (addresses m n) u in
              let t = from_addresses m n w.0 w.1 in
              let k = named n (from_hosts (take 64 v.records) [] n j) in
              record {
                host = n;
                server = record { servers = v; stands = child_stands v f; record' = k.record'; among = In-Contains k.record' (take 64 v.records) k.among; names = k.names; below = below };
                record_type = t.0;
                is_address = t.1;
                stored = w.0;
                stands = t.2;
                sent = sym w.2;
              }
      by (missing x wildcard_name there) f i = absurd i
      by complete f i = absurd i
      by (outside x) f i = absurd i
      by unfollowed f i = absurd i
      by too_long f i = absurd i
      by failed f i = absurd i

  additionals_are : (s : RRset) → Contains r.additionals s → IsHelpful (inquiry z q) s
  additionals_are s c = helpful (inquiry z q) s (path_of z q).answers ends (subst (In s) h.additionals (Contains-In s r.additionals c))

  pub has_contents : HasContents z q r
  has_contents = record { authoritative = authoritative_is; answers = answers_are; authorities = authorities_are; start = start_stands; glue = record { all = glue_all; only = glue_only }; additionals = additionals_are }
