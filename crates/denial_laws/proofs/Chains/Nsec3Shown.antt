-- What the sets that deny a name by NSEC3 show to a validator: the name's own record; or those of its closest encloser, of what covers the
-- next closer name, and of the wildcard under the encloser or of what covers that wildcard
use Rattle.std.proofs.Common.{◌≡◌, ℕ, true, List, sym, ap, ◌∙◌, subst, inl, inr}
use Rattle.std.specs.Prelude.{Option, Some, option_map}
use Rattle.std.specs.List.{Contains}
use Rattle.zone_proto.specs.declared.rdata.denial.NSEC3PARAM.{NSEC3PARAM as Nsec3Parameters}
use Rattle.zone_proto.specs.HashedOwners.{hashed_owner}
use Rattle.zone_proto.specs.Names.{Name, octets_cmp, wildcard_under}
use Rattle.zone_proto.specs.Sets.{RRset}
use Rattle.zone_proto.specs.Types.{NSEC3}
use Rattle.zone_proto.proofs.Members.{In, In-Contains, Contains-In}
use Rattle.zone_map.specs.Zones.{Sets, set_at}
use Rattle.zone_denial.specs.Chains.{IsNsec3Chain}
use Rattle.zone_denial.specs.Covering.{covers}
use Rattle.zone_denial.specs.Nsec3Circle.{digests, next_digest}
use Rattle.zone_denial.specs.Nsec3Denial.{next_closer}
use Rattle.zone_denial.specs.Nsec3Laws.{next_digest_of, HasSetOf, HasCoverOf, CoversCloser, Denies}
use Rattle.zone_denial.specs.Nsec3Zones.{IsHashedOn, HasDistinctDigests}
use Rattle.zone_denial.proofs.Chains.Nsec3Covers.{IsCover}
use Rattle.zone_denial.proofs.Chains.Nsec3Encloses.{wildcard_hashed}
use Rattle.zone_denial.proofs.Chains.Nsec3Names.{IsEnclosed}
use Rattle.zone_denial.proofs.Chains.Nsec3Owners.{named_hashed, set_of_named}
use Rattle.denial_validation.specs.Nsec3Records.{Nsec3Record}
use Rattle.denial_laws.specs.Nsec3Scope.{read_nsec3_sets}
use Rattle.denial_laws.proofs.Chains.Nsec3Readings.{record_of, shown}

same_set : (s r : RRset) → Some s ≡ Some r → s ≡ r
same_set s r e = cc

same_name : (a b : Name) → Some a ≡ Some b → a ≡ b
same_name a b e = cc

same_octets : (a b : List ℕ) → Some a ≡ Some b → a ≡ b
same_octets a b e = cc

module _ {origin : Name} {beside m : Sets} {hash : Name → Option (List ℕ)} {parameters : Nsec3Parameters} {names : List Name} {x : Name} (zone : IsNsec3Chain origin beside m hash parameters names) (apart : HasDistinctDigests (IsHashedOn names x) hash) where
  -- the set of k, a name of the chain, covers c
  pub record IsCovering (c k : Name) : Type 0 where
    pub on : In k names
    pub covered : covers octets_cmp (apart.digest k) (next_digest (digests hash names) (apart.digest k)) (apart.digest c) ≡ true

  pub is_covering : (c k : Name) → IsCover zone apart c k → IsCovering c k
  is_covering c k cover = record { on = cover.on; covered = cover.covered }

  same_digest : (n : Name) (d : List ℕ) → IsHashedOn names x n → hash n ≡ Some d → d ≡ apart.digest n
  same_digest n d h e = same_octets d (apart.digest n) (sym e ∙ apart.answers n h)

  -- a set that an answer has shows the record of its name
  set_shown : (n : Name) → In n names → (answer : List RRset) → HasSetOf origin m hash n answer → In (record_of zone apart n) (read_nsec3_sets answer)
  set_shown n i answer (s, (d, h, q), c) =
      shown zone apart answer n i
      (λ r e. subst (Contains answer) (same_set s r (sym q ∙ ap (λ d. set_at m (hashed_owner origin d) NSEC3) (same_digest n d (named_hashed zone apart n i) h) ∙ e)) c)

  covering_shown : (c : Name) → IsHashedOn names x c → (answer : List RRset) → HasCoverOf origin m hash names c answer → (k : Name) × IsCovering c k × In (record_of zone apart k) (read_nsec3_sets answer)
  covering_shown c hashed answer h = (
    h.name,
    record { on = i; covered = (λ j. covers octets_cmp (sym own j) (sym next_is j) (sym asked j)) ∙ h.covers.covered },
    set_shown h.name i answer (h.set, (h.covers.owner, h.own, h.covers.stands), h.among),
  )
    where
      i : In h.name names
      i = Contains-In h.name names h.on

      own : h.covers.owner ≡ apart.digest h.name
      own = same_digest h.name h.covers.owner (named_hashed zone apart h.name i) h.own

      asked : h.covers.digest ≡ apart.digest c
      asked = same_digest c h.covers.digest hashed h.covers.hashed

      next_is : h.covers.next ≡ next_digest (digests hash names) (apart.digest h.name)
      next_is =
          let k = set_of_named zone apart h.name i in
          let same : h.set ≡ k.0 = same_set h.set k.0 (sym h.covers.stands ∙ ap (λ d. set_at m (hashed_owner origin d) NSEC3) own ∙ k.1) in
          same_octets h.covers.next (next_digest (digests hash names) (apart.digest h.name)) (sym h.covers.said ∙ ap next_digest_of same ∙ ap (λ a. option_map (λ a. a.next_hashed_owner_name) a) k.2.says)

  -- in the chain the name's own record is shown
  pub own_shown : In x names → (answer : List RRset) → Denies origin m hash names x answer → In (record_of zone apart x) (read_nsec3_sets answer)
  own_shown i answer d = set_shown x i answer (d.on (In-Contains x names i))

  -- off it: of the encloser a and the next closer name c
  pub record IsShown (a c : Name) (rs : List Nsec3Record) : Type 0 where
    pub encloser : In (record_of zone apart a) rs
    pub cover : Name
    pub is_cover : IsCovering c cover
    pub has_cover : In (record_of zone apart cover) rs
    pub wildcard_on : In (wildcard_under a) names → In (record_of zone apart (wildcard_under a)) rs
    pub wildcard_off : (In (wildcard_under a) names → ⊥) → (k : Name) × IsCovering (wildcard_under a) k × In (record_of zone apart k) rs

  -- what covers the next closer name
  closer_is : (a c : Name) → IsEnclosed names x a c → (answer : List RRset) → CoversCloser origin m hash names x answer → (k : Name) × IsCovering c k × In (record_of zone apart k) (read_nsec3_sets answer)
  closer_is a c e answer h =
      covering_shown c (inr (a, e.is_encloser, inl (e.closer_at, e.closer_below))) answer
      (subst (λ n. HasCoverOf origin m hash names n answer)
      (same_name h.closer c (sym h.is_closer ∙ ap (next_closer x) (same_name h.encloser a (sym h.is_encloser ∙ e.is_encloser)) ∙ e.is_closer)) h.cover)

  pub enclosing_shown : (In x names → ⊥) → (a c : Name) → IsEnclosed names x a c → (answer : List RRset) → Denies origin m hash names x answer → IsShown a c (read_nsec3_sets answer)
  enclosing_shown off a c e answer d =
      let h = d.off (λ i. off (Contains-In x names i)) in
      let same = same_name h.covers.encloser a (sym h.covers.is_encloser ∙ e.is_encloser) in
      let k = closer_is a c e answer h.covers in
      record {
        encloser = set_shown a e.on answer (subst (λ n. HasSetOf origin m hash n answer) same h.matches);
        cover = k.0;
        is_cover = k.1;
        has_cover = k.2;
        wildcard_on = λ i.
            set_shown (wildcard_under a) i answer
            (subst (λ n. HasSetOf origin m hash (wildcard_under n) answer) same (h.wildcard_on (subst (λ n. Contains names (wildcard_under n)) (sym same) (In-Contains (wildcard_under a) names i))));
        wildcard_off = λ away.
            covering_shown (wildcard_under a) (wildcard_hashed zone apart a c e) answer
            (subst (λ n. HasCoverOf origin m hash names (wildcard_under n) answer) same
            (h.wildcard_off (λ i. away (Contains-In (wildcard_under a) names (subst (λ n. Contains names (wildcard_under n)) same i)))));
      }

  -- and where a wildcard answered, what covers the next closer name
  pub closer_shown : (In x names → ⊥) → (a c : Name) → IsEnclosed names x a c → (answer : List RRset) → ((Contains names x → ⊥) → CoversCloser origin m hash names x answer)
      → (k : Name) × IsCovering c k × In (record_of zone apart k) (read_nsec3_sets answer)
  closer_shown off a c e answer h = closer_is a c e answer (h (λ i. off (Contains-In x names i)))
