-- The owners of the names that a denial by a chain of NSEC3 sets hashes: they are names, sort as the digests, and own NSEC3 where
-- the hashed names are names of the chain
use Rattle.std.proofs.Common.{◌≡◌, ℕ, Bool, true, false, List, refl, sym, ap, ◌∙◌, subst, true≢false, inl}
use Rattle.std.specs.Prelude.{Option, Some, Ok, is_some}
use Rattle.zone_proto.specs.declared.rdata.denial.NSEC3PARAM.{NSEC3PARAM as Nsec3Parameters}
use Rattle.zone_proto.specs.HashedOwners.{hashed_owner, name_or_fault, owner_or_refusal}
use Rattle.zone_proto.specs.Names.{Name, name_cmp, octets_cmp}
use Rattle.zone_proto.specs.Sets.{RRset}
use Rattle.zone_proto.specs.Types.{NSEC3}
use Rattle.zone_proto.proofs.Members.{In, In-Contains, Contains-In}
use Rattle.zone_proto.proofs.Texts.TextFaults.{name_faultless}
use Rattle.zone_map.specs.Zones.{Sets, set_at, owns, owners}
use Rattle.zone_map.proofs.Lists.{owner_named}
use Rattle.zone_map.proofs.Owned.{owner_in, owner_owned}
use Rattle.zone_denial.specs.Chains.{IsInNsec3Chain, IsNsec3Chain}
use Rattle.zone_denial.specs.Nsec3Circle.{digests}
use Rattle.zone_denial.specs.Nsec3Zones.{IsHashedOn, HasDistinctDigests}
use Rattle.zone_denial.proofs.Chains.Nsec3Names.{is_named, named_in, in_named, origin_in}
use Rattle.zone_denial.proofs.Hashed.Nsec3Owners.{owner_faults, same_value, sort_as_digests, same_by_owner, digest_among, name_of_among}

module _ {origin : Name} {beside m : Sets} {hash : Name → Option (List ℕ)} {parameters : Nsec3Parameters} {names : List Name} {x : Name} (zone : IsNsec3Chain origin beside m hash parameters names) (apart : HasDistinctDigests (IsHashedOn names x) hash) where
  abbrev pub Hashed : Name → Type 0
  Hashed n = IsHashedOn names x n

  -- the hashed owner of a name
  abbrev pub owner : Name → Name
  owner n = hashed_owner origin (apart.digest n)

  pub named_hashed : (n : Name) → In n names → Hashed n
  named_hashed n i = inl (In-Contains n names i)

  -- ---- the names of the chain own NSEC3 there

  pub set_of_named : (n : Name) → In n names → (s : RRset) × (set_at m (owner n) NSEC3 ≡ Some s) × IsInNsec3Chain origin beside m hash parameters names n (apart.digest n) s
  set_of_named n i = zone.one_for_each n (apart.digest n) (In-Contains n names i) (apart.answers n (named_hashed n i))

  pub named_owns : (n : Name) → In n names → owns m (owner n) NSEC3 ≡ true
  named_owns n i = ap is_some (set_of_named n i).1

  -- ---- the owner of a hashed name is a name: as long as the origin's, which is one

  pub is_owner : (n : Name) → Hashed n → owner_or_refusal origin (hash n) ≡ Ok (owner n)
  is_owner n h =
      let k = named_hashed origin (origin_in names origin zone.begins) in
      ap (owner_or_refusal origin) (apart.answers n h)
      ∙ ap (name_or_fault (owner n)) (owner_faults origin (apart.digest n) (apart.digest origin) (apart.alike n origin h k) ∙ name_faultless (owner origin) (owner_named m (owner origin) NSEC3 zone.zone (named_owns origin (origin_in names origin zone.begins))))

  -- ---- owners sort as the digests, and differ where the names do

  pub owners_as_digests : (n k : Name) → Hashed n → Hashed k → name_cmp (owner n) (owner k) ≡ octets_cmp (apart.digest n) (apart.digest k)
  owners_as_digests n k h j = sort_as_digests apart origin n k h j

  one_owner : (n k : Name) → Hashed n → Hashed k → owner n ≡ owner k → n ≡ k
  one_owner n k h j e = same_by_owner apart origin n k h j e

  -- ---- what owns NSEC3 is the owner of a name of the chain

  pub name_of_owner : (o : Name) → In o (owners m NSEC3) → (n : Name) × In n names × (o ≡ owner n)
  name_of_owner o i =
      let r = zone.no_other o (owner_owned m o NSEC3 i) in
      let k = Contains-In r.0 names r.2 in
      (r.0, k, r.4 ∙ ap (hashed_owner origin) (same_value r.1 (apart.digest r.0) (sym r.3 ∙ apart.answers r.0 (named_hashed r.0 k))))

  -- so a hashed name is a name of the chain where its owner owns NSEC3
  pub owns_as_named : (n : Name) → Hashed n → owns m (owner n) NSEC3 ≡ is_named names n
  owns_as_named n h = by (is_named names n) refl (owns m (owner n) NSEC3) refl
    where
      by : (a : Bool) → is_named names n ≡ a → (b : Bool) → owns m (owner n) NSEC3 ≡ b → b ≡ a
      by true e b k = sym k ∙ named_owns n (named_in names n e)
      by false e false k = refl
      by false e true k =
          let r = name_of_owner (owner n) (owner_in m (owner n) NSEC3 k) in
          let named = subst (λ w. In w names) (sym (one_owner n r.0 h (named_hashed r.0 r.1) r.2)) r.1 in
          absurd (true≢false (sym (in_named names n named) ∙ e))

  -- ---- the digests of the chain

  abbrev pub all_digests : List (List ℕ)
  all_digests = digests hash names

  pub digest_in : (n : Name) → In n names → In (apart.digest n) all_digests
  digest_in n i = digest_among apart names named_hashed n i

  pub name_of_digest : (d : List ℕ) → In d all_digests → (n : Name) × In n names × (d ≡ apart.digest n)
  name_of_digest d i = name_of_among apart names named_hashed d i
