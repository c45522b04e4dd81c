-- The owners of the names that a denial by NSEC3 hashes: they are names, sort as the digests, and own NSEC3 where the hashed
-- names are on the circle
use Rattle.std.proofs.Common.{◌≡◌, ℕ, ◌+◌, ◌*◌, Bool, true, false, List, ◌∷◌, length, refl, sym, ap, ◌∙◌, subst, true≢false, inl}
use Rattle.std.specs.Prelude.{Option, Some, None, Ok, is_some, nat_lt, ◌==◌, if◌then◌else◌}
use Rattle.std.specs.Cmp.Lexicographic.{nat_list_cmp_total}
use Rattle.std.proofs.lemmas.Cmp.{tied_itself}
use Rattle.std.proofs.lemmas.List.FromFn.{length-map-range_with_len}
use Rattle.std.specs.Char.{digit_char}
use Rattle.std.proofs.lemmas.Map.Lookups.{exact_bytes}
use Rattle.zone_proto.specs.declared.error.ProtoError.TheVariants.{EmptyLabel, LabelTooLong, NameTooLong}
use Rattle.zone_proto.specs.declared.rdata.denial.NSEC3PARAM.{NSEC3PARAM as Nsec3Parameters}
use Rattle.zone_proto.specs.Base32.{base32_text, base32_count, five_bits}
use Rattle.zone_proto.specs.Faults.{label_fault, first_of_faults, fault_of}
use Rattle.zone_proto.specs.HashedOwners.{hashed_owner, name_or_fault, owner_or_refusal}
use Rattle.zone_proto.specs.Names.{Name, Label, name_cmp, octets_cmp, wire_length}
use Rattle.zone_proto.specs.Sets.{RRset}
use Rattle.zone_proto.specs.Types.{NSEC3}
use Rattle.zone_proto.proofs.Ordering.Base32Order.{owners_sort}
use Rattle.zone_proto.proofs.Members.{In, In-Contains, Contains-In, In-filter_map, In-from_filter_map}
use Rattle.zone_proto.proofs.Ordering.Orders.{IsOrder}
use Rattle.zone_proto.proofs.Texts.TextFaults.{name_faultless}
use Rattle.zone_proto.proofs.Names.Tree.{name_order}
use Rattle.zone_map.specs.Zones.{Sets, set_at, owns, owners}
use Rattle.zone_map.proofs.Lists.{owner_named}
use Rattle.zone_map.proofs.Owned.{owner_in, owner_owned}
use Rattle.zone_denial.specs.Nsec3Circle.{digests, IsOnNsec3Circle}
use Rattle.zone_denial.specs.Nsec3Names.{nsec3_names}
use Rattle.zone_denial.specs.Nsec3Zones.{IsNsec3Zone, IsHashed, HasDistinctDigests}
use Rattle.zone_denial.proofs.Hashed.Nsec3Enclosers.{is_named, named_in, in_named, origin_in}

-- the order of octet strings, and so of digests
pub octets_order : IsOrder octets_cmp
octets_order = record { total = nat_list_cmp_total; exact = exact_bytes }

-- ---- labels of one length before the same labels have the same fault

fault_by_length : (k l : Label) (ls : Name) → length k ≡ length l → fault_of (k ∷ ls) ≡ fault_of (l ∷ ls)
fault_by_length k l ls e =
    ap (λ (n : ℕ). first_of_faults (if n == 0 then Some EmptyLabel else (if nat_lt 63 n then Some LabelTooLong else label_fault ls)) (if nat_lt 255 (n + 1 + wire_length ls) then Some NameTooLong else None)) e

text_length : (d : List ℕ) → length (base32_text d) ≡ base32_count (length d)
text_length d = length-map-range_with_len (λ i. digit_char (five_bits d (i * 5))) 0 (base32_count (length d))

pub owner_faults : (zone : Name) (d e : List ℕ) → length d ≡ length e → fault_of (hashed_owner zone d) ≡ fault_of (hashed_owner zone e)
owner_faults zone d e same = fault_by_length (base32_text d) (base32_text e) zone (text_length d ∙ ap base32_count same ∙ sym (text_length e))

pub same_value : (d e : List ℕ) → Some d ≡ Some e → d ≡ e
same_value d e h = cc

-- ---- digests of a hash that tells names apart

module _ {IsNamed : Name → Type 0} {hash : Name → Option (List ℕ)} (apart : HasDistinctDigests IsNamed hash) where
  -- owners sort as the digests, and differ where the names do
  pub sort_as_digests : (origin n k : Name) → IsNamed n → IsNamed k → name_cmp (hashed_owner origin (apart.digest n)) (hashed_owner origin (apart.digest k)) ≡ octets_cmp (apart.digest n) (apart.digest k)
  sort_as_digests origin n k h j = owners_sort origin (apart.digest n) (apart.digest k) (apart.alike n k h j) (apart.octets n h) (apart.octets k j)

  pub same_by_owner : (origin n k : Name) → IsNamed n → IsNamed k → hashed_owner origin (apart.digest n) ≡ hashed_owner origin (apart.digest k) → n ≡ k
  same_by_owner origin n k h j e =
      let o = hashed_owner origin (apart.digest n) in
      apart.apart n k h j (octets_order.exact (apart.digest n) (apart.digest k) (sym (sort_as_digests origin n k h j) ∙ ap (name_cmp o) (sym e) ∙ tied_itself name_order.total o))

  -- the digests of some of the names
  module _ (names : List Name) (named : (n : Name) → In n names → IsNamed n) where
    pub digest_among : (n : Name) → In n names → In (apart.digest n) (digests hash names)
    digest_among n i = In-filter_map hash n (apart.digest n) names i (apart.answers n (named n i))

    pub name_of_among : (d : List ℕ) → In d (digests hash names) → (n : Name) × In n names × (d ≡ apart.digest n)
    name_of_among d i =
        let r = In-from_filter_map hash d names i in
        (r.0, r.1, same_value d (apart.digest r.0) (sym r.2 ∙ apart.answers r.0 (named r.0 r.1)))

module _ {origin : Name} {m : Sets} {hash : Name → Option (List ℕ)} {parameters : Nsec3Parameters} {x : Name} (zone : IsNsec3Zone origin m hash parameters) (apart : HasDistinctDigests (IsHashed origin m parameters.opt_out x) hash) where
  abbrev names : List Name
  names = nsec3_names origin m parameters.opt_out

  abbrev pub Hashed : Name → Type 0
  Hashed n = IsHashed origin m parameters.opt_out x n

  -- the hashed owner of a name
  abbrev pub owner : Name → Name
  owner n = hashed_owner origin (apart.digest n)

  pub named_hashed : (n : Name) → In n names → Hashed n
  named_hashed n i = inl (In-Contains n names i)

  -- ---- the names of the circle own NSEC3 there

  pub set_of_named : (n : Name) → In n names → (s : RRset) × (set_at m (owner n) NSEC3 ≡ Some s) × IsOnNsec3Circle origin m hash parameters n (apart.digest n) s
  set_of_named n i = zone.circle.one_for_each n (apart.digest n) (In-Contains n names i) (apart.answers n (named_hashed n i))

  pub named_owns : (n : Name) → In n names → owns m (owner n) NSEC3 ≡ true
  named_owns n i = ap is_some (set_of_named n i).1

  -- ---- the owner of a hashed name is a name: as long as the origin's, which is one

  pub is_owner : (n : Name) → Hashed n → owner_or_refusal origin (hash n) ≡ Ok (owner n)
  is_owner n h =
      let k = named_hashed origin (origin_in origin m parameters.opt_out) in
      ap (owner_or_refusal origin) (apart.answers n h)
      ∙ ap (name_or_fault (owner n)) (owner_faults origin (apart.digest n) (apart.digest origin) (apart.alike n origin h k) ∙ name_faultless (owner origin) (owner_named m (owner origin) NSEC3 zone.zone (named_owns origin (origin_in origin m parameters.opt_out))))

  -- ---- owners sort as the digests, and differ where the names do

  pub owners_as_digests : (n k : Name) → Hashed n → Hashed k → name_cmp (owner n) (owner k) ≡ octets_cmp (apart.digest n) (apart.digest k)
  owners_as_digests n k h j = sort_as_digests apart origin n k h j

  one_owner : (n k : Name) → Hashed n → Hashed k → owner n ≡ owner k → n ≡ k
  one_owner n k h j e = same_by_owner apart origin n k h j e

  -- ---- what owns NSEC3 is the owner of a name of the circle

  pub name_of_owner : (o : Name) → In o (owners m NSEC3) → (n : Name) × In n names × (o ≡ owner n)
  name_of_owner o i =
      let r = zone.circle.no_other o (owner_owned m o NSEC3 i) in
      let k = Contains-In r.0 names r.2 in
      (r.0, k, r.4 ∙ ap (hashed_owner origin) (same_value r.1 (apart.digest r.0) (sym r.3 ∙ apart.answers r.0 (named_hashed r.0 k))))

  -- so a hashed name is on the circle where its owner owns NSEC3
  pub owns_as_named : (n : Name) → Hashed n → owns m (owner n) NSEC3 ≡ is_named origin m parameters.opt_out n
  owns_as_named n h = by (is_named origin m parameters.opt_out n) refl (owns m (owner n) NSEC3) refl
    where
      by : (a : Bool) → is_named origin m parameters.opt_out n ≡ a → (b : Bool) → owns m (owner n) NSEC3 ≡ b → b ≡ a
      by true e b k = sym k ∙ named_owns n (named_in origin m parameters.opt_out n e)
      by false e false k = refl
      by false e true k =
          let r = name_of_owner (owner n) (owner_in m (owner n) NSEC3 k) in
          let named = subst (λ w. In w names) (sym (one_owner n r.0 h (named_hashed r.0 r.1) r.2)) r.1 in
          absurd (true≢false (sym (in_named origin m parameters.opt_out n named) ∙ e))

  -- ---- the digests of the circle

  abbrev pub all_digests : List (List ℕ)
  all_digests = digests hash names

  pub digest_in : (n : Name) → In n names → In (apart.digest n) all_digests
  digest_in n i = digest_among apart names named_hashed n i

  pub name_of_digest : (d : List ℕ) → In d all_digests → (n : Name) × In n names × (d ≡ apart.digest n)
  name_of_digest d i = name_of_among apart names named_hashed d i
