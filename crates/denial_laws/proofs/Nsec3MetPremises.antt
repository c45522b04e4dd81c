-- The premises of the laws of NSEC3 are met: of the zone of its origin alone, with its NSEC3 set, and a hash by a table that tells the names apart which are hashed for it, a name that isn't there is judged
use Rattle.std.proofs.Common.{◌≡◌, ℕ, ◌+◌, false, List, [], ◌∷◌, ◌++◌, ◌&&◌, ◌==◌, length, slice_index, eq-eqb, refl, sym, ap, ◌∙◌, subst, true≢false, inl, inr, ◌⊎◌, length-append, arith}
use Rattle.std.specs.Prelude.{Bool, true, Option, Some, None, cond, unwrap_or, is_some, option_map}
use Rattle.std.specs.List.{AllByRecursion, cons_option}
use Rattle.zone_proto.specs.declared.record.Record.{Record}
use Rattle.zone_proto.specs.HashedOwners.{hashed_owner}
use Rattle.zone_proto.specs.Keys.{key, key_eq}
use Rattle.zone_proto.specs.Names.{Name, base_name, name_eq, IsAtOrAbove, wildcard_under}
use Rattle.zone_proto.specs.Ranges.{IsOctet}
use Rattle.zone_proto.specs.Sets.{RRset}
use Rattle.zone_proto.specs.Types.{NS, SOA, DNSKEY, RRSIG, NSEC, NSEC3, NSEC3PARAM, DNAME}
use Rattle.zone_proto.proofs.Ordering.KeyOrder.{key_same}
use Rattle.zone_proto.proofs.Members.{In, Contains-In}
use Rattle.zone_proto.proofs.Names.NameTree.{name_eq-Decides}
use Rattle.zone_proto.proofs.SetLaws.{IsSet-alone}
use Rattle.zone_proto.proofs.Texts.TextFaults.{name_by_tests}
use Rattle.zone_map.specs.Zones.{Sets, set_at, owns, IsStoredAt, IsZone}
use Rattle.zone_map.proofs.Stored.{IsZone-put, put_apart}
use Rattle.zone_denial.specs.Nsec3Names.{nsec3_names}
use Rattle.zone_denial.specs.Nsec3Sets.{nsec3_record, nsec3_set_at, set_of, HasNsec3Sets}
use Rattle.zone_denial.specs.Nsec3Zones.{IsCircleName, IsHashed, IsNsec3Zone, HasDistinctDigests}
use Rattle.zone_denial.proofs.Examples.NsecExamples.{origin, start, public_key, bare}
use Rattle.denial_laws.proofs.MetPremises.{type_apart, bare_zone}
use Rattle.zone_denial.proofs.Hashed.Nsec3Secured.{secured_is_nsec3_circle}
use Rattle.zone_denial.proofs.Examples.Nsec3Examples.{parameters, b, digest_in, says, announcing, announced, linked}
use Rattle.denial_laws.specs.Nsec3Scope.{IsInNsec3Scope}

abbrev table : List (Name × List ℕ)
table = (origin, 64 ∷ []) ∷ (b, 32 ∷ []) ∷ (wildcard_under origin, 96 ∷ []) ∷ []

abbrev alone : Sets
alone = linked table bare

abbrev digest : Name → List ℕ
digest n = unwrap_or (digest_in table n) []

-- ---- the names that are hashed are the origin, b and the wildcard

abbrev IsOneOfThree : Name → Type 0
IsOneOfThree n = (n ≡ origin) ⊎ ((n ≡ b) ⊎ (n ≡ wildcard_under origin))

on_circle : (n : Name) → In n (origin ∷ []) → IsOneOfThree n
on_circle n (inl e) = inl (sym e)
on_circle n (inr e) = absurd e

between : (n : Name) (front back : Name) → b ≡ front ++ n → n ≡ back ++ origin → IsOneOfThree n
between n [] back e k = inr (inl (sym e))
between n (l ∷ []) back e k = inl (sym (ap base_name e))
between n (l ∷ j ∷ ls) back e k =
    let long : 2 ≡ length (l ∷ j ∷ ls ++ n) = ap length e in
    let sum : length (ls ++ n) ≡ length ls + length n = length-append ls n in
    let tail : length n ≡ length (back ++ origin) = ap length k in
    let rest : length (back ++ origin) ≡ length back + 1 = length-append back origin in
    absurd (omega arith)

hashed_names : (n : Name) → IsHashed origin alone false b n → IsOneOfThree n
hashed_names n (inl c) = on_circle n (Contains-In n (nsec3_names origin alone false) c)
hashed_names n (inr (a, e, where_)) =
    let same : a ≡ origin = cc in
    by (subst (λ (k : Name). (IsAtOrAbove n b × IsAtOrAbove k n) ⊎ (n ≡ wildcard_under k)) same where_)
  where
    by : (IsAtOrAbove n b × IsAtOrAbove origin n) ⊎ (n ≡ wildcard_under origin) → IsOneOfThree n
    by (inl (above, below)) = between n above.0 below.0 above.1 below.1
    by (inr wildcard_name) = inr (inr wildcard_name)

-- ---- their digests

answered : (n : Name) → IsOneOfThree n → digest_in table n ≡ Some (digest n)
answered n (inl e) = ap (digest_in table) e ∙ sym (ap (λ k. Some (digest k)) e)
answered n (inr (inl e)) = ap (digest_in table) e ∙ sym (ap (λ k. Some (digest k)) e)
answered n (inr (inr e)) = ap (digest_in table) e ∙ sym (ap (λ k. Some (digest k)) e)

first_octets : (i j : ℕ) (d e : List ℕ) → d ≡ i ∷ [] → e ≡ j ∷ [] → d ≡ e → i ≡ j
first_octets i j d e p q same = ap (λ (xs : List ℕ). slice_index xs 0) (sym p ∙ same ∙ q)

apart : (n k : Name) → IsOneOfThree n → IsOneOfThree k → digest n ≡ digest k → n ≡ k
apart n k (inl p) (inl q) e = p ∙ sym q
apart n k (inl p) (inr (inl q)) e = let h : 64 ≡ 32 = first_octets 64 32 (digest n) (digest k) (ap digest p) (ap digest q) e in absurd (omega (arith, h))
apart n k (inl p) (inr (inr q)) e = let h : 64 ≡ 96 = first_octets 64 96 (digest n) (digest k) (ap digest p) (ap digest q) e in absurd (omega (arith, h))
apart n k (inr (inl p)) (inl q) e = let h : 32 ≡ 64 = first_octets 32 64 (digest n) (digest k) (ap digest p) (ap digest q) e in absurd (omega (arith, h))
apart n k (inr (inl p)) (inr (inl q)) e = p ∙ sym q
apart n k (inr (inl p)) (inr (inr q)) e = let h : 32 ≡ 96 = first_octets 32 96 (digest n) (digest k) (ap digest p) (ap digest q) e in absurd (omega (arith, h))
apart n k (inr (inr p)) (inl q) e = let h : 96 ≡ 64 = first_octets 96 64 (digest n) (digest k) (ap digest p) (ap digest q) e in absurd (omega (arith, h))
apart n k (inr (inr p)) (inr (inl q)) e = let h : 96 ≡ 32 = first_octets 96 32 (digest n) (digest k) (ap digest p) (ap digest q) e in absurd (omega (arith, h))
apart n k (inr (inr p)) (inr (inr q)) e = p ∙ sym q

of_one_octet : (n : Name) → IsOneOfThree n → length (digest n) ≡ 1
of_one_octet n (inl e) = ap (λ k. length (digest k)) e
of_one_octet n (inr (inl e)) = ap (λ k. length (digest k)) e
of_one_octet n (inr (inr e)) = ap (λ k. length (digest k)) e

in_range : (n : Name) → IsOneOfThree n → AllByRecursion IsOctet (digest n)
in_range n (inl e) = subst (λ (k : Name). AllByRecursion IsOctet (digest k)) (sym e) (omega arith, tt)
in_range n (inr (inl e)) = subst (λ (k : Name). AllByRecursion IsOctet (digest k)) (sym e) (omega arith, tt)
in_range n (inr (inr e)) = subst (λ (k : Name). AllByRecursion IsOctet (digest k)) (sym e) (omega arith, tt)

table_tells_apart : HasDistinctDigests (IsHashed origin alone false b) (digest_in table)
table_tells_apart = record {
  digest = digest;
  answers = λ n h. answered n (hashed_names n h);
  apart = λ n k h j. apart n k (hashed_names n h) (hashed_names k j);
  alike = λ n k h j. of_one_octet n (hashed_names n h) ∙ sym (of_one_octet k (hashed_names k j));
  octets = λ n h. in_range n (hashed_names n h);
}

-- ---- the zone is one that NSEC3 denies

abbrev owner : Name
owner = hashed_owner origin (64 ∷ [])

abbrev own_set : RRset
own_set = says (64 ∷ []) (64 ∷ []) (SOA ∷ RRSIG ∷ DNSKEY ∷ NSEC3PARAM ∷ [])

announcing_stored : IsStoredAt origin NSEC3PARAM announcing
announcing_stored = record { named = name_by_tests origin refl refl; owner = refl; record_type = refl; filled = λ e. cc; set = IsSet-alone origin NSEC3PARAM _ refl refl }

own_stored : IsStoredAt owner NSEC3 own_set
own_stored = record { named = name_by_tests owner refl refl; owner = refl; record_type = refl; filled = λ e. cc; set = IsSet-alone owner NSEC3 _ refl refl }

alone_zone : IsZone alone
alone_zone = IsZone-put (announced bare) (key owner NSEC3) own_set (IsZone-put bare (key origin NSEC3PARAM) announcing bare_zone announcing_stored) own_stored

-- the origin's is the only NSEC3 set
not_there : (o : Name) → key_eq (key o NSEC3) (key owner NSEC3) ≡ false → set_at alone o NSEC3 ≡ None
not_there o h =
    put_apart (announced bare) (key owner NSEC3) (key o NSEC3) own_set h
    ∙ put_apart bare (key origin NSEC3PARAM) (key o NSEC3) announcing (type_apart o origin NSEC3 NSEC3PARAM refl)
    ∙ (λ i. cond (type_apart o origin NSEC3 SOA refl i) (Some start.1) (cond (type_apart o origin NSEC3 DNSKEY refl i) (Some public_key.1) None))

other_owner : (o : Name) → name_eq o owner ≡ false → key_eq (key o NSEC3) (key owner NSEC3) ≡ false
other_owner o h = by (key_eq (key o NSEC3) (key owner NSEC3)) refl
  where
    by : (c : Bool) → key_eq (key o NSEC3) (key owner NSEC3) ≡ c → c ≡ false
    by true e = absurd (true≢false (sym ((name_eq-Decides o owner).1 (ap (λ k. k.name) (key_same (key o NSEC3) (key owner NSEC3) e))) ∙ h))
    by false e = refl

-- its records, as they are there and as they are to be
abbrev records_there : Name → Option (List Record)
records_there o = option_map (λ (s : RRset). s.records) (set_at alone o NSEC3)

abbrev records_wanted : Name → Option (List Record)
records_wanted o = option_map (λ (s : RRset). s.records) (nsec3_set_at origin bare (digest_in table) parameters 60 7 o)

denials : (o : Name) → records_there o ≡ records_wanted o
denials o = by (name_eq o owner) refl
  where
    wanted_if : Bool → Option (List Record)
    wanted_if c = option_map (λ (s : RRset). s.records) (set_of o NSEC3 7 (cons_option (cond c (Some (nsec3_record origin bare (digest_in table) parameters 60 7 (record { digest = 64 ∷ []; name = origin }))) None) []))

    by : (c : Bool) → name_eq o owner ≡ c → records_there o ≡ records_wanted o
    by true e = let same = (name_eq-Decides o owner).0 e in ap records_there same ∙ sym (ap records_wanted same)
    by false e = ap (option_map (λ (s : RRset). s.records)) (not_there o (other_owner o e)) ∙ sym (ap wanted_if e)

-- under every other key it has what was there, NSEC3PARAM at the origin aside
not_announcing : (n : Name) (t : ℕ) → (t == NSEC3PARAM) && name_eq n origin ≡ false → key_eq (key n t) (key origin NSEC3PARAM) ≡ false
not_announcing n t h = by (key_eq (key n t) (key origin NSEC3PARAM)) refl
  where
    by : (c : Bool) → key_eq (key n t) (key origin NSEC3PARAM) ≡ c → c ≡ false
    by true e =
        let same : key n t ≡ key origin NSEC3PARAM = key_same (key n t) (key origin NSEC3PARAM) e in
        absurd (true≢false (sym (λ i. (eq-eqb t NSEC3PARAM (ap (λ k. k.record_type.0) same) i) && ((name_eq-Decides n origin).1 (ap (λ k. k.name) same) i)) ∙ h))
    by false e = refl

others : (n : Name) (t : ℕ) → (t == NSEC3) ≡ false → (t == NSEC3PARAM) && name_eq n origin ≡ false → owns alone n t ≡ owns bare n t
others n t h k = ap is_some (put_apart (announced bare) (key owner NSEC3) (key n t) own_set (type_apart n owner t NSEC3 h) ∙ put_apart bare (key origin NSEC3PARAM) (key n t) announcing (not_announcing n t k))

alone_has_sets : HasNsec3Sets origin bare (digest_in table) parameters 60 7 alone
alone_has_sets = record { others = others; denials = denials; announced = refl }

circle_tells_apart : HasDistinctDigests (IsCircleName origin bare false) (digest_in table)
circle_tells_apart = record {
  digest = table_tells_apart.digest;
  answers = λ n c. table_tells_apart.answers n (inl c);
  apart = λ n k c d. table_tells_apart.apart n k (inl c) (inl d);
  alike = λ n k c d. table_tells_apart.alike n k (inl c) (inl d);
  octets = λ n c. table_tells_apart.octets n (inl c);
}

alone_is_nsec3_zone : IsNsec3Zone origin alone (digest_in table) parameters
alone_is_nsec3_zone = secured_is_nsec3_circle origin bare alone (digest_in table) parameters 60 7 (λ e. cc) alone_zone alone_has_sets circle_tells_apart

-- ---- so a name that isn't there is judged

unowned : (n : Name) (t : ℕ) → (t == NSEC3) ≡ false → (t == NSEC3PARAM) ≡ false → (t == SOA) ≡ false → (t == DNSKEY) ≡ false → owns alone n t ≡ false
unowned n t c p s k =
    others n t c (λ i. p i && name_eq n origin)
    ∙ (λ i. is_some (cond (type_apart n origin t SOA s i) (Some start.1) (cond (type_apart n origin t DNSKEY k i) (Some public_key.1) None)))

absent_is_judged : IsInNsec3Scope origin alone (digest_in table) parameters b
absent_is_judged = record {
  zone = alone_is_nsec3_zone;
  all_in = refl;
  one_kind = λ n. unowned n NSEC refl refl refl refl;
  apart = table_tells_apart;
  inside = refl;
  uncut = refl;
  no_dname = λ a u. unowned a DNAME refl refl refl refl;
  unreferred = λ a u k. absurd (true≢false (sym k ∙ unowned a NS refl refl refl refl));
  no_hashed_owner = refl;
}
