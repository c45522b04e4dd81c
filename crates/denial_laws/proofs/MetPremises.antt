-- The premises of the laws are met: names of the zone of its origin alone, with its NSEC set, are judged
use Rattle.std.proofs.Common.{◌≡◌, ℕ, Bool, true, false, cond, not, ◌&&◌, List, [], ◌∷◌, refl, sym, ap, ◌∙◌, true≢false, eq-eqb}
use Rattle.std.specs.Prelude.{Option, Some, None, is_some, option_map, ◌==◌}
use Rattle.std.specs.List.{list_any, cons_option}
use Rattle.zone_proto.specs.declared.record.Record.{Record}
use Rattle.zone_proto.specs.Keys.{key, key_eq}
use Rattle.zone_proto.specs.Names.{Name, name_eq, is_at_or_above}
use Rattle.zone_proto.specs.Sets.{RRset}
use Rattle.zone_proto.specs.Types.{NS, SOA, NSEC, NSEC3, DNSKEY, DNAME}
use Rattle.zone_proto.proofs.Ordering.KeyOrder.{key_same, key_itself}
use Rattle.zone_proto.proofs.Names.NameTree.{name_eq-Decides}
use Rattle.zone_proto.proofs.SetLaws.{IsSet-alone}
use Rattle.zone_proto.proofs.Texts.TextFaults.{name_by_tests}
use Rattle.zone_map.specs.Zones.{set_at, owns, IsStoredAt, IsZone}
use Rattle.zone_map.proofs.Stored.{IsZone-none, IsZone-put, put_apart}
use Rattle.zone_denial.specs.Authority.{is_authoritative}
use Rattle.zone_denial.specs.NsecLaws.{IsNsecZone}
use Rattle.zone_denial.specs.NsecSets.{nsec_set, nsec_set_at}
use Rattle.zone_denial.proofs.Examples.NsecExamples.{origin, start, public_key, bare, bare_set, linked}
use Rattle.zone_denial.proofs.Chain.NsecSecured.{secured_is_circle}
use Rattle.denial_laws.specs.Scope.{IsInScope}
use Rattle.zone_denial.proofs.Examples.Nsec3Examples.{b}

soa_stored : IsStoredAt origin SOA start.1
soa_stored = record { named = name_by_tests origin refl refl; owner = refl; record_type = refl; filled = λ e. cc; set = IsSet-alone origin SOA _ refl refl }

key_stored : IsStoredAt origin DNSKEY public_key.1
key_stored = record { named = name_by_tests origin refl refl; owner = refl; record_type = refl; filled = λ e. cc; set = IsSet-alone origin DNSKEY _ refl refl }

nsec_stored : IsStoredAt origin NSEC bare_set
nsec_stored = record { named = name_by_tests origin refl refl; owner = refl; record_type = refl; filled = λ e. cc; set = IsSet-alone origin NSEC _ refl refl }

pub bare_zone : IsZone bare
bare_zone = IsZone-put (start ∷ []) (key origin DNSKEY) public_key.1 (IsZone-put [] (key origin SOA) start.1 IsZone-none soa_stored) key_stored

linked_zone : IsZone (linked bare)
linked_zone = IsZone-put bare (key origin NSEC) bare_set bare_zone nsec_stored

-- ---- under every other key it has what was there

pub type_apart : (n o : Name) (t u : ℕ) → (t == u) ≡ false → key_eq (key n t) (key o u) ≡ false
type_apart n o t u h = by (key_eq (key n t) (key o u)) refl
  where
    by : (b : Bool) → key_eq (key n t) (key o u) ≡ b → b ≡ false
    by true e = absurd (true≢false (sym (eq-eqb t u (ap (λ k. k.record_type.0) (key_same (key n t) (key o u) e))) ∙ h))
    by false e = refl

others : (n : Name) (t : ℕ) → (t == NSEC) ≡ false → owns (linked bare) n t ≡ owns bare n t
others n t h = ap is_some (put_apart bare (key origin NSEC) (key n t) bare_set (type_apart n origin t NSEC h))

-- ---- and NSEC at the origin alone

not_there : (n : Name) → key_eq (key n NSEC) (key origin NSEC) ≡ false → set_at (linked bare) n NSEC ≡ None
not_there n h =
    put_apart bare (key origin NSEC) (key n NSEC) bare_set h
    ∙ (λ i. cond (type_apart n origin NSEC SOA refl i) (Some start.1) (cond (type_apart n origin NSEC DNSKEY refl i) (Some public_key.1) None))

name_apart : (n : Name) → key_eq (key n NSEC) (key origin NSEC) ≡ false → name_eq n origin ≡ false
name_apart n h = by (name_eq n origin) refl
  where
    by : (b : Bool) → name_eq n origin ≡ b → b ≡ false
    by true e = absurd (true≢false (sym (key_itself (key origin NSEC)) ∙ ap (λ a. key_eq (key a NSEC) (key origin NSEC)) (sym ((name_eq-Decides n origin).0 e)) ∙ h))
    by false e = refl

no_authority : (n : Name) → name_eq n origin ≡ false → is_authoritative origin bare NSEC n ≡ false
no_authority n h =
    (λ i. is_at_or_above origin n && (list_any (λ t. not (t == NSEC)) (cons_option (cond (h i) (Some SOA) None) (cons_option (cond (h i) (Some DNSKEY) None) [])) && true))
    ∙ by (is_at_or_above origin n)
  where
    by : (b : Bool) → b && false ≡ false
    by true = refl
    by false = refl

-- the records of a name's NSEC set, as they are there and as they are to be
abbrev records_there : Name → Option (List Record)
records_there n = option_map (λ (s : RRset). s.records) (set_at (linked bare) n NSEC)

abbrev records_wanted : Name → Option (List Record)
records_wanted n = option_map (λ (s : RRset). s.records) (nsec_set_at origin bare 300 7 n NSEC)

denials : (n : Name) → records_there n ≡ records_wanted n
denials n = by (key_eq (key n NSEC) (key origin NSEC)) refl
  where
    by : (b : Bool) → key_eq (key n NSEC) (key origin NSEC) ≡ b → records_there n ≡ records_wanted n
    by true e = let same : n ≡ origin = ap (λ k. k.name) (key_same (key n NSEC) (key origin NSEC) e) in ap records_there same ∙ sym (ap records_wanted same)
    by false e =
        ap (option_map (λ (s : RRset). s.records)) (not_there n e)
        ∙ sym (ap (λ b. option_map (λ (s : RRset). s.records) (cond b (Some (nsec_set origin bare 300 7 n)) None)) (no_authority n (name_apart n e)))

linked_is_nsec_zone : IsNsecZone origin (linked bare)
linked_is_nsec_zone = record {
  zone = linked_zone;
  circle = secured_is_circle origin bare (linked bare) 300 7 bare_zone refl (record { others = others; denials = denials });
  on_circle = refl;
}

-- ---- so a name that isn't there is judged

unowned : (n : Name) (t : ℕ) → (t == NSEC) ≡ false → (t == SOA) ≡ false → (t == DNSKEY) ≡ false → owns (linked bare) n t ≡ false
unowned n t c s k = others n t c ∙ (λ i. is_some (cond (type_apart n origin t SOA s i) (Some start.1) (cond (type_apart n origin t DNSKEY k i) (Some public_key.1) None)))

absent_is_judged : IsInScope origin (linked bare) b
absent_is_judged = record {
  zone = linked_is_nsec_zone;
  one_kind = λ n. unowned n NSEC3 refl refl refl;
  unreferred = λ a u k. absurd (true≢false (sym k ∙ unowned a NS refl refl refl));
  inside = refl;
  uncut = refl;
  no_dname = λ a u. unowned a DNAME refl refl refl;
}
