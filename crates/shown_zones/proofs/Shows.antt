-- What answers show of the sets of a zone is a zone
use Rattle.std.proofs.Common.{◌≡◌, ◌≢◌, ℕ, ◌<◌, Bool, true, false, ◌==◌, ◌&&◌, List, [], ◌∷◌, length, refl, sym, ap, ◌∙◌, subst, get_or, arith}
use Rattle.std.specs.Prelude.{Option, Some, None, map}
use Rattle.std.specs.Cmp.Lexicographic.{pointwise}
use Rattle.std.specs.List.Sorted.{IsStrictlySortedBy}
use Rattle.std.specs.Map.{lookup, keys_of}
use Rattle.std.proofs.lemmas.List.{get_or-map, length-map}
use Rattle.std.proofs.lemmas.List.Elements.{All-map}
use Rattle.std.proofs.lemmas.Map.Made.{lookup-map_values}
use Rattle.std.proofs.lemmas.Map.Views.{tells_apart}
use Rattle.zone_proto.specs.declared.record.Record.{Record}
use Rattle.zone_proto.specs.declared.rr_key.RrKey.{RrKey}
use Rattle.zone_proto.specs.Data.{same_data, type_of}
use Rattle.zone_proto.specs.Keys.{key, key_cmp, key_eq}
use Rattle.zone_proto.specs.NameLaws.{exact_names}
use Rattle.zone_proto.specs.Names.{Name, lower, same_name}
use Rattle.zone_proto.specs.Records.{same_record}
use Rattle.zone_proto.specs.Sets.{RRset, IsSet, same_set}
use Rattle.zone_map.specs.Zones.{Sets, set_at, IsStoredAt, IsZone}
use Rattle.zone_map.proofs.Upserting.{same_from_lower}
use Rattle.shown_zones.specs.Shown.{have_same_head, have_same_records, shown, shown_if, shown_set, spelled, with_ttl}

pub same_lower : (a b : Name) → same_name a b ≡ true → lower a ≡ lower b
same_lower a b h = tells_apart exact_names (lower a) (lower b) h

-- ---- one set

-- records that have a TTL are a set of the same owner, however it is spelled
pub shown_records : (owner other : Name) (t ttl : ℕ) (rs : List Record) → lower other ≡ lower owner → IsSet owner t rs → IsSet other t (map (with_ttl ttl) rs)
shown_records owner other t ttl rs o h = record {
  owners = All-map (λ (r : Record). same_name r.name other ≡ true) (with_ttl ttl) rs
      (λ k d lt. same_from_lower (get_or rs k d).name other (same_lower (get_or rs k d).name owner (h.owners k d lt) ∙ sym o));
  types = All-map (λ (r : Record). type_of r.rdata ≡ t) (with_ttl ttl) rs h.types;
  differ = λ i j d lt end.
      let within : j < length rs = omega (arith, length-map rs (with_ttl ttl), end) in
      let first : get_or (map (with_ttl ttl) rs) i d ≡ with_ttl ttl (get_or rs i d) = get_or-map (with_ttl ttl) rs i d d (omega (arith, within, lt)) in
      let second : get_or (map (with_ttl ttl) rs) j d ≡ with_ttl ttl (get_or rs j d) = get_or-map (with_ttl ttl) rs j d d within in
      (λ n. same_data (first n).rdata (second n).rdata) ∙ h.differ i j d lt within;
  single = λ e. let few = h.single e in omega (arith, few, length-map rs (with_ttl ttl));
}

some_shown : (ttl : ℕ) (rs : List Record) → rs ≢ [] → map (with_ttl ttl) rs ≢ []
some_shown ttl [] h e = h refl
some_shown ttl (r ∷ rs) h e = cc

pub spelled_lower : (owner : Name) (t : ℕ) (rs : List Record) → IsSet owner t rs → lower (spelled owner rs) ≡ lower owner
spelled_lower owner t [] h = refl
spelled_lower owner t (r ∷ rs) h = same_lower r.name owner (h.owners 0 r (omega arith))

pub shown_stored : (n : Name) (t : ℕ) (s : RRset) → IsStoredAt n t s → IsStoredAt n t (shown_set s)
shown_stored n t s h =
    let o : lower (spelled s.owner s.records) ≡ lower s.owner = spelled_lower s.owner s.record_type s.records h.set in
    record {
      named = h.named;
      owner = o ∙ h.owner;
      record_type = h.record_type;
      filled = some_shown s.ttl s.records h.filled;
      set = shown_records s.owner (spelled s.owner s.records) s.record_type s.ttl s.records o h.set;
    }

-- ---- a zone

pub found_shown : (m : Sets) (q : RrKey) → lookup (key_eq q) (shown m) ≡ shown_if (lookup (key_eq q) m)
found_shown m q = lookup-map_values shown_set (key_eq q) m

keys_shown : (m : Sets) → keys_of (shown m) ≡ keys_of m
keys_shown [] = refl
keys_shown (e ∷ m) = ap (λ ks. e.0 ∷ ks) (keys_shown m)

pub shown_zone : (m : Sets) → IsZone m → IsZone (shown m)
shown_zone m zone = record {
  ordered = subst (IsStrictlySortedBy key_cmp) (sym (keys_shown m)) zone.ordered;
  stored = λ n t s e. by n t s (set_at m n t) refl (sym (found_shown m (key n t)) ∙ e);
}
  where
    by : (n : Name) (t : ℕ) (s : RRset) (o : Option RRset) → set_at m n t ≡ o → shown_if o ≡ Some s → IsStoredAt n t s
    by n t s None f e = absurd cc
    by n t s (Some u) f e =
        let same : shown_set u ≡ s = cc in
        subst (IsStoredAt n t) same (shown_stored n t u (zone.stored n t u f))

-- ---- two sets

same_but_ttls : (t u : ℕ) (rs qs : List Record) → pointwise same_record (map (with_ttl t) rs) (map (with_ttl u) qs) ≡ pointwise same_record rs qs
same_but_ttls t u [] [] = refl
same_but_ttls t u [] (q ∷ qs) = refl
same_but_ttls t u (r ∷ rs) [] = refl
same_but_ttls t u (r ∷ rs) (q ∷ qs) = ap (λ b. same_record r q && b) (same_but_ttls t u rs qs)

regrouped : (a b c d e : Bool) → (a && (b && (true && (c && (true && (d && e)))))) ≡ ((a && (b && c)) && (d && e))
regrouped true true true d e = refl
regrouped true true false d e = refl
regrouped true false c d e = refl
regrouped false b c d e = refl

pub shown_alike : (s t : RRset) → same_set (shown_set s) (shown_set t) ≡ (have_same_head s t && have_same_records s t)
shown_alike s t =
    (λ i. same_name (spelled s.owner s.records) (spelled t.owner t.records) && (s.record_type == t.record_type && (true && (s.ttl == t.ttl && (true
    && (same_but_ttls s.ttl t.ttl s.records t.records i && same_but_ttls s.ttl t.ttl s.signatures t.signatures i))))))
    ∙ regrouped (same_name (spelled s.owner s.records) (spelled t.owner t.records)) (s.record_type == t.record_type) (s.ttl == t.ttl) (pointwise same_record s.records t.records) (pointwise same_record s.signatures t.signatures)
