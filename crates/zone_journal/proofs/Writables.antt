-- The steps between versions can be written
use Rattle.std.proofs.Common.{◌≡◌, ◌≢◌, ℕ, Bool, true, false, true≢false, cond, ◌==◌, ◌&&◌, not, List, [], ◌∷◌, length, map, refl, sym, ap, ◌∙◌, Less}
use Rattle.std.specs.Prelude.{Some, filter, is_some}
use Rattle.std.specs.List.{AllByRecursion}
use Rattle.std.specs.Map.{lookup, keys_of}
use Rattle.std.specs.Ordering.{is_eq}
use Rattle.std.proofs.Math.Dec.{eqb-suc-zero}
use Rattle.std.proofs.lemmas.Bool.{eqb-true}
use Rattle.std.proofs.lemmas.Map.Keys.{sorted_head, sorted_tail}
use Rattle.zone_proto.specs.declared.rr_key.RrKey.{RrKey}
use Rattle.zone_proto.specs.Keys.{key, key_cmp, key_eq}
use Rattle.zone_proto.specs.Names.{Name, lower, same_name}
use Rattle.zone_proto.specs.Sets.{RRset}
use Rattle.zone_proto.specs.Types.{RRSIG, SOA}
use Rattle.zone_proto.proofs.Ordering.KeyOrder.{key_itself}
use Rattle.zone_map.specs.Zones.{Sets, owns, set_at, IsStoredAt, IsZone}
use Rattle.zone_difference.proofs.Found.{InOrder, each_found}
use Rattle.shown_zones.specs.Shown.{spelled}
use Rattle.shown_zones.specs.Steps.{changed, is_changed, shows}
use Rattle.shown_zones.proofs.Shows.{same_lower, spelled_lower}
use Rattle.zone_journal.specs.WritableSteps.{IsPlain, StepsAreWritable}
use Rattle.zone_journal.specs.Writing.{all_follow, follows, is_soa_set}

-- ---- tests

refuted : (b : Bool) → (b ≡ true → ⊥) → b ≡ false
refuted true h = absurd (h refl)
refuted false h = refl

first_fails : (a b : Bool) → (not a && b) ≡ true → a ≡ false
first_fails true b h = absurd (true≢false (sym h))
first_fails false b h = refl

has_records : {A : Type 0} (rs : List A) → rs ≢ [] → (length rs == 0) ≡ false
has_records [] h = absurd (h refl)
has_records (r ∷ rs) h = eqb-suc-zero (length rs)

-- a name and a type have one key
same_keys : (k q : RrKey) → q.name ≡ k.name → q.record_type.0 ≡ k.record_type.0 → key_eq k q ≡ true
same_keys k q n t = (λ i. key_eq k (key (n i) (t i))) ∙ key_itself k

-- ---- the sets of a version

-- what holds of each set, under its key
pub record Stands (origin : Name) (k : RrKey) (s : RRset) : Type 0 where
  pub stored : IsStoredAt k.name k.record_type.0 s
  pub no_signatures : (k.record_type.0 == RRSIG) ≡ false
  pub soa : (k.record_type.0 == SOA) ≡ true → k.name ≡ origin

owned : (m : Sets) (k : RrKey) (s : RRset) (t : ℕ) → lookup (key_eq k) m ≡ Some s → k.record_type.0 ≡ t → owns m k.name t ≡ true
owned m k s t h e = ap (λ u. is_some (set_at m k.name u)) (sym e) ∙ ap is_some h

each_stands : (origin : Name) (m : Sets) → IsZone m → IsPlain origin m → AllByRecursion (λ (e : RrKey × RRset). Stands origin e.0 e.1) m
each_stands origin m zone plain = each_found (Stands origin) m zone.ordered one
  where
    one : (k : RrKey) (s : RRset) → lookup (key_eq k) m ≡ Some s → Stands origin k s
    one k s h = record {
      stored = zone.stored k.name k.record_type.0 s h;
      no_signatures = refuted (k.record_type.0 == RRSIG)
          (λ e. true≢false (sym (owned m k s RRSIG h (eqb-true k.record_type.0 RRSIG e)) ∙ plain.no_signatures k.name));
      soa = λ e. plain.soa k.name (owned m k s SOA h (eqb-true k.record_type.0 SOA e));
    }

-- ---- one set behind another

own_name : (k : RrKey) (s : RRset) → IsStoredAt k.name k.record_type.0 s → lower (spelled s.owner s.records) ≡ k.name
own_name k s h = spelled_lower s.owner s.record_type s.records h.set ∙ h.owner

module _ (origin : Name) (kb : RrKey) (before : RRset) (k : RrKey) (s : RRset) where
  no_soa : Stands origin k s → key_eq (key origin SOA) k ≡ false → (k.record_type.0 == SOA) ≡ false
  no_soa h other = refuted (k.record_type.0 == SOA)
      (λ e. true≢false (sym (same_keys (key origin SOA) k (h.soa e) (eqb-true k.record_type.0 SOA e)) ∙ other))

  apart : IsStoredAt kb.name kb.record_type.0 before → IsStoredAt k.name k.record_type.0 s → key_eq kb k ≡ false
      → (same_name (spelled s.owner s.records) (spelled before.owner before.records) && s.record_type == before.record_type) ≡ false
  apart b h other = by (same_name (spelled s.owner s.records) (spelled before.owner before.records)) refl (s.record_type == before.record_type) refl
    where
      by : (c : Bool) → same_name (spelled s.owner s.records) (spelled before.owner before.records) ≡ c → (d : Bool) → (s.record_type == before.record_type) ≡ d
          → (c && d) ≡ false
      by false g d f = refl
      by true g false f = refl
      by true g true f =
          let same : lower (spelled s.owner s.records) ≡ lower (spelled before.owner before.records) =
          same_lower (spelled s.owner s.records) (spelled before.owner before.records) g in
          let name : k.name ≡ kb.name = sym (own_name k s h) ∙ same ∙ own_name kb before b in
          let kind : k.record_type.0 ≡ kb.record_type.0 = sym h.record_type ∙ eqb-true s.record_type before.record_type f ∙ b.record_type in
          absurd (true≢false (sym (same_keys kb k name kind) ∙ other))

  follows_it : IsStoredAt kb.name kb.record_type.0 before → Stands origin k s → key_eq kb k ≡ false → key_eq (key origin SOA) k ≡ false → follows before s ≡ true
  follows_it b h other beside =
      let filled = has_records s.records h.stored.filled in
      let unsigned : (s.record_type == RRSIG) ≡ false = ap (λ t. t == RRSIG) h.stored.record_type ∙ h.no_signatures in
      let plain : (s.record_type == SOA) ≡ false = ap (λ t. t == SOA) h.stored.record_type ∙ no_soa h beside in
      let differ = apart b h.stored other in
      (λ i. not (filled i) && (not (unsigned i) && (not (plain i) && not (differ i))))

-- ---- the sets of a step

-- the keys of the sets that changed, but for the SOA's, are other ones
abbrev AreOthers : Name → Sets → RrKey → Sets → Type 0
AreOthers origin other k m = AllByRecursion (λ (e : RrKey × RRset). is_changed (key origin SOA) other e ≡ true → key_eq k e.0 ≡ false) m

module _ (origin : Name) (other : Sets) where
  no_soa_key : (e : RrKey × RRset) → is_changed (key origin SOA) other e ≡ true → key_eq (key origin SOA) e.0 ≡ false
  no_soa_key e h = first_fails (key_eq (key origin SOA) e.0) (not (shows other e)) h

  behind_soa : (m : Sets) → AreOthers origin other (key origin SOA) m
  behind_soa [] = tt
  behind_soa (e ∷ m) = (no_soa_key e, behind_soa m)

  above : (k : RrKey) (m : Sets) → AllByRecursion (λ q. key_cmp k q ≡ Less) (keys_of m) → AreOthers origin other k m
  above k [] h = tt
  above k (e ∷ m) h = (λ c. ap is_eq h.0, above k m h.1)

  all_in_order : (kb : RrKey) (before : RRset) (m : Sets) → InOrder m → IsStoredAt kb.name kb.record_type.0 before
      → AllByRecursion (λ (e : RrKey × RRset). Stands origin e.0 e.1) m → AreOthers origin other kb m
      → all_follow before (changed (key origin SOA) m other) ≡ true
  all_in_order kb before [] order b each others = refl
  all_in_order kb before (e ∷ m) order b each others =
      let tail = sorted_tail key_cmp e.0 (keys_of m) order in
      by (is_changed (key origin SOA) other e) refl
      (all_in_order kb before m tail b each.1 others.1)
      (all_in_order e.0 e.1 m tail each.0.stored each.1 (above e.0 m (sorted_head key_cmp e.0 (keys_of m) order)))
    where
      by : (c : Bool) → is_changed (key origin SOA) other e ≡ c → all_follow before (changed (key origin SOA) m other) ≡ true
          → all_follow e.1 (changed (key origin SOA) m other) ≡ true
          → all_follow before (map (λ (f : RrKey × RRset). f.1) (cond c (e ∷ filter (is_changed (key origin SOA) other) m) (filter (is_changed (key origin SOA) other) m))) ≡ true
      by true g same next = let one = follows_it origin kb before e.0 e.1 b each.0 (others.0 g) (no_soa_key e g) in (λ i. one i && next i)
      by false g same next = same

soa_set : (origin : Name) (s : RRset) → IsStoredAt origin SOA s → is_soa_set s ≡ true
soa_set origin s h =
    let kind : (s.record_type == SOA) ≡ true = ap (λ t. t == SOA) h.record_type in
    let filled = has_records s.records h.filled in
    (λ i. kind i && not (filled i))

sets_follow : (origin : Name) (m other : Sets) (soa : RRset) → IsZone m → IsPlain origin m → IsStoredAt origin SOA soa
    → all_follow soa (changed (key origin SOA) m other) ≡ true
sets_follow origin m other soa zone plain h =
    all_in_order origin other (key origin SOA) soa m zone.ordered h (each_stands origin m zone plain) (behind_soa origin other m)

pub steps_are_writable : StepsAreWritable
steps_are_writable origin a b s step za zb pa pb =
    let old_stored = za.stored origin SOA s.old_soa step.old_soa in
    let new_stored = zb.stored origin SOA s.new_soa step.new_soa in
    let old = soa_set origin s.old_soa old_stored in
    let new = soa_set origin s.new_soa new_stored in
    let deleted = ap (all_follow s.old_soa) step.deleted ∙ sets_follow origin a b s.old_soa za pa old_stored in
    let added = ap (all_follow s.new_soa) step.added ∙ sets_follow origin b a s.new_soa zb pb new_stored in
    (λ i. old i && (new i && (deleted i && added i)))
