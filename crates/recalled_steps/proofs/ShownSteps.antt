-- A step as answers show it leads from what they show of one version to what they show of the other
use Rattle.std.proofs.Common.{◌≡◌, ℕ, Bool, true, false, cond, List, [], ◌∷◌, refl, sym, ap, ◌∙◌}
use Rattle.std.specs.Prelude.{map, filter, not, ◌&&◌, Option, Some, None}
use Rattle.std.specs.Map.{lookup}
use Rattle.zone_proto.specs.Keys.{key, key_eq}
use Rattle.zone_proto.specs.Names.{Name}
use Rattle.zone_proto.specs.Sets.{RRset}
use Rattle.zone_proto.specs.Types.{SOA}
use Rattle.zone_proto.specs.declared.record.Record.{Record}
use Rattle.zone_proto.specs.declared.rr_key.RrKey.{RrKey}
use Rattle.zone_map.specs.Zones.{Sets}
use Rattle.zone_difference.specs.Differences.{same_at}
use Rattle.shown_zones.specs.Shown.{shown, shown_if, shown_set, spelled, with_ttl}
use Rattle.shown_zones.specs.Steps.{changed, is_changed, shown_step, shows, Step, IsStep}
use Rattle.shown_zones.proofs.Shows.{found_shown}

-- ---- what is shown is shown as it is

pub ttl_twice : (ttl : ℕ) (rs : List Record) → map (with_ttl ttl) (map (with_ttl ttl) rs) ≡ map (with_ttl ttl) rs
ttl_twice ttl [] = refl
ttl_twice ttl (r ∷ rs) = ap (λ (xs : List Record). with_ttl ttl r ∷ xs) (ttl_twice ttl rs)

spelled_twice : (owner : Name) (ttl : ℕ) (rs : List Record) → spelled (spelled owner rs) (map (with_ttl ttl) rs) ≡ spelled owner rs
spelled_twice owner ttl [] = refl
spelled_twice owner ttl (r ∷ rs) = refl

pub set_twice : (s : RRset) → shown_set (shown_set s) ≡ shown_set s
set_twice s =
    (λ i. record (shown_set s) { owner = spelled_twice s.owner s.ttl s.records i; records = ttl_twice s.ttl s.records i; signatures = ttl_twice s.ttl s.signatures i })

shown_twice : (o : Option RRset) → shown_if (shown_if o) ≡ shown_if o
shown_twice None = refl
shown_twice (Some s) = ap (λ (x : RRset). Some x) (set_twice s)

-- ---- a set that another version doesn't show

shows_shown : (b : Sets) (e : RrKey × RRset) → shows (shown b) (e.0, shown_set e.1) ≡ shows b e
shows_shown b e = λ i. same_at ((ap shown_if (found_shown b e.0) ∙ shown_twice (lookup (key_eq e.0) b)) i) (Some (set_twice e.1 i))

changed_shown : (soa : RrKey) (a b : Sets) → map shown_set (changed soa a b) ≡ changed soa (shown a) (shown b)
changed_shown soa [] b = refl
changed_shown soa (e ∷ a) b =
    by (is_changed soa b e) (changed_shown soa a b)
    ∙ ap (λ (c : Bool). map (λ (x : RrKey × RRset). x.1) (cond c ((e.0, shown_set e.1) ∷ filter (is_changed soa (shown b)) (shown a)) (filter (is_changed soa (shown b)) (shown a))))
    (sym (ap (λ (c : Bool). not (key_eq soa e.0) && not c) (shows_shown b e)))
  where
    by : (c : Bool) → map shown_set (changed soa a b) ≡ changed soa (shown a) (shown b)
        → map shown_set (map (λ (x : RrKey × RRset). x.1) (cond c (e ∷ filter (is_changed soa b) a) (filter (is_changed soa b) a)))
        ≡ map (λ (x : RrKey × RRset). x.1) (cond c ((e.0, shown_set e.1) ∷ filter (is_changed soa (shown b)) (shown a)) (filter (is_changed soa (shown b)) (shown a)))
    by true more = ap (λ (ss : List RRset). shown_set e.1 ∷ ss) more
    by false more = more

-- ---- a step

pub step_shown : (origin : Name) (a b : Sets) (s : Step) → IsStep origin a b s → IsStep origin (shown a) (shown b) (shown_step s)
step_shown origin a b s step = record {
  old_soa = found_shown a (key origin SOA) ∙ ap shown_if step.old_soa;
  deleted = ap (map shown_set) step.deleted ∙ changed_shown (key origin SOA) a b;
  new_soa = found_shown b (key origin SOA) ∙ ap shown_if step.new_soa;
  added = ap (map shown_set) step.added ∙ changed_shown (key origin SOA) b a;
}
