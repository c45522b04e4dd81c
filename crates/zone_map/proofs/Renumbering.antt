-- The sets of a zone stay those of a zone while some get another serial
use Rattle.std.proofs.Common.{◌≡◌, ℕ, Bool, true, false, cond, [], ◌∷◌, ◌==◌, map, refl, ap, ◌∙◌, subst}
use Rattle.std.specs.Prelude.{if◌then◌else◌}
use Rattle.std.specs.Map.{keys_of}
use Rattle.std.specs.Map.Calls.{RetainsPairs}
use Rattle.zone_proto.specs.declared.rr_key.RrKey.{RrKey}
use Rattle.zone_proto.specs.Names.{Name}
use Rattle.zone_proto.specs.Sets.{RRset}
use Rattle.zone_map.specs.Standing.{with_serial}
use Rattle.zone_map.specs.Zones.{Sets, IsStoredAt, IsZone}
use Rattle.zone_map.proofs.Renewing.{StandAs, keys_of-standing, IsZone-standing}

-- a pass over a map that changes each set by what its key is
module _ {F : Type 0} (T : F → RrKey → RRset → Bool → RRset → F → Type 0) (h : RrKey → RRset → RRset) (f : F)
    (steps : (k : RrKey) (v : RRset) (b : Bool) (w : RRset) (f' : F) → T f k v b w f' → (b ≡ true) × (w ≡ h k v) × (f' ≡ f)) where
  pub each_changed : (es kept : Sets) → RetainsPairs T f es kept → kept ≡ map (λ (e : RrKey × RRset). (e.0, h e.0 e.1)) es
  each_changed [] kept r = r
  each_changed (e ∷ es) kept (b, w, f', others, t, more, k) =
      let s = steps e.0 e.1 b w f' t in
      let rest = each_changed es others (subst (λ (u : F). RetainsPairs T u es others) s.2 more) in
      k ∙ ap (λ (c : Bool). cond c ((e.0, w) ∷ others) others) s.0 ∙ (λ i. (e.0, s.1 i) ∷ rest i)

StandAs-with_serial : (t serial : ℕ) (es : Sets) → StandAs es (with_serial t serial es)
StandAs-with_serial t serial [] = tt
StandAs-with_serial t serial (e ∷ es) = (refl, λ n u h. by (e.0.record_type.0 == t) n u h, StandAs-with_serial t serial es)
  where
    by : (b : Bool) (n : Name) (u : ℕ) → IsStoredAt n u e.1 → IsStoredAt n u (if b then record e.1 { serial = serial } else e.1)
    by true n u h = record { named = h.named; owner = h.owner; record_type = h.record_type; filled = h.filled; set = h.set }
    by false n u h = h

pub IsZone-with_serial : (t serial : ℕ) (es : Sets) → IsZone es → IsZone (with_serial t serial es)
IsZone-with_serial t serial es = IsZone-standing es (with_serial t serial es) (StandAs-with_serial t serial es)

-- the keys are what they were
pub keys_of-with_serial : (t serial : ℕ) (es : Sets) → keys_of (with_serial t serial es) ≡ keys_of es
keys_of-with_serial t serial es = keys_of-standing es (with_serial t serial es) (StandAs-with_serial t serial es)
