-- Sets by their keys, of which some go, new ones come and each is changed
use Rattle.std.proofs.Common.{◌≡◌, ℕ, Bool, true, false, List, [], ◌∷◌, cond, refl, sym, ap, ◌∙◌}
use Rattle.std.specs.Prelude.{Option, Some, None, IfSome, ◌==◌, ◌&&◌, not, map, is_some, option_map, if◌then◌else◌}
use Rattle.std.specs.Cmp.{nat_eq_equiv}
use Rattle.std.specs.List.{list_any, cons_option}
use Rattle.std.specs.Option.{option_or}
use Rattle.std.specs.Map.{lookup, keys_of}
use Rattle.std.proofs.lemmas.Map.Made.{is_some-lookup}
use Rattle.std.proofs.lemmas.Map.Views.{any-filter_same}
use Rattle.zone_proto.specs.declared.rr_key.RrKey.{RrKey}
use Rattle.zone_proto.specs.Keys.{key, key_eq}
use Rattle.zone_proto.specs.Names.{Name}
use Rattle.zone_proto.specs.Sets.{RRset}
use Rattle.zone_proto.proofs.Ordering.KeyOrder.{key_same}
use Rattle.zone_map.specs.Puts.{without_all}
use Rattle.zone_map.specs.Zones.{Sets, set_at, owns, owners, without, IsZone}
use Rattle.zone_map.proofs.Stored.{IsZone-without}
use Rattle.zone_signing.specs.Secured.{stays, goes, gone, unsigned_at}

-- sets, each changed by what its key is
abbrev pub changed : (RrKey → RRset → RRset) → Sets → Sets
changed h es = map (λ (e : RrKey × RRset). (e.0, h e.0 e.1)) es

pub lookup-changed : (h : RrKey → RRset → RRset) (q : RrKey) (es : Sets) → lookup (key_eq q) (changed h es) ≡ option_map (h q) (lookup (key_eq q) es)
lookup-changed h q [] = refl
lookup-changed h q (e ∷ es) = by (key_eq q e.0) refl (lookup-changed h q es)
  where
    by : (b : Bool) → key_eq q e.0 ≡ b → lookup (key_eq q) (changed h es) ≡ option_map (h q) (lookup (key_eq q) es)
        → cond b (Some (h e.0 e.1)) (lookup (key_eq q) (changed h es)) ≡ option_map (h q) (cond b (Some e.1) (lookup (key_eq q) es))
    by true k i = ap (λ (x : RrKey). Some (h x e.1)) (sym (key_same q e.0 k))
    by false k i = i

-- ---- sets that are taken out

-- what is of a type that stays doesn't go
pub goes-stays : (denials : Option ℕ) (fresh : Sets) (k : RrKey) → stays denials k.record_type.0 ≡ true → goes denials fresh k ≡ false
goes-stays denials fresh k stay = ap (λ b. not b && not (owns fresh k.name k.record_type.0)) stay

-- anything else goes, unless the new denials have its key
pub goes-else : (denials : Option ℕ) (fresh : Sets) (k : RrKey) (b : Bool) → stays denials k.record_type.0 ≡ false → list_any (key_eq k) (keys_of fresh) ≡ b → goes denials fresh k ≡ not b
goes-else denials fresh k b leave has = ap (λ x. not x && not (owns fresh k.name k.record_type.0)) leave ∙ ap not (is_some-lookup (key_eq k) fresh ∙ has)

-- where no set of the type stands, none goes
pub none_gone : (denials : Option ℕ) (fresh zone : Sets) → IfSome denials (λ t. owners zone t ≡ []) → gone denials fresh zone ≡ []
none_gone None fresh [] h = refl
none_gone None fresh (e ∷ zone) h = none_gone None fresh zone h
none_gone (Some t) fresh [] h = refl
none_gone (Some t) fresh (e ∷ zone) h = by (t == e.0.record_type.0) refl h (none_gone (Some t) fresh zone)
  where
    by : (b : Bool) → (t == e.0.record_type.0) ≡ b → cons_option (cond b (Some e.0.name) None) (owners zone t) ≡ [] → (owners zone t ≡ [] → gone (Some t) fresh zone ≡ [])
        → gone (Some t) fresh (e ∷ zone) ≡ []
    by true g h i = absurd cc
    by false g h i =
        ap (λ b. cond (not (not b) && not (owns fresh e.0.name e.0.record_type.0)) (e.0 ∷ gone (Some t) fresh zone) (gone (Some t) fresh zone)) (nat_eq_equiv.symm e.0.record_type.0 t ∙ g)
        ∙ i h

pub IsZone-without_all : (m : Sets) (ks : List RrKey) → IsZone m → IsZone (without_all m ks)
IsZone-without_all m [] zone = zone
IsZone-without_all m (k ∷ ks) zone = IsZone-without_all (without m k.name k.record_type.0) ks (IsZone-without m k zone)

-- once those that go are taken out, what is left of the new denials and of the zone, each changed, is what was to be changed
pub unsigned_left : (f : RRset → RRset) (denials : Option ℕ) (zone fresh : Sets) (n : Name) (t : ℕ)
    → cond (list_any (key_eq (key n t)) (gone denials fresh zone)) None (option_map f (option_or (set_at fresh n t) (set_at zone n t))) ≡ option_map f (unsigned_at denials zone fresh n t)
unsigned_left f denials zone fresh n t =
    let q = key n t in
    let told : list_any (key_eq q) (gone denials fresh zone) ≡ goes denials fresh q && is_some (set_at zone n t) =
    any-filter_same (key_eq q) (goes denials fresh) (goes denials fresh q) (λ k same. ap (goes denials fresh) (sym (key_same q k same))) (keys_of zone)
    ∙ ap (λ b. goes denials fresh q && b) (sym (is_some-lookup (key_eq q) zone)) in
    ap (λ b. cond b None (option_map f (option_or (set_at fresh n t) (set_at zone n t)))) told ∙ by (stays denials t) (set_at fresh n t) (set_at zone n t)
  where
    by : (b : Bool) (o u : Option RRset) → cond ((not b && not (is_some o)) && is_some u) None (option_map f (option_or o u)) ≡ option_map f (option_or o (if b then u else None))
    by true o u = refl
    by false (Some s) u = refl
    by false None None = refl
    by false None (Some s) = refl
