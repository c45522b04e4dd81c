-- A version that can be sent can be sent as answers show it
use Rattle.std.proofs.Common.{◌≡◌, ℕ, List, [], ◌∷◌, ◌++◌, refl, sym, ap, ◌∙◌, subst}
use Rattle.std.specs.Prelude.{map, Option, Some, None}
use Rattle.std.specs.Map.{lookup}
use Rattle.std.proofs.lemmas.List.{map-append}
use Rattle.std.proofs.lemmas.List.Elements.{All-map}
use Rattle.zone_proto.specs.Data.{type_of}
use Rattle.zone_proto.specs.Keys.{key, key_eq}
use Rattle.zone_proto.specs.Names.{Name, lower}
use Rattle.zone_proto.specs.Sets.{RRset, first_serial}
use Rattle.zone_proto.specs.Types.{RRSIG, SOA}
use Rattle.zone_proto.specs.declared.record.Record.{Record}
use Rattle.zone_proto.specs.declared.rr_key.RrKey.{RrKey}
use Rattle.zone_map.specs.Zones.{Sets}
use Rattle.shown_zones.specs.Sending.{sent}
use Rattle.shown_zones.specs.Shown.{shown, shown_if, shown_set, with_ttl}
use Rattle.shown_zones.proofs.Shows.{found_shown, shown_zone}
use Rattle.incremental_laws.specs.Versions.{AreKept, IsVersion}
use Rattle.recalled_steps.proofs.ShownSteps.{ttl_twice}

sent_shown : (s : RRset) → sent (shown_set s) ≡ sent s
sent_shown s =
    ap (map (with_ttl s.ttl)) (sym (map-append (with_ttl s.ttl) s.records s.signatures)) ∙ ttl_twice s.ttl (s.records ++ s.signatures)

serial_shown : (ttl : ℕ) (rs : List Record) → first_serial (map (with_ttl ttl) rs) ≡ first_serial rs
serial_shown ttl [] = refl
serial_shown ttl (r ∷ rs) = refl

pub version_shown : (origin : Name) (serial : ℕ) (m : Sets) → IsVersion origin serial m → IsVersion origin serial (shown m)
version_shown origin serial m v = record {
  zone = shown_zone m v.zone;
  kept = λ k s e. by k s (lookup (key_eq k) m) refl (sym (found_shown m k) ∙ e);
  soa = shown_set v.soa;
  stands = found_shown m (key (lower origin) SOA) ∙ ap shown_if v.stands;
  serial_is = serial_shown v.soa.ttl v.soa.records ∙ v.serial_is;
  signed = All-map (λ (r : Record). type_of r.rdata ≡ RRSIG) (with_ttl v.soa.ttl) v.soa.signatures v.signed;
}
  where
    by : (k : RrKey) (s : RRset) (o : Option RRset) → lookup (key_eq k) m ≡ o → shown_if o ≡ Some s → AreKept origin k (sent s)
    by k s None f e = absurd cc
    by k s (Some u) f e =
        let same : shown_set u ≡ s = cc in
        subst (λ (x : RRset). AreKept origin k (sent x)) same (subst (AreKept origin k) (sym (sent_shown u)) (v.kept k u f))
