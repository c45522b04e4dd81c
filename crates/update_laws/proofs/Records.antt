-- Sets that get other signatures keep their records
use Rattle.std.proofs.Common.{◌≡◌, ℕ, Bool, true, false, cond, List, [], ◌∷◌, refl, sym, ap, ◌∙◌}
use Rattle.std.specs.Prelude.{Option, Some, None, is_some, option_map}
use Rattle.std.specs.Map.{lookup}
use Rattle.zone_proto.specs.declared.record.Record.{Record}
use Rattle.zone_proto.specs.declared.rr_key.RrKey.{RrKey}
use Rattle.zone_proto.specs.Keys.{key, key_eq}
use Rattle.zone_proto.specs.Names.{Name}
use Rattle.zone_proto.specs.Sets.{RRset}
use Rattle.zone_map.specs.Renewals.{with_signatures}
use Rattle.zone_map.specs.Zones.{Sets, set_at, owns}

-- the records of a set that may be there
abbrev pub records_of : Option RRset → Option (List Record)
records_of o = option_map (λ (s : RRset). s.records) o

stay : (q : RrKey) (m : Sets) (made : List (List Record)) → records_of (lookup (key_eq q) (with_signatures m made)) ≡ records_of (lookup (key_eq q) m)
stay q [] made = refl
stay q (e ∷ m) [] = refl
stay q (e ∷ m) (signatures ∷ made) = by (key_eq q e.0) (stay q m made)
  where
    by : (b : Bool) → records_of (lookup (key_eq q) (with_signatures m made)) ≡ records_of (lookup (key_eq q) m)
        → records_of (cond b (Some (record e.1 { signatures = signatures })) (lookup (key_eq q) (with_signatures m made))) ≡ records_of (cond b (Some e.1) (lookup (key_eq q) m))
    by true h = refl
    by false h = h

pub records_stay : (m : Sets) (made : List (List Record)) (n : Name) (t : ℕ) → records_of (set_at (with_signatures m made) n t) ≡ records_of (set_at m n t)
records_stay m made n t = stay (key n t) m made

has_records : (o : Option RRset) → is_some (records_of o) ≡ is_some o
has_records None = refl
has_records (Some s) = refl

-- who has the same records owns the same
pub owned_as : (a b : Sets) (n : Name) (t : ℕ) → records_of (set_at a n t) ≡ records_of (set_at b n t) → owns a n t ≡ owns b n t
owned_as a b n t same = sym (has_records (set_at a n t)) ∙ ap is_some same ∙ has_records (set_at b n t)
