-- The zone that is loaded of records as they are given is theirs, or what is wrong with it is wrong with them
use Rattle.std.proofs.Common.{◌≡◌, ℕ, List, ap, subst, ◌∙◌}
use Rattle.std.specs.Prelude.{Some, None}
use Rattle.std.specs.List.{find}
use Rattle.zone_proto.specs.Names.{Name}
use Rattle.zone_proto.specs.declared.record.Record.{Record}
use Rattle.zone_map.specs.Upserts.{CnamesStandAlone}
use Rattle.zone_map.specs.Zones.{set_at, IsZone, Sets}
use Rattle.zone_builder.specs.declared.fault.LoadFault.{LoadFault}
use Rattle.zone_builder.specs.declared.given.GivenRecord.{GivenRecord}
use Rattle.zone_builder.specs.declared.warning.LoadWarning.{LoadWarning}
use Rattle.zone_builder.specs.Faults.{IsFault, IsFaultless}
use Rattle.zone_builder.specs.Sets.{loaded_set}
use Rattle.zone_builder.specs.Warnings.{AreWarnings}
use Rattle.transferred_zones.specs.TransferredZones.{given, is_left_out, IsFirstLeftOut, IsZoneOf}
use Rattle.transferred_zones.proofs.LeftOut.{none_left_out}

module _ (origin : Name) (rs : List Record) (gs : List GivenRecord) (as_given : gs ≡ given rs) where
  pub is_theirs : (m : Sets) (ws : List LoadWarning) → ((n : Name) (t : ℕ) → set_at m n t ≡ loaded_set origin gs n t) → IsZone m → CnamesStandAlone m
      → AreWarnings origin gs ws → IsFaultless origin gs → find is_left_out ws ≡ None → IsZoneOf origin rs m
  is_theirs m ws sets zone cnames warnings faultless none = record {
    sets = λ n t. sets n t ∙ ap (λ xs. loaded_set origin xs n t) as_given;
    zone = zone;
    cnames = cnames;
    faultless = subst (IsFaultless origin) as_given faultless;
    whole = none_left_out origin rs ws (subst (λ xs. AreWarnings origin xs ws) as_given warnings) none;
  }

  pub is_wrong : (e : LoadFault) → IsFault origin gs e → IsFault origin (given rs) e
  is_wrong e wrong = subst (λ xs. IsFault origin xs e) as_given wrong

  pub is_first : (w : LoadWarning) (ws : List LoadWarning) → AreWarnings origin gs ws → find is_left_out ws ≡ Some w → IsFirstLeftOut origin (given rs) w
  is_first w ws warnings found = (ws, subst (λ xs. AreWarnings origin xs ws) as_given warnings, found)
