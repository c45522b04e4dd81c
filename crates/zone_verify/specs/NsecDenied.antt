-- Names that the program has found, with the lists of their NSEC sets
use Rattle.std.specs.Prelude.{◌≡◌, option_copied}
use Rattle.zone_proto.specs.Names.{Name}
use Rattle.zone_map.specs.Zones.{Sets}
use Rattle.zone_denial.specs.Chains.{is_delegation}
use Rattle.zone_verify.specs.declared.nsec.Denied.{Denied}
use Rattle.zone_verify.specs.NsecNames.{IsDenied}

-- it is known whether this is a delegation, and the name has the set that it has to have
abbrev pub IsDeniedBy : Name → Sets → Sets → Denied → Type 0
IsDeniedBy origin beside m d = (d.site.is_delegation ≡ is_delegation origin m d.site.name.now) × IsDenied origin beside m d.site.name.now (option_copied d.types)
