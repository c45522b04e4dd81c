-- What is found of a zone before it is published
use Rattle.std.specs.Prelude.{ℕ, List, [], ◌++◌, if◌then◌else◌}
use Rattle.std.specs.List.{flat_map}
use Rattle.zone_proto.specs.declared.record.Record.{Record}
use Rattle.zone_proto.specs.Names.{Name}
use Rattle.zone_proto.specs.Sets.{RRset}
use Rattle.zone_map.specs.Zones.{Sets}
use Rattle.zone_publication.specs.declared.finding.Finding.{Finding}
use Rattle.zone_publication.specs.declared.dates.Period.{Period}
use Rattle.zone_publication.specs.Delegations.{below_dname, digests, placing}
use Rattle.zone_publication.specs.Names.{is_below_cut}
use Rattle.zone_publication.specs.Requests.{requests}
use Rattle.zone_publication.specs.Signatures.{apex_algorithms, signatures}
use Rattle.zone_publication.specs.Targets.{targets}

-- of the records of a set: their digests, their requests to the parent, and their targets
abbrev pub of_records : Name → Sets → Name → ℕ → List Record → List Finding
of_records origin m n t rs = digests n t rs ++ (requests origin m n t rs ++ targets origin m n t rs)

-- of a set: where it stands, its records, and its signatures; nothing of one below a zone cut
abbrev pub set_findings : Name → Period → List ℕ → Sets → Name → ℕ → RRset → List Finding
set_findings origin period algorithms m n t s =
    if is_below_cut origin m n then []
    else placing origin m n t
    ++ (below_dname origin m n t
    ++ (of_records origin m n t s.records
    ++ signatures origin period algorithms m n t s))

-- of a zone: of its sets, by owner in canonical order and by type
abbrev pub findings : Name → Period → Sets → List Finding
findings origin period m = flat_map (λ e. set_findings origin period (apex_algorithms origin m) m e.0.name e.0.record_type.0 e.1) m
