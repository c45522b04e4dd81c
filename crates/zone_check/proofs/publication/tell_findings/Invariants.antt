use Rattle.std.proofs.Common.{◌≡◌, ◌&&◌, drop}
use Rattle.std.specs.List.{list_all}
use Rattle.zone_publication.specs.declared.finding.Finding.{Finding}
use Rattle.zone_publication.specs.Warnings.{is_allowed}
use Rattle.zone_check.proofs.publication.tell_findings.Given as goal

abbrev pub invariant-loop-finding : goal.invariant-loop-finding
invariant-loop-finding g l = (l.is_ready && list_all (λ (f : Finding). is_allowed l.wanted.is_strict f.what) (drop l.finding-index l.found)) ≡ list_all (λ (f : Finding). is_allowed l.wanted.is_strict f.what) l.found
