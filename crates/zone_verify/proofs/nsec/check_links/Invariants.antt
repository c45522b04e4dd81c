use Rattle.std.proofs.Common.{◌≡◌, ◌⊎◌, drop}
use Rattle.std.specs.Prelude.{Some}
use Rattle.std.specs.Borrow.{Bor}
use Rattle.zone_proto.specs.declared.rr_key.RrKey.{RrKey}
use Rattle.zone_proto.specs.Sets.{RRset}
use Rattle.zone_proto.proofs.Members.{In}
use Rattle.zone_denial.specs.Chains.{next_owner}
use Rattle.zone_denial.specs.NsecCircle.{next_of}
use Rattle.zone_verify.proofs.nsec.check_links.Given as goal

-- each set that isn't left leads to the next owner
abbrev pub invariant-loop-i : goal.invariant-loop-i
invariant-loop-i l =
    (e : Bor RrKey × Bor RRset) → In e l.entries.items → In e (drop l.i l.entries.items) ⊎ (next_of e.1.now ≡ Some (next_owner l.origin l.records e.0.now.name))
