use Rattle.std.proofs.Common.{◌≡◌}
use Rattle.zone_proto.specs.Names.{lower}
use Rattle.denial_validation.specs.NsecProofs.{shown_encloser}
use Rattle.denial_validation.proofs.nsec_record.LentNsec.shown_encloser.Given as goal

abbrev pub invariant-loop-ancestor : goal.invariant-loop-ancestor
invariant-loop-ancestor l = record {
  callable : (goal.iterator-loop-ancestor).can_next l.ancestor;
  finite : (goal.iterator-loop-ancestor).is_finite l.ancestor;
  low : lower l.ancestor ≡ l.ancestor;
  found : shown_encloser l.fn.self l.ancestor ≡ shown_encloser l.fn.self l.fn.name;
}
