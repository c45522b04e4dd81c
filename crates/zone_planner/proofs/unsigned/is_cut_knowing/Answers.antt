use Rattle.std.proofs.Common.{sym, ◌≡◌, true, false}
use Rattle.zone_planner.specs.Zones.{is_cut}
use Rattle.zone_planner.proofs.EachSigner.{known_of}
use Rattle.zone_planner.proofs.unsigned.is_cut_knowing.Goals as goal

pub returns-then-is_same-clause-ok : goal.returns-then-is_same-clause-ok
returns-then-is_same-clause-ok c =
    sym (known_of (λ n. is_cut c.args.origin.now c.args.records.now n ≡ true) c.args.cut c.args.name.now c.requires.cut (c.is_same.ensures c.if-is_same.true))

pub returns-then-is_same-2-clause-ok : goal.returns-then-is_same-2-clause-ok
returns-then-is_same-2-clause-ok c =
    sym (known_of (λ n. is_cut c.args.origin.now c.args.records.now n ≡ false) c.args.no_cut c.args.name.now c.requires.no_cut (c.is_same-2.ensures c.if-is_same-2.true))
