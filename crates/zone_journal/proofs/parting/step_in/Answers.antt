use Rattle.std.proofs.Common.{◌≡◌, true, sym, ap, ◌∙◌}
use Rattle.std.specs.List.{position}
use Rattle.zone_journal.specs.Entries.{as_step, is_soa}
use Rattle.zone_journal.proofs.Parted.{step_is}
use Rattle.zone_journal.proofs.parting.step_in.Goals as goal

pub returns : goal.returns
returns c =
    let soa : is_soa c.in-Some.old_soa ≡ true = sym c.is_soa.ensures ∙ c.if-not-is_soa.false in
    step_is c.args.sets.items c.in-Some.deleted.items c.split_off.new.self.items c.in_ok-behind.behind.items c.in-Some.old_soa c.in-Some-soa_at.at (as_step c.step_with.result)
    c.in-Some.ensures soa (c.in-Some-soa_at.ensures ∙ ap (position is_soa) c.as_slice.ensures.value) c.in_ok-behind.ensures.items c.in_ok-behind.ensures.tail c.step_with.ensures
