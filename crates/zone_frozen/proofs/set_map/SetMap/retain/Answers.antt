use Rattle.std.proofs.Common.{sym, ap, ◌∙◌, subst}
use Rattle.std.specs.Map.Calls.{CalledAtPair, RetainsPairs}
use Rattle.zone_frozen.specs.Keeping.{sets_kept}
use Rattle.zone_frozen.specs.Sets.{Sets}
use Rattle.zone_frozen.proofs.set_map.SetMap.retain.Goals as goal
use Rattle.zone_frozen.proofs.set_map.SetMap.retain.Goals.{in-InMap, in-InList}

pub returns : goal.returns
returns g c = elim c.match-self.branch [
  | in-InMap w ↦
      subst (λ (n : Sets). RetainsPairs (CalledAtPair g.F.FnMut) c.args.keep c.args.self.now n) (sym (ap (λ i. sets_kept i.kept) w.self-inside-is))
      (subst (λ (m : Sets). RetainsPairs (CalledAtPair g.F.FnMut) c.args.keep m w.retain.new.self.entries) (sym (ap sets_kept w.in-InMap.is) ∙ c.self.view_is) w.retain.ensures.filtered)
  | in-InList w ↦
      subst (λ (n : Sets). RetainsPairs (CalledAtPair g.F.FnMut) c.args.keep c.args.self.now n) (sym (ap (λ i. sets_kept i.kept) w.self-inside-is))
      (subst (λ (m : Sets). RetainsPairs (CalledAtPair g.F.FnMut) c.args.keep m w.retain-in-InList.new.self) (sym (ap sets_kept w.in-InList.is) ∙ c.self.view_is) w.retain-in-InList.ensures.kept)
]
