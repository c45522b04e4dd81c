use Rattle.std.proofs.Common.{[], refl, sym, ap, ◌∙◌, subst}
use Rattle.std.specs.BTreeMap.{BTreeMap}
use Rattle.std.specs.Map.{lookup}
use Rattle.zone_proto.specs.declared.rr_key.RrKey.{RrKey}
use Rattle.zone_proto.specs.Keys.{key_eq}
use Rattle.zone_proto.specs.Sets.{RRset}
use Rattle.zone_frozen.specs.Keeping.{sets_kept}
use Rattle.zone_frozen.specs.Sets.{Sets, MovesSets}
use Rattle.zone_frozen.proofs.set_map.SetMap.append.Goals as goal
use Rattle.zone_frozen.proofs.set_map.SetMap.append.Goals.{in-InMap, in-InList}

pub returns-in_err-thaw-clause-moved : goal.returns-in_err-thaw-clause-moved
returns-in_err-thaw-clause-moved c = ([], refl, ((λ k. ap (lookup (key_eq k)) c.thaw.ensures.same), c.thaw.ensures.ordered))

pub returns-clause-moved : goal.returns-clause-moved
returns-clause-moved c = elim c.match-self.branch [
  | in-InMap w ↦
      subst (λ (o : Sets). MovesSets o c.args.more.now.entries _ c.match-self.more.entries) (sym (ap sets_kept w.in-InMap.is) ∙ c.self.view_is ∙ c.thaw.ensures.same)
      (subst (λ (n : Sets). MovesSets w.in-InMap.map.entries c.args.more.now.entries n c.match-self.more.entries) (sym (ap (λ i. sets_kept i.kept) w.self-inside-is))
      (subst (λ (r : BTreeMap RrKey RRset). MovesSets w.in-InMap.map.entries c.args.more.now.entries w.append.new.self.entries r.entries) (sym w.more-is) w.append.ensures.moves))
  | in-InList w ↦
      subst (λ (n : Sets). MovesSets c.args.self.now c.args.more.now.entries n c.match-self.more.entries) (sym (ap (λ i. sets_kept i.kept) w.self-inside-is ∙ c.self.view_is))
      (subst (λ (r : BTreeMap RrKey RRset). MovesSets c.args.self.now c.args.more.now.entries c.thaw.new.self r.entries) (sym w.more-is)
      ([], refl, ((λ k. ap (lookup (key_eq k)) c.thaw.ensures.same), c.thaw.ensures.ordered)))
]
