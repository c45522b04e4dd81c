use Rattle.std.proofs.Common.{Bor, ◌≡◌, true, false, sym, ap, ◌∙◌}
use Rattle.std.specs.List.{list_any}
use Rattle.zone_proto.specs.Names.{same_name}
use Rattle.zone_proto.specs.Sets.{RRset}
use Rattle.zone_response.proofs.SetLists.{listed_already, listed_last}
use Rattle.zone_response.proofs.denials.add_new.Goals as goal

pub returns-then-is_owner_listed-clause-ok : goal.returns-then-is_owner_listed-clause-ok
returns-then-is_owner_listed-clause-ok c =
    let same = λ (b : Bor RRset). same_name b.now.owner c.args.set.now.owner in
    let known : list_any same c.args.sets.now.items ≡ true = ap (list_any same) (sym c.deref.ensures.value) ∙ sym c.is_owner_listed.ensures ∙ c.if-is_owner_listed.true in
    listed_already c.args.sets.now.items c.args.set known

pub returns-clause-ok : goal.returns-clause-ok
returns-clause-ok c =
    let same = λ (b : Bor RRset). same_name b.now.owner c.args.set.now.owner in
    let new : list_any same c.args.sets.now.items ≡ false = ap (list_any same) (sym c.deref.ensures.value) ∙ sym c.is_owner_listed.ensures ∙ c.if-is_owner_listed.false in
    listed_last c.args.sets.now.items c.args.set c.push.new.self.items new c.in_ok-push.ensures.items
