use Rattle.zonectl_session.specs.Steps.{IsCircled, IsDenied, IsLookedUp, IsTransferred}
use Rattle.zonectl_session.proofs.Carrying.{carried, unchanged}
use Rattle.zonectl_session.proofs.session.carry_out.Goals as goal

pub returns-in-Add : goal.returns-in-Add
returns-in-Add c = carried c.args.served.now c.add.new.served c.args.command _ c.in-Add.is _ _ c.add.result c.add.ensures

pub returns-in-Drop : goal.returns-in-Drop
returns-in-Drop c = carried c.args.served.now c.drop_set.new.served c.args.command _ c.in-Drop.is _ _ c.drop_set.result c.drop_set.ensures

pub returns-in-Kind : goal.returns-in-Kind
returns-in-Kind c = carried c.args.served.now c.renew.new.served c.args.command _ c.in-Kind.is _ _ c.renew.result c.renew.ensures

pub returns-in-Key : goal.returns-in-Key
returns-in-Key c = carried c.args.served.now c.add_key.new.served c.args.command _ c.in-Key.is _ _ c.add_key.result c.add_key.ensures

pub returns-in-Secure : goal.returns-in-Secure
returns-in-Secure c = carried c.args.served.now c.secure.new.served c.args.command _ c.in-Secure.is _ _ c.secure.result c.secure.ensures

pub returns-in-Lookup : goal.returns-in-Lookup
returns-in-Lookup c =
    carried c.args.served.now c.args.served.now c.args.command _ c.in-Lookup.is _ _ c.lookup.result
    (unchanged c.args.served.now (IsLookedUp c.args.served.now c.in-Lookup.name c.in-Lookup.record_type.0 c.in-Lookup.options) _ _ c.lookup.result c.lookup.ensures)

pub returns-in-Deny : goal.returns-in-Deny
returns-in-Deny c =
    carried c.args.served.now c.args.served.now c.args.command _ c.in-Deny.is _ _ c.deny.result
    (unchanged c.args.served.now (IsDenied c.args.served.now c.in-Deny.key) _ _ c.deny.result c.deny.ensures)

pub returns-in-Circle : goal.returns-in-Circle
returns-in-Circle c =
    carried c.args.served.now c.args.served.now c.args.command _ c.in-Circle.is _ _ c.circle.result
    (unchanged c.args.served.now (IsCircled c.args.served.now) _ _ c.circle.result c.circle.ensures)

pub returns-in-Transfer : goal.returns-in-Transfer
returns-in-Transfer c =
    carried c.args.served.now c.args.served.now c.args.command _ c.in-Transfer.is _ _ c.transfer.result
    (unchanged c.args.served.now (IsTransferred c.args.served.now c.in-Transfer.options) _ _ c.transfer.result c.transfer.ensures)
