use Rattle.std.proofs.Common.{refl}
use Rattle.zone_handler.proofs.auth_lookup.AuthLookup.take_additionals.Goals as goal

pub returns-in-Response-clause-left : goal.returns-in-Response-clause-left
returns-in-Response-clause-left c =
    rw c.in-Response.is (_, refl, refl, refl, rw c.replace-taken.ensures.after c.new.ensures.items)
