use Rattle.std.proofs.Common.{Option, option_copied, sym, ap, subst}
use Rattle.hashed_changes.specs.declared.places.Place.{Place}
use Rattle.hashed_changes.specs.Places.{places_of, IsNextPlace}
use Rattle.hashed_changes.proofs.places.next_of.Goals as goal

pub returns-in-Some : goal.returns-in-Some
returns-in-Some c =
    subst (λ (kept : Option Place). IsNextPlace c.args.owner.now (places_of kept c.args.fresh.now) (option_copied c.first_of.result)) (sym (ap option_copied c.in-Some.is))
    (c.first_of.ensures c.args.fresh.now c.next_among-next.ensures)
