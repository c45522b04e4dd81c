-- What the calls of a program do to the zones that it keeps, from what is done to a database
use Rattle.std.proofs.Common.{◌≡◌, ◌⊎◌, true≢false, inl, inr, Ok, Err, Result, refl, sym, subst}
use Rattle.std.specs.Prelude.{Option, Some, List, IsErr}
use Rattle.zone_proto.specs.declared.error.ProtoError.{ProtoError}
use Rattle.zone_proto.specs.Names.{Name}
use Rattle.zone_database.specs.declared.database.ZoneDatabase.{ZoneDatabase}
use Rattle.zone_database.specs.declared.outcome.Outcome.{Outcome}
use Rattle.zone_database.specs.declared.outcome.Outcome.TheVariants.{NoMemory, BadName}
use Rattle.zone_database.specs.declared.zone.Zone.{Zone}
use Rattle.zone_database.specs.Databases.{zones_in}
use Rattle.zone_database.specs.Calls.{AsksHeld, ChangesHeld, Ends, WithName}

-- an origin that isn't read ends the call
pub unread : {X : Type 0} (x : X) (o : Outcome) (read : Result Name ProtoError) (does : Name → Type 0) → (o ≡ NoMemory) ⊎ ((o ≡ BadName) × IsErr read) → WithName read does (Ends x o x)
unread x o (Ok n) does (inl e) = inr (e, refl)
unread x o (Ok n) does (inr w) = absurd (true≢false (sym w.1))
unread x o (Err e) does (inl e') = inr (e', refl)
unread x o (Err e) does (inr w) = inl (w.0, refl)

-- the call goes on with the origin that is read
pub read_on : {X : Type 0} (x y : X) (o : Outcome) (read : Result Name ProtoError) (n : Name) (does : Name → Type 0) → read ≡ Ok n → does n → WithName read does (Ends x o y)
read_on x y o read n does is d = subst (λ (r : Result Name ProtoError). WithName r does (Ends x o y)) (sym is) (inl d)

-- a database is taken out, changed and put back
pub changed : (does : List Zone → Outcome → List Zone → Type 0) (held new : Option ZoneDatabase) (c after : ZoneDatabase) (o : Outcome) → held ≡ Some c → does (zones_in c) o (zones_in after) → new ≡ Some after → ChangesHeld does held o new
changed does held new c after o is d set = subst (λ (h : Option ZoneDatabase). ChangesHeld does h o new) (sym is) (after, d, set)

-- a database is asked
pub asked : (does : List Zone → Outcome → Type 0) (unchanged : Type 0) (held : Option ZoneDatabase) (c : ZoneDatabase) (o : Outcome) → held ≡ Some c → does (zones_in c) o → AsksHeld does unchanged held o
asked does unchanged held c o is d = subst (λ (h : Option ZoneDatabase). AsksHeld does unchanged h o) (sym is) d
