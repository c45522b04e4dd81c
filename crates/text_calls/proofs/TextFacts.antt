-- What the call does that writes a zone, from what its steps do
use Rattle.std.proofs.Common.{◌≡◌, ◌⊎◌, ℕ, List, true≢false, inl, inr, Ok, Err, Result, refl, sym, subst}
use Rattle.std.specs.Prelude.{Option, Some, None, IsErr}
use Rattle.call_handles.specs.Rooms.{IsUntouched}
use Rattle.zone_proto.specs.declared.error.ProtoError.{ProtoError}
use Rattle.zone_proto.specs.Names.{Name}
use Rattle.zone_database.specs.declared.outcome.Outcome.{Outcome}
use Rattle.zone_database.specs.declared.outcome.Outcome.TheVariants as outcomes
use Rattle.zone_database.specs.declared.zone.Zone.{Zone}
use Rattle.zone_database.specs.Calls.{IsGiven, WithName}
use Rattle.text_calls.specs.Texts.{zone_text, Ends, WritesAt, WritesZone}

module _ (written : ℕ) (before after : List ℕ) where
  -- an origin that isn't read ends the call
  pub unread : (o : Outcome) (read : Result Name ProtoError) (does : Name → Type 0) → (o ≡ outcomes.NoMemory) ⊎ ((o ≡ outcomes.BadName) × IsErr read) → IsUntouched written before after
      → WithName read does (Ends written before after o)
  unread o (Ok n) does (inl e) u = inr (e, u)
  unread o (Ok n) does (inr w) u = absurd (true≢false (sym w.1))
  unread o (Err e) does (inl e') u = inr (e', u)
  unread o (Err e) does (inr w) u = inl (w.0, u)

  -- the call goes on with the origin that is read
  pub read_on : (o : Outcome) (read : Result Name ProtoError) (n : Name) (does : Name → Type 0) → read ≡ Ok n → does n → WithName read does (Ends written before after o)
  read_on o read n does is d = subst (λ (r : Result Name ProtoError). WithName r does (Ends written before after o)) (sym is) (inl d)

  pub no_zone : (found : Option Zone) → found ≡ None → IsUntouched written before after → WritesAt found outcomes.NoZone written before after
  no_zone found none u = subst (λ (f : Option Zone). WritesAt f outcomes.NoZone written before after) (sym none) (refl, u)

  pub no_text : (found : Option Zone) (z : Zone) → found ≡ Some z → IsUntouched written before after → WritesAt found outcomes.NoMemory written before after
  no_text found z is u = subst (λ (f : Option Zone). WritesAt f outcomes.NoMemory written before after) (sym is) u

  given : (z : Zone) (o : Outcome) → IsGiven (zone_text z) o written before after → WritesZone z o written before after
  given z outcomes.NoMemory g = absurd g
  given z o g = g

  pub text_given : (found : Option Zone) (z : Zone) (text : List ℕ) (o : Outcome) → found ≡ Some z → text ≡ zone_text z → IsGiven text o written before after → WritesAt found o written before after
  text_given found z text o is t g =
      subst (λ (f : Option Zone). WritesAt f o written before after) (sym is) (given z o (subst (λ (x : List ℕ). IsGiven x o written before after) t g))
