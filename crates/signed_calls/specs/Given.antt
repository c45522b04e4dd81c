-- The signed zone that a caller lets updates change, and how it is signed
use Rattle.std.specs.Prelude.{◌≡◌, List, Some, None, Ok, IsErr}
use Rattle.zone_proto.specs.declared.rdata.signing.DNSKEY.{DNSKEY}
use Rattle.zone_proto.specs.Names.{Name, lower}
use Rattle.zone_keeping.specs.declared.span.Span.{Span}
use Rattle.zone_database.specs.Calls.{origin_of}
use Rattle.held_plans.specs.Keys.{AreKeys, AreNoKeys}
use Rattle.plan_calls.specs.declared.outcome.PlanOutcome.{PlanOutcome}
use Rattle.plan_calls.specs.declared.outcome.PlanOutcome.TheVariants.{BadName, NoMemory, BadKeys, BadDenial}
use Rattle.plan_calls.specs.declared.signing.Signing.{Signing as How}
use Rattle.plan_calls.specs.Beginning.{planned_keys}
use Rattle.plan_calls.specs.Signings.{kind_of, request_of}
use Rattle.update_denials.specs.declared.preparing.Signing.{Signing}
use Rattle.signed_calls.specs.declared.signed_zone.SignedZone.{SignedZone}

-- from when until when signatures have to hold that stay
abbrev pub span_of : SignedZone → Span
span_of z = record { from = z.held_from; until = z.held_until }

-- what is given is the zone of this origin, which is signed so: by its keys, by their flags, and with these denials
pub record IsGiven (z : SignedZone) (how : How) (origin : Name) (s : Signing) : Type 0 where
  pub named : (name : Name) × (origin_of z.origin.now ≡ Ok name) × (origin ≡ lower name)
  pub keys : (ks : List DNSKEY) × AreKeys z.keys.now ks × (s.keys.items ≡ planned_keys how ks)
  pub denial : kind_of how z.salt.now ≡ Some s.request.nx_proof_kind
  pub request : s.request ≡ request_of how s.request.nx_proof_kind
  pub span : s.span ≡ span_of z

-- for each refusal what isn't so; of memory nothing is said
abbrev pub IsNotGiven : SignedZone → How → PlanOutcome → Type 0
IsNotGiven z how BadName = IsErr (origin_of z.origin.now)
IsNotGiven z how BadKeys = AreNoKeys z.keys.now
IsNotGiven z how BadDenial = kind_of how z.salt.now ≡ None
IsNotGiven z how NoMemory = Unit {0}
IsNotGiven z how outcome = ⊥
