-- Worked examples of requests, computed from the definition
use Rattle.std.proofs.Common.{◌≡◌, ℕ, [], ◌∷◌, refl}
use Rattle.std.specs.Prelude.{codes, None, Err}
use Rattle.zone_proto.specs.declared.message.Query.{Query}
use Rattle.zone_proto.specs.Names.{Name}
use Rattle.zone_proto.specs.Types.{A, AAAA, IN}
use Rattle.zone_handler.specs.declared.auth_lookup.AuthLookup.{AuthLookup}
use Rattle.zone_handler.specs.declared.control_flow.LookupControlFlow.{LookupControlFlow}
use Rattle.zone_handler.specs.declared.control_flow.LookupControlFlow.TheVariants.{Continue, Break}
use Rattle.lookup_types.specs.declared.lookup_error.LookupError.{LookupError}
use Rattle.lookup_types.specs.declared.lookup_error.LookupError.TheVariants.{BadQueryCount, NameExists}
use Rattle.zone_in_memory.specs.Requests.{IsSearch}
use Rattle.zone_lookup.proofs.Examples.{at_apex}

abbrev www : Name
www = at_apex (codes "www")

abbrev asking : ℕ → Query
asking t = record { name = www; query_type = record { 0 = t }; query_class = record { 0 = IN } }

-- lookups that deny AAAA at www alone
abbrev Denies : Name → ℕ → LookupControlFlow AuthLookup LookupError → Type 0
Denies n t step = (n ≡ www) × (t ≡ AAAA) × (step ≡ Continue (Err NameExists))

one_question : IsSearch Denies (asking AAAA ∷ []) (Continue (Err NameExists), None)
one_question = ((refl, refl, refl), refl)

no_question : IsSearch Denies [] (Break (Err (BadQueryCount 0)), None)
no_question = refl

two_questions : IsSearch Denies (asking A ∷ asking AAAA ∷ []) (Break (Err (BadQueryCount 2)), None)
two_questions = refl

the_same_twice : IsSearch Denies (asking A ∷ asking A ∷ []) (Break (Err (BadQueryCount 2)), None)
the_same_twice = refl
