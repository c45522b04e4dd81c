-- The answer to a request, by its questions
use Rattle.std.proofs.Common.{◌≡◌, ℕ, List, [], ◌∷◌, length, refl, sym, ap, subst}
use Rattle.std.specs.Prelude.{None, Err}
use Rattle.zone_proto.specs.declared.message.Query.{Query}
use Rattle.zone_proto.specs.Names.{Name}
use Rattle.zone_handler.specs.declared.auth_lookup.AuthLookup.{AuthLookup}
use Rattle.zone_handler.specs.declared.control_flow.LookupControlFlow.{LookupControlFlow}
use Rattle.zone_handler.specs.declared.control_flow.LookupControlFlow.TheVariants.{Break}
use Rattle.lookup_types.specs.declared.lookup_error.LookupError.{LookupError}
use Rattle.lookup_types.specs.declared.lookup_error.LookupError.TheVariants.{BadQueryCount}
use Rattle.zone_in_memory.specs.Requests.{IsSearch}

module _ (IsAnswer : Name → ℕ → LookupControlFlow AuthLookup LookupError → Type 0) where
  -- one question
  pub one_answered : (queries : List Query) (query : Query) (n : Name) (t : ℕ) (step : LookupControlFlow AuthLookup LookupError) → queries ≡ query ∷ []
      → n ≡ query.name → t ≡ query.query_type.0 → IsAnswer n t step → IsSearch IsAnswer queries (step, None)
  one_answered queries query n t step e named typed a =
      subst (λ qs. IsSearch IsAnswer qs (step, None)) (sym e) (subst (λ x. IsAnswer query.name x step) typed (subst (λ x. IsAnswer x t step) named a), refl)

  -- any other number of them
  pub others_refused : (queries : List Query) (error : LookupError) → (length queries ≡ 1 → ⊥) → error ≡ BadQueryCount (length queries)
      → IsSearch IsAnswer queries (Break (Err error), None)
  others_refused [] error h e = ap (λ x. (Break (Err x), None)) e
  others_refused (query ∷ []) error h e = absurd (h refl)
  others_refused (query ∷ other ∷ others) error h e = ap (λ x. (Break (Err x), None)) e
