-- The transfer of a zone, by the questions of a request and by what a lookup of the SOA answers
use Rattle.std.proofs.Common.{◌≡◌, ◌≢◌, List, [], ◌∷◌, length, refl, sym, ap, inl, inr, subst}
use Rattle.std.specs.Prelude.{Some, Result, Ok, Err, IfOk}
use Rattle.zone_proto.specs.declared.message.Query.{Query}
use Rattle.zone_handler.specs.declared.auth_lookup.AuthLookup.{AuthLookup}
use Rattle.zone_handler.specs.declared.auth_lookup.AuthLookup.TheVariants as answer
use Rattle.zone_handler.specs.declared.axfr_policy.AxfrPolicy.{AxfrPolicy}
use Rattle.zone_handler.specs.declared.control_flow.LookupControlFlow.TheVariants.{Continue}
use Rattle.lookup_types.specs.declared.lookup_error.LookupError.{LookupError}
use Rattle.lookup_types.specs.declared.lookup_error.LookupError.TheVariants as error
use Rattle.lookup_types.specs.declared.lookup_options.LookupOptions.{LookupOptions}
use Rattle.zone_handler.specs.declared.lookup_records.LookupRecords.{LookupRecords}
use Rattle.zone_handler.specs.declared.lookup_records.LookupRecords.TheVariants as section
use Rattle.zone_handler.specs.AuthLookup.{zone_answers}
use Rattle.zone_lookup.specs.Replies.{Reply, negative, answered}
use Rattle.zone_in_memory.specs.KeptReplies.{KeepsAnswers}
use Rattle.zone_in_memory.specs.Lookup.{SaysOrMemory}
use Rattle.zone_in_memory.specs.Transfers.{refusal, HasAnswers}

-- a request that hasn't one question is refused for their number
pub others_refused : (policy : AxfrPolicy) (queries : List Query) (e : LookupError) → (length queries ≡ 1 → ⊥) → e ≡ error.BadQueryCount (length queries) → Some e ≡ refusal policy queries
others_refused policy [] e h r = ap Some r
others_refused policy (q ∷ []) e h r = absurd (h refl)
others_refused policy (q ∷ p ∷ qs) e h r = ap Some r

module _ (options : LookupOptions) (IsTheReply : Reply → Type 0) where
  -- the answer section of an answer
  pub part_answered : (a : AuthLookup) → SaysOrMemory options IsTheReply (Continue (Ok a)) → (r : Reply) × IsTheReply r × HasAnswers options r (zone_answers a)
  part_answered a (inr e) = absurd cc
  part_answered a (inl (negative d, is, says)) = absurd cc
  part_answered a (inl (answered answers more, is, (b, e, (kept, additionals, f, keeps, may)))) =
      let same : a ≡ answer.Records kept additionals = cc in
      (answered answers more, is, subst (KeepsAnswers options answers) (sym (ap zone_answers same)) keeps)

  -- that of a negative answer
  none_denied : (e : LookupError) → e ≢ error.Memory → SaysOrMemory options IsTheReply (Continue (Err e)) → (r : Reply) × IsTheReply r × HasAnswers options r section.Empty
  none_denied e h (inr f) = absurd (h (cc))
  none_denied e h (inl (negative d, is, says)) = (negative d, is, refl)
  none_denied e h (inl (answered answers more, is, says)) = absurd (let f = says.1 in cc)

  pub part_denied : (r : Result LookupRecords LookupError) (e : LookupError) → IfOk r (λ s. (s ≡ section.Empty) × (e ≢ error.Memory)) → SaysOrMemory options IsTheReply (Continue (Err e))
      → IfOk r (λ s. (q : Reply) × IsTheReply q × HasAnswers options q s)
  part_denied (Err f) e h says = tt
  part_denied (Ok s) e h says =
      let part = none_denied e h.1 says in
      (part.0, part.1, subst (HasAnswers options part.0) (sym h.0) part.2)
