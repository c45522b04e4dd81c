-- How a lookup says what is found, and that what is owned is answered
use Rattle.std.proofs.Common.{◌≡◌, ℕ, ◌||◌, Bool, true, false, List, refl, sym, ap, ◌∙◌, true≢false, inl, inr, subst}
use Rattle.std.specs.Prelude.{Option, Some, None, Ok, Err, is_some, MatchOption}
use Rattle.zone_proto.specs.declared.record.Record.{Record}
use Rattle.zone_proto.specs.Names.{Name}
use Rattle.zone_proto.specs.Sets.{RRset}
use Rattle.zone_handler.specs.declared.auth_lookup.AuthLookup.{AuthLookup}
use Rattle.zone_handler.specs.declared.control_flow.LookupControlFlow.{LookupControlFlow}
use Rattle.zone_handler.specs.declared.control_flow.LookupControlFlow.TheVariants.{Continue}
use Rattle.lookup_types.specs.declared.lookup_error.LookupError.{LookupError}
use Rattle.lookup_types.specs.declared.lookup_options.LookupOptions.{LookupOptions}
use Rattle.zone_map.specs.Zones.{Sets, owns, owns_at_or_below}
use Rattle.zone_map.specs.Wildcards.{exists, asked_wildcard_exists, found}
use Rattle.zone_map.specs.AnyTypes.{searched_type}
use Rattle.zone_lookup.specs.Flattening.{last_set, beside}
use Rattle.zone_lookup.specs.FoundSets.{exists_or_wildcard}
use Rattle.zone_lookup.specs.Replies.{negative_answer, is_present, Reply, answered, negative, answer_sets, answer_section, IsAnswer, IsReplyFor}
use Rattle.zone_in_memory.specs.KeptReplies.{SaysAnswer}
use Rattle.zone_in_memory.specs.Lookup.{error_of, Says, SaysOrMemory, IsAnswered}
use Rattle.zone_map.proofs.AnyTypes.{found_owned, searched_owned}
use Rattle.zone_map.proofs.ExistingNames.{owned_where_existing}

module _ (sign : RRset → List Record) (m : Sets) (n : Name) (t : ℕ) (options : LookupOptions) where
  -- a query for what is owned is answered
  pub owned_is_answered : (origin : Name) (step : LookupControlFlow AuthLookup LookupError) → owns m n t ≡ true
      → SaysOrMemory options (IsReplyFor sign origin m options.dnssec_ok n (searched_type m n t)) step → IsAnswered step
  owned_is_answered origin step h (inr r) = inr r
  owned_is_answered origin step h (inl (r, is, says)) = by (found m options.dnssec_ok n (searched_type m n t)) (found_owned m options.dnssec_ok n (searched_type m n t) (searched_owned m n t h)) is
    where
      call_concludes : (r q : Reply) → r ≡ q → Says options r step → Says options q step
      call_concludes r q e s = subst (λ x. Says options x step) e s

      by : (o : Option RRset) → is_some o ≡ true → MatchOption o (r ≡ negative (negative_answer origin m n)) (λ s. IsAnswer sign m options.dnssec_ok n (searched_type m n t) s r) → IsAnswered step
      by None k i = absurd (true≢false (sym k))
      by (Some s) k i =
          let a = call_concludes r (answered (answer_section sign m options.dnssec_ok n (searched_type m n t) s i.more) (beside (searched_type m n t) (last_set (answer_sets m options.dnssec_ok n (searched_type m n t) s)) i.more)) i.sections says in
          inl (a.0, a.1)

  -- a found set is answered
  pub says_found : (origin : Name) (s : RRset) (a : AuthLookup) → found m options.dnssec_ok n t ≡ Some s → SaysAnswer options (IsAnswer sign m options.dnssec_ok n t s) a
      → SaysOrMemory options (IsReplyFor sign origin m options.dnssec_ok n t) (Continue (Ok a))
  says_found origin s a f (answers, more, is, has) =
      inl (answered answers more, subst (λ o. MatchOption o (answered answers more ≡ negative (negative_answer origin m n)) (λ s. IsAnswer sign m options.dnssec_ok n t s (answered answers more))) (sym f) is, (a, refl, has))

  -- and none is denied
  pub says_none : (origin : Name) (e : LookupError) → found m options.dnssec_ok n t ≡ None → e ≡ error_of (negative_answer origin m n)
      → SaysOrMemory options (IsReplyFor sign origin m options.dnssec_ok n t) (Continue (Err e))
  says_none origin e f q =
      inl (negative (negative_answer origin m n), subst (λ o. MatchOption o (negative (negative_answer origin m n) ≡ negative (negative_answer origin m n)) (λ s. IsAnswer sign m options.dnssec_ok n t s (negative (negative_answer origin m n)))) (sym f) refl, ap (λ x. Continue (Err x)) q)

-- ---- names without the type

either : (b c : Bool) → b || c ≡ false → c ≡ false
either false false h = refl
either false true h = cc
either true c h = cc

-- a name is there where it, or the wildcard at its closest encloser, exists
pub existing_is_present : (m : Sets) (n : Name) → exists_or_wildcard m n ≡ true → is_present m n ≡ true
existing_is_present m n h = by (exists m n) refl (owns_at_or_below m n) refl
  where
    by : (b : Bool) → exists m n ≡ b → (o : Bool) → owns_at_or_below m n ≡ o → is_present m n ≡ true
    by b e true o = ap (λ x. x || asked_wildcard_exists m n) o
    by true e false o = absurd (true≢false (sym (owned_where_existing n m e) ∙ o))
    by false e false o = ap (λ x. x || asked_wildcard_exists m n) o ∙ ap (λ x. x || asked_wildcard_exists m n) (sym e) ∙ h

-- and where neither does, no such wildcard exists
pub no_wildcard_exists : (m : Sets) (n : Name) → exists_or_wildcard m n ≡ false → asked_wildcard_exists m n ≡ false
no_wildcard_exists m n h = either (exists m n) (asked_wildcard_exists m n) h

-- without one, a name is there where it, or a name below it, owns a set
pub present_by_owned : (m : Sets) (n : Name) → asked_wildcard_exists m n ≡ false → is_present m n ≡ owns_at_or_below m n
present_by_owned m n h = ap (λ x. owns_at_or_below m n || x) h ∙ alone (owns_at_or_below m n)
  where
    alone : (b : Bool) → b || false ≡ b
    alone true = refl
    alone false = refl
