-- Which response a query has, case by case
use Rattle.std.proofs.Common.{◌≡◌, ◌≢◌, ◌&&◌, ◌⊎◌, inl, inr, Bool, true, false, cond, List, sym, subst}
use Rattle.std.specs.Prelude.{Option, is_some, Some, None, Result, IfOk}
use Rattle.std.specs.Option.{option_map_or}
use Rattle.std.proofs.lemmas.Result.{IfOk-weaker}
use Rattle.zone_proto.specs.declared.response_code.ResponseCode.{ResponseCode}
use Rattle.zone_proto.specs.declared.response_code.ResponseCode.TheVariants as code
use Rattle.zone_proto.specs.Names.{Name}
use Rattle.zone_proto.specs.Sets.{RRset}
use Rattle.zone_proto.specs.Types.{SOA}
use Rattle.lookup_types.specs.declared.lookup_error.LookupError.{LookupError}
use Rattle.lookup_types.specs.declared.lookup_error.LookupError.TheVariants as error
use Rattle.zone_map.specs.Zones.{set_at}
use Rattle.zone_response.specs.declared.response.Response.{Response}
use Rattle.zone_response.specs.Paths.{Path, path}
use Rattle.zone_response.specs.Queries.{Zone, Query, Inquiry, inquiry}
use Rattle.zone_response.specs.Responses.{bare, fails, refusal, authority_sets, lacks_proofs, Outcome, refused as refused_with, without_soa as no_soa, failing, unprovable, answered, outcome_of, outcome_along, outcome_proven, IsResponse, IsResponseTo, IsResponseBy}
use Rattle.zone_response.specs.Sections.{Sections, sections}

-- another outcome that is the same
pub same_outcome : {E : Type 0} (q : Inquiry) (result : Result Response E) (a b : Outcome) → a ≡ b → IfOk result (λ r. IsResponseTo q a (sections r)) → IfOk result (λ r. IsResponseTo q b (sections r))
same_outcome q result a b e h = subst (λ (o : Outcome). IfOk result (λ r. IsResponseTo q o (sections r))) e h

module _ (z : Zone) (q : Query) where
  pub refused : (c : ResponseCode) (r : Sections) → Some c ≡ refusal z.origin q → r ≡ bare c → IsResponse z q r
  refused c r e is = subst (λ (o : Option ResponseCode). IsResponseTo (inquiry z q) (option_map_or refused_with o (outcome_of z (inquiry z q) q.name)) r) e is

  pub searched : {E : Type 0} (result : Result Response E) → None ≡ refusal z.origin q
      → IfOk result (λ r. IsResponseTo (inquiry z q) (outcome_of z (inquiry z q) q.name) (sections r)) → IfOk result (λ r. IsResponse z q (sections r))
  searched result e h =
      subst (λ (o : Option ResponseCode). IfOk result (λ r. IsResponseTo (inquiry z q) (option_map_or refused_with o (outcome_of z (inquiry z q) q.name)) (sections r))) e h

  -- what is searched is asked as the query has it
  abbrev pub asked : Bool → Inquiry
  asked proved = record { origin = z.origin; sets = z.sets; record_type = q.record_type; signed = q.signed; is_proved = proved; sign = z.sign q.signed }

  pub inquired : {E : Type 0} (result : Result Response E) (proved : Bool) → proved ≡ q.signed && is_some z.nx_proof_kind
      → IfOk result (λ r. IsResponseTo (asked proved) (outcome_of z (asked proved) q.name) (sections r))
      → IfOk result (λ r. IsResponseTo (inquiry z q) (outcome_of z (inquiry z q) q.name) (sections r))
  inquired result proved e h = subst (λ (b : Bool). IfOk result (λ r. IsResponseTo (asked b) (outcome_of z (asked b) q.name) (sections r))) e h

module _ (z : Zone) (q : Inquiry) (x : Name) where
  pub without_soa : (r : Sections) → None ≡ set_at z.sets z.origin SOA → r ≡ bare code.ServFail → IsResponseTo q (outcome_of z q x) r
  without_soa r e is = subst (λ (o : Option RRset). IsResponseTo q (option_map_or (λ soa. outcome_along z q.signed soa (path q x)) o no_soa) r) e is

  pub with_soa : {E : Type 0} (result : Result Response E) (soa : RRset) (p : Path) → Some soa ≡ set_at z.sets z.origin SOA → p ≡ path q x
      → IfOk result (λ r. IsResponseTo q (outcome_along z q.signed soa p) (sections r)) → IfOk result (λ r. IsResponseTo q (outcome_of z q x) (sections r))
  with_soa result soa p e f h =
      subst (λ (o : Option RRset). IfOk result (λ r. IsResponseTo q (option_map_or (λ soa. outcome_along z q.signed soa (path q x)) o no_soa) (sections r))) e
      (subst (λ (p : Path). IfOk result (λ r. IsResponseTo q (outcome_along z q.signed soa p) (sections r))) f h)

module _ (z : Zone) (q : Inquiry) (soa : RRset) (p : Path) where
  pub failed : (r : Sections) → fails p.end ≡ true → r ≡ bare code.ServFail → IsResponseTo q (outcome_along z q.signed soa p) r
  failed r e is = subst (λ (b : Bool). IsResponseTo q (cond b failing (outcome_proven z q.signed soa p)) r) (sym e) is

  pub passed : {E : Type 0} (result : Result Response E) → fails p.end ≡ false
      → IfOk result (λ r. IsResponseTo q (outcome_proven z q.signed soa p) (sections r)) → IfOk result (λ r. IsResponseTo q (outcome_along z q.signed soa p) (sections r))
  passed result e h = subst (λ (b : Bool). IfOk result (λ r. IsResponseTo q (cond b failing (outcome_proven z q.signed soa p)) (sections r))) (sym e) h

  -- ---- whether what is said can be proved

  abbrev proven_if : Bool → Outcome
  proven_if lacks = cond lacks unprovable (answered p (authority_sets z q.signed soa p.made p.end))

  pub proven : {E : Type 0} (result : Result Response E) (sets : List RRset) → sets ≡ authority_sets z q.signed soa p.made p.end → lacks_proofs z q.signed p.made p.end ≡ false
      → IfOk result (λ r. IsResponseBy q p sets (sections r)) → IfOk result (λ r. IsResponseTo q (outcome_proven z q.signed soa p) (sections r))
  proven result sets e f h =
      subst (λ (b : Bool). IfOk result (λ r. IsResponseTo q (proven_if b) (sections r))) (sym f)
      (subst (λ (sets : List RRset). IfOk result (λ r. IsResponseBy q p sets (sections r))) e h)

  pub unproven : {E : Type 0} (result : Result Response E) (e : LookupError) → (e ≡ error.Memory) ⊎ (lacks_proofs z q.signed p.made p.end ≡ true)
      → IfOk result (λ r. (sections r ≡ bare code.ServFail) × (e ≢ error.Memory)) → IfOk result (λ r. IsResponseTo q (outcome_proven z q.signed soa p) (sections r))
  unproven result e (inl memory) h =
      IfOk-weaker result (λ r. (sections r ≡ bare code.ServFail) × (e ≢ error.Memory)) (λ r. IsResponseTo q (outcome_proven z q.signed soa p) (sections r)) (λ r h. absurd (h.1 memory)) h
  unproven result e (inr lacks) h =
      subst (λ (b : Bool). IfOk result (λ r. IsResponseTo q (proven_if b) (sections r))) (sym lacks)
      (IfOk-weaker result (λ r. (sections r ≡ bare code.ServFail) × (e ≢ error.Memory)) (λ r. sections r ≡ bare code.ServFail) (λ r h. h.0) h)
