-- The zone of a plan whose signatures are the answers of its keys
use Rattle.std.proofs.Common.{◌≡◌, [], ◌∷◌, inl, inr, refl, sym, subst}
use Rattle.std.specs.Prelude.{Some}
use Rattle.std.specs.List.{All}
use Rattle.std.proofs.lemmas.List.Elements.{All-nil, All-cons}
use Rattle.std.specs.Map.{lookup, keys_of}
use Rattle.zone_proto.specs.declared.rr_key.RrKey.{RrKey}
use Rattle.zone_proto.specs.Keys.{key_cmp, key_eq}
use Rattle.zone_proto.specs.Sets.{RRset}
use Rattle.zone_proto.proofs.Members.{In}
use Rattle.zone_map.specs.Renewals.{with_signatures}
use Rattle.zone_map.specs.Zones.{Sets, IsZone}
use Rattle.zone_denial.proofs.Ascending.{Ascends-from_sorted}
use Rattle.zone_denial.proofs.Chains.ChainSets.{found_entry}
use Rattle.zone_signing.specs.Secured.{IsSecured}
use Rattle.zone_planning.specs.Answering.{AreFound, answering, answers}
use Rattle.zone_planning.specs.Filling.{filled}
use Rattle.zone_planning.proofs.SecuredAnswers.{secured_answers}
use Rattle.zone_planner.specs.Keys.{keyed}
use Rattle.zone_planner.specs.Plans.{denied_by}
use Rattle.held_plans.specs.Copies.{unsigned}
use Rattle.held_plans.specs.HoldingLaws.{FinishedPlansAreSecured}

each : (P : RrKey × RRset → Type 0) (es : Sets) → ((e : RrKey × RRset) → In e es → P e) → All P es
each P [] h = All-nil P
each P (e ∷ es) h = All-cons P e es (h e (inl refl)) (each P es (λ d i. h d (inr i)))

-- each set of a zone is found under its key
pub all_found : (m : Sets) → IsZone m → AreFound m
all_found m zone = each (λ e. lookup (key_eq e.0) m ≡ Some e.1) m (λ e i. found_entry m (Ascends-from_sorted key_cmp (keys_of m) zone.ordered) e.0 e.1 i)

pub finished_secured : FinishedPlansAreSecured
finished_secured octets_of origin m keys request begun p is records signatures =
    let sets = denied_by request.nx_proof_kind origin (keyed origin keys request (unsigned m)) in
    let signers = is.planned.signers in
    let same : with_signatures begun.records (filled begun.records (answers octets_of request.inception signers begun.records)) ≡ with_signatures p.records (filled p.records p.signatures)
    = λ i. with_signatures (sym records i) (filled (sym records i) (sym signatures i)) in
    subst (IsSecured (answering octets_of) request.inception origin signers sets) same
    (secured_answers octets_of request.inception origin signers sets begun.records is.planned.secured (all_found begun.records is.zone))
