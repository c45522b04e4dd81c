use Rattle.std.proofs.Common.{ℕ, List, [], OnOk, string_bytes, codes, cond, is_ok, ◌++◌, inl, inr, refl, sym, ap, ◌∙◌, subst}
use Rattle.zone_proto.specs.Text.{name_text}
use Rattle.zone_map.specs.DenialOwners.{denial_owners}
use Rattle.zone_lookup.specs.Inner.{Inner}
use Rattle.zonectl_session.specs.DemoSigners.{Demo}
use Rattle.zonectl_session.specs.Replies.{failed, listed, memory, list_text}
use Rattle.zonectl_session.specs.Steps.{IsCircled, Adds, circle_owners, denial_type}
use Rattle.zonectl_session.proofs.Pushing.{pushed, written}
use Rattle.zonectl_session.proofs.Stepping.{owners_of_none, owners_of_type, none_listed}
use Rattle.zonectl_session.proofs.circle.circle.Goals as goal

pub returns-in_default : goal.returns-in_default
returns-in_default c =
    let zone = c.args.served.now.zone in
    let none = owners_of_none zone c.denial_type.result (c.denial_type.ensures ∙ ap denial_type c.nx_proof_kind.ensures) c.in_default.is in
    pushed (IsCircled c.args.served.now) (listed []) _ _ c.push_str.result
    (c.push_str.ensures.bytes ∙ ap (λ (text : List ℕ). cond (is_ok c.push_str.result) (string_bytes c.args.answer.now ++ text) (string_bytes c.args.answer.now)) none_listed)
    (inl (sym (ap listed none)))

pub returns-then-is_err : goal.returns-then-is_err
returns-then-is_err c =
    let text = c.push_str-then-is_err in
    subst (λ (before : List ℕ). OnOk text.result (Adds (IsCircled c.args.served.now) before (string_bytes text.new.self))) c.reserve.ensures.bytes
    (pushed (IsCircled c.args.served.now) (failed memory) _ _ text.result text.ensures.bytes (inr refl))

pub returns : goal.returns
returns c =
    let zone = c.args.served.now.zone in
    let t = c.in-Some.record_type in
    let owners_is = owners_of_type zone c.denial_type.result t (c.denial_type.ensures ∙ ap denial_type c.nx_proof_kind.ensures) c.in-Some.is in
    subst (λ (before : List ℕ). OnOk c.write.result (Adds (IsCircled c.args.served.now) before (string_bytes c.write.new.self))) c.reserve.ensures.bytes
    (written (IsCircled c.args.served.now) (listed (circle_owners zone)) _ _ _ c.write.result c.write.ensures.bytes
    (ap (list_text (codes "circle") name_text) (ap (λ (inner : Inner Demo). denial_owners inner.records t.0) c.inner.ensures.inner ∙ sym owners_is)) (inl refl))
