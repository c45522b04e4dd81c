use Rattle.std.proofs.Common.{◌≡◌, List, [], ◌∷◌, sym, ap, ◌∙◌}
use Rattle.zone_proto.specs.declared.record.Record.{Record}
use Rattle.zone_proto.specs.Sets.{RRset}
use Rattle.zone_digest.proofs.putting.put_digest.Goals as goal

not_none : (r : Record) (rs : List Record) → r ∷ rs ≡ [] → ⊥
not_none r rs e = cc

pub put_set-requires-clause-owner : goal.put_set-requires-clause-owner
put_set-requires-clause-owner g c = ap (λ (s : RRset). s.owner) c.in_ok-sign_set.ensures.ok ∙ ap (λ (s : RRset). s.owner) c.in_ok-set.ensures.ok

pub put_set-requires-clause-kind : goal.put_set-requires-clause-kind
put_set-requires-clause-kind g c = ap (λ (s : RRset). s.record_type) c.in_ok-sign_set.ensures.ok ∙ ap (λ (s : RRset). s.record_type) c.in_ok-set.ensures.ok

pub put_set-requires-clause-filled : goal.put_set-requires-clause-filled
put_set-requires-clause-filled g c = λ none.
    not_none _ _ (sym (ap (λ (s : RRset). s.records) c.in_ok-sign_set.ensures.ok ∙ ap (λ (s : RRset). s.records) c.in_ok-set.ensures.ok) ∙ none)
