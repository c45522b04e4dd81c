use Rattle.std.proofs.Common.{rules, ◌≡◌, ℕ, ◌==◌, eqb-true, true, false, cond, [], map, sym, ◌∙◌, Result, Ok, Err}
use Rattle.std.specs.Prelude.{IfOk}
use Rattle.zone_proto.specs.declared.error.ProtoError.{ProtoError}
use Rattle.zone_proto.specs.Names.{Name}
use Rattle.zone_proto.specs.Results.{IsCopy}
use Rattle.zone_proto.specs.Sets.{RRset, record_under, set_under}
use Rattle.zone_proto.specs.Types.{IN}
use Rattle.zone_lookup.specs.Flattening.{flattened_ttl, unsigned_flattened}
use Rattle.zone_lookup.proofs.flattening.unsigned_flattened.Goals as goal

module _ (aname : RRset) (t : ℕ) (last : RRset) (o : Name) (ttl : ℕ) where
  under_same : o ≡ aname.owner → ttl ≡ flattened_ttl aname last → (last.record_type == t) ≡ true → set_under o ttl last ≡ unsigned_flattened aname t last
  under_same owner least same = λ i. record {
    owner = owner i;
    record_type = eqb-true last.record_type t same i;
    class = IN;
    ttl = least i;
    serial = 0;
    records = cond (sym same i) (map (record_under (owner i) (least i)) last.records) [];
    signatures = [];
  }

  -- the records of a last set of the type
  copied : (res : Result RRset ProtoError) → IsCopy res (set_under o ttl last) → o ≡ aname.owner → ttl ≡ flattened_ttl aname last → (last.record_type == t) ≡ true
      → IfOk res (λ made. made ≡ unsigned_flattened aname t last)
  copied (Ok made) copy owner least same = copy.ok ∙ under_same owner least same
  copied (Err e) copy owner least same = tt

  -- and none of a set of another
  none : (made : RRset) → made ≡ record { owner = o; record_type = t; class = IN; ttl = ttl; serial = 0; records = []; signatures = [] }
      → o ≡ aname.owner → ttl ≡ flattened_ttl aname last → (last.record_type == t) ≡ false → made ≡ unsigned_flattened aname t last
  none made is owner least other = is ∙ (λ i. record {
    owner = owner i;
    record_type = t;
    class = IN;
    ttl = least i;
    serial = 0;
    records = cond (sym other i) (map (record_under (owner i) (least i)) last.records) [];
    signatures = [];
  })

pub returns-then-eq-clause-made : goal.returns-then-eq-clause-made
returns-then-eq-clause-made c = copied c.args.aname.now c.args.record_type.0 c.args.last.now _ _ c.clone_under.result c.clone_under.ensures (search rules) (search rules) (search rules)

pub returns-else-eq-clause-made : goal.returns-else-eq-clause-made
returns-else-eq-clause-made c = none c.args.aname.now c.args.record_type.0 c.args.last.now _ _ c.with_ttl.result c.with_ttl.ensures (search rules) (search rules) (search rules)
