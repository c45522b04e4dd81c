use Rattle.std.proofs.Common.{◌≡◌, ◌==◌, Bool, true, false, cond, not, length, List, [], ◌∷◌, refl, sym, ap, ◌∙◌, ◌+◌, drop}
use Rattle.std.specs.Prelude.{Option, Some}
use Rattle.std.specs.Map.{lookup}
use Rattle.std.proofs.Math.ListN.{drop_of_length-le}
use Rattle.std.proofs.lemmas.List.{drop_more}
use Rattle.std.specs.Option.{option_map_or}
use Rattle.zone_proto.specs.declared.rr_key.RrKey.{RrKey}
use Rattle.zone_proto.specs.Keys.{key, key_eq}
use Rattle.zone_proto.specs.Names.{Name}
use Rattle.zone_proto.specs.Types.{CNAME}
use Rattle.zone_proto.proofs.Ordering.KeyOrder.{key_same}
use Rattle.zone_builder.specs.declared.groups.Group.{Group}
use Rattle.zone_builder.proofs.checks.are_cnames.Goals as goal

-- under the key of a CNAME stands no group of another type
of_other_type : (n : Name) (k : RrKey) → (k.record_type.0 == CNAME) ≡ false → key_eq (key n CNAME) k ≡ false
of_other_type n k other = by (key_eq (key n CNAME) k) refl
  where
    by : (b : Bool) → key_eq (key n CNAME) k ≡ b → b ≡ false
    by false h = refl
    by true h = ap (λ (q : RrKey). q.record_type.0 == CNAME) (key_same (key n CNAME) k h) ∙ other

passed : (n : Name) (e : RrKey × Group) (es all : List (RrKey × Group)) → all ≡ e ∷ es → (e.0.record_type.0 == CNAME) ≡ false
    → lookup (key_eq (key n CNAME)) es ≡ lookup (key_eq (key n CNAME)) all
passed n e es all steps other =
    sym (ap (λ b. cond b (Some e.1) (lookup (key_eq (key n CNAME)) es)) (of_other_type n e.0 other)) ∙ sym (ap (lookup (key_eq (key n CNAME))) steps)

pub loop-key-preserved : goal.loop-key-preserved
loop-key-preserved c = λ n.
    let groups = c.args.groups.now in
    let i = c.loop-key.key-index in
    let left : drop i groups ≡ c.loop-key-item.result ∷ drop (i + 1) groups = drop_more groups i c.loop-key-item.result c.loop-key-test.true ∙ ap (λ x. x ∷ drop (i + 1) groups) (sym c.loop-key-item.is) in
    passed n c.loop-key-item.result (drop (i + 1) groups) (drop i groups) left (sym c.if-eq.ensures) ∙ c.loop-key.invariant n

pub returns : goal.returns
returns c = λ _ n.
    let groups = c.args.groups.now in
    let none : drop c.loop-key.key-index groups ≡ [] = drop_of_length-le groups c.loop-key-test.false in
    ap (λ (o : Option Group). not (length (option_map_or (λ (g : Group). g.records.items) o []) == 0))
    (sym (c.loop-key.invariant n) ∙ ap (lookup (key_eq (key n CNAME))) none)
