use Rattle.std.proofs.Common.{◌≡◌, [], ◌∷◌, ◌++◌, length, sym, ap, ◌∙◌, subst, append_assoc, arith}
use Rattle.std.specs.List.Sorted.{IsStrictlySortedBy}
use Rattle.std.specs.Map.{keys_of}
use Rattle.zone_proto.specs.declared.rr_key.RrKey.{RrKey}
use Rattle.zone_proto.specs.Keys.{key_cmp}
use Rattle.zone_proto.specs.Sets.{RRset}
use Rattle.zone_frozen.specs.Sets.{Sets}
use Rattle.zone_frozen.proofs.FirstRows.{inserted_first, sorted_end}
use Rattle.zone_frozen.proofs.thawing.move_rows.Goals as goal

pub loop-key-preserved-in_default-insert : goal.loop-key-preserved-in_default-insert
loop-key-preserved-in_default-insert c =
    let e : RrKey × RRset = (c.in-Some.key, c.in-Some.set) in
    let left : Sets = c.pop.new.self.items in
    let had : Sets = c.loop-key.map.entries in
    let parts : c.loop-key.rows.items ≡ left ++ e ∷ [] = c.in-Some.ensures.items in
    let whole : left ++ e ∷ had ≡ c.args.rows.now.items ++ c.args.map.now.entries =
    sym (append_assoc left (e ∷ []) had) ∙ sym (ap (λ (es : Sets). es ++ had) parts) ∙ c.loop-key.invariant.same in
    let put : c.insert.new.self.entries ≡ e ∷ had =
    c.in_default-insert.ensures.entries
    ∙ inserted_first e.0 e.1 had (sorted_end left (e ∷ had) (subst (λ (es : Sets). IsStrictlySortedBy key_cmp (keys_of es)) (sym whole) c.requires.ordered)) in
    record {
      same = ap (λ (es : Sets). left ++ es) put ∙ whole;
      room = omega (arith, c.in-Some.ensures.cases, c.in-Some.ensures.capacity, ap length put, c.loop-key.invariant.room);
    }

pub loop-key-preserved-in_default-insert-2 : goal.loop-key-preserved-in_default-insert-2
loop-key-preserved-in_default-insert-2 c =
    let e : RrKey × RRset = (c.in-Some.key, c.in-Some.set) in
    let left : Sets = c.pop.new.self.items in
    let had : Sets = c.loop-key.map.entries in
    let parts : c.loop-key.rows.items ≡ left ++ e ∷ [] = c.in-Some.ensures.items in
    let whole : left ++ e ∷ had ≡ c.args.rows.now.items ++ c.args.map.now.entries =
    sym (append_assoc left (e ∷ []) had) ∙ sym (ap (λ (es : Sets). es ++ had) parts) ∙ c.loop-key.invariant.same in
    let put : c.insert.new.self.entries ≡ e ∷ had =
    c.in_default-insert.ensures.entries
    ∙ inserted_first e.0 e.1 had (sorted_end left (e ∷ had) (subst (λ (es : Sets). IsStrictlySortedBy key_cmp (keys_of es)) (sym whole) c.requires.ordered)) in
    record {
      same = ap (λ (es : Sets). left ++ es) put ∙ whole;
      room = omega (arith, c.in-Some.ensures.cases, c.in-Some.ensures.capacity, ap length put, c.loop-key.invariant.room);
    }
