use Rattle.std.proofs.Common.{◌≡◌, true, false, cond, sym, ap, ◌∙◌}
use Rattle.std.specs.List.{list_any}
use Rattle.std.specs.Map.{remove_entry}
use Rattle.zone_proto.specs.declared.rr_key.RrKey.{RrKey}
use Rattle.zone_proto.specs.Keys.{key_eq}
use Rattle.zone_map.specs.DenialOwners.{Listed, listed_of, owners_of, none_deny, other_owners}
use Rattle.zone_map.specs.Upserts.{is_denial_type}
use Rattle.zone_map.proofs.OtherOwners.{is_here, owns_one, kept, gone}
use Rattle.zone_map.proofs.OwnerIndexes.{denial_unlisted, denials_stay, none_listed, some_listed, others_of, unlisted_where_none}
use Rattle.zone_map.proofs.owner_index.OwnerIndex.remove.Goals as goal
use Rattle.zone_map.proofs.owner_index.OwnerIndex.remove.Goals.{then-is_empty, else-is_empty}

pub returns-then-is_denial_type : goal.returns-then-is_denial_type
returns-then-is_denial_type c = λ had zone is left.
    let denials : c.remove.new.self ≡ owners_of (remove_entry (key_eq c.args.key) had) = c.remove.ensures had (ap (λ (l : Listed). l.denials) (c.self.view_is ∙ is)) in
    let kind : is_denial_type c.args.key.record_type.0 ≡ true = sym c.is_denial_type.ensures ∙ c.if-is_denial_type.true in
    elim c.if-is_empty.branch [
      | then-is_empty w ↦
          w.self-is ∙ none_listed (remove_entry (key_eq c.args.key) had) c.remove.new.self w.clear.new.self.keys denials (sym c.is_empty.ensures ∙ w.if-is_empty.true) w.clear.ensures.empty
          ∙ ap listed_of (sym left)
      | else-is_empty w ↦
          w.self-is ∙ denial_unlisted had c.args.key kind (record { denials = c.self.inside.denials; others = c.self.inside.others.keys }) c.remove.new.self (c.self.view_is ∙ is) denials (sym c.is_empty.ensures ∙ w.if-is_empty.false)
          ∙ ap listed_of (sym left)
    ]

pub returns-then-is_empty-2 : goal.returns-then-is_empty-2
returns-then-is_empty-2 c = λ had zone is left.
    let kind : is_denial_type c.args.key.record_type.0 ≡ false = sym c.is_denial_type.ensures ∙ c.if-is_denial_type.false in
    let none : none_deny c.self.inside.denials ≡ true = sym c.is_empty-2.ensures ∙ c.if-is_empty-2.true in
    let old : Listed = record { denials = c.self.inside.denials; others = c.self.inside.others.keys } in
    sym c.self.view_is
    ∙ none_listed (remove_entry (key_eq c.args.key) had) c.self.inside.denials c.self.inside.others.keys (denials_stay had c.args.key kind old (c.self.view_is ∙ is)) none (unlisted_where_none had old (c.self.view_is ∙ is) none)
    ∙ ap listed_of (sym left)

pub returns-then-not-owns_other : goal.returns-then-not-owns_other
returns-then-not-owns_other c = λ had zone is left.
    let kind : is_denial_type c.args.key.record_type.0 ≡ false = sym c.is_denial_type.ensures ∙ c.if-is_denial_type.false in
    let some : none_deny c.self.inside.denials ≡ false = sym c.is_empty-2.ensures ∙ c.if-is_empty-2.false in
    let old : Listed = record { denials = c.self.inside.denials; others = c.self.inside.others.keys } in
    let named : c.new-least.result.name ≡ c.args.key.name = ap (λ (k : RrKey). k.name) c.new-least.ensures.value in
    let none : owns_one (remove_entry (key_eq c.args.key) had) c.args.key.name ≡ false =
    (λ i. owns_one (sym left i) (sym named i)) ∙ sym c.owns_other.ensures ∙ c.if-not-owns_other.true in
    let were : c.self.inside.others.keys ≡ other_owners had = others_of had old (c.self.view_is ∙ is) some in
    some_listed (remove_entry (key_eq c.args.key) had) c.self.inside.denials c.remove-then-not-owns_other.new.self.keys (denials_stay had c.args.key kind old (c.self.view_is ∙ is)) some
    (gone had c.args.key zone.ordered none c.remove-then-not-owns_other.new.self.keys c.remove-then-not-owns_other.ensures.ordered
    (λ q. c.remove-then-not-owns_other.ensures.updates.0 q ∙ (λ i. cond (is_here (named i) q) false (list_any (is_here q) (were i)))))
    ∙ ap listed_of (sym left)

pub returns : goal.returns
returns c = λ had zone is left.
    let kind : is_denial_type c.args.key.record_type.0 ≡ false = sym c.is_denial_type.ensures ∙ c.if-is_denial_type.false in
    let some : none_deny c.self.inside.denials ≡ false = sym c.is_empty-2.ensures ∙ c.if-is_empty-2.false in
    let old : Listed = record { denials = c.self.inside.denials; others = c.self.inside.others.keys } in
    let named : c.new-least.result.name ≡ c.args.key.name = ap (λ (k : RrKey). k.name) c.new-least.ensures.value in
    let there : owns_one (remove_entry (key_eq c.args.key) had) c.args.key.name ≡ true =
    (λ i. owns_one (sym left i) (sym named i)) ∙ sym c.owns_other.ensures ∙ c.if-not-owns_other.false in
    sym c.self.view_is
    ∙ some_listed (remove_entry (key_eq c.args.key) had) c.self.inside.denials c.self.inside.others.keys (denials_stay had c.args.key kind old (c.self.view_is ∙ is)) some
    (others_of had old (c.self.view_is ∙ is) some ∙ kept had c.args.key zone.ordered there)
    ∙ ap listed_of (sym left)
