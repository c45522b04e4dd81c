-- The sets of a name that owns none of those that change
use Rattle.std.proofs.Common.{◌≡◌, ℕ, Bool, true, false, cond, List, [], ◌∷◌, refl, sym, ap, ◌∙◌, subst, true≢false, ◌==◌, eqb-true}
use Rattle.std.specs.Prelude.{Option, Some, None, is_some}
use Rattle.std.specs.Map.{lookup}
use Rattle.zone_proto.specs.declared.record.Record.{Record}
use Rattle.zone_proto.specs.declared.rr_key.RrKey.{RrKey}
use Rattle.zone_proto.specs.Keys.{key, key_eq}
use Rattle.zone_proto.specs.Names.{Name, name_eq}
use Rattle.zone_proto.specs.Sets.{RRset}
use Rattle.zone_proto.specs.Types.{NSEC}
use Rattle.zone_proto.proofs.Members.{any_from_In}
use Rattle.zone_proto.proofs.Names.Tree.{name_eq_itself}
use Rattle.zone_map.specs.Renewals.{with_signatures}
use Rattle.zone_map.specs.Zones.{Sets, names_of, set_at}
use Rattle.zone_map.proofs.Owned.{name_in}
use Rattle.update_in_place.specs.Parts.{is_among, sets_of, AreChanged}
use Rattle.update_in_place.proofs.Kept.{found_kept}

none_at : (part : Sets) (n : Name) (t : ℕ) → is_among (names_of part) n ≡ false → set_at part n t ≡ None
none_at part n t h = by (set_at part n t) refl
  where
    by : (o : Option RRset) → set_at part n t ≡ o → set_at part n t ≡ None
    by None e = e
    by (Some s) e = absurd (true≢false (sym (any_from_In (name_eq n) n (names_of part) (name_in part n t (ap is_some e)) (name_eq_itself n)) ∙ h))

module _ (names : List Name) (old next before after : Sets) (changed : AreChanged names old next before after) where
  absent : (m part : Sets) → part ≡ sets_of names m → (n : Name) (t : ℕ) → is_among names n ≡ true → is_among (names_of part) n ≡ false → set_at m n t ≡ None
  absent m part e n t g h = sym (ap (λ (x : Sets). set_at x n t) e ∙ found_kept (is_among names) m (key n t) g) ∙ none_at part n t h

  pub unowned : (n : Name) (t : ℕ) → is_among (names_of before) n ≡ false → is_among (names_of after) n ≡ false → set_at next n t ≡ set_at old n t
  unowned n t h k = by (is_among names n) refl
    where
      by : (b : Bool) → is_among names n ≡ b → set_at next n t ≡ set_at old n t
      by true g = absent next after changed.after_is n t g k ∙ sym (absent old before changed.before_is n t g h)
      by false g = changed.others n t g

-- sets with other signatures are under the same keys
pub none_signed : (q : RrKey) (m : Sets) (made : List (List Record)) → lookup (key_eq q) m ≡ None → lookup (key_eq q) (with_signatures m made) ≡ None
none_signed q [] made h = refl
none_signed q (e ∷ es) [] h = h
none_signed q (e ∷ es) (s ∷ made) h = by (key_eq q e.0) h (λ g. none_signed q es made g)
  where
    by : (b : Bool) → cond b (Some e.1) (lookup (key_eq q) es) ≡ None → (lookup (key_eq q) es ≡ None → lookup (key_eq q) (with_signatures es made) ≡ None)
        → cond b (Some (record e.1 { signatures = s })) (lookup (key_eq q) (with_signatures es made)) ≡ None
    by true h more = absurd cc
    by false h more = more h

-- what stays under each other type stays where the NSEC set does too
pub each_type : (new m : Sets) (n : Name) (t : ℕ) → ((t == NSEC) ≡ false → set_at new n t ≡ set_at m n t) → set_at new n NSEC ≡ set_at m n NSEC → set_at new n t ≡ set_at m n t
each_type new m n t others same = by (t == NSEC) refl
  where
    by : (b : Bool) → (t == NSEC) ≡ b → set_at new n t ≡ set_at m n t
    by true e = subst (λ u. set_at new n u ≡ set_at m n u) (sym (eqb-true t NSEC e)) same
    by false e = others e
