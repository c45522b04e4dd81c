-- The names that a run has searched, the first few of them in a list and the others in a set
use Rattle.std.proofs.Common.{◌≡◌, Bool, true, false, cond, ◌||◌, List, [], ◌∷◌, ◌++◌, refl, sym, ap, ◌∙◌}
use Rattle.std.specs.List.{list_any}
use Rattle.std.specs.Ordering.{eq_by_cmp, is_eq}
use Rattle.std.proofs.lemmas.List.Folds.{list_any-append}
use Rattle.zone_proto.specs.Names.{Name, name_eq, name_cmp}
use Rattle.zone_map.proofs.Chains.{names_equiv}
use Rattle.zone_lookup.specs.SeenNames.{AreSameNames}
use Rattle.zone_lookup.proofs.Chasing.{same_test, asked}

-- the set is asked by the order of names
asked_set : (n : Name) (keys : List Name) → list_any (λ k. is_eq (name_cmp n k)) keys ≡ list_any (name_eq n) keys
asked_set n [] = refl
asked_set n (k ∷ keys) =
    ap (λ b. b || list_any (λ k. is_eq (name_cmp n k)) keys) (same_test n k ∙ names_equiv.symm k n)
    ∙ ap (λ b. name_eq n k || b) (asked_set n keys)

-- the list is asked, and then the set
pub in_either : (n : Name) (few viewed keys seen : List Name) (listed kept : Bool) → viewed ≡ few → few ++ keys ≡ seen
    → listed ≡ list_any (λ y. eq_by_cmp name_cmp y n) viewed → kept ≡ list_any (λ k. is_eq (name_cmp n k)) keys → listed || kept ≡ list_any (name_eq n) seen
in_either n few viewed keys seen listed kept v w e f =
    ap (λ b. b || kept) (e ∙ ap (list_any (λ y. eq_by_cmp name_cmp y n)) v ∙ asked n few)
    ∙ ap (λ b. list_any (name_eq n) few || b) (f ∙ asked_set n keys)
    ∙ sym (list_any-append (name_eq n) few keys) ∙ ap (list_any (name_eq n)) w

either : (a b c : Bool) → a || cond c true b ≡ (a || b) || (c || false)
either true b c = refl
either false true true = refl
either false true false = refl
either false false true = refl
either false false false = refl

-- a name that is put into the set is one more
pub put_among : (few old new seen after : List Name) (name : Name) → few ++ old ≡ seen → few ++ new ≡ after
    → ((n : Name) → list_any (λ k. is_eq (name_cmp n k)) new ≡ cond (is_eq (name_cmp name n)) true (list_any (λ k. is_eq (name_cmp n k)) old)) → AreSameNames after (seen ++ name ∷ [])
put_among few old new seen after name v w e n =
    ap (list_any (name_eq n)) (sym w) ∙ list_any-append (name_eq n) few new
    ∙ ap (λ b. list_any (name_eq n) few || b)
    (sym (asked_set n new) ∙ e n ∙ ap (λ b. cond b true (list_any (λ k. is_eq (name_cmp n k)) old)) (same_test name n) ∙ ap (cond (name_eq n name) true) (asked_set n old))
    ∙ either (list_any (name_eq n) few) (list_any (name_eq n) old) (name_eq n name)
    ∙ ap (λ b. b || (name_eq n name || false)) (sym (list_any-append (name_eq n) few old) ∙ ap (list_any (name_eq n)) v)
    ∙ sym (list_any-append (name_eq n) seen (name ∷ []))
