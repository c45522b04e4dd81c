-- In a zone with which nothing is wrong a CNAME is alone
use Rattle.std.proofs.Common.{◌≡◌, ◌==◌, ◌&&◌, ◌||◌, ◌⊎◌, ℕ, Bool, true, false, cond, not, length, List, [], ◌∷◌, refl, sym, ap, ◌∙◌, inl, inr, eqb-true, true≢false, arith}
use Rattle.std.specs.Prelude.{Option, Some, None, is_some, IsTrue}
use Rattle.std.specs.Option.{option_or}
use Rattle.zone_proto.specs.Names.{Name}
use Rattle.zone_proto.specs.Types.{CNAME}
use Rattle.zone_map.specs.Upserts.{is_denial_type, CnamesStandAlone}
use Rattle.zone_map.specs.Zones.{Sets, set_at, owns}
use Rattle.zone_builder.specs.declared.fault.LoadFault.{LoadFault}
use Rattle.zone_builder.specs.declared.given.GivenRecord.{GivenRecord}
use Rattle.zone_builder.specs.Faults.{place_fault, count_fault, iterations_fault, beside_fault, set_fault, stands_beside_cname, owns_cname, IsFaultless}
use Rattle.zone_builder.specs.Records.{given_at, signing_at}
use Rattle.zone_builder.specs.Sets.{signed_set_of, loaded_serial, loaded_set}
use Rattle.zone_builder.proofs.Faulting.{second_none}

some_length : (g : GivenRecord) (gs : List GivenRecord) (b : Bool) → (length (g ∷ gs) == 0) ≡ b → b ≡ false
some_length g gs false h = refl
some_length g gs true h = let none : length (g ∷ gs) ≡ 0 = eqb-true (length (g ∷ gs)) 0 h in absurd (omega arith)

-- a set is made of some records
filled : (serial : ℕ) (gs signing : List GivenRecord) → is_some (signed_set_of serial gs signing) ≡ true → (length gs == 0) ≡ false
filled serial [] signing h = absurd (true≢false (sym h))
filled serial (g ∷ gs) signing h = some_length g gs (length (g ∷ gs) == 0) refl

beside_none : (a o : Bool) (f : LoadFault) → o ≡ true → cond (not a && o) (Some f) None ≡ None → a ≡ true
beside_none true o f e h = refl
beside_none false o f e h = let there : Some f ≡ None = sym (ap (λ b. cond b (Some f) None) e) ∙ h in absurd cc

or_cases : (a b : Bool) → (a || b) ≡ true → (a ≡ true) ⊎ (b ≡ true)
or_cases true b h = inl refl
or_cases false b h = inr h

module _ (origin n : Name) (t : ℕ) where
  -- a set that may be beside a CNAME
  stands : (gs : List GivenRecord) → (length gs == 0) ≡ false → (o : Bool) → o ≡ true → set_fault origin n t o gs ≡ None → stands_beside_cname t ≡ true
  stands [] h o e f = absurd (true≢false h)
  stands (g ∷ gs) h o e f =
      beside_none (stands_beside_cname t) o _ e
      (second_none (iterations_fault (g ∷ gs)) (beside_fault t o g) (second_none (count_fault t g gs) later (second_none (place_fault origin n t g) (option_or (count_fault t g gs) later) f)))
    where
      later : Option LoadFault
      later = option_or (iterations_fault (g ∷ gs)) (beside_fault t o g)

pub cnames_alone : (origin : Name) (gs : List GivenRecord) (m : Sets) → ((n : Name) (t : ℕ) → set_at m n t ≡ loaded_set origin gs n t) → IsFaultless origin gs → CnamesStandAlone m
cnames_alone origin gs m sets right = record { alone = alone }
  where
    given : (n : Name) (t : ℕ) → IsTrue (owns m n t) → (length (given_at origin gs n t) == 0) ≡ false
    given n t h = filled (loaded_serial origin gs) (given_at origin gs n t) (signing_at origin gs n t) (sym (ap is_some (sets n t)) ∙ h)

    alone : (n : Name) (t : ℕ) → IsTrue (owns m n CNAME) → IsTrue (owns m n t) → (t ≡ CNAME) ⊎ IsTrue (is_denial_type t)
    alone n t cname own = by (or_cases (t == CNAME) (is_denial_type t) (stands origin n t (given_at origin gs n t) (given n t own) (owns_cname origin gs n) (ap not (given n CNAME cname)) (right.sets n t)))
      where
        by : ((t == CNAME) ≡ true) ⊎ (is_denial_type t ≡ true) → (t ≡ CNAME) ⊎ IsTrue (is_denial_type t)
        by (inl h) = inl (eqb-true t CNAME h)
        by (inr h) = inr h
