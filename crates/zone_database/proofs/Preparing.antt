-- An entry whose value is replaced by one of the same zone leaves the zones as they were
use Rattle.std.proofs.Common.{◌≡◌, Bool, true, false, cond, List, [], ◌∷◌, map, refl, sym, ap, ◌∙◌}
use Rattle.std.specs.Prelude.{Option, Some, None}
use Rattle.std.specs.Map.{lookup, set_value}
use Rattle.std.proofs.lemmas.Map.{keys-set_value}
use Rattle.zone_origins.specs.InOrder.{AreUnderNames}
use Rattle.zone_proto.specs.Names.{Name}

module _ {V Z : Type 0} (value : V → Z) where
  abbrev values : List (Name × V) → List Z
  values es = map (λ e. value e.1) es

  pub same_values : (test : Name → Bool) (es : List (Name × V)) (u v : V) → lookup test es ≡ Some u → value v ≡ value u → values (set_value test es v) ≡ values es
  same_values test [] u v found is = refl
  same_values test (e ∷ es) u v found is = by (test e.0) found (λ f. same_values test es u v f is)
    where
      by : (b : Bool) → cond b (Some e.1) (lookup test es) ≡ Some u → (lookup test es ≡ Some u → values (set_value test es v) ≡ values es) → values (cond b ((e.0, v) ∷ es) (e ∷ set_value test es v)) ≡ value e.1 ∷ values es
      by true f ih =
          let same : e.1 ≡ u = cc in
          ap (λ z. z ∷ values es) (is ∙ ap value (sym same))
      by false f ih = ap (λ zs. value e.1 ∷ zs) (ih f)

pub same_under : {V : Type 0} (name_of : V → Name) (test : Name → Bool) (es : List (Name × V)) (u v : V) → lookup test es ≡ Some u → name_of v ≡ name_of u → AreUnderNames name_of es
    → AreUnderNames name_of (set_value test es v)
same_under name_of test es u v found is h = same_values name_of test es u v found is ∙ h ∙ sym (keys-set_value test es v)
