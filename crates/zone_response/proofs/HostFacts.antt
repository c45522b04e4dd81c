-- The hosts of a set, record after record; and those of a set as it is sent
use Rattle.std.proofs.Common.{◌≡◌, ℕ, zero, suc, ◌||◌, Bool, true, false, cond, List, [], ◌∷◌, ◌++◌, map, take, ◌⊎◌, inl, inr, refl, sym, ap, ◌∙◌}
use Rattle.std.specs.Prelude.{◌==◌, flat_map, fold, Result, OnOk}
use Rattle.std.specs.Cmp.{both_ways}
use Rattle.std.specs.List.{list_any}
use Rattle.std.proofs.lemmas.Result.{on_ok_weaker}
use Rattle.zone_proto.specs.declared.record.Record.{Record}
use Rattle.zone_proto.specs.Names.{Name, name_eq}
use Rattle.zone_proto.specs.Sets.{RRset}
use Rattle.zone_proto.specs.Types.{NS}
use Rattle.zone_proto.proofs.Names.NameTree.{name_eq-Decides}
use Rattle.zone_map.specs.Zones.{Sets}
use Rattle.zone_lookup.specs.Runs.{with_new}
use Rattle.zone_response.specs.declared.response.Part.{Part}
use Rattle.zone_response.specs.declared.response.Part.TheVariants as part
use Rattle.zone_response.specs.Additional.{with_host, host_sets, beside}
use Rattle.zone_response.specs.Sections.{with_ttl, sent}

-- ---- a name that is listed once

turned : (x y : Name) → name_eq x y ≡ name_eq y x
turned x y = both_ways (name_eq x y) (name_eq y x) (λ e. (name_eq-Decides y x).1 (sym ((name_eq-Decides x y).0 e))) (λ e. (name_eq-Decides x y).1 (sym ((name_eq-Decides y x).0 e)))

listed : (x : Name) (names : List Name) → list_any (name_eq x) names ≡ list_any (λ (y : Name). name_eq y x) names
listed x [] = refl
listed x (y ∷ names) = (λ i. turned x y i || listed x names i)

with_test : (names : List Name) (x : Name) (b : Bool) → list_any (name_eq x) names ≡ b → cond b names (names ++ x ∷ []) ≡ with_new name_eq names x
with_test names x b e = ap (λ c. cond c names (names ++ x ∷ [])) (sym e ∙ listed x names)

pub listed_already : (names : List Name) (x : Name) → list_any (name_eq x) names ≡ true → names ≡ with_new name_eq names x
listed_already names x e = with_test names x true e

pub listed_last : {T E : Type 0} (result : Result T E) (names new : List Name) (x : Name) → list_any (name_eq x) names ≡ false → OnOk result (new ≡ names ++ x ∷ []) → OnOk result (new ≡ with_new name_eq names x)
listed_last result names new x e h = on_ok_weaker result (λ is. is ∙ with_test names x false e) h

-- ---- a loop over the records

-- the hosts so far, with those of the first k records that are left
abbrev pub hosts_from : List Name → ℕ → List Record → List Name
hosts_from names k rs = fold with_host names (take k rs)

pub none_left : (names : List Name) (k : ℕ) (rs : List Record) (whole : List Name) → rs ≡ [] → hosts_from names k rs ≡ whole → names ≡ whole
none_left names k rs whole e h = sym (ap (hosts_from names k) e ∙ by k) ∙ h
  where
    by : (k : ℕ) → hosts_from names k [] ≡ names
    by zero = refl
    by (suc k) = refl

pub enough : (names : List Name) (k : ℕ) (rs : List Record) (whole : List Name) → k ≡ 0 → hosts_from names k rs ≡ whole → names ≡ whole
enough names k rs whole e h = sym (ap (λ k. hosts_from names k rs) e) ∙ h

pub passed : (names after : List Name) (k j : ℕ) (s t : List Record) (r : Record) (whole : List Name) → s ≡ r ∷ t → k ≡ suc j → after ≡ with_host names r → hosts_from names k s ≡ whole → hosts_from after j t ≡ whole
passed names after k j s t r whole e d a h = ap (λ ns. hosts_from ns j t) a ∙ sym ((λ i. hosts_from names (d i) (e i))) ∙ h

-- ---- as a set is sent

named : (ttl k : ℕ) (names : List Name) (rs : List Record) → fold with_host names (take k (map (with_ttl ttl) rs)) ≡ fold with_host names (take k rs)
named ttl zero names rs = refl
named ttl (suc k) names [] = refl
named ttl (suc k) names (r ∷ rs) = named ttl k (with_host names r) rs

module _ (origin : Name) (m : Sets) (signed : Bool) (p : Part) (ttl : ℕ) (s t : RRset) (same : t ≡ s) where
  -- beside a set as it is sent stands what is beside the set, if its records go
  pub beside_sent : (p ≡ part.Records) ⊎ (p ≡ part.Signed) → beside origin m signed t ≡ beside origin m signed (sent p ttl s)
  beside_sent (inl is) =
      ap (beside origin m signed) same
      ∙ sym (ap (flat_map (host_sets origin m signed (s.record_type == NS))) (named ttl 64 [] s.records))
      ∙ sym (ap (λ (p : Part). beside origin m signed (sent p ttl s)) is)
  beside_sent (inr is) =
      ap (beside origin m signed) same
      ∙ sym (ap (flat_map (host_sets origin m signed (s.record_type == NS))) (named ttl 64 [] s.records))
      ∙ sym (ap (λ (p : Part). beside origin m signed (sent p ttl s)) is)
