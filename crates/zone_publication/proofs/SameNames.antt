-- Names that are equal as the program compares them
use Rattle.std.proofs.Common.{◌≡◌, Bool, true, false, refl, sym, ap, ◌∙◌, true≢false}
use Rattle.std.specs.declared.cmp.Ordering.{Ordering}
use Rattle.std.specs.declared.cmp.Ordering.TheVariants.{Less, Equal, Greater}
use Rattle.std.specs.Ordering.{eq_by_cmp, is_eq}
use Rattle.zone_proto.specs.Names.{Name, name_cmp, name_eq}
use Rattle.zone_proto.specs.NameLaws.{exact_names}
use Rattle.zone_proto.proofs.Names.NameTree.{name_eq-Decides, name_itself}

pub same_name : (a b : Name) → eq_by_cmp name_cmp a b ≡ name_eq a b
same_name a b = by (name_cmp a b) refl
  where
    other : is_eq (name_cmp a b) ≡ false → (c : Bool) → name_eq a b ≡ c → false ≡ c
    other h true q =
        let e : a ≡ b = (name_eq-Decides a b).0 q in
        absurd (true≢false (sym (ap is_eq (ap (name_cmp a) (sym e) ∙ name_itself a)) ∙ h))
    other h false q = refl

    by : (o : Ordering) → name_cmp a b ≡ o → eq_by_cmp name_cmp a b ≡ name_eq a b
    by Equal e = ap is_eq e ∙ sym ((name_eq-Decides a b).1 (exact_names a b e))
    by Less e = ap is_eq e ∙ other (ap is_eq e) (name_eq a b) refl
    by Greater e = ap is_eq e ∙ other (ap is_eq e) (name_eq a b) refl
