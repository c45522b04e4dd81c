-- The signatures of sets, one set after the other, as they are handed over
use Rattle.std.proofs.Common.{◌≡◌, List, [], ◌∷◌, ◌++◌, map, refl, sym, ap, ◌∙◌, subst, append_assoc, append-nil}
use Rattle.std.specs.Prelude.{Option}
use Rattle.zone_proto.specs.declared.record.Record.{Record}
use Rattle.zone_proto.specs.declared.rr_key.RrKey.{RrKey}
use Rattle.zone_proto.specs.Sets.{RRset}
use Rattle.zone_map.specs.Renewals.{IsHanded, AreHanded}
use Rattle.zone_map.specs.Zones.{Sets}

-- what was made hands over the signatures of all sets, with whatever hands over those of the sets that are left
abbrev pub HandsOver : (RrKey × RRset → List Record) → Sets → Sets → List (Option (List Record)) → List Record → Type 0
HandsOver signatures zone left lists exchanged =
    (ls : List (Option (List Record))) (rs : List Record) → AreHanded left (map signatures left) ls rs → AreHanded zone (map signatures zone) (lists ++ ls) (exchanged ++ rs)

pub HandsOver-begun : (signatures : RrKey × RRset → List Record) (zone left : Sets) (lists : List (Option (List Record))) (exchanged : List Record)
    → left ≡ zone → lists ≡ [] → exchanged ≡ [] → HandsOver signatures zone left lists exchanged
HandsOver-begun signatures zone left lists exchanged all none empty ls rs h =
    let same : AreHanded zone (map signatures zone) ls rs = subst (λ (es : Sets). AreHanded es (map signatures es) ls rs) all h in
    subst (λ xs. AreHanded zone (map signatures zone) (xs ++ ls) (exchanged ++ rs)) (sym none)
    (subst (λ xs. AreHanded zone (map signatures zone) ls (xs ++ rs)) (sym empty) same)

-- one more set, whose part comes behind
pub HandsOver-more : (signatures : RrKey × RRset → List Record) (zone left es : Sets) (e : RrKey × RRset) (lists more : List (Option (List Record))) (exchanged after part : List Record) (list : Option (List Record))
    → left ≡ e ∷ es → more ≡ lists ++ list ∷ [] → after ≡ exchanged ++ part → IsHanded e.1 (signatures e) list part → HandsOver signatures zone left lists exchanged → HandsOver signatures zone es more after
HandsOver-more signatures zone left es e lists more exchanged after part list steps pushed behind is before ls rs h =
    let handed : AreHanded left (map signatures left) (list ∷ ls) (part ++ rs) =
    subst (λ (l : Sets). AreHanded l (map signatures l) (list ∷ ls) (part ++ rs)) (sym steps) (part, rs, refl, is, h) in
    let all : List (Option (List Record)) → List Record → Type 0 = AreHanded zone (map signatures zone) in
    subst (λ xs. all xs (after ++ rs)) (sym (ap (λ xs. xs ++ ls) pushed ∙ append_assoc lists (list ∷ []) ls))
    (subst (all (lists ++ list ∷ ls)) (sym (ap (λ xs. xs ++ rs) behind ∙ append_assoc exchanged part rs)) (before (list ∷ ls) (part ++ rs) handed))

pub HandsOver-all : (signatures : RrKey × RRset → List Record) (zone left : Sets) (lists : List (Option (List Record))) (exchanged : List Record)
    → left ≡ [] → HandsOver signatures zone left lists exchanged → AreHanded zone (map signatures zone) lists exchanged
HandsOver-all signatures zone left lists exchanged none before =
    let nothing : AreHanded left (map signatures left) [] [] = subst (λ (es : Sets). AreHanded es (map signatures es) [] []) (sym none) refl in
    subst (λ xs. AreHanded zone (map signatures zone) xs exchanged) (append-nil lists)
    (subst (AreHanded zone (map signatures zone) (lists ++ [])) (append-nil exchanged) (before [] [] nothing))
