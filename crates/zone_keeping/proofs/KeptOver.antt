-- Lists of signatures, set by set, as they are handed over
use Rattle.std.proofs.Common.{◌≡◌, List, [], ◌∷◌, ◌++◌, refl, sym, ap, ◌∙◌, subst, append_assoc, append-nil, inl, inr}
use Rattle.std.specs.Prelude.{Option, Some}
use Rattle.std.specs.List.{All}
use Rattle.std.proofs.lemmas.List.Elements.{All-head, All-tail}
use Rattle.zone_proto.specs.declared.rdata.signing.DNSKEY.{DNSKEY}
use Rattle.zone_proto.specs.declared.record.Record.{Record}
use Rattle.zone_proto.specs.declared.rr_key.RrKey.{RrKey}
use Rattle.zone_proto.specs.Sets.{RRset}
use Rattle.zone_map.specs.Renewals.{AreHanded}
use Rattle.zone_map.specs.Zones.{Sets, set_at}
use Rattle.zone_planning.specs.declared.fault.PlanFault.{PlanFault}
use Rattle.zone_planning.specs.Faults.{IsUnwritableUnless}
use Rattle.zone_keeping.specs.declared.span.Span.{Span}
use Rattle.zone_keeping.specs.Faults.{IsComparable, AllComparable}
use Rattle.zone_keeping.specs.Keeping.{kept_list, kept_lists}

-- refused less often where less has to be so
pub unless_weaker : (e : PlanFault) (P Q : Type 0) → (Q → P) → IsUnwritableUnless e P → IsUnwritableUnless e Q
unless_weaker e P Q f (inl h) = inl h
unless_weaker e P Q f (inr (h, refuted)) = inr (h, λ q. refuted (f q))

module _ (span : Span) (usable : List (Option DNSKEY)) (old : Sets) where
  -- what was made hands over what all sets get, with whatever hands over what the sets that are left get
  abbrev pub KeptOver : Sets → Sets → List (Option (List Record)) → Type 0
  KeptOver zone rest lists = (ls : List (Option (List Record))) → AreHanded rest (kept_lists span usable old rest) ls [] → AreHanded zone (kept_lists span usable old zone) (lists ++ ls) []

  pub kept_begun : (zone rest : Sets) (lists : List (Option (List Record))) → rest ≡ zone → lists ≡ [] → KeptOver zone rest lists
  kept_begun zone rest lists all none ls h =
      subst (λ xs. AreHanded zone (kept_lists span usable old zone) (xs ++ ls) []) (sym none) (subst (λ (m : Sets). AreHanded m (kept_lists span usable old m) ls []) all h)

  pub kept_more : (zone rest es : Sets) (e : RrKey × RRset) (lists more : List (Option (List Record))) (list : List Record)
      → rest ≡ e ∷ es → more ≡ lists ++ Some list ∷ [] → list ≡ kept_list span usable (set_at old e.0.name e.0.record_type.0) e.1
      → KeptOver zone rest lists → KeptOver zone es more
  kept_more zone rest es e lists more list steps pushed made before ls h =
      let one : AreHanded (e ∷ es) (kept_lists span usable old (e ∷ es)) (Some list ∷ ls) [] = ([], [], refl, (made, refl), h) in
      let all : AreHanded zone (kept_lists span usable old zone) (lists ++ Some list ∷ ls) [] =
      before (Some list ∷ ls) (subst (λ (m : Sets). AreHanded m (kept_lists span usable old m) (Some list ∷ ls) []) (sym steps) one) in
      subst (λ xs. AreHanded zone (kept_lists span usable old zone) xs []) (sym (ap (λ xs. xs ++ ls) pushed ∙ append_assoc lists (Some list ∷ []) ls)) all

  pub kept_all : (zone rest : Sets) (lists : List (Option (List Record))) → rest ≡ [] → KeptOver zone rest lists → AreHanded zone (kept_lists span usable old zone) lists []
  kept_all zone rest lists none before =
      let nothing : AreHanded rest (kept_lists span usable old rest) [] [] = subst (λ (m : Sets). AreHanded m (kept_lists span usable old m) [] []) (sym none) refl in
      subst (λ xs. AreHanded zone (kept_lists span usable old zone) xs []) (append-nil lists) (before [] nothing)

  -- the sets that are left, with what was made, and that they can be compared if all can
  pub record IsKeeping (zone rest : Sets) (lists : List (Option (List Record))) : Type 0 where
    pub handed : KeptOver zone rest lists
    pub left : AllComparable old zone → AllComparable old rest

  pub keeping_begun : (zone rest : Sets) (lists : List (Option (List Record))) → rest ≡ zone → lists ≡ [] → IsKeeping zone rest lists
  keeping_begun zone rest lists all none = record { handed = kept_begun zone rest lists all none; left = λ h. subst (AllComparable old) (sym all) h }

  pub keeping_more : (zone rest es : Sets) (e : RrKey × RRset) (lists more : List (Option (List Record))) (list : List Record)
      → rest ≡ e ∷ es → more ≡ lists ++ Some list ∷ [] → list ≡ kept_list span usable (set_at old e.0.name e.0.record_type.0) e.1
      → IsKeeping zone rest lists → IsKeeping zone es more
  keeping_more zone rest es e lists more list steps pushed made before =
      let P : RrKey × RRset → Type 0 = λ e. IsComparable (set_at old e.0.name e.0.record_type.0) e.1 in
      record {
        handed = kept_more zone rest es e lists more list steps pushed made before.handed;
        left = λ h. All-tail P e es (subst (AllComparable old) steps (before.left h));
      }

  -- the next set can be compared if all can
  pub next_comparable : (zone rest es : Sets) (e : RrKey × RRset) (lists : List (Option (List Record))) → rest ≡ e ∷ es → IsKeeping zone rest lists
      → AllComparable old zone → IsComparable (set_at old e.0.name e.0.record_type.0) e.1
  next_comparable zone rest es e lists steps before h =
      let P : RrKey × RRset → Type 0 = λ e. IsComparable (set_at old e.0.name e.0.record_type.0) e.1 in
      All-head P e es (subst (AllComparable old) steps (before.left h))
