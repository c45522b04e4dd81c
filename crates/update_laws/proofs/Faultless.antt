-- A zone that can be planned has an SOA at its origin, and no set outside of it
use Rattle.std.proofs.Common.{◌≡◌, ℕ, Bool, true, false, not, cond, List, [], ◌∷◌, refl, sym, ap, ◌∙◌, inl, inr, ◌+◌, length, arith, length-append}
use Rattle.std.specs.Prelude.{Option, Some, None, filter_map}
use Rattle.std.specs.List.{cons_option}
use Rattle.std.specs.Map.{keys_of}
use Rattle.std.specs.Option.{option_or}
use Rattle.zone_proto.specs.declared.rr_key.RrKey.{RrKey}
use Rattle.zone_proto.specs.Keys.{key}
use Rattle.zone_proto.specs.Names.{Name, is_at_or_above, IsAtOrAbove, IsAbove}
use Rattle.zone_proto.specs.Sets.{RRset}
use Rattle.zone_proto.specs.Types.{SOA, CNAME, is_derived}
use Rattle.zone_proto.proofs.Members.{In, In-map}
use Rattle.zone_proto.proofs.Names.NameTree.{is_at_or_above_sound}
use Rattle.zone_map.specs.Zones.{Sets, owns}
use Rattle.zone_map.proofs.Owned.{has_entry}
use Rattle.zone_planner.specs.declared.keys.PlannedKey.{PlannedKey}
use Rattle.zone_planner.specs.declared.request.Request.{Request}
use Rattle.zone_planner.specs.Faults.{denial_fault, plan_fault}
use Rattle.zone_planner.specs.Keys.{keyed}
use Rattle.zone_planner.specs.Requests.{keys_fault, moments_fault}
use Rattle.zone_planner.specs.Zones.{apex_fault, first, set_fault, sets_fault, zone_fault}
use Rattle.zone_denial.specs.Chains.{is_below_dname}
use Rattle.zone_planning.specs.declared.fault.PlanFault.{PlanFault}
use Rattle.zone_planning.specs.declared.fault.PlanFault.TheVariants as fault

neither : (a b : Option PlanFault) → option_or a b ≡ None → (a ≡ None) × (b ≡ None)
neither None b e = (refl, e)
neither (Some x) b e = absurd cc

-- a test of which the failure is a fault has passed where there is none
passed : (b : Bool) (e : PlanFault) (o : Option PlanFault) → cond (not b) (Some e) o ≡ None → b ≡ true
passed true e o h = refl
passed false e o h = absurd cc

-- where nothing is wrong with any of these keys, nothing is with one of them
none_wrong : (f : RrKey → Option PlanFault) (ks : List RrKey) → first (filter_map f ks) ≡ None → (k : RrKey) → In k ks → f k ≡ None
none_wrong f [] h k i = absurd i
none_wrong f (j ∷ ks) h k i = by (f j) refl h i (none_wrong f ks)
  where
    by : (o : Option PlanFault) → f j ≡ o → first (cons_option o (filter_map f ks)) ≡ None → In k (j ∷ ks)
        → (first (filter_map f ks) ≡ None → (k : RrKey) → In k ks → f k ≡ None) → f k ≡ None
    by None e g (inl same) rest = ap f (sym same) ∙ e
    by None e g (inr i) rest = rest g k i
    by (Some x) e g i rest = absurd cc

-- a name at or below another isn't above it
pub not_above : (origin a : Name) → IsAtOrAbove origin a → IsAbove a origin → ⊥
not_above origin a (f, e) (l, g, h) =
    let down : length a ≡ length f + length origin = ap length e ∙ length-append f origin in
    let up : length origin ≡ length (l ∷ g) + length a = ap length h ∙ length-append (l ∷ g) a in
    absurd (omega (arith, down, up))

module _ (origin : Name) (m : Sets) (keys : List PlannedKey) (request : Request) (faultless : plan_fault origin m keys request ≡ None) where
  of_zone : zone_fault origin m ≡ None
  of_zone =
      let of_moments = neither (keys_fault keys) (option_or (moments_fault request) (option_or (zone_fault origin m) (denial_fault request.nx_proof_kind origin (keyed origin keys request m)))) faultless in
      let of_sets = neither (moments_fault request) (option_or (zone_fault origin m) (denial_fault request.nx_proof_kind origin (keyed origin keys request m))) of_moments.1 in
      (neither (zone_fault origin m) (denial_fault request.nx_proof_kind origin (keyed origin keys request m)) of_sets.1).0

  pub has_soa : owns m origin SOA ≡ true
  has_soa = passed (owns m origin SOA) fault.NoSoa (cond (owns m origin CNAME) (Some fault.CnameAtOrigin) None) (neither (apex_fault origin m) (sets_fault origin m) of_zone).0

  -- each set stands at the origin or below it
  pub inside : (n : Name) (t : ℕ) → owns m n t ≡ true → IsAtOrAbove origin n
  inside n t owned =
      let entry = has_entry m n t owned in
      let among : In (key n t) (keys_of m) = In-map (λ (e : RrKey × RRset). e.0) (key n t, entry.0) m entry.1 in
      is_at_or_above_sound origin n
      (passed (is_at_or_above origin n) (fault.Outside n)
      (cond (is_derived t) (Some (fault.Made n (key n t).record_type)) (cond (is_below_dname m n) (Some (fault.BelowDname n)) None))
      (none_wrong (set_fault origin m) (keys_of m) (neither (apex_fault origin m) (sets_fault origin m) of_zone).1 (key n t) among))
