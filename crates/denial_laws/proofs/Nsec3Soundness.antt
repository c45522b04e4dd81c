-- What isn't found in a zone, whatever NSEC3 records prove of it
use Rattle.std.proofs.Common.{◌≡◌, ℕ, Bool, true, false, ◌&&◌, List, ◌∷◌, refl, sym, ◌∙◌, true≢false}
use Rattle.std.specs.Prelude.{None}
use Rattle.zone_proto.specs.Names.{Name, is_above, is_at_or_above, IsAtOrAbove}
use Rattle.zone_proto.specs.Types.{NS, CNAME, ANAME}
use Rattle.zone_proto.proofs.Members.{In-from_any, none_passes, and_left, and_right}
use Rattle.zone_proto.proofs.Names.NameTree.{above_test}
use Rattle.zone_map.specs.Direct.{direct}
use Rattle.zone_map.specs.Zones.{Sets, owns, owners}
use Rattle.zone_denial.specs.Authority.{is_below_cut}
use Rattle.zone_denial.proofs.Names.LongestAncestors.{above_below}
use Rattle.denial_laws.specs.Scope.{Unreferred}
use Rattle.denial_laws.proofs.NothingFound.{direct_none}

-- nothing is found at what owns nothing, in such a place
pub bare_direct : (origin : Name) (m : Sets) (y : Name) → Unreferred origin m → is_at_or_above origin y ≡ true → is_below_cut origin m y ≡ false → ((u : ℕ) → owns m y u ≡ false) → (t : ℕ) → direct m y t ≡ None
bare_direct origin m y unreferred inside uncut none t = direct_none origin m y unreferred inside uncut t (λ d k. absurd (true≢false (sym k ∙ none NS))) (none t) (none CNAME) (λ d. none ANAME)

pub first_label : (k l : List ℕ) (ks ls : Name) → ◌≡◌ {A = Name} (k ∷ ks) (l ∷ ls) → k ≡ l
first_label k l ks ls e = cc

-- a name above another is below no cut that the other doesn't
pub above_uncut : (origin : Name) (m : Sets) (n x : Name) → IsAtOrAbove n x → is_below_cut origin m x ≡ false → is_below_cut origin m n ≡ false
above_uncut origin m n x u uncut = by (is_below_cut origin m n) refl
  where
    by : (b : Bool) → is_below_cut origin m n ≡ b → b ≡ false
    by false e = refl
    by true e =
        let c = In-from_any (λ c. is_above origin c && is_above c n) (owners m NS) e in
        let w = above_below c.0 n x ((above_test c.0 n).0 (and_right (is_above origin c.0) (is_above c.0 n) c.2)) u in
        absurd (none_passes (λ a. is_above origin a && is_above a x) c.0 (owners m NS) uncut c.1 (λ i. and_left (is_above origin c.0) (is_above c.0 n) c.2 i && (above_test c.0 x).1 w i))
