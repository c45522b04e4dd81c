-- A walk from a name up to the root
use Rattle.std.proofs.Common.{◌≡◌, ◌≢◌, [], ◌∷◌, Bool, true, false, ◌||◌, drop, refl, sym, ap, ◌∙◌}
use Rattle.std.specs.Prelude.{◌↔◌, IsTrue}
use Rattle.std.specs.List.{list_any}
use Rattle.zone_proto.specs.Names.{Name, is_at_or_above, proper_ancestors, suffixes, wildcard_of, wildcard_under, IsAtOrAbove}
use Rattle.zone_proto.specs.Types.{CNAME}
use Rattle.zone_proto.proofs.Names.NameTree.{at_or_above_test}
use Rattle.zone_map.specs.Zones.{Sets, owns}
use Rattle.zone_publication.specs.Names.{is_below_cut, is_below_dname, is_cut, is_dname}
use Rattle.zone_publication.specs.Targets.{has_addresses, has_wildcard}

-- the test whether a name is at or above another
pub at_or_above_by : (a n : Name) (b : Bool) → IsTrue b ↔ IsAtOrAbove a n → b ≡ is_at_or_above a n
at_or_above_by a n true h = sym ((at_or_above_test a n).1 (h.0 refl))
at_or_above_by a n false h = by (is_at_or_above a n) refl
  where
    by : (c : Bool) → is_at_or_above a n ≡ c → false ≡ c
    by true q = h.1 ((at_or_above_test a n).0 q)
    by false q = refl

itself_first : (n : Name) → suffixes n ≡ n ∷ proper_ancestors n
itself_first [] = refl
itself_first (l ∷ ls) = refl

next : (p : Name → Bool) (n rest : Name) → n ≢ [] → rest ≡ drop 1 n → list_any p (proper_ancestors n) ≡ (p rest || list_any p (proper_ancestors rest))
next p [] rest some e = absurd (some refl)
next p (l ∷ ls) rest some e = let is : rest ≡ ls = e in rw (is, itself_first ls) refl

passed : (p : Name → Bool) (n rest : Name) → n ≢ [] → rest ≡ drop 1 n → p rest ≡ false → list_any p (proper_ancestors n) ≡ list_any p (proper_ancestors rest)
passed p n rest some e h = next p n rest some e ∙ ap (λ (b : Bool). b || list_any p (proper_ancestors rest)) h

reached : (p : Name → Bool) (n rest : Name) → n ≢ [] → rest ≡ drop 1 n → p rest ≡ true → list_any p (proper_ancestors n) ≡ true
reached p n rest some e h = next p n rest some e ∙ ap (λ (b : Bool). b || list_any p (proper_ancestors rest)) h

pub next_cut : (origin : Name) (m : Sets) (n rest : Name) → n ≢ [] → rest ≡ drop 1 n → is_cut origin m rest ≡ false → is_below_cut origin m n ≡ is_below_cut origin m rest
next_cut origin m n rest some e h = passed (λ a. is_cut origin m a) n rest some e h

pub at_cut : (origin : Name) (m : Sets) (n rest : Name) → n ≢ [] → rest ≡ drop 1 n → is_cut origin m rest ≡ true → is_below_cut origin m n ≡ true
at_cut origin m n rest some e h = reached (λ a. is_cut origin m a) n rest some e h

pub next_dname : (origin : Name) (m : Sets) (n rest : Name) → n ≢ [] → rest ≡ drop 1 n → is_dname origin m rest ≡ false → is_below_dname origin m n ≡ is_below_dname origin m rest
next_dname origin m n rest some e h = passed (λ a. is_dname origin m a) n rest some e h

pub at_dname : (origin : Name) (m : Sets) (n rest : Name) → n ≢ [] → rest ≡ drop 1 n → is_dname origin m rest ≡ true → is_below_dname origin m n ≡ true
at_dname origin m n rest some e h = reached (λ a. is_dname origin m a) n rest some e h

pub next_wildcard : (m : Sets) (n rest wildcard : Name) → n ≢ [] → rest ≡ drop 1 n → wildcard ≡ wildcard_of n → has_addresses m wildcard ≡ false → owns m wildcard CNAME ≡ false
    → has_wildcard m n ≡ has_wildcard m rest
next_wildcard m [] rest wildcard some e w h k = absurd (some refl)
next_wildcard m (l ∷ ls) rest wildcard some e w h k =
    let is : wildcard_under rest ≡ wildcard = ap wildcard_under e ∙ sym w in
    passed (λ a. has_addresses m (wildcard_under a) || owns m (wildcard_under a) CNAME) (l ∷ ls) rest some e (rw (is, h, k) refl)

pub at_wildcard : (m : Sets) (n wildcard : Name) → n ≢ [] → wildcard ≡ wildcard_of n → (has_addresses m wildcard || owns m wildcard CNAME) ≡ true → has_wildcard m n ≡ true
at_wildcard m [] wildcard some w h = absurd (some refl)
at_wildcard m (l ∷ ls) wildcard some w h =
    reached (λ a. has_addresses m (wildcard_under a) || owns m (wildcard_under a) CNAME) (l ∷ ls) ls some refl (ap (λ (x : Name). has_addresses m x || owns m x CNAME) (sym w) ∙ h)
