-- The nearest of a name and its ancestors that exists, as a walk up finds it, and what the walk has seen where it finds nothing
use Rattle.std.proofs.Common.{Bor, ◌≡◌, ℕ, ◌||◌, not, Bool, true, false, cond, [], ◌∷◌, drop, refl, sym, ap, ◌∙◌}
use Rattle.std.specs.Prelude.{Option, Some, None, find, option_copied, option_map}
use Rattle.std.specs.Option.{option_map_or}
use Rattle.zone_proto.specs.Names.{Name, is_root, suffixes, wildcard_of, is_wildcard, wildcard_under}
use Rattle.zone_proto.specs.Sets.{RRset}
use Rattle.zone_map.specs.Zones.{Sets}
use Rattle.zone_map.specs.declared.direct.Direct.{Direct}
use Rattle.zone_map.specs.declared.direct.Direct.TheVariants as found
use Rattle.zone_map.specs.declared.direct.Missing.{Missing}
use Rattle.zone_map.specs.Direct.{is_delegated, referral_at, exact}
use Rattle.zone_map.specs.Walks.{referral_above, own_referral, IsChild, FindsAbove, FindsDirect}
use Rattle.zone_map.specs.Wildcards.{exists, asked_wildcard}
use Rattle.zone_map.proofs.ExistingNames.{undelegated, unsaid}
use Rattle.zone_map.proofs.Neighbours.{not_false, not_true}
use Rattle.zone_map.proofs.Walks.{direct_above}

-- ---- the walk

module _ (m : Sets) where
  pub nearest_here : (n : Name) → exists m n ≡ true → find (exists m) (suffixes n) ≡ Some n
  nearest_here [] h = ap (λ b. cond b (Some []) None) h
  nearest_here (l ∷ n) h = ap (λ b. cond b (Some (l ∷ n)) (find (exists m) (suffixes n))) h

  pub nearest_above : (n : Name) → (n ≡ [] → ⊥) → exists m n ≡ false → find (exists m) (suffixes (drop 1 n)) ≡ find (exists m) (suffixes n)
  nearest_above [] below h = absurd (below refl)
  nearest_above (l ∷ n) below h = ap (λ b. cond b (Some (l ∷ n)) (find (exists m) (suffixes n))) (sym h)

  pub none_nearest : (n : Name) → n ≡ [] → exists m n ≡ false → find (exists m) (suffixes n) ≡ None
  none_nearest [] e h = ap (λ b. cond b (Some []) None) h
  none_nearest (l ∷ n) e h = cc

  -- where no name exists, none is delegated
  pub unreferred_without : (n : Name) → find (exists m) (suffixes n) ≡ None → referral_above m n ≡ None
  unreferred_without [] h = refl
  unreferred_without (l ∷ n) h = by (exists m (l ∷ n)) refl h (unreferred_without n)
    where
      by : (b : Bool) → exists m (l ∷ n) ≡ b → cond b (Some (l ∷ n)) (find (exists m) (suffixes n)) ≡ None
          → (find (exists m) (suffixes n) ≡ None → referral_above m n ≡ None) → referral_above m (l ∷ n) ≡ None
      by true x g ih = absurd cc
      by false x g ih = ap (λ b. referral_at m (cond b (Some (l ∷ n)) (find (is_delegated m) (suffixes n)))) (undelegated m (l ∷ n) x) ∙ ih g

  -- ---- a name that is delegated for a query exists

  said_exists : (n : Name) (t : ℕ) (r : Option RRset) → own_referral m n t ≡ Some r → (b : Bool) → exists m n ≡ b → b ≡ true
  said_exists n t r e true x = refl
  said_exists n t r e false x = let none = unsaid m n t x in cc

  pub delegated_exists : (n : Name) (t : ℕ) (r : Option RRset) → own_referral m n t ≡ Some r → true ≡ exists m n
  delegated_exists n t r e = sym (said_exists n t r e (exists m n) refl)

  -- ---- the wildcard at the closest encloser

  pub unasked : (n : Name) → not (is_root n || is_wildcard n || exists m n) ≡ false → None ≡ asked_wildcard m n
  unasked [] h = refl
  unasked (l ∷ n) h = sym (ap (λ b. cond b None (option_map wildcard_under (find (exists m) (suffixes n)))) (not_false (is_wildcard (l ∷ n) || exists m (l ∷ n)) h))

  -- a wildcard is asked for names alone that don't exist
  pub absent_where_asked : (n : Name) → not (is_root n || is_wildcard n || exists m n) ≡ true → exists m n ≡ false
  absent_where_asked n h = by (is_root n) (is_wildcard n) (exists m n) h
    where
      by : (a b c : Bool) → not (a || b || c) ≡ true → c ≡ false
      by true b c h = cc
      by false true c h = cc
      by false false true h = cc
      by false false false h = refl

  pub asked_of_nearest : (n : Name) (o : Option Name) → not (is_root n || is_wildcard n || exists m n) ≡ true → find (exists m) (suffixes (drop 1 n)) ≡ o
      → asked_wildcard m n ≡ option_map wildcard_under o
  asked_of_nearest [] o h f = cc
  asked_of_nearest (l ∷ n) o h f =
      ap (λ b. cond b None (option_map wildcard_under (find (exists m) (suffixes n)))) (not_true (is_wildcard (l ∷ n) || exists m (l ∷ n)) h)
      ∙ ap (option_map wildcard_under) f

  pub delegated_asks_none : (n : Name) (t : ℕ) (r : Option RRset) → own_referral m n t ≡ Some r → None ≡ asked_wildcard m n
  delegated_asks_none n t r e = unasked n (ap (λ b. not (is_root n || is_wildcard n || b)) (said_exists n t r e (exists m n) refl) ∙ always (is_root n) (is_wildcard n))
    where
      always : (b c : Bool) → not (b || c || true) ≡ false
      always true c = refl
      always false true = refl
      always false false = refl

-- `*` in place of the first label of the next closer name is the wildcard at the closest encloser
pub wildcard_of_nearest : (m : Sets) (n e closer : Name) → not (is_root n || is_wildcard n || exists m n) ≡ true → find (exists m) (suffixes (drop 1 n)) ≡ Some e → IsChild closer e
    → Some (wildcard_of closer) ≡ asked_wildcard m n
wildcard_of_nearest m n e closer h f (l, is) = ap (λ x. Some (wildcard_of x)) is ∙ sym (asked_of_nearest m n (Some e) h f)

-- ---- what a walk finds

-- by a set that is lent, or what is missing without one
pub by_set : (o : Option (Bor RRset)) (missing : Missing) (P : Direct → Type 0) (x : Option RRset) → option_copied o ≡ x → ((s : Bor RRset) → x ≡ Some s.now → P (found.Found s))
    → (x ≡ None → P (found.Missing missing)) → P (option_map_or found.Found o (found.Missing missing))
by_set None missing P x e f g = g (sym e)
by_set (Some s) missing P x e f g = f s (sym e)

-- what is found above a name that has nothing itself is what is found for it
pub direct_from_above : (m : Sets) (n : Name) (t : ℕ) (found' : Direct) → own_referral m n t ≡ None → exact m n t ≡ None → FindsAbove m n found' → FindsDirect m n t found'
direct_from_above m n t (found.Found s) own none h = direct_above m n t (Some s.now) own h
direct_from_above m n t (found.Missing missing) own none (h, is) = (direct_above m n t None own h ∙ none, is)
