-- The closest encloser proof by NSEC3 records
use Rattle.std.proofs.Common.{◌≡◌, ℕ, ◌==◌, ◌&&◌, not, suc, Bool, true, false, cond, List, [], ◌∷◌, length, Option, Some, None, refl, sym, ap, ◌∙◌, true≢false, ne_eqb, arith}
use Rattle.std.specs.List.{list_any}
use Rattle.std.specs.Option.{option_map_or}
use Rattle.zone_proto.specs.Names.{Name, base_name, wildcard_of, is_above, wildcard_under, suffixes}
use Rattle.denial_validation.specs.declared.proof.Proof.{Proof}
use Rattle.denial_validation.specs.declared.proof.Proof.TheVariants.{WildcardAnswer}
use Rattle.denial_validation.specs.Encloser.{next_closer}
use Rattle.denial_validation.specs.Nsec3Proofs.{denies_type, owner_of, matches, has_owner, covers_owner, covers, is_matched, is_encloser, is_handing_on, is_denied, is_covered, is_opted_out, is_of_encloser, is_of_unsigned, shown_encloser, encloser_and, proved_encloser, proves_opted_out}
use Rattle.denial_validation.specs.Nsec3Records.{Nsec3Record}
use Rattle.denial_validation.proofs.ListTests.{find_passes, list_any-alone, list_any-both_none}
use Rattle.denial_validation.proofs.ShownWalk.{walk_ends}

alone : (b : Bool) → (b && true) ≡ b
alone true = refl
alone false = refl

-- the wildcard at a next closer name's base is that name with `*` for its first label
pub base_of_wildcard : (c : Name) → base_name (wildcard_of c) ≡ base_name c
base_of_wildcard [] = refl
base_of_wildcard (l ∷ ls) = refl

pub wildcard_of_closer : (x e c : Name) → next_closer x e ≡ Some c → wildcard_of c ≡ wildcard_under (base_name (wildcard_of c))
wildcard_of_closer x e [] h = absurd (true≢false (sym (find_passes (λ (s : Name). length s == suc (length e)) (suffixes x) [] h) ∙ ne_eqb 0 (suc (length e)) (λ k. omega (arith, k))))
wildcard_of_closer x e (l ∷ ls) h = refl

-- what is asked of the hashed owner of a name is asked of the name
module _ (apex : Name) (hash : Name → Option (List ℕ)) (rs : List Nsec3Record) (n : Name) (o : Option Name) (is : o ≡ owner_of apex hash n) where
  pub matched_by : list_any (λ r. has_owner r o) rs ≡ is_matched apex hash rs n
  matched_by = λ i. list_any (λ (r : Nsec3Record). has_owner r (is i)) rs

  pub encloser_by : list_any (λ r. has_owner r o && is_of_encloser r) rs ≡ is_encloser apex hash rs n
  encloser_by = λ i. list_any (λ (r : Nsec3Record). has_owner r (is i) && is_of_encloser r) rs

  pub handed_on_by : list_any (λ r. has_owner r o && not (is_of_encloser r)) rs ≡ is_handing_on apex hash rs n
  handed_on_by = λ i. list_any (λ (r : Nsec3Record). has_owner r (is i) && not (is_of_encloser r)) rs

  pub covered_by : list_any (λ r. covers_owner apex r o) rs ≡ is_covered apex hash rs n
  covered_by = λ i. list_any (λ (r : Nsec3Record). covers_owner apex r (is i)) rs

  pub opted_out_by : list_any (λ r. covers_owner apex r o && r.opt_out) rs ≡ is_opted_out apex hash rs n
  opted_out_by = λ i. list_any (λ (r : Nsec3Record). covers_owner apex r (is i) && r.opt_out) rs

  pub answered_by : (covered : Bool) (rest : Name) (found : Option Proof) → cond covered (Some (WildcardAnswer (length rest) (list_any (λ r. covers_owner apex r o && r.opt_out) rs))) found
      ≡ cond covered (Some (WildcardAnswer (length rest) (is_opted_out apex hash rs n))) found
  answered_by covered rest found = ap (λ b. cond covered (Some (WildcardAnswer (length rest) b)) found) opted_out_by

  pub denied_by : (t : ℕ) → list_any (λ r. has_owner r o && denies_type apex r n t) rs ≡ is_denied apex hash rs n t
  denied_by t = λ i. list_any (λ (r : Nsec3Record). has_owner r (is i) && denies_type apex r n t) rs

  pub unsigned_by : list_any (λ r. has_owner r o && is_of_unsigned r) rs ≡ list_any (λ r. matches apex hash r n && is_of_unsigned r) rs
  unsigned_by = λ i. list_any (λ (r : Nsec3Record). has_owner r (is i) && is_of_unsigned r) rs

module _ (apex : Name) (hash : Name → Option (List ℕ)) (rs : List Nsec3Record) (x : Name) where
  -- an encloser that is shown is not above the apex
  shown_below : (e : Name) → shown_encloser apex hash rs x ≡ Some e → is_above apex x ≡ true
  shown_below e shown = by (is_above apex x) refl
    where
      by : (b : Bool) → is_above apex x ≡ b → b ≡ true
      by true h = refl
      by false h = let none : shown_encloser apex hash rs x ≡ None = walk_ends apex hash rs x h in cc

  -- a record matches e in the zone, one that passes a test covers c, and e passes a test
  abbrev by_parts : Name → Name → (Nsec3Record → Bool) → (Name → Bool) → Bool
  by_parts e c cover rest = list_any (λ r. matches apex hash r e && is_of_encloser r) rs && list_any (λ r. covers apex hash r c && cover r) rs && rest e

  -- where a record matches x there is no proof
  pub matched_none : (cover : Nsec3Record → Bool) (rest : Name → Bool) → is_matched apex hash rs x ≡ true → encloser_and apex hash rs cover x rest ≡ false
  matched_none cover rest matched = by (is_above apex x)
    where
      proved : Bool
      proved = option_map_or (λ e. list_any (λ r. matches apex hash r e && is_of_encloser r) rs && option_map_or (λ c. list_any (λ r. covers apex hash r c && cover r) rs) (next_closer x e) false && rest e) (shown_encloser apex hash rs x) false

      by : (b : Bool) → (b && not (is_matched apex hash rs x) && proved) ≡ false
      by true = ap (λ m. not m && proved) matched
      by false = refl

  -- where no encloser is shown there is none
  pub hidden_none : (cover : Nsec3Record → Bool) (rest : Name → Bool) → shown_encloser apex hash rs x ≡ None → encloser_and apex hash rs cover x rest ≡ false
  hidden_none cover rest shown = ap (λ o. is_above apex x && not (is_matched apex hash rs x) && option_map_or at o false) shown ∙ by (is_above apex x && not (is_matched apex hash rs x))
    where
      at : Name → Bool
      at e = list_any (λ r. matches apex hash r e && is_of_encloser r) rs && option_map_or (λ c. list_any (λ r. covers apex hash r c && cover r) rs) (next_closer x e) false && rest e

      by : (b : Bool) → (b && false) ≡ false
      by true = refl
      by false = refl

  -- whatever is asked of the encloser besides is asked of the one that is proved
  pub with_rest : (rest : Name → Bool) → encloser_and apex hash rs (λ r. true) x rest ≡ option_map_or rest (proved_encloser apex hash rs x) false
  with_rest rest = by (is_above apex x && not (is_matched apex hash rs x)) (shown_encloser apex hash rs x)
    where
      shows : Name → Bool
      shows e = list_any (λ r. matches apex hash r e && is_of_encloser r) rs && option_map_or (λ c. list_any (λ r. covers apex hash r c && true) rs) (next_closer x e) false

      at : (a zone : Bool) (e : Name) → (a && (zone && rest e)) ≡ option_map_or rest (cond (a && (zone && true)) (Some e) None) false
      at true true e = refl
      at true false e = refl
      at false zone e = refl

      none : (a : Bool) → (a && false) ≡ option_map_or rest (cond (a && false) None None) false
      none true = refl
      none false = refl

      by : (a : Bool) (shown : Option Name)
          → (a && option_map_or (λ e. shows e && rest e) shown false) ≡ option_map_or rest (cond (a && option_map_or (λ e. shows e && true) shown false) shown None) false
      by a None = none a
      by a (Some e) = at a (shows e) e

  -- where the proof stands no record matches x
  pub unmatched_by : (e : Name) → proved_encloser apex hash rs x ≡ Some e → is_matched apex hash rs x ≡ false
  unmatched_by e proved = by (is_matched apex hash rs x) refl
    where
      by : (b : Bool) → is_matched apex hash rs x ≡ b → b ≡ false
      by false h = refl
      by true h =
          let none : proved_encloser apex hash rs x ≡ None = ap (λ b. cond b (shown_encloser apex hash rs x) None) (matched_none (λ r. true) (λ a. true) h) in cc

  module _ (e c : Name) (unmatched : is_matched apex hash rs x ≡ false) (shown : shown_encloser apex hash rs x ≡ Some e) (closer : next_closer x e ≡ Some c) where
    in_parts : (cover : Nsec3Record → Bool) (rest : Name → Bool) → encloser_and apex hash rs cover x rest ≡ by_parts e c cover rest
    in_parts cover rest =
        (λ i. shown_below e shown i && not (unmatched i) && option_map_or (λ a. list_any (λ r. matches apex hash r a && is_of_encloser r) rs && option_map_or (λ k. list_any (λ r. covers apex hash r k && cover r) rs) (next_closer x a) false && rest a) (shown i) false)
        ∙ (λ i. list_any (λ r. matches apex hash r e && is_of_encloser r) rs && option_map_or (λ k. list_any (λ r. covers apex hash r k && cover r) rs) (closer i) false && rest e)

    -- whether the proof stands
    stands : encloser_and apex hash rs (λ r. true) x (λ a. true) ≡ (list_any (λ r. matches apex hash r e && is_of_encloser r) rs && list_any (λ r. covers apex hash r c) rs)
    stands = in_parts (λ r. true) (λ a. true) ∙ alone (list_any (λ r. matches apex hash r e && is_of_encloser r) rs && list_any (λ r. covers apex hash r c && true) rs)
        ∙ ap (λ b. list_any (λ r. matches apex hash r e && is_of_encloser r) rs && b) (list_any-alone (λ r. covers apex hash r c) rs)

    pub proved_is : (in_zone covered : Bool) → in_zone ≡ list_any (λ r. matches apex hash r e && is_of_encloser r) rs → covered ≡ list_any (λ r. covers apex hash r c) rs
        → proved_encloser apex hash rs x ≡ cond (in_zone && covered) (Some e) None
    proved_is in_zone covered zone cover =
        (λ i. cond (stands i) (shown i) None) ∙ (λ i. cond (sym zone i && sym cover i) (Some e) None)

    pub opted_out_is : (in_zone opted_out : Bool) → in_zone ≡ list_any (λ r. matches apex hash r e && is_of_encloser r) rs → opted_out ≡ list_any (λ r. covers apex hash r c && r.opt_out) rs
        → proves_opted_out apex hash rs x ≡ (in_zone && opted_out)
    opted_out_is in_zone opted_out zone out =
        in_parts (λ r. r.opt_out) (λ a. true) ∙ alone (list_any (λ r. matches apex hash r e && is_of_encloser r) rs && list_any (λ r. covers apex hash r c && r.opt_out) rs) ∙ (λ i. sym zone i && sym out i)

    -- nor does opt-out leave x out where the proof doesn't stand
    pub unopted_is : (in_zone covered : Bool) → in_zone ≡ list_any (λ r. matches apex hash r e && is_of_encloser r) rs → covered ≡ is_covered apex hash rs c → (in_zone && covered) ≡ false
        → proves_opted_out apex hash rs x ≡ false
    unopted_is false covered zone cover h = opted_out_is false (list_any (λ r. covers apex hash r c && r.opt_out) rs) zone refl
    unopted_is true covered zone cover h =
        opted_out_is true (list_any (λ r. covers apex hash r c && r.opt_out) rs) zone refl ∙ list_any-both_none (λ r. covers apex hash r c) (λ r. r.opt_out) rs (sym cover ∙ h)

  -- what is asked of the wildcard, where the proof stands
  pub wildcard_rest : (wildcard : Name) → Some (base_name wildcard) ≡ proved_encloser apex hash rs x → wildcard ≡ wildcard_under (base_name wildcard) → (test : Name → Bool)
      → encloser_and apex hash rs (λ r. true) x (λ e. test (wildcard_under e)) ≡ test wildcard
  wildcard_rest wildcard proved is test =
      with_rest (λ e. test (wildcard_under e)) ∙ ap (λ o. option_map_or (λ e. test (wildcard_under e)) o false) (sym proved) ∙ ap test (sym is)
