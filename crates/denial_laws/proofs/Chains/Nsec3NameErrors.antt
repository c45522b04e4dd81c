-- A name error is answered exactly where a validator of NSEC3 records accepts one
use Rattle.std.proofs.Common.{◌≡◌, ℕ, Bool, true, false, cond, ◌||◌, List, refl, sym, ap, ◌∙◌, subst, true≢false, ◌⊎◌, inl, inr, arith}
use Rattle.std.specs.Prelude.{Option}
use Rattle.zone_proto.specs.declared.rdata.denial.NSEC3PARAM.{NSEC3PARAM as Nsec3Parameters}
use Rattle.zone_proto.specs.Names.{Name, is_at_or_above, IsAtOrAbove, IsAbove, wildcard_under}
use Rattle.zone_proto.specs.Sets.{RRset}
use Rattle.zone_proto.proofs.Members.{In, any_from_In, and_right}
use Rattle.zone_proto.proofs.Names.NameTree.{is_at_or_above_sound}
use Rattle.zone_proto.proofs.Names.Tree.{above_cases}
use Rattle.zone_map.specs.Wildcards.{asked_wildcard_exists}
use Rattle.zone_map.specs.Zones.{Sets}
use Rattle.zone_denial.specs.Nsec3Laws.{Denies}
use Rattle.zone_denial.proofs.Names.LongestAncestors.{above_shorter, IsLongestAbove, longest_is}
use Rattle.zone_denial.proofs.Chains.Nsec3Names.{is_named, named_in, in_named, origin_in, IsEnclosed, enclosed_off}
use Rattle.zone_denial.proofs.Chains.Nsec3Encloses.{wildcard_hashed}
use Rattle.zone_denial.proofs.Chain.NsecBelow.{above_at, comparable}
use Rattle.zone_lookup.specs.Replies.{name_exists, nx_domain, refused, negative_answer}
use Rattle.denial_validation.specs.Nsec3Proofs.{covers, is_matched, is_covered, proves_name_error}
use Rattle.denial_validation.specs.Nsec3Records.{Nsec3Record}
use Rattle.denial_laws.specs.Nsec3Scope.{read_nsec3_sets, AreNsec3OfZone}
use Rattle.denial_laws.specs.Nsec3Chains.{IsInNsec3ScopeOfChain}
use Rattle.denial_laws.proofs.Chains.Nsec3Judging.{there_is, no_wildcard_name, none_longer, encloser_proved}
use Rattle.denial_laws.proofs.Chains.Nsec3Matches.{covers_is, off_where_covered}
use Rattle.denial_laws.proofs.Chains.Nsec3Proved.{ancestor_named, uncovered, closer_covered, closer_below, proved_off}
use Rattle.denial_laws.proofs.Nsec3Proved.{IsProved, parts}
use Rattle.denial_laws.proofs.Chains.Nsec3Readings.{record_of, of_name}
use Rattle.denial_laws.proofs.Chains.Nsec3Shown.{IsShown, enclosing_shown}

module _ {origin : Name} {beside m : Sets} {hash : Name → Option (List ℕ)} {parameters : Nsec3Parameters} {names : List Name} {x : Name} (j : IsInNsec3ScopeOfChain origin beside m hash parameters names x) where
  abbrev on_chain : Name → Bool
  on_chain = is_named names

  named_from : (n : Name) → on_chain n ≡ false → In n names → ⊥
  named_from n off i = true≢false (sym (in_named names n i) ∙ off)

  unnamed_from : (n : Name) → (In n names → ⊥) → on_chain n ≡ false
  unnamed_from n away = by (on_chain n) refl
    where
      by : (b : Bool) → on_chain n ≡ b → b ≡ false
      by true e = absurd (away (named_in names n e))
      by false e = refl

  -- ---- of a name off the chain

  module _ (off : is_named names x ≡ false) where
    pub enclosed : (a : Name) × (c : Name) × IsEnclosed names x a c
    enclosed = enclosed_off names origin j.zone.begins x j.inside (named_from x off)

    pub over : IsAbove origin x
    over = by (above_cases origin x (is_at_or_above_sound origin x j.inside))
      where
        by : (origin ≡ x) ⊎ IsAbove origin x → IsAbove origin x
        by (inl e) = absurd (named_from x off (subst (λ n. In n names) e (origin_in names origin j.zone.begins)))
        by (inr u) = u

    module _ (answer : List RRset) (of_zone : AreNsec3OfZone m (read_nsec3_sets answer)) (given : Denies origin m hash names x answer) where
      abbrev pub a : Name
      a = enclosed.0

      abbrev pub c : Name
      c = enclosed.1

      abbrev rs : List Nsec3Record
      rs = read_nsec3_sets answer

      pub of_names : (r : Nsec3Record) → In r (read_nsec3_sets answer) → (n : Name) × In n names × (r ≡ record_of j.zone j.apart n)
      of_names = of_name j.zone j.apart rs of_zone

      pub enclosing : IsShown j.zone j.apart enclosed.0 enclosed.1 (read_nsec3_sets answer)
      enclosing = enclosing_shown j.zone j.apart (named_from x off) a c enclosed.2 answer given

      pub error_proved : is_named names (wildcard_under enclosed.0) ≡ false → proves_name_error origin hash (read_nsec3_sets answer) x ≡ true
      error_proved none =
          let k = enclosing.wildcard_off (named_from (wildcard_under a) none) in
          encloser_proved j a c enclosed.2 rs of_names over off enclosing (λ b. is_covered origin hash rs (wildcard_under b))
          (any_from_In (λ r. covers origin hash r (wildcard_under a)) (record_of j.zone j.apart k.0) rs k.2 (covers_is j.zone j.apart k.0 (wildcard_under a) k.1.on (wildcard_hashed j.zone j.apart a c enclosed.2) ∙ k.1.covered))

  -- ---- what any records of the zone prove

  module _ (rs : List Nsec3Record) (of_names : (r : Nsec3Record) → In r rs → (n : Name) × In n names × (r ≡ record_of j.zone j.apart n)) where
    module _ (cover : Nsec3Record → Bool) (rest : Name → Bool) (p : IsProved origin hash rs cover x rest) where
      -- the name isn't in the chain
      pub proved_away : is_named names x ≡ false
      proved_away = unnamed_from x (proved_off j.zone j.apart rs of_names cover rest p)

      uncovered_closer : In p.closer names → ⊥
      uncovered_closer = uncovered j.zone j.apart rs of_names p.closer (closer_covered j.zone j.apart rs of_names cover rest p)

      -- and the encloser is the circle's
      pub one : (a k : Name) → IsEnclosed names x a k → p.encloser ≡ a
      one a k e = by (comparable u.0 v.0 a p.encloser (sym u.1 ∙ v.1))
        where
          u : IsAtOrAbove a x
          u = e.above

          v : IsAtOrAbove p.encloser x
          v = above_at p.encloser x p.shown.above

          longest : IsLongestAbove on_chain x a
          longest = longest_is on_chain x a e.is_encloser

          -- a longer one isn't matched
          longer_one : (a ≡ p.encloser) ⊎ IsAbove a p.encloser → p.encloser ≡ a
          longer_one (inl q) = sym q
          longer_one (inr w) =
              absurd
              (true≢false
              (sym (and_right (is_at_or_above origin p.encloser) (is_matched origin hash rs p.encloser) p.shown.passes)
              ∙ none_longer j a k e rs of_names p.up p.encloser v (above_at a p.encloser w) (longest.longest p.encloser p.shown.above (above_shorter a p.encloser w))))

          -- of a shorter one the next closer name is in the chain
          closer_named : IsAbove p.encloser a → IsAtOrAbove p.closer a ⊎ IsAtOrAbove a p.closer → ⊥
          closer_named w (inl q) = uncovered_closer (ancestor_named j.zone p.closer a e.on q (closer_below j.zone j.apart rs of_names cover rest p))
          closer_named w (inr q) = same (above_cases a p.closer q)
            where
              same : (a ≡ p.closer) ⊎ IsAbove a p.closer → ⊥
              same (inl g) = uncovered_closer (subst (λ n. In n names) g e.on)
              same (inr l) = omega (arith, above_shorter a p.closer l, p.longer, above_shorter p.encloser a w)

          shorter_one : (p.encloser ≡ a) ⊎ IsAbove p.encloser a → p.encloser ≡ a
          shorter_one (inl q) = q
          shorter_one (inr w) = absurd (closer_named w (comparable p.at.0 u.0 p.closer a (sym p.at.1 ∙ u.1)))

          by : IsAtOrAbove a p.encloser ⊎ IsAtOrAbove p.encloser a → p.encloser ≡ a
          by (inl q) = longer_one (above_cases a p.encloser q)
          by (inr q) = shorter_one (above_cases p.encloser a q)

    -- with the wildcard of its encloser covered, there is no such name
    sound : proves_name_error origin hash rs x ≡ true → negative_answer origin m x ≡ nx_domain
    sound e = λ i. cond ((there_is j ∙ away) i || gone i) name_exists (cond (j.inside i) nx_domain refused)
      where
        p : IsProved origin hash rs (λ r. true) x (λ b. is_covered origin hash rs (wildcard_under b))
        p = parts origin hash rs (λ r. true) x (λ b. is_covered origin hash rs (wildcard_under b)) e

        away : on_chain x ≡ false
        away = proved_away (λ r. true) (λ b. is_covered origin hash rs (wildcard_under b)) p

        n : (a : Name) × (k : Name) × IsEnclosed names x a k
        n = enclosed away

        wildcard_away : on_chain (wildcard_under n.0) ≡ false
        wildcard_away =
            unnamed_from (wildcard_under n.0)
            (off_where_covered j.zone j.apart rs of_names (wildcard_under n.0) (wildcard_hashed j.zone j.apart n.0 n.1 n.2)
            (ap (λ a. is_covered origin hash rs (wildcard_under a)) (sym (one (λ r. true) (λ b. is_covered origin hash rs (wildcard_under b)) p n.0 n.1 n.2)) ∙ p.passes))

        gone : asked_wildcard_exists m x ≡ false
        gone = no_wildcard_name j n.0 n.2.is_encloser p.up wildcard_away

pub nsec3_error_denied : (origin : Name) (beside m : Sets) (hash : Name → Option (List ℕ)) (parameters : Nsec3Parameters) (names : List Name) (rs : List Nsec3Record) (x : Name) → IsInNsec3ScopeOfChain origin beside m hash parameters names x
    → AreNsec3OfZone m rs → proves_name_error origin hash rs x ≡ true → negative_answer origin m x ≡ nx_domain
nsec3_error_denied origin beside m hash parameters names rs x j of_zone p = sound j rs (of_name j.zone j.apart rs of_zone) p
