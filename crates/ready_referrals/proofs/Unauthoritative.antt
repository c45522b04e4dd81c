-- A response without an error and without answers of which the server is no authority is a referral
use Rattle.std.proofs.Common.{◌≡◌, ◌≢◌, ℕ, ◌&&◌, Bool, true, false, true≢false, cond, not, List, [], ◌∷◌, refl, sym, ap, ◌∙◌, subst}
use Rattle.std.specs.Option.{option_map_or}
use Rattle.std.specs.Prelude.{Option, Some, None}
use Rattle.zone_proto.specs.Names.{Name, is_at_or_above}
use Rattle.zone_proto.specs.Sets.{RRset}
use Rattle.zone_proto.specs.Types.{IN, NS, SOA}
use Rattle.zone_proto.specs.declared.response_code.ResponseCode.{ResponseCode}
use Rattle.zone_proto.specs.declared.response_code.ResponseCode.TheVariants as code
use Rattle.zone_map.specs.Wildcards.{exists}
use Rattle.zone_map.specs.Zones.{set_at}
use Rattle.zone_response.specs.Aname.{StandInAnswer, addresses, no_addresses, untold, stand_in_answer}
use Rattle.zone_response.specs.Descent.{Diversion, cut, renaming, diversion}
use Rattle.zone_response.specs.Dname.{dname_target, in_place_of, unless_long}
use Rattle.zone_response.specs.Nodes.{AtNode, own, alias, stand_in, nothing, at_node}
use Rattle.zone_response.specs.Paths.{Path, behind, ended, path, path_from, searched, unless_answered}
use Rattle.zone_response.specs.Queries.{Zone, Query, Inquiry, inquiry}
use Rattle.zone_response.specs.Responses.{answered, authority_sets, bare, fails, failing, is_authority, lacks_proofs, outcome_along, outcome_of, refused, unprovable, without_soa, IsResponseBy, IsResponseTo}
use Rattle.zone_response.specs.Sections.{Sections, as_it_is, part_for, is_signed}
use Rattle.zone_response.specs.Steps.{End, complete, ends, failed, referred, Step, at_end, diverted_step, expanded_names, as_found_for, keeps, missing, new_name_step, node_step, step_at, stood_in_step, target_step, wildcard_step}
use Rattle.zone_response.specs.Wildcards.{source_of_synthesis}
use Rattle.zone_response.proofs.PathSteps.{unseen}
use Rattle.zone_response.proofs.StepCases.{inside_step}
use Rattle.ready_referrals.proofs.ReferredNames.{path_is}
use Rattle.ready_referrals.specs.Referrals.{SaysReferral, UnauthoritativeResponsesAreReferrals}

-- ---- what a step other than a referral comes to

-- the path that goes on behind a step, for a query of t
abbrev on_path : ℕ → Step → (Name → Path) → Path
on_path t s onward = behind s.answers s.made (searched onward (unless_answered t s.answers s.next))

-- where it has no answers, the server is an authority for the name
abbrev Tells : ℕ → Step → Type 0
Tells t s = (onward : Name → Path) → (on_path t s onward).answers ≡ [] → is_authority (on_path t s onward).end [] ≡ true

module _ (i : Inquiry) (x : Name) where
  abbrev t : ℕ
  t = i.record_type

  ends_told : (e : End) → is_authority e [] ≡ true → Tells t (at_end e)
  ends_told e h onward none = h

  addresses_told : (w : Option Name) (s : RRset) (b : Bool)
      → Tells t (cond b (at_end failed) (record { answers = as_it_is (part_for i.signed) s ∷ []; made = expanded_names w x; next = ends complete }))
  addresses_told w s true onward none = refl
  addresses_told w s false onward none = refl

  stood_in_told : (w : Option Name) (a : StandInAnswer) → Tells t (stood_in_step i.is_proved i.signed w x a)
  stood_in_told w (addresses s) = addresses_told w s (i.is_proved && not (is_signed s))
  stood_in_told w no_addresses = λ onward none. refl
  stood_in_told w untold = λ onward none. refl

  one_answer : (s : RRset) (rest : List RRset) → s ∷ rest ≡ [] → ⊥
  one_answer s rest e = cc

  node_told : (w : Option Name) (n : AtNode) → Tells t (node_step i w x n)
  node_told w (own s) onward none = refl
  node_told w (alias s) onward none = absurd (one_answer _ _ none)
  node_told w (stand_in s) onward none = stood_in_told w (stand_in_answer i x (as_found_for (keeps i.signed i.record_type) w x s)) onward none
  node_told w nothing onward none = refl

  -- at the wildcard, and at the name
  starred_told : (w : Name) (there : Bool) → Tells t (cond there (step_at i (Some w) x w) (at_end (missing x (Some w) false)))
  starred_told w true = node_told (Some w) (at_node i.sets w i.record_type)
  starred_told w false = λ onward none. refl

  wildcard_told : (w : Option Name) → Tells t (wildcard_step i x w)
  wildcard_told None = λ onward none. refl
  wildcard_told (Some w) = starred_told w (exists i.sets w)

  name_told : (there : Bool) → Tells t (cond there (step_at i None x x) (wildcard_step i x (source_of_synthesis i.sets x)))
  name_told true = node_told None (at_node i.sets x i.record_type)
  name_told false = wildcard_told (source_of_synthesis i.sets x)

  -- below a DNAME
  renamed_told : (s : RRset) (n : Option Name) → Tells t (new_name_step i.signed i.record_type [] x s n)
  renamed_told s (Some n) onward none = absurd (one_answer _ _ none)
  renamed_told s None onward none = refl

  target_told : (s : RRset) (target : Option Name) → Tells t (target_step i.signed i.record_type [] x s target)
  target_told s (Some target) = renamed_told s (unless_long (in_place_of s.owner target x))
  target_told s None = λ onward none. refl

  -- so it is a zone cut that turns the search
  cut_turns : (d : Option Diversion) (onward : Name → Path) → (on_path t (diverted_step i [] x d) onward).answers ≡ []
      → is_authority (on_path t (diverted_step i [] x d) onward).end [] ≡ false → (ns : RRset) × (d ≡ Some (cut ns))
  cut_turns None onward none aside = absurd (true≢false (sym (name_told (exists i.sets x) onward none) ∙ aside))
  cut_turns (Some (cut ns)) onward none aside = (ns, refl)
  cut_turns (Some (renaming s)) onward none aside = absurd (true≢false (sym (target_told s (dname_target s) onward none) ∙ aside))

  module _ (inside : is_at_or_above i.origin x ≡ true) where
    path_begins : path i x ≡ on_path t (diverted_step i [] x (diversion i.origin i.sets x i.record_type)) (path_from i 7 (x ∷ []) (diverted_step i [] x (diversion i.origin i.sets x i.record_type)).answers)
    unfolding path
    path_begins =
        unseen i 8 7 [] [] x refl refl
        ∙ ap (λ (s : Step). behind s.answers s.made (searched (path_from i 7 (x ∷ []) s.answers) (unless_answered i.record_type s.answers s.next)))
        (inside_step i x [] (diversion i.origin i.sets x i.record_type) inside refl)

    path_turns : (path i x).answers ≡ [] → is_authority (path i x).end (path i x).answers ≡ false → (ns : RRset) × (diversion i.origin i.sets x i.record_type ≡ Some (cut ns))
    path_turns none aside =
        let d = diversion i.origin i.sets x i.record_type in
        let onward = path_from i 7 (x ∷ []) (diverted_step i [] x d).answers in
        cut_turns d onward (sym (ap (λ (p : Path). p.answers) path_begins) ∙ none)
        (sym (ap (λ (p : Path). is_authority p.end []) path_begins) ∙ ap (is_authority (path i x).end) (sym none) ∙ aside)

-- ---- the response

module _ (z : Zone) (x : Name) (s : Sections) (fine : s.code ≡ code.NoError) (aside : s.authoritative ≡ false) (none : s.answers ≡ []) where
  abbrev q : Query
  q = record { name = x; record_type = NS; class = IN; signed = true }

  abbrev i : Inquiry
  i = inquiry z q

  other_code : (c : ResponseCode) → c ≢ code.NoError → s ≡ bare c → SaysReferral z x s
  other_code c other e = absurd (other (sym (ap (λ (r : Sections). r.code) e) ∙ fine))

  module _ (soa : RRset) (inside : is_at_or_above z.origin x ≡ true) (soa_is : set_at z.sets z.origin SOA ≡ Some soa) where
    -- along the path of a referral
    referred_by : (ns : RRset) → diversion z.origin z.sets x NS ≡ Some (cut ns) → lacks_proofs z true (path i x).made (path i x).end ≡ false
        → IsResponseBy i (path i x) (authority_sets z true soa (path i x).made (path i x).end) s → SaysReferral z x s
    referred_by ns turns proven h =
        let is = path_is i x ns inside turns in
        let by : IsResponseBy i (ended (referred ns)) (authority_sets z true soa [] (referred ns)) s =
        subst (λ (p : Path). IsResponseBy i p (authority_sets z true soa p.made p.end) s) is h in
        record {
          soa = soa;
          ns = ns;
          below = record { inside = inside; soa_is = soa_is; turns = turns };
          proven = subst (λ (p : Path). lacks_proofs z true p.made p.end ≡ false) is proven;
          is = λ j. record {
            code = by.code j;
            authoritative = by.authoritative j;
            answers = by.answers j;
            authorities = by.authorities j;
            additionals = by.additionals j;
            glue = by.glue j;
            left_at = by.left_at j;
          };
        }

    along : (failed lacks : Bool) → lacks_proofs z true (path i x).made (path i x).end ≡ lacks
        → IsResponseTo i (cond failed failing (cond lacks unprovable (answered (path i x) (authority_sets z true soa (path i x).made (path i x).end)))) s → SaysReferral z x s
    along true lacks e h = other_code code.ServFail (λ f. cc) h
    along false true e h = other_code code.ServFail (λ f. cc) h
    along false false e h =
        let turned = path_turns i x inside (sym h.answers ∙ none) (sym h.authoritative ∙ aside) in
        referred_by turned.0 turned.1 e h

  in_zone : is_at_or_above z.origin x ≡ true → (o : Option RRset) → set_at z.sets z.origin SOA ≡ o
      → IsResponseTo i (option_map_or (λ soa. outcome_along z true soa (path i x)) o without_soa) s → SaysReferral z x s
  in_zone inside None e h = other_code code.ServFail (λ f. cc) h
  in_zone inside (Some soa) e h = along soa inside e (fails (path i x).end) (lacks_proofs z true (path i x).made (path i x).end) refl h

  asked : (inside : Bool) → is_at_or_above z.origin x ≡ inside
      → IsResponseTo i (option_map_or refused (cond (not inside) (Some code.Refused) None) (outcome_of z i x)) s → SaysReferral z x s
  asked true e h = in_zone e (set_at z.sets z.origin SOA) refl h
  asked false e h = other_code code.Refused (λ f. cc) h

pub unauthoritative_responses_are_referrals : UnauthoritativeResponsesAreReferrals
unauthoritative_responses_are_referrals z x s h fine aside none = asked z x s fine aside none (is_at_or_above z.origin x) refl h
