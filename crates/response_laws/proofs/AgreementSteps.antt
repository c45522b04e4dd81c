-- One step of a response gives what a lookup finds
use Rattle.std.proofs.Common.{◌≡◌, ℕ, Bool, true, false, cond, not, ◌&&◌, ◌||◌, List, [], ◌∷◌, drop, refl, sym, ap, ◌∙◌, true≢false, ◌⊎◌, inl, inr, eqb-true}
use Rattle.std.specs.Prelude.{Option, Some, None, is_some, option_map, option_and_then, ◌==◌}
use Rattle.std.specs.Option.{option_map_or}
use Rattle.zone_proto.specs.Names.{Name, name_eq, is_root, is_at_or_above, wildcard_under, IsAtOrAbove, IsAbove}
use Rattle.zone_proto.specs.Sets.{RRset}
use Rattle.zone_proto.specs.Types.{NS, CNAME, SOA, DS, RRSIG, NSEC, NSEC3, ANY, ANAME}
use Rattle.zone_proto.proofs.Members.{and_left, and_right}
use Rattle.zone_proto.proofs.Names.NameTree.{name_eq-Decides}
use Rattle.zone_proto.proofs.Names.Tree.{above_cases}
use Rattle.zone_map.specs.AnyTypes.{any_type}
use Rattle.zone_map.specs.Chains.{cname_target}
use Rattle.zone_map.specs.Direct.{is_delegated, is_delegated_for, is_address, referral, exact, direct}
use Rattle.zone_map.specs.Upserts.{is_denial_type}
use Rattle.zone_map.specs.Wildcards.{exists, closest_encloser, renamed, found}
use Rattle.zone_map.specs.Zones.{Sets, set_at, owns}
use Rattle.zone_map.proofs.ExistingNames.{owner_exists}
use Rattle.zone_denial.proofs.Chain.NsecBelow.{above_at}
use Rattle.zone_denial.proofs.Names.LongestAncestors.{above_above, longest_is}
use Rattle.zone_lookup.specs.Flattening.{stands_for_addresses}
use Rattle.zone_lookup.specs.Replies.{is_followed}
use Rattle.denial_laws.proofs.OwnTypes.{differs}
use Rattle.denial_laws.proofs.Soundness.{unasked}
use Rattle.zone_response.specs.declared.response.Part.TheVariants as part
use Rattle.zone_response.specs.Nodes.{AtNode, own, alias, stand_in, nothing, asked_set, stand_in_set, first_of, at_node}
use Rattle.zone_response.specs.Queries.{Inquiry}
use Rattle.zone_response.specs.Sections.{as_it_is, part_for, is_signed}
use Rattle.zone_response.specs.Wildcards
use Rattle.zone_response.specs.Wildcards.{source_of_synthesis, is_there}
use Rattle.zone_response.specs.Aname.{stand_in_answer}
use Rattle.zone_response.specs.Steps.{complete, missing, outside, ends, Step, at_end, as_found_for, expanded_names, after_alias, keeps, stood_in_step, node_step, step_at, wildcard_step, name_step, diverted_step, step}
use Rattle.response_laws.specs.Agreement.{IsOrdinaryZone, IsOrdinaryType, IsOrdinary}
use Rattle.response_laws.proofs.AgreementNames.{no_referral, exact_own, exact_alias, exact_stand_in, exact_nothing, exact_absent, direct_is, found_there, found_by_wildcard}
use Rattle.response_laws.proofs.Leads.{no_target, made_target}
use Rattle.response_laws.proofs.Turned.{unturned, silent_at, not_above}

-- the step of a name, by what is found for it
pub data StepAsFound (q : Inquiry) (before : List RRset) (x : Name) : Type 0 where
  answers_by : (s : RRset) (made : List Name) → found q.sets q.signed x q.record_type ≡ Some s → is_followed q.record_type s ≡ false → stands_for_addresses q.record_type s ≡ false → ((q.record_type == CNAME) ≡ false → cname_target s ≡ None)
      → step q before x ≡ record { answers = as_it_is (part_for q.signed) s ∷ []; made = made; next = ends complete } → StepAsFound q before x
  leads_by : (s : RRset) (made : List Name) → found q.sets q.signed x q.record_type ≡ Some s → is_followed q.record_type s ≡ true → (q.record_type == CNAME) ≡ false
      → step q before x ≡ record { answers = as_it_is (part_for q.signed) s ∷ []; made = made; next = after_alias (cname_target s) } → StepAsFound q before x
  stands_in : (s : RRset) (wildcard_name : Option Name) → found q.sets q.signed x q.record_type ≡ Some s → stands_for_addresses q.record_type s ≡ true
      → step q before x ≡ stood_in_step q.is_proved q.signed wildcard_name x (stand_in_answer q x s) → StepAsFound q before x
  lacks : (wildcard_name : Option Name) → found q.sets q.signed x q.record_type ≡ None → step q before x ≡ at_end (missing x wildcard_name (is_there q.sets x)) → StepAsFound q before x

-- what is found at a name itself
data FindsAt (m : Sets) (a : Name) (t : ℕ) : Type 0 where
  at_own : (s : RRset) → at_node m a t ≡ own s → exact m a t ≡ Some s → s.record_type ≡ t → ((t == CNAME) ≡ false → cname_target s ≡ None) → FindsAt m a t
  at_alias : (s : RRset) → at_node m a t ≡ alias s → exact m a t ≡ Some s → s.record_type ≡ CNAME → (t == CNAME) ≡ false → FindsAt m a t
  at_stand_in : (s : RRset) → at_node m a t ≡ stand_in s → exact m a t ≡ Some s → stands_for_addresses t s ≡ true → FindsAt m a t
  at_nothing : at_node m a t ≡ nothing → exact m a t ≡ None → FindsAt m a t

right_false : (b : Bool) → b || false ≡ b
right_false true = refl
right_false false = refl

first_of_either : (a b : Bool) → b ≡ false → a || b ≡ true → a ≡ true
first_of_either true b f e = refl
first_of_either false b f e = absurd (true≢false (sym e ∙ f))

never_both : (b : Bool) → b && not b ≡ false
never_both true = refl
never_both false = refl

-- ANAME is no type of addresses
pub no_address : (t : ℕ) → (t == ANAME) && is_address t ≡ false
no_address t = by (t == ANAME) refl
  where
    by : (b : Bool) → (t == ANAME) ≡ b → b && is_address t ≡ false
    by true e = ap is_address (eqb-true t ANAME e)
    by false e = refl

kept : (o : Option RRset) → option_and_then (λ s. Some s) o ≡ o
kept None = refl
kept (Some s) = refl

module _ (q : Inquiry) (zone : IsOrdinaryZone q.origin q.sets) (plain : IsOrdinaryType q.record_type) where
  abbrev m : Sets
  m = q.sets

  abbrev t : ℕ
  t = q.record_type

  signature : (t == RRSIG) ≡ false
  signature = differs t RRSIG plain.no_signature

  -- ---- at a name

  asked : (a : Name) → asked_set m a t ≡ set_at m a t
  asked a =
      (λ i. cond (differs t NSEC3 plain.no_hashed i) None
      (option_and_then (λ s. cond (signature i) (cond (is_signed s) (Some s) None) (Some s)) (set_at m a (cond (differs t ANY plain.one i || signature i) (any_type m a) t))))
      ∙ kept (set_at m a t)

  finds_at : (a : Name) → (owns m a t ≡ true → (t == CNAME) ≡ false → owns m a CNAME ≡ false) → FindsAt m a t
  finds_at a beside = by (set_at m a t) refl (set_at m a CNAME) refl (is_address t) refl (set_at m a ANAME) refl
    where
      other_type : (s : RRset) → set_at m a t ≡ None → set_at m a CNAME ≡ Some s → (b : Bool) → (t == CNAME) ≡ b → b ≡ false
      other_type s e f false g = refl
      other_type s e f true g = let p : None ≡ Some s = sym e ∙ ap (set_at m a) (eqb-true t CNAME g) ∙ f in absurd cc

      bare : set_at m a t ≡ None → set_at m a CNAME ≡ None → stand_in_set m a t ≡ None → at_node m a t ≡ nothing
      bare e f g = λ i. first_of ((asked a ∙ e) i) (f i) (g i)

      by : (o : Option RRset) → set_at m a t ≡ o → (c : Option RRset) → set_at m a CNAME ≡ c → (b : Bool) → is_address t ≡ b → (p : Option RRset) → set_at m a ANAME ≡ p → FindsAt m a t
      by (Some s) e c f b g p h =
          at_own s (ap (λ o. first_of o (set_at m a CNAME) (stand_in_set m a t)) (asked a ∙ e)) (exact_own m a t (beside (ap is_some e)) s e)
          (zone.zone.stored a t s e).record_type (no_target a t s (zone.zone.stored a t s e))
      by None e (Some s) f b g p h =
          at_alias s (λ i. first_of ((asked a ∙ e) i) (f i) (stand_in_set m a t)) (exact_alias m a t zone.cnames s e f) (zone.zone.stored a CNAME s f).record_type
          (other_type s e f (t == CNAME) refl)
      by None e None f true g (Some s) h =
          at_stand_in s (λ i. first_of ((asked a ∙ e) i) (f i) (cond (g i) (h i) None)) (exact_stand_in m a t s g e f h) (ap (λ u. (u == ANAME) && is_address t) (zone.zone.stored a ANAME s h).record_type ∙ g)
      by None e None f true g None h = at_nothing (bare e f (λ i. cond (g i) (h i) None)) (exact_nothing m a t e f (λ k. ap is_some h))
      by None e None f false g p h = at_nothing (bare e f (ap (λ b. cond b (set_at m a ANAME) None) g)) (exact_nothing m a t e f (λ k. absurd (true≢false (sym k ∙ g))))

  module _ (x : Name) (inside : is_at_or_above q.origin x ≡ true) (ordinary : IsOrdinary q x) where
    -- ---- NSEC is no exception there

    -- the name itself, or the wildcard at its closest encloser
    abbrev IsAsked : Name → Type 0
    IsAsked a = (a ≡ x) ⊎ (Wildcards.asked_wildcard m x ≡ Some a)

    is_nsec : is_denial_type t ≡ true → t ≡ NSEC
    is_nsec e = eqb-true t NSEC (first_of_either (t == NSEC) (t == NSEC3) (differs t NSEC3 plain.no_hashed) e)

    owns_nsec : (a : Name) → IsAsked a → owns m a t ≡ true → is_denial_type t ≡ true → (exists m a ≡ true) × (owns m a CNAME ≡ false)
    owns_nsec a at k e = ordinary.nsec (is_nsec e) a at (ap (owns m a) (sym (is_nsec e)) ∙ k)

    beside : (a : Name) → IsAsked a → owns m a t ≡ true → (t == CNAME) ≡ false → owns m a CNAME ≡ false
    beside a at k other = by (owns m a CNAME) refl
      where
        of : owns m a CNAME ≡ true → (t ≡ CNAME) ⊎ (is_denial_type t ≡ true) → ⊥
        of e (inl p) = true≢false (sym (ap (λ u. u == CNAME) p) ∙ other)
        of e (inr d) = true≢false (sym e ∙ (owns_nsec a at k d).1)

        by : (b : Bool) → owns m a CNAME ≡ b → b ≡ false
        by false e = refl
        by true e = absurd (of e (zone.cnames.alone a t e k))

    unowned : (a : Name) → IsAsked a → exists m a ≡ false → owns m a t ≡ false
    unowned a at absent = by (owns m a t) refl (is_denial_type t) refl
      where
        by : (b : Bool) → owns m a t ≡ b → (d : Bool) → is_denial_type t ≡ d → b ≡ false
        by false k d e = refl
        by true k false e = absurd (true≢false (sym (owner_exists m a t k (ap not e)) ∙ absent))
        by true k true e = absurd (true≢false (sym (owns_nsec a at k e).0 ∙ absent))

    -- ---- nothing refers it

    -- what owns NS at it or above it owns SOA too, but itself where DS is asked
    servers : (a : Name) → IsAtOrAbove a x → owns m a NS ≡ true → (owns m a SOA ≡ true) ⊎ (name_eq a x && (t == DS) ≡ true)
    servers a u ns = by (name_eq a q.origin) refl (name_eq a x && (t == DS)) refl
      where
        by : (b : Bool) → name_eq a q.origin ≡ b → (c : Bool) → name_eq a x && (t == DS) ≡ c → (owns m a SOA ≡ true) ⊎ (name_eq a x && (t == DS) ≡ true)
        by true e c f = inl (ap (λ n. owns m n SOA) ((name_eq-Decides a q.origin).0 e) ∙ zone.soa)
        by false e true f = inr f
        by false e false f =
            absurd
            (true≢false
            (sym ns
            ∙ ap is_some
            (sym (λ i. cond (e i || f i) None (set_at m a NS))
            ∙ (silent_at q.origin m x t a (zone.inside a NS ns) (unturned q.origin m x t ordinary.unturned a u)).0)))

    owns_servers : (n a : Name) → is_delegated_for m n t a ≡ true → owns m a NS ≡ true
    owns_servers n a d = and_right (not (is_root a)) (owns m a NS) (and_left (is_delegated m a) (not ((t == DS) && name_eq a n && not (owns m n SOA))) d)

    unreferred : referral m x t ≡ None
    unreferred = no_referral m x t (λ a u d. by a d (servers a u (owns_servers x a d)))
      where
        own_soa : (a : Name) → is_delegated_for m x t a ≡ true → name_eq a x && (t == DS) ≡ true → (b : Bool) → owns m x SOA ≡ b → owns m a SOA ≡ true
        own_soa a d k true e = ap (λ n. owns m n SOA) ((name_eq-Decides a x).0 (and_left (name_eq a x) (t == DS) k)) ∙ e
        own_soa a d k false e =
            absurd
            (true≢false
            (sym (and_right (is_delegated m a) (not ((t == DS) && name_eq a x && not (owns m x SOA))) d)
            ∙ (λ i. not (and_right (name_eq a x) (t == DS) k i && and_left (name_eq a x) (t == DS) k i && not (e i)))))

        by : (a : Name) → is_delegated_for m x t a ≡ true → (owns m a SOA ≡ true) ⊎ (name_eq a x && (t == DS) ≡ true) → owns m a SOA ≡ true
        by a d (inl k) = k
        by a d (inr k) = own_soa a d k (owns m x SOA) refl

    -- nor the wildcard at a name above it, if that owns no NS
    wildcard_unreferred : (e : Name) → IsAbove e x → owns m (wildcard_under e) NS ≡ false → referral m (wildcard_under e) t ≡ None
    wildcard_unreferred e over uncut = no_referral m (wildcard_under e) t (λ a u d. by a (owns_servers (wildcard_under e) a d) (above_cases a (wildcard_under e) u))
      where
        above : (a : Name) → IsAbove a x → (owns m a SOA ≡ true) ⊎ (name_eq a x && (t == DS) ≡ true) → owns m a SOA ≡ true
        above a u (inl k) = k
        above a u (inr k) = absurd (true≢false (sym (and_left (name_eq a x) (t == DS) k) ∙ not_above a x u))

        by : (a : Name) → owns m a NS ≡ true → (a ≡ wildcard_under e) ⊎ IsAbove a (wildcard_under e) → owns m a SOA ≡ true
        by a ns (inl same) = absurd (true≢false (sym ns ∙ ap (λ n. owns m n NS) same ∙ uncut))
        by a ns (inr (l, f, p)) = let u = above_above a e x (f, ap (drop 1) p) over in above a u (servers a (above_at a x u) ns)

    -- ---- the step

    module _ (before : List RRset) where
      named_step : step q before x ≡ name_step q x
      named_step = (λ i. cond (inside i) (diverted_step q before x (ordinary.unturned i)) (at_end (outside x)))

      -- a set as it is found for x
      abbrev of : Option Name → RRset → RRset
      of None s = s
      of (Some w) s = renamed q.signed w x s

      made_as : (wildcard_name : Option Name) (s : RRset) → as_found_for (keeps q.signed t) wildcard_name x s ≡ of wildcard_name s
      made_as None s = refl
      made_as (Some w) s = ap (λ b. renamed b w x s) (ap (λ b. q.signed || b) signature ∙ right_false q.signed)

      of_type : (wildcard_name : Option Name) (s : RRset) → (of wildcard_name s).record_type ≡ s.record_type
      of_type None s = refl
      of_type (Some w) s = refl

      of_target : (wildcard_name : Option Name) (s : RRset) → cname_target (of wildcard_name s) ≡ cname_target s
      of_target None s = refl
      of_target (Some w) s = made_target q.signed (Some w) x s

      -- by what the name itself has, or its wildcard
      at_a_node : (wildcard_name : Option Name) (a : Name) → IsAsked a → step q before x ≡ step_at q wildcard_name x a → found m q.signed x t ≡ option_map (of wildcard_name) (exact m a t) → is_there m x ≡ true → StepAsFound q before x
      at_a_node wildcard_name a at is finds there = by (finds_at a (beside a at))
        where
          stepped : AtNode → Step
          stepped = node_step q wildcard_name x

          by : FindsAt m a t → StepAsFound q before x
          by (at_own s n e k target) =
              answers_by (of wildcard_name s) (expanded_names wildcard_name x) (finds ∙ ap (option_map (of wildcard_name)) e)
              (ap (λ u. (u == CNAME) && not (t == CNAME)) (of_type wildcard_name s ∙ k) ∙ never_both (t == CNAME))
              (ap (λ u. (u == ANAME) && is_address t) (of_type wildcard_name s ∙ k) ∙ no_address t)
              (λ other. of_target wildcard_name s ∙ target other)
              (is ∙ ap stepped n ∙ (λ i. record { answers = as_it_is (cond (signature i) part.Signatures (part_for q.signed)) (made_as wildcard_name s i) ∷ []; made = expanded_names wildcard_name x; next = ends complete }))
          by (at_alias s n e k other) =
              leads_by (of wildcard_name s) (expanded_names wildcard_name x) (finds ∙ ap (option_map (of wildcard_name)) e)
              (λ i. ((of_type wildcard_name s ∙ k) i == CNAME) && not (other i)) other
              (is ∙ ap stepped n ∙ (λ i. record { answers = as_it_is (part_for q.signed) (made_as wildcard_name s i) ∷ []; made = expanded_names wildcard_name x; next = after_alias (sym (of_target wildcard_name s) i) }))
          by (at_stand_in s n e k) =
              stands_in (of wildcard_name s) wildcard_name (finds ∙ ap (option_map (of wildcard_name)) e) (ap (λ u. (u == ANAME) && is_address t) (of_type wildcard_name s) ∙ k)
              (is ∙ ap stepped n ∙ (λ i. stood_in_step q.is_proved q.signed wildcard_name x (stand_in_answer q x (made_as wildcard_name s i))))
          by (at_nothing n e) = lacks wildcard_name (finds ∙ ap (option_map (of wildcard_name)) e) (is ∙ ap stepped n ∙ (λ i. at_end (missing x wildcard_name (sym there i))))

      unchanged : (o : Option RRset) → o ≡ option_map (of None) o
      unchanged None = refl
      unchanged (Some s) = refl

      existing : exists m x ≡ true → StepAsFound q before x
      existing e =
          at_a_node None x (inl refl) (named_step ∙ ap (λ b. cond b (step_at q None x x) (wildcard_step q x (source_of_synthesis m x))) e)
          (found_there m q.signed x t unreferred (unasked m x e) ∙ unchanged (exact m x t))
          (ap (λ b. b || option_map_or (exists m) (source_of_synthesis m x) false) e)

      -- by the encloser of a name that doesn't exist
      absent : exists m x ≡ false → (o : Option Name) → closest_encloser m x ≡ o → StepAsFound q before x
      absent e o f = by o f (found_by_wildcard m q.signed x t unreferred (unowned x (inl refl) e) e (ordinary.not_wildcard e) ∙ ap (λ o. from (option_map wildcard_under o)) f)
          (named_step ∙ (λ i. cond (e i) (step_at q None x x) (wildcard_step q x (option_map wildcard_under (f i)))))
          (λ i. e i || option_map_or (exists m) (option_map wildcard_under (f i)) false)
        where
          from : Option Name → Option RRset
          from wildcard_name = option_and_then (λ s. option_map (renamed q.signed s x) (direct m s t)) wildcard_name

          starred : (a : Name) → closest_encloser m x ≡ Some a → found m q.signed x t ≡ from (Some (wildcard_under a)) → step q before x ≡ wildcard_step q x (Some (wildcard_under a)) → is_there m x ≡ exists m (wildcard_under a) → (b : Bool) → exists m (wildcard_under a) ≡ b → StepAsFound q before x
          starred a f finds is there b g = cases b g (finds ∙ ap (option_map (renamed q.signed w x)) (direct_is m q.signed w t (wildcard_unreferred a (longest_is (exists m) x a f).above (ordinary.uncut_wildcard w is_asked))))
            where
              w : Name
              w = wildcard_under a

              is_asked : Wildcards.asked_wildcard m x ≡ Some (wildcard_under a)
              is_asked = λ i. cond (e i) None (option_map wildcard_under (f i))

              cases : (b : Bool) → exists m w ≡ b → found m q.signed x t ≡ option_map (renamed q.signed w x) (exact m w t) → StepAsFound q before x
              cases true g finds = at_a_node (Some w) w (inr is_asked) (is ∙ ap (λ b. cond b (step_at q (Some w) x w) (at_end (missing x (Some w) false))) g) finds (there ∙ g)
              cases false g finds =
                  lacks (Some w) (finds ∙ ap (option_map (renamed q.signed w x)) (exact_absent m w t (unowned w (inr is_asked) g) g))
                  (is ∙ ap (λ b. cond b (step_at q (Some w) x w) (at_end (missing x (Some w) false))) g ∙ (λ i. at_end (missing x (Some w) (sym (there ∙ g) i))))

          by : (o : Option Name) → closest_encloser m x ≡ o → found m q.signed x t ≡ from (option_map wildcard_under o) → step q before x ≡ wildcard_step q x (option_map wildcard_under o)
              → is_there m x ≡ option_map_or (exists m) (option_map wildcard_under o) false → StepAsFound q before x
          by None f finds is there = lacks None finds (is ∙ (λ i. at_end (missing x None (sym there i))))
          by (Some a) f finds is there = starred a f finds is there (exists m (wildcard_under a)) refl

      pub step_as_found : StepAsFound q before x
      step_as_found = by (exists m x) refl
        where
          by : (b : Bool) → exists m x ≡ b → StepAsFound q before x
          by true e = existing e
          by false e = absent e (closest_encloser m x) refl
