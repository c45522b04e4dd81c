-- The answers along a path are the sets of a lookup's chain
use Rattle.std.proofs.Common.{◌≡◌, ℕ, zero, suc, ◌<◌, Bool, true, false, cond, not, ◌&&◌, ◌||◌, List, [], ◌∷◌, ◌++◌, map, length, refl, sym, ap, ◌∙◌, subst, true≢false, eqb-true, arith, ◌⊎◌, inl, inr, append_assoc}
use Rattle.std.specs.Prelude.{Option, Some, None, option_to_list, nat_lt, ◌==◌}
use Rattle.std.specs.List.{list_any}
use Rattle.std.specs.Option.{option_map_or}
use Rattle.std.proofs.lemmas.Bool.Decides.{leb_tells}
use Rattle.zone_proto.specs.declared.response_code.ResponseCode.TheVariants as code
use Rattle.zone_proto.specs.Names.{Name, lower, name_eq, is_at_or_above}
use Rattle.zone_proto.specs.Sets.{RRset}
use Rattle.zone_proto.specs.Types.{CNAME, RRSIG, ANAME, DNAME}
use Rattle.zone_proto.proofs.Members.{In, and_left, In-from_append, In-append_left, In-append_right}
use Rattle.zone_map.specs.Chains.{cname_target, last_target, chain, chain_links}
use Rattle.zone_map.specs.Direct.{is_address}
use Rattle.zone_map.specs.Wildcards.{found}
use Rattle.zone_map.specs.Zones.{Sets}
use Rattle.zone_map.proofs.Chains.{rest_of, rest_none, rest_seen, rest_unfound, rest_more, chain_begins}
use Rattle.zone_lookup.specs.Flattening.{stands_for_addresses}
use Rattle.zone_lookup.specs.Replies.{is_followed}
use Rattle.zone_response.specs.Paths.{is_sought, unless_answered, next_behind, Path, ended, behind, searched, path_from, path}
use Rattle.zone_response.specs.Queries.{Inquiry}
use Rattle.zone_response.specs.Responses.{code_at, fails}
use Rattle.zone_response.specs.Sections.{as_it_is, part_for, is_signed}
use Rattle.zone_response.specs.Wildcards.{is_there}
use Rattle.zone_response.specs.Aname.{addresses, stand_in_answer}
use Rattle.zone_response.specs.Steps.{End, complete, missing, outside, unfollowed, failed, Next, on, ends, Step, at_end, expanded_names, after_alias, stood_in_step, diverted_step, step}
use Rattle.zone_response.specs.Descent.{diversion}
use Rattle.response_laws.specs.Agreement.{IsOrdinaryZone, IsOrdinaryType, IsOrdinary, NoStandIn, led_on_to, unfound_name, chain_names, searched_names}
use Rattle.response_laws.proofs.AgreementNames.{found_outside}
use Rattle.response_laws.proofs.Leads.{sent_type}
use Rattle.response_laws.proofs.Said.{none_any}
use Rattle.response_laws.proofs.AgreementSteps.{StepAsFound, answers_by, leads_by, stands_in, lacks, step_as_found}

abbrev names : List (Name × RRset) → List Name
names es = map (λ e. e.0) es

-- the sets of a chain from x on are followed by a name that is searched and has none, if k names may be searched and these were seen before
abbrev pub IsUnfound : ℕ → List Name → Name → List (Name × RRset) → Name → Type 0
IsUnfound k seen x [] y = (0 < k) × (list_any (name_eq x) seen ≡ false) × (x ≡ y)
IsUnfound k seen x (e ∷ es) y = (length (e ∷ es) < k) × (last_target (e ∷ es) ≡ Some y) × (list_any (name_eq y) (seen ++ names (e ∷ es)) ≡ false)

-- a path from x on that doesn't fail, whose answers are these sets as they are sent, and whose code is that of the name
-- that has none
pub record Comes (q : Inquiry) (k : ℕ) (seen : List Name) (x : Name) (es : List (Name × RRset)) (p : Path) : Type 0 where
  pub answers : p.answers ≡ map (as_it_is (part_for q.signed)) (map (λ e. e.1) es)
  pub passes : fails p.end ≡ false
  pub unfound : (y : Name) → IsUnfound k seen x es y → is_at_or_above q.origin y ≡ true → code_at p.end ≡ cond (is_there q.sets y) code.NoError code.NXDomain
  pub others : ((y : Name) → IsUnfound k seen x es y → is_at_or_above q.origin y ≡ false) → code_at p.end ≡ code.NoError

-- a name of the zone is one that both find alike
abbrev pub IsAlike : Inquiry → Name → Type 0
IsAlike q x = is_at_or_above q.origin x ≡ true → IsOrdinary q x × NoStandIn q x

-- each name that is searched is
pub record AreAlike (q : Inquiry) (k : ℕ) (seen : List Name) (x : Name) (es : List (Name × RRset)) : Type 0 where
  pub named : (y : Name) → In y (names es) → IsAlike q y
  pub last : (y : Name) → IsUnfound k seen x es y → IsAlike q y

module _ (q : Inquiry) (zone : IsOrdinaryZone q.origin q.sets) (plain : IsOrdinaryType q.record_type) where
  abbrev m : Sets
  m = q.sets

  abbrev t : ℕ
  t = q.record_type

  abbrev rest : ℕ → List Name → Option Name → List (Name × RRset)
  rest k seen next = rest_of m q.signed t k seen next

  -- the name at which the next sets begin is the first of them
  first_name : (k : ℕ) (seen : List Name) (x : Name) (e : Name × RRset) (es : List (Name × RRset)) → rest k seen (Some x) ≡ e ∷ es → In x (names (e ∷ es))
  first_name zero seen x e es h = absurd cc
  first_name (suc k) seen x e es h = by (list_any (name_eq x) seen) refl (found m q.signed x t) refl
    where
      none : rest (suc k) seen (Some x) ≡ [] → In x (names (e ∷ es))
      none g = let p : [] ≡ e ∷ es = sym g ∙ h in absurd cc

      by : (b : Bool) → list_any (name_eq x) seen ≡ b → (o : Option RRset) → found m q.signed x t ≡ o → In x (names (e ∷ es))
      by true f o g = none (rest_seen m q.signed t (suc k) seen (Some x) x refl f)
      by false f None g = none (rest_unfound m q.signed t (suc k) seen (Some x) x refl g)
      by false f (Some s) g =
          let p : (x, s) ∷ rest k (seen ++ x ∷ []) (cname_target s) ≡ e ∷ es = sym (rest_more m q.signed t (suc k) k seen (Some x) x s refl refl f g) ∙ h in
          let same : x ≡ e.0 = cc in
          inl (sym same)

  -- what is searched first is alike
  first_alike : (k : ℕ) (seen : List Name) (x : Name) → list_any (name_eq x) seen ≡ false → AreAlike q (suc k) seen x (rest (suc k) seen (Some x)) → IsAlike q x
  first_alike k seen x new alike = by (rest (suc k) seen (Some x)) refl alike
    where
      by : (es : List (Name × RRset)) → rest (suc k) seen (Some x) ≡ es → AreAlike q (suc k) seen x es → IsAlike q x
      by [] e h = h.last x (omega arith, new, refl)
      by (f ∷ es) e h = h.named x (first_name (suc k) seen x f es e)

  -- ---- behind an alias

  module _ (k : ℕ) (seen : List Name) (x y : Name) (s : RRset) (leads : cname_target s ≡ Some y) where
    later : (es : List (Name × RRset)) (w : Name) → IsUnfound k (seen ++ x ∷ []) y es w → IsUnfound (suc k) seen x ((x, s) ∷ es) w
    later [] w (some, new, same) = (omega (arith, some), leads ∙ ap Some same, ap (λ n. list_any (name_eq n) (seen ++ x ∷ [])) (sym same) ∙ new)
    later (f ∷ es) w (short, last, new) = (omega (arith, short), last, ap (list_any (name_eq w)) (sym (append_assoc seen (x ∷ []) (names (f ∷ es)))) ∙ new)

    earlier : (es : List (Name × RRset)) (w : Name) → IsUnfound (suc k) seen x ((x, s) ∷ es) w → IsUnfound k (seen ++ x ∷ []) y es w
    earlier [] w (short, last, new) =
        let both : Some y ≡ Some w = sym leads ∙ last in
        let same : y ≡ w = cc in
        (omega (arith, short), ap (λ n. list_any (name_eq n) (seen ++ x ∷ [])) same ∙ new, same)
    earlier (f ∷ es) w (short, last, new) = (omega (arith, short), last, ap (list_any (name_eq w)) (append_assoc seen (x ∷ []) (names (f ∷ es))) ∙ new)

    later_alike : (es : List (Name × RRset)) → AreAlike q (suc k) seen x ((x, s) ∷ es) → AreAlike q k (seen ++ x ∷ []) y es
    later_alike es h = record { named = λ n i. h.named n (inr i); last = λ w u. h.last w (later es w u) }

    one_more : (made : List Name) (es : List (Name × RRset)) (p : Path) → Comes q k (seen ++ x ∷ []) y es p → Comes q (suc k) seen x ((x, s) ∷ es) (behind (as_it_is (part_for q.signed) s ∷ []) made p)
    one_more made es p h = record {
      answers = ap (λ sets. as_it_is (part_for q.signed) s ∷ sets) h.answers;
      passes = h.passes;
      unfound = λ w u i. h.unfound w (earlier es w u) i;
      others = λ out. h.others (λ w u. out w (later es w u));
    }

  -- at the last set
  at_last : (k : ℕ) (seen : List Name) (x : Name) (s : RRset) (made : List Name) → cname_target s ≡ None → Comes q (suc k) seen x ((x, s) ∷ []) (behind (as_it_is (part_for q.signed) s ∷ []) made (ended complete))
  at_last k seen x s made none = record {
    answers = refl;
    passes = refl;
    unfound = λ w u i. let p : None ≡ Some w = sym none ∙ u.1 in absurd cc;
    others = λ out. refl;
  }

  -- ---- all of it

  come : (k : ℕ) (seen : List Name) (x : Name) (es fs : List (Name × RRset)) (p r : Path) → es ≡ fs → p ≡ r → Comes q k seen x fs r → Comes q k seen x es p
  come k seen x es fs p r e f h = subst (λ es. Comes q k seen x es p) (sym e) (subst (Comes q k seen x fs) (sym f) h)

  -- behind these sets, the path from x on by its step
  abbrev stepped : List RRset → (List RRset → Name → Path) → Step → Path
  stepped before search s = behind s.answers s.made (searched (search (before ++ s.answers)) (unless_answered t (before ++ s.answers) s.next))

  -- none of these sets is a DNAME
  abbrev HaveNoDname : List RRset → Type 0
  HaveNoDname sets = (r : RRset) → In r sets → (r.record_type == DNAME) ≡ false

  -- none tells what is asked for then
  untold : (sets : List RRset) → HaveNoDname sets → (y : Name) → list_any (is_sought t y) sets ≡ false
  untold sets h y = none_any (is_sought t y) sets (λ r i j. h r i j && name_eq (lower r.owner) y && ((t == DNAME) || (t == RRSIG) && is_signed r))

  alias_behind : (sets : List RRset) → HaveNoDname sets → (s : RRset) → is_followed t s ≡ true → HaveNoDname (sets ++ as_it_is (part_for q.signed) s ∷ [])
  alias_behind sets h s followed r i = by (In-from_append r sets (as_it_is (part_for q.signed) s ∷ []) i)
    where
      by : In r sets ⊎ In r (as_it_is (part_for q.signed) s ∷ []) → (r.record_type == DNAME) ≡ false
      by (inl j) = h r j
      by (inr (inl same)) =
          ap (λ u. u == DNAME)
          (ap (λ (v : RRset). v.record_type) (sym same) ∙ sent_type (part_for q.signed) s.ttl s ∙ eqb-true s.record_type CNAME (and_left (s.record_type == CNAME) (not (t == CNAME)) followed))
      by (inr (inr j)) = absurd j

  along : (t == CNAME) ≡ false → (k : ℕ) (seen : List Name) (before : List RRset) → HaveNoDname before → (x : Name) → AreAlike q k seen x (rest k seen (Some x)) → Comes q k seen x (rest k seen (Some x)) (path_from q k seen before x)
  along other zero seen before aliases x alike = record { answers = refl; passes = refl; unfound = λ y u i. absurd (omega (arith, u.0)); others = λ out. refl }
  along other (suc k) seen before aliases x alike = by (along other k (seen ++ x ∷ [])) (list_any (name_eq x) seen) refl
    where
      Goes : Type 0
      Goes = (behind : List RRset) → HaveNoDname behind → (y : Name) → AreAlike q k (seen ++ x ∷ []) y (rest k (seen ++ x ∷ []) (Some y)) → Comes q k (seen ++ x ∷ []) y (rest k (seen ++ x ∷ []) (Some y)) (path_from q k (seen ++ x ∷ []) behind y)

      Here : Type 0
      Here = Comes q (suc k) seen x (rest (suc k) seen (Some x)) (path_from q (suc k) seen before x)

      -- by the sets that are left, and the path
      of : (fs : List (Name × RRset)) (p : Path) → rest (suc k) seen (Some x) ≡ fs → path_from q (suc k) seen before x ≡ p → Comes q (suc k) seen x fs p → Here
      of fs p = come (suc k) seen x (rest (suc k) seen (Some x)) fs (path_from q (suc k) seen before x) p

      is : (b : Bool) → list_any (name_eq x) seen ≡ b → path_from q (suc k) seen before x ≡ cond b (ended unfollowed) (stepped before (path_from q k (seen ++ x ∷ [])) (step q before x))
      is b e = ap (λ b. cond b (ended unfollowed) (stepped before (path_from q k (seen ++ x ∷ [])) (step q before x))) e

      by_its : (s : Step) → list_any (name_eq x) seen ≡ false → step q before x ≡ s → path_from q (suc k) seen before x ≡ stepped before (path_from q k (seen ++ x ∷ [])) s
      by_its s e f = is false e ∙ ap (stepped before (path_from q k (seen ++ x ∷ []))) f

      leading : Goes → (s : RRset) (made : List Name) → is_followed t s ≡ true → list_any (name_eq x) seen ≡ false → found m q.signed x t ≡ Some s → (o : Option Name) → cname_target s ≡ o
          → step q before x ≡ record { answers = as_it_is (part_for q.signed) s ∷ []; made = made; next = after_alias o } → Here
      leading goes s made followed e f None g n =
          of ((x, s) ∷ []) (behind (as_it_is (part_for q.signed) s ∷ []) made (ended complete))
          (rest_more m q.signed t (suc k) k seen (Some x) x s refl refl e f ∙ ap (λ es. (x, s) ∷ es) (rest_none m q.signed t k (seen ++ x ∷ []) (cname_target s) g))
          (by_its (record { answers = as_it_is (part_for q.signed) s ∷ []; made = made; next = after_alias None }) e n) (at_last k seen x s made g)
      leading goes s made followed e f (Some y) g n =
          let sets = before ++ as_it_is (part_for q.signed) s ∷ [] in
          let later : HaveNoDname sets = alias_behind before aliases s followed in
          let whole : Next → Path = λ n. behind (as_it_is (part_for q.signed) s ∷ []) made (searched (path_from q k (seen ++ x ∷ []) sets) n) in
          let more : rest (suc k) seen (Some x) ≡ (x, s) ∷ rest k (seen ++ x ∷ []) (Some y) =
          rest_more m q.signed t (suc k) k seen (Some x) x s refl refl e f ∙ ap (λ o. (x, s) ∷ rest k (seen ++ x ∷ []) o) g in
          of ((x, s) ∷ rest k (seen ++ x ∷ []) (Some y)) (behind (as_it_is (part_for q.signed) s ∷ []) made (path_from q k (seen ++ x ∷ []) sets y)) more
          (by_its (record { answers = as_it_is (part_for q.signed) s ∷ []; made = made; next = after_alias (Some y) }) e n
          ∙ ap (λ b. whole (cond b (ends complete) (on y))) (untold sets later y))
          (one_more k seen x y s g made (rest k (seen ++ x ∷ []) (Some y)) (path_from q k (seen ++ x ∷ []) sets y)
          (goes sets later y (later_alike k seen x y s g (rest k (seen ++ x ∷ []) (Some y)) (subst (AreAlike q (suc k) seen x) more alike))))

      bare : (end : End) → list_any (name_eq x) seen ≡ false → found m q.signed x t ≡ None → step q before x ≡ at_end end → Comes q (suc k) seen x [] (ended end) → Here
      bare end e f n h = of [] (ended end) (rest_unfound m q.signed t (suc k) seen (Some x) x refl f) (by_its (at_end end) e n) h

      at_x : Goes → list_any (name_eq x) seen ≡ false → is_at_or_above q.origin x ≡ true → NoStandIn q x → StepAsFound q before x → Here
      at_x goes e i flat (answers_by s made f followed own no_target n) =
          of ((x, s) ∷ []) (behind (as_it_is (part_for q.signed) s ∷ []) made (ended complete))
          (rest_more m q.signed t (suc k) k seen (Some x) x s refl refl e f ∙ ap (λ es. (x, s) ∷ es) (rest_none m q.signed t k (seen ++ x ∷ []) (cname_target s) (no_target other)))
          (by_its (record { answers = as_it_is (part_for q.signed) s ∷ []; made = made; next = ends complete }) e n) (at_last k seen x s made (no_target other))
      at_x goes e i flat (leads_by s made f followed alias n) = leading goes s made followed e f (cname_target s) refl n
      at_x goes e i flat (stands_in s wildcard_name f k n) = absurd (true≢false (sym k ∙ flat s f))
      at_x goes e i flat (lacks wildcard_name f n) =
          bare (missing x wildcard_name (is_there m x)) e f n
          (record {
            answers = refl;
            passes = refl;
            unfound = λ y u inside. ap (λ n. cond (is_there m n) code.NoError code.NXDomain) u.2;
            others = λ out. absurd (true≢false (sym i ∙ out x (omega arith, e, refl)));
          })

      from_x : Goes → list_any (name_eq x) seen ≡ false → (b : Bool) → is_at_or_above q.origin x ≡ b → Here
      from_x goes e true i = let alike_x = first_alike k seen x e alike i in at_x goes e i alike_x.1 (step_as_found q zone plain x i alike_x.0 before)
      from_x goes e false i =
          bare (outside x) e (found_outside q.origin m zone.inside zone.not_wildcard q.signed x t i)
          (ap (λ b. cond b (diverted_step q before x (diversion q.origin m x t)) (at_end (outside x))) i)
          (record {
            answers = refl;
            passes = refl;
            unfound = λ y u inside. absurd (true≢false (sym inside ∙ ap (is_at_or_above q.origin) (sym u.2) ∙ i));
            others = λ out. refl;
          })

      by : Goes → (b : Bool) → list_any (name_eq x) seen ≡ b → Here
      by goes true e =
          of [] (ended unfollowed) (rest_seen m q.signed t (suc k) seen (Some x) x refl e) (is true e)
          (record { answers = refl; passes = refl; unfound = λ y u i. absurd (true≢false (sym e ∙ u.1)); others = λ out. refl })
      by goes false e = from_x goes e (is_at_or_above q.origin x) refl

-- ---- the path of a query

-- the answers of a path, by what is found for its first name
pub data PathAnswers (q : Inquiry) (x : Name) : Type 0 where
  answers_alone : (s : RRset) → found q.sets q.signed x q.record_type ≡ Some s → is_followed q.record_type s ≡ false → stands_for_addresses q.record_type s ≡ false
      → (path q x).answers ≡ as_it_is (part_for q.signed) s ∷ [] → PathAnswers q x
  answers_stood_in : (s v : RRset) → found q.sets q.signed x q.record_type ≡ Some s → is_followed q.record_type s ≡ false → stands_for_addresses q.record_type s ≡ true → stand_in_answer q x s ≡ addresses v
      → (path q x).answers ≡ as_it_is (part_for q.signed) v ∷ [] → PathAnswers q x
  answers_along : (s : RRset) → found q.sets q.signed x q.record_type ≡ Some s → is_followed q.record_type s ≡ true
      → (path q x).answers ≡ map (as_it_is (part_for q.signed)) (chain q.sets q.signed x s q.record_type) → PathAnswers q x
  answers_none : found q.sets q.signed x q.record_type ≡ None → (path q x).answers ≡ [] → PathAnswers q x

-- the code is that of the name at which the search finds no set
pub record PathEnds (q : Inquiry) (x : Name) : Type 0 where
  pub passes : fails (path q x).end ≡ false
  pub unfound : (y : Name) → unfound_name q x ≡ Some y → is_at_or_above q.origin y ≡ true → code_at (path q x).end ≡ cond (is_there q.sets y) code.NoError code.NXDomain
  pub others : ((y : Name) → unfound_name q x ≡ Some y → is_at_or_above q.origin y ≡ false) → code_at (path q x).end ≡ code.NoError

path_step : (q : Inquiry) (x : Name) → path q x ≡ behind (step q [] x).answers (step q [] x).made (searched (path_from q 7 (x ∷ []) (step q [] x).answers) (next_behind q [] x))
unfolding path
path_step q x = refl

path_from_first : (q : Inquiry) (x : Name) → path q x ≡ path_from q 8 [] [] x
unfolding path
path_from_first q x = refl

-- ---- the name without a set behind a chain

room : (k : ℕ) → k < 8 → nat_lt k 8 ≡ true
room k h = grind (arith, leb_tells)

has_room : (k : ℕ) → nat_lt k 8 ≡ true → k < 8
has_room k h = grind (arith, leb_tells)

led_to : (x y : Name) (e : Name × RRset) (es : List (Name × RRset)) → IsUnfound 8 [] x (e ∷ es) y → led_on_to (e ∷ es) ≡ Some y
led_to x y e es (short, leads, new) =
    (λ i. cond (room (length (e ∷ es)) short i && option_map_or (λ n. not (list_any (name_eq n) (names (e ∷ es)))) (leads i) false) (leads i) None) ∙ (λ i. cond (not (new i)) (Some y) None)

led_from : (x y : Name) (e : Name × RRset) (es : List (Name × RRset)) → led_on_to (e ∷ es) ≡ Some y → IsUnfound 8 [] x (e ∷ es) y
led_from x y e es h = by (nat_lt (length (e ∷ es)) 8) refl (last_target (e ∷ es)) refl h
  where
    is_new : (b : Bool) → cond (not b) (Some y) None ≡ Some y → b ≡ false
    is_new true g = absurd cc
    is_new false g = refl

    to : (n : Name) → nat_lt (length (e ∷ es)) 8 ≡ true → last_target (e ∷ es) ≡ Some n → (b : Bool) → list_any (name_eq n) (names (e ∷ es)) ≡ b → cond (not b) (Some n) None ≡ Some y → IsUnfound 8 [] x (e ∷ es) y
    to n f g true k h = absurd cc
    to n f g false k h = let same : n ≡ y = cc in (has_room (length (e ∷ es)) f, g ∙ ap Some same, ap (λ n. list_any (name_eq n) (names (e ∷ es))) (sym same) ∙ k)

    by : (b : Bool) → nat_lt (length (e ∷ es)) 8 ≡ b → (o : Option Name) → last_target (e ∷ es) ≡ o → cond (b && option_map_or (λ n. not (list_any (name_eq n) (names (e ∷ es)))) o false) o None ≡ Some y → IsUnfound 8 [] x (e ∷ es) y
    by true f None g h = absurd cc
    by true f (Some n) g h = to n f g (list_any (name_eq n) (names (e ∷ es))) refl h
    by false f o g h = absurd cc

module _ (q : Inquiry) (zone : IsOrdinaryZone q.origin q.sets) (plain : IsOrdinaryType q.record_type) (x : Name) (inside : is_at_or_above q.origin x ≡ true) where
  abbrev links : RRset → List (Name × RRset)
  links s = chain_links q.sets q.signed x s q.record_type

  abbrev found_is : Option RRset → Type 0
  found_is o = found q.sets q.signed x q.record_type ≡ o

  -- ---- which names are searched, and which has no set

  searched_by : (s : RRset) (b : Bool) → found_is (Some s) → is_followed q.record_type s ≡ b → searched_names q x ≡ cond b (chain_names (links s)) (x ∷ [])
  searched_by s b e f =
      ap (λ o. option_map_or (λ s. cond (is_followed q.record_type s) (chain_names (links s)) (x ∷ [])) o (x ∷ [])) e
      ∙ ap (λ b. cond b (chain_names (links s)) (x ∷ [])) f

  searched_alone : found_is None → searched_names q x ≡ x ∷ []
  searched_alone e = ap (λ o. option_map_or (λ s. cond (is_followed q.record_type s) (chain_names (links s)) (x ∷ [])) o (x ∷ [])) e

  pub unfound_by : (o : Option RRset) → found_is o → unfound_name q x ≡ option_map_or (λ s. cond (is_followed q.record_type s) (led_on_to (links s)) None) o (Some x)
  unfound_by o e = ap (λ o. option_map_or (λ s. cond (is_followed q.record_type s) (led_on_to (links s)) None) o (Some x)) e

  unfound_behind : (s : RRset) (b : Bool) → found_is (Some s) → is_followed q.record_type s ≡ b → unfound_name q x ≡ cond b (led_on_to (links s)) None
  unfound_behind s b e f = unfound_by (Some s) e ∙ ap (λ b. cond b (led_on_to (links s)) None) f

  pub itself : In x (searched_names q x)
  itself = by (found q.sets q.signed x q.record_type) refl
    where
      either : (s : RRset) (b : Bool) → In x (cond b (chain_names (links s)) (x ∷ []))
      either s true = subst (λ es. In x (chain_names es)) (sym (chain_begins q.sets q.signed q.record_type x s)) (inl refl)
      either s false = inl refl

      by : (o : Option RRset) → found_is o → In x (searched_names q x)
      by None e = subst (In x) (sym (searched_alone e)) (inl refl)
      by (Some s) e = subst (In x) (sym (searched_by s (is_followed q.record_type s) e refl)) (either s (is_followed q.record_type s))

  -- the name without a set is one of those that are searched
  pub unfound_searched : (y : Name) → unfound_name q x ≡ Some y → In y (searched_names q x)
  unfound_searched y u = by (found q.sets q.signed x q.record_type) refl
    where
      led : (s : RRset) → found_is (Some s) → (b : Bool) → is_followed q.record_type s ≡ b → cond b (led_on_to (links s)) None ≡ Some y → In y (searched_names q x)
      led s e true f h =
          subst (In y) (sym (searched_by s true e f))
          (In-append_right y (names (links s)) (option_to_list (led_on_to (links s))) (subst (In y) (sym (ap option_to_list h)) (inl refl)))
      led s e false f h = absurd cc

      by : (o : Option RRset) → found_is o → In y (searched_names q x)
      by None e = let p : Some x ≡ Some y = sym (unfound_by None e) ∙ u in let same : x ≡ y = cc in subst (In y) (sym (searched_alone e)) (inl same)
      by (Some s) e = led s e (is_followed q.record_type s) refl (sym (unfound_by (Some s) e) ∙ u)

  -- ---- along a chain

  begins : (s : RRset) → links s ≡ (x, s) ∷ rest_of q.sets q.signed q.record_type 7 (x ∷ []) (cname_target s)
  begins s = chain_begins q.sets q.signed q.record_type x s

  led_to_unfound : (s : RRset) (y : Name) → IsUnfound 8 [] x (links s) y → led_on_to (links s) ≡ Some y
  led_to_unfound s y =
      subst (λ es. IsUnfound 8 [] x es y → led_on_to es ≡ Some y) (sym (begins s)) (led_to x y (x, s) (rest_of q.sets q.signed q.record_type 7 (x ∷ []) (cname_target s)))

  unfound_led_to : (s : RRset) (y : Name) → led_on_to (links s) ≡ Some y → IsUnfound 8 [] x (links s) y
  unfound_led_to s y =
      subst (λ es. led_on_to es ≡ Some y → IsUnfound 8 [] x es y) (sym (begins s)) (led_from x y (x, s) (rest_of q.sets q.signed q.record_type 7 (x ∷ []) (cname_target s)))

  -- ---- so it is of the path

  is : (s : Step) → step q [] x ≡ s → path q x ≡ behind s.answers s.made (searched (path_from q 7 (x ∷ []) s.answers) (unless_answered q.record_type s.answers s.next))
  is s e = path_step q x ∙ ap (λ s. behind s.answers s.made (searched (path_from q 7 (x ∷ []) s.answers) (unless_answered q.record_type s.answers s.next))) e

  -- where each name that is searched is alike
  module _ (alike : (y : Name) → In y (searched_names q x) → IsAlike q y) where
    links_alike : (s : RRset) → found_is (Some s) → is_followed q.record_type s ≡ true → AreAlike q 8 [] x (links s)
    links_alike s e f = record {
      named = λ y i. alike y (subst (In y) (sym (searched_by s true e f)) (In-append_left y (names (links s)) (option_to_list (led_on_to (links s))) i));
      last = λ y u. alike y (unfound_searched y (unfound_behind s true e f ∙ led_to_unfound s y u));
    }

    chained : (s : RRset) → found_is (Some s) → is_followed q.record_type s ≡ true → (q.record_type == CNAME) ≡ false → Comes q 8 [] x (links s) (path q x)
    chained s e f other =
        let same : rest_of q.sets q.signed q.record_type 8 [] (Some x) ≡ links s = rest_more q.sets q.signed q.record_type 8 7 [] (Some x) x s refl refl refl e ∙ sym (begins s) in
        come q zone plain 8 [] x (links s) (rest_of q.sets q.signed q.record_type 8 [] (Some x)) (path q x) (path_from q 8 [] [] x) (sym same) (path_from_first q x)
        (along q zone plain other 8 [] [] (λ r i. absurd i) x (subst (AreAlike q 8 [] x) (sym same) (links_alike s e f)))

    pub path_answers_as_found : PathAnswers q x × PathEnds q x
    path_answers_as_found = by (step_as_found q zone plain x inside (alike x itself inside).0 [])
      where
        by : StepAsFound q [] x → PathAnswers q x × PathEnds q x
        by (answers_by s made e f own no_target n) =
            let p : path q x ≡ behind (as_it_is (part_for q.signed) s ∷ []) made (ended complete) = is (record { answers = as_it_is (part_for q.signed) s ∷ []; made = made; next = ends complete }) n in (
              answers_alone s e f own (ap (λ (p : Path). p.answers) p),
              record {
                passes = ap (λ (p : Path). fails p.end) p;
                unfound = λ y u i. let none : None ≡ Some y = sym (unfound_behind s false e f) ∙ u in absurd cc;
                others = λ out. ap (λ (p : Path). code_at p.end) p;
              },
            )
        by (leads_by s made e f other n) =
            let c = chained s e f other in (
              answers_along s e f c.answers,
              record {
                passes = c.passes;
                unfound = λ y u i. c.unfound y (unfound_led_to s y (sym (unfound_behind s true e f) ∙ u)) i;
                others = λ out. c.others (λ y u. out y (unfound_behind s true e f ∙ led_to_unfound s y u));
              },
            )
        by (stands_in s wildcard_name e k n) = absurd (true≢false (sym k ∙ (alike x itself inside).1 s e))
        by (lacks wildcard_name e n) =
            let p : path q x ≡ ended (missing x wildcard_name (is_there q.sets x)) = is (at_end (missing x wildcard_name (is_there q.sets x))) n in (
              answers_none e (ap (λ (p : Path). p.answers) p),
              record {
                passes = ap (λ (p : Path). fails p.end) p;
                unfound = λ y u i.
                    let both : Some x ≡ Some y = sym (unfound_by None e) ∙ u in
                    let same : x ≡ y = cc in
                    ap (λ (p : Path). code_at p.end) p ∙ ap (λ n. cond (is_there q.sets n) code.NoError code.NXDomain) same;
                others = λ out. absurd (true≢false (sym inside ∙ out x (unfound_by None e)));
              },
            )

  -- where an ANAME set stands in that leads to addresses, with a signature if they have to be proved
  module _ (ordinary : IsOrdinary q x) (s v : RRset) (e : found_is (Some s)) (k : stands_for_addresses q.record_type s ≡ true) (leads : stand_in_answer q x s ≡ addresses v) (proved : q.is_proved ≡ true → is_signed v ≡ true) where
    answered : q.is_proved && not (is_signed v) ≡ false
    answered = by q.is_proved proved
      where
        by : (b : Bool) → (b ≡ true → is_signed v ≡ true) → b && not (is_signed v) ≡ false
        by true p = ap not (p refl)
        by false p = refl

    unfollowed_so : is_followed q.record_type s ≡ false
    unfollowed_so = ap (λ u. (u == CNAME) && not (q.record_type == CNAME)) (eqb-true s.record_type ANAME (and_left (s.record_type == ANAME) (is_address q.record_type) k))

    pub path_stood_in : PathAnswers q x × PathEnds q x
    path_stood_in = by (step_as_found q zone plain x inside ordinary [])
      where
        same : (r : RRset) → found_is (Some r) → r ≡ s
        same r f = let p : Some r ≡ Some s = sym f ∙ e in cc

        by : StepAsFound q [] x → PathAnswers q x × PathEnds q x
        by (answers_by r made f g own no_target n) = absurd (true≢false (sym k ∙ ap (stands_for_addresses q.record_type) (sym (same r f)) ∙ own))
        by (leads_by r made f g other n) = absurd (true≢false (sym g ∙ ap (is_followed q.record_type) (same r f) ∙ unfollowed_so))
        by (lacks wildcard_name f n) = let p : None ≡ Some s = sym f ∙ e in absurd cc
        by (stands_in r wildcard_name f g n) =
            let to : Step = record { answers = as_it_is (part_for q.signed) v ∷ []; made = expanded_names wildcard_name x; next = ends complete } in
            let p : path q x ≡ behind (as_it_is (part_for q.signed) v ∷ []) (expanded_names wildcard_name x) (ended complete) =
            is to (n ∙ ap (λ r. stood_in_step q.is_proved q.signed wildcard_name x (stand_in_answer q x r)) (same r f) ∙ ap (stood_in_step q.is_proved q.signed wildcard_name x) leads ∙ ap (λ b. cond b (at_end failed) to) answered) in (
              answers_stood_in s v e unfollowed_so k leads (ap (λ (p : Path). p.answers) p),
              record {
                passes = ap (λ (p : Path). fails p.end) p;
                unfound = λ y u i. let none : None ≡ Some y = sym (unfound_behind s false e unfollowed_so) ∙ u in absurd cc;
                others = λ out. ap (λ (p : Path). code_at p.end) p;
              },
            )
