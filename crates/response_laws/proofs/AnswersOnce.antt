-- No set of an answer section repeats one that comes before it: each is of a name that wasn't searched before, or a
-- DNAME set
use Rattle.std.proofs.Common.{◌≡◌, ℕ, zero, suc, Bool, true, false, cond, ◌&&◌, ◌||◌, not, List, [], ◌∷◌, ◌++◌, refl, sym, ap, ◌∙◌, subst, ◌⊎◌, inl, inr, true≢false, eqb-true, eq-eqb}
use Rattle.std.specs.Prelude.{Option, Some, None, ◌==◌}
use Rattle.std.specs.List.{list_any}
use Rattle.zone_proto.specs.NameLaws.{caseless_eq_equiv}
use Rattle.zone_proto.specs.Names.{Name, lower, name_eq, same_name}
use Rattle.zone_proto.specs.Sets.{RRset}
use Rattle.zone_proto.specs.Types.{CNAME, RRSIG, ANY, ANAME, DNAME}
use Rattle.zone_proto.proofs.Members.{In, In-from_append, In-append_left, In-append_right, none_passes, and_right}
use Rattle.zone_proto.proofs.Names.NameTree.{name_eq-Decides}
use Rattle.zone_map.specs.AnyTypes.{any_type}
use Rattle.zone_map.specs.Direct.{is_address}
use Rattle.zone_map.specs.Zones.{Sets, set_at, IsZone}
use Rattle.zone_response.specs.declared.response.Part.{Part}
use Rattle.zone_response.specs.declared.response.Part.TheVariants as part
use Rattle.zone_response.specs.Nodes.{AtNode, chosen_type, stand_in_set}
use Rattle.zone_response.specs.Paths.{is_sought, next_behind, Path, ended, behind, searched, path_from, path}
use Rattle.zone_response.specs.Queries.{Inquiry}
use Rattle.zone_response.specs.Dname.{synthesized_alias}
use Rattle.zone_response.specs.Sections.{is_signed, as_it_is, part_for, is_alike, unless_among}
use Rattle.zone_response.specs.Aname.{StandInAnswer, addresses, no_addresses, untold, stand_in_answer}
use Rattle.zone_response.specs.Steps.{Next, on, ends, complete, missing, outside, referred, unfollowed, failed, Step, at_end, as_found_for, expanded_names, keeps, own_part, node_step, stood_in_step, new_name_step, step_at, step}
use Rattle.response_laws.specs.Repeats.{have_both, repeats}
use Rattle.response_laws.specs.Sayings.{asks_alias}
use Rattle.response_laws.proofs.Dnames.{sent_dname, AreDnames, IsAboveBy, turned_by, in_unless}
use Rattle.response_laws.proofs.LastNames.{IsUntold, untold_on, followed_on, dnames_on}
use Rattle.response_laws.proofs.Leads.{same_in_lower, sent_owner, sent_type, made_type, asked_stands, found_owner}
use Rattle.response_laws.proofs.Once.{Once, once_both, unlike, none_alike}
use Rattle.response_laws.proofs.Said.{none_any}
use Rattle.response_laws.proofs.StandIns.{aname_stands, addresses_of_last, owned_so, of_asked_type}
use Rattle.response_laws.proofs.Stepped.{NodeOf, has_set, has_alias, has_stand_in, has_nothing, node_of, StepOf, leaves, refers, fails, new_name, at_name, no_wildcard_name, at_wildcard, wildcard_gone, step_of}

no_address : (t : ℕ) → is_address t ≡ true → (t == DNAME) ≡ false
no_address t e = by (t == DNAME) refl
  where
    by : (b : Bool) → (t == DNAME) ≡ b → b ≡ false
    by false f = refl
    by true f = absurd (true≢false (sym e ∙ ap is_address (eqb-true t DNAME f)))

stands_in_for_addresses : (m : Sets) (a : Name) (t : ℕ) (s : RRset) → stand_in_set m a t ≡ Some s → is_address t ≡ true
stands_in_for_addresses m a t s e = by (is_address t) refl e
  where
    by : (b : Bool) → is_address t ≡ b → cond b (set_at m a ANAME) None ≡ Some s → b ≡ true
    by true f e = refl
    by false f e = absurd cc

module _ (q : Inquiry) (zone : IsZone q.sets) where
  abbrev t : ℕ
  t = q.record_type

  abbrev m : Sets
  m = q.sets

  -- a set of a name that was searched, or a DNAME set
  abbrev IsOf : List Name → RRset → Type 0
  IsOf seen r = ((y : Name) × In y seen × (lower r.owner ≡ y)) ⊎ (r.record_type ≡ DNAME)

  abbrev AreOf : List Name → List RRset → Type 0
  AreOf seen sets = (r : RRset) → In r sets → IsOf seen r

  of_more : (seen more : List Name) (r : RRset) → IsOf seen r → IsOf (seen ++ more) r
  of_more seen more r (inl (y, i, e)) = inl (y, In-append_left y seen more i, e)
  of_more seen more r (inr e) = inr e

  -- ---- one step, from a name that wasn't searched, behind these sets

  module _ (seen : List Name) (before : List RRset) (x : Name) (lowered : lower x ≡ x) (new : list_any (name_eq x) seen ≡ false) (known : AreOf seen before) (is_untold : IsUntold q before x)
      (asked : (asks_alias t ≡ false) ⊎ (before ≡ [])) where
    -- a set of x isn't of a name that was searched
    of_other : (s r : RRset) → same_name s.owner x ≡ true → (y : Name) → In y seen → lower r.owner ≡ y → is_alike s r ≡ false
    of_other s r owned y i e = by (is_alike s r) refl
      where
        by : (b : Bool) → is_alike s r ≡ b → b ≡ false
        by false f = refl
        by true f =
            let same : y ≡ x = sym e ∙ same_in_lower r.owner s.owner (and_right (r.record_type == s.record_type) (same_name r.owner s.owner) f) ∙ same_in_lower s.owner x owned ∙ lowered in
            absurd (none_passes (name_eq x) y seen new i ((name_eq-Decides x y).1 (sym same)))

    -- and if it is no DNAME set, it repeats none
    plain_once : (s : RRset) → same_name s.owner x ≡ true → (s.record_type == DNAME) ≡ false → (sets : List RRset) → AreOf seen sets → list_any (repeats s) sets ≡ false
    plain_once s owned other sets h = none_any (repeats s) sets (λ r i. unlike s r (by r (h r i)))
      where
        differs : (r : RRset) → r.record_type ≡ DNAME → (b : Bool) → (r.record_type == s.record_type) ≡ b → b ≡ false
        differs r e true f = absurd (true≢false (sym (eq-eqb s.record_type DNAME (sym (eqb-true r.record_type s.record_type f) ∙ e)) ∙ other))
        differs r e false f = refl

        by : (r : RRset) → IsOf seen r → is_alike s r ≡ false
        by r (inl (y, i, e)) = of_other s r owned y i e
        by r (inr e) = λ i. differs r e (r.record_type == s.record_type) refl i && same_name r.owner s.owner

    -- nor does the set that is asked for: a DNAME set of x that was passed would tell it
    dname_once : (s : RRset) → same_name s.owner x ≡ true → ((t == DNAME) ≡ true) ⊎ (((t == RRSIG) ≡ true) × (s.records ≡ [])) → list_any (repeats s) before ≡ false
    dname_once s owned how = none_any (repeats s) before (λ r i. by r i (known r i))
      where
        asks : RRset → Bool
        asks r = (t == DNAME) || (t == RRSIG) && is_signed r

        -- of another owner, or it doesn't tell what is asked for
        passed : (r : RRset) → In r before → r.record_type ≡ DNAME → (is_alike s r ≡ false) ⊎ (asks r ≡ false)
        passed r i e = of_owner (name_eq (lower r.owner) x) refl
          where
            call_concludes : (b : Bool) → asks r ≡ b → name_eq (lower r.owner) x ≡ true → b ≡ false
            call_concludes false f g = refl
            call_concludes true f g = absurd (none_passes (is_sought t x) r before is_untold i (λ i. eq-eqb r.record_type DNAME e i && g i && f i))

            alike : (b : Bool) → is_alike s r ≡ b → name_eq (lower r.owner) x ≡ false → b ≡ false
            alike false f g = refl
            alike true f g =
                let same : lower r.owner ≡ x = same_in_lower r.owner s.owner (and_right (r.record_type == s.record_type) (same_name r.owner s.owner) f) ∙ same_in_lower s.owner x owned ∙ lowered in
                absurd (true≢false (sym ((name_eq-Decides (lower r.owner) x).1 same) ∙ g))

            of_owner : (b : Bool) → name_eq (lower r.owner) x ≡ b → (is_alike s r ≡ false) ⊎ (asks r ≡ false)
            of_owner true g = inr (call_concludes (asks r) refl g)
            of_owner false g = inl (alike (is_alike s r) refl g)

        none_of : (r : RRset) → asks r ≡ false → ((t == DNAME) ≡ true) ⊎ (((t == RRSIG) ≡ true) × (s.records ≡ [])) → have_both s.records r.records || is_signed s && is_signed r ≡ false
        none_of r f (inl h) = absurd (true≢false (sym (λ i. h i || (t == RRSIG) && is_signed r) ∙ f))
        none_of r f (inr (h, e)) = by (is_signed s) (is_signed r) (unsigned (t == DNAME) (is_signed r) (sym (λ i. (t == DNAME) || h i && is_signed r) ∙ f))
          where
            unsigned : (b c : Bool) → b || true && c ≡ false → c ≡ false
            unsigned true c g = absurd (true≢false g)
            unsigned false c g = g

            by : (b c : Bool) → c ≡ false → have_both s.records r.records || b && c ≡ false
            by true c g = λ i. have_both (e i) r.records || g i
            by false c g = λ i. have_both (e i) r.records || false

        no_other : (r : RRset) → (is_alike s r ≡ false) ⊎ (asks r ≡ false) → repeats s r ≡ false
        no_other r (inl f) = unlike s r f
        no_other r (inr f) = by (is_alike s r)
          where
            by : (b : Bool) → b && (have_both s.records r.records || is_signed s && is_signed r) ≡ false
            by true = none_of r f how
            by false = refl

        by : (r : RRset) → In r before → IsOf seen r → repeats s r ≡ false
        by r i (inl (y, j, e)) = unlike s r (of_other s r owned y j e)
        by r i (inr e) = no_other r (passed r i e)

    -- ---- the sets of the step

    abbrev OnceOf : List RRset → Type 0
    OnceOf sets = Once before sets × AreOf (seen ++ x ∷ []) sets

    none : OnceOf []
    none = (tt, λ r i. absurd i)

    only : (s : RRset) → same_name s.owner x ≡ true → list_any (repeats s) before ≡ false → OnceOf (s ∷ [])
    only s owned e = ((e, tt), of)
      where
        of : AreOf (seen ++ x ∷ []) (s ∷ [])
        of r (inl same) = inl (x, In-append_right x seen (x ∷ []) (inl refl), ap (λ (k : RRset). lower k.owner) (sym same) ∙ same_in_lower s.owner x owned ∙ lowered)
        of r (inr i) = absurd i

    node_once : (wildcard_name : Option Name) (a : Name) → (wildcard_name ≡ None → a ≡ x) → OnceOf (step_at q wildcard_name x a).answers
    node_once wildcard_name a here = by (node_of m a t)
      where
        at : AtNode → Step
        at = node_step q wildcard_name x

        kept : RRset → RRset
        kept = as_found_for (keeps q.signed t) wildcard_name x

        HasOnce : Step → Type 0
        HasOnce v = OnceOf v.answers

        owned : (p : Part) (u : ℕ) (s : RRset) → set_at m a u ≡ Some s → same_name (as_it_is p (kept s)).owner x ≡ true
        owned p u s e = ap (λ n. same_name n x) (sent_owner p (kept s).ttl (kept s)) ∙ found_owner m zone.stored q.signed t (keeps q.signed t) wildcard_name x a s here (zone.stored a u s e).owner

        typed : (p : Part) (u : ℕ) (s : RRset) → set_at m a u ≡ Some s → (as_it_is p (kept s)).record_type ≡ u
        typed p u s e = sent_type p (kept s).ttl (kept s) ∙ made_type (keeps q.signed t) wildcard_name x s ∙ (zone.stored a u s e).record_type

        -- the set that is asked for
        asks : (s : RRset) → chosen_type m a t ≡ DNAME → asks_alias t ≡ false → ((t == DNAME) ≡ true) ⊎ (((t == RRSIG) ≡ true) × ((as_it_is (own_part q.signed t) (kept s)).records ≡ []))
        asks s e f = of_type (t == CNAME) (t == ANY) refl f (t == RRSIG) refl e
          where
            of_type : (b c : Bool) → (t == ANY) ≡ c → b || c ≡ false → (d : Bool) → (t == RRSIG) ≡ d → cond (c || d) (any_type m a) t ≡ DNAME → ((t == DNAME) ≡ true) ⊎ (((t == RRSIG) ≡ true) × ((as_it_is (own_part q.signed t) (kept s)).records ≡ []))
            of_type true c g f d h e = absurd (true≢false f)
            of_type false true g f d h e = absurd (true≢false f)
            of_type false false g f true h e = inr (h, ap (λ d. (as_it_is (cond d part.Signatures (part_for q.signed)) (kept s)).records) h)
            of_type false false g f false h e = inl (eq-eqb t DNAME e)

        own_once : (s : RRset) → set_at m a (chosen_type m a t) ≡ Some s → (b : Bool) → (chosen_type m a t == DNAME) ≡ b → (asks_alias t ≡ false) ⊎ (before ≡ []) → list_any (repeats (as_it_is (own_part q.signed t) (kept s))) before ≡ false
        own_once s e true f (inl k) =
            dname_once (as_it_is (own_part q.signed t) (kept s)) (owned (own_part q.signed t) (chosen_type m a t) s e) (asks s (eqb-true (chosen_type m a t) DNAME f) k)
        own_once s e true f (inr none) = ap (list_any (repeats (as_it_is (own_part q.signed t) (kept s)))) none
        own_once s e false f k =
            plain_once (as_it_is (own_part q.signed t) (kept s)) (owned (own_part q.signed t) (chosen_type m a t) s e) (ap (λ u. u == DNAME) (typed (own_part q.signed t) (chosen_type m a t) s e) ∙ f) before known

        -- addresses for which an ANAME set stands in
        addressed : (s v : RRset) → set_at m a ANAME ≡ Some s → is_address t ≡ true → stand_in_answer q x (kept s) ≡ addresses v → (b : Bool)
            → HasOnce (cond b (at_end failed) (record { answers = as_it_is (part_for q.signed) v ∷ []; made = expanded_names wildcard_name x; next = ends complete }))
        addressed s v k g f true = none
        addressed s v k g f false =
            let l = addresses_of_last q x (kept s) v f in
            let of_x = owned_so q x (kept s) v l (found_owner m zone.stored q.signed t (keeps q.signed t) wildcard_name x a s here (zone.stored a ANAME s k).owner) in
            only (as_it_is (part_for q.signed) v) of_x
            (plain_once (as_it_is (part_for q.signed) v) of_x
            (ap (λ u. u == DNAME) (of_asked_type q x (kept s) v l (found_owner m zone.stored q.signed t (keeps q.signed t) wildcard_name x a s here (zone.stored a ANAME s k).owner)) ∙ no_address t g) before known)

        stood_in : (s : RRset) → set_at m a ANAME ≡ Some s → is_address t ≡ true → (w : StandInAnswer) → stand_in_answer q x (kept s) ≡ w → HasOnce (stood_in_step q.is_proved q.signed wildcard_name x w)
        stood_in s k g (addresses v) f = addressed s v k g f (q.is_proved && not (is_signed v))
        stood_in s k g no_addresses f = none
        stood_in s k g untold f = none

        by : NodeOf m a t → HasOnce (step_at q wildcard_name x a)
        by (has_set s e f) =
            let stands = asked_stands m a t s e in
            subst (λ n. HasOnce (at n)) (sym f)
            (only (as_it_is (own_part q.signed t) (kept s)) (owned (own_part q.signed t) (chosen_type m a t) s stands) (own_once s stands (chosen_type m a t == DNAME) refl asked))
        by (has_alias s e f g) =
            subst (λ n. HasOnce (at n)) (sym g)
            (only (as_it_is (part_for q.signed) (kept s)) (owned (part_for q.signed) CNAME s f)
            (plain_once (as_it_is (part_for q.signed) (kept s)) (owned (part_for q.signed) CNAME s f) (ap (λ u. u == DNAME) (typed (part_for q.signed) CNAME s f)) before known))
        by (has_stand_in s e f k g) =
            subst (λ n. HasOnce (at n)) (sym g) (stood_in s (aname_stands m a t s k) (stands_in_for_addresses m a t s k) (stand_in_answer q x (kept s)) refl)
        by (has_nothing e f g) = subst (λ n. HasOnce (at n)) (sym g) none

    -- below a DNAME
    module _ (s : RRset) (a : IsAboveBy q x s) where
      abbrev sets : List RRset
      sets = unless_among before (sent_dname q s)

      of_dname : (names : List Name) → AreOf names sets
      of_dname names r i = inr (ap (λ (k : RRset). k.record_type) (in_unless q before (sent_dname q s) r i) ∙ sent_type (part_for q.signed) s.ttl s ∙ a.type')

      sets_once : Once before sets
      sets_once = by (list_any (is_alike (sent_dname q s)) before) refl
        where
          by : (b : Bool) → list_any (is_alike (sent_dname q s)) before ≡ b → Once before (cond b [] (sent_dname q s ∷ []))
          by true e = tt
          by false e = (none_alike (sent_dname q s) before e, tt)

      new_name_once : (o : Option Name) → OnceOf (new_name_step q.signed t before x s o).answers
      new_name_once None = (sets_once, of_dname (seen ++ x ∷ []))
      new_name_once (Some n) = (once_both before sets (r ∷ []) sets_once (plain_once r (caseless_eq_equiv.refl x) refl (before ++ sets) all, tt), λ k i. of k (In-from_append k sets (r ∷ []) i))
        where
          r : RRset
          r = synthesized_alias s x n

          all : AreOf seen (before ++ sets)
          all k i = by (In-from_append k before sets i)
            where
              by : In k before ⊎ In k sets → IsOf seen k
              by (inl j) = known k j
              by (inr j) = of_dname seen k j

          of : (k : RRset) → In k sets ⊎ In k (r ∷ []) → IsOf (seen ++ x ∷ []) k
          of k (inl j) = of_dname (seen ++ x ∷ []) k j
          of k (inr (inl same)) = inl (x, In-append_right x seen (x ∷ []) (inl refl), ap (λ (k : RRset). lower k.owner) (sym same) ∙ lowered)
          of k (inr (inr j)) = absurd j

    step_once : OnceOf (step q before x).answers
    step_once = by (step_of q before x)
      where
        of : (s : Step) → step q before x ≡ s → OnceOf s.answers → OnceOf (step q before x).answers
        of s e h = subst (λ (s : Step). OnceOf s.answers) (sym e) h

        by : StepOf q before x → OnceOf (step q before x).answers
        by (leaves i e) = of (at_end (outside x)) e none
        by (refers s i f e) = of (at_end (referred s)) e none
        by (fails s f g e) = of (at_end failed) e none
        by (new_name s target o f call_concludes g e) = of (new_name_step q.signed t before x s o) e (new_name_once s (turned_by q zone x s f) o)
        by (at_name u there e) = of (step_at q None x x) e (node_once None x (λ k. refl))
        by (no_wildcard_name u absent f e) = of (at_end (missing x None false)) e none
        by (at_wildcard w u absent f g e) = of (step_at q (Some w) x w) e (node_once (Some w) w (λ k. cc))
        by (wildcard_gone w u absent f g e) = of (at_end (missing x (Some w) false)) e none

  -- ---- the path

  once_from : (k : ℕ) (seen : List Name) (before : List RRset) (x : Name) → lower x ≡ x → AreOf seen before → AreDnames q before → IsUntold q before x → (asks_alias t ≡ false) ⊎ (before ≡ [])
      → Once before (path_from q k seen before x).answers
  once_from zero seen before x lowered known dnames is_untold asked = tt
  once_from (suc k) seen before x lowered known dnames is_untold asked = by (once_from k (seen ++ x ∷ []) (before ++ answers)) (list_any (name_eq x) seen) refl
    where
      answers : List RRset
      answers = (step q before x).answers

      rest : Next → Path
      rest = searched (path_from q k (seen ++ x ∷ []) (before ++ answers))

      From : Type 0
      From = (y : Name) → lower y ≡ y → AreOf (seen ++ x ∷ []) (before ++ answers) → AreDnames q (before ++ answers) → IsUntold q (before ++ answers) y → (asks_alias t ≡ false) ⊎ (before ++ answers ≡ [])
          → Once (before ++ answers) (path_from q k (seen ++ x ∷ []) (before ++ answers) y).answers

      both : AreOf (seen ++ x ∷ []) answers → AreOf (seen ++ x ∷ []) (before ++ answers)
      both h r i = of (In-from_append r before answers i)
        where
          of : In r before ⊎ In r answers → IsOf (seen ++ x ∷ []) r
          of (inl j) = of_more seen (x ∷ []) r (known r j)
          of (inr j) = h r j

      later : From → AreOf (seen ++ x ∷ []) answers → (n : Next) → next_behind q before x ≡ n → Once (before ++ answers) (rest n).answers
      later from h (on y) e =
          let f = followed_on q zone before dnames x y e in
          from y f.lowered (both h) (dnames_on q zone before dnames x y e) (untold_on q zone (before ++ answers) (step q before x).next y e) (inl f.asks)
      later from h (ends w) e = tt

      by : From → (b : Bool) → list_any (name_eq x) seen ≡ b → Once before (cond b (ended unfollowed) (behind answers (step q before x).made (rest (next_behind q before x)))).answers
      by from true e = tt
      by from false e =
          let here = step_once seen before x lowered e known is_untold asked in
          once_both before answers (rest (next_behind q before x)).answers here.0 (later from here.1 (next_behind q before x) refl)

  pub path_once : (x : Name) → lower x ≡ x → Once [] (path q x).answers
  unfolding path
  path_once x lowered = once_from 8 [] [] x lowered (λ r i. absurd i) (λ r i. absurd i) refl (inr refl)
