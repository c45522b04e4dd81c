-- What a response says is how its search ends
use Rattle.std.proofs.Common.{◌≡◌, ℕ, Bool, true, false, cond, ◌||◌, List, [], ◌∷◌, ◌++◌, map, refl, sym, ap, ◌∙◌, subst, ◌⊎◌, inl, inr, true≢false, eqb-true}
use Rattle.std.specs.Prelude.{Option, Some, None, find, option_and_then, option_to_list, ◌==◌}
use Rattle.std.specs.List.{list_any}
use Rattle.std.proofs.lemmas.List.{map-append}
use Rattle.zone_proto.specs.Names.{Name, lower_label, lower, is_at_or_above}
use Rattle.zone_proto.specs.Sets.{RRset}
use Rattle.zone_proto.specs.Types.{NS, SOA, DS}
use Rattle.zone_proto.proofs.Members.{In, In-from_map, In-from_append}
use Rattle.zone_proto.proofs.Names.Lower.{lower-lower}
use Rattle.zone_proto.proofs.Names.NameTree.{is_at_or_above_complete}
use Rattle.zone_map.specs.Upserts.{is_denial_type}
use Rattle.zone_map.specs.Zones.{set_at, IsZone}
use Rattle.denial_laws.proofs.Silence.{find_none}
use Rattle.zone_response.specs.declared.response.Part.TheVariants as part
use Rattle.zone_response.specs.Paths.{path}
use Rattle.zone_response.specs.Queries.{Zone, Query, Inquiry, inquiry}
use Rattle.zone_response.specs.Responses.{code_at, negative_ttl, child_ds, ds_at, end_sets, fails}
use Rattle.zone_response.specs.Sections.{Sections, as_it_is, part_for}
use Rattle.zone_response.specs.Steps.{End, complete, referred, missing, outside, unfollowed, too_long, failed}
use Rattle.zone_response.specs.Descent.{cut}
use Rattle.response_laws.specs.Sayings.{data_of, name_error, no_data, referral, is_of, last_name, referral_to, unanswered, without_error, with_name_error, by_code, saying, LeadsAway, SaysEnd}
use Rattle.response_laws.proofs.Leads.{sent_type}
use Rattle.response_laws.proofs.LastNames.{IsMissing, IsAliasAsked, IsReferred, IsUntold, EndOf, PathEnd, stops, arrives, path_end}
use Rattle.response_laws.proofs.Parts.{path_of, as_proof, IsMadeOf}
use Rattle.response_laws.proofs.Starts.{IsAway, away_answers}
use Rattle.response_laws.proofs.Stepped.{IsUndiverted}
use Rattle.response_laws.proofs.Turned.{turned_first, cut_set}

-- what is said, and the end from which it comes
pub data Said (z : Zone) (q : Query) (r : Sections) : Type 0 where
  says_nothing : saying q r ≡ None → Said z q r
  says_data : (y : Name) (sets : List RRset) → saying q r ≡ Some (data_of y) → last_name q.record_type q.name (path_of z q).answers ≡ record { name = y; sets = sets }
      → IsUndiverted (inquiry z q) y ⊎ IsAliasAsked (inquiry z q) (path_of z q).answers y sets → Said z q r
  says_referral : (y : Name) (c : RRset) → saying q r ≡ Some (referral (lower c.owner)) → (path_of z q).end ≡ referred c → IsReferred (inquiry z q) y c → Said z q r
  says_missing : (y : Name) (wildcard_name : Option Name) (there : Bool) → saying q r ≡ Some (cond there (no_data y) (name_error y)) → (path_of z q).end ≡ missing y wildcard_name there → IsUndiverted (inquiry z q) y
      → IsMissing (inquiry z q) y wildcard_name there → Said z q r

pub none_any : {X : Type 0} (p : X → Bool) (xs : List X) → ((x : X) → In x xs → p x ≡ false) → list_any p xs ≡ false
none_any p [] h = refl
none_any p (x ∷ xs) h = λ i. h x (inl refl) i || none_any p xs (λ y j. h y (inr j)) i

-- the NS set of a cut is under the name that turns
pub cut_stands : (q : Inquiry) (y : Name) (c : RRset) → IsReferred q y c → (n : Name) × (set_at q.sets n NS ≡ Some c)
cut_stands q y c h = let f = turned_first q.origin q.sets y q.record_type (cut c) h.turned in (f.name, (cut_set q.origin q.sets y q.record_type f.name c f.turns).1)

-- which is the name where the search ends, or above it
cut_above : (q : Inquiry) → IsZone q.sets → (y : Name) (c : RRset) → IsReferred q y c → is_at_or_above (lower c.owner) (lower y) ≡ true
cut_above q zone y c h =
    let f = turned_first q.origin q.sets y q.record_type (cut c) h.turned in
    let own = (zone.stored f.name NS c (cut_set q.origin q.sets y q.record_type f.name c f.turns).1).owner in
    is_at_or_above_complete (lower c.owner) (lower y)
    (lower f.above.0, ap lower f.above.1 ∙ map-append lower_label f.above.0 f.name ∙ ap (λ n. lower f.above.0 ++ lower n) (sym own) ∙ ap (λ n. lower f.above.0 ++ n) (lower-lower c.owner))

module _ (z : Zone) (zone : IsZone z.sets) (q : Query) (r : Sections) (h : IsMadeOf z q r) where
  abbrev t : ℕ
  t = q.record_type

  abbrev ends : End
  ends = (path_of z q).end

  abbrev proofs : List RRset
  proofs = map (as_proof (negative_ttl h.soa)) h.proofs

  -- the authority section, for an end
  abbrev all : End → List RRset
  all e = end_sets (ds_at z.sets e) q.signed h.soa e ++ proofs

  saying_is : (y : Name) (sets : List RRset) (e : End) → ends ≡ e → last_name t q.name (path_of z q).answers ≡ record { name = y; sets = sets }
      → saying q r ≡ by_code t (code_at e) (path_of z q).answers (record { name = y; sets = sets }) (all e)
  saying_is y sets e f g = λ i. by_code t ((h.code ∙ ap code_at f) i) (h.answers i) ((ap (last_name t q.name) h.answers ∙ g) i) ((h.authorities ∙ ap all f) i)

  -- where no set tells what is asked for, the authority section says it
  by_authorities : (y : Name) (e : End) → IsUntold (inquiry z q) (path_of z q).answers y → without_error t (path_of z q).answers y [] (all e) ≡ unanswered y (all e)
  by_authorities y e untold = ap (λ b. cond b (Some (data_of y)) (unanswered y (all e))) untold

  -- no set of denial is of another type
  no_proof_of : (u : ℕ) → is_denial_type u ≡ false → (s : RRset) → In s proofs → is_of u s ≡ false
  no_proof_of u other s i =
      let v = In-from_map (as_proof (negative_ttl h.soa)) s h.proofs i in
      subst (λ s. is_of u s ≡ false) v.2 (by v.0.record_type (h.denials v.0 v.1).denial (v.0.record_type == u) refl)
    where
      by : (k : ℕ) → is_denial_type k ≡ true → (b : Bool) → (k == u) ≡ b → b ≡ false
      by k d false e = refl
      by k d true e = absurd (true≢false (sym d ∙ ap is_denial_type (eqb-true k u e) ∙ other))

  -- the sets of denial alone say nothing of a name without answer
  silent : (y : Name) → unanswered y proofs ≡ None
  silent y = λ i. cond (none_any (is_of SOA) proofs (no_proof_of SOA refl) i) (Some (no_data y)) (option_and_then (referral_to y) (find_none (is_of NS) proofs (no_proof_of NS refl) i))

  -- an SOA says that there are no data
  soa_says : (y x : Name) (wildcard_name : Option Name) → unanswered y (all (missing x wildcard_name true)) ≡ Some (no_data y)
  soa_says y x wildcard_name =
      ap (λ u. cond ((u == SOA) || list_any (is_of SOA) proofs) (Some (no_data y)) (option_and_then (referral_to y) (find (is_of NS) (all (missing x wildcard_name true)))))
      (sent_type (part_for q.signed) (negative_ttl h.soa) h.soa ∙ (zone.stored z.origin SOA h.soa h.stands).record_type)

  -- NS without SOA refers
  servers_say : (y : Name) (c : RRset) (n : Name) → set_at z.sets n NS ≡ Some c → is_at_or_above (lower c.owner) (lower y) ≡ true → unanswered y (all (referred c)) ≡ Some (referral (lower c.owner))
  servers_say y c n e above =
      ap (λ b. cond b (Some (no_data y)) (option_and_then (referral_to y) (find (is_of NS) (all (referred c))))) no_soa
      ∙ ap (λ b. option_and_then (referral_to y) (cond b (Some (as_it_is part.Records c)) (find (is_of NS) (digests ++ proofs)))) (ap (λ u. u == NS) servers)
      ∙ ap (λ b. cond b (Some (referral (lower c.owner))) None) above
    where
      digests : List RRset
      digests = cond q.signed (map (as_it_is part.Signed) (option_to_list (child_ds z.sets c))) []

      servers : c.record_type ≡ NS
      servers = (zone.stored n NS c e).record_type

      no_digest : (signed : Bool) (o : Option RRset) → child_ds z.sets c ≡ o → (s : RRset) → In s (cond signed (map (as_it_is part.Signed) (option_to_list o)) []) → is_of SOA s ≡ false
      no_digest true (Some d) f s (inl i) = subst (λ v. is_of SOA v ≡ false) i (ap (λ u. u == SOA) (zone.stored (lower c.owner) DS d f).record_type)
      no_digest true (Some d) f s (inr i) = absurd i
      no_digest true None f s i = absurd i
      no_digest false o f s i = absurd i

      behind : (s : RRset) → In s digests ⊎ In s proofs → is_of SOA s ≡ false
      behind s (inl i) = no_digest q.signed (child_ds z.sets c) refl s i
      behind s (inr i) = no_proof_of SOA refl s i

      no_soa : list_any (is_of SOA) (all (referred c)) ≡ false
      no_soa = λ i. ap (λ u. u == SOA) servers i || none_any (is_of SOA) (digests ++ proofs) (λ s j. behind s (In-from_append s digests proofs j)) i

  -- ---- by the end

  abbrev answers : List RRset
  answers = (path_of z q).answers

  -- what is said of y, where the search ends so
  abbrev SaysAt : Name → End → Type 0
  SaysAt y complete = saying q r ≡ Some (data_of y)
  SaysAt y (referred c) = saying q r ≡ Some (referral (lower c.owner))
  SaysAt y (missing x wildcard_name there) = saying q r ≡ Some (cond there (no_data y) (name_error y))
  SaysAt y _ = saying q r ≡ None

  says_at : (y : Name) (sets : List RRset) (e : End) → ends ≡ e → last_name t q.name (path_of z q).answers ≡ record { name = y; sets = sets } → EndOf (inquiry z q) (path_of z q).answers y sets e → SaysAt y e
  says_at y sets complete f g (inl (a, u)) =
      saying_is y sets complete f g ∙ ap (λ s. without_error t answers y s (all complete)) a.alone ∙ ap (λ b. cond b (Some (data_of y)) None) a.answers_it
  says_at y sets complete f g (inr a) =
      saying_is y sets complete f g ∙ ap (λ s. without_error t answers y s (all complete)) a.none ∙ ap (λ b. cond b (Some (data_of y)) (unanswered y (all complete))) a.call_concludes
  says_at y sets (referred c) f g (u, a, k) =
      let n = cut_stands (inquiry z q) y c u in
      saying_is y sets (referred c) f g ∙ ap (λ s. without_error t answers y s (all (referred c))) a ∙ by_authorities y (referred c) k
      ∙ servers_say y c n.0 n.1 (cut_above (inquiry z q) zone y c u)
  says_at y sets (missing x wildcard_name true) f g (u, m, e, a, k) =
      saying_is y sets (missing x wildcard_name true) f g ∙ ap (λ s. without_error t answers y s (all (missing x wildcard_name true))) a ∙ by_authorities y (missing x wildcard_name true) k ∙ soa_says y x wildcard_name
  says_at y sets (missing x wildcard_name false) f g (u, m, e, a, k) = saying_is y sets (missing x wildcard_name false) f g ∙ ap (with_name_error y) a
  says_at y sets (outside x) f g (e, a, k) =
      saying_is y sets (outside x) f g ∙ ap (λ s. without_error t answers y s (all (outside x))) a ∙ by_authorities y (outside x) k ∙ silent y
  says_at y sets unfollowed f g a = absurd a
  says_at y sets too_long f g a = saying_is y sets too_long f g
  says_at y sets failed f g a = absurd (true≢false (sym (ap fails f) ∙ h.passes))

  stops_silent : (y : Name) → ends ≡ unfollowed → last_name t q.name (path_of z q).answers ≡ record { name = y; sets = [] } → IsUntold (inquiry z q) (path_of z q).answers y → saying q r ≡ None
  stops_silent y f g k = saying_is y [] unfollowed f g ∙ by_authorities y unfollowed k ∙ silent y

  pub said : Said z q r
  said = by (path_end (inquiry z q) zone q.name)
    where
      of : (y : Name) (sets : List RRset) (e : End) → ends ≡ e → last_name t q.name (path_of z q).answers ≡ record { name = y; sets = sets } → SaysAt y e → EndOf (inquiry z q) (path_of z q).answers y sets e → Said z q r
      of y sets complete f g s (inl (a, u)) = says_data y sets s g u
      of y sets complete f g s (inr a) = says_data y sets s g (inl a.unturned)
      of y sets (referred c) f g s (u, a, k) = says_referral y c s f u
      of y sets (missing x wildcard_name there) f g s (u, m, e, a, k) = says_missing y wildcard_name there s (f ∙ ap (λ n. missing n wildcard_name there) e) u m
      of y sets (outside x) f g s a = says_nothing s
      of y sets unfollowed f g s a = says_nothing s
      of y sets too_long f g s a = says_nothing s
      of y sets failed f g s a = says_nothing s

      by : PathEnd (inquiry z q) zone [] q.name (path_of z q) → Said z q r
      by (stops y f g k) = says_nothing (stops_silent y f g k)
      by (arrives y sets e f g a) = of y sets e f g (says_at y sets e f g a) a

  -- aliases lead away to the last name, of which nothing is said
  leads_away : (y x : Name) (sets : List RRset) → last_name t q.name (path_of z q).answers ≡ record { name = y; sets = sets } → y ≡ x → sets ≡ [] → saying q r ≡ None → (e : End) → ends ≡ e → IsAway e → LeadsAway q r (code_at e) x
  leads_away y x sets g same none s e f away = record {
    code = h.code ∙ ap code_at f;
    leads = ap (last_name t q.name) h.answers ∙ g ∙ (λ i. record { name = same i; sets = none i });
    aliases = λ empty. away_answers (inquiry z q) q.name h.inside (subst IsAway (sym f) away) (sym h.answers ∙ empty);
    silent = s;
  }

  pub says_end : SaysEnd q r (path (inquiry z q) q.name).end
  says_end = by (path_end (inquiry z q) zone q.name)
    where
      of : (y : Name) (sets : List RRset) (e : End) → ends ≡ e → last_name t q.name (path_of z q).answers ≡ record { name = y; sets = sets } → SaysAt y e → EndOf (inquiry z q) (path_of z q).answers y sets e → SaysEnd q r e
      of y sets complete f g s a = (y, s)
      of y sets (referred c) f g s a = s
      of y sets (missing x wildcard_name there) f g s (u, m, e, a, k) = s ∙ ap (λ n. Some (cond there (no_data n) (name_error n))) (sym e)
      of y sets (outside x) f g s (e, a, k) = leads_away y x sets g (sym e) a s (outside x) f tt
      of y sets unfollowed f g s a = absurd a
      of y sets too_long f g s a = (y, leads_away y y sets g refl a s too_long f tt)
      of y sets failed f g s a = absurd (true≢false (sym (ap fails f) ∙ h.passes))

      to : (e : End) → ends ≡ e → SaysEnd q r e → SaysEnd q r ends
      to e f s = subst (SaysEnd q r) (sym f) s

      by : PathEnd (inquiry z q) zone [] q.name (path_of z q) → SaysEnd q r ends
      by (stops y f g k) = to unfollowed f (y, leads_away y y [] g refl refl (stops_silent y f g k) unfollowed f tt)
      by (arrives y sets e f g a) = to e f (of y sets e f g (says_at y sets e f g a) a)

  -- the NS set is in the zone to which a search is referred
  pub referred_stands : (c : RRset) → ends ≡ referred c → (n : Name) × (set_at z.sets n NS ≡ Some c)
  referred_stands c e = by (path_end (inquiry z q) zone q.name)
    where
      of : (y : Name) (sets : List RRset) (w : End) → w ≡ referred c → EndOf (inquiry z q) (path_of z q).answers y sets w → (n : Name) × (set_at z.sets n NS ≡ Some c)
      of y sets (referred s) f (u, a, k) = let n = cut_stands (inquiry z q) y s u in (n.0, n.1 ∙ same s f)
        where
          same : (s : RRset) → referred s ≡ referred c → Some s ≡ Some c
          same s e = cc
      of y sets complete f a = absurd cc
      of y sets (missing x wildcard_name there) f a = absurd cc
      of y sets (outside x) f a = absurd cc
      of y sets unfollowed f a = absurd a
      of y sets too_long f a = absurd cc
      of y sets failed f a = absurd cc

      by : PathEnd (inquiry z q) zone [] q.name (path_of z q) → (n : Name) × (set_at z.sets n NS ≡ Some c)
      by (stops y f g k) = let p : unfollowed ≡ referred c = sym f ∙ e in absurd cc
      by (arrives y sets w f g a) = of y sets w (sym f ∙ e) a
