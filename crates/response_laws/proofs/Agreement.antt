-- The answers of a response are those of a lookup
use Rattle.std.proofs.Common.{◌≡◌, Bool, true, false, cond, not, ◌&&◌, ◌||◌, List, [], ◌∷◌, map, refl, sym, ap, ◌∙◌, subst, true≢false}
use Rattle.std.specs.Prelude.{Option, Some, None, unwrap_or, option_map, MatchOption, ◌==◌}
use Rattle.std.specs.List.{Contains}
use Rattle.std.specs.Option.{option_map_or}
use Rattle.zone_proto.specs.declared.record.Record.{Record}
use Rattle.zone_proto.specs.declared.response_code.ResponseCode.{ResponseCode}
use Rattle.zone_proto.specs.declared.response_code.ResponseCode.TheVariants as code
use Rattle.zone_proto.specs.Names.{Name, name_eq, is_at_or_above, is_wildcard, wildcard_under}
use Rattle.zone_proto.specs.Sets.{RRset}
use Rattle.zone_proto.specs.Types.{IN, SOA, ANY, ANAME}
use Rattle.zone_proto.proofs.Members.{In, In-Contains}
use Rattle.zone_proto.proofs.Names.NameTree.{name_eq-Decides}
use Rattle.zone_map.specs.Chains.{chain}
use Rattle.zone_map.specs.Direct.{is_address}
use Rattle.zone_map.specs.Wildcards.{exists, closest_encloser, asked_wildcard_exists, found}
use Rattle.zone_map.specs.Zones.{Sets, owns_at_or_below}
use Rattle.zone_map.proofs.ExistingNames.{absent_where_unowned, owned_where_existing}
use Rattle.zone_map.proofs.Owned.{set_of}
use Rattle.zone_lookup.specs.Additionals.{next_name, AreAdditionals}
use Rattle.zone_lookup.specs.Flattening.{stands_for_addresses, alone, beside, flattened, unsigned_flattened, last_set}
use Rattle.zone_lookup.specs.Replies.{NegativeAnswer, name_exists, nx_domain, refused, absent, is_present, negative_answer, Answers, one_set, chained, Reply, negative, answered, is_followed, answer_sets, AreFrom, answer_section, IsAnswer, IsReplyFor}
use Rattle.denial_laws.proofs.OwnTypes.{differs}
use Rattle.denial_laws.proofs.Soundness.{searched_by}
use Rattle.zone_response.specs.declared.response.Part.TheVariants as part
use Rattle.zone_response.specs.Paths.{Path, path}
use Rattle.zone_response.specs.Queries.{Zone, Query, Inquiry, inquiry}
use Rattle.zone_response.specs.Responses.{authority_sets, fails, refusal, refused as unsearched, without_soa, failing, unprovable, answered as searched, outcome_proven, outcome_along, outcome_of, IsResponse, IsResponseTo, IsResponseBy}
use Rattle.zone_response.specs.Sections.{Sections, as_it_is, part_for}
use Rattle.zone_response.specs.Wildcards.{is_there}
use Rattle.zone_response.specs.Aname.{target_sets, addresses}
use Rattle.zone_response.proofs.StandInFacts.{targets_listed, without_targets}
use Rattle.response_laws.specs.Agreement.{IsOrdinaryZone, NoStandIn, StandInsLead, IsOrdinaryQuery, IsProvable, unfound_name, searched_names, sets_of, answer_sets_of, code_of, IsNoDenialOwner, Agrees, ResponsesAgree}
use Rattle.response_laws.proofs.AgreementNames.{wildcard_asked}
use Rattle.response_laws.proofs.AgreementPaths.{IsAlike, PathAnswers, answers_alone, answers_stood_in, answers_along, answers_none, PathEnds, itself, unfound_by, unfound_searched, path_answers_as_found, path_stood_in}
use Rattle.response_laws.proofs.AgreementSteps.{no_address}
use Rattle.response_laws.proofs.StandIns.{AreOfLast, addresses_of_last}

-- ---- whether a name is there

module _ (m : Sets) (x : Name) (not_wildcard : exists m x ≡ false → is_wildcard x ≡ false) where
  -- a lookup says the same where neither the name nor one below it owns sets of denial alone
  wildcard_there : exists m x ≡ false → asked_wildcard_exists m x ≡ is_there m x
  wildcard_there e = ap (λ o. option_map_or (exists m) o false) (wildcard_asked m x e (not_wildcard e)) ∙ sym (ap (λ b. b || option_map_or (exists m) (option_map wildcard_under (closest_encloser m x)) false) e)

  there_alike : IsNoDenialOwner m x → is_present m x ≡ is_there m x
  there_alike owner = by (exists m x) refl
    where
      unowned : exists m x ≡ false → (b : Bool) → owns_at_or_below m x ≡ b → b ≡ false
      unowned e false f = refl
      unowned e true f = absurd (true≢false (sym (owner f) ∙ e))

      by : (b : Bool) → exists m x ≡ b → is_present m x ≡ is_there m x
      by true e =
          ap (λ b. b || asked_wildcard_exists m x) (owned_where_existing x m e)
          ∙ sym (ap (λ b. b || option_map_or (exists m) (option_map wildcard_under (closest_encloser m x)) false) e)
      by false e = ap (λ b. b || asked_wildcard_exists m x) (unowned e (owns_at_or_below m x) refl) ∙ wildcard_there e

  -- where a lookup says that there is no such name, there is none
  gone : is_present m x ≡ false → is_there m x ≡ false
  gone e = by (owns_at_or_below m x) refl e
    where
      by : (b : Bool) → owns_at_or_below m x ≡ b → b || asked_wildcard_exists m x ≡ false → is_there m x ≡ false
      by true f g = absurd (true≢false g)
      by false f g = sym (wildcard_there (absent_where_unowned x m f)) ∙ g

-- ---- the response

module _ (z : Zone) (q : Query) (r : Sections) (zone : IsOrdinaryZone z.origin z.sets) (query : IsOrdinaryQuery z q) (provable : IsProvable z q (path (inquiry z q) q.name)) (is : IsResponse z q r) where
  abbrev p : Path
  p = path (inquiry z q) q.name

  unrefused : refusal z.origin q ≡ None
  unrefused = λ i.
      cond (not (ap (λ c. c == IN) query.class i) || not (query.inside i)) (Some code.Refused) (cond (query.record_type.searched i) (Some code.NotImp) None)

  abbrev soa : RRset
  soa = (set_of z.sets z.origin SOA zone.soa).0

  along : IsResponseTo (inquiry z q) (outcome_along z q.signed (set_of z.sets z.origin SOA zone.soa).0 p) r
  along =
      subst (λ (o : Option RRset). IsResponseTo (inquiry z q) (option_map_or (λ soa. outcome_along z q.signed soa p) o without_soa) r) (set_of z.sets z.origin SOA zone.soa).1
      (subst (λ (o : Option ResponseCode). IsResponseTo (inquiry z q) (option_map_or unsearched o (outcome_of z (inquiry z q) q.name)) r) unrefused is)

  by_path : fails p.end ≡ false → (sets : List RRset) × IsResponseBy (inquiry z q) p sets r
  by_path passes = (
    authority_sets z q.signed soa p.made p.end,
    subst (λ (b : Bool). IsResponseTo (inquiry z q) (cond b unprovable (searched p (authority_sets z q.signed soa p.made p.end))) r) provable
        (subst (λ (b : Bool). IsResponseTo (inquiry z q) (cond b failing (outcome_proven z q.signed soa p)) r) passes along),
  )

  -- ---- beside the reply

  abbrev x : Name
  x = q.name

  abbrev m : Sets
  m = z.sets

  module _ (as_found : PathAnswers (inquiry z q) q.name × PathEnds (inquiry z q) q.name) where
    response : (sets : List RRset) × IsResponseBy (inquiry z q) p sets r
    response = by_path as_found.1.passes

    -- a name of the zone without a set
    not_wildcard : (y : Name) → unfound_name (inquiry z q) q.name ≡ Some y → is_at_or_above z.origin y ≡ true → exists z.sets y ≡ false → is_wildcard y ≡ false
    not_wildcard y u inside = (query.names y (In-Contains y (searched_names (inquiry z q) q.name) (unfound_searched (inquiry z q) zone query.record_type q.name query.inside y u)) inside).not_wildcard

    coded : (y : Name) → unfound_name (inquiry z q) q.name ≡ Some y → is_at_or_above z.origin y ≡ true → r.code ≡ cond (is_there z.sets y) code.NoError code.NXDomain
    coded y u inside = response.1.code ∙ as_found.1.unfound y u inside

    agrees : (reply : Reply) → r.answers ≡ map (as_it_is (part_for q.signed)) (answer_sets_of reply)
        → ((d : NegativeAnswer) → reply ≡ negative d → (unfound_name (inquiry z q) q.name ≡ Some q.name) × (d ≡ negative_answer z.origin z.sets q.name)) → Agrees z q r reply
    agrees reply answers denied = record {
      answers = answers;
      denied = denied;
      unfound = λ y u inside owner. coded y u inside ∙ by_there y inside owner (not_wildcard y u inside) (is_there m y) refl;
      name_error = λ y u e. let inside = within y e in coded y u inside ∙ ap (λ b. cond b code.NoError code.NXDomain) (gone m y (not_wildcard y u inside) (lost y (is_present m y) refl e));
      no_error = λ out. response.1.code ∙ as_found.1.others out;
    }
      where
        lost : (y : Name) (b : Bool) → is_present m y ≡ b → negative_answer z.origin m y ≡ nx_domain → b ≡ false
        lost y false f e = refl
        lost y true f e = let p : name_exists ≡ nx_domain = sym (ap (λ b. cond b name_exists (absent z.origin y)) f) ∙ e in absurd cc

        within : (y : Name) → negative_answer z.origin m y ≡ nx_domain → is_at_or_above z.origin y ≡ true
        within y e = by (is_present m y) (is_at_or_above z.origin y) refl e
          where
            by : (b c : Bool) → is_at_or_above z.origin y ≡ c → cond b name_exists (cond c nx_domain refused) ≡ nx_domain → c ≡ true
            by true c f e = absurd cc
            by false true f e = refl
            by false false f e = absurd cc

        by_there : (y : Name) → is_at_or_above z.origin y ≡ true → IsNoDenialOwner m y → (exists m y ≡ false → is_wildcard y ≡ false) → (b : Bool) → is_there m y ≡ b
            → cond (is_there m y) code.NoError code.NXDomain ≡ code_of (negative_answer z.origin m y)
        by_there y inside owner plain true f =
            ap (λ b. cond b code.NoError code.NXDomain) f
            ∙ sym (ap (λ b. code_of (cond b name_exists (absent z.origin y))) (there_alike m y plain owner ∙ f))
        by_there y inside owner plain false f =
            ap (λ b. cond b code.NoError code.NXDomain) f
            ∙ sym (λ i. code_of (cond ((there_alike m y plain owner ∙ f) i) name_exists (cond (inside i) nx_domain refused)))

    module _ (sign : RRset → List Record) (stand_ins : StandInsLead sign (inquiry z q) q.name) (reply : Reply) where
      -- a set that stands for no addresses isn't flattened
      stays : (s : RRset) (last : Option RRset) → stands_for_addresses q.record_type s ≡ false → alone sign q.record_type s last ≡ s
      stays s None e = refl
      stays s (Some l) e = ap (λ b. cond b (flattened sign s q.record_type l) s) e

      section : (s : RRset) (more : List RRset) (b : Bool) → is_followed q.record_type s ≡ b
          → answer_section sign m q.signed x q.record_type s more ≡ cond b (chained (chain m q.signed x s q.record_type)) (one_set (alone sign q.record_type s (last_set more)))
      section s more b e = ap (λ b. cond b (chained (chain m q.signed x s q.record_type)) (one_set (alone sign q.record_type s (last_set more)))) e

      says : (o : Option RRset) → found m q.signed x q.record_type ≡ o → IsReplyFor sign z.origin m q.signed x q.record_type reply
          → MatchOption o (reply ≡ negative (negative_answer z.origin m x)) (λ s. IsAnswer sign m q.signed x q.record_type s reply)
      says o e h = subst (λ (o : Option RRset). MatchOption o (reply ≡ negative (negative_answer z.origin m x)) (λ s. IsAnswer sign m q.signed x q.record_type s reply)) e h

      -- a reply with sets
      with_sets : (answers : Answers) (s : RRset) → (a : IsAnswer sign m q.signed x q.record_type s reply) → answer_section sign m q.signed x q.record_type s a.more ≡ answers
          → r.answers ≡ map (as_it_is (part_for q.signed)) (sets_of answers) → Agrees z q r reply
      with_sets answers s a is same =
          let more = beside q.record_type (last_set (answer_sets m q.signed x q.record_type s)) a.more in
          subst (Agrees z q r) (sym (a.sections ∙ ap (λ w. answered w (beside q.record_type (last_set (answer_sets m q.signed x q.record_type s)) a.more)) is))
          (agrees (answered answers (beside q.record_type (last_set (answer_sets m q.signed x q.record_type s)) a.more)) same (λ d e. absurd cc))

      -- the addresses of a stand-in are those that a lookup has, which signs them alike
      goes_out : (s v : RRset) (l : Option RRset) → last_set (target_sets m q.signed x q.record_type s) ≡ l → stands_for_addresses q.record_type s ≡ true → AreOfLast (inquiry z q) x s v
          → (q.signed ≡ true → sign (record v { signatures = [] }) ≡ z.sign q.signed (record v { signatures = [] })) → as_it_is (part_for q.signed) v ≡ as_it_is (part_for q.signed) (alone sign q.record_type s l)
      goes_out s v None e k a alike =
          absurd (true≢false (sym k ∙ ap (λ u. (u == ANAME) && is_address q.record_type) (sym (ap (λ l. (unwrap_or l s).record_type) e) ∙ a.of_type) ∙ no_address q.record_type))
      goes_out s v (Some l) e k a alike =
          ap (as_it_is (part_for q.signed)) made_of ∙ signed_so q.signed (subst (λ u. q.signed ≡ true → sign u ≡ z.sign q.signed u) (ap unsigned made_of) alike)
          ∙ ap (λ b. as_it_is (part_for q.signed) (cond b (flattened sign s q.record_type l) s)) (sym k)
        where
          unsigned : RRset → RRset
          unsigned v = record v { signatures = [] }

          plain : RRset
          plain = unsigned_flattened s q.record_type l

          made_of : v ≡ flattened (z.sign q.signed) s q.record_type l
          made_of = a.is ∙ ap (λ l. flattened (z.sign q.signed) s q.record_type (unwrap_or l s)) e

          signed_so : (b : Bool) → (b ≡ true → sign plain ≡ z.sign q.signed plain) → as_it_is (part_for b) (flattened (z.sign q.signed) s q.record_type l) ≡ as_it_is (part_for b) (flattened sign s q.record_type l)
          signed_so true alike = ap (λ (signatures : List Record). as_it_is part.Signed (record plain { signatures = signatures })) (sym (alike refl))
          signed_so false alike = refl

      -- the sets along the targets of a stand-in are those that a lookup lists
      listed : (s : RRset) (more : List RRset) (o : Option Name) → next_name q.record_type s ≡ o → MatchOption o (more ≡ []) (λ next. AreAdditionals m q.signed x q.record_type next more)
          → more ≡ target_sets m q.signed x q.record_type s
      listed s more None e h = h ∙ without_targets m q.signed x q.record_type s (sym e)
      listed s more (Some from) e h = targets_listed m zone.zone q.signed x q.record_type s from more (sym e) h

      by_answers : IsReplyFor sign z.origin m q.signed x q.record_type reply → PathAnswers (inquiry z q) q.name → Agrees z q r reply
      by_answers h (answers_alone s e f own answers) =
          let a = says (Some s) e h in
          with_sets (one_set s) s a (section s a.more false f ∙ ap one_set (stays s (last_set a.more) own)) (response.1.answers ∙ answers)
      by_answers h (answers_stood_in s v e f k leads answers) =
          let a = says (Some s) e h in
          let found = subst (λ b. AreFrom m q.signed x q.record_type (last_set (cond b (chain m q.signed x s q.record_type) (s ∷ []))) a.more) f a.found in
          let more = listed s a.more (next_name q.record_type s) refl found in
          let w = stand_ins s e k in
          let same : w.made ≡ v = same_addresses w.made v (sym w.leads ∙ leads) in
          with_sets (one_set (alone sign q.record_type s (last_set a.more))) s a (section s a.more false f)
          (response.1.answers ∙ answers
          ∙ ap (λ v. v ∷ [])
          (goes_out s v (last_set a.more) (ap last_set (sym more)) k (addresses_of_last (inquiry z q) x s v leads)
          (subst (λ v. q.signed ≡ true → sign (record v { signatures = [] }) ≡ z.sign q.signed (record v { signatures = [] })) same w.alike)))
        where
          same_addresses : (a b : RRset) → addresses a ≡ addresses b → a ≡ b
          same_addresses a b e = cc
      by_answers h (answers_along s e f answers) =
          let a = says (Some s) e h in
          with_sets (chained (chain m q.signed x s q.record_type)) s a (section s a.more true f) (response.1.answers ∙ answers)
      by_answers h (answers_none e answers) =
          subst (Agrees z q r) (sym (says None e h))
          (agrees (negative (negative_answer z.origin m x)) (response.1.answers ∙ answers) (λ d e'. (unfound_by (inquiry z q) zone query.record_type q.name query.inside None e, same (negative_answer z.origin m x) d e')))
        where
          same : (d c : NegativeAnswer) → negative d ≡ negative c → c ≡ d
          same d c e = cc

pub responses_agree : ResponsesAgree IsResponse
responses_agree sign z q r reply zone query stand_ins provable is says = by (found z.sets q.signed q.name q.record_type) refl
  where
    y : Inquiry
    y = inquiry z q

    agrees_by : PathAnswers y q.name × PathEnds y q.name → Agrees z q r reply
    agrees_by as_found =
        by_answers z q r zone query provable is as_found sign stand_ins reply
        (subst (λ t. IsReplyFor sign z.origin z.sets q.signed q.name t reply) (searched_by z.sets q.name q.record_type (differs q.record_type ANY query.record_type.one)) says)
        as_found.0

    -- where none stands in at the name
    flat : NoStandIn y q.name → (n : Name) → In n (searched_names y q.name) → IsAlike y n
    flat none n i inside = (query.names n c inside, either (name_eq n q.name) refl)
      where
        c : Contains (searched_names y q.name) n
        c = In-Contains n (searched_names y q.name) i

        either : (b : Bool) → name_eq n q.name ≡ b → NoStandIn y n
        either true e = subst (NoStandIn y) (sym ((name_eq-Decides n q.name).0 e)) none
        either false e = query.addresses n c (λ same. true≢false (sym ((name_eq-Decides n q.name).1 same) ∙ e))

    without : NoStandIn y q.name → Agrees z q r reply
    without none = agrees_by (path_answers_as_found y zone query.record_type q.name query.inside (flat none))

    with_set : (s : RRset) → found z.sets q.signed q.name q.record_type ≡ Some s → (b : Bool) → stands_for_addresses q.record_type s ≡ b → Agrees z q r reply
    with_set s e true k =
        let w = stand_ins s e k in
        let ordinary = query.names q.name (In-Contains q.name (searched_names y q.name) (itself y zone query.record_type q.name query.inside)) query.inside in
        agrees_by (path_stood_in y zone query.record_type q.name query.inside ordinary s w.made e k w.leads w.proved)
    with_set s e false k = without (λ v h. let both : Some s ≡ Some v = sym e ∙ h in let same : s ≡ v = cc in ap (stands_for_addresses q.record_type) (sym same) ∙ k)

    by : (o : Option RRset) → found z.sets q.signed q.name q.record_type ≡ o → Agrees z q r reply
    by None e = without (λ v h. let both : None ≡ Some v = sym e ∙ h in absurd cc)
    by (Some s) e = with_set s e (stands_for_addresses q.record_type s) refl
