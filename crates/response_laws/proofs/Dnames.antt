-- The DNAME sets of an answer section are the zone's, and the CNAME that one makes leads on
use Rattle.std.proofs.Common.{◌≡◌, ℕ, Bool, true, false, cond, ◌&&◌, ◌||◌, not, List, [], ◌∷◌, ◌++◌, map, refl, sym, ap, ◌∙◌, subst, true≢false, ◌⊎◌, inl, inr, eqb-true}
use Rattle.std.specs.Prelude.{Some, None, nat_lt, ◌==◌}
use Rattle.std.specs.List.{list_any}
use Rattle.std.proofs.lemmas.List.{map-append}
use Rattle.zone_proto.specs.declared.record.Record.{Record}
use Rattle.zone_proto.specs.NameLaws.{caseless_eq_equiv}
use Rattle.zone_proto.specs.Names.{Name, lower_label, lower, name_eq, same_name, is_above, IsAbove, wire_length}
use Rattle.zone_proto.specs.Sets.{RRset}
use Rattle.zone_proto.proofs.Members.{In, In-from_any, In-from_append, In-append_left, In-append_right, and_left, and_right}
use Rattle.zone_proto.proofs.Names.Lower.{lower-lower}
use Rattle.zone_proto.proofs.Names.NameTree.{name_eq-Decides, above_test}
use Rattle.zone_proto.proofs.Names.Tree.{above_cases}
use Rattle.zone_proto.specs.Types.{RRSIG, DNAME}
use Rattle.zone_map.specs.Zones.{set_at, IsZone}
use Rattle.zone_response.specs.declared.response.Part.TheVariants as part
use Rattle.zone_response.specs.Paths.{is_sought}
use Rattle.zone_response.specs.Queries.{Inquiry}
use Rattle.zone_response.specs.Dname.{only_target, dname_target, unless_long, synthesized_alias}
use Rattle.zone_response.specs.Sections.{with_ttl, as_it_is, part_for, is_signed, is_alike, unless_among}
use Rattle.zone_response.specs.Descent.{renaming, diversion}
use Rattle.response_laws.specs.Sayings.{asks_alias, is_of, renames, leads_to, last_name}
use Rattle.response_laws.proofs.Leads.{same_in_lower, sent_owner, sent_type}
use Rattle.response_laws.proofs.Passages.{passed_over}
use Rattle.response_laws.proofs.Stepped.{IsUndiverted}
use Rattle.response_laws.proofs.Turned.{turned_first, renaming_set, renaming_uncut, renaming_unturned}

-- ---- a set as it is sent

target_with_ttl : (ttl : ℕ) (rs : List Record) → only_target (map (with_ttl ttl) rs) ≡ only_target rs
target_with_ttl ttl [] = refl
target_with_ttl ttl (r ∷ []) = refl
target_with_ttl ttl (r ∷ (k ∷ rs)) = refl

pub sent_dname_target : (s : RRset) → dname_target (as_it_is part.Signed s) ≡ dname_target s
sent_dname_target s = target_with_ttl s.ttl s.records

-- a name that isn't too long is the name itself
pub short_is : (n k : Name) → unless_long n ≡ Some k → k ≡ n
short_is n k = by (nat_lt 255 (wire_length n))
  where
    by : (b : Bool) → cond b None (Some n) ≡ Some k → k ≡ n
    by true e = absurd cc
    by false e = cc

module _ (q : Inquiry) where
  abbrev t : ℕ
  t = q.record_type

  abbrev pub sent_dname : RRset → RRset
  sent_dname s = as_it_is (part_for q.signed) s

  -- the DNAME set of a name of the zone that nothing turns, as it is sent
  pub record IsSentDname (r : RRset) : Type 0 where
    pub name : Name
    pub stored : RRset
    pub stands : set_at q.sets name DNAME ≡ Some stored
    pub sent : r ≡ as_it_is (part_for q.signed) stored
    pub unturned : IsUndiverted q name

  abbrev pub AreDnames : List RRset → Type 0
  AreDnames sets = (r : RRset) → In r sets → r.record_type ≡ DNAME → IsSentDname r

  pub both_dnames : (a b : List RRset) → AreDnames a → AreDnames b → AreDnames (a ++ b)
  both_dnames a b h k r i e = by (In-from_append r a b i)
    where
      by : In r a ⊎ In r b → IsSentDname r
      by (inl u) = h r u e
      by (inr u) = k r u e

  -- ---- above a name

  -- the DNAME set of a name above x
  pub record IsAboveBy (x : Name) (s : RRset) : Type 0 where
    pub name : Name
    pub stands : set_at q.sets name DNAME ≡ Some s
    pub owner : lower s.owner ≡ name
    pub type' : s.record_type ≡ DNAME
    pub above : IsAbove name x
    pub unturned : IsUndiverted q name

  module _ (zone : IsZone q.sets) where
    pub turned_by : (x : Name) (s : RRset) → diversion q.origin q.sets x q.record_type ≡ Some (renaming s) → IsAboveBy x s
    turned_by x s e =
        let f = turned_first q.origin q.sets x t (renaming s) e in
        let r = renaming_set q.origin q.sets x t f.name s f.turns in
        let stored = zone.stored f.name DNAME s r.1 in
        record {
          name = f.name;
          stands = r.1;
          owner = stored.owner;
          type' = stored.record_type;
          above = by f.name r.0 (above_cases f.name x f.above);
          unturned = record { inside = (renaming_uncut q.origin q.sets x t f.name s f.turns).0; unturned = renaming_unturned q.origin q.sets x t s f };
        }
      where
        by : (n : Name) → name_eq n x ≡ false → (n ≡ x) ⊎ IsAbove n x → IsAbove n x
        by n other (inl same) = absurd (true≢false (sym ((name_eq-Decides n x).1 same) ∙ other))
        by n other (inr u) = u

    -- the owner of one that is sent
    sent_name : (r : RRset) (h : IsSentDname r) → h.name ≡ lower r.owner
    sent_name r h =
        sym (zone.stored h.name DNAME h.stored h.stands).owner
        ∙ ap lower (sym (sent_owner (part_for q.signed) h.stored.ttl h.stored)) ∙ ap (λ (v : RRset). lower v.owner) (sym h.sent)

    -- a name of which one of them tells what is asked for turns nothing
    pub told_unturned : (sets : List RRset) → AreDnames sets → (x : Name) → list_any (is_sought t x) sets ≡ true → IsUndiverted q x
    told_unturned sets dnames x e =
        let r = In-from_any (is_sought t x) sets e in
        let dname : Bool = r.0.record_type == DNAME in
        let owned : Bool = name_eq (lower r.0.owner) x in
        let both = and_left (dname && owned) ((t == DNAME) || (t == RRSIG) && is_signed r.0) r.2 in
        let h = dnames r.0 r.1 (eqb-true r.0.record_type DNAME (and_left dname owned both)) in
        subst (IsUndiverted q) (sent_name r.0 h ∙ (name_eq-Decides (lower r.0.owner) x).0 (and_right dname owned both)) h.unturned

    -- of two that are sent, alike are the same
    same_dname : (x : Name) (s r : RRset) → IsAboveBy x s → IsSentDname r → same_name r.owner (sent_dname s).owner ≡ true → r ≡ sent_dname s
    same_dname x s r a h alike =
        h.sent ∙ ap (λ v. as_it_is (part_for q.signed) v) (same h.stored s (sym h.stands ∙ ap (λ n. set_at q.sets n DNAME) names ∙ a.stands))
      where
        same : (v w : RRset) → Some v ≡ Some w → v ≡ w
        same v w e = cc

        owners : lower r.owner ≡ lower (sent_dname s).owner
        owners = same_in_lower r.owner (sent_dname s).owner alike

        names : h.name ≡ a.name
        names = sent_name r h ∙ owners ∙ ap lower (sent_owner (part_for q.signed) s.ttl s) ∙ a.owner

    -- the set is in the answer then
    pub stands_among : (before more : List RRset) (x : Name) (s : RRset) → AreDnames before → IsAboveBy x s → In (sent_dname s) (before ++ (unless_among before (sent_dname s) ++ more))
    stands_among before more x s dnames a = by (list_any (is_alike (sent_dname s)) before) refl
      where
        is_dname : (r : RRset) → is_alike (sent_dname s) r ≡ true → r.record_type ≡ DNAME
        is_dname r e =
            eqb-true r.record_type (sent_dname s).record_type (and_left (r.record_type == (sent_dname s).record_type) (same_name r.owner (sent_dname s).owner) e)
            ∙ sent_type (part_for q.signed) s.ttl s ∙ a.type'

        by : (b : Bool) → list_any (is_alike (sent_dname s)) before ≡ b → In (sent_dname s) (before ++ (cond b [] (sent_dname s ∷ []) ++ more))
        by true e =
            let r = In-from_any (is_alike (sent_dname s)) before e in
            let alike = and_right (r.0.record_type == (sent_dname s).record_type) (same_name r.0.owner (sent_dname s).owner) r.2 in
            In-append_left (sent_dname s) before more
            (subst (λ v. In v before) (same_dname x s r.0 a (dnames r.0 r.1 (is_dname r.0 r.2)) alike) r.1)
        by false e = In-append_right (sent_dname s) before (sent_dname s ∷ more) (inl refl)

  pub in_unless : (before : List RRset) (r v : RRset) → In v (unless_among before r) → v ≡ r
  in_unless before r v = by (list_any (is_alike r) before)
    where
      by : (b : Bool) → In v (cond b [] (r ∷ [])) → v ≡ r
      by true i = absurd i
      by false (inl e) = sym e
      by false (inr i) = absurd i

  -- ---- what leads on

  -- a DNAME set above x is passed over
  module _ (x : Name) (s : RRset) (a : IsAboveBy x s) where
    is_above_x : renames x (sent_dname s) ≡ true
    is_above_x = λ i. typed i && above i
      where
        typed : is_of DNAME (sent_dname s) ≡ true
        typed = ap (λ u. u == DNAME) (sent_type (part_for q.signed) s.ttl s ∙ a.type')

        above : is_above (lower (sent_dname s).owner) (lower x) ≡ true
        above =
            ap (λ n. is_above (lower n) (lower x)) (sent_owner (part_for q.signed) s.ttl s)
            ∙ (above_test (lower s.owner) (lower x)).1
            (lower_label a.above.0, lower a.above.1, ap lower a.above.2 ∙ map-append lower_label (a.above.0 ∷ a.above.1) a.name ∙ ap (λ n. lower (a.above.0 ∷ a.above.1) ++ lower n) (sym a.owner) ∙ ap (λ n. lower (a.above.0 ∷ a.above.1) ++ n) (lower-lower s.owner))

    pub passed : (before more : List RRset) → last_name t x (unless_among before (sent_dname s) ++ more) ≡ last_name t x more
    passed before more = by (list_any (is_alike (sent_dname s)) before)
      where
        by : (b : Bool) → last_name t x (cond b [] (sent_dname s ∷ []) ++ more) ≡ last_name t x more
        by true = refl
        by false = passed_over t x (sent_dname s) more is_above_x

  -- the CNAME that it makes leads on, unless it is what is asked for
  pub alias_leads : (x n : Name) (s : RRset) → asks_alias t ≡ false → leads_to t x (synthesized_alias s x n) ≡ Some (lower n)
  alias_leads x n s e = λ i. cond (e i || not (caseless_eq_equiv.refl x i)) None (Some (lower n))

  pub alias_stays : (x n : Name) (s : RRset) → asks_alias t ≡ true → leads_to t x (synthesized_alias s x n) ≡ None
  alias_stays x n s e = λ i. cond (e i || not (caseless_eq_equiv.refl x i)) None (Some (lower n))
