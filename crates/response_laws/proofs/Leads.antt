-- Which set of a step leads on to another name, as it is in the answer section
use Rattle.std.proofs.Common.{◌≡◌, ◌≢◌, ℕ, Bool, true, false, cond, not, ◌&&◌, ◌||◌, List, [], ◌∷◌, map, refl, sym, ap, ◌∙◌, true≢false, eqb-true, eq-eqb}
use Rattle.std.specs.Prelude.{Option, Some, None, filter, is_some, option_and_then, unwrap_or, ◌==◌}
use Rattle.std.specs.List.{All}
use Rattle.std.specs.Option.{option_or}
use Rattle.std.specs.Ordering.{nat_cmp}
use Rattle.std.proofs.lemmas.List.Elements.{All-head}
use Rattle.zone_proto.specs.declared.rdata.RData.{RData}
use Rattle.zone_proto.specs.declared.rdata.RData.TheVariants as V
use Rattle.zone_proto.specs.declared.record.Record.{Record}
use Rattle.zone_proto.specs.Data.{type_of}
use Rattle.zone_proto.specs.Names.{Name, name_cmp, lower, same_name, is_above}
use Rattle.zone_proto.specs.NameLaws.{caseless_eq_equiv}
use Rattle.zone_proto.specs.Order.{least}
use Rattle.zone_proto.specs.Sets.{RRset, record_under}
use Rattle.zone_proto.specs.Types.{A, CNAME, RRSIG, NSEC3, ANY, has_own_case, DNAME}
use Rattle.zone_proto.proofs.Members.{In-from_filter}
use Rattle.zone_proto.proofs.Names.Lower.{lower-lower}
use Rattle.zone_proto.proofs.Names.NameTree.{above_test, above_is_less}
use Rattle.zone_proto.proofs.Names.Tree.{name_order}
use Rattle.zone_proto.proofs.Ordering.KeyOrder.{equal_of}
use Rattle.zone_proto.proofs.Ordering.Orders.{irrefl, number_order, has_greatest, greatest_is}
use Rattle.zone_map.specs.AnyTypes.{preferred_types, any_type}
use Rattle.zone_map.specs.Chains.{alias_target, first_target, cname_target}
use Rattle.zone_map.specs.Direct.{least_owned}
use Rattle.zone_map.specs.Zones.{Sets, set_at, owns, types_at, IsStoredAt}
use Rattle.zone_map.proofs.Owned.{type_in, type_owned}
use Rattle.zone_map.proofs.Upserting.{same_from_lower}
use Rattle.zone_denial.proofs.InOrder.{flipped}
use Rattle.zone_response.specs.declared.response.Part.{Part}
use Rattle.zone_response.specs.declared.response.Part.TheVariants as part
use Rattle.zone_response.specs.Nodes.{chosen_type, if_signed, asked_set}
use Rattle.zone_response.specs.Sections.{with_ttl, sent, as_it_is, part_for, is_signed}
use Rattle.zone_response.specs.Steps.{as_found_for, own_part}
use Rattle.response_laws.specs.Sayings.{asks_alias, leads_to, is_of, renames, is_answer}

-- ---- the target of an alias, as it is sent

target_with_ttl : (ttl : ℕ) (rs : List Record) → first_target (map (with_ttl ttl) rs) ≡ first_target rs
target_with_ttl ttl [] = refl
target_with_ttl ttl (r ∷ rs) = refl

pub target_under : (n : Name) (ttl : ℕ) (rs : List Record) → first_target (map (record_under n ttl) rs) ≡ first_target rs
target_under n ttl [] = refl
target_under n ttl (r ∷ rs) = refl

pub sent_target : (signed : Bool) (s : RRset) → cname_target (as_it_is (part_for signed) s) ≡ cname_target s
sent_target true s = target_with_ttl s.ttl s.records
sent_target false s = target_with_ttl s.ttl s.records

pub made_target : (keep : Bool) (wildcard_name : Option Name) (x : Name) (s : RRset) → cname_target (as_found_for keep wildcard_name x s) ≡ cname_target s
made_target keep None x s = refl
made_target keep (Some wildcard_name) x s = target_under x s.ttl s.records

pub sent_owner : (p : Part) (ttl : ℕ) (s : RRset) → (sent p ttl s).owner ≡ s.owner
sent_owner part.Records ttl s = refl
sent_owner part.Signed ttl s = refl
sent_owner part.Signatures ttl s = refl

pub sent_type : (p : Part) (ttl : ℕ) (s : RRset) → (sent p ttl s).record_type ≡ s.record_type
sent_type part.Records ttl s = refl
sent_type part.Signed ttl s = refl
sent_type part.Signatures ttl s = refl

pub made_type : (keep : Bool) (wildcard_name : Option Name) (x : Name) (s : RRset) → (as_found_for keep wildcard_name x s).record_type ≡ s.record_type
made_type keep None x s = refl
made_type keep (Some wildcard_name) x s = refl

-- names that are the same are so in lower case
pub same_in_lower : (n x : Name) → same_name n x ≡ true → lower n ≡ lower x
same_in_lower n x h = name_order.exact (lower n) (lower x) (equal_of (name_cmp (lower n) (lower x)) h)

-- no name is above one that is the same
not_above : (n x : Name) → same_name n x ≡ true → is_above (lower n) (lower x) ≡ false
not_above n x h = ap (λ k. is_above k (lower x)) (same_in_lower n x h) ∙ by (is_above (lower x) (lower x)) refl
  where
    by : (b : Bool) → is_above (lower x) (lower x) ≡ b → b ≡ false
    by false e = refl
    by true e = absurd (irrefl name_order (lower x) (above_is_less (lower x) (lower x) ((above_test (lower x) (lower x)).0 e)))

-- a set that x owns isn't of a name above it
pub stays_by_owner : (x : Name) (r : RRset) → same_name r.owner x ≡ true → renames x r ≡ false
stays_by_owner x r h = by (is_of DNAME r) (is_above (lower r.owner) (lower x)) (not_above r.owner x h)
  where
    by : (b c : Bool) → c ≡ false → b && c ≡ false
    by true c f = f
    by false c f = refl

-- one without a target leads nowhere
pub leads_nowhere : (t : ℕ) (x : Name) (r : RRset) → cname_target r ≡ None → leads_to t x r ≡ None
leads_nowhere t x r h = by (asks_alias t || not (same_name r.owner x)) h
  where
    by : (b : Bool) → cname_target r ≡ None → cond b None (cname_target r) ≡ None
    by true h = refl
    by false h = h

-- a set of another type has none
not_alias : (d : RData) → (type_of d == CNAME) ≡ false → alias_target d ≡ None
not_alias (V.CNAME n) e = absurd (true≢false e)
not_alias d e = refl

pub no_target : (a : Name) (t : ℕ) (s : RRset) → IsStoredAt a t s → (t == CNAME) ≡ false → cname_target s ≡ None
no_target a t s stored other = by s.records stored.set.types
  where
    by : (rs : List Record) → All (λ (r : Record). type_of r.rdata ≡ s.record_type) rs → first_target rs ≡ None
    by [] h = refl
    by (r ∷ rs) h = not_alias r.rdata (ap (λ u. u == CNAME) (All-head (λ (r : Record). type_of r.rdata ≡ s.record_type) r rs h ∙ stored.record_type) ∙ other)

-- a CNAME set has one
alias_data : (d : RData) → (type_of d == CNAME) ≡ true → (n : Name) × (alias_target d ≡ Some n)
alias_data (V.CNAME n) e = (lower n, refl)
alias_data (V.Other a) e = absurd (true≢false (sym (ap has_own_case (eqb-true a.record_type.0 CNAME e)) ∙ a.other))
alias_data _ e = absurd (true≢false (sym e))

pub has_target : (a : Name) (s : RRset) → IsStoredAt a CNAME s → (n : Name) × (cname_target s ≡ Some n)
has_target a s stored = by s.records stored.filled stored.set.types
  where
    by : (rs : List Record) → rs ≢ [] → All (λ (r : Record). type_of r.rdata ≡ s.record_type) rs → (n : Name) × (first_target rs ≡ Some n)
    by [] some h = absurd (some refl)
    by (r ∷ rs) some h = alias_data r.rdata (ap (λ u. u == CNAME) (All-head (λ (r : Record). type_of r.rdata ≡ s.record_type) r rs h ∙ stored.record_type))

-- which is in lower case
lowered_data : (d : RData) (n : Name) → alias_target d ≡ Some n → lower n ≡ n
lowered_data (V.CNAME k) n e = let same : lower k ≡ n = cc in ap lower (sym same) ∙ lower-lower k ∙ same
lowered_data d n e = absurd cc

pub lowered_target : (s : RRset) (n : Name) → cname_target s ≡ Some n → lower n ≡ n
lowered_target s n = by s.records
  where
    by : (rs : List Record) → first_target rs ≡ Some n → lower n ≡ n
    by [] e = absurd cc
    by (r ∷ rs) e = lowered_data r.rdata n e

-- ---- the set that is asked for

any_owned : (m : Sets) (n : Name) (t : ℕ) → owns m n t ≡ true → owns m n (any_type m n) ≡ true
any_owned m n t h = by (least_owned m n preferred_types) refl
  where
    by : (o : Option ℕ) → least_owned m n preferred_types ≡ o → owns m n (unwrap_or (option_or o (least nat_cmp (types_at m n))) A) ≡ true
    by None e =
        let g = has_greatest (flipped number_order) (types_at m n) t (type_in m n t h) in
        ap (λ o. owns m n (unwrap_or o A)) g.1 ∙ type_owned m n g.0 g.2.among
    by (Some u) e = (In-from_filter (owns m n) u preferred_types (greatest_is (flipped number_order) (filter (owns m n) preferred_types) u e).among).1

-- a name that owns anything answers a question of any type
pub any_answered : (m : Sets) (a : Name) (u : ℕ) → owns m a u ≡ true → asked_set m a ANY ≡ None → ⊥
any_answered m a u k e = by (set_at m a (any_type m a)) (any_owned m a u k) e
  where
    by : (o : Option RRset) → is_some o ≡ true → option_and_then (if_signed ANY) o ≡ None → ⊥
    by (Some s) k e = cc
    by None k e = true≢false (sym k)

module _ (m : Sets) (a : Name) (t : ℕ) where
  -- where an alias is followed, it isn't what is asked for
  pub follows : (s : RRset) → asked_set m a t ≡ None → set_at m a CNAME ≡ Some s → asks_alias t ≡ false
  follows s none alias = by (t == CNAME) refl (t == ANY) refl
    where
      own : asked_set m a CNAME ≡ Some s
      own = ap (option_and_then (if_signed CNAME)) alias

      by : (b : Bool) → (t == CNAME) ≡ b → (c : Bool) → (t == ANY) ≡ c → b || c ≡ false
      by true e c f = let p : None ≡ Some s = sym none ∙ ap (asked_set m a) (eqb-true t CNAME e) ∙ own in absurd cc
      by false e true f = absurd (any_answered m a CNAME (ap is_some alias) (sym (ap (asked_set m a) (eqb-true t ANY f)) ∙ none))
      by false e false f = refl

  -- what is asked for is the set of the chosen type
  pub asked_stands : (s : RRset) → asked_set m a t ≡ Some s → set_at m a (chosen_type m a t) ≡ Some s
  asked_stands s e = by (t == NSEC3) (set_at m a (chosen_type m a t)) refl e
    where
      same : (v : RRset) → if_signed t v ≡ Some s → v ≡ s
      same v q = cases (t == RRSIG) (is_signed v) q
        where
          cases : (b c : Bool) → cond b (cond c (Some v) None) (Some v) ≡ Some s → v ≡ s
          cases true true q = cc
          cases true false q = absurd cc
          cases false c q = cc

      by : (b : Bool) (o : Option RRset) → set_at m a (chosen_type m a t) ≡ o → cond b None (option_and_then (if_signed t) o) ≡ Some s → o ≡ Some s
      by true o f q = absurd cc
      by false None f q = absurd cc
      by false (Some v) f q = ap Some (same v q)

-- ---- what leads on

module _ (m : Sets) (stored : (a : Name) (t : ℕ) (s : RRset) → set_at m a t ≡ Some s → IsStoredAt a t s) (signed : Bool) (t : ℕ) where
  -- a set that is found for x is owned by it
  pub found_owner : (keep : Bool) (wildcard_name : Option Name) (x a : Name) (s : RRset) → (wildcard_name ≡ None → a ≡ x) → lower s.owner ≡ a → same_name (as_found_for keep wildcard_name x s).owner x ≡ true
  found_owner keep None x a s here e = same_from_lower s.owner x (sym (lower-lower s.owner) ∙ ap lower (e ∙ here refl))
  found_owner keep (Some wildcard_name) x a s here e = caseless_eq_equiv.refl x

  module _ (keep : Bool) (wildcard_name : Option Name) (x a : Name) (here : wildcard_name ≡ None → a ≡ x) (s : RRset) where
    -- it isn't of a name above x
    pub found_stays : (p : Part) (u : ℕ) → set_at m a u ≡ Some s → renames x (as_it_is p (as_found_for keep wildcard_name x s)) ≡ false
    found_stays p u e =
        stays_by_owner x (as_it_is p own) (ap (λ n. same_name n x) (sent_owner p own.ttl own) ∙ found_owner keep wildcard_name x a s here (stored a u s e).owner)
      where
        own : RRset
        own = as_found_for keep wildcard_name x s

    -- an alias leads to its target
    pub alias_leads : asked_set m a t ≡ None → set_at m a CNAME ≡ Some s → leads_to t x (as_it_is (part_for signed) (as_found_for keep wildcard_name x s)) ≡ cname_target s
    alias_leads none alias =
        (λ i. cond (follows m a t s none alias i || not (owned i)) None (cname_target (as_it_is (part_for signed) (as_found_for keep wildcard_name x s))))
        ∙ sent_target signed (as_found_for keep wildcard_name x s) ∙ made_target keep wildcard_name x s
      where
        owned : same_name (as_it_is (part_for signed) (as_found_for keep wildcard_name x s)).owner x ≡ true
        owned = ap (λ n. same_name n x) (sent_owner (part_for signed) (as_found_for keep wildcard_name x s).ttl (as_found_for keep wildcard_name x s)) ∙ found_owner keep wildcard_name x a s here (stored a CNAME s alias).owner

    -- what is asked for leads nowhere
    pub own_leads : asked_set m a t ≡ Some s → leads_to t x (as_it_is (own_part signed t) (as_found_for keep wildcard_name x s)) ≡ None
    own_leads e = by (t == CNAME) refl (t == ANY) refl (t == RRSIG) refl
      where
        own : RRset
        own = as_found_for keep wildcard_name x s

        asked : (b c : Bool) (o : Option Name) → o ≡ None → cond (b || c) None o ≡ None
        asked true c o f = refl
        asked false true o f = refl
        asked false false o f = f

        plain : (t == CNAME) ≡ false → (t == ANY) ≡ false → (t == RRSIG) ≡ false → cname_target s ≡ None
        plain one any signature =
            no_target a t s
            (stored a t s (sym (λ i. set_at m a (cond (any i || signature i) (any_type m a) t)) ∙ asked_stands m a t s e)) one

        by : (b : Bool) → (t == CNAME) ≡ b → (c : Bool) → (t == ANY) ≡ c → (d : Bool) → (t == RRSIG) ≡ d
            → cond ((b || c) || not (same_name (as_it_is (cond d part.Signatures (part_for signed)) own).owner x)) None (cname_target (as_it_is (cond d part.Signatures (part_for signed)) own)) ≡ None
        by true f c g d h = refl
        by false f true g d h = refl
        by false f false g true h = asked false (not (same_name own.owner x)) None refl
        by false f false g false h =
            asked false (not (same_name (as_it_is (part_for signed) own).owner x)) (cname_target (as_it_is (part_for signed) own))
            (sent_target signed own ∙ made_target keep wildcard_name x s ∙ plain f g h)

    pub own_answers : asked_set m a t ≡ Some s → is_answer t x (as_it_is (own_part signed t) (as_found_for keep wildcard_name x s)) ≡ true
    own_answers e = λ i. owned i && typed i
      where
        own : RRset
        own = as_found_for keep wildcard_name x s

        stands : IsStoredAt a (chosen_type m a t) s
        stands = stored a (chosen_type m a t) s (asked_stands m a t s e)

        owned : same_name (as_it_is (own_part signed t) own).owner x ≡ true
        owned = ap (λ n. same_name n x) (sent_owner (own_part signed t) own.ttl own) ∙ found_owner keep wildcard_name x a s here stands.owner

        by : (b c : Bool) (u : ℕ) → (b || c ≡ false → u ≡ t) → (u == t) || b || c ≡ true
        by true c u same = any_or (u == t)
          where
            any_or : (k : Bool) → k || true || c ≡ true
            any_or true = refl
            any_or false = refl
        by false true u same = any_or (u == t)
          where
            any_or : (k : Bool) → k || false || true ≡ true
            any_or true = refl
            any_or false = refl
        by false false u same = ap (λ k. k || false || false) (eq-eqb u t (same refl))

        typed : is_of t (as_it_is (own_part signed t) own) || (t == ANY) || (t == RRSIG) ≡ true
        typed =
            ap (λ u. (u == t) || (t == ANY) || (t == RRSIG)) (sent_type (own_part signed t) own.ttl own ∙ made_type keep wildcard_name x s ∙ stands.record_type)
            ∙ by (t == ANY) (t == RRSIG) (chosen_type m a t) (λ k. ap (λ b. cond b (any_type m a) t) k)
