-- What an ANAME set stands for, as it is sent
use Rattle.std.proofs.Common.{◌≡◌, ℕ, ◌≤◌, Bool, true, false, cond, ◌&&◌, ◌||◌, [], map, refl, sym, ap, ◌∙◌, subst, eqb-true, eq-eqb}
use Rattle.std.specs.Prelude.{Option, Some, None, unwrap_or, ◌==◌}
use Rattle.std.specs.Option.{option_or, option_map_or}
use Rattle.std.proofs.Math.Nat.{min-le_left}
use Rattle.zone_proto.specs.Names.{Name, same_name, is_at_or_above}
use Rattle.zone_proto.specs.Sets.{RRset, record_under}
use Rattle.zone_proto.specs.Types.{RRSIG, ANY, ANAME}
use Rattle.zone_map.specs.Chains.{first_target, cname_target}
use Rattle.zone_map.specs.Direct.{is_address}
use Rattle.zone_map.specs.Zones.{Sets, set_at}
use Rattle.zone_lookup.specs.Additionals.{next_name, run_target}
use Rattle.zone_lookup.specs.Flattening.{last_set, flattened_ttl, flattened}
use Rattle.zone_response.specs.Nodes.{stand_in_set}
use Rattle.zone_response.specs.Queries.{Inquiry}
use Rattle.zone_response.specs.Sections.{as_it_is, part_for}
use Rattle.zone_response.specs.Aname.{target_sets, addresses, no_addresses, untold, at_last_target, by_addresses, stand_in_answer}
use Rattle.zone_response.specs.Descent.{Diversion, diversion}
use Rattle.response_laws.specs.Sayings.{leads_to, renames, is_answer}
use Rattle.response_laws.proofs.Leads.{target_under, sent_target, sent_owner, sent_type, stays_by_owner, leads_nowhere}

-- an ANAME set that stands in is one of the name
pub aname_stands : (m : Sets) (a : Name) (t : ℕ) (s : RRset) → stand_in_set m a t ≡ Some s → set_at m a ANAME ≡ Some s
aname_stands m a t s e = by (is_address t) e
  where
    by : (b : Bool) → cond b (set_at m a ANAME) None ≡ Some s → set_at m a ANAME ≡ Some s
    by true e = e
    by false e = absurd cc

-- the last set along the targets of an ANAME set of x, the set itself where nothing is found
abbrev pub last_of : Inquiry → Name → RRset → RRset
last_of q x s = unwrap_or (last_set (target_sets q.sets q.signed x q.record_type s)) s

-- where it stands for addresses, these are of the last set, which is of their type
pub record AreOfLast (q : Inquiry) (x : Name) (s v : RRset) : Type 0 where
  pub is : v ≡ flattened q.sign s q.record_type (last_of q x s)
  pub of_type : (last_of q x s).record_type ≡ q.record_type
  pub plain : cname_target (last_of q x s) ≡ None

first_none : (o p : Option Name) → option_or o p ≡ None → o ≡ None
first_none None p e = refl
first_none (Some n) p e = absurd cc

pub addresses_of_last : (q : Inquiry) (x : Name) (s v : RRset) → stand_in_answer q x s ≡ addresses v → AreOfLast q x s v
addresses_of_last q x s v e = by (run_target t l) refl e
  where
    t : ℕ
    t = q.record_type

    l : RRset
    l = last_of q x s

    by_place : (b : Bool) (o : Option Diversion) → cond b (option_map_or (λ diversion. untold) o no_addresses) untold ≡ addresses v → ⊥
    by_place true None e = cc
    by_place true (Some k) e = cc
    by_place false o e = cc

    typed : cname_target l ≡ None → (b : Bool) → (l.record_type == t) ≡ b → cond b (addresses (flattened q.sign s t l)) untold ≡ addresses v → AreOfLast q x s v
    typed plain true f e = let same : flattened q.sign s t l ≡ v = cc in record { is = sym same; of_type = eqb-true l.record_type t f; plain = plain }
    typed plain false f e = absurd cc

    by : (o : Option Name) → run_target t l ≡ o → option_map_or (at_last_target q) o (by_addresses q s l) ≡ addresses v → AreOfLast q x s v
    by (Some n) f e = absurd (by_place (is_at_or_above q.origin n) (diversion q.origin q.sets n t) e)
    by None f e = typed (first_none (cname_target l) (next_name t l) f) (l.record_type == t) refl e

-- they have the signatures of the response
pub made_signatures : (q : Inquiry) (x : Name) (s v : RRset) → stand_in_answer q x s ≡ addresses v → v.signatures ≡ q.sign (record v { signatures = [] })
made_signatures q x s v e = subst (λ (v : RRset). v.signatures ≡ q.sign (record v { signatures = [] })) (sym (addresses_of_last q x s v e).is) refl

-- and no greater TTL than the ANAME set
pub made_ttl : (q : Inquiry) (x : Name) (s v : RRset) → stand_in_answer q x s ≡ addresses v → v.ttl ≤ s.ttl
made_ttl q x s v e = subst (λ (v : RRset). v.ttl ≤ s.ttl) (sym (addresses_of_last q x s v e).is) (min-le_left s.ttl (last_of q x s).ttl)

-- ---- the addresses in the answer section

module _ (q : Inquiry) (x : Name) (s v : RRset) (a : AreOfLast q x s v) (owned : same_name s.owner x ≡ true) where
  abbrev sent_addresses : RRset
  sent_addresses = as_it_is (part_for q.signed) v

  pub owned_so : same_name sent_addresses.owner x ≡ true
  owned_so = ap (λ n. same_name n x) (sent_owner (part_for q.signed) v.ttl v ∙ ap (λ (v : RRset). v.owner) a.is) ∙ owned

  pub of_asked_type : sent_addresses.record_type ≡ q.record_type
  of_asked_type = sent_type (part_for q.signed) v.ttl v ∙ ap (λ (v : RRset). v.record_type) a.is

  pub addresses_stay : renames x sent_addresses ≡ false
  addresses_stay = stays_by_owner x sent_addresses owned_so

  pub addresses_lead_nowhere : leads_to q.record_type x sent_addresses ≡ None
  addresses_lead_nowhere =
      leads_nowhere q.record_type x sent_addresses
      (sent_target q.signed v ∙ ap (λ (v : RRset). first_target v.records) a.is ∙ by ((last_of q x s).record_type == q.record_type))
    where
      last : RRset
      last = last_of q x s

      by : (b : Bool) → first_target (cond b (map (record_under s.owner (flattened_ttl s last)) last.records) []) ≡ None
      by true = target_under s.owner (flattened_ttl s last) last.records ∙ a.plain
      by false = refl

  pub addresses_answer : is_answer q.record_type x sent_addresses ≡ true
  addresses_answer = λ i. owned_so i && (typed i || (q.record_type == ANY) || (q.record_type == RRSIG))
    where
      typed : (sent_addresses.record_type == q.record_type) ≡ true
      typed = eq-eqb sent_addresses.record_type q.record_type of_asked_type
