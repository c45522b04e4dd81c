-- Zones that own the same types at the same names get the same denials
use Rattle.std.proofs.Common.{◌≡◌, ℕ, Bool, true, false, cond, List, [], ◌∷◌, refl, sym, ap, ◌∙◌}
use Rattle.std.specs.Prelude.{map, filter, filter_map, flat_map, Option, Some, None, ◌==◌, ◌&&◌, ◌||◌, not, unwrap_or, option_map}
use Rattle.std.specs.List.{cons_option, list_any, list_all}
use Rattle.std.specs.Ordering.{nat_cmp}
use Rattle.std.specs.Map.{keys_of}
use Rattle.zone_proto.specs.declared.rdata.RData.TheVariants as V
use Rattle.zone_proto.specs.declared.rdata.denial.NSEC3PARAM.{NSEC3PARAM as Nsec3Parameters}
use Rattle.zone_proto.specs.HashedOwners.{hashed_owner}
use Rattle.zone_proto.specs.declared.rr_key.RrKey.{RrKey}
use Rattle.zone_proto.specs.Names.{Name, name_eq, name_cmp, is_above, is_at_or_above, proper_ancestors}
use Rattle.zone_proto.specs.Order.{is_before, least}
use Rattle.zone_proto.specs.Types.{NS, NSEC, NSEC3, NSEC3PARAM, RRSIG}
use Rattle.zone_proto.specs.Sets.{RRset}
use Rattle.zone_map.specs.Zones.{Sets, names_of, owners, types_at}
use Rattle.zone_denial.specs.Authority.{is_authoritative, authoritative_names}
use Rattle.zone_denial.specs.NsecSets.{nsec_data, new_set, nsec_set_at}
use Rattle.zone_denial.specs.Nsec3Names.{counted_names}
use Rattle.zone_denial.specs.Nsec3Sets.{HashedName, hashed_names, hashed_cmp, made_record, nsec3_set_at, set_of}
use Rattle.zone_denial.specs.Nsec3Circle.{nsec3_data, nsec3_types, with_rrsig}
use Rattle.zone_denial.specs.Covering.{next_around}
use Rattle.zone_denial.specs.TypeLists.{in_order}

-- names, owners and types by the keys alone
names_in : (m : Sets) → names_of m ≡ map (λ (k : RrKey). k.name) (keys_of m)
names_in [] = refl
names_in (e ∷ es) = ap (λ (ns : List Name). e.0.name ∷ ns) (names_in es)

owners_in : (t : ℕ) (m : Sets) → owners m t ≡ filter_map (λ (k : RrKey). cond (t == k.record_type.0) (Some k.name) None) (keys_of m)
owners_in t [] = refl
owners_in t (e ∷ es) = ap (λ (ns : List Name). cons_option (cond (t == e.0.record_type.0) (Some e.0.name) None) ns) (owners_in t es)

types_in : (n : Name) (m : Sets) → types_at m n ≡ filter_map (λ (k : RrKey). cond (name_eq n k.name) (Some k.record_type.0) None) (keys_of m)
types_in n [] = refl
types_in n (e ∷ es) = ap (λ (ts : List ℕ). cons_option (cond (name_eq n e.0.name) (Some e.0.record_type.0) None) ts) (types_in n es)

-- so they are the same where the keys are
pub same_names : (m other : Sets) → keys_of m ≡ keys_of other → names_of m ≡ names_of other
same_names m other h = names_in m ∙ ap (map (λ (k : RrKey). k.name)) h ∙ sym (names_in other)

pub same_owners : (m other : Sets) (t : ℕ) → keys_of m ≡ keys_of other → owners m t ≡ owners other t
same_owners m other t h = owners_in t m ∙ ap (filter_map (λ (k : RrKey). cond (t == k.record_type.0) (Some k.name) None)) h ∙ sym (owners_in t other)

pub same_types : (m other : Sets) (n : Name) → keys_of m ≡ keys_of other → types_at m n ≡ types_at other n
same_types m other n h = types_in n m ∙ ap (filter_map (λ (k : RrKey). cond (name_eq n k.name) (Some k.record_type.0) None)) h ∙ sym (types_in n other)

module _ (m other : Sets) (h : keys_of m ≡ keys_of other) where
  same_authority : (origin : Name) (t : ℕ) (n : Name) → is_authoritative origin m t n ≡ is_authoritative origin other t n
  same_authority origin t n =
      λ i. is_at_or_above origin n
      && (list_any (λ u. not (u == t)) (same_types m other n h i) && not (list_any (λ a. is_above origin a && is_above a n) (same_owners m other NS h i)))

  same_authoritative : (origin : Name) (t : ℕ) → authoritative_names origin m t ≡ authoritative_names origin other t
  same_authoritative origin t = λ i. filter (λ n. same_authority origin t n i) (same_names m other h i)

  pub same_nsec : (origin : Name) (ttl serial : ℕ) (n : Name) (t : ℕ) → nsec_set_at origin m ttl serial n t ≡ nsec_set_at origin other ttl serial n t
  same_nsec origin ttl serial n t =
      λ i. cond ((t == NSEC) && same_authority origin NSEC n i)
      (Some
      (new_set ttl serial n
      (nsec_data (unwrap_or (least name_cmp (filter (is_before name_cmp n) (same_authoritative origin NSEC i))) origin)
      (in_order nat_cmp (NSEC ∷ RRSIG ∷ same_types m other n h i)))))
      None

  -- ---- NSEC3

  same_counted : (origin : Name) (opt_out : Bool) → counted_names origin m opt_out ≡ counted_names origin other opt_out
  same_counted origin opt_out =
      λ i. filter (λ n. not (opt_out && (not (name_eq n origin) && list_all (λ t. (t == NS) || (t == NSEC3)) (same_types m other n h i)))) (same_authoritative origin NSEC3 i)

  same_hashed : (origin : Name) (hash : Name → Option (List ℕ)) (opt_out : Bool) → hashed_names origin m hash opt_out ≡ hashed_names origin other hash opt_out
  same_hashed origin hash opt_out =
      λ i. in_order hashed_cmp
      (filter_map (λ n. option_map (λ d. record { digest = d; name = n }) (hash n))
      (in_order name_cmp (origin ∷ flat_map (λ n. n ∷ filter (is_above origin) (proper_ancestors n)) (same_counted origin opt_out i))))

  same_nsec3_types : (origin n : Name) → nsec3_types origin m n ≡ nsec3_types origin other n
  same_nsec3_types origin n =
      ap (λ (ts : List ℕ). let own = filter (λ t. not (t == NSEC3)) ts in cond (name_eq n origin) (in_order nat_cmp (NSEC3PARAM ∷ RRSIG ∷ own)) (with_rrsig own)) (same_types m other n h)

  pub same_nsec3 : (origin : Name) (hash : Name → Option (List ℕ)) (parameters : Nsec3Parameters) (ttl serial : ℕ) (o : Name)
      → nsec3_set_at origin m hash parameters ttl serial o ≡ nsec3_set_at origin other hash parameters ttl serial o
  same_nsec3 origin hash parameters ttl serial o =
      λ i. set_of o NSEC3 serial
      (filter_map
      (λ (x : HashedName).
      cond (name_eq o (hashed_owner origin x.digest))
      (Some
      (made_record origin m hash parameters ttl serial (hashed_owner origin x.digest)
      (V.NSEC3 (nsec3_data parameters (next_around hashed_cmp (same_hashed origin hash parameters.opt_out i) x).digest (same_nsec3_types origin x.name i)))))
      None)
      (same_hashed origin hash parameters.opt_out i))
