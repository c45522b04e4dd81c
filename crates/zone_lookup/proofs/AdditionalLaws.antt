-- Laws of the definitions of additional records
use Rattle.std.proofs.Common.{◌≡◌, ℕ, suc, ◌+◌, ◌*◌, ◌≤◌, arith, Bool, true, false, cond, List, [], ◌∷◌, length, refl, sym, subst, inl, inr}
use Rattle.std.proofs.Math.Nat.{suc-mul}
use Rattle.std.specs.Prelude.{Option, Some}
use Rattle.std.specs.List.{Contains}
use Rattle.zone_proto.specs.Names.{Name}
use Rattle.zone_proto.specs.Sets.{RRset}
use Rattle.zone_proto.specs.Types.{A, AAAA, ANAME}
use Rattle.zone_proto.proofs.Members.{In, In-Contains, Contains-In}
use Rattle.zone_map.specs.Zones.{Sets, IsZone}
use Rattle.zone_map.proofs.Chains.{names_equiv}
use Rattle.zone_lookup.specs.Additionals.{names_host, run_types, seen_at_start, leads_to, listed_with, AreSearchedNames, AreListed, AreCounted, alias_sets}
use Rattle.zone_lookup.specs.AdditionalLaws.{OneRun, NoNameTwice, RunIsShort, SearchesAreFew, OneList}
use Rattle.zone_lookup.proofs.Paths.{searched_once, searched_bound, searched_distinct, searched_unseen}
use Rattle.zone_lookup.proofs.Targets.{targets, leads_among, targets_few}
use Rattle.zone_lookup.proofs.AdditionalRuns.{left, left_searched}

pub one_run : OneRun
one_run m signed seen t from =
    (left m signed t seen from, left_searched m signed t seen from, λ others o. searched_once names_equiv (leads_to m signed t) seen from others (left m signed t seen from) o (left_searched m signed t seen from))

pub no_name_twice : NoNameTwice
no_name_twice m signed seen t from names s = (searched_distinct names_equiv (leads_to m signed t) seen from names s, searched_unseen names_equiv (leads_to m signed t) seen from names s)

short : (m : Sets) → IsZone m → (signed : Bool) (seen : List Name) (u t : ℕ) → In t (run_types u) → (from : Option Name) (names : List Name) → AreSearchedNames m signed seen t from names → length names ≤ 1 + alias_sets m
short m zone signed seen u t among from names s =
    let a : length names ≤ 1 + length (targets m t) = searched_bound names_equiv (leads_to m signed t) (targets m t) (leads_among m t signed) seen from names s in
    let b : length (targets m t) ≤ alias_sets m = targets_few m zone u t among in
    omega arith

-- so a run that began with some count of searches and searched some of these names has at most this count
pub short_run : (m : Sets) → IsZone m → (signed : Bool) (seen : List Name) (u t : ℕ) → Contains (run_types u) t → (from : Option Name) (before after : ℕ) → after ≤ before + length (left m signed t seen from) → after ≤ before + (1 + alias_sets m)
short_run m zone signed seen u t c from before after h =
    let k : length (left m signed t seen from) ≤ 1 + alias_sets m = short m zone signed seen u t (Contains-In t (run_types u) c) from (left m signed t seen from) (left_searched m signed t seen from) in
    omega (arith, h, k)

pub run_is_short : RunIsShort
run_is_short m zone signed seen u t c from names s = short m zone signed seen u t (Contains-In t (run_types u) c) from names s

more : (k a n later all : ℕ) → a ≤ n → later ≤ k * n → all ≡ a + later → all ≤ suc k * n
more k a n later all h i e = omega (arith, h, i, e, suc-mul k n)

few : (m : Sets) → IsZone m → (signed : Bool) (seen : List Name) (u : ℕ) (from : Name) (ts : List ℕ) → ((t : ℕ) → In t ts → In t (run_types u)) → (searches : ℕ) → AreCounted m signed seen from ts searches
    → searches ≤ length ts * (1 + alias_sets m)
few m zone signed seen u from [] among searches e = omega (arith, e)
few m zone signed seen u from (t ∷ ts) among searches (names, later, s, c, e) =
    more (length ts) (length names) (1 + alias_sets m) later searches
    (short m zone signed seen u t (among t (inl refl)) (Some from) names s)
    (few m zone signed seen u from ts (λ v i. among v (inr i)) later c) e

pub searches_are_few : SearchesAreFew
searches_are_few m zone signed n t from searches c = few m zone signed (seen_at_start n t) t from (run_types t) (λ v i. i) searches c

listed : (m : Sets) (signed : Bool) (seen : List Name) (from : Name) (ts : List ℕ) (had : List RRset) → (sets : List RRset) × AreListed m signed seen from ts had sets × ((others : List RRset) → AreListed m signed seen from ts had others → others ≡ sets)
listed m signed seen from [] had = (had, refl, λ others e. e)
listed m signed seen from (t ∷ ts) had =
    let o = one_run m signed seen t (Some from) in
    let r = listed m signed seen from ts (listed_with m signed t had o.0) in (
      r.0,
      (o.0, o.1, r.1),
      λ others (n : (names : List Name) × AreSearchedNames m signed seen t (Some from) names × AreListed m signed seen from ts (listed_with m signed t had names) others).
          r.2 others (subst (λ names. AreListed m signed seen from ts (listed_with m signed t had names) others) (o.2 n.0 n.1) n.2),
    )

pub one_list : OneList
one_list m signed n t from = listed m signed (seen_at_start n t) from (run_types t) []

-- ---- the bound of all runs of a query, wherever they end

addresses_of_hosts : (t : ℕ) → In t (A ∷ AAAA ∷ []) → Contains (run_types ANAME) t
addresses_of_hosts t i = In-Contains t (A ∷ AAAA ∷ []) i

pub first_of_hosts : Contains (run_types ANAME) A
first_of_hosts = addresses_of_hosts A (inl refl)

pub second_of_hosts : Contains (run_types ANAME) AAAA
second_of_hosts = addresses_of_hosts AAAA (inr (inl refl))

pub own_type : (t : ℕ) → names_host t ≡ false → Contains (run_types t) t
own_type t h = subst (λ b. Contains (cond b (A ∷ AAAA ∷ []) (t ∷ [])) t) (sym h) (In-Contains t (t ∷ []) (inl refl))

module _ (t before after few : ℕ) where
  pub two_made : (between : ℕ) → names_host t ≡ true → between ≤ before + few → after ≤ between + few → after ≤ before + length (run_types t) * few
  two_made between h i j = subst (λ b. after ≤ before + length (cond b (A ∷ AAAA ∷ []) (t ∷ [])) * few) (sym h) (omega (arith, i, j))

  pub one_made : names_host t ≡ false → after ≤ before + few → after ≤ before + length (run_types t) * few
  one_made h i = subst (λ b. after ≤ before + length (cond b (A ∷ AAAA ∷ []) (t ∷ [])) * few) (sym h) (omega (arith, i))
