-- Which lists are right at a delegation, what may be left out, and which sets of denial belong to a chain, in small zones
use Rattle.std.proofs.Common.{◌≡◌, ℕ, Bool, true, false, ◌||◌, ◌↔◌, List, [], ◌∷◌, refl, sym, ◌∙◌, ap, subst, true≢false, ◌⊎◌, inl, inr, arith, eqb-true, eq-eqb}
use Rattle.std.specs.Prelude.{codes, Option, Some, None, ◌==◌}
use Rattle.std.specs.List.{Contains, list_any}
use Rattle.zone_proto.specs.declared.nx_proof_kind.NxProofKind.TheVariants as kind
use Rattle.zone_proto.specs.declared.rdata.RData.TheVariants as V
use Rattle.zone_proto.specs.declared.rr_key.RrKey.{RrKey}
use Rattle.zone_proto.specs.Names.{Name}
use Rattle.zone_proto.specs.Sets.{RRset}
use Rattle.zone_proto.specs.Types.{A, NS, CNAME, SOA, DS, RRSIG, NSEC, NSEC3}
use Rattle.zone_proto.proofs.Members.{In, In-Contains, Contains-In, In-from_any, none_passes}
use Rattle.zone_map.specs.Zones.{Sets, owns}
use Rattle.zone_denial.specs.Chains.{chain_sets, is_stated_at_delegation, is_delegation, IsRightList, may_be_left_out}
use Rattle.zone_denial.specs.Nsec3Names.{is_unsigned_delegation}
use Rattle.zone_denial.proofs.Examples.NsecExamples.{origin, at_origin, entry, address, start}

-- ---- a zone with a host, and a delegation to a server of its own name, without DS

abbrev b : Name
b = at_origin (codes "b")

abbrev servers : Name → RrKey × RRset
servers n = entry n NS (V.NS n)

abbrev zone : Sets
zone = start ∷ address (at_origin (codes "a")) ∷ address b ∷ servers b ∷ []

-- with opt-out a chain may leave the delegation out, though it owns an address too; the circle may not
left_out : may_be_left_out origin zone true b ≡ true
left_out = refl

not_unsigned : is_unsigned_delegation zone b ≡ false
not_unsigned = refl

-- ---- lists of the delegation

told : (t : ℕ) → is_stated_at_delegation t ≡ true → (t ≡ NS) ⊎ ((t ≡ CNAME) ⊎ ((t ≡ SOA) ⊎ (t ≡ DS)))
told t e = by (t == NS) refl (t == CNAME) refl (t == SOA) refl (t == DS) refl e
  where
    by : (p : Bool) → (t == NS) ≡ p → (q : Bool) → (t == CNAME) ≡ q → (r : Bool) → (t == SOA) ≡ r → (s : Bool) → (t == DS) ≡ s → p || (q || (r || s)) ≡ true
        → (t ≡ NS) ⊎ ((t ≡ CNAME) ⊎ ((t ≡ SOA) ⊎ (t ≡ DS)))
    by true e q f r g s h k = inl (eqb-true t NS e)
    by false e true f r g s h k = inr (inl (eqb-true t CNAME f))
    by false e false f true g s h k = inr (inr (inl (eqb-true t SOA g)))
    by false e false f false g true h k = inr (inr (inr (eqb-true t DS h)))
    by false e false f false g false h k = absurd (true≢false (sym k))

-- one with NS and none of the three others is right, whatever else it has
module _ (types : List ℕ) (ns : list_any (λ u. u == NS) types ≡ true) (cname : list_any (λ u. u == CNAME) types ≡ false) (soa : list_any (λ u. u == SOA) types ≡ false) (ds : list_any (λ u. u == DS) types ≡ false) where
  has : (t : ℕ) → list_any (λ u. u == t) types ≡ true → Contains types t
  has t e = let r = In-from_any (λ u. u == t) types e in In-Contains t types (subst (λ u. In u types) (eqb-true r.0 t r.2) r.1)

  lacks : (t : ℕ) → list_any (λ u. u == t) types ≡ false → Contains types t → ⊥
  lacks t e c = none_passes (λ u. u == t) t types e (Contains-In t types c) (eq-eqb t t refl)

  right : IsRightList origin zone b types
  right = record { at_delegation = λ d t k. by t (told t k); exact = λ d. absurd (true≢false d); signed = λ d. absurd (true≢false d) }
    where
      by : (t : ℕ) → (t ≡ NS) ⊎ ((t ≡ CNAME) ⊎ ((t ≡ SOA) ⊎ (t ≡ DS))) → Contains types t ↔ (owns zone b t ≡ true)
      by t (inl e) = (λ c. ap (owns zone b) e, λ k. subst (Contains types) (sym e) (has NS ns))
      by t (inr (inl e)) = (λ c. absurd (lacks CNAME cname (subst (Contains types) e c)), λ k. absurd (true≢false (sym k ∙ ap (owns zone b) e)))
      by t (inr (inr (inl e))) = (λ c. absurd (lacks SOA soa (subst (Contains types) e c)), λ k. absurd (true≢false (sym k ∙ ap (owns zone b) e)))
      by t (inr (inr (inr e))) = (λ c. absurd (lacks DS ds (subst (Contains types) e c)), λ k. absurd (true≢false (sym k ∙ ap (owns zone b) e)))

-- as BIND has it by NSEC and by NSEC3, and as the circle has it
by_nsec : IsRightList origin zone b (NS ∷ RRSIG ∷ NSEC ∷ [])
by_nsec = right (NS ∷ RRSIG ∷ NSEC ∷ []) refl refl refl refl

by_nsec3 : IsRightList origin zone b (NS ∷ [])
by_nsec3 = right (NS ∷ []) refl refl refl refl

of_circle : IsRightList origin zone b (A ∷ NS ∷ RRSIG ∷ NSEC ∷ [])
of_circle = right (A ∷ NS ∷ RRSIG ∷ NSEC ∷ []) refl refl refl refl

-- one without NS isn't, nor one with DS
without_ns : IsRightList origin zone b (A ∷ RRSIG ∷ NSEC ∷ []) → ⊥
without_ns r = none_passes (λ u. u == NS) NS (A ∷ RRSIG ∷ NSEC ∷ []) refl (Contains-In NS (A ∷ RRSIG ∷ NSEC ∷ []) ((r.at_delegation refl NS refl).1 refl)) refl

with_ds : IsRightList origin zone b (NS ∷ DS ∷ RRSIG ∷ NSEC ∷ []) → ⊥
with_ds r = true≢false (sym ((r.at_delegation refl DS refl).0 (In-Contains DS (NS ∷ DS ∷ RRSIG ∷ NSEC ∷ []) (inr (inl refl)))))

-- of the host no list is right that denies its address, nor one that has a type of which there is no set
without_address : IsRightList origin zone (at_origin (codes "a")) (RRSIG ∷ NSEC ∷ []) → ⊥
without_address r = none_passes (λ u. u == A) A (RRSIG ∷ NSEC ∷ []) refl (Contains-In A (RRSIG ∷ NSEC ∷ []) ((r.exact refl A (λ e. omega (arith, e)) (λ e. omega (arith, e)) (λ e. omega (arith, e))).1 refl)) refl

with_servers : IsRightList origin zone (at_origin (codes "a")) (A ∷ NS ∷ NSEC ∷ []) → ⊥
with_servers r = true≢false (sym ((r.exact refl NS (λ e. omega (arith, e)) (λ e. omega (arith, e)) (λ e. omega (arith, e))).0 (In-Contains NS (A ∷ NS ∷ NSEC ∷ []) (inr (inl refl)))))

-- ---- two chains of NSEC3 sets, of the salts 170 and 204: those of the second don't belong to the first

abbrev hashed_set : List ℕ → Name → RrKey × RRset
hashed_set salt n = entry n NSEC3 (V.NSEC3 (record { algorithm = 1; opt_out = false; iterations = 0; salt = salt; next_hashed_owner_name = 1 ∷ []; types = [] }))

abbrev first : RrKey × RRset
first = hashed_set (170 ∷ []) (at_origin (codes "0"))

abbrev second : RrKey × RRset
second = hashed_set (204 ∷ []) (at_origin (codes "1"))

of_first : chain_sets (Some (kind.Nsec3 1 (170 ∷ []) 0 false)) (start ∷ first ∷ second ∷ []) ≡ start ∷ first ∷ []
of_first = refl

-- the flag Opt-Out of NSEC3PARAM is free
whatever_flag : chain_sets (Some (kind.Nsec3 1 (170 ∷ []) 0 true)) (start ∷ first ∷ second ∷ []) ≡ start ∷ first ∷ []
whatever_flag = refl

-- nor does any to one of NSEC sets
of_nsec : chain_sets (Some kind.Nsec) (start ∷ first ∷ second ∷ []) ≡ start ∷ []
of_nsec = refl
