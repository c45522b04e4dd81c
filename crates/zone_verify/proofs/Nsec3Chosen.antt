-- Names with their NSEC3 sets, put behind others
use Rattle.std.proofs.Common.{◌≡◌, ℕ, zero, suc, ◌+◌, ◌-◌, ◌<◌, ◌≤◌, Bool, List, [], ◌∷◌, ◌++◌, length, take, drop, refl, sym, ap, ◌∙◌, subst, ◌⊎◌, inl, inr, arith}
use Rattle.std.specs.Prelude.{Option, Some, None}
use Rattle.std.specs.List.{Contains}
use Rattle.std.proofs.lemmas.List.{length-drop, take-append-drop}
use Rattle.zone_proto.specs.declared.record_type.RecordType.{RecordType}
use Rattle.zone_proto.specs.declared.rr_key.RrKey.{RrKey}
use Rattle.zone_proto.specs.Names.{Name, IsAbove, IsAtOrAbove, SharesLabels}
use Rattle.zone_proto.proofs.Members.{In, In-Contains, Contains-In, In-from_append, In-append_left, In-append_right}
use Rattle.zone_proto.proofs.Names.Tree.{above_cases}
use Rattle.zone_map.specs.Zones.{Sets}
use Rattle.zone_denial.specs.Chains.{is_delegation}
use Rattle.zone_denial.proofs.Chain.NsecBelow.{above_at, above_through, comparable}
use Rattle.zone_denial.proofs.Names.LongestAncestors.{above_shorter}
use Rattle.zone_verify.specs.declared.nsec3_name.ChainName.{ChainName}
use Rattle.zone_verify.specs.Lists.{IsListed, MayAllBeListed, IsKeyListed}
use Rattle.zone_verify.specs.Nsec3Names.{HasNsec3, IsNamed, IsKeyName, HasAncestors, IsChainName, AreChainNames, StayChainNames, IsListedOrLeftOut, IsNsec3Key}
use Rattle.zone_verify.proofs.Nsec3Links.{apart}
use Rattle.zone_verify.proofs.Passing.{AreLeft, passed}

abbrev pub AreKept : List ChainName → List ChainName → Type 0
AreKept old new = (c : ChainName) → Contains old c → Contains new c

pub one_kept : (old new : List ChainName) (x : ChainName) → new ≡ old ++ x ∷ [] → AreKept old new
one_kept old new x is c i = In-Contains c new (subst (In c) (sym is) (In-append_left c old (x ∷ []) (Contains-In c old i)))

pub one_there : (old new : List ChainName) (x : ChainName) → new ≡ old ++ x ∷ [] → Contains new x
one_there old new x is = In-Contains x new (subst (In x) (sym is) (In-append_right x old (x ∷ []) (inl refl)))

one_of : (old new : List ChainName) (x : ChainName) → new ≡ old ++ x ∷ [] → (c : ChainName) → Contains new c → Contains old c ⊎ (x ≡ c)
one_of old new x is c i = by (In-from_append c old (x ∷ []) (subst (In c) is (Contains-In c new i)))
  where
    by : In c old ⊎ In c (x ∷ []) → Contains old c ⊎ (x ≡ c)
    by (inl j) = inl (In-Contains c old j)
    by (inr (inl e)) = inr e
    by (inr (inr j)) = absurd j

named_kept : (old new : List ChainName) → AreKept old new → (n : Name) → IsNamed old n → IsNamed new n
named_kept old new kept n h = (h.0, kept h.0 h.1, h.2)

-- of two ancestors of one name the one with no more labels is at or above the other
pub nested : (a b n : Name) → IsAtOrAbove a n → IsAtOrAbove b n → length a ≤ length b → IsAtOrAbove a b
nested a b n u v long = by (comparable u.0 v.0 a b (sym u.1 ∙ v.1))
  where
    of : (b ≡ a) ⊎ IsAbove b a → IsAtOrAbove a b
    of (inl e) = ([], e)
    of (inr w) = absurd (omega (arith, above_shorter b a w, long))

    by : IsAtOrAbove a b ⊎ IsAtOrAbove b a → IsAtOrAbove a b
    by (inl w) = w
    by (inr w) = of (above_cases b a w)

module _ (origin : Name) (beside m : Sets) (hash : Name → Option (List ℕ)) (opt_out : Bool) where
  -- one more name behind others, which have the ancestors of it
  one_more : (keys : List RrKey) (old new : List ChainName) (x : ChainName) → new ≡ old ++ x ∷ [] → IsChainName origin beside m hash opt_out keys x → HasAncestors origin old x.name
      → AreChainNames origin beside m hash opt_out keys old → AreChainNames origin beside m hash opt_out keys new
  one_more keys old new x is own above are = record {
    each = λ c i. each c (one_of old new x is c i);
    begins = named_kept old new (one_kept old new x is) origin are.begins;
    between = λ c a i u v. between c a u v (one_of old new x is c i);
  }
    where
      each : (c : ChainName) → Contains old c ⊎ (x ≡ c) → IsChainName origin beside m hash opt_out keys c
      each c (inl i) = are.each c i
      each c (inr e) = subst (IsChainName origin beside m hash opt_out keys) e own

      at_x : (a : Name) → IsAtOrAbove origin a → (a ≡ x.name) ⊎ IsAbove a x.name → IsNamed new a
      at_x a u (inl e) = (x, one_there old new x is, sym e)
      at_x a u (inr w) = named_kept old new (one_kept old new x is) a (above a u w)

      between : (c : ChainName) (a : Name) → IsAtOrAbove origin a → IsAtOrAbove a c.name → Contains old c ⊎ (x ≡ c) → IsNamed new a
      between c a u v (inl i) = named_kept old new (one_kept old new x is) a (are.between c a i u v)
      between c a u v (inr e) = at_x a u (above_cases a x.name (subst (IsAtOrAbove a) (ap (λ (y : ChainName). y.name) (sym e)) v))

  -- a name that owns something
  pub stay : (n : Name) (old mid new : List ChainName) (x : ChainName) → StayChainNames origin beside m hash opt_out n old mid → HasAncestors origin mid n → new ≡ mid ++ x ∷ []
      → HasNsec3 origin m hash opt_out x → x.name ≡ n → MayAllBeListed beside m n (is_delegation origin m n) x.data.now.types → StayChainNames origin beside m hash opt_out n old new
  stay n old mid new x before above is has named may keys is_key inside are =
      one_more keys mid new x is
      record {
        has = has;
        inside = subst (IsAtOrAbove origin) (sym named) inside;
        below = (n, is_key, ([], sym named));
        may = subst (λ w. MayAllBeListed beside m w (is_delegation origin m w) x.data.now.types) (sym named) may;
        own = inr (subst (IsKeyName origin keys) (sym named) is_key);
      }
      (subst (HasAncestors origin mid) (sym named) above) (before keys is_key inside are)

  -- the origin alone
  pub origin_alone : (old new : List ChainName) (x : ChainName) → old ≡ [] → new ≡ old ++ x ∷ [] → HasNsec3 origin m hash opt_out x → x.name ≡ origin
      → MayAllBeListed beside m origin (is_delegation origin m origin) x.data.now.types → (keys : List RrKey) → AreChainNames origin beside m hash opt_out keys new
  origin_alone old new x none is has named may keys = record {
    each = λ c i. each c (one_of old new x is c i);
    begins = there;
    between = λ c a i u v. between c a u v (one_of old new x is c i);
  }
    where
      there : IsNamed new origin
      there = (x, one_there old new x is, named)

      nothing : (c : ChainName) → Contains old c → ⊥
      nothing c i = Contains-In c [] (subst (λ (ns : List ChainName). Contains ns c) none i)

      own : IsChainName origin beside m hash opt_out keys x
      own = record {
        has = has;
        inside = ([], named);
        below = (origin, inl refl, ([], sym named));
        may = subst (λ w. MayAllBeListed beside m w (is_delegation origin m w) x.data.now.types) (sym named) may;
        own = inr (inl named);
      }

      each : (c : ChainName) → Contains old c ⊎ (x ≡ c) → IsChainName origin beside m hash opt_out keys c
      each c (inl i) = absurd (nothing c i)
      each c (inr e) = subst (IsChainName origin beside m hash opt_out keys) e own

      same : (a : Name) → (origin ≡ a) ⊎ IsAbove origin a → (a ≡ origin) ⊎ IsAbove a origin → origin ≡ a
      same a (inl e) w = e
      same a (inr u) (inl e) = sym e
      same a (inr u) (inr w) = absurd (omega (arith, above_shorter origin a u, above_shorter a origin w))

      between : (c : ChainName) (a : Name) → IsAtOrAbove origin a → IsAtOrAbove a c.name → Contains old c ⊎ (x ≡ c) → IsNamed new a
      between c a u v (inl i) = absurd (nothing c i)
      between c a u v (inr e) =
          subst (IsNamed new) (same a (above_cases origin a u) (above_cases a origin (subst (IsAtOrAbove a) (ap (λ (y : ChainName). y.name) (sym e) ∙ named) v))) there

  -- ---- empty names above a name, from the highest down

  -- the ancestors of n with at most so many labels are among these, which are still such names
  pub record AreUpper (n : Name) (old new : List ChainName) (most : ℕ) : Type 0 where
    pub stay : StayChainNames origin beside m hash opt_out n old new
    pub kept : AreKept old new
    pub upper : (a : Name) → IsAtOrAbove origin a → IsAtOrAbove a n → length a ≤ most → IsNamed new a

  module _ (n last : Name) (shared : ℕ) (shares : SharesLabels n last shared) (old : List ChainName) (last_in : IsNamed old last) where
    abbrev longest : Name
    longest = drop (length n - shared) n

    pub upper_before : (keys : List RrKey) → AreChainNames origin beside m hash opt_out keys old → AreUpper n old old shared
    upper_before keys are = record {
      stay = λ ks is_key inside own. own;
      kept = λ c i. i;
      upper = λ a u v short.
          are.between last_in.0 a last_in.1 u
          (subst (IsAtOrAbove a) (sym last_in.2)
          (above_through a longest last (nested a longest n v (take (length n - shared) n, sym (take-append-drop (length n - shared) n)) (omega (arith, short, length-drop (length n - shared) n, shares.within))) shares.shared));
    }

    pub upper_after : (new after : List ChainName) (upper : ℕ) (a : Name) (c : ChainName) → shared ≤ upper → upper < length n - 1 → a ≡ drop (length n - (upper + 1)) n → HasNsec3 origin m hash opt_out c
        → c.data.now.types ≡ [] → c.name ≡ a → after ≡ new ++ c ∷ [] → AreUpper n old new upper → AreUpper n old after (upper + 1)
    upper_after new after upper a c from lt is_a has empty named is v = record {
      stay = λ keys is_key inside are.
          one_more keys new after c is
          record {
            has = has;
            inside = nested origin c.name n inside at (omega (arith, from, long, shares.most origin inside (subst (IsAtOrAbove origin) last_in.2 (are.each last_in.0 last_in.1).inside)));
            below = (n, is_key, at);
            may = λ t l. absurd (Contains-In t [] (subst (λ (ts : List RecordType). IsListed ts t) empty l));
            own = inl empty;
          }
          (λ b u w. v.upper b u (above_through b c.name n (above_at b c.name w) at) (omega (arith, above_shorter b c.name w, long))) (v.stay keys is_key inside are);
      kept = λ d i. one_kept new after c is d (v.kept d i);
      upper = λ b u w short. by b u w short (apart upper (length b));
    }
      where
        at : IsAtOrAbove c.name n
        at = subst (λ w. IsAtOrAbove w n) (sym (named ∙ is_a)) (take (length n - (upper + 1)) n, sym (take-append-drop (length n - (upper + 1)) n))

        long : length c.name ≡ upper + 1
        long = omega (arith, ap (λ (w : Name). length w) (named ∙ is_a), length-drop (length n - (upper + 1)) n, lt)

        same : (b : Name) → IsAtOrAbove b n → length b ≡ upper + 1 → c.name ≡ b
        same b w e = by (above_cases b c.name (nested b c.name n w at (omega (arith, e, long))))
          where
            by : (b ≡ c.name) ⊎ IsAbove b c.name → c.name ≡ b
            by (inl q) = sym q
            by (inr q) = absurd (omega (arith, above_shorter b c.name q, e, long))

        by : (b : Name) → IsAtOrAbove origin b → IsAtOrAbove b n → length b ≤ upper + 1 → (upper < length b) ⊎ (length b ≤ upper) → IsNamed after b
        by b u w short (inl l) = (c, one_there new after c is, same b w (omega (arith, short, l)))
        by b u w short (inr l) = named_kept new after (one_kept new after c is) b (v.upper b u w l)

  pub all_upper : (n : Name) (old new : List ChainName) (most : ℕ) → length n ≤ most + 1 → AreUpper n old new most → HasAncestors origin new n
  all_upper n old new most long v a u w = v.upper a u (above_at a n w) (omega (arith, above_shorter a n w, long))

  pub are_moved : (keys : List RrKey) (old new : List ChainName) → AreKept old new → AreKept new old → AreChainNames origin beside m hash opt_out keys old → AreChainNames origin beside m hash opt_out keys new
  are_moved keys old new to from are = record {
    each = λ c i. are.each c (from c i);
    begins = named_kept old new to origin are.begins;
    between = λ c a i u v. named_kept old new to a (are.between c a (from c i) u v);
  }

module _ (origin : Name) (m : Sets) (hash : Name → Option (List ℕ)) (opt_out : Bool) where
  pub denied_there : (new : List ChainName) (x : ChainName) (n w : Name) (b : Bool) (types : Option (List RecordType)) → Contains new x → x.name ≡ n → w ≡ n → b ≡ is_delegation origin m n
      → types ≡ Some x.data.now.types → (b ≡ is_delegation origin m w) × IsListedOrLeftOut origin m hash opt_out new w types
  denied_there new x n w b types i named q e t =
      (e ∙ ap (is_delegation origin m) (sym q), subst (λ (o : Option (List RecordType)). IsListedOrLeftOut origin m hash opt_out new w o) (sym t) (x, i, named ∙ sym q, refl))

  -- ---- keys passed

  pub listed_kept : (old new : List ChainName) → AreKept old new → (k : RrKey) → IsNsec3Key origin m hash opt_out old k → IsNsec3Key origin m hash opt_out new k
  listed_kept old new kept k (inl h) = inl (h.0, kept h.0 h.1, h.2, h.3)
  listed_kept old new kept k (inr h) = inr h

  pub key_listed : (new : List ChainName) (n : Name) (types : Option (List RecordType)) (k : RrKey) (ts : List RecordType) (b : Bool) → n ≡ k.name → IsListedOrLeftOut origin m hash opt_out new n types
      → types ≡ Some ts → b ≡ is_delegation origin m n → IsKeyListed m b ts k → IsNsec3Key origin m hash opt_out new k
  key_listed new n None k ts b e d q p l = absurd cc
  key_listed new n (Some us) k ts b e d q p l =
      inl
      (d.0, d.1, d.2 ∙ e, subst (λ vs. IsKeyListed m (is_delegation origin m k.name) vs k) (same us ts q ∙ sym d.3) (subst (λ w. IsKeyListed m w ts k) (p ∙ ap (is_delegation origin m) e) l))
    where
      same : (us ts : List RecordType) → Some us ≡ Some ts → ts ≡ us
      same us ts q = cc

  pub key_left : (new : List ChainName) (n : Name) (types : Option (List RecordType)) (k : RrKey) → n ≡ k.name → IsListedOrLeftOut origin m hash opt_out new n types → types ≡ None → IsNsec3Key origin m hash opt_out new k
  key_left new n None k e d q = inr (subst (λ w. IsListedOrLeftOut origin m hash opt_out new w None) e d)
  key_left new n (Some us) k e d q = absurd cc

  pub key_passed : (keys left rest : List RrKey) (k : RrKey) (old new : List ChainName) → AreKept old new → left ≡ k ∷ rest → IsNsec3Key origin m hash opt_out new k
      → AreLeft (IsNsec3Key origin m hash opt_out old) keys left → AreLeft (IsNsec3Key origin m hash opt_out new) keys rest
  key_passed keys left rest k old new kept split here before = passed (IsNsec3Key origin m hash opt_out new) keys left rest k split here (λ y i. by y (before y i))
    where
      by : (y : RrKey) → In y left ⊎ IsNsec3Key origin m hash opt_out old y → In y left ⊎ IsNsec3Key origin m hash opt_out new y
      by y (inl i) = inl i
      by y (inr h) = inr (listed_kept old new kept y h)
