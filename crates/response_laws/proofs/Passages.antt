-- A set of an answer section is passed over, leads on, or is the last
use Rattle.std.proofs.Common.{◌≡◌, ℕ, true, false, cond, List, ◌∷◌, ap}
use Rattle.std.specs.Prelude.{Some, None}
use Rattle.std.specs.Option.{option_map_or}
use Rattle.zone_proto.specs.Names.{Name}
use Rattle.zone_proto.specs.Sets.{RRset}
use Rattle.response_laws.specs.Sayings.{renames, leads_to, Passage, passed, leads_on, stays, LastName, last_behind, last_name}

module _ (t : ℕ) (x : Name) (s : RRset) (sets : List RRset) where
  abbrev behind : Passage → LastName
  behind p = last_behind p x (λ y. last_name t y sets) (record { name = x; sets = s ∷ sets })

  pub passed_over : renames x s ≡ true → last_name t x (s ∷ sets) ≡ last_name t x sets
  passed_over e = ap (λ b. behind (cond b passed (option_map_or leads_on (leads_to t x s) stays))) e

  -- a set that isn't of a name above x is looked at
  module _ (here : renames x s ≡ false) where
    pub led : (target : Name) → leads_to t x s ≡ Some target → last_name t x (s ∷ sets) ≡ last_name t target sets
    led target e = λ i. behind (cond (here i) passed (option_map_or leads_on (e i) stays))

    -- and if it leads nowhere, it is the last
    pub last_here : leads_to t x s ≡ None → last_name t x (s ∷ sets) ≡ record { name = x; sets = s ∷ sets }
    last_here e = λ i. behind (cond (here i) passed (option_map_or leads_on (e i) stays))
