-- Sets that are collected owner by owner
use Rattle.std.proofs.Common.{◌≡◌, ℕ, Bool, true, false, cond, List, [], ◌∷◌, ◌++◌, map, filter, refl, sym, ap, ◌∙◌, subst, append_assoc, append-nil}
use Rattle.std.specs.Prelude.{Option, Some, None, flat_map}
use Rattle.std.specs.Option.{option_map_or}
use Rattle.std.proofs.lemmas.List.Elements.{All-nil, All-cons, All-head, All-tail}
use Rattle.zone_proto.specs.declared.rr_key.RrKey.{RrKey}
use Rattle.zone_proto.specs.Names.{same_name}
use Rattle.zone_proto.specs.Sets.{RRset}
use Rattle.zone_map.specs.Zones.{Sets}
use Rattle.zone_digest.specs.Faults.{IsDigestible, AreDigestible}
use Rattle.zone_digest.specs.ZoneText.{owner_text, before_groups, by_owner, is_digested, digested_sets, sets_text}

-- sets of which each has the owner of the next one
abbrev IsRun : List RRset → Type 0
IsRun [] = Unit {0}
IsRun (s ∷ []) = Unit {0}
IsRun (s ∷ f ∷ ss) = (same_name s.owner f.owner ≡ true) × IsRun (f ∷ ss)

abbrev last_of : RRset → List RRset → RRset
last_of s [] = s
last_of s (f ∷ ss) = last_of f ss

pushed : (a : RRset) (g : List RRset) (s : RRset) → IsRun (a ∷ g) → same_name (last_of a g).owner s.owner ≡ true → IsRun (a ∷ (g ++ s ∷ []))
pushed a [] s run e = (e, tt)
pushed a (b ∷ g) s run e = (run.0, pushed b g s run.1 e)

last_pushed : (a : RRset) (g : List RRset) (s : RRset) → last_of a (g ++ s ∷ []) ≡ s
last_pushed a [] s = refl
last_pushed a (b ∷ g) s = last_pushed b g s

-- ---- their groups

-- the first group begins with the first set
first_group : (s : RRset) (gs : List (List RRset)) → (h : List RRset) × (rest : List (List RRset)) × (before_groups s gs ≡ (s ∷ h) ∷ rest)
first_group s [] = ([], [], refl)
first_group s ([] ∷ gs) = ([], gs, refl)
first_group s ((f ∷ g) ∷ gs) = by (same_name s.owner f.owner)
  where
    by : (b : Bool) → (h : List RRset) × (rest : List (List RRset)) × (cond b ((s ∷ f ∷ g) ∷ gs) ((s ∷ []) ∷ (f ∷ g) ∷ gs) ≡ (s ∷ h) ∷ rest)
    by true = (f ∷ g, gs, refl)
    by false = ([], (f ∷ g) ∷ gs, refl)

-- a run is a group of its own before a set of another owner, and at the end
split : (a : RRset) (g : List RRset) (s : RRset) (ss : List RRset) → IsRun (a ∷ g) → same_name (last_of a g).owner s.owner ≡ false
    → by_owner ((a ∷ g) ++ s ∷ ss) ≡ (a ∷ g) ∷ by_owner (s ∷ ss)
split a [] s ss run apart =
    let r = first_group s (by_owner ss) in
    ap (before_groups a) r.2
    ∙ ap (λ b. cond b ((a ∷ s ∷ r.0) ∷ r.1) ((a ∷ []) ∷ (s ∷ r.0) ∷ r.1)) apart
    ∙ ap (λ (gs : List (List RRset)). (a ∷ []) ∷ gs) (sym r.2)
split a (b ∷ g) s ss run apart =
    ap (before_groups a) (split b g s ss run.1 apart) ∙ ap (λ c. cond c ((a ∷ b ∷ g) ∷ by_owner (s ∷ ss)) ((a ∷ []) ∷ (b ∷ g) ∷ by_owner (s ∷ ss))) run.0

whole : (a : RRset) (g : List RRset) → IsRun (a ∷ g) → by_owner (a ∷ g) ≡ (a ∷ g) ∷ []
whole a [] run = refl
whole a (b ∷ g) run = ap (before_groups a) (whole b g run.1) ∙ ap (λ c. cond c ((a ∷ b ∷ g) ∷ []) ((a ∷ []) ∷ (b ∷ g) ∷ [])) run.0

-- ---- sets that can be digested

front : (xs ys : List RRset) → AreDigestible (xs ++ ys) → AreDigestible xs
front [] ys h = All-nil IsDigestible
front (x ∷ xs) ys h = All-cons IsDigestible x xs (All-head IsDigestible x (xs ++ ys) h) (front xs ys (All-tail IsDigestible x (xs ++ ys) h))

later : (xs ys : List RRset) → AreDigestible (xs ++ ys) → AreDigestible ys
later [] ys h = h
later (x ∷ xs) ys h = later xs ys (All-tail IsDigestible x (xs ++ ys) h)

-- ---- what is collected, and its last set

abbrev IsRunOf : List RRset → Option RRset → Type 0
IsRunOf [] None = Unit {0}
IsRunOf [] (Some l) = ⊥
IsRunOf (a ∷ g) None = ⊥
IsRunOf (a ∷ g) (Some l) = IsRun (a ∷ g) × (last_of a g ≡ l)

-- a set has the owner of the last one, if there is one
abbrev pub is_of_last : Option RRset → RRset → Bool
is_of_last last s = option_map_or (λ (l : RRset). same_name l.owner s.owner) last true

module _ (own : RrKey) (begun : List ℕ) (m : Sets) where
  -- what is written, with what is collected and the sets that are left, is the zone's text
  pub record IsCollected (rest : Sets) (sets : List RRset) (last : Option RRset) (out : List ℕ) : Type 0 where
    pub text : out ++ flat_map owner_text (by_owner (sets ++ digested_sets own rest)) ≡ begun ++ sets_text own m
    pub run : IsRunOf sets last
    pub left : AreDigestible (digested_sets own m) → AreDigestible (sets ++ digested_sets own rest)

  pub collecting_begun : (rest : Sets) (sets : List RRset) (last : Option RRset) (out : List ℕ) → rest ≡ m → sets ≡ [] → last ≡ None → out ≡ begun → IsCollected rest sets last out
  collecting_begun rest sets last out all none no_last same =
      subst (λ (x : Sets). IsCollected x sets last out) (sym all)
      (subst (λ (x : List RRset). IsCollected m x last out) (sym none)
      (subst (λ (x : Option RRset). IsCollected m [] x out) (sym no_last)
      (subst (λ (x : List ℕ). IsCollected m [] None x) (sym same) (record { text = refl; run = tt; left = λ h. h }))))

  -- the sets that are left, by the first one
  passed : (e : RrKey × RRset) (es : Sets) → is_digested own e ≡ false → digested_sets own (e ∷ es) ≡ digested_sets own es
  passed e es h = ap (λ b. map (λ (e : RrKey × RRset). e.1) (cond b (e ∷ filter (is_digested own) es) (filter (is_digested own) es))) h

  taken : (e : RrKey × RRset) (es : Sets) → is_digested own e ≡ true → digested_sets own (e ∷ es) ≡ e.1 ∷ digested_sets own es
  taken e es h = ap (λ b. map (λ (e : RrKey × RRset). e.1) (cond b (e ∷ filter (is_digested own) es) (filter (is_digested own) es))) h

  pub collecting_past : (rest es : Sets) (e : RrKey × RRset) (sets : List RRset) (last : Option RRset) (out : List ℕ) → rest ≡ e ∷ es → is_digested own e ≡ false
      → IsCollected rest sets last out → IsCollected es sets last out
  collecting_past rest es e sets last out steps h before =
      let same : digested_sets own rest ≡ digested_sets own es = ap (digested_sets own) steps ∙ passed e es h in
      record {
        text = subst (λ (x : List RRset). out ++ flat_map owner_text (by_owner (sets ++ x)) ≡ begun ++ sets_text own m) same before.text;
        run = before.run;
        left = λ d. subst (λ (x : List RRset). AreDigestible (sets ++ x)) same (before.left d);
      }

  run_pushed : (sets : List RRset) (last : Option RRset) (s : RRset) → IsRunOf sets last → is_of_last last s ≡ true → IsRunOf (sets ++ s ∷ []) (Some s)
  run_pushed [] None s run h = (tt, refl)
  run_pushed [] (Some l) s run h = absurd run
  run_pushed (a ∷ g) None s run h = absurd run
  run_pushed (a ∷ g) (Some l) s run h = (pushed a g s run.0 (ap (λ (x : RRset). same_name x.owner s.owner) run.1 ∙ h), last_pushed a g s)

  pub collecting_more : (rest es : Sets) (e : RrKey × RRset) (sets more : List RRset) (last next : Option RRset) (out : List ℕ) → rest ≡ e ∷ es → is_digested own e ≡ true
      → is_of_last last e.1 ≡ true → more ≡ sets ++ e.1 ∷ [] → next ≡ Some e.1 → IsCollected rest sets last out → IsCollected es more next out
  collecting_more rest es e sets more last next out steps h of more_is next_is before =
      let same : sets ++ digested_sets own rest ≡ (sets ++ e.1 ∷ []) ++ digested_sets own es =
      ap (λ (x : List RRset). sets ++ x) (ap (digested_sets own) steps ∙ taken e es h) ∙ sym (append_assoc sets (e.1 ∷ []) (digested_sets own es)) in
      subst (λ (x : List RRset). IsCollected es x next out) (sym more_is)
      (subst (λ (x : Option RRset). IsCollected es (sets ++ e.1 ∷ []) x out) (sym next_is)
      (record {
        text = subst (λ (x : List RRset). out ++ flat_map owner_text (by_owner x) ≡ begun ++ sets_text own m) same before.text;
        run = run_pushed sets last e.1 before.run of;
        left = λ d. subst AreDigestible same (before.left d);
      }))

  -- what is collected is written before a set of another owner
  written : (sets : List RRset) (last : Option RRset) (s : RRset) (ss : List RRset) (out : List ℕ) → IsRunOf sets last → is_of_last last s ≡ false
      → (out ++ owner_text sets) ++ flat_map owner_text (by_owner (s ∷ ss)) ≡ out ++ flat_map owner_text (by_owner (sets ++ s ∷ ss))
  written [] None s ss out run h = absurd cc
  written [] (Some l) s ss out run h = absurd run
  written (a ∷ g) None s ss out run h = absurd run
  written (a ∷ g) (Some l) s ss out run h =
      append_assoc out (owner_text (a ∷ g)) (flat_map owner_text (by_owner (s ∷ ss)))
      ∙ ap (λ (gs : List (List RRset)). out ++ flat_map owner_text gs) (sym (split a g s ss run.0 (ap (λ (x : RRset). same_name x.owner s.owner) run.1 ∙ h)))

  pub collecting_anew : (rest es : Sets) (e : RrKey × RRset) (sets more : List RRset) (last next : Option RRset) (out out' : List ℕ) → rest ≡ e ∷ es → is_digested own e ≡ true
      → is_of_last last e.1 ≡ false → out' ≡ out ++ owner_text sets → more ≡ e.1 ∷ [] → next ≡ Some e.1 → IsCollected rest sets last out → IsCollected es more next out'
  collecting_anew rest es e sets more last next out out' steps h of out_is more_is next_is before =
      let same : digested_sets own rest ≡ e.1 ∷ digested_sets own es = ap (digested_sets own) steps ∙ taken e es h in
      let all : out ++ flat_map owner_text (by_owner (sets ++ e.1 ∷ digested_sets own es)) ≡ begun ++ sets_text own m =
      subst (λ (x : List RRset). out ++ flat_map owner_text (by_owner (sets ++ x)) ≡ begun ++ sets_text own m) same before.text in
      subst (λ (x : List RRset). IsCollected es x next out') (sym more_is)
      (subst (λ (x : Option RRset). IsCollected es (e.1 ∷ []) x out') (sym next_is)
      (subst (λ (x : List ℕ). IsCollected es (e.1 ∷ []) (Some e.1) x) (sym out_is)
      (record {
        text = written sets last e.1 (digested_sets own es) out before.run of ∙ all;
        run = (tt, refl);
        left = λ d. later sets (e.1 ∷ digested_sets own es) (subst (λ (x : List RRset). AreDigestible (sets ++ x)) same (before.left d));
      })))

  -- what is collected can be digested if all can
  pub collected_digestible : (rest : Sets) (sets : List RRset) (last : Option RRset) (out : List ℕ) → IsCollected rest sets last out → AreDigestible (digested_sets own m) → AreDigestible sets
  collected_digestible rest sets last out before d = front sets (digested_sets own rest) (before.left d)

  pub collected_all : (rest : Sets) (sets : List RRset) (last : Option RRset) (out out' : List ℕ) → rest ≡ [] → out' ≡ out ++ owner_text sets → IsCollected rest sets last out → out' ≡ begun ++ sets_text own m
  collected_all rest sets last out out' none out_is before =
      let same : sets ++ digested_sets own rest ≡ sets = ap (λ (x : Sets). sets ++ digested_sets own x) none ∙ append-nil sets in
      out_is ∙ ending sets last before.run ∙ ap (λ (x : List RRset). out ++ flat_map owner_text (by_owner x)) (sym same) ∙ before.text
    where
      ending : (sets : List RRset) (last : Option RRset) → IsRunOf sets last → out ++ owner_text sets ≡ out ++ flat_map owner_text (by_owner sets)
      ending [] last run = refl
      ending (a ∷ g) None run = absurd run
      ending (a ∷ g) (Some l) run =
          ap (λ (x : List ℕ). out ++ x) (sym (append-nil (owner_text (a ∷ g)))) ∙ ap (λ (gs : List (List RRset)). out ++ flat_map owner_text gs) (sym (whole a g run.0))
