-- Refusals of parts of a zone, handed on as refusals of the whole
use Rattle.std.proofs.Common.{◌≡◌, ℕ, ◌<◌, List, [], ◌∷◌, map, length, get_or, sym, subst, inl, inr, Bor}
use Rattle.std.specs.Prelude.{Result, Ok, Err, IfErr, IsErrAnd}
use Rattle.std.specs.List.{All}
use Rattle.std.proofs.lemmas.List.Elements.{All-nil, All-cons, All-head, All-tail, All-get_or}
use Rattle.zone_proto.specs.Sets.{RRset}
use Rattle.zone_planning.specs.declared.fault.PlanFault.{PlanFault}
use Rattle.zone_planning.specs.Faults.{IsUnwritableUnless}
use Rattle.zone_digest.specs.Faults.{IsDigestible, AreDigestible}

-- a refusal that is handed on is what it was
pub handed_on : {T : Type 0} (r : Result T PlanFault) (P : PlanFault → Type 0) (e : PlanFault) → IsErrAnd r (λ f. f ≡ e) → P e → IfErr r P
handed_on (Ok x) P e h p = absurd h
handed_on (Err f) P e h p = subst P (sym h) p

-- what more is to hold for doesn't hold either
pub of_more : (e : PlanFault) (P Q : Type 0) → (Q → P) → IsUnwritableUnless e P → IsUnwritableUnless e Q
of_more e P Q f (inl memory) = inl memory
of_more e P Q f (inr told) = inr (told.0, λ q. told.1 (f q))

-- the same of a result
pub refused_of_more : {T : Type 0} (r : Result T PlanFault) (P Q : Type 0) → (Q → P) → IfErr r (λ e. IsUnwritableUnless e P) → IfErr r (λ e. IsUnwritableUnless e Q)
refused_of_more (Ok x) P Q f h = tt
refused_of_more (Err e) P Q f h = of_more e P Q f h

-- what holds of the sets that are lent holds of each that lends
pub lent_sets : (P : RRset → Type 0) (sets : List (Bor RRset)) → All P (map (λ (s : Bor RRset). s.now) sets) → All (λ (s : Bor RRset). P s.now) sets
lent_sets P [] h = All-nil (λ (s : Bor RRset). P s.now)
lent_sets P (s ∷ ss) h =
    All-cons (λ (s : Bor RRset). P s.now) s ss (All-head P s.now (map (λ (s : Bor RRset). s.now) ss) h) (lent_sets P ss (All-tail P s.now (map (λ (s : Bor RRset). s.now) ss) h))

-- a refusal of one of the sets, by what it lacks
pub refused_at : {T : Type 0} (r : Result T PlanFault) (sets : List (Bor RRset)) (i : ℕ) (s : Bor RRset) (e : PlanFault) (P : Type 0) → i < length sets → s ≡ get_or sets i s
    → (IsDigestible s.now → P) → IsUnwritableUnless e P → IsErrAnd r (λ f. f ≡ e)
    → IfErr r (λ f. IsUnwritableUnless f (AreDigestible (map (λ (s : Bor RRset). s.now) sets)))
refused_at r sets i s e P inside is has told handed =
    let whole : Type 0 = AreDigestible (map (λ (s : Bor RRset). s.now) sets) in
    handed_on r (λ f. IsUnwritableUnless f whole) e handed
    (of_more e P whole
    (λ all. has (subst (λ (x : Bor RRset). IsDigestible x.now) (sym is) (All-get_or (λ (x : Bor RRset). IsDigestible x.now) sets i s inside (lent_sets IsDigestible sets all))))
    told)
