-- Loops that pass over the labels of an owner, questions, options and records: what is left gives what the whole gives
use Rattle.std.proofs.Common.{◌≡◌, ℕ, zero, suc, ◌+◌, ◌-◌, ◌<◌, ◌≤◌, true, false, cond, eqb, ltb, List, [], ◌∷◌, length, Option, Some, None, refl, sym, ap, ◌∙◌, arith}
use Rattle.std.proofs.lemmas.Bool.{le-ltb, ne_eqb, lt-ltb}
use Rattle.message_reading.specs.declared.query.Extension.{Extension}
use Rattle.message_reading.specs.declared.record_frame.RecordFrame.{RecordFrame}
use Rattle.message_reading.specs.Octets.{◌>>=◌, octets_of}
use Rattle.message_reading.specs.Queries.{additionals_of, are_options, behind_authorities, behind_option, with_record}
use Rattle.message_reading.specs.Unread.{behind_owner, behind_questions, record_frame_of}

-- one step fewer is left
pub one_less : (n i : ℕ) → i < n → suc (n - (i + 1)) ≡ n - i
one_less n i h = omega arith

-- ---- owners

pub owner_empty : (k : ℕ) (rest : List ℕ) → length rest ≡ 0 → None ≡ behind_owner k rest
unfolding behind_owner
owner_empty zero [] none = refl
owner_empty (suc k) [] none = refl
owner_empty k (b ∷ rest) none = absurd (omega (arith, none))

pub owner_out : (k : ℕ) (rest : List ℕ) → k ≡ 0 → None ≡ behind_owner k rest
unfolding behind_owner
owner_out k rest e = ap (λ j. behind_owner j rest) (sym e)

owner_from : (n i b : ℕ) (rest behind : List ℕ) → i < n → rest ≡ b ∷ behind
    → behind_owner (suc (n - (i + 1))) (b ∷ behind) ≡ behind_owner (n - i) rest
owner_from n i b rest behind less e =
    ap (behind_owner (suc (n - (i + 1)))) (sym e) ∙ ap (λ j. behind_owner j rest) (one_less n i less)

pub owner_end : (n i b : ℕ) (rest behind : List ℕ) → i < n → rest ≡ b ∷ behind → b ≡ 0 → Some behind ≡ behind_owner (n - i) rest
unfolding behind_owner
owner_end n i b rest behind less e z = owner_from n i 0 rest behind less (e ∙ ap (λ x. x ∷ behind) z)

pub owner_label : (n i b : ℕ) (rest behind label next : List ℕ) → i < n → rest ≡ b ∷ behind → (b ≡ 0 → ⊥) → b < 64
    → Some (label, next) ≡ octets_of b behind → behind_owner (n - (i + 1)) next ≡ behind_owner (n - i) rest
unfolding behind_owner
owner_label n i b rest behind label next less e some short found =
    let e₁ : eqb b 0 ≡ false = ne_eqb b 0 some in
    let e₂ : ltb b 64 ≡ true = lt-ltb _ _ short in
    rw (e₁, e₂, sym found) at (owner_from n i b rest behind less e)

pub owner_cut : (n i b : ℕ) (rest behind : List ℕ) → i < n → rest ≡ b ∷ behind → (b ≡ 0 → ⊥) → b < 64
    → None ≡ octets_of b behind → None ≡ behind_owner (n - i) rest
unfolding behind_owner
owner_cut n i b rest behind less e some short found =
    let e₁ : eqb b 0 ≡ false = ne_eqb b 0 some in
    let e₂ : ltb b 64 ≡ true = lt-ltb _ _ short in
    rw (e₁, e₂, sym found) at (owner_from n i b rest behind less e)

pub owner_reserved : (n i b : ℕ) (rest behind : List ℕ) → i < n → rest ≡ b ∷ behind → (b ≡ 0 → ⊥) → 64 ≤ b → b < 192
    → None ≡ behind_owner (n - i) rest
unfolding behind_owner
owner_reserved n i b rest behind less e some long short =
    let e₁ : eqb b 0 ≡ false = ne_eqb b 0 some in
    let e₂ : ltb b 64 ≡ false = le-ltb _ _ long in
    let e₃ : ltb b 192 ≡ true = lt-ltb _ _ short in
    rw (e₁, e₂, e₃) at (owner_from n i b rest behind less e)

pub owner_half : (n i b : ℕ) (rest behind : List ℕ) → i < n → rest ≡ b ∷ behind → (b ≡ 0 → ⊥) → 64 ≤ b → 192 ≤ b → length behind ≡ 0
    → None ≡ behind_owner (n - i) rest
unfolding behind_owner
owner_half n i b rest (x ∷ behind) less e some long tall none = absurd (omega (arith, none))
owner_half n i b rest [] less e some long tall none =
    let e₁ : eqb b 0 ≡ false = ne_eqb b 0 some in
    let e₂ : ltb b 64 ≡ false = le-ltb _ _ long in
    let e₃ : ltb b 192 ≡ false = le-ltb _ _ tall in
    rw (e₁, e₂, e₃) at (owner_from n i b rest [] less e)

pub owner_pointer : (n i b low : ℕ) (rest behind next : List ℕ) → i < n → rest ≡ b ∷ behind → (b ≡ 0 → ⊥) → 64 ≤ b → 192 ≤ b
    → behind ≡ low ∷ next → Some next ≡ behind_owner (n - i) rest
unfolding behind_owner
owner_pointer n i b low rest behind next less e some long tall two =
    let e₁ : eqb b 0 ≡ false = ne_eqb b 0 some in
    let e₂ : ltb b 64 ≡ false = le-ltb _ _ long in
    let e₃ : ltb b 192 ≡ false = le-ltb _ _ tall in
    rw (e₁, e₂, e₃) at (owner_from n i b rest (low ∷ next) less (e ∙ ap (λ s. b ∷ s) two))

-- ---- questions

-- what follows one question
abbrev pub behind_one : List ℕ → Option (List ℕ)
behind_one octets = behind_questions 1 octets

pub questions_out : (k : ℕ) (rest : List ℕ) → k ≡ 0 → Some rest ≡ behind_questions k rest
unfolding behind_questions
questions_out k rest e = ap (λ j. behind_questions j rest) (sym e)

-- one question, and then the others
one_then : (k : ℕ) (octets : List ℕ) → (behind_one octets >>= λ rest. behind_questions k rest) ≡ behind_questions (suc k) octets
unfolding behind_questions
one_then k octets = by (behind_owner 128 octets)
  where
    by : (o : Option (List ℕ))
        → ((o >>= λ fields. octets_of 4 fields >>= λ x. behind_questions 0 x.1) >>= λ rest. behind_questions k rest)
        ≡ (o >>= λ fields. octets_of 4 fields >>= λ x. behind_questions k x.1)
    by None = refl
    by (Some fields) = inner (octets_of 4 fields)
      where
        inner : (o : Option (List ℕ × List ℕ))
            → ((o >>= λ x. behind_questions 0 x.1) >>= λ rest. behind_questions k rest) ≡ (o >>= λ x. behind_questions k x.1)
        inner None = refl
        inner (Some x) = refl

questions_from : (n i : ℕ) (rest : List ℕ) → i < n → behind_questions (suc (n - (i + 1))) rest ≡ behind_questions (n - i) rest
questions_from n i rest less = ap (λ j. behind_questions j rest) (one_less n i less)

pub questions_none : (n i : ℕ) (rest : List ℕ) → i < n → None ≡ behind_one rest → None ≡ behind_questions (n - i) rest
questions_none n i rest less e =
    ap (λ o. o >>= λ more. behind_questions (n - (i + 1)) more) e ∙ one_then (n - (i + 1)) rest ∙ questions_from n i rest less

pub questions_more : (n i : ℕ) (rest next : List ℕ) → i < n → Some next ≡ behind_one rest
    → behind_questions (n - (i + 1)) next ≡ behind_questions (n - i) rest
questions_more n i rest next less e =
    ap (λ o. o >>= λ more. behind_questions (n - (i + 1)) more) e ∙ one_then (n - (i + 1)) rest ∙ questions_from n i rest less

-- ---- options

pub options_end : (n i : ℕ) (rest : List ℕ) → i < n → rest ≡ [] → true ≡ are_options (n - i) rest
unfolding are_options
options_end n i rest less e = ap (are_options (suc (n - (i + 1)))) (sym e) ∙ ap (λ j. are_options j rest) (one_less n i less)

pub options_out : (k : ℕ) (rest : List ℕ) → k ≡ 0 → false ≡ are_options k rest
unfolding are_options
options_out k rest e = ap (λ j. are_options j rest) (sym e)

pub options_none : (n i : ℕ) (rest : List ℕ) → i < n → (rest ≡ [] → ⊥) → None ≡ behind_option rest → false ≡ are_options (n - i) rest
unfolding are_options
options_none n i [] less some e = absurd (some refl)
options_none n i (b ∷ rest) less some e =
    let more : are_options (suc (n - (i + 1))) (b ∷ rest) ≡ are_options (n - i) (b ∷ rest) = ap (λ j. are_options j (b ∷ rest)) (one_less n i less) in
    rw (sym e) at more

pub options_more : (n i : ℕ) (rest next : List ℕ) → i < n → (rest ≡ [] → ⊥) → Some next ≡ behind_option rest
    → are_options (n - (i + 1)) next ≡ are_options (n - i) rest
unfolding are_options
options_more n i [] next less some e = absurd (some refl)
options_more n i (b ∷ rest) next less some e =
    let more : are_options (suc (n - (i + 1))) (b ∷ rest) ≡ are_options (n - i) (b ∷ rest) = ap (λ j. are_options j (b ∷ rest)) (one_less n i less) in
    rw (sym e) at more

-- ---- records

abbrev Framed : Type 0
Framed = RecordFrame × List ℕ × List ℕ

pub additionals_out : (k : ℕ) (said : Option Extension) (rest : List ℕ) → k ≡ 0 → Some (said, rest) ≡ additionals_of k said rest
unfolding additionals_of
additionals_out k said rest e = ap (λ j. additionals_of j said rest) (sym e)

additionals_from : (n i : ℕ) (said : Option Extension) (rest : List ℕ) → i < n
    → additionals_of (suc (n - (i + 1))) said rest ≡ additionals_of (n - i) said rest
additionals_from n i said rest less = ap (λ j. additionals_of j said rest) (one_less n i less)

pub additionals_none : (n i : ℕ) (said : Option Extension) (rest : List ℕ) → i < n → None ≡ record_frame_of rest
    → None ≡ additionals_of (n - i) said rest
unfolding additionals_of
additionals_none n i said rest less e = rw (sym e) at (additionals_from n i said rest less)

pub additionals_refused : (n i : ℕ) (said : Option Extension) (r : Framed) (rest : List ℕ) → i < n → Some r ≡ record_frame_of rest
    → None ≡ with_record said r.0 r.1 → None ≡ additionals_of (n - i) said rest
unfolding additionals_of
additionals_refused n i said r rest less e f =
    ap (λ x. x >>= λ more. additionals_of (n - (i + 1)) more r.2) f
    ∙ (rw (sym e) at (additionals_from n i said rest less))

pub additionals_more : (n i : ℕ) (said more : Option Extension) (r : Framed) (rest : List ℕ) → i < n → Some r ≡ record_frame_of rest
    → Some more ≡ with_record said r.0 r.1 → additionals_of (n - (i + 1)) more r.2 ≡ additionals_of (n - i) said rest
unfolding additionals_of
additionals_more n i said more r rest less e f =
    ap (λ x. x >>= λ more. additionals_of (n - (i + 1)) more r.2) f
    ∙ (rw (sym e) at (additionals_from n i said rest less))

pub authorities_out : (k : ℕ) (rest : List ℕ) → k ≡ 0 → Some rest ≡ behind_authorities k rest
unfolding behind_authorities
authorities_out k rest e = ap (λ j. behind_authorities j rest) (sym e)

authorities_from : (n i : ℕ) (rest : List ℕ) → i < n → behind_authorities (suc (n - (i + 1))) rest ≡ behind_authorities (n - i) rest
authorities_from n i rest less = ap (λ j. behind_authorities j rest) (one_less n i less)

pub authorities_none : (n i : ℕ) (rest : List ℕ) → i < n → None ≡ record_frame_of rest → None ≡ behind_authorities (n - i) rest
unfolding behind_authorities
authorities_none n i rest less e = rw (sym e) at (authorities_from n i rest less)

pub authorities_refused : (n i : ℕ) (r : Framed) (rest : List ℕ) → i < n → Some r ≡ record_frame_of rest → eqb r.0.record_type 41 ≡ true
    → None ≡ behind_authorities (n - i) rest
unfolding behind_authorities
authorities_refused n i r rest less e f =
    ap (λ c. cond c None (behind_authorities (n - (i + 1)) r.2)) (sym f) ∙ (rw (sym e) at (authorities_from n i rest less))

pub authorities_more : (n i : ℕ) (r : Framed) (rest : List ℕ) → i < n → Some r ≡ record_frame_of rest → eqb r.0.record_type 41 ≡ false
    → behind_authorities (n - (i + 1)) r.2 ≡ behind_authorities (n - i) rest
unfolding behind_authorities
authorities_more n i r rest less e f =
    ap (λ c. cond c None (behind_authorities (n - (i + 1)) r.2)) (sym f) ∙ (rw (sym e) at (authorities_from n i rest less))
