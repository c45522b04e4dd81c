-- A name that is cut is read back whole
use Rattle.std.proofs.Common.{◌≡◌, ℕ, zero, suc, ◌+◌, ◌<◌, ◌≤◌, List, [], ◌∷◌, ◌++◌, length, drop, Option, Some, None, sym, ap, ◌∙◌, append_assoc, arith, inl, inr}
use Rattle.std.proofs.lemmas.List.{drop_all}
use Rattle.std.proofs.lemmas.Bool.{cases_lt}
use Rattle.std.specs.List.{AllByRecursion}
use Rattle.zone_proto.specs.Names.{Name, IsLabel, IsName, wire_length}
use Rattle.message_reading.specs.MessageNames.{name_within, name_of}
use Rattle.message_writing.specs.Continuing.{Continues}
use Rattle.message_writing.specs.KnownNames.{IsKnown, IsCut, IsRest, IsShort, cut_text, ending}
use Rattle.message_writing.proofs.Steps.{goes_on_at}
use Rattle.message_writing.proofs.NameSteps.{within_goes_on, nothing_within, end_back, label_back, pointer_back, name_back}

-- ---- a name has at most 127 labels

pub two_a_label : (n : Name) → AllByRecursion IsLabel n → length n + length n + 1 ≤ wire_length n
two_a_label [] h = omega arith
two_a_label (l ∷ n) h = omega (arith, h.0.some, two_a_label n h.1)

pub few_labels : (n : Name) → IsName n → length n ≤ 127
few_labels n h = omega (arith, two_a_label n h.labels, h.short)

-- ---- what is at an offset is there in each message that goes on

pub known_inside : (octets : List ℕ) (p : ℕ) (n : Name) → IsKnown octets p n → p < length octets
known_inside octets p n h =
    elim (cases_lt p (length octets)) [
      | inl inside ↦ inside
      | inr past ↦ absurd (nothing_within 127 octets p (n, h.stands.after) (ap (name_within 127 octets p) (sym (drop_all p octets past)) ∙ h.stands.stands))
    ]

pub known_after : (octets rest m : List ℕ) (g : Continues octets rest m) (p : ℕ) (n : Name) (k : ℕ) → 127 ≤ k → (h : IsKnown octets p n)
    → name_within k m p (drop p m) ≡ Some (n, h.stands.after ++ rest)
known_after octets rest m g p n k enough h =
    let inside = known_inside octets p n h in
    ap (name_within k m p) (goes_on_at octets rest m g.body p h.low (omega arith))
    ∙ within_goes_on 127 k p p octets rest m (drop p octets) rest (n, h.stands.after) enough (omega arith) g.body h.stands.stands

-- ---- the end of a cut name, and the labels before it

ending_back : (before more m : List ℕ) (at k : ℕ) (pointer : Option ℕ) (left : Name) (after : List ℕ) → Continues before more m → length before ≤ at → 127 ≤ k
    → IsRest before pointer left → name_within (suc k) m at (ending pointer ++ after) ≡ Some (left, after)
ending_back before more m at k None left after g behind enough rest =
    end_back k m at after ∙ ap (λ (n : Name). Some (n, after)) (sym rest)
ending_back before more m at k (Some p) left after g behind enough rest =
    let inside = known_inside before p left rest in
    pointer_back k m at p left (rest.stands.after ++ more) after rest.low (omega arith) rest.short (known_after before more m g p left k enough rest)

cut_within : (labels : ℕ) (n : Name) (before more m : List ℕ) (at k : ℕ) (pointer : Option ℕ) (after : List ℕ) → Continues before more m → length before ≤ at
    → 128 + labels ≤ k → labels ≤ length n → AllByRecursion IsLabel n → IsRest before pointer (drop labels n)
    → name_within k m at (cut_text labels pointer n ++ after) ≡ Some (n, after)
cut_within labels n before more m at zero pointer after g behind enough within valid rest = absurd (omega arith)
cut_within zero n before more m at (suc k) pointer after g behind enough within valid rest =
    ending_back before more m at k pointer n after g behind (omega arith) rest
cut_within (suc labels) [] before more m at (suc k) pointer after g behind enough within valid rest = absurd (omega arith)
cut_within (suc labels) (l ∷ n) before more m at (suc k) pointer after g behind enough within valid rest =
    let tail = cut_within labels n before more m at k pointer after g (omega arith) (omega arith) (omega arith) valid.1 rest in
    let label = label_back k m at l (cut_text labels pointer n ++ after) n after valid.0.some valid.0.short tail in
    ap (λ s. name_within (suc k) m at (length l ∷ s)) (append_assoc l (cut_text labels pointer n) after) ∙ label

-- a cut name is read back at each offset behind what stood before it
pub cut_back : (before more m : List ℕ) (at labels : ℕ) (pointer : Option ℕ) (n : Name) (after : List ℕ) → Continues before more m → length before ≤ at
    → IsCut before labels pointer n → IsName n → name_of m at (cut_text labels pointer n ++ after) ≡ Some (n, after)
cut_back before more m at labels pointer n after g behind cut valid =
    let few = few_labels n valid in
    name_back m at (cut_text labels pointer n ++ after) n after valid.short
    (cut_within labels n before more m at 256 pointer after g behind (omega (arith, cut.within)) cut.within valid.labels cut.rest)

pub cut_short : (octets : List ℕ) (labels : ℕ) (pointer : Option ℕ) (n : Name) → IsCut octets labels pointer n → IsShort pointer
cut_short octets labels None n cut = tt
cut_short octets labels (Some p) n cut = cut.rest.short
