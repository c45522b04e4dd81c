-- The name that is asked for, behind the header, where pointers lead to it
use Rattle.std.proofs.Common.{◌≡◌, ℕ, zero, suc, ◌+◌, ◌<◌, ◌≤◌, List, [], ◌∷◌, ◌++◌, length, drop, Option, Some, None, sym, ap, subst, ◌∙◌, append_assoc, arith}
use Rattle.std.proofs.lemmas.List.{drop-append-le, drop_at, length-append}
use Rattle.std.specs.Borrow.{Bor}
use Rattle.std.specs.List.{AllByRecursion}
use Rattle.std.specs.Prelude.{IsSomeAnd}
use Rattle.zone_proto.specs.Names.{Name, IsLabel, IsName, wire_form, wire_length}
use Rattle.zone_proto.specs.declared.record.Record.{Record}
use Rattle.message_reading.specs.MessageNames.{name_within}
use Rattle.message_writing.specs.Continuing.{AppendsAll, Continues}
use Rattle.message_writing.specs.KnownNames.{IsAskedAt, IsCut, IsKnown}
use Rattle.message_writing.specs.StrictReading.{strict_record_of}
use Rattle.message_writing.proofs.InOrder.{written_behind}
use Rattle.message_writing.proofs.NameSteps.{end_back, label_back}
use Rattle.message_writing.proofs.NameWriting.{known_after, known_inside, two_a_label}

-- a name in full is read in one step for each of its labels and one more
wire_within : (k : ℕ) (n : Name) (m : List ℕ) (at : ℕ) (after : List ℕ) → length n < k → AllByRecursion IsLabel n
    → name_within k m at (wire_form n ++ after) ≡ Some (n, after)
wire_within zero n m at after few valid = absurd (omega arith)
wire_within (suc k) [] m at after few valid = end_back k m at after
wire_within (suc k) (l ∷ n) m at after few valid =
    ap (λ s. name_within (suc k) m at (length l ∷ s)) (append_assoc l (wire_form n) after)
    ∙ label_back k m at l (wire_form n ++ after) n after valid.0.some valid.0.short (wire_within k n m at after (omega arith) valid.1)

-- the name of a question that was put behind room for a header
pub known_begun : (blank start rest : List ℕ) (n : Name) → length blank ≡ 12 → start ≡ blank ++ (wire_form n ++ rest) → IsName n → wire_length n < 255
    → IsKnown start 12 n
known_begun blank start rest n twelve is valid short =
    let there : drop 12 start ≡ wire_form n ++ rest = ap (drop 12) is ∙ drop_at blank (wire_form n ++ rest) 12 twelve in
    record {
      low = omega arith;
      short = omega arith;
      stands = record {
        after = rest;
        stands = ap (name_within 127 start 12) there
            ∙ wire_within 127 n start 12 rest (omega (arith, two_a_label n valid.labels, short)) valid.labels;
      };
    }

-- it stays there
pub known_on : (old new written : List ℕ) (p : ℕ) (n : Name) → new ≡ old ++ written → IsKnown old p n → IsKnown new p n
known_on old new written p n is h =
    let long : 12 ≤ length old = omega (arith, h.low, known_inside old p n h) in
    let g : Continues old written new = record {
      size = ap length is ∙ length-append old written;
      body = ap (drop 12) is ∙ drop-append-le 12 old written long;
    } in
    record {
      low = h.low;
      short = h.short;
      stands = record { after = h.stands.after ++ written; stands = known_after old written new g p n 127 (omega arith) h };
    }

pub asked_on : (asked : Option (Bor Name)) (old new : List ℕ) (rs : List Record) → AppendsAll strict_record_of old new rs → IsAskedAt old asked
    → IsAskedAt new asked
asked_on None old new rs h k = tt
asked_on (Some n) old new rs h k =
    let w = written_behind old new rs h in known_on old new w.0 12 n.now w.1 k

pub asked_at : (a b : List ℕ) (asked : Option (Bor Name)) → a ≡ b → IsAskedAt a asked → IsAskedAt b asked
asked_at a b asked e h = subst (λ s. IsAskedAt s asked) e h

-- a pointer to it stands for the whole name
pub cut_asked : (octets : List ℕ) (asked : Option (Bor Name)) (n : Name) → IsSomeAnd asked (λ x. n ≡ x.now) → IsAskedAt octets asked
    → IsCut octets 0 (Some 12) n
cut_asked octets None n same h = absurd same
cut_asked octets (Some x) n same h = record { within = omega arith; rest = subst (IsKnown octets 12) (sym same) h }
