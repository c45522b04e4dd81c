-- Values that are written one behind the other
use Rattle.std.proofs.Common.{◌≡◌, ℕ, suc, ◌+◌, ◌<◌, ◌≤◌, List, [], ◌∷◌, ◌++◌, length, take, drop, Some, refl, sym, ap, subst, ◌∙◌, append_assoc, arith}
use Rattle.std.proofs.lemmas.List.{length-append, append-nil, take_at, drop-append-le}
use Rattle.zone_proto.specs.declared.record.Record.{Record}
use Rattle.message_reading.specs.MessageNames.{name_of, name_within}
use Rattle.message_reading.specs.Messages.{several}
use Rattle.message_writing.specs.StrictReading.{strict_record_of}
use Rattle.message_writing.specs.Continuing.{Continues, Appends, AppendsAll}

-- a message that goes on with octets and then more goes on with the first of them
pub continues_less : (a b c m : List ℕ) → 12 ≤ length a → Continues (a ++ b) c m → Continues a (b ++ c) m
continues_less a b c m long g = record {
  size = omega (arith, g.size, length-append a b, length-append b c);
  body = g.body ∙ ap (λ s. s ++ c) (drop-append-le 12 a b long) ∙ append_assoc (drop 12 a) b c;
}

-- records that were written one behind the other are read one after the other
pub record AreRead (old new : List ℕ) (rs : List Record) : Type 0 where
  pub written : List ℕ
  pub is : new ≡ old ++ written
  pub read : (m after : List ℕ) → Continues new after m → several (strict_record_of m) (length rs) (written ++ after) ≡ Some (rs, after)

several_step : (n : ℕ) (m octets : List ℕ) (x : Record × List ℕ) (xs : List Record × List ℕ) → strict_record_of m octets ≡ Some x
    → several (strict_record_of m) n x.1 ≡ Some xs → several (strict_record_of m) (suc n) octets ≡ Some (x.0 ∷ xs.0, xs.1)
unfolding several
several_step n m octets x xs e f = rw (e, f) refl

pub all_read : (old new : List ℕ) (rs : List Record) → 12 ≤ length old → AppendsAll strict_record_of old new rs → AreRead old new rs
unfolding several
all_read old new [] long h = record { written = []; is = h ∙ sym (append-nil old); read = λ m after g. refl }
all_read old new (r ∷ rs) long (mid, a, h) =
    let first : mid ≡ old ++ a.written = a.is in
    let longer : 12 ≤ length mid = omega (arith, ap length first, length-append old a.written) in
    let rest = all_read mid new rs longer h in
    record {
      written = a.written ++ rest.written;
      is = rest.is ∙ ap (λ s. s ++ rest.written) first ∙ append_assoc old a.written rest.written;
      read = λ m after g.
          let text : List ℕ = rest.written ++ after in
          let at_mid : Continues mid text m = continues_less mid rest.written after m longer (subst (λ s. Continues s after m) rest.is g) in
          let at_old : Continues old (a.written ++ text) m = continues_less old a.written text m long (subst (λ s. Continues s text m) first at_mid) in
          ap (several (strict_record_of m) (suc (length rs))) (append_assoc a.written rest.written after)
          ∙ several_step (length rs) m (a.written ++ text) (r, text) (rs, after) (a.back m text at_old) (rest.read m after g);
    }

pub one_more : (old mid new : List ℕ) (rs : List Record) (r : Record) → AppendsAll strict_record_of old mid rs → Appends strict_record_of mid new r
    → AppendsAll strict_record_of old new (rs ++ r ∷ [])
one_more old mid new [] r h a = (new, subst (λ s. Appends strict_record_of s new r) h a, refl)
one_more old mid new (x ∷ rs) r (next, b, h) a = (next, b, one_more next mid new rs r h a)

pub then_all : (old mid new : List ℕ) (rs ss : List Record) → AppendsAll strict_record_of old mid rs → AppendsAll strict_record_of mid new ss
    → AppendsAll strict_record_of old new (rs ++ ss)
then_all old mid new [] ss h k = subst (λ s. AppendsAll strict_record_of s new ss) h k
then_all old mid new (r ∷ rs) ss (next, a, h) k = (next, a, then_all next mid new rs ss h k)

-- what was written comes after what was there
pub written_behind : (old new : List ℕ) (rs : List Record) → AppendsAll strict_record_of old new rs → (w : List ℕ) × (new ≡ old ++ w)
written_behind old new [] h = ([], h ∙ sym (append-nil old))
written_behind old new (r ∷ rs) (mid, a, h) =
    let w = written_behind mid new rs h in
    (a.written ++ w.0, w.1 ∙ ap (λ s. s ++ w.0) a.is ∙ append_assoc old a.written w.0)

pub stands_behind : (old new : List ℕ) (rs : List Record) → AppendsAll strict_record_of old new rs → take (length old) new ≡ old
stands_behind old new rs h =
    let w = written_behind old new rs h in ap (take (length old)) w.1 ∙ take_at old w.0 (length old) refl

-- a record has an octet at least
nothing_is_read : (m : List ℕ) (x : Record × List ℕ) → strict_record_of m [] ≡ Some x → ⊥
unfolding strict_record_of name_of name_within
nothing_is_read m x e = cc

pub grows : (old new : List ℕ) (r : Record) → Appends strict_record_of old new r → length old < length new
grows old new r a = by a.written refl
  where
    by : (w : List ℕ) → a.written ≡ w → length old < length new
    by [] e =
        let g : Continues old (a.written ++ []) old = subst (λ s. Continues old (s ++ []) old) (sym e) (record { size = omega arith; body = sym (append-nil (drop 12 old)) }) in
        absurd (nothing_is_read old (r, []) (ap (λ s. strict_record_of old (s ++ [])) (sym e) ∙ a.back old [] g))
    by (b ∷ w) e = omega (arith, ap length a.is, ap length e, length-append old a.written)

pub all_grow : (old new : List ℕ) (rs : List Record) → AppendsAll strict_record_of old new rs → length old + length rs ≤ length new
all_grow old new [] h = omega (arith, ap length h)
all_grow old new (r ∷ rs) (mid, a, h) = omega (arith, grows old mid r a, all_grow mid new rs h)
