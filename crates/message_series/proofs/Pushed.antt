-- Messages put one behind the other, and read back
use Rattle.std.proofs.Common.{◌≡◌, ◌≢◌, ℕ, zero, suc, ◌+◌, ◌*◌, ◌^◌, ◌<◌, ◌≤◌, Bool, true, false, true≢false, ◌==◌, List, [], ◌∷◌, ◌++◌, length, take, drop, refl, sym, ap, ◌∙◌, arith, length-append, length-drop, append_assoc}
use Rattle.std.specs.Prelude.{Option, Some, None, if◌then◌else◌}
use Rattle.std.proofs.Math.Dec.{eqb-suc-zero}
use Rattle.std.proofs.lemmas.Bool.{le-leb}
use Rattle.std.proofs.lemmas.Grind.{flat_map-append}
use Rattle.std.proofs.lemmas.List.{append-nil, drop_at, take-append-drop, take_at}
use Rattle.zone_proto.specs.declared.record.Record.{Record}
use Rattle.message_reading.specs.Octets.{◌>>=◌, alone, octets_of}
use Rattle.message_reading.specs.Messages.{Parts, message_of}
use Rattle.message_reading.specs.declared.query.Query.{Query}
use Rattle.message_writing.specs.DataText.{short_text}
use Rattle.message_writing.specs.Responses.{all_records, records_of as group_records}
use Rattle.message_writing.specs.declared.response.Group.{Group}
use Rattle.message_writing.proofs.Fields.{short_back}
use Rattle.message_series.specs.Series.{all_answers_of, answers_of, records_of, HasFirst, IsPushed}
use Rattle.message_series.specs.Singles.{AreSingle}
use Rattle.message_series.proofs.OneByOne.{singles_left}

-- ---- one message

octets_back : (text rest : List ℕ) → octets_of (length text) (text ++ rest) ≡ Some (text, rest)
octets_back text rest =
    ap (λ b. if b then Some (take (length text) (text ++ rest), drop (length text) (text ++ rest)) else None)
    (le-leb (length text) (length (text ++ rest)) (omega (arith, length-append text rest)))
    ∙ (λ i. Some (take_at text rest (length text) refl i, drop_at text rest (length text) refl i))

pub answers_back : (text rest : List ℕ) (m : Parts) → message_of text ≡ Some m → answers_of ((short_text (length text) ++ text) ++ rest) ≡ Some (m.answers, rest)
answers_back text rest m h =
    ap (λ o. o >>= λ count. octets_of count.0 count.1 >>= λ text. message_of text.0 >>= λ message. Some (message.answers, text.1)) (short_back (length text) (text ++ rest))
    ∙ ap (λ o. o >>= λ text. message_of text.0 >>= λ message. Some (message.answers, text.1)) (octets_back text rest)
    ∙ ap (λ o. o >>= λ message. Some (message.answers, rest)) h

-- ---- one more

abbrev with_answers : List Record → Option (List Record × List ℕ) → Option (List Record × List ℕ)
with_answers front o = o >>= λ x. Some (front ++ x.0, x.1)

pub all_answers_last : (n : ℕ) (octets : List ℕ) → (all_answers_of n octets >>= λ x. with_answers x.0 (answers_of x.1)) ≡ all_answers_of (suc n) octets
unfolding all_answers_of
all_answers_last zero octets = by (answers_of octets)
  where
    by : (o : Option (List Record × List ℕ)) → with_answers [] o ≡ (o >>= λ first. Some (first.0 ++ [], first.1))
    by None = refl
    by (Some f) = ap (λ xs. Some (xs, f.1)) (sym (append-nil f.0))
all_answers_last (suc n) octets = by (answers_of octets) (λ rest. all_answers_last n rest)
  where
    last : (f : List Record) (r : Option (List Record × List ℕ))
        → (with_answers f r >>= λ x. with_answers x.0 (answers_of x.1)) ≡ with_answers f (r >>= λ x. with_answers x.0 (answers_of x.1))
    last f None = refl
    last f (Some r) = inner (answers_of r.1)
      where
        inner : (o : Option (List Record × List ℕ)) → with_answers (f ++ r.0) o ≡ with_answers f (with_answers r.0 o)
        inner None = refl
        inner (Some y) = ap (λ xs. Some (xs, y.1)) (append_assoc f r.0 y.0)

    by : (o : Option (List Record × List ℕ))
        → ((rest : List ℕ) → (all_answers_of n rest >>= λ x. with_answers x.0 (answers_of x.1)) ≡ all_answers_of (suc n) rest)
        → ((o >>= λ first. with_answers first.0 (all_answers_of n first.1)) >>= λ x. with_answers x.0 (answers_of x.1))
        ≡ (o >>= λ first. with_answers first.0 (all_answers_of (suc n) first.1))
    by None i = refl
    by (Some f) i = last f.0 (all_answers_of n f.1) ∙ ap (with_answers f.0) (i f.1)

-- ---- on the way

-- so many messages are read of octets, whatever follows them: with these groups those that are left have the records of all
pub record AreWritten (count : ℕ) (octets : List ℕ) (left all : List Group) : Type 0 where
  pub written : List Record
  pub read : (rest : List ℕ) → all_answers_of count (octets ++ rest) ≡ Some (written, rest)
  pub parts : written ++ all_records left ≡ all_records all
  pub single : AreSingle left
  pub size : length octets ≤ count * 65537
  pub least : count + length left ≤ length all
  pub few : count ≤ 65534

pub none_written : (groups : List Group) → AreSingle groups → AreWritten 0 [] groups groups
unfolding all_answers_of
none_written groups single = record {
  written = [];
  read = λ rest. refl;
  parts = refl;
  single = single;
  size = omega arith;
  least = omega arith;
  few = omega arith;
}

pub one_written : (count taken : ℕ) (octets new : List ℕ) (left all : List Group) → AreWritten count octets left all → count ≢ 65534
    → IsPushed octets new left taken → AreWritten (count + 1) new (drop taken left) all
one_written count taken octets new left all h more p =
    let text : List ℕ = p.text in
    let put : new ≡ octets ++ text = p.put in
    let reads : (rest : List ℕ) → answers_of (text ++ rest) ≡ Some (all_records (take taken left), rest) = p.reads in
    record {
      written = h.written ++ all_records (take taken left);
      read = λ rest.
          let next : count + 1 ≡ suc count = omega arith in
          ap (λ k. all_answers_of k (new ++ rest)) next
          ∙ ap (λ x. all_answers_of (suc count) (x ++ rest)) put
          ∙ ap (all_answers_of (suc count)) (append_assoc octets text rest)
          ∙ sym (all_answers_last count (octets ++ (text ++ rest)))
          ∙ ap (λ o. o >>= λ x. with_answers x.0 (answers_of x.1)) (h.read (text ++ rest))
          ∙ ap (with_answers h.written) (reads rest);
      parts =
          append_assoc h.written (all_records (take taken left)) (all_records (drop taken left))
          ∙ ap (λ rs. h.written ++ rs) (sym (flat_map-append group_records (take taken left) (drop taken left)) ∙ ap all_records (take-append-drop taken left))
          ∙ h.parts;
      single = singles_left taken left h.single;
      size = omega (arith, ap length put, length-append octets text, p.short, h.size);
      least = omega (arith, h.least, p.some, p.at_most, length-drop taken left);
      few = omega (arith, h.few, more);
    }

pub all_written : (count : ℕ) (octets text : List ℕ) (left all : List Group) → AreWritten count octets left all → left ≡ [] → text ≡ short_text count ++ octets
    → records_of text ≡ Some (all_records all)
all_written count octets text left all h none is =
    ap records_of is
    ∙ ap (λ o. o >>= λ c. alone (all_answers_of c.0 c.1)) (short_back count octets)
    ∙ ap (λ x. alone (all_answers_of count x)) (sym (append-nil octets))
    ∙ ap alone (h.read [])
    ∙ ap (λ rs. Some rs) (sym (append-nil h.written) ∙ ap (λ gs. h.written ++ all_records gs) (sym none) ∙ h.parts)

-- no series is longer than a number of four octets can say
pub is_short : (count : ℕ) (octets text : List ℕ) (left all : List Group) → AreWritten count octets left all → text ≡ short_text count ++ octets → length text < 2 ^ 32
is_short count octets text left all h is = omega (arith, ap length is, h.size, h.few)

-- a message that was written is put behind octets
pub pushed : (q : Query) (old new text : List ℕ) (groups : List Group) (taken : ℕ) → HasFirst q text groups taken → 0 < taken
    → new ≡ old ++ (short_text (length text) ++ text) → IsPushed old new groups taken
pushed q old new text groups taken first some put = record {
  some = some;
  at_most = first.at_most;
  text = short_text (length text) ++ text;
  put = put;
  short = omega (arith, first.within);
  reads = λ rest. answers_back text rest first.message first.reads ∙ ap (λ rs. Some (rs, rest)) first.answers;
}

-- a test of emptiness
pub none_there : (groups : List Group) (b : Bool) → b ≡ (length groups == 0) → b ≡ true → groups ≡ []
none_there [] b e f = refl
none_there (g ∷ gs) b e f = absurd (true≢false (sym f ∙ e ∙ eqb-suc-zero (length gs)))

pub some_there : (groups : List Group) (b : Bool) → b ≡ (length groups == 0) → b ≡ false → 0 < length groups
some_there [] b e f = absurd (true≢false (sym e ∙ f))
some_there (g ∷ gs) b e f = omega arith
