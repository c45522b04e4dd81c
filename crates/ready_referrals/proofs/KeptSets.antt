-- Sets that are kept one by one, and put one behind the other
use Rattle.std.proofs.Common.{◌≡◌, ℕ, suc, zero, ◌+◌, ◌<◌, ◌≤◌, ◌||◌, Bool, true, false, not, cond, List, [], ◌∷◌, ◌++◌, length, map, take, refl, sym, ap, subst, ◌∙◌, arith}
use Rattle.std.specs.Borrow.{Bor}
use Rattle.std.specs.List.{list_any}
use Rattle.std.specs.Prelude.{Option, Some, IfSome, IsTrue, filter, get_or}
use Rattle.std.proofs.lemmas.List.{map-append, map_more, take_all}
use Rattle.zone_proto.specs.Names.{Name}
use Rattle.zone_proto.specs.Sets.{RRset}
use Rattle.zone_proto.specs.declared.record.Record.{Record}
use Rattle.message_writing.specs.KeptText.{AreKept, IsPlaced}
use Rattle.message_writing.specs.KnownNames.{IsKnown}
use Rattle.message_writing.specs.declared.kept_records.KeptRecords.{KeptRecords}
use Rattle.message_writing.specs.declared.response.Group.{Group}
use Rattle.message_writing.specs.declared.response.Section.{Section}
use Rattle.message_writing.specs.declared.response_writer.ResponseWriter.{ResponseWriter}
use Rattle.message_writing.specs.Responses.{records_of}
use Rattle.message_writing.specs.Writers.{PutsGroups}
use Rattle.zone_lookup.specs.FoundSets.{found_set}
use Rattle.zone_response.specs.Sections.{covers, own_signatures, sent, sent_set, with_ttl}
use Rattle.zone_response.specs.declared.response.Part.{Part}
use Rattle.zone_response.specs.declared.response.Part.TheVariants as part
use Rattle.zone_response.specs.declared.response.Sent.{Sent}
use Rattle.zone_server.proofs.GroupFacts.{group_sent, puts_one, puts_then}
use Rattle.zone_server.specs.Answers.{records_sent}
use Rattle.zone_server.specs.Sending.{PutsSets}
use Rattle.ready_referrals.specs.Referrals.{unsigned, AreSetsKept, IsKeptSet}

-- ---- a set as it is sent is a group

abbrev lent : List Record → Bor (List Record)
lent rs = record { ref_ptr = (0, 0); now = rs }

abbrev group_for : Part → ℕ → RRset → Group
group_for part.Records ttl s = record { records = lent s.records; signatures = lent []; ttl = ttl }
group_for part.Signed ttl s = record { records = lent s.records; signatures = lent (own_signatures s); ttl = ttl }
group_for part.Signatures ttl s = record { records = lent []; signatures = lent (own_signatures s); ttl = ttl }

records_for : (p : Part) (ttl : ℕ) (s : RRset) → records_of (group_for p ttl s) ≡ records_sent (sent p ttl s)
records_for part.Records ttl s = group_sent (group_for part.Records ttl s) (sent part.Records ttl s) refl refl
records_for part.Signed ttl s = group_sent (group_for part.Signed ttl s) (sent part.Signed ttl s) refl refl
records_for part.Signatures ttl s = group_sent (group_for part.Signatures ttl s) (sent part.Signatures ttl s) refl refl

pub kept_set : (x : Name) (s : Sent) (k : KeptRecords) → AreKept x (records_sent (sent_set s)) k → IsKeptSet x (sent_set s) k
kept_set x s k h = record { group = group_for s.part s.ttl (found_set s.set); is_set = records_for s.part s.ttl (found_set s.set); kept = h }

-- ---- signatures

none_pass : {X : Type 0} (p : X → Bool) (xs : List X) → list_any p xs ≡ false → filter p xs ≡ []
none_pass p [] e = refl
none_pass p (x ∷ xs) e = by (p x) e (none_pass p xs)
  where
    by : (b : Bool) → (b || list_any p xs) ≡ false → (list_any p xs ≡ false → filter p xs ≡ []) → cond b (x ∷ filter p xs) (filter p xs) ≡ []
    by true q h = cc
    by false q h = h q

pub no_signature : (p : Part) (ttl : ℕ) (s : RRset) → list_any (λ (r : Record). covers s.record_type r.rdata) s.signatures ≡ false → unsigned (sent p ttl s) ≡ sent p ttl s
no_signature part.Records ttl s e = refl
no_signature part.Signed ttl s e =
    sym (ap (λ rs. record (sent part.Signed ttl s) { signatures = map (with_ttl ttl) rs }) (none_pass (λ (r : Record). covers s.record_type r.rdata) s.signatures e))
no_signature part.Signatures ttl s e =
    sym (ap (λ rs. record (sent part.Signatures ttl s) { signatures = map (with_ttl ttl) rs }) (none_pass (λ (r : Record). covers s.record_type r.rdata) s.signatures e))

pub not_so : (b : Bool) → IsTrue (not b) → b ≡ false
not_so true t = cc
not_so false t = refl

pub unsigned_part : (p : Part) (s : Sent) → s.part ≡ p → unsigned (sent_set s) ≡ unsigned (sent p s.ttl (found_set s.set))
unsigned_part p s e = ap (λ r. unsigned (sent r s.ttl (found_set s.set))) e

pub unsigned_more : (sets : List Sent) (n : ℕ) (s : Sent) → n < length sets → s ≡ get_or sets n s → map unsigned (map sent_set (take n sets)) ≡ map sent_set (take n sets)
    → unsigned (sent_set s) ≡ sent_set s → map unsigned (map sent_set (take (n + 1) sets)) ≡ map sent_set (take (n + 1) sets)
unsigned_more sets n s inside is h e =
    let more : map sent_set (take (n + 1) sets) ≡ map sent_set (take n sets) ++ sent_set s ∷ [] =
    map_more sent_set sets n s inside ∙ ap (λ r. map sent_set (take n sets) ++ sent_set r ∷ []) (sym is) in
    ap (map unsigned) more ∙ map-append unsigned (map sent_set (take n sets)) (sent_set s ∷ []) ∙ (λ i. h i ++ e i ∷ []) ∙ sym more

-- ---- kept one by one

pub some_is : {X : Type 0} (o : Option X) (x : X) (P : X → Type 0) → o ≡ Some x → IfSome o P → P x
some_is o x P e h = subst (λ p. IfSome p P) e h

pub kept_more : (x : Name) (ss : List RRset) (ks : List KeptRecords) (s : RRset) (k : KeptRecords) → AreSetsKept x ss ks → IsKeptSet x s k → AreSetsKept x (ss ++ s ∷ []) (ks ++ k ∷ [])
kept_more x [] [] s k h one = (one, tt)
kept_more x [] (j ∷ ks) s k h one = absurd h
kept_more x (r ∷ ss) [] s k h one = absurd h
kept_more x (r ∷ ss) (j ∷ ks) s k h one = (h.0, kept_more x ss ks s k h.1 one)

pub one_more : (x : Name) (f : Sent → RRset) (sets : List Sent) (n : ℕ) (s : Sent) (ks new : List KeptRecords) (k : KeptRecords) → n < length sets → s ≡ get_or sets n s
    → AreSetsKept x (map f (take n sets)) ks → IsKeptSet x (f s) k → new ≡ ks ++ k ∷ [] → AreSetsKept x (map f (take (n + 1) sets)) new
one_more x f sets n s ks new k inside is h one e =
    let more : map f (take (n + 1) sets) ≡ map f (take n sets) ++ f s ∷ [] = map_more f sets n s inside ∙ ap (λ r. map f (take n sets) ++ f r ∷ []) (sym is) in
    subst (λ (ss : List RRset). AreSetsKept x ss new) (sym more)
    (subst (AreSetsKept x (map f (take n sets) ++ f s ∷ [])) (sym e) (kept_more x (map f (take n sets)) ks (f s) k h one))

pub all_of_them : (x : Name) (f : Sent → RRset) (sets : List Sent) (n : ℕ) (ks : List KeptRecords) → length sets ≤ n → AreSetsKept x (map f (take n sets)) ks → AreSetsKept x (map f sets) ks
all_of_them x f sets n ks past h = subst (λ (l : List Sent). AreSetsKept x (map f l) ks) (take_all n sets past) h

-- ---- put one by one

record IsNext (x : Name) (ss : List RRset) (n : ℕ) (k : KeptRecords) : Type 0 where
  pub set : RRset
  pub is : IsKeptSet x set k
  pub more : take (n + 1) ss ≡ take n ss ++ set ∷ []

next_kept : (x : Name) (ss : List RRset) (ks : List KeptRecords) (n : ℕ) (k : KeptRecords) → AreSetsKept x ss ks → n < length ks → k ≡ get_or ks n k → IsNext x ss n k
next_kept x [] [] n k h inside is = absurd (omega arith)
next_kept x [] (j ∷ ks) n k h inside is = absurd h
next_kept x (s ∷ ss) [] n k h inside is = absurd h
next_kept x (s ∷ ss) (j ∷ ks) zero k h inside is = record { set = s; is = subst (IsKeptSet x s) (sym is) h.0; more = refl }
next_kept x (s ∷ ss) (j ∷ ks) (suc n) k h inside is =
    let r = next_kept x ss ks n k h.1 (omega arith) is in
    let on : suc n + 1 ≡ suc (n + 1) = omega arith in
    record { set = r.set; is = r.is; more = ap (λ i. take i (s ∷ ss)) on ∙ ap (λ l. s ∷ l) r.more }

same_length : (x : Name) (ss : List RRset) (ks : List KeptRecords) → AreSetsKept x ss ks → length ss ≡ length ks
same_length x [] [] h = refl
same_length x [] (k ∷ ks) h = absurd h
same_length x (s ∷ ss) [] h = absurd h
same_length x (s ∷ ss) (k ∷ ks) h = ap suc (same_length x ss ks h.1)

module _ (x : Name) (ss : List RRset) (ks : List KeptRecords) (h : AreSetsKept x ss ks) where
  pub placed : (n : ℕ) (k : KeptRecords) (octets : List ℕ) (place : ℕ) → n < length ks → k ≡ get_or ks n k → IsKnown octets place x → (rs : List Record) × IsPlaced octets place rs k
  placed n k octets place inside is known =
      let r = next_kept x ss ks n k h inside is in
      (records_sent r.set, record { origin = x; known = known; kept = r.is.kept })

  pub puts_next : (section : Section) (n : ℕ) (k : KeptRecords) (place : ℕ) (w₀ w₁ w₂ : ResponseWriter) (o₀ o₁ o₂ : List ℕ) → n < length ks → k ≡ get_or ks n k → IsKnown o₁ place x
      → PutsSets section (take n ss) w₀ o₀ w₁ o₁ → ((g : Group) → IsPlaced o₁ place (records_of g) k → PutsGroups section (g ∷ []) w₁ o₁ w₂ o₂)
      → PutsSets section (take (n + 1) ss) w₀ o₀ w₂ o₂
  puts_next section n k place w₀ w₁ w₂ o₀ o₁ o₂ inside is known p q =
      let r = next_kept x ss ks n k h inside is in
      let g = r.is.group in
      let put : PutsSets section (r.set ∷ []) w₁ o₁ w₂ o₂ =
      puts_one section g r.set w₁ w₂ o₁ o₂ r.is.is_set
      (q g (subst (λ rs. IsPlaced o₁ place rs k) (sym r.is.is_set) (record { origin = x; known = known; kept = r.is.kept }))) in
      subst (λ (l : List RRset). PutsSets section l w₀ o₀ w₂ o₂) (sym r.more) (puts_then section (take n ss) (r.set ∷ []) w₀ w₁ w₂ o₀ o₁ o₂ p put)

  pub puts_whole : (section : Section) (n : ℕ) (w₀ w₁ : ResponseWriter) (o₀ o₁ : List ℕ) → length ks ≤ n → PutsSets section (take n ss) w₀ o₀ w₁ o₁ → PutsSets section ss w₀ o₀ w₁ o₁
  puts_whole section n w₀ w₁ o₀ o₁ past p =
      subst (λ (l : List RRset). PutsSets section l w₀ o₀ w₁ o₁) (take_all n ss (omega (arith, past, same_length x ss ks h))) p
