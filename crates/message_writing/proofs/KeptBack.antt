-- Records that are kept as octets, read back where the origin is known
use Rattle.std.proofs.Common.{◌≡◌, ℕ, ◌+◌, ◌<◌, ◌≤◌, Bool, true, false, true≢false, List, [], ◌∷◌, ◌++◌, length, take, Option, Some, None, refl, sym, ap, subst, ◌∙◌, append_assoc, arith}
use Rattle.std.proofs.lemmas.Grind.{flat_map-append}
use Rattle.std.proofs.lemmas.List.{append-nil, length-append, map-append, take_all, take_more}
use Rattle.std.specs.Borrow.{Bor}
use Rattle.std.specs.List.{flat_map}
use Rattle.std.specs.Prelude.{get_or, map, IfSome}
use Rattle.std.specs.declared.alloc.Global.{Global}
use Rattle.std.specs.declared.vec.Vec.{Vec}
use Rattle.zone_proto.specs.Data.{type_of}
use Rattle.zone_proto.specs.Names.{Name}
use Rattle.zone_proto.specs.declared.rdata.RData.{RData}
use Rattle.zone_proto.specs.declared.rdata.RData.TheVariants as V
use Rattle.zone_proto.specs.declared.rdata.mail_exchange.MX.{MX as MxData}
use Rattle.zone_proto.specs.declared.rdata.start_of_authority.SOA.{SOA as SoaData}
use Rattle.zone_proto.specs.declared.record.Record.{Record}
use Rattle.message_writing.specs.declared.fingerprints.Fingerprint.{Fingerprint}
use Rattle.message_writing.specs.declared.kept_records.KeptRecords.{KeptRecords}
use Rattle.message_writing.specs.declared.kept_records.PointedText.{PointedText}
use Rattle.message_writing.specs.declared.response.Group.{Group}
use Rattle.message_writing.specs.Continuing.{AppendsAll}
use Rattle.message_writing.specs.DataText.{timers_text, long_text, short_text, AreCutsOf, DataReadBack, IsSound, IsWritable}
use Rattle.message_writing.specs.KeptText.{cut_at, front_at, pointer_if, text_at, AreBehind, AreFronts, IsBehind, IsDataText, IsFront, IsNameBehind, IsPlaced}
use Rattle.message_writing.specs.KnownNames.{cut_text, ending, labels_text, IsAskedAt, IsCut, IsKnown}
use Rattle.message_writing.specs.Outcomes.{IsPutWithin}
use Rattle.message_writing.specs.Responses.{records_of, with_ttl}
use Rattle.message_writing.specs.StrictReading.{strict_record_of}
use Rattle.message_writing.proofs.CutTexts.{cut_put}
use Rattle.message_writing.proofs.AllBack.{data_back}
use Rattle.message_writing.proofs.AskedNames.{asked_on, known_on}
use Rattle.message_writing.proofs.Groups.{put_more}
use Rattle.message_writing.proofs.InOrder.{all_grow, stands_behind, then_all, written_behind}
use Rattle.message_writing.proofs.Sections.{group_length}
use Rattle.message_writing.proofs.WriterSteps.{IsCount}
use Rattle.message_writing.proofs.RecordsBack.{record_back, record_text}

-- ---- texts

-- what is put behind the last pointer comes behind the text
pub tail_more : (p : ℕ) (t u : PointedText) (more : List ℕ) → u.fronts.items ≡ t.fronts.items → u.tail.items ≡ t.tail.items ++ more
    → text_at p u ≡ text_at p t ++ more
tail_more p t u more fronts tail =
    (λ i. flat_map (front_at p) (fronts i) ++ tail i) ∙ sym (append_assoc (flat_map (front_at p) t.fronts.items) t.tail.items more)

pub pointer_more : (p : ℕ) (t u : PointedText) → u.fronts.items ≡ t.fronts.items ++ t.tail ∷ [] → u.tail.items ≡ [] → text_at p u ≡ text_at p t ++ ending (Some p)
pointer_more p t u fronts tail =
    (λ i. flat_map (front_at p) (fronts i) ++ tail i)
    ∙ append-nil (flat_map (front_at p) (t.fronts.items ++ t.tail ∷ []))
    ∙ flat_map-append (front_at p) t.fronts.items (t.tail ∷ [])
    ∙ ap (λ s. flat_map (front_at p) t.fronts.items ++ s) (append-nil (front_at p t.tail))
    ∙ sym (append_assoc (flat_map (front_at p) t.fronts.items) t.tail.items (ending (Some p)))

-- the fronts of one more
pub fronts_more : (p : ℕ) (xs : List (Vec ℕ Global)) (i : ℕ) (x : Vec ℕ Global) → i < length xs → x ≡ get_or xs i x
    → flat_map (front_at p) (take (i + 1) xs) ≡ flat_map (front_at p) (take i xs) ++ front_at p x
fronts_more p xs i x inside is =
    ap (flat_map (front_at p)) (take_more xs i x inside ∙ ap (λ y. take i xs ++ y ∷ []) (sym is))
    ∙ flat_map-append (front_at p) (take i xs) (x ∷ [])
    ∙ ap (λ s. flat_map (front_at p) (take i xs) ++ s) (append-nil (front_at p x))

-- appended one by one
pub pushed_more : (p : ℕ) (old mid here new : List ℕ) (xs : List (Vec ℕ Global)) (i : ℕ) (x : Vec ℕ Global) → i < length xs → x ≡ get_or xs i x
    → mid ≡ old ++ flat_map (front_at p) (take i xs) → here ≡ mid ++ x.items → new ≡ here ++ ending (Some p) → new ≡ old ++ flat_map (front_at p) (take (i + 1) xs)
pushed_more p old mid here new xs i x inside is e f g =
    g ∙ ap (λ s. s ++ ending (Some p)) f ∙ append_assoc mid x.items (ending (Some p)) ∙ ap (λ s. s ++ front_at p x) e
    ∙ append_assoc old (flat_map (front_at p) (take i xs)) (front_at p x) ∙ ap (λ s. old ++ s) (sym (fronts_more p xs i x inside is))

pub pushed_all : (p : ℕ) (old mid new : List ℕ) (t : PointedText) (i : ℕ) → length t.fronts.items ≤ i
    → mid ≡ old ++ flat_map (front_at p) (take i t.fronts.items) → new ≡ mid ++ t.tail.items → new ≡ old ++ text_at p t
pushed_all p old mid new t i past e f =
    f ∙ ap (λ s. s ++ t.tail.items) (e ∙ ap (λ xs. old ++ flat_map (front_at p) xs) (take_all i t.fronts.items past))
    ∙ append_assoc old (flat_map (front_at p) t.fronts.items) t.tail.items

-- counted one by one
pub counted_more : (p : ℕ) (xs : List (Vec ℕ Global)) (i count before : ℕ) (x : Vec ℕ Global) → i < length xs → x ≡ get_or xs i x
    → count ≡ before + length (flat_map (front_at p) (take i xs)) → count + (length x.items + 2) ≡ before + length (flat_map (front_at p) (take (i + 1) xs))
counted_more p xs i count before x inside is e =
    omega (
      arith,
      e,
      ap length (fronts_more p xs i x inside is),
      length-append (flat_map (front_at p) (take i xs)) (front_at p x),
      length-append x.items (ending (Some p)),
    )

pub counted_all : (p : ℕ) (t : PointedText) (i count : ℕ) → length t.fronts.items ≤ i
    → count ≡ length t.tail.items + length (flat_map (front_at p) (take i t.fronts.items)) → length (text_at p t) ≡ count
counted_all p t i count past e =
    omega (
      arith,
      e,
      ap (λ xs. length (flat_map (front_at p) xs)) (take_all i t.fronts.items past),
      length-append (flat_map (front_at p) t.fronts.items) t.tail.items,
    )

-- ---- names

pub front_as : (origin : Name) (labels : ℕ) (b c : Bool) (n : Name) → b ≡ c → IsFront origin labels b n → IsFront origin labels c n
front_as origin labels b c n e h = subst (λ x. IsFront origin labels x n) e h

pub name_pointed : (origin : Name) (before mid after : PointedText) (labels : ℕ) (n : Name) → mid.fronts.items ≡ before.fronts.items
    → mid.tail.items ≡ before.tail.items ++ labels_text labels n → IsFront origin labels true n
    → ((p : ℕ) → text_at p after ≡ text_at p mid ++ ending (Some p)) → IsNameBehind origin before n after
name_pointed origin before mid after labels n fronts tail f more = record {
  labels = labels;
  pointed = true;
  front = f;
  text = λ p. cut_put (text_at p before) (text_at p mid) (text_at p after) labels (Some p) n (tail_more p before mid (labels_text labels n) fronts tail) (more p);
}

pub name_whole : (origin : Name) (before mid after : PointedText) (labels : ℕ) (n : Name) → mid.fronts.items ≡ before.fronts.items
    → mid.tail.items ≡ before.tail.items ++ labels_text labels n → IsFront origin labels false n
    → after.fronts.items ≡ mid.fronts.items → after.tail.items ≡ mid.tail.items ++ 0 ∷ [] → IsNameBehind origin before n after
name_whole origin before mid after labels n fronts tail f same end = record {
  labels = labels;
  pointed = false;
  front = f;
  text = λ p. cut_put (text_at p before) (text_at p mid) (text_at p after) labels None n (tail_more p before mid (labels_text labels n) fronts tail)
      (tail_more p mid after (0 ∷ []) same end);
}

-- ---- data

pub name_data : (origin : Name) (start t : PointedText) (n : Name) → ((p : ℕ) → text_at p start ≡ []) → IsNameBehind origin start n t
    → IsDataText origin (V.NS n) t × IsDataText origin (V.CNAME n) t
name_data origin start t n none h =
    let text : (p : ℕ) → text_at p t ≡ cut_text h.labels (pointer_if h.pointed p) n = λ p. h.text p ∙ ap (λ s. s ++ cut_text h.labels (pointer_if h.pointed p) n) (none p) in (
      record { first = h.labels; first_pointed = h.pointed; second = 0; second_pointed = false; fronts = h.front; text = λ p f. text p },
      record { first = h.labels; first_pointed = h.pointed; second = 0; second_pointed = false; fronts = h.front; text = λ p f. text p },
    )

pub mx_data : (origin : Name) (start mid t : PointedText) (d : MxData) → ((p : ℕ) → text_at p start ≡ []) → mid.fronts.items ≡ start.fronts.items
    → mid.tail.items ≡ start.tail.items ++ short_text d.preference → IsNameBehind origin mid d.exchange t → IsDataText origin (V.MX d) t
mx_data origin start mid t d none fronts tail h = record {
  first = h.labels;
  first_pointed = h.pointed;
  second = 0;
  second_pointed = false;
  fronts = h.front;
  text = λ p f.
      h.text p
      ∙ ap (λ s. s ++ cut_text h.labels (pointer_if h.pointed p) d.exchange)
      (tail_more p start mid (short_text d.preference) fronts tail ∙ ap (λ s. s ++ short_text d.preference) (none p));
}

pub soa_data : (origin : Name) (start mid here t : PointedText) (d : SoaData) → ((p : ℕ) → text_at p start ≡ []) → IsNameBehind origin start d.mname mid
    → IsNameBehind origin mid d.rname here → t.fronts.items ≡ here.fronts.items → t.tail.items ≡ here.tail.items ++ timers_text d → IsDataText origin (V.SOA d) t
soa_data origin start mid here t d none h k fronts tail = record {
  first = h.labels;
  first_pointed = h.pointed;
  second = k.labels;
  second_pointed = k.pointed;
  fronts = (h.front, k.front);
  text = λ p f.
      let one = cut_text h.labels (pointer_if h.pointed p) d.mname in
      let two = cut_text k.labels (pointer_if k.pointed p) d.rname in
      tail_more p here t (timers_text d) fronts tail
      ∙ ap (λ s. s ++ timers_text d) (k.text p ∙ ap (λ s. s ++ two) (h.text p ∙ ap (λ s. s ++ one) (none p)))
      ∙ append_assoc one two (timers_text d);
}

-- ---- cuts

pub cut_of_front : (octets : List ℕ) (p : ℕ) (origin : Name) (labels : ℕ) (b : Bool) (n : Name) → IsKnown octets p origin → IsFront origin labels b n
    → IsCut octets labels (pointer_if b p) n
cut_of_front octets p origin labels true n known f = record { within = f.within; rest = subst (IsKnown octets p) (sym f.rest) known }
cut_of_front octets p origin labels false n known f = record { within = f.within; rest = f.rest }

pub cuts_of_fronts : (octets : List ℕ) (p : ℕ) (origin : Name) (f : Fingerprint) (first : ℕ) (b : Bool) (second : ℕ) (c : Bool) (rdata : RData)
    → IsKnown octets p origin → AreFronts origin first b second c rdata → AreCutsOf octets (cut_at f first b p) (cut_at f second c p) rdata
cuts_of_fronts octets p origin f first b second c (V.NS n) known h = record { valid = h.valid; there = cut_of_front octets p origin first b n known h }
cuts_of_fronts octets p origin f first b second c (V.CNAME n) known h = record { valid = h.valid; there = cut_of_front octets p origin first b n known h }
cuts_of_fronts octets p origin f first b second c (V.MX d) known h =
    record { valid = h.valid; there = cut_of_front octets p origin first b d.exchange known h }
cuts_of_fronts octets p origin f first b second c (V.SOA s) known h = (
  record { valid = h.0.valid; there = cut_of_front octets p origin first b s.mname known h.0 },
  record { valid = h.1.valid; there = cut_of_front octets p origin second c s.rname known h.1 },
)
cuts_of_fronts octets p origin f first b second c (V.A a) known h = tt
cuts_of_fronts octets p origin f first b second c (V.AAAA a) known h = tt
cuts_of_fronts octets p origin f first b second c (V.ANAME n) known h = tt
cuts_of_fronts octets p origin f first b second c (V.SRV d) known h = tt
cuts_of_fronts octets p origin f first b second c (V.DNSKEY d) known h = tt
cuts_of_fronts octets p origin f first b second c (V.NSEC d) known h = tt
cuts_of_fronts octets p origin f first b second c (V.NSEC3 d) known h = tt
cuts_of_fronts octets p origin f first b second c (V.NSEC3PARAM d) known h = tt
cuts_of_fronts octets p origin f first b second c (V.RRSIG s) known h = tt
cuts_of_fronts octets p origin f first b second c (V.Other d) known h = tt

-- ---- records

-- the parts of a record, one behind the other
regrouped : (a owner t class ttl c d : List ℕ) → (((a ++ owner) ++ (t ++ (class ++ ttl))) ++ c) ++ d ≡ a ++ (owner ++ (t ++ (class ++ (ttl ++ (c ++ d)))))
regrouped a owner t class ttl c d =
    append_assoc ((a ++ owner) ++ (t ++ (class ++ ttl))) c d
    ∙ append_assoc (a ++ owner) (t ++ (class ++ ttl)) (c ++ d)
    ∙ append_assoc a owner ((t ++ (class ++ ttl)) ++ (c ++ d))
    ∙ ap (λ s. a ++ (owner ++ s)) (append_assoc t (class ++ ttl) (c ++ d) ∙ ap (λ s. t ++ s) (append_assoc class ttl (c ++ d)))

pub record_behind : (origin : Name) (before named fields counted kept after : PointedText) (r : Record) (ttl count : ℕ) (f : Fingerprint)
    → IsWritable r.rdata → IsSound r.rdata → IsDataText origin r.rdata kept → ((p : ℕ) → length (text_at p kept) ≡ count)
    → IsNameBehind origin before r.name named
    → ((p : ℕ) → text_at p fields ≡ text_at p named ++ (short_text (type_of r.rdata) ++ (short_text r.dns_class.0 ++ long_text ttl)))
    → ((p : ℕ) → text_at p counted ≡ text_at p fields ++ short_text count)
    → ((p : ℕ) → text_at p after ≡ text_at p counted ++ text_at p kept)
    → IsBehind origin before (with_ttl ttl r) after
record_behind origin before named fields counted kept after r ttl count f w s d size name put_fields put_count put_data = λ octets p known.
    let old : List ℕ = octets ++ text_at p before in
    let owner : List ℕ = cut_text name.labels (pointer_if name.pointed p) r.name in
    let t = short_text (type_of r.rdata) in
    let class = short_text r.dns_class.0 in
    let text = text_at p kept in
    let back = data_back old (cut_at f d.first d.first_pointed p) (cut_at f d.second d.second_pointed p) r.rdata w s
    (cuts_of_fronts old p origin f d.first d.first_pointed d.second d.second_pointed r.rdata known d.fronts) in
    let whole : text_at p after ≡ text_at p before ++ record_text owner (type_of r.rdata) r.dns_class.0 ttl text =
    put_data p ∙ ap (λ x. x ++ text) (put_count p ∙ ap (λ x. x ++ short_text count) (put_fields p ∙ ap (λ x. x ++ (t ++ (class ++ long_text ttl))) (name.text p)))
    ∙ regrouped (text_at p before) owner t class (long_text ttl) (short_text count) text
    ∙ ap (λ n. text_at p before ++ (owner ++ (t ++ (class ++ (long_text ttl ++ (short_text n ++ text)))))) (sym (size p)) in
    record {
      written = record_text owner (type_of r.rdata) r.dns_class.0 ttl text;
      is = ap (λ x. octets ++ x) whole ∙ sym (append_assoc octets (text_at p before) (record_text owner (type_of r.rdata) r.dns_class.0 ttl text));
      back = record_back old name.labels (pointer_if name.pointed p) r.name (type_of r.rdata) r.dns_class.0 ttl text r.rdata
          (cut_of_front old p origin name.labels name.pointed r.name known name.front) name.front.valid
          (subst (λ x. DataReadBack old (type_of r.rdata) x r.rdata) (sym (d.text p f)) back);
    }

-- ---- records one behind the other

pub some_is : {A : Type 0} (P : A → Type 0) (o : Option A) (x : A) → o ≡ Some x → IfSome o P → P x
some_is P o x e h = subst (λ y. IfSome y P) e h

still_known : (octets : List ℕ) (p : ℕ) (origin : Name) (old new : PointedText) (rs : List Record)
    → AppendsAll strict_record_of (octets ++ text_at p old) (octets ++ text_at p new) rs → IsKnown (octets ++ text_at p old) p origin
    → IsKnown (octets ++ text_at p new) p origin
still_known octets p origin old new rs h known =
    let w = written_behind (octets ++ text_at p old) (octets ++ text_at p new) rs h in
    known_on (octets ++ text_at p old) (octets ++ text_at p new) w.0 p origin w.1 known

pub behind_more : (f : Record → Record) (rs : List Record) (i : ℕ) (r : Record) (origin : Name) (start mid new : PointedText) → i < length rs → r ≡ get_or rs i r
    → AreBehind origin start (map f (take i rs)) mid → IsBehind origin mid (f r) new → AreBehind origin start (map f (take (i + 1) rs)) new
behind_more f rs i r origin start mid new inside is all one = λ octets p known.
    let h = all octets p known in
    put_more f rs i r (octets ++ text_at p start) (octets ++ text_at p mid) (octets ++ text_at p new) inside is h
    (one octets p (still_known octets p origin start mid (map f (take i rs)) h known))

pub behind_all : (f : Record → Record) (rs : List Record) (i : ℕ) (origin : Name) (start new : PointedText) → length rs ≤ i
    → AreBehind origin start (map f (take i rs)) new → AreBehind origin start (map f rs) new
behind_all f rs i origin start new past h = subst (λ xs. AreBehind origin start (map f xs) new) (take_all i rs past) h

pub kept_both : (f : Record → Record) (rs ss : List Record) (origin : Name) (start mid new : PointedText) → ((p : ℕ) → text_at p start ≡ [])
    → AreBehind origin start (map f rs) mid → AreBehind origin mid (map f ss) new
    → (octets : List ℕ) (p : ℕ) → IsKnown octets p origin → AppendsAll strict_record_of octets (octets ++ text_at p new) (map f (rs ++ ss))
kept_both f rs ss origin start mid new none one two octets p known =
    let at_start : octets ++ text_at p start ≡ octets = ap (λ s. octets ++ s) (none p) ∙ append-nil octets in
    let there : IsKnown (octets ++ text_at p start) p origin = subst (λ s. IsKnown s p origin) (sym at_start) known in
    let first = one octets p there in
    let second = two octets p (still_known octets p origin start mid (map f rs) first there) in
    subst (AppendsAll strict_record_of octets (octets ++ text_at p new)) (sym (map-append f rs ss))
    (then_all octets (octets ++ text_at p mid) (octets ++ text_at p new) (map f rs) (map f ss)
    (subst (λ s. AppendsAll strict_record_of s (octets ++ text_at p mid) (map f rs)) at_start first) second)

-- ---- kept records, put into a response

placed_all : (octets new : List ℕ) (place : ℕ) (rs : List Record) (k : KeptRecords) → IsPlaced octets place rs k → new ≡ octets ++ text_at place k.text
    → AppendsAll strict_record_of octets new rs
placed_all octets new place rs k h is = subst (λ s. AppendsAll strict_record_of octets s rs) (sym is) (h.kept.read octets place h.known)

pub placed_put : (octets new : List ℕ) (place room : ℕ) (rs : List Record) (k : KeptRecords) → IsPlaced octets place rs k
    → new ≡ octets ++ text_at place k.text → length new ≤ room → IsPutWithin room octets new rs true
placed_put octets new place room rs k h is within =
    (placed_all octets new place rs k h is, within)

pub placed_over : (octets over new : List ℕ) (place room : ℕ) (rs : List Record) (k : KeptRecords) → IsPlaced octets place rs k
    → over ≡ octets ++ text_at place k.text → room < length over → new ≡ take (length octets) over → IsPutWithin room octets new rs false
placed_over octets over new place room rs k h is more e =
    let all = placed_all octets over place rs k h is in
    (e ∙ stands_behind octets over rs all, (rs, [], over, sym (append-nil rs), all, more))

-- each record has an octet at least
pub placed_grows : (octets new : List ℕ) (place : ℕ) (rs : List Record) (k : KeptRecords) → IsPlaced octets place rs k → new ≡ octets ++ text_at place k.text
    → length octets + k.count ≤ length new
placed_grows octets new place rs k h is =
    omega (arith, all_grow octets new rs (placed_all octets new place rs k h is), h.kept.counted)

pub placed_counts : (octets : List ℕ) (place : ℕ) (g : Group) (k : KeptRecords) → IsPlaced octets place (records_of g) k → IsCount true k.count g
placed_counts octets place g k h = record { put = λ e. h.kept.counted ∙ group_length g; over = λ e. absurd (true≢false e) }

pub none_counts : (g : Group) → IsCount false 0 g
none_counts g = record { put = λ e. absurd (true≢false (sym e)); over = λ e. refl }

pub placed_asked : (asked : Option (Bor Name)) (octets new : List ℕ) (place : ℕ) (rs : List Record) (k : KeptRecords) → IsPlaced octets place rs k
    → new ≡ octets ++ text_at place k.text → IsAskedAt octets asked → IsAskedAt new asked
placed_asked asked octets new place rs k h is there = asked_on asked octets new rs (placed_all octets new place rs k h is) there
