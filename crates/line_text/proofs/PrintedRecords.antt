-- What is printed of a record is read as it.
use Rattle.std.proofs.Common.{◌≡◌, ◌<◌, ℕ, ◌+◌, ◌/◌, ◌%◌, ◌==◌, List, [], ◌∷◌, ◌++◌, Bool, true, false, cond, not, ◌&&◌, if◌then◌else◌, refl, sym, ap, ◌∙◌, arith, Some, unwrap_or, codes, true≢false}
use Rattle.std.specs.Prelude.{ℤ}
use Rattle.std.specs.Fmt.{decimal, signed_decimal}
use Rattle.std.specs.List.{list_all, flat_map, AllByRecursion}
use Rattle.std.proofs.lemmas.Bool.Decides.{nat_tests, leb_tells}
use Rattle.zone_proto.specs.declared.record.Record.{Record}
use Rattle.zone_proto.specs.declared.rdata.RData.{RData}
use Rattle.zone_proto.specs.declared.rdata.RData.TheVariants as V
use Rattle.zone_proto.specs.Names.{Name, Label, IsName}
use Rattle.zone_proto.specs.TextForm.{three_digits}
use Rattle.zone_proto.specs.Text.{is_plain, octet_text, label_text, name_text}
use Rattle.zone_proto.specs.TypeText.{Word, word_of, type_words, type_text}
use Rattle.zone_proto.proofs.Texts.RoundTrip.{printed_read}
use Rattle.zone_proto.proofs.Texts.TypeTextLaws.{type_text_read}
use Rattle.line_text.specs.Words.{is_blank, words, has_octets}
use Rattle.zone_proto.specs.declared.rdata.start_of_authority.SOA.{SOA as SoaData}
use Rattle.zone_proto.specs.declared.rdata.mail_exchange.MX.{MX as MxData}
use Rattle.zone_proto.specs.declared.rdata.service.SRV.{SRV as SrvData}
use Rattle.zone_proto.specs.declared.rdata.other.OtherData.{OtherData}
use Rattle.zone_proto.specs.Data.{type_of}
use Rattle.zone_proto.specs.Types.{has_own_case}
use Rattle.zone_proto.specs.Ranges.{IsOctet}
use Rattle.line_text.specs.Numbers.{number_within}
use Rattle.line_text.specs.Hex.{hex_text}
use Rattle.line_text.specs.Addresses.{ipv4_text, ipv6_text, ipv4_of_text, ipv6_of_text, IsOctets}
use Rattle.line_text.specs.Reading.{name_of_word, type_of_word, timer_of_word, next_word, next_name, read_as}
use Rattle.line_text.specs.StartOfAuthority.{next_soa, soa_text, IsTimer, IsReadableSoa}
use Rattle.line_text.specs.MailExchange.{next_mx, mx_text, IsReadableMx}
use Rattle.line_text.specs.Service.{next_srv, srv_text, IsReadableSrv}
use Rattle.line_text.specs.Other.{next_other}
use Rattle.line_text.specs.Data.{next_data, data_text, IsReadableData}
use Rattle.line_text.specs.Records.{next_record, record_text, without_class, IsReadable}
use Rattle.line_text.proofs.PrintedWords.{and_both, is_solid, IsWord, word_and_more, word_alone, solid_append, word_append, decimal_word, hex_word_text, ipv4_word, ipv6_word}
use Rattle.line_text.proofs.ReadingFacts.{name_read, other_read}
use Rattle.line_text.proofs.RoundTrips.{decimal_read, hex_read, ipv4_read, ipv6_read}

-- ---- names are words, and are read

no_blank_plain : (b : ℕ) → is_plain b ≡ true → not (is_blank b) ≡ true
no_blank_plain b h = grind (arith, nat_tests, leb_tells)

no_blank_digit : (d : ℕ) → not (is_blank (48 + d)) ≡ true
no_blank_digit d = grind (arith, nat_tests)

octet_solid : (b : ℕ) → is_solid (octet_text b) ≡ true
octet_solid b = by (is_plain b) refl
  where
    by : (p : Bool) → is_plain b ≡ p → is_solid (cond p (b ∷ []) (92 ∷ three_digits b)) ≡ true
    by true e = rw (no_blank_plain b e) refl
    by false e = rw (no_blank_digit (b / 100), no_blank_digit (b / 10 % 10), no_blank_digit (b % 10)) refl

label_solid : (l : Label) → is_solid (flat_map octet_text l) ≡ true
label_solid [] = refl
label_solid (b ∷ l) = solid_append (octet_text b) (flat_map octet_text l) (octet_solid b) (label_solid l)

labels_solid : (ls : Name) → is_solid (flat_map label_text ls) ≡ true
labels_solid [] = refl
labels_solid (l ∷ ls) = solid_append (label_text l) (flat_map label_text ls) (solid_append (flat_map octet_text l) (46 ∷ []) (label_solid l) refl) (labels_solid ls)

ends_in_dot : (v w : List ℕ) → has_octets ((v ++ 46 ∷ []) ++ w) ≡ true
ends_in_dot [] w = refl
ends_in_dot (b ∷ v) w = refl

pub name_word : (n : Name) → IsWord (name_text n)
name_word [] = (refl, refl)
name_word (l ∷ ls) = (ends_in_dot (flat_map octet_text l) (flat_map label_text ls), labels_solid (l ∷ ls))

pub name_back : (n : Name) → IsName n → name_of_word (name_text n) ≡ Some n
name_back n h = name_read (name_text n) n ((printed_read n n h).1 refl) h

-- ---- types are words, and are read

abbrev is_word : List ℕ → Bool
is_word w = has_octets w && is_solid w

listed_word : (t : ℕ) (other : List ℕ) (ws : List Word) → list_all (λ w. is_word w.text) ws ≡ true → IsWord other → IsWord (unwrap_or (word_of t ws) other)
listed_word t other [] all h = h
listed_word t other (w ∷ ws) all h =
    let parts = and_both (is_word w.text) (list_all (λ v. is_word v.text) ws) all in
    by (t == w.number) (and_both (has_octets w.text) (is_solid w.text) parts.0) (listed_word t other ws parts.1 h)
  where
    by : (b : Bool) → IsWord w.text → IsWord (unwrap_or (word_of t ws) other) → IsWord (unwrap_or (if b then Some w.text else word_of t ws) other)
    by true this more = this
    by false this more = more

pub type_word : (t : ℕ) → t < 65536 → IsWord (type_text t)
type_word t h = listed_word t (codes "TYPE" ++ decimal t) type_words refl (word_append (codes "TYPE") (decimal t) (refl, refl) (decimal_word t (omega (arith, h))).1)

pub type_back : (t : ℕ) → t < 65536 → type_of_word (type_text t) ≡ Some (record { 0 = t })
type_back t h = rw (type_text_read t h) refl

-- ---- data

-- a number of 16 bits and one of 32
u16_back : (n : ℕ) → n < 65536 → number_within 10 65535 (decimal n) ≡ Some n
u16_back n h = decimal_read 65535 n (omega arith) (omega arith)

u32_back : (n : ℕ) → n < 4294967296 → number_within 10 4294967295 (decimal n) ≡ Some n
u32_back n h = decimal_read 4294967295 n (omega arith) (omega arith)

timer_back : (z : ℤ) (h : IsTimer z) → timer_of_word (signed_decimal z) ≡ Some z
timer_back z (n, e, small) = rw (e, decimal_read 2147483647 n (omega arith) (omega arith)) refl

timer_word : (z : ℤ) → IsTimer z → IsWord (signed_decimal z)
timer_word z (n, e, small) = rw e (decimal_word n (omega arith))

name_data_back : (make : Name → RData) (n : Name) → IsName n → read_as make (next_name (words (name_text n))) ≡ Some (make n, [])
name_data_back make n h = rw (word_alone (name_text n) (name_word n), name_back n h) refl

soa_back : (d : SoaData) → IsReadableSoa d → next_soa (words (soa_text d)) ≡ Some (d, [])
soa_back d h =
    rw (
      word_and_more (name_text d.mname) _ (name_word d.mname),
      word_and_more (name_text d.rname) _ (name_word d.rname),
      word_and_more (decimal d.serial) _ (decimal_word d.serial (omega (arith, h.serial))),
      word_and_more (signed_decimal d.refresh) _ (timer_word d.refresh h.refresh),
      word_and_more (signed_decimal d.retry) _ (timer_word d.retry h.retry),
      word_and_more (signed_decimal d.expire) _ (timer_word d.expire h.expire),
      word_alone (decimal d.minimum) (decimal_word d.minimum (omega (arith, h.minimum))),
      name_back d.mname h.mname,
      name_back d.rname h.rname,
      u32_back d.serial h.serial,
      timer_back d.refresh h.refresh,
      timer_back d.retry h.retry,
      timer_back d.expire h.expire,
      u32_back d.minimum h.minimum,
    )
    refl

mx_back : (d : MxData) → IsReadableMx d → next_mx (words (mx_text d)) ≡ Some (d, [])
mx_back d h =
    rw (
      word_and_more (decimal d.preference) _ (decimal_word d.preference (omega (arith, h.preference))),
      word_alone (name_text d.exchange) (name_word d.exchange),
      u16_back d.preference h.preference,
      name_back d.exchange h.exchange,
    )
    refl

srv_back : (d : SrvData) → IsReadableSrv d → next_srv (words (srv_text d)) ≡ Some (d, [])
srv_back d h =
    rw (
      word_and_more (decimal d.priority) _ (decimal_word d.priority (omega (arith, h.priority))),
      word_and_more (decimal d.weight) _ (decimal_word d.weight (omega (arith, h.weight))),
      word_and_more (decimal d.port) _ (decimal_word d.port (omega (arith, h.port))),
      word_alone (name_text d.target) (name_word d.target),
      u16_back d.priority h.priority,
      u16_back d.weight h.weight,
      u16_back d.port h.port,
      name_back d.target h.target,
    )
    refl

ipv4_back : (a : List ℕ) → IsOctets 4 a → next_word ipv4_of_text (words (ipv4_text a)) ≡ Some (a, [])
ipv4_back [] h = absurd (omega (arith, h.0))
ipv4_back (b ∷ bs) h = rw (word_alone (ipv4_text (b ∷ bs)) (ipv4_word b bs h.1), ipv4_read (b ∷ bs) h.0 h.1) refl

ipv6_back : (a : List ℕ) → IsOctets 16 a → next_word ipv6_of_text (words (ipv6_text a)) ≡ Some (a, [])
ipv6_back [] h = absurd (omega (arith, h.0))
ipv6_back (b ∷ []) h = absurd (omega (arith, h.0))
ipv6_back (b ∷ c ∷ bs) h = rw (word_alone (ipv6_text (b ∷ c ∷ bs)) (ipv6_word b c bs), ipv6_read (b ∷ c ∷ bs) h.0 h.1) refl

other_than : (t k : ℕ) → has_own_case k ≡ true → has_own_case t ≡ false → (t == k) ≡ false
other_than t k own none = by (t == k) refl
  where
    by : (b : Bool) → (t == k) ≡ b → (t == k) ≡ false
    by false e = e
    by true e =
        let same : t ≡ k = grind (arith, nat_tests) in
        absurd (true≢false (sym own ∙ ap has_own_case (sym same) ∙ none))

-- a type without a case of its own is none of those whose data have one
other_chain : (t : ℕ) (ws : List (List ℕ)) → has_own_case t ≡ false → next_data t ws ≡ next_other t ws
other_chain t ws own =
    rw (
      other_than t 1 refl own,
      other_than t 28 refl own,
      other_than t 2 refl own,
      other_than t 5 refl own,
      other_than t 65305 refl own,
      other_than t 6 refl own,
      other_than t 15 refl own,
      other_than t 33 refl own,
    )
    refl

other_back : (d : OtherData) → AllByRecursion IsOctet d.octets → next_data d.record_type.0 (words (hex_text d.octets)) ≡ Some (V.Other d, [])
other_back d h =
    rw (other_chain d.record_type.0 _ d.other, word_alone (hex_text d.octets) (hex_word_text d.octets), other_read d.record_type (hex_text d.octets) d.octets d (hex_read d.octets h) refl refl) refl

pub data_back : (d : RData) → IsReadableData d → next_data (type_of d) (words (data_text d)) ≡ Some (d, [])
data_back (V.A a) h = rw (ipv4_back a h) refl
data_back (V.AAAA a) h = rw (ipv6_back a h) refl
data_back (V.NS n) h = name_data_back V.NS n h
data_back (V.CNAME n) h = name_data_back V.CNAME n h
data_back (V.ANAME n) h = name_data_back V.ANAME n h
data_back (V.SOA d) h = rw (soa_back d h) refl
data_back (V.MX d) h = rw (mx_back d h) refl
data_back (V.SRV d) h = rw (srv_back d h) refl
data_back (V.DNSKEY d) h = absurd h
data_back (V.NSEC d) h = absurd h
data_back (V.NSEC3 d) h = absurd h
data_back (V.NSEC3PARAM d) h = absurd h
data_back (V.RRSIG d) h = absurd h
data_back (V.Other d) h = other_back d h.1

-- ---- records

type_small : (d : RData) → IsReadableData d → type_of d < 65536
type_small (V.A a) h = omega arith
type_small (V.AAAA a) h = omega arith
type_small (V.NS n) h = omega arith
type_small (V.CNAME n) h = omega arith
type_small (V.ANAME n) h = omega arith
type_small (V.SOA d) h = omega arith
type_small (V.MX d) h = omega arith
type_small (V.SRV d) h = omega arith
type_small (V.DNSKEY d) h = absurd h
type_small (V.NSEC d) h = absurd h
type_small (V.NSEC3 d) h = absurd h
type_small (V.NSEC3PARAM d) h = absurd h
type_small (V.RRSIG d) h = absurd h
type_small (V.Other d) h = h.0

pub record_back : (r : Record) → IsReadable r → next_record (without_class (words (record_text r))) ≡ Some (r, [])
record_back r h =
    let small : type_of r.rdata < 65536 = type_small r.rdata h.rdata in
    rw (
      h.class,
      word_and_more (name_text r.name) _ (name_word r.name),
      word_and_more (decimal r.ttl) _ (decimal_word r.ttl (omega (arith, h.ttl))),
      word_and_more (type_text (type_of r.rdata)) _ (type_word (type_of r.rdata) small),
      name_back r.name h.owner,
      u32_back r.ttl h.ttl,
      type_back (type_of r.rdata) small,
      data_back r.rdata h.rdata,
    )
    refl
