-- What is printed of data is read as these data, whatever the origin is.
use Rattle.std.proofs.Common.{◌≡◌, ◌≢◌, ◌≤◌, ◌<◌, ℕ, ◌==◌, List, [], ◌∷◌, length, Bool, true, false, ◌||◌, ◌&&◌, None, Some, Ok, refl, sym, ap, subst, ◌∙◌, arith, append-nil, codes}
use Rattle.std.specs.Prelude.{nat_le}
use Rattle.std.specs.Fmt.{decimal}
use Rattle.std.specs.Int.{w32, cast_unsigned}
use Rattle.std.specs.List.{list_any, AllByRecursion}
use Rattle.std.proofs.lemmas.Bool.Decides.{leb_tells, nat_tests}
use Rattle.zone_proto.specs.declared.record_type.RecordType.{RecordType}
use Rattle.zone_proto.specs.declared.rdata.RData.{RData}
use Rattle.zone_proto.specs.declared.rdata.RData.TheVariants as V
use Rattle.zone_proto.specs.declared.rdata.start_of_authority.SOA.{SOA as SoaData}
use Rattle.zone_proto.specs.declared.rdata.mail_exchange.MX.{MX as MxData}
use Rattle.zone_proto.specs.declared.rdata.service.SRV.{SRV as SrvData}
use Rattle.zone_proto.specs.declared.rdata.signing.DNSKEY.{DNSKEY as KeyData}
use Rattle.zone_proto.specs.declared.rdata.signing.RRSIG.{RRSIG as SignatureData}
use Rattle.zone_proto.specs.declared.rdata.denial.NSEC.{NSEC as DenialData}
use Rattle.zone_proto.specs.declared.rdata.denial.NSEC3.{NSEC3 as HashedData}
use Rattle.zone_proto.specs.declared.rdata.denial.NSEC3PARAM.{NSEC3PARAM as HashParameters}
use Rattle.zone_proto.specs.declared.rdata.other.OtherData.{OtherData}
use Rattle.zone_proto.specs.Types.{has_own_case}
use Rattle.zone_proto.specs.Base32.{base32_text}
use Rattle.zone_proto.specs.Names.{Name, IsName}
use Rattle.zone_proto.specs.Text.{name_text}
use Rattle.zone_proto.specs.Data.{same_octets, type_of}
use Rattle.line_text.specs.Addresses.{ipv4_text}
use Rattle.zone_tokens.specs.Addresses.{ipv6_of_word}
use Rattle.zone_file_writer.specs.Addresses.{address_text}
use Rattle.zone_file_writer.proofs.Ipv6Back.{address_back}
use Rattle.line_text.specs.Denial.{opt_out_flag}
use Rattle.line_text.specs.Hex.{hex_text}
use Rattle.line_text.specs.Numbers.{number_within}
use Rattle.line_text.specs.MailExchange.{IsReadableMx}
use Rattle.line_text.specs.Service.{IsReadableSrv}
use Rattle.line_text.proofs.RoundTrips.{decimal_read, hex_read}
use Rattle.zone_scanner.specs.declared.place.Place.{Place}
use Rattle.record_fields.specs.Fields.{Left, Reading, left_at, next_name}
use Rattle.zone_file.specs.Denials.{next_nsec, next_nsec3, next_nsec3param, salt_of_word, some_types_at, opt_out_of_word}
use Rattle.zone_file.specs.Data.{data_size, read_as, next_data, next_other, next_own, next_own_octets, next_soa, next_mx, next_srv}
use Rattle.zone_file.proofs.DataFacts.{other_made}
use Rattle.zone_file.specs.Keys.{next_dnskey, next_rrsig}
use Rattle.record_fields.specs.Texts.{any_hex, generic, next_generic}
use Rattle.zone_file_writer.specs.Others.{base64_text, hex_digits, octets_words}
use Rattle.zone_file_writer.specs.Rows.{other_words}
use Rattle.zone_file_writer.specs.Words.{PrintedWord, Bare, type_word}
use Rattle.zone_file_writer.specs.Printable.{AreTypesFrom, IsPrintableSoa, IsPrintableKey, IsPrintableSignature, IsPrintableDenial, IsPrintableHashed, IsPrintableParameters, IsPrintableOther, IsPrintableData}
use Rattle.zone_file_writer.proofs.Lines.{words_from}
use Rattle.zone_file_writer.proofs.NamesBack.{first_of_name, name_there}
use Rattle.zone_file_writer.proofs.AddressesBack.{ipv4_back}
use Rattle.zone_file_writer.proofs.NumbersBack.{u8_back, u16_back, u32_back, algorithm_back, signed_back, timer_back, type_back, unsigned_small, digits_back}
use Rattle.zone_file_writer.proofs.DateFacts.{moment_back}
use Rattle.zone_file_writer.proofs.PlacedWords.{behind, last_from, left}
use Rattle.zone_file_writer.proofs.OwnFirst.{decimal_own, ipv4_own}
use Rattle.zone_file_writer.proofs.RowsBack.{IsForm, own, any, other_form}
use Rattle.zone_file_writer.proofs.Base32Back.{hash_back}
use Rattle.zone_file_writer.proofs.Base64Facts.{base64_back}
use Rattle.zone_file_writer.proofs.DataTexts.{none_left, data_words}
use Rattle.zone_file_writer.proofs.TypesBack.{type_own, type_texts, types_read}

name_data : (make : Name → RData) (origin n : Name) (q p : Place) → IsName n
    → read_as make (next_name origin (left q p (Bare (name_text n) ∷ []))) ≡ Ok (make n, none_left q p (Bare (name_text n) ∷ []))
name_data make origin n q p h = rw (name_there origin n h) refl

soa_read : (origin : Name) (d : SoaData) (q p : Place) → IsPrintableSoa d
    → next_soa origin (left q p (data_words (V.SOA d))) ≡ Ok (d, none_left q p (data_words (V.SOA d)))
unfolding next_soa
soa_read origin d q p h =
    rw (
      name_there origin d.mname h.mname,
      name_there origin d.rname h.rname,
      u32_back d.serial h.serial,
      timer_back (cast_unsigned w32 d.refresh) (unsigned_small d.refresh h.refresh),
      timer_back (cast_unsigned w32 d.retry) (unsigned_small d.retry h.retry),
      timer_back (cast_unsigned w32 d.expire) (unsigned_small d.expire h.expire),
      timer_back d.minimum h.minimum,
      signed_back d.refresh h.refresh,
      signed_back d.retry h.retry,
      signed_back d.expire h.expire,
    )
    refl

mx_read : (origin : Name) (d : MxData) (q p : Place) → IsReadableMx d
    → next_mx origin (left q p (data_words (V.MX d))) ≡ Ok (d, none_left q p (data_words (V.MX d)))
unfolding next_mx
mx_read origin d q p h = rw (u16_back d.preference h.preference, name_there origin d.exchange h.exchange) refl

srv_read : (origin : Name) (d : SrvData) (q p : Place) → IsReadableSrv d
    → next_srv origin (left q p (data_words (V.SRV d))) ≡ Ok (d, none_left q p (data_words (V.SRV d)))
unfolding next_srv
srv_read origin d q p h =
    rw (u16_back d.priority h.priority, u16_back d.weight h.weight, u16_back d.port h.port, name_there origin d.target h.target) refl

key_read : (d : KeyData) (q p : Place) → IsPrintableKey d
    → next_dnskey (left q p (data_words (V.DNSKEY d))) ≡ Ok (d, none_left q p (data_words (V.DNSKEY d)))
unfolding next_dnskey
key_read d q p h =
    rw (
      u16_back d.flags h.flags,
      u8_back d.protocol h.protocol,
      algorithm_back d.algorithm h.algorithm,
      append-nil (base64_text d.public_key),
      base64_back d.public_key h.octets,
    )
    refl

signature_read : (origin : Name) (d : SignatureData) (q p : Place) → IsPrintableSignature d
    → next_rrsig origin (left q p (data_words (V.RRSIG d))) ≡ Ok (d, none_left q p (data_words (V.RRSIG d)))
unfolding next_rrsig
signature_read origin d q p h =
    rw (
      type_back d.type_covered h.covered,
      algorithm_back d.algorithm h.algorithm,
      u8_back d.num_labels h.labels,
      u32_back d.original_ttl h.ttl,
      moment_back d.expiration h.expiration,
      moment_back d.inception h.inception,
      u16_back d.key_tag h.tag,
      name_there origin d.signer_name h.signer,
      append-nil (base64_text d.signature),
      base64_back d.signature h.octets,
    )
    refl

some_types_read : (q p : Place) (ts : List RecordType) → 0 < length ts → AreTypesFrom 0 ts
    → some_types_at q (words_from p (type_texts ts)) ≡ Ok (ts, left_at q [])
some_types_read q p [] some h = absurd (omega arith)
some_types_read q p (t ∷ ts) some h = types_read q p (t ∷ ts) h

denial_read : (origin : Name) (d : DenialData) (q p : Place) → IsPrintableDenial d
    → next_nsec origin (left q p (data_words (V.NSEC d))) ≡ Ok (d, left_at p [])
unfolding next_nsec
denial_read origin d q p h =
    rw (name_there origin d.next_domain_name h.next, some_types_read p (behind p (Bare (name_text d.next_domain_name))) d.types h.some h.types) refl

opt_out_back : (b : Bool) → opt_out_of_word (decimal (opt_out_flag b)) ≡ Some b
opt_out_back true = rw (decimal_read 1 1 (omega arith) (omega arith)) refl
opt_out_back false = rw (decimal_read 1 0 (omega arith) (omega arith)) refl

countable : (os : List ℕ) → length os ≤ 255 → nat_le (length os) 255 ≡ true
countable os h = grind (arith, leb_tells)

salt_back : (os : List ℕ) → AllByRecursion (λ b. b < 256) os → length os ≤ 255 → salt_of_word (hex_text os) ≡ Some os
salt_back os h k = rw (hex_read os h, countable os k) refl

parameters_read : (d : HashParameters) (q p : Place) → IsPrintableParameters d
    → next_nsec3param (left q p (data_words (V.NSEC3PARAM d))) ≡ Ok (d, none_left q p (data_words (V.NSEC3PARAM d)))
unfolding next_nsec3param
parameters_read d q p h =
    rw (u8_back d.algorithm h.algorithm, opt_out_back d.opt_out, u16_back d.iterations h.iterations, salt_back d.salt h.salt h.short) refl

-- the place of the hash, behind which types stand
abbrev hash_place : HashedData → Place → Place
hash_place d p = behind (behind (behind (behind p (Bare (decimal d.algorithm))) (Bare (decimal (opt_out_flag d.opt_out)))) (Bare (decimal d.iterations))) (Bare (hex_text d.salt))

hashed_read : (d : HashedData) (q p : Place) → IsPrintableHashed d
    → next_nsec3 (left q p (data_words (V.NSEC3 d))) ≡ Ok (d, left_at (hash_place d p) [])
unfolding next_nsec3
hashed_read d q p h =
    rw (
      u8_back d.algorithm h.algorithm,
      opt_out_back d.opt_out,
      u16_back d.iterations h.iterations,
      salt_back d.salt h.salt h.short,
      hash_back d.next_hashed_owner_name h.hash h.some h.short_hash,
      types_read (hash_place d p) (behind (hash_place d p) (Bare (base32_text d.next_hashed_owner_name))) d.types h.types,
    )
    refl

same_length : (n : ℕ) → (n == n) ≡ true
same_length n = grind (arith, nat_tests)

generic_read : (w t : List ℕ) (n : ℕ) (os : List ℕ) (q p : Place) → number_within 10 65535 w ≡ Some n → any_hex t ≡ Some os → length os ≡ n
    → next_generic (left q p (Bare (codes "\\#") ∷ Bare w ∷ Bare t ∷ [])) ≡ Ok (os, left_at (behind p (Bare (codes "\\#"))) [])
generic_read w t n os q p h k e = rw (h, append-nil t, k, e, same_length n) refl

octets_read : (os : List ℕ) (q p : Place) → AllByRecursion (λ b. b < 256) os → length os ≤ 65535
    → next_generic (left q p (octets_words os)) ≡ Ok (os, left_at (behind p (Bare (codes "\\#"))) [])
octets_read [] q p h k = rw (u16_back 0 (omega arith)) refl
octets_read (o ∷ os) q p h k =
    generic_read (decimal (length (o ∷ os))) (hex_digits (o ∷ os)) (length (o ∷ os)) (o ∷ os) q p (u16_back (length (o ∷ os)) (omega arith)) (digits_back o os h) refl

-- data, in a context of any origin: they are read, and no word is left
pub record IsReadAs (d : RData) (r : Reading RData) : Type 0 where
  pub place : Place
  pub is : r ≡ Ok (d, left_at place [])

-- data in a form of their own don't begin with `\#`
own_form : (origin : Name) (t : ℕ) (q p : Place) (w : List ℕ) (ws : List PrintedWord) → same_octets w generic ≡ false
    → next_data origin t (left q p (Bare w ∷ ws)) ≡ next_own origin t (left q p (Bare w ∷ ws))
own_form origin t q p w ws h = rw h refl

-- `\#` is no address
not_some : (bs : List ℕ) → None ≢ Some bs
not_some bs = λ e. cc

two_own : (bs : List ℕ) (b c : ℕ) → ipv6_of_word (b ∷ c ∷ []) ≡ Some bs → same_octets (b ∷ c ∷ []) generic ≡ false
two_own bs b c e = by (b == 92) refl (c == 35) refl
  where
    no_address : (x y : ℕ) → x ≡ 92 → y ≡ 35 → ipv6_of_word (x ∷ y ∷ []) ≡ Some bs → ⊥
    no_address x y f g h = not_some bs (rw (f, g) at h)

    by : (p : Bool) → (b == 92) ≡ p → (q : Bool) → (c == 35) ≡ q → (p && (q && true)) ≡ false
    by false f q g = refl
    by true f false g = refl
    by true f true g = absurd (no_address b c (grind (arith, nat_tests)) (grind (arith, nat_tests)) e)

six_own : (bs t : List ℕ) → ipv6_of_word t ≡ Some bs → same_octets t generic ≡ false
six_own bs [] e = refl
six_own bs (b ∷ []) e = by (b == 92)
  where
    by : (p : Bool) → (p && false) ≡ false
    by true = refl
    by false = refl
six_own bs (b ∷ c ∷ []) e = two_own bs b c e
six_own bs (b ∷ c ∷ d ∷ t) e = by (b == 92) (c == 35)
  where
    by : (p q : Bool) → (p && (q && false)) ≡ false
    by true true = refl
    by true false = refl
    by false q = refl

ipv6_own : (bs : List ℕ) → length bs ≡ 16 → AllByRecursion (λ b. b < 256) bs → same_octets (address_text bs) generic ≡ false
ipv6_own bs l h = six_own bs (address_text bs) (address_back bs l h)

-- data in their own form
abbrev OwnRead : RData → Type 0
OwnRead d = (origin : Name) (q p : Place) → IsPrintableData d → IsReadAs d (next_data origin (type_of d) (left q p (data_words d)))

name_is_own : (n : Name) → IsName n → same_octets (name_text n) generic ≡ false
name_is_own n h = (first_of_name n h).2

address_read : (a : List ℕ) → OwnRead (V.A a)
address_read a origin q p h = record {
  place = last_from q p (Bare (ipv4_text a) ∷ []);
  is = own_form origin 1 q p (ipv4_text a) [] (ipv4_own a h.0 h.1) ∙ rw (ipv4_back a h.0 h.1) refl;
}

wide_address_read : (a : List ℕ) → OwnRead (V.AAAA a)
wide_address_read a origin q p h = record {
  place = last_from q p (Bare (address_text a) ∷ []);
  is = own_form origin 28 q p (address_text a) [] (ipv6_own a h.0 h.1) ∙ rw (address_back a h.0 h.1) refl;
}

server_read : (n : Name) → OwnRead (V.NS n)
server_read n origin q p h = record {
  place = last_from q p (Bare (name_text n) ∷ []);
  is = own_form origin 2 q p (name_text n) [] (name_is_own n h) ∙ name_data V.NS origin n q p h;
}

alias_read : (n : Name) → OwnRead (V.CNAME n)
alias_read n origin q p h = record {
  place = last_from q p (Bare (name_text n) ∷ []);
  is = own_form origin 5 q p (name_text n) [] (name_is_own n h) ∙ name_data V.CNAME origin n q p h;
}

address_alias_read : (n : Name) → OwnRead (V.ANAME n)
address_alias_read n origin q p h = record {
  place = last_from q p (Bare (name_text n) ∷ []);
  is = own_form origin 65305 q p (name_text n) [] (name_is_own n h) ∙ name_data V.ANAME origin n q p h;
}

-- the words behind the first
abbrev rest_of : List PrintedWord → List PrintedWord
rest_of [] = []
rest_of (w ∷ ws) = ws

-- data of a type without a case of its own, in the form of the type
either : (a b : Bool) → (a || b) ≡ false → (a ≡ false) × (b ≡ false)
either true b h = absurd (cc)
either false b h = (refl, h)

abbrev is_any : ℕ → List ℕ → Bool
is_any t us = list_any (λ u. t == u) us

no_case : (origin : Name) (t : ℕ) (l : Left) → has_own_case t ≡ false → next_own origin t l ≡ next_other t (next_own_octets origin t l)
no_case origin t l h =
    let a = either (t == 1) (is_any t (2 ∷ 5 ∷ 6 ∷ 15 ∷ 28 ∷ 33 ∷ 46 ∷ 47 ∷ 48 ∷ 50 ∷ 51 ∷ 65305 ∷ [])) h in
    let b = either (t == 2) (is_any t (5 ∷ 6 ∷ 15 ∷ 28 ∷ 33 ∷ 46 ∷ 47 ∷ 48 ∷ 50 ∷ 51 ∷ 65305 ∷ [])) a.1 in
    let c = either (t == 5) (is_any t (6 ∷ 15 ∷ 28 ∷ 33 ∷ 46 ∷ 47 ∷ 48 ∷ 50 ∷ 51 ∷ 65305 ∷ [])) b.1 in
    let d = either (t == 6) (is_any t (15 ∷ 28 ∷ 33 ∷ 46 ∷ 47 ∷ 48 ∷ 50 ∷ 51 ∷ 65305 ∷ [])) c.1 in
    let e = either (t == 15) (is_any t (28 ∷ 33 ∷ 46 ∷ 47 ∷ 48 ∷ 50 ∷ 51 ∷ 65305 ∷ [])) d.1 in
    let f = either (t == 28) (is_any t (33 ∷ 46 ∷ 47 ∷ 48 ∷ 50 ∷ 51 ∷ 65305 ∷ [])) e.1 in
    let g = either (t == 33) (is_any t (46 ∷ 47 ∷ 48 ∷ 50 ∷ 51 ∷ 65305 ∷ [])) f.1 in
    let i = either (t == 46) (is_any t (47 ∷ 48 ∷ 50 ∷ 51 ∷ 65305 ∷ [])) g.1 in
    let j = either (t == 47) (is_any t (48 ∷ 50 ∷ 51 ∷ 65305 ∷ [])) i.1 in
    let k = either (t == 48) (is_any t (50 ∷ 51 ∷ 65305 ∷ [])) j.1 in
    let m = either (t == 50) (is_any t (51 ∷ 65305 ∷ [])) k.1 in
    let n = either (t == 51) (is_any t (65305 ∷ [])) m.1 in
    let o = either (t == 65305) (is_any t []) n.1 in
    simp (a.0, b.0, c.0, d.0, e.0, f.0, g.0, i.0, j.0, k.0, m.0, n.0, o.0) refl

other_read : (origin : Name) (d : OtherData) (q p : Place) → IsPrintableOther d → length d.octets ≤ 65535
    → IsReadAs (V.Other d) (next_data origin d.record_type.0 (left q p (other_words d.record_type.0 d.octets)))
other_read origin d q p h k = by (other_words d.record_type.0 d.octets) (other_form origin d.record_type.0 d.octets h.octets)
  where
    by : (ws : List PrintedWord) → IsForm origin d.record_type.0 d.octets ws → IsReadAs (V.Other d) (next_data origin d.record_type.0 (left q p ws))
    by ws (own some texts first read) = record {
      place = (read q p).place;
      is = rw (first p)
          (no_case origin d.record_type.0 (left q p ws) d.other
          ∙ ap (next_other d.record_type.0) (read q p).is
          ∙ rw (other_made d.record_type d.octets d refl refl) refl);
    }
    by ws (any e) = subst (λ (us : List PrintedWord). IsReadAs (V.Other d) (next_data origin d.record_type.0 (left q p us))) (sym e) (record {
      place = behind p (Bare (codes "\\#"));
      is = rw (octets_read d.octets q p h.octets k, h.form) refl;
    })

pub data_read : (origin : Name) (d : RData) (q p : Place) → IsPrintableData d → data_size d ≤ 65535
    → IsReadAs d (next_data origin (type_of d) (left q p (data_words d)))
data_read origin (V.A a) q p h k = address_read a origin q p h
data_read origin (V.AAAA a) q p h k = wide_address_read a origin q p h
data_read origin (V.NS n) q p h k = server_read n origin q p h
data_read origin (V.CNAME n) q p h k = alias_read n origin q p h
data_read origin (V.ANAME n) q p h k = address_alias_read n origin q p h
data_read origin (V.SOA d) q p h k = record {
  place = last_from q p (data_words (V.SOA d));
  is = own_form origin 6 q p (name_text d.mname) (rest_of (data_words (V.SOA d))) (name_is_own d.mname h.mname) ∙ rw (soa_read origin d q p h) refl;
}
data_read origin (V.MX d) q p h k = record {
  place = last_from q p (data_words (V.MX d));
  is = own_form origin 15 q p (decimal d.preference) (rest_of (data_words (V.MX d))) (decimal_own d.preference (omega (arith, h.preference))) ∙ rw (mx_read origin d q p h) refl;
}
data_read origin (V.SRV d) q p h k = record {
  place = last_from q p (data_words (V.SRV d));
  is = own_form origin 33 q p (decimal d.priority) (rest_of (data_words (V.SRV d))) (decimal_own d.priority (omega (arith, h.priority))) ∙ rw (srv_read origin d q p h) refl;
}
data_read origin (V.DNSKEY d) q p h k = record {
  place = last_from q p (data_words (V.DNSKEY d));
  is = own_form origin 48 q p (decimal d.flags) (rest_of (data_words (V.DNSKEY d))) (decimal_own d.flags (omega (arith, h.flags))) ∙ rw (key_read d q p h) refl;
}
data_read origin (V.NSEC d) q p h k = record {
  place = p;
  is = own_form origin 47 q p (name_text d.next_domain_name) (rest_of (data_words (V.NSEC d))) (name_is_own d.next_domain_name h.next) ∙ rw (denial_read origin d q p h) refl;
}
data_read origin (V.NSEC3 d) q p h k = record {
  place = hash_place d p;
  is = own_form origin 50 q p (decimal d.algorithm) (rest_of (data_words (V.NSEC3 d))) (decimal_own d.algorithm (omega (arith, h.algorithm))) ∙ rw (hashed_read d q p h) refl;
}
data_read origin (V.NSEC3PARAM d) q p h k = record {
  place = last_from q p (data_words (V.NSEC3PARAM d));
  is = own_form origin 51 q p (decimal d.algorithm) (rest_of (data_words (V.NSEC3PARAM d))) (decimal_own d.algorithm (omega (arith, h.algorithm))) ∙ rw (parameters_read d q p h) refl;
}
data_read origin (V.RRSIG d) q p h k = record {
  place = last_from q p (data_words (V.RRSIG d));
  is = own_form origin 46 q p (type_word d.type_covered.0) (rest_of (data_words (V.RRSIG d))) (type_own d.type_covered.0) ∙ rw (signature_read origin d q p h) refl;
}
data_read origin (V.Other d) q p h k = other_read origin d q p h k
