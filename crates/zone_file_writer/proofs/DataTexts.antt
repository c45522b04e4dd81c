-- What is printed of data is words of a zone file.
use Rattle.std.proofs.Common.{◌≡◌, ◌≢◌, ◌≤◌, ◌<◌, ℕ, List, [], ◌∷◌, ◌++◌, length, Bool, true, false, refl, sym, ap, subst, arith, append_assoc, append-nil, codes}
use Rattle.std.specs.Fmt.{decimal}
use Rattle.std.specs.Prelude.{ℤ}
use Rattle.std.specs.Int.{w32, cast_unsigned}
use Rattle.std.specs.Int.RustNames.{FitsSigned}
use Rattle.std.specs.List.{AllByRecursion}
use Rattle.zone_proto.specs.declared.record_type.RecordType.{RecordType}
use Rattle.zone_proto.specs.declared.rdata.RData.{RData}
use Rattle.zone_proto.specs.declared.rdata.RData.TheVariants as V
use Rattle.zone_proto.specs.declared.rdata.other.OtherData.{OtherData}
use Rattle.zone_proto.specs.Base32.{base32_text}
use Rattle.zone_proto.specs.Text.{name_text}
use Rattle.line_text.specs.Addresses.{ipv4_text}
use Rattle.zone_file_writer.specs.Addresses.{address_text}
use Rattle.line_text.specs.Denial.{opt_out_flag}
use Rattle.line_text.specs.Hex.{hex_text}
use Rattle.line_text.specs.Parts.{joined}
use Rattle.zone_scanner.specs.declared.place.Place.{Place}
use Rattle.record_fields.specs.Fields.{Left, left_at}
use Rattle.zone_file.specs.Data.{data_size}
use Rattle.zone_file_writer.specs.Moments.{moment_text}
use Rattle.zone_file_writer.specs.Others.{base64_text, hex_words, octets_words}
use Rattle.zone_file_writer.specs.Rows.{other_words}
use Rattle.zone_file_writer.specs.Printing.{master_data_text, timer_text}
use Rattle.zone_file_writer.specs.Words.{PrintedWord, Bare, type_word, types_text, words_text}
use Rattle.zone_file_writer.specs.Printable.{IsPrintableData}
use Rattle.zone_file_writer.proofs.Lines.{IsBareText, AreWordTexts}
use Rattle.zone_file_writer.proofs.WordTexts.{backslash_ordinary, decimal_text, digits_are_text, hex_is_text, moment_is_text, address_is_text, ipv4_is_text, name_is_text, type_is_text}
use Rattle.zone_file_writer.proofs.NumbersBack.{unsigned_small}
use Rattle.zone_file_writer.proofs.PlacedWords.{last_from}
use Rattle.zone_file_writer.proofs.RowsBack.{IsForm, own, any, other_form}
use Rattle.zone_file_writer.proofs.TypesBack.{type_texts, types_are_texts}
use Rattle.zone_file_writer.proofs.Base32Back.{base32_is_text}
use Rattle.zone_file_writer.proofs.Base64Facts.{base64_is_text}

abbrev pub none_left : Place → Place → List PrintedWord → Left
none_left q p us = left_at (last_from q p us) []

-- ---- the words of data

abbrev pub data_words : RData → List PrintedWord
data_words (V.A a) = Bare (ipv4_text a) ∷ []
data_words (V.AAAA a) = Bare (address_text a) ∷ []
data_words (V.NS n) = Bare (name_text n) ∷ []
data_words (V.CNAME n) = Bare (name_text n) ∷ []
data_words (V.ANAME n) = Bare (name_text n) ∷ []
data_words (V.SOA d) =
    Bare (name_text d.mname) ∷ Bare (name_text d.rname) ∷ Bare (decimal d.serial) ∷ Bare (timer_text d.refresh)
    ∷ Bare (timer_text d.retry) ∷ Bare (timer_text d.expire) ∷ Bare (decimal d.minimum) ∷ []
data_words (V.MX d) = Bare (decimal d.preference) ∷ Bare (name_text d.exchange) ∷ []
data_words (V.SRV d) = Bare (decimal d.priority) ∷ Bare (decimal d.weight) ∷ Bare (decimal d.port) ∷ Bare (name_text d.target) ∷ []
data_words (V.DNSKEY d) = Bare (decimal d.flags) ∷ Bare (decimal d.protocol) ∷ Bare (decimal d.algorithm) ∷ Bare (base64_text d.public_key) ∷ []
data_words (V.NSEC d) = Bare (name_text d.next_domain_name) ∷ type_texts d.types
data_words (V.NSEC3 d) =
    Bare (decimal d.algorithm) ∷ Bare (decimal (opt_out_flag d.opt_out)) ∷ Bare (decimal d.iterations) ∷ Bare (hex_text d.salt)
    ∷ Bare (base32_text d.next_hashed_owner_name) ∷ type_texts d.types
data_words (V.NSEC3PARAM d) = Bare (decimal d.algorithm) ∷ Bare (decimal (opt_out_flag d.opt_out)) ∷ Bare (decimal d.iterations) ∷ Bare (hex_text d.salt) ∷ []
data_words (V.RRSIG d) =
    Bare (type_word d.type_covered.0) ∷ Bare (decimal d.algorithm) ∷ Bare (decimal d.num_labels) ∷ Bare (decimal d.original_ttl)
    ∷ Bare (moment_text d.expiration) ∷ Bare (moment_text d.inception) ∷ Bare (decimal d.key_tag) ∷ Bare (name_text d.signer_name)
    ∷ Bare (base64_text d.signature) ∷ []
data_words (V.Other d) = other_words d.record_type.0 d.octets

spread : (t : List ℕ) (ts : List RecordType) → t ++ types_text ts ≡ words_text (Bare t ∷ type_texts ts)
spread t [] = append-nil t
spread t (u ∷ us) = ap (λ (s : List ℕ). t ++ 32 ∷ s) (spread (type_word u.0) us)

spread_last : (a b c d t : List ℕ) (ts : List RecordType)
    → joined 32 (a ∷ b ∷ c ∷ d ∷ t ∷ []) ++ types_text ts ≡ words_text (Bare a ∷ Bare b ∷ Bare c ∷ Bare d ∷ Bare t ∷ type_texts ts)
spread_last a b c d t ts = simp append_assoc (ap (λ (s : List ℕ). a ++ 32 ∷ (b ++ 32 ∷ (c ++ 32 ∷ (d ++ 32 ∷ s)))) (spread t ts))

pub text_is : (d : RData) → IsPrintableData d → master_data_text d ≡ words_text (data_words d)
text_is (V.A a) h = refl
text_is (V.AAAA a) h = refl
text_is (V.NS n) h = refl
text_is (V.CNAME n) h = refl
text_is (V.ANAME n) h = refl
text_is (V.SOA d) h = refl
text_is (V.MX d) h = refl
text_is (V.SRV d) h = refl
text_is (V.DNSKEY d) h = refl
text_is (V.NSEC d) h = spread (name_text d.next_domain_name) d.types
text_is (V.NSEC3 d) h =
    spread_last (decimal d.algorithm) (decimal (opt_out_flag d.opt_out)) (decimal d.iterations) (hex_text d.salt) (base32_text d.next_hashed_owner_name) d.types
text_is (V.NSEC3PARAM d) h = refl
text_is (V.RRSIG d) h = refl
text_is (V.Other d) h = refl

-- ---- they are texts of words

key_text_is : (m : List ℕ) → AllByRecursion (λ b. b < 256) m → m ≢ [] → IsBareText (base64_text m)
key_text_is [] h some = absurd (some refl)
key_text_is (a ∷ m) h some = base64_is_text a m h

hash_text_is : (os : List ℕ) → os ≢ [] → IsBareText (base32_text os)
hash_text_is [] some = absurd (some refl)
hash_text_is (o ∷ os) some = base32_is_text o os

flag_text : (b : Bool) → IsBareText (decimal (opt_out_flag b))
flag_text true = decimal_text 1 (omega arith)
flag_text false = decimal_text 0 (omega arith)

timer_is_text : (z : ℤ) → FitsSigned w32 z → IsBareText (timer_text z)
timer_is_text z h = let small = unsigned_small z h in decimal_text (cast_unsigned w32 z) (omega arith)

generic_text : IsBareText (codes "\\#")
generic_text = (backslash_ordinary, (refl, refl, tt))

hex_words_are_texts : (os : List ℕ) → AllByRecursion (λ b. b < 256) os → AreWordTexts (hex_words os)
hex_words_are_texts [] h = tt
hex_words_are_texts (o ∷ os) h = (digits_are_text o os h, tt)

octets_are_texts : (os : List ℕ) → AllByRecursion (λ b. b < 256) os → length os ≤ 65535 → AreWordTexts (octets_words os)
octets_are_texts os h k = (generic_text, (decimal_text (length os) (omega arith), hex_words_are_texts os h))

-- of data of a type without a case of its own; the origin counts for nothing
other_texts : (d : OtherData) → AllByRecursion (λ b. b < 256) d.octets → length d.octets ≤ 65535 → AreWordTexts (data_words (V.Other d))
other_texts d h k = by (other_form [] d.record_type.0 d.octets h)
  where
    by : IsForm [] d.record_type.0 d.octets (data_words (V.Other d)) → AreWordTexts (data_words (V.Other d))
    by (own some texts first read) = texts
    by (any e) = subst AreWordTexts (sym e) (octets_are_texts d.octets h k)

pub data_are_texts : (d : RData) → IsPrintableData d → data_size d ≤ 65535 → AreWordTexts (data_words d)
data_are_texts (V.A a) h k = (ipv4_is_text a h.0 h.1, tt)
data_are_texts (V.AAAA a) h k = (address_is_text a h.0 h.1, tt)
data_are_texts (V.NS n) h k = (name_is_text n h, tt)
data_are_texts (V.CNAME n) h k = (name_is_text n h, tt)
data_are_texts (V.ANAME n) h k = (name_is_text n h, tt)
data_are_texts (V.SOA d) h k = (
  name_is_text d.mname h.mname,
  (
    name_is_text d.rname h.rname,
    (
      decimal_text d.serial (omega (arith, h.serial)),
      (
        timer_is_text d.refresh h.refresh,
        (timer_is_text d.retry h.retry, (timer_is_text d.expire h.expire, (decimal_text d.minimum (omega (arith, h.minimum)), tt))),
      ),
    ),
  ),
)
data_are_texts (V.MX d) h k = (decimal_text d.preference (omega (arith, h.preference)), (name_is_text d.exchange h.exchange, tt))
data_are_texts (V.SRV d) h k = (
  decimal_text d.priority (omega (arith, h.priority)),
  (decimal_text d.weight (omega (arith, h.weight)), (decimal_text d.port (omega (arith, h.port)), (name_is_text d.target h.target, tt))),
)
data_are_texts (V.DNSKEY d) h k = (
  decimal_text d.flags (omega (arith, h.flags)),
  (
    decimal_text d.protocol (omega (arith, h.protocol)),
    (decimal_text d.algorithm (omega (arith, h.algorithm)), (key_text_is d.public_key h.octets h.some, tt)),
  ),
)
data_are_texts (V.NSEC d) h k = (name_is_text d.next_domain_name h.next, types_are_texts 0 d.types h.types)
data_are_texts (V.NSEC3 d) h k = (
  decimal_text d.algorithm (omega (arith, h.algorithm)),
  (
    flag_text d.opt_out,
    (
      decimal_text d.iterations (omega (arith, h.iterations)),
      (hex_is_text d.salt h.salt, (hash_text_is d.next_hashed_owner_name h.some, types_are_texts 0 d.types h.types)),
    ),
  ),
)
data_are_texts (V.NSEC3PARAM d) h k = (
  decimal_text d.algorithm (omega (arith, h.algorithm)),
  (flag_text d.opt_out, (decimal_text d.iterations (omega (arith, h.iterations)), (hex_is_text d.salt h.salt, tt))),
)
data_are_texts (V.RRSIG d) h k = (
  type_is_text d.type_covered.0 h.covered.range,
  (
    decimal_text d.algorithm (omega (arith, h.algorithm)),
    (
      decimal_text d.num_labels (omega (arith, h.labels)),
      (
        decimal_text d.original_ttl (omega (arith, h.ttl)),
        (
          moment_is_text d.expiration,
          (
            moment_is_text d.inception,
            (decimal_text d.key_tag (omega (arith, h.tag)), (name_is_text d.signer_name h.signer, (key_text_is d.signature h.octets h.some, tt))),
          ),
        ),
      ),
    ),
  ),
)
data_are_texts (V.Other d) h k = other_texts d h.octets k
