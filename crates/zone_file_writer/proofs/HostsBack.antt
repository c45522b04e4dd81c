-- Gateways, relays and identities of hosts that are printed are read as their octets.
use Rattle.std.proofs.Common.{◌≡◌, ◌≤◌, ◌<◌, ℕ, ◌+◌, ◌*◌, ◌/◌, ◌%◌, ◌==◌, List, [], ◌∷◌, ◌++◌, length, take, drop, Bool, true, false, cond, ◌&&◌, Option, Some, None, Ok, refl, ap, subst, ◌∙◌, arith, append_assoc, codes}
use Rattle.std.specs.Prelude.{nat_le, nat_lt}
use Rattle.std.proofs.lemmas.Bool.Decides.{leb_tells, nat_tests}
use Rattle.zone_proto.specs.Names.{Name}
use Rattle.line_text.specs.Addresses.{ipv4_text}
use Rattle.line_text.proofs.PrintedWords.{and_both}
use Rattle.line_text.proofs.RoundTrips.{decimal_read}
use Rattle.message_reading.specs.Octets.{◌>>=◌, octets_of}
use Rattle.zone_scanner.specs.declared.place.Place.{Place}
use Rattle.record_fields.specs.declared.field.Field.TheVariants as F
use Rattle.record_fields.specs.Hosts.{key_of_word, next_gateway, next_host, next_identity, next_relay, tag_of_word}
use Rattle.zone_file_writer.specs.Addresses.{address_text}
use Rattle.zone_file_writer.specs.Labels.{labels_of}
use Rattle.zone_file_writer.specs.Others.{base64_text, hex_digits}
use Rattle.zone_file_writer.specs.Rows.{behind_numbers, field_words, host_word, identity_parts, name_front, name_word, number_word}
use Rattle.zone_file_writer.specs.Words.{PrintedWord, Bare}
use Rattle.zone_file_writer.proofs.AddressesBack.{ipv4_back}
use Rattle.zone_file_writer.proofs.Base64Facts.{base64_back, base64_is_text}
use Rattle.zone_file_writer.proofs.FieldsBack.{AreOctets, IsBackIf, IsCut, IsNameFrontIf, cut, name_cut}
use Rattle.zone_file_writer.proofs.Ipv6Back.{address_back}
use Rattle.zone_file_writer.proofs.Lines.{AreWordTexts}
use Rattle.zone_file_writer.proofs.NamesBack.{name_there}
use Rattle.zone_file_writer.proofs.NumbersBack.{digits_back, u8_back}
use Rattle.zone_file_writer.proofs.OwnFirst.{decimal_own}
use Rattle.zone_file_writer.proofs.PlacedWords.{behind, left}
use Rattle.zone_file_writer.proofs.WordTexts.{address_is_text, decimal_text, digits_are_text, dot_is_text, ipv4_is_text, name_is_text}

-- where a host is: a word that is read as the octets at the front
record IsHost (origin : Name) (kind : ℕ) (os : List ℕ) (w : PrintedWord) (rest : List ℕ) : Type 0 where
  front : List ℕ
  all : front ++ rest ≡ os
  octets : AreOctets rest
  texts : AreWordTexts (w ∷ [])
  small : kind < 4
  read : (q p : Place) (more : List PrintedWord) → next_host origin kind (left q p (w ∷ more)) ≡ Ok (front, left p (behind p w) more)

abbrev IsHostIf : Name → ℕ → List ℕ → Option (PrintedWord × List ℕ) → Type 0
IsHostIf origin kind os None = Unit {0}
IsHostIf origin kind os (Some x) = IsHost origin kind os x.0 x.1

none_there : (origin : Name) (os : List ℕ) → AreOctets os → IsHost origin 0 os (Bare (codes ".")) os
none_there origin os h = record { front = []; all = refl; octets = h; texts = (dot_is_text, tt); small = omega arith; read = λ q p more. refl }

ipv4_there : (origin : Name) (os first rest : List ℕ) → IsCut 4 os first rest → IsHost origin 1 os (Bare (ipv4_text first)) rest
ipv4_there origin os first rest h = record {
  front = first;
  all = h.all;
  octets = h.rest_octets;
  texts = (ipv4_is_text first h.size h.first_octets, tt);
  small = omega arith;
  read = λ q p more. rw (ipv4_back first h.size h.first_octets) refl;
}

ipv6_there : (origin : Name) (os first rest : List ℕ) → IsCut 16 os first rest → IsHost origin 2 os (Bare (address_text first)) rest
ipv6_there origin os first rest h = record {
  front = first;
  all = h.all;
  octets = h.rest_octets;
  texts = (address_is_text first h.size h.first_octets, tt);
  small = omega arith;
  read = λ q p more. rw (address_back first h.size h.first_octets) refl;
}

counted_host : (origin : Name) (kind n : ℕ) (text : List ℕ → List ℕ) → ((os first rest : List ℕ) → IsCut n os first rest → IsHost origin kind os (Bare (text first)) rest)
    → (os : List ℕ) → AreOctets os → IsHostIf origin kind os (octets_of n os >>= λ a. Some (Bare (text a.0), a.1))
counted_host origin kind n text there os h = by (nat_le n (length os)) refl
  where
    by : (b : Bool) → nat_le n (length os) ≡ b
        → IsHostIf origin kind os ((cond {A = Option (List ℕ × List ℕ)} b (Some (take n os, drop n os)) None) >>= λ a. Some (Bare (text a.0), a.1))
    by false e = tt
    by true e = let within : n ≤ length os = grind (arith, leb_tells) in there os (take n os) (drop n os) (cut n os within h)

name_host : (origin : Name) (os : List ℕ) → AreOctets os → IsHostIf origin 3 os (name_front os >>= λ n. Some (name_word n.0, n.1))
name_host origin os h = by (name_front os) (name_cut os h)
  where
    by : (o : Option (List ℕ × List ℕ)) → IsNameFrontIf os o → IsHostIf origin 3 os (o >>= λ n. Some (name_word n.0, n.1))
    by None of = tt
    by (Some x) of = record {
      front = x.0;
      all = of.all;
      octets = of.octets;
      texts = (name_is_text (labels_of x.0) of.name, tt);
      small = omega arith;
      read = λ q p more. rw (name_there origin (labels_of x.0) of.name, of.wire) refl;
    }

host_back : (origin : Name) (kind : ℕ) (os : List ℕ) → AreOctets os → IsHostIf origin kind os (host_word kind os)
host_back origin kind os h =
    if_kind 0 (Some (Bare (codes "."), os)) _ (none_there origin os h)
    (if_kind 1 (octets_of 4 os >>= λ a. Some (Bare (ipv4_text a.0), a.1)) _ (counted_host origin 1 4 ipv4_text (ipv4_there origin) os h)
    (if_kind 2 (octets_of 16 os >>= λ a. Some (Bare (address_text a.0), a.1)) _ (counted_host origin 2 16 address_text (ipv6_there origin) os h)
    (if_kind 3 (name_front os >>= λ n. Some (name_word n.0, n.1)) None (name_host origin os h) tt)))
  where
    if_kind : (n : ℕ) (this other : Option (PrintedWord × List ℕ)) → IsHostIf origin n os this → IsHostIf origin kind os other → IsHostIf origin kind os (cond (kind == n) this other)
    if_kind n this other a b = by (kind == n) refl
      where
        by : (c : Bool) → (kind == n) ≡ c → IsHostIf origin kind os (cond c this other)
        by true e = let same : n ≡ kind = grind (arith, nat_tests) in subst (λ (m : ℕ). IsHostIf origin m os this) same a
        by false e = b

-- ---- a gateway and a relay

gateway_read : (origin : Name) (kind algorithm : ℕ) (w : PrintedWord) (front : List ℕ) (q p : Place) (more : List PrintedWord) → kind < 256 → algorithm < 256
    → ((q p : Place) (more : List PrintedWord) → next_host origin kind (left q p (w ∷ more)) ≡ Ok (front, left p (behind p w) more))
    → next_gateway origin (left q p (number_word kind ∷ number_word algorithm ∷ w ∷ more))
    ≡ Ok (kind ∷ algorithm ∷ front, left (behind (behind p (number_word kind)) (number_word algorithm)) (behind (behind (behind p (number_word kind)) (number_word algorithm)) w) more)
unfolding next_gateway
gateway_read origin kind algorithm w front q p more h k read =
    rw (u8_back kind h, u8_back algorithm k, read (behind p (number_word kind)) (behind (behind p (number_word kind)) (number_word algorithm)) more) refl

pub gateway_back : (origin : Name) (os : List ℕ) → AreOctets os → IsBackIf origin F.Gateway os (field_words F.Gateway os)
gateway_back origin [] h = tt
gateway_back origin (kind ∷ []) h = tt
gateway_back origin (kind ∷ algorithm ∷ os) h = by (host_word kind os) (host_back origin kind os h.1.1)
  where
    by : (o : Option (PrintedWord × List ℕ)) → IsHostIf origin kind os o → IsBackIf origin F.Gateway (kind ∷ algorithm ∷ os) (behind_numbers kind algorithm o)
    by None of = tt
    by (Some x) of = record {
      front = kind ∷ algorithm ∷ of.front;
      all = ap (λ (t : List ℕ). kind ∷ algorithm ∷ t) of.all;
      octets = of.octets;
      texts = (decimal_text kind (omega (arith, h.0)), (decimal_text algorithm (omega (arith, h.1.0)), of.texts));
      filled = refl;
      own = λ p. decimal_own kind (omega (arith, h.0));
      read = λ q p more. gateway_read origin kind algorithm x.0 of.front q p more h.0 h.1.0 of.read;
    }

relay_read : (origin : Name) (discovery kind b : ℕ) (w : PrintedWord) (front : List ℕ) (q p : Place) (more : List PrintedWord) → discovery < 2 → kind < 128 → discovery * 128 + kind ≡ b
    → ((q p : Place) (more : List PrintedWord) → next_host origin kind (left q p (w ∷ more)) ≡ Ok (front, left p (behind p w) more))
    → next_relay origin (left q p (number_word discovery ∷ number_word kind ∷ w ∷ more))
    ≡ Ok (b ∷ front, left (behind (behind p (number_word discovery)) (number_word kind)) (behind (behind (behind p (number_word discovery)) (number_word kind)) w) more)
unfolding next_relay
relay_read origin discovery kind b w front q p more h k e read =
    rw (decimal_read 1 discovery (omega arith) (omega arith), u8_back kind (omega arith), read (behind p (number_word discovery)) (behind (behind p (number_word discovery)) (number_word kind)) more)
    (ap (λ (n : ℕ). Ok (n ∷ front, left (behind (behind p (number_word discovery)) (number_word kind)) (behind (behind (behind p (number_word discovery)) (number_word kind)) w) more)) e)

pub relay_back : (origin : Name) (os : List ℕ) → AreOctets os → IsBackIf origin F.Relay os (field_words F.Relay os)
relay_back origin [] h = tt
relay_back origin (b ∷ os) h = by (host_word (b % 128) os) (host_back origin (b % 128) os h.1)
  where
    by : (o : Option (PrintedWord × List ℕ)) → IsHostIf origin (b % 128) os o → IsBackIf origin F.Relay (b ∷ os) (behind_numbers (b / 128) (b % 128) o)
    by None of = tt
    by (Some x) of = record {
      front = b ∷ of.front;
      all = ap (λ (t : List ℕ). b ∷ t) of.all;
      octets = of.octets;
      texts = (decimal_text (b / 128) (omega (arith, h.0)), (decimal_text (b % 128) (omega arith), of.texts));
      filled = refl;
      own = λ p. decimal_own (b / 128) (omega (arith, h.0));
      read = λ q p more. relay_read origin (b / 128) (b % 128) b x.0 of.front q p more (omega (arith, h.0)) (omega arith) (omega arith) of.read;
    }

-- ---- an identity

short_again : (a b : ℕ) → a < 256 → b < 256 → ((a * 256 + b) / 256 ≡ a) × ((a * 256 + b) % 256 ≡ b)
short_again a b h k = (omega arith, omega arith)

tag_back : (tag : List ℕ) → nat_lt 0 (length tag) ≡ true → length tag ≤ 255 → AreOctets tag → tag_of_word (hex_digits tag) ≡ Some tag
tag_back [] some h all = absurd (cc)
tag_back (o ∷ os) some h all = let short : nat_le (length (o ∷ os)) 255 ≡ true = grind (arith, leb_tells) in rw (digits_back o os all, short) refl

key_back : (key : List ℕ) → length key ≤ 65535 → AreOctets key → key_of_word (base64_text key) ≡ Some key
key_back key h all = let short : nat_le (length key) 65535 ≡ true = grind (arith, leb_tells) in rw (base64_back key all, short) refl

tag_texts : (tag key : List ℕ) → nat_lt 0 (length tag) ≡ true → nat_lt 0 (length key) ≡ true → AreOctets tag → AreOctets key → AreWordTexts (Bare (hex_digits tag) ∷ Bare (base64_text key) ∷ [])
tag_texts [] key h k all more = absurd (cc)
tag_texts (o ∷ os) [] h k all more = absurd (cc)
tag_texts (o ∷ os) (b ∷ key) h k all more = (digits_are_text o os all, (base64_is_text b key more, tt))

identity_read : (algorithm : ℕ) (tag key : List ℕ) (q p : Place) (more : List PrintedWord) → algorithm < 256 → tag_of_word (hex_digits tag) ≡ Some tag → key_of_word (base64_text key) ≡ Some key
    → next_identity (left q p (number_word algorithm ∷ Bare (hex_digits tag) ∷ Bare (base64_text key) ∷ more))
    ≡ Ok (
      length tag ∷ algorithm ∷ (length key / 256) ∷ (length key % 256) ∷ (tag ++ key),
      left (behind (behind p (number_word algorithm)) (Bare (hex_digits tag))) (behind (behind (behind p (number_word algorithm)) (Bare (hex_digits tag))) (Bare (base64_text key))) more,
    )
unfolding next_identity
identity_read algorithm tag key q p more h k l = rw (u8_back algorithm h, k, l) refl

-- the tag and the key behind their counts
identity_form : (origin : Name) (count algorithm a b : ℕ) (os tag behind_tag key rest : List ℕ) → count < 256 → algorithm < 256 → a < 256 → b < 256
    → IsCut count os tag behind_tag → IsCut (a * 256 + b) behind_tag key rest
    → IsBackIf origin F.Identity (count ∷ algorithm ∷ a ∷ b ∷ os) (identity_parts algorithm tag key rest)
identity_form origin count algorithm a b os tag behind_tag key rest hc ha h k first second = by (nat_lt 0 (length tag) && nat_lt 0 (length key)) refl
  where
    size : (length key / 256 ≡ a) × (length key % 256 ≡ b)
    size = let again = short_again a b h k in (ap (λ (n : ℕ). n / 256) second.size ∙ again.0, ap (λ (n : ℕ). n % 256) second.size ∙ again.1)

    all : length tag ∷ algorithm ∷ (length key / 256) ∷ (length key % 256) ∷ ((tag ++ key) ++ rest) ≡ count ∷ algorithm ∷ a ∷ b ∷ os
    all =
        rw (first.size, size.0, size.1)
        (ap (λ (t : List ℕ). count ∷ algorithm ∷ a ∷ b ∷ t) (append_assoc tag key rest ∙ ap (λ (t : List ℕ). tag ++ t) second.all ∙ first.all))

    by : (c : Bool) → (nat_lt 0 (length tag) && nat_lt 0 (length key)) ≡ c
        → IsBackIf origin F.Identity (count ∷ algorithm ∷ a ∷ b ∷ os)
        (cond c (Some (number_word algorithm ∷ Bare (hex_digits tag) ∷ Bare (base64_text key) ∷ [], rest)) None)
    by false e = tt
    by true e =
        let both = and_both (nat_lt 0 (length tag)) (nat_lt 0 (length key)) e in
        let few : length tag ≤ 255 = omega (arith, first.size) in
        let short : length key ≤ 65535 = omega (arith, second.size) in
        record {
          front = length tag ∷ algorithm ∷ (length key / 256) ∷ (length key % 256) ∷ (tag ++ key);
          all = all;
          octets = second.rest_octets;
          texts = (decimal_text algorithm (omega arith), tag_texts tag key both.0 both.1 first.first_octets second.first_octets);
          filled = refl;
          own = λ p. decimal_own algorithm (omega arith);
          read = λ q p more. identity_read algorithm tag key q p more ha (tag_back tag both.0 few first.first_octets) (key_back key short second.first_octets);
        }

pub identity_back : (origin : Name) (os : List ℕ) → AreOctets os → IsBackIf origin F.Identity os (field_words F.Identity os)
identity_back origin [] h = tt
identity_back origin (count ∷ []) h = tt
identity_back origin (count ∷ algorithm ∷ []) h = tt
identity_back origin (count ∷ algorithm ∷ a ∷ []) h = tt
identity_back origin (count ∷ algorithm ∷ a ∷ b ∷ os) h = by (nat_le count (length os)) refl
  where
    at : (tag others : List ℕ) → IsCut count os tag others → (c : Bool) → nat_le (a * 256 + b) (length others) ≡ c
        → IsBackIf origin F.Identity (count ∷ algorithm ∷ a ∷ b ∷ os)
        ((cond {A = Option (List ℕ × List ℕ)} c (Some (take (a * 256 + b) others, drop (a * 256 + b) others)) None) >>= λ key. identity_parts algorithm tag key.0 key.1)
    at tag others first false e = tt
    at tag others first true e =
        let within : a * 256 + b ≤ length others = grind (arith, leb_tells) in
        identity_form origin count algorithm a b os tag others (take (a * 256 + b) others) (drop (a * 256 + b) others) h.0 h.1.0 h.1.1.0 h.1.1.1.0 first
        (cut (a * 256 + b) others within first.rest_octets)

    by : (c : Bool) → nat_le count (length os) ≡ c
        → IsBackIf origin F.Identity (count ∷ algorithm ∷ a ∷ b ∷ os)
        ((cond {A = Option (List ℕ × List ℕ)} c (Some (take count os, drop count os)) None) >>= λ tag. (octets_of (a * 256 + b) tag.1 >>= λ key. identity_parts algorithm tag.0 key.0 key.1))
    by false e = tt
    by true e =
        let within : count ≤ length os = grind (arith, leb_tells) in
        at (take count os) (drop count os) (cut count os within h.1.1.1.1) (nat_le (a * 256 + b) (length (drop count os))) refl
