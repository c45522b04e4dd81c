-- Data of each type, read back
use Rattle.std.proofs.Common.{◌≡◌, ℕ, ℤ, ◌≤◌, true, eqb, List, [], ◌∷◌, ◌++◌, length, Option, Some, refl, sym, ap, ◌∙◌, arith}
use Rattle.std.specs.Int.{w32, cast_unsigned}
use Rattle.std.proofs.lemmas.Int.{to_z-of_z}
use Rattle.std.proofs.lemmas.List.{append-nil}
use Rattle.std.proofs.lemmas.Bool.{eq-eqb}
use Rattle.zone_proto.specs.Names.{Name, IsName, wire_form}
use Rattle.zone_proto.specs.declared.rdata.start_of_authority.SOA.{SOA as SoaData}
use Rattle.zone_proto.specs.declared.rdata.mail_exchange.MX.{MX as MxData}
use Rattle.zone_proto.specs.declared.rdata.service.SRV.{SRV as SrvData}
use Rattle.zone_proto.specs.declared.rdata.signing.DNSKEY.{DNSKEY as DnskeyData}
use Rattle.zone_proto.specs.declared.rdata.signing.RRSIG.{RRSIG as RrsigData}
use Rattle.zone_proto.specs.declared.rdata.RData.{RData}
use Rattle.zone_proto.specs.declared.rdata.RData.TheVariants as V
use Rattle.message_reading.specs.Octets.{octet_of, short_of, long_of, past}
use Rattle.message_reading.specs.MessageNames.{name_of, plain_name_of}
use Rattle.message_reading.specs.DataForms.{data_of, own_data_of, soa_of, mx_of, srv_of, dnskey_of, rrsig_of, signed}
use Rattle.message_writing.specs.Continuing.{Continues}
use Rattle.message_writing.specs.KnownNames.{IsCut, cut_text}
use Rattle.message_writing.specs.DataText.{short_text, long_text, timers_text, srv_text, dnskey_text, rrsig_text, AreTimers, DataReadBack}
use Rattle.message_writing.proofs.NameWriting.{cut_back}
use Rattle.message_writing.proofs.Fields.{short_back, long_back, plain_back, wire_back, nothing_more}

-- ---- addresses

pub a_back : (before a : List ℕ) → length a ≡ 4 → DataReadBack before 1 a (V.A a)
unfolding data_of own_data_of
a_back before a four m rest g at behind = let e : eqb (length a) 4 ≡ true = eq-eqb (length a) 4 four in rw e refl

pub aaaa_back : (before a : List ℕ) → length a ≡ 16 → DataReadBack before 28 a (V.AAAA a)
unfolding data_of own_data_of
aaaa_back before a many m rest g at behind = let e : eqb (length a) 16 ≡ true = eq-eqb (length a) 16 many in rw e refl

-- ---- a name alone

cut_alone : (before rest m : List ℕ) (at labels : ℕ) (pointer : Option ℕ) (n : Name) → Continues before rest m → length before ≤ at
    → IsCut before labels pointer n → IsName n → name_of m at (cut_text labels pointer n) ≡ Some (n, [])
cut_alone before rest m at labels pointer n g behind cut valid =
    ap (name_of m at) (sym (append-nil (cut_text labels pointer n))) ∙ cut_back before rest m at labels pointer n [] g behind cut valid

wire_alone : (n : Name) → IsName n → plain_name_of (wire_form n) ≡ Some (n, [])
wire_alone n valid = ap plain_name_of (sym (append-nil (wire_form n))) ∙ plain_back n [] valid

pub ns_back : (before : List ℕ) (labels : ℕ) (pointer : Option ℕ) (n : Name) → IsCut before labels pointer n → IsName n
    → DataReadBack before 2 (cut_text labels pointer n) (V.NS n)
unfolding data_of own_data_of
ns_back before labels pointer n cut valid m rest g at behind =
    let e = cut_alone before rest m at labels pointer n g behind cut valid in rw e refl

pub cname_back : (before : List ℕ) (labels : ℕ) (pointer : Option ℕ) (n : Name) → IsCut before labels pointer n → IsName n
    → DataReadBack before 5 (cut_text labels pointer n) (V.CNAME n)
unfolding data_of own_data_of
cname_back before labels pointer n cut valid m rest g at behind =
    let e = cut_alone before rest m at labels pointer n g behind cut valid in rw e refl

pub aname_back : (before : List ℕ) (n : Name) → IsName n → DataReadBack before 65305 (wire_form n) (V.ANAME n)
unfolding data_of own_data_of
aname_back before n valid m rest g at behind = let e = wire_alone n valid in rw e refl

-- ---- SOA

abbrev soa : Name → Name → ℕ → ℤ → ℤ → ℤ → ℕ → RData
soa m r s f t e n = V.SOA (record { mname = m; rname = r; serial = s; refresh = f; retry = t; expire = e; minimum = n })

-- the steps of an SOA's reading, over any values
soa_from : (m : List ℕ) (at : ℕ) (octets : List ℕ) (mname rname : Name × List ℕ) (serial refresh retry expire : ℕ × List ℕ) (minimum : ℕ)
    → name_of m at octets ≡ Some mname → name_of m (past at octets mname.1) mname.1 ≡ Some rname → long_of rname.1 ≡ Some serial
    → long_of serial.1 ≡ Some refresh → long_of refresh.1 ≡ Some retry → long_of retry.1 ≡ Some expire → long_of expire.1 ≡ Some (minimum, [])
    → soa_of m at octets ≡ Some (soa mname.0 rname.0 serial.0 (signed refresh.0) (signed retry.0) (signed expire.0) minimum)
unfolding soa_of
soa_from m at octets mname rname serial refresh retry expire minimum e₁ e₂ e₃ e₄ e₅ e₆ e₇ = rw (e₁, e₂, e₃, e₄, e₅, e₆, e₇) refl

pub soa_back : (before : List ℕ) (k l : ℕ) (p q : Option ℕ) (s : SoaData) → IsCut before k p s.mname → IsCut before l q s.rname → IsName s.mname
    → IsName s.rname → AreTimers s → DataReadBack before 6 (cut_text k p s.mname ++ (cut_text l q s.rname ++ timers_text s)) (V.SOA s)
unfolding data_of own_data_of
soa_back before k l p q s cut₁ cut₂ valid₁ valid₂ timers m rest g at behind =
    let z₁ = cast_unsigned w32 s.refresh in
    let z₂ = cast_unsigned w32 s.retry in
    let z₃ = cast_unsigned w32 s.expire in
    let t₅ : List ℕ = long_text s.minimum in
    let t₄ : List ℕ = long_text z₃ ++ t₅ in
    let t₃ : List ℕ = long_text z₂ ++ t₄ in
    let t₂ : List ℕ = long_text z₁ ++ t₃ in
    let t₁ : List ℕ = long_text s.serial ++ t₂ in
    let t₀ : List ℕ = cut_text l q s.rname ++ t₁ in
    let all : List ℕ = cut_text k p s.mname ++ t₀ in
    let there : length before ≤ past at all t₀ = omega arith in
    soa_from m at all (s.mname, t₀) (s.rname, t₁) (s.serial, t₂) (z₁, t₃) (z₂, t₄) (z₃, t₅) s.minimum
    (cut_back before rest m at k p s.mname t₀ g behind cut₁ valid₁) (cut_back before rest m (past at all t₀) l q s.rname t₁ g there cut₂ valid₂)
    (long_back s.serial t₂) (long_back z₁ t₃) (long_back z₂ t₄) (long_back z₃ t₅) (long_back s.minimum [])
    ∙ λ i. Some (soa s.mname s.rname s.serial (to_z-of_z w32 s.refresh timers.refresh i) (to_z-of_z w32 s.retry timers.retry i)
    (to_z-of_z w32 s.expire timers.expire i) s.minimum)

-- ---- MX and SRV

mx_from : (m : List ℕ) (at : ℕ) (octets : List ℕ) (preference : ℕ × List ℕ) (exchange : Name) → short_of octets ≡ Some preference
    → name_of m (past at octets preference.1) preference.1 ≡ Some (exchange, [])
    → mx_of m at octets ≡ Some (V.MX (record { preference = preference.0; exchange = exchange }))
unfolding mx_of
mx_from m at octets preference exchange e₁ e₂ = rw (e₁, e₂) refl

pub mx_back : (before : List ℕ) (labels : ℕ) (pointer : Option ℕ) (d : MxData) → IsCut before labels pointer d.exchange → IsName d.exchange
    → DataReadBack before 15 (short_text d.preference ++ cut_text labels pointer d.exchange) (V.MX d)
unfolding data_of own_data_of
mx_back before labels pointer d cut valid m rest g at behind =
    let text : List ℕ = cut_text labels pointer d.exchange in
    let all : List ℕ = short_text d.preference ++ text in
    let there : length before ≤ past at all text = omega arith in
    mx_from m at all (d.preference, text) d.exchange (short_back d.preference text)
    (cut_alone before rest m (past at all text) labels pointer d.exchange g there cut valid)

srv_from : (m : List ℕ) (at : ℕ) (octets : List ℕ) (priority weight port : ℕ × List ℕ) (target : Name) → short_of octets ≡ Some priority
    → short_of priority.1 ≡ Some weight → short_of weight.1 ≡ Some port → name_of m (past at octets port.1) port.1 ≡ Some (target, [])
    → srv_of m at octets ≡ Some (V.SRV (record { priority = priority.0; weight = weight.0; port = port.0; target = target }))
unfolding srv_of
srv_from m at octets priority weight port target e₁ e₂ e₃ e₄ = rw (e₁, e₂, e₃, e₄) refl

pub srv_back : (before : List ℕ) (d : SrvData) → IsName d.target → DataReadBack before 33 (srv_text d) (V.SRV d)
unfolding data_of own_data_of
srv_back before d valid m rest g at behind =
    let t₃ : List ℕ = wire_form d.target in
    let t₂ : List ℕ = short_text d.port ++ t₃ in
    let t₁ : List ℕ = short_text d.weight ++ t₂ in
    let all : List ℕ = short_text d.priority ++ t₁ in
    srv_from [] at all (d.priority, t₁) (d.weight, t₂) (d.port, t₃) d.target (short_back d.priority t₁) (short_back d.weight t₂)
    (short_back d.port t₃)
    (ap (name_of [] (past at all t₃)) (sym (append-nil t₃)) ∙ wire_back [] [] [] (past at all t₃) d.target [] nothing_more (omega arith) valid)

-- ---- DNSKEY

dnskey_from : (octets : List ℕ) (flags protocol algorithm : ℕ × List ℕ) → short_of octets ≡ Some flags → octet_of flags.1 ≡ Some protocol
    → octet_of protocol.1 ≡ Some algorithm
    → dnskey_of octets ≡ Some (V.DNSKEY (record {
      flags = flags.0;
      protocol = protocol.0;
      algorithm = algorithm.0;
      public_key = algorithm.1;
    }))
unfolding dnskey_of
dnskey_from octets flags protocol algorithm e₁ e₂ e₃ = rw (e₁, e₂, e₃) refl

pub dnskey_back : (before : List ℕ) (d : DnskeyData) → DataReadBack before 48 (dnskey_text d) (V.DNSKEY d)
unfolding data_of own_data_of
dnskey_back before d m rest g at behind =
    let t₂ : List ℕ = d.algorithm ∷ d.public_key in
    let t₁ : List ℕ = d.protocol ∷ t₂ in
    dnskey_from (short_text d.flags ++ t₁) (d.flags, t₁) (d.protocol, t₂) (d.algorithm, d.public_key) (short_back d.flags t₁) refl refl

-- ---- RRSIG

rrsig_from : (octets : List ℕ) (covered algorithm labels ttl expiration inception tag : ℕ × List ℕ) (signer : Name × List ℕ)
    → short_of octets ≡ Some covered → octet_of covered.1 ≡ Some algorithm → octet_of algorithm.1 ≡ Some labels → long_of labels.1 ≡ Some ttl
    → long_of ttl.1 ≡ Some expiration → long_of expiration.1 ≡ Some inception → short_of inception.1 ≡ Some tag → plain_name_of tag.1 ≡ Some signer
    → rrsig_of octets ≡ Some (V.RRSIG (record {
      type_covered = record { 0 = covered.0 };
      algorithm = algorithm.0;
      num_labels = labels.0;
      original_ttl = ttl.0;
      expiration = expiration.0;
      inception = inception.0;
      key_tag = tag.0;
      signer_name = signer.0;
      signature = signer.1;
    }))
unfolding rrsig_of
rrsig_from octets covered algorithm labels ttl expiration inception tag signer e₁ e₂ e₃ e₄ e₅ e₆ e₇ e₈ = rw (e₁, e₂, e₃, e₄, e₅, e₆, e₇, e₈) refl

pub rrsig_back : (before : List ℕ) (s : RrsigData) → IsName s.signer_name → DataReadBack before 46 (rrsig_text s) (V.RRSIG s)
unfolding data_of own_data_of
rrsig_back before s valid m rest g at behind =
    let t₈ : List ℕ = wire_form s.signer_name ++ s.signature in
    let t₇ : List ℕ = short_text s.key_tag ++ t₈ in
    let t₆ : List ℕ = long_text s.inception ++ t₇ in
    let t₅ : List ℕ = long_text s.expiration ++ t₆ in
    let t₄ : List ℕ = long_text s.original_ttl ++ t₅ in
    let t₃ : List ℕ = s.num_labels ∷ t₄ in
    let t₂ : List ℕ = s.algorithm ∷ t₃ in
    rrsig_from (short_text s.type_covered.0 ++ t₂) (s.type_covered.0, t₂) (s.algorithm, t₃) (s.num_labels, t₄) (s.original_ttl, t₅)
    (s.expiration, t₆) (s.inception, t₇) (s.key_tag, t₈) (s.signer_name, s.signature)
    (short_back s.type_covered.0 t₂) refl refl (long_back s.original_ttl t₅) (long_back s.expiration t₆) (long_back s.inception t₇)
    (short_back s.key_tag t₈) (plain_back s.signer_name s.signature valid)
