-- An OPT record, read at the end of a message
use Rattle.std.proofs.Common.{◌≡◌, ℕ, ◌+◌, ◌*◌, ◌-◌, ◌/◌, ◌%◌, ◌≤◌, ◌<◌, List, [], ◌∷◌, ◌++◌, length, take, drop, Option, Some, None, refl, sym, ap, subst, ◌∙◌, append_assoc, arith}
use Rattle.std.proofs.lemmas.List.{append-nil}
use Rattle.zone_proto.specs.Names.{Name, IsName}
use Rattle.zone_proto.specs.declared.rdata.RData.{RData}
use Rattle.zone_proto.specs.declared.rdata.RData.TheVariants.{Other}
use Rattle.zone_proto.specs.declared.record.Record.{Record}
use Rattle.message_reading.specs.Octets.{short_of, long_of, octets_of, offset_of}
use Rattle.message_reading.specs.MessageNames.{name_of}
use Rattle.message_reading.specs.DataForms.{data_of}
use Rattle.message_reading.specs.Messages.{fields_of}
use Rattle.message_options.specs.Options.{number_text}
use Rattle.message_writing.specs.Continuing.{Continues, ReadsBack}
use Rattle.message_writing.specs.KnownNames.{IsCut}
use Rattle.message_writing.specs.StrictReading.{strict_record_of, message_for}
use Rattle.message_writing.proofs.NameWriting.{cut_back}
use Rattle.message_writing.proofs.Steps.{octets_back}

root_cut : (before : List ℕ) → IsCut before 0 None []
root_cut before = record { within = omega arith; rest = refl }

root_name : IsName []
root_name = record { labels = tt; short = omega arith }

-- the nine octets of an OPT record before its length: the root, its type, class and TTL
abbrev pub opt_front : (c₁ c₂ t₁ t₂ t₃ t₄ : ℕ) → List ℕ
opt_front c₁ c₂ t₁ t₂ t₃ t₄ = 0 ∷ 0 ∷ 41 ∷ c₁ ∷ c₂ ∷ t₁ ∷ t₂ ∷ t₃ ∷ t₄ ∷ []

-- an OPT record with options
abbrev pub opt_text : (c₁ c₂ t₁ t₂ t₃ t₄ : ℕ) → List ℕ → List ℕ
opt_text c₁ c₂ t₁ t₂ t₃ t₄ options = opt_front c₁ c₂ t₁ t₂ t₃ t₄ ++ (number_text (length options) ++ options)

abbrev pub opt_record : (class ttl : ℕ) → List ℕ → Record
opt_record class ttl options = record {
  name = [];
  dns_class = record { 0 = class };
  ttl = ttl;
  rdata = Other (record { record_type = record { 0 = 41 }; octets = options; other = refl });
}

data_back : (m : List ℕ) (at : ℕ) (options : List ℕ) → data_of 41 m at options ≡ Some (Other (record { record_type = record { 0 = 41 }; octets = options; other = refl }))
unfolding data_of
data_back m at options = refl

-- the steps of a record's reading, over any values
record_from : (m octets : List ℕ) (owner : Name × List ℕ) (t class ttl count : ℕ) (behind : List ℕ) (text : List ℕ × List ℕ) (rdata : RData)
    → name_of m (offset_of m octets) octets ≡ Some owner
    → fields_of owner.1 ≡ Some (record { record_type = record { 0 = t }; dns_class = record { 0 = class }; ttl = ttl; count = count }, behind)
    → octets_of count behind ≡ Some text → data_of t (message_for t m) (offset_of m behind) text.0 ≡ Some rdata
    → strict_record_of m octets ≡ Some (record { name = owner.0; dns_class = record { 0 = class }; ttl = ttl; rdata = rdata }, text.1)
unfolding strict_record_of
record_from m octets owner t class ttl count behind text rdata e₁ e₂ e₃ e₄ = rw (e₁, e₂, e₃, e₄) refl

fields_back : (c₁ c₂ t₁ t₂ t₃ t₄ n : ℕ) (after : List ℕ)
    → fields_of (0 ∷ 41 ∷ c₁ ∷ c₂ ∷ t₁ ∷ t₂ ∷ t₃ ∷ t₄ ∷ (n / 256) ∷ (n % 256) ∷ after)
    ≡ Some (record { record_type = record { 0 = 41 }; dns_class = record { 0 = c₁ * 256 + c₂ }; ttl = (t₁ * 256 + t₂) * 65536 + (t₃ * 256 + t₄); count = n }, after)
fields_back c₁ c₂ t₁ t₂ t₃ t₄ n after = let e : (n / 256) * 256 + n % 256 ≡ n = omega arith in rw e refl

pub opt_back : (before : List ℕ) (c₁ c₂ t₁ t₂ t₃ t₄ : ℕ) (options : List ℕ)
    → ReadsBack strict_record_of before (opt_text c₁ c₂ t₁ t₂ t₃ t₄ options)
    (opt_record (c₁ * 256 + c₂) ((t₁ * 256 + t₂) * 65536 + (t₃ * 256 + t₄)) options)
opt_back before c₁ c₂ t₁ t₂ t₃ t₄ options m after g =
    let n = length options in
    let s₁ : List ℕ = 0 ∷ 41 ∷ c₁ ∷ c₂ ∷ t₁ ∷ t₂ ∷ t₃ ∷ t₄ ∷ (n / 256) ∷ (n % 256) ∷ (options ++ after) in
    let at : length before ≤ offset_of m (0 ∷ s₁) = omega (arith, g.size) in
    let name : name_of m (offset_of m (0 ∷ s₁)) (0 ∷ s₁) ≡ Some ([], s₁) =
    cut_back before (0 ∷ s₁) m (offset_of m (0 ∷ s₁)) 0 None [] s₁ g at (root_cut before) root_name in
    record_from m (0 ∷ s₁) ([], s₁) 41 (c₁ * 256 + c₂) ((t₁ * 256 + t₂) * 65536 + (t₃ * 256 + t₄)) n (options ++ after) (options, after)
    (Other (record { record_type = record { 0 = 41 }; octets = options; other = refl })) name
    (fields_back c₁ c₂ t₁ t₂ t₃ t₄ n (options ++ after)) (octets_back options after)
    (data_back (message_for 41 m) (offset_of m (options ++ after)) options)
