-- What a validator reads in NSEC3 sets
use Rattle.std.proofs.Common.{◌≡◌, ℕ, List, [], ◌∷◌, map, length, ap, ◌∙◌, arith}
use Rattle.std.specs.Prelude.{Some, flat_map, option_map, ◌*◌}
use Rattle.std.specs.Char.{digit_char}
use Rattle.std.specs.List.{All, cons_option}
use Rattle.std.proofs.lemmas.List.Elements.{All-head}
use Rattle.std.proofs.lemmas.List.FromFn.{length-map-range_with_len}
use Rattle.zone_proto.specs.declared.rdata.denial.NSEC3.{NSEC3 as Nsec3Data}
use Rattle.zone_proto.specs.declared.record.Record.{Record}
use Rattle.zone_proto.specs.Base32.{base32_count, base32_text, five_bits}
use Rattle.zone_proto.specs.Names.{Name, lower}
use Rattle.zone_proto.specs.Sets.{RRset}
use Rattle.zone_proto.proofs.Members.{In, In-filter_map, In-from_filter_map, In-flat_map, In-from_flat_map}
use Rattle.zone_denial.specs.Nsec3Circle.{first_nsec3}
use Rattle.denial_validation.specs.Nsec3Records.{Nsec3Record, nsec3_data, nsec3_record, read_nsec3, nsec3_records}
use Rattle.denial_laws.specs.Nsec3Scope.{read_nsec3_sets}

-- the text of a digest has as many octets as its length says
pub text_length : (d : List ℕ) → length (base32_text d) ≡ base32_count (length d)
text_length d = length-map-range_with_len (λ i. digit_char (five_bits d (i * 5))) 0 (base32_count (length d))

-- ---- one set

-- a record of NSEC3 data, as a validator reads it
read_data : (n : Name) (a : Nsec3Data) (r : Record) → nsec3_data r.rdata ≡ Some a → lower r.name ≡ n
    → read_nsec3 r ≡ Some (record { owner = n; next = a.next_hashed_owner_name; types = map (λ t. t.0) a.types; opt_out = a.opt_out })
read_data n a r says named =
    ap (option_map (nsec3_record r.name)) says ∙ (λ i. Some (record { owner = named i; next = a.next_hashed_owner_name; types = map (λ t. t.0) a.types; opt_out = a.opt_out }))

pub read_single : (n : Name) (a : Nsec3Data) (rs : List Record) → length rs ≡ 1 → first_nsec3 rs ≡ Some a → All (λ (r : Record). lower r.name ≡ n) rs
    → nsec3_records rs ≡ record { owner = n; next = a.next_hashed_owner_name; types = map (λ t. t.0) a.types; opt_out = a.opt_out } ∷ []
read_single n a [] one says named = absurd (omega (arith, one))
read_single n a (r ∷ []) one says named = ap (λ o. cons_option o []) (read_data n a r says (All-head (λ (r : Record). lower r.name ≡ n) r [] named))
read_single n a (r ∷ (q ∷ rs)) one says named = absurd (omega (arith, one))

-- ---- several sets

pub read_from : (sets : List RRset) (s : RRset) (r : Nsec3Record) → In s sets → In r (nsec3_records s.records) → In r (read_nsec3_sets sets)
read_from sets s r i j =
    let q = In-from_filter_map read_nsec3 r s.records j in
    In-filter_map read_nsec3 q.0 r (flat_map (λ (s : RRset). s.records) sets) (In-flat_map (λ (s : RRset). s.records) s q.0 sets i q.1) q.2

pub from_read : (sets : List RRset) (r : Nsec3Record) → In r (read_nsec3_sets sets) → (s : RRset) × In s sets × In r (nsec3_records s.records)
from_read sets r i =
    let q = In-from_filter_map read_nsec3 r (flat_map (λ (s : RRset). s.records) sets) i in
    let s = In-from_flat_map (λ (s : RRset). s.records) q.0 sets q.1 in
    (s.0, s.1, In-filter_map read_nsec3 q.0 r s.0.records s.2 q.2)
