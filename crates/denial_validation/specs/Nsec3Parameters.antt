-- The parameters by which a validator hashes names, and the NSEC3 records that it judges by
use Rattle.std.specs.Prelude.{ℕ, Bool, false, ◌&&◌, not, cond, List, [], ◌∷◌, length, ◌==◌, nat_eq, Option, Some, None, find, filter, filter_map, is_some, option_and_then}
use Rattle.std.specs.List.{list_any}
use Rattle.std.specs.Option.{option_map_or}
use Rattle.std.specs.Cmp.Lexicographic.{pointwise}
use Rattle.zone_proto.specs.declared.rdata.denial.NSEC3.{NSEC3 as Nsec3Data}
use Rattle.zone_proto.specs.declared.record.Record.{Record}
use Rattle.zone_proto.specs.Base32.{base32_count}
use Rattle.zone_proto.specs.Names.{Name, lower, name_eq}
use Rattle.denial_validation.specs.Nsec3Records.{Nsec3Record, nsec3_data, nsec3_records}

-- the data of two records name the same algorithm, iterations and salt (RFC 5155 section 3.1)
abbrev pub same_parameters : Nsec3Data → Nsec3Data → Bool
same_parameters p d = p.algorithm == d.algorithm && p.iterations == d.iterations && pointwise nat_eq p.salt d.salt

-- an owner is of the zone with this apex: one label before it, which is as long as the text of the next digest, so that this has as
-- many octets as the owner's own (RFC 5155 sections 3 and 3.1.7)
abbrev pub is_of_zone : Name → Name → List ℕ → Bool
is_of_zone apex [] next = false
is_of_zone apex (l ∷ ls) next = length l == base32_count (length next) && name_eq ls apex

-- the data of a record, if it is an NSEC3 record of the zone
abbrev pub zone_data : Name → Record → Option Nsec3Data
zone_data apex r = option_and_then (λ (d : Nsec3Data). cond (is_of_zone apex (lower r.name) d.next_hashed_owner_name) (Some d) None) (nsec3_data r.rdata)

-- the record is one of the zone, and has these parameters
abbrev pub has_parameters : Name → Nsec3Data → Record → Bool
has_parameters apex p r = option_map_or (same_parameters p) (zone_data apex r) false

-- the NSEC3 records of the zone that have them, among some records
abbrev pub records_with : Name → Nsec3Data → List Record → List Nsec3Record
records_with apex p rs = nsec3_records (filter (has_parameters apex p) rs)

-- the data of the NSEC3 records of the zone among some records
abbrev pub nsec3_datas : Name → List Record → List Nsec3Data
nsec3_datas apex rs = filter_map (zone_data apex) rs

-- with a hash, which has digests by algorithm, salt, name and iterations, where x is asked of the zone with this apex
module _ (digest_of : ℕ → List ℕ → Name → ℕ → Option (List ℕ)) where
  -- the digest of a name by parameters (RFC 5155 section 5)
  abbrev pub digest_by : Nsec3Data → Name → Option (List ℕ)
  digest_by p x = digest_of p.algorithm p.salt x p.iterations

  module _ (apex x : Name) where
    -- the hash knows the algorithm: it has a digest of x. A validator ignores the records of others (RFC 5155 section 8.1)
    abbrev pub is_known : Nsec3Data → Bool
    is_known d = is_some (digest_by d x)

    -- data of a record that it knows, else nothing
    abbrev pub known_or_none : Nsec3Data → Option Nsec3Data
    known_or_none d = cond (is_known d) (Some d) None

    -- it knows the second, and this has other parameters than the first
    abbrev pub is_other : Nsec3Data → Nsec3Data → Bool
    is_other p d = not (same_parameters p d) && is_known d

    module _ (rs : List Record) where
      -- a record that it knows has other parameters than these
      abbrev pub is_other_known : Nsec3Data → Bool
      is_other_known p = list_any (is_other p) (nsec3_datas apex rs)

      -- the parameters of all records that it knows; none if these have not all the same (RFC 5155 section 8.2)
      abbrev pub common_parameters : Option Nsec3Data
      common_parameters = option_and_then (λ p. cond (is_other_known p) None (Some p)) (find is_known (nsec3_datas apex rs))

      -- what a judgement gives, by the hash with these parameters and by the records that have them; without such parameters, nothing
      abbrev pub concluded : {A : Type 0} → (nothing : A) → ((Name → Option (List ℕ)) → List Nsec3Record → A) → A
      concluded nothing judgement = option_map_or (λ p. judgement (digest_by p) (records_with apex p rs)) common_parameters nothing
