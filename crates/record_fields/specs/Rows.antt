-- The data of types that have a row in the table: one field after the other
use Rattle.std.specs.Prelude.{ℕ, ◌==◌, List, [], ◌∷◌, ◌++◌, Option, Ok}
use Rattle.std.specs.List.{find}
use Rattle.zone_proto.specs.Names.{Name}
use Rattle.zone_tokens.specs.Addresses.{ipv4_of_word}
use Rattle.record_fields.specs.declared.fault.Reason.TheVariants as reason
use Rattle.record_fields.specs.declared.field.Field.{Field}
use Rattle.record_fields.specs.declared.field.Field.TheVariants as F
use Rattle.record_fields.specs.declared.field.Fields.{Fields}
use Rattle.record_fields.specs.declared.field.Fields.TheVariants.{NoField, One, Two, Three, Four, Five, Six}
use Rattle.record_fields.specs.declared.field.Ending.{Ending}
use Rattle.record_fields.specs.declared.field.Ending.TheVariants as E
use Rattle.record_fields.specs.declared.table.Row.{Row}
use Rattle.record_fields.specs.declared.table.TheConstants.{ROWS}
use Rattle.record_fields.specs.Readings.{◌>>=◌}
use Rattle.record_fields.specs.Fields.{Left, Reading, next, next_algorithm, next_type, next_u8, next_u16, next_u32}
use Rattle.record_fields.specs.Hosts.{next_gateway, next_identity, next_relay}
use Rattle.record_fields.specs.Lines.{next_location}
use Rattle.record_fields.specs.Parameters.{next_parameters}
use Rattle.record_fields.specs.Parts.{as_octets, octet, short, long, next_access_point, next_certificate_type, next_digest_type, next_eui48, next_eui64, next_groups, next_name_octets, next_scheme, next_tag, type_octets}
use Rattle.record_fields.specs.Texts.{next_base64, next_base64_if_there, next_hex, next_names, next_octets, next_prefixes, next_string, next_string_if_there, next_strings}
use Rattle.record_fields.specs.TypeLists.{next_type_map}

-- the fields of a row, in their order
abbrev pub fields_of : Fields → List Field
fields_of NoField = []
fields_of (One a) = a ∷ []
fields_of (Two a b) = a ∷ b ∷ []
fields_of (Three a b c) = a ∷ b ∷ c ∷ []
fields_of (Four a b c d) = a ∷ b ∷ c ∷ d ∷ []
fields_of (Five a b c d e) = a ∷ b ∷ c ∷ d ∷ e ∷ []
fields_of (Six a b c d e f) = a ∷ b ∷ c ∷ d ∷ e ∷ f ∷ []

-- the row of a type
abbrev pub row_of : ℕ → Option Row
row_of t = find (λ (r : Row). r.0 == t) ROWS

-- the octets of a field, read from its words
abbrev pub next_field : Name → Field → Left → Reading (List ℕ)
next_field origin F.Number8 l = as_octets octet (next_u8 l)
next_field origin F.Number16 l = as_octets short (next_u16 l)
next_field origin F.Number32 l = as_octets long (next_u32 l)
next_field origin F.Algorithm l = as_octets octet (next_algorithm l)
next_field origin F.DigestType l = as_octets octet (next_digest_type l)
next_field origin F.CertificateType l = as_octets short (next_certificate_type l)
next_field origin F.RecordType l = as_octets type_octets (next_type l)
next_field origin F.Scheme l = as_octets octet (next_scheme l)
next_field origin F.Ipv4 l = next ipv4_of_word reason.Ipv4 l
next_field origin F.Name l = next_name_octets origin l
next_field origin F.Text l = next_string l
next_field origin F.Tag l = next_tag l
next_field origin F.Groups l = next_groups l
next_field origin F.Eui48 l = next_eui48 l
next_field origin F.Eui64 l = next_eui64 l
next_field origin F.Gateway l = next_gateway origin l
next_field origin F.Relay l = next_relay origin l
next_field origin F.Identity l = next_identity l

-- what stands behind the fields, to the end of the entry
abbrev pub next_ending : Name → Ending → Left → Reading (List ℕ)
next_ending origin E.Nothing l = Ok ([], l)
next_ending origin E.Texts l = next_strings l
next_ending origin E.TextIfThere l = next_string_if_there l
next_ending origin E.Octets l = next_octets l
next_ending origin E.Hex l = next_hex l
next_ending origin E.Base64 l = next_base64 l
next_ending origin E.Base64IfThere l = next_base64_if_there l
next_ending origin E.Names l = next_names origin l
next_ending origin E.Parameters l = next_parameters l
next_ending origin E.Types l = next_type_map l
next_ending origin E.Location l = next_location l
next_ending origin E.Prefixes l = next_prefixes l
next_ending origin E.AccessPoint l = next_access_point l

-- these octets, and then those that are read
abbrev pub behind : List ℕ → Reading (List ℕ) → Reading (List ℕ)
behind os r = r >>= λ x. Ok (os ++ x.0, x.1)

-- the octets of fields and of what stands behind them
abbrev pub next_fields : Name → List Field → Ending → Left → Reading (List ℕ)
next_fields origin [] e l = next_ending origin e l
next_fields origin (f ∷ fs) e l = next_field origin f l >>= λ x. behind x.0 (next_fields origin fs e x.1)

-- the octets of the data of a row
abbrev pub next_row : Name → Row → Left → Reading (List ℕ)
next_row origin r l = next_fields origin (fields_of r.1) r.2 l
