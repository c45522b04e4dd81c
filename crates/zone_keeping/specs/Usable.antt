-- The keys whose signatures can be told from those of others
use Rattle.std.specs.Prelude.{ℕ, ◌==◌, ◌&&◌, ◌||◌, not, Bool, true, List, length, map, nat_lt, cond, Option, Some, None, option_and_then, slice_get}
use Rattle.std.specs.List.{list_all}
use Rattle.std.specs.Str.{bytes_eq}
use Rattle.zone_proto.specs.declared.rdata.RData.{RData}
use Rattle.zone_proto.specs.declared.rdata.RData.TheVariants as V
use Rattle.zone_proto.specs.declared.rdata.signing.DNSKEY.{DNSKEY}
use Rattle.zone_proto.specs.declared.record.Record.{Record}
use Rattle.zone_proto.specs.Sets.{RRset}
use Rattle.zone_keys.specs.KeyTags.{key_tag}
use Rattle.zone_planning.specs.Blank.{blank_number}

abbrev pub is_key : DNSKEY → DNSKEY → Bool
is_key a b = (a.flags == b.flags) && ((a.protocol == b.protocol) && ((a.algorithm == b.algorithm) && bytes_eq a.public_key b.public_key))

-- keys have the same tag (RFC 4034 appendix B), or one is longer than a record can be
abbrev pub has_tag_of : DNSKEY → DNSKEY → Bool
has_tag_of a b = nat_lt 65531 (length a.public_key) || (nat_lt 65531 (length b.public_key) || (key_tag a == key_tag b))

-- signatures by the one are told from those by the other, by algorithm and tag; or they are the same key
abbrev pub is_apart : DNSKEY → DNSKEY → Bool
is_apart key other = is_key key other || not ((key.algorithm == other.algorithm) && has_tag_of key other)

abbrev pub is_apart_from : DNSKEY → RData → Bool
is_apart_from key (V.DNSKEY other) = is_apart key other
is_apart_from key d = true

-- so it is with all keys of the plan, and with those that the old zone publishes
abbrev pub is_sole : List DNSKEY → Option RRset → DNSKEY → Bool
is_sole keys None key = list_all (is_apart key) keys
is_sole keys (Some published) key = list_all (is_apart key) keys && list_all (λ (r : Record). is_apart_from key r.rdata) published.records

-- the keys of a plan by their numbers, without those whose signatures can't be told
abbrev pub usable_keys : List DNSKEY → Option RRset → List (Option DNSKEY)
usable_keys keys published = map (λ (key : DNSKEY). cond (is_sole keys published key) (Some key) None) keys

-- the key that is to make a signature, if that is blank and the key is among these
abbrev pub key_at : List (Option DNSKEY) → ℕ → Option DNSKEY
key_at usable n = option_and_then (λ (o : Option DNSKEY). o) (slice_get usable n)

abbrev pub key_for : List (Option DNSKEY) → RData → Option DNSKEY
key_for usable d = option_and_then (key_at usable) (blank_number d)
