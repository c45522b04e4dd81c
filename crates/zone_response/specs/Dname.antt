-- The names that a DNAME set gives to those below its owner (RFC 6672)
use Rattle.std.specs.Prelude.{ℕ, ◌-◌, ◌&&◌, cond, List, [], ◌∷◌, ◌++◌, length, take, nat_lt, Option, Some, None, is_none}
use Rattle.zone_proto.specs.declared.rdata.RData.{RData}
use Rattle.zone_proto.specs.declared.rdata.RData.TheVariants as V
use Rattle.zone_proto.specs.declared.record.Record.{Record}
use Rattle.zone_proto.specs.Counting.{counted_name}
use Rattle.zone_proto.specs.Faults.{fault_of}
use Rattle.zone_proto.specs.Names.{Name, label_eq, wire_form, wire_length}
use Rattle.zone_proto.specs.Sets.{RRset}
use Rattle.zone_proto.specs.Types.{CNAME, IN}

-- ---- the target

-- the labels that are in octets, each behind its length, the last octet aside, which is the root's (RFC 1035 section
-- 3.1)
abbrev pub labels_in : List ℕ → Name
labels_in octets = counted_name (take (length octets - 1) octets)

-- the name of which octets are the wire form; none if they are that of no name
abbrev pub name_in : List ℕ → Option Name
name_in octets = cond (label_eq octets (wire_form (labels_in octets)) && is_none (fault_of (labels_in octets))) (Some (labels_in octets)) None

-- the name of which the data of a DNAME are the wire form (RFC 6672 section 2.1)
abbrev pub target_of : RData → Option Name
target_of (V.Other d) = name_in d.octets
target_of _ = None

-- that of a set's only record: a name owns one DNAME at most (RFC 6672 section 2.4), and of several none is the target
abbrev pub only_target : List Record → Option Name
only_target (r ∷ []) = target_of r.rdata
only_target _ = None

abbrev pub dname_target : RRset → Option Name
dname_target s = only_target s.records

-- ---- the new name

-- a name below an owner, with a target in the owner's place: its labels in front of the owner's come before the
-- target's (RFC 6672 section 2.2)
abbrev pub in_place_of : Name → Name → Name → Name
in_place_of owner target x = take (length x - length owner) x ++ target

-- the labels, unless they are too long for a name, which has 255 octets at most (RFC 1035 section 2.3.4)
abbrev pub unless_long : Name → Option Name
unless_long n = cond (nat_lt 255 (wire_length n)) None (Some n)

-- ---- the CNAME

-- the CNAME set that a DNAME set makes of its new name for x: of class IN and with the set's TTL (RFC 6672 section 3.1), and not signed (section 5.3.1)
abbrev pub synthesized_alias : RRset → Name → Name → RRset
synthesized_alias s x n = record {
  owner = x;
  record_type = CNAME;
  class = IN;
  ttl = s.ttl;
  serial = 0;
  records = record { name = x; dns_class = record { 0 = IN }; ttl = s.ttl; rdata = V.CNAME n } ∷ [];
  signatures = [];
}
