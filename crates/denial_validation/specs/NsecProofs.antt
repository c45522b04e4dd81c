-- What NSEC records prove to a validator. It knows the NSEC records of a response, whose signatures it has verified, the apex of
-- the zone, which is the name that signed them, and what was asked. It knows no zone.
use Rattle.std.specs.Prelude.{ℕ, Bool, false, ◌&&◌, ◌||◌, not, cond, List, ◌==◌, Option, find, option_and_then}
use Rattle.std.specs.List.{list_any}
use Rattle.std.specs.Option.{option_map_or}
use Rattle.zone_proto.specs.Names.{Name, name_cmp, name_eq, is_above, is_at_or_above, is_root, proper_ancestors, wildcard_under}
use Rattle.zone_proto.specs.Order.{is_before}
use Rattle.zone_proto.specs.Types.{NS, CNAME, SOA, DS, RRSIG, NSEC, ANY, DNAME}
use Rattle.denial_validation.specs.NsecRecords.{NsecRecord}

-- ---- one record

-- its bit map lists the type
abbrev pub lists : NsecRecord → ℕ → Bool
lists r t = list_any (λ u. u == t) r.types

-- it shows a set of the type at its owner. Its own existence shows that of NSEC and RRSIG, whatever their bits say
-- (RFC 4035 section 5.4), and these answer a query for ANY
abbrev pub shows_type : NsecRecord → ℕ → Bool
shows_type r t = t == NSEC || t == RRSIG || t == ANY || lists r t

-- it is an ancestor delegation: the parent's record at a zone cut, with NS and no SOA (RFC 6840 section 4.1). It tells so by its types
-- alone, whoever signed it
abbrev pub is_ancestor_delegation : NsecRecord → Bool
is_ancestor_delegation r = lists r NS && not (lists r SOA)

-- it may tell of x: an ancestor delegation and a DNAME tell nothing of the names below them (RFC 6840 section 4.1)
abbrev pub may_apply_to : NsecRecord → Name → Bool
may_apply_to r x = not (is_above r.owner x && (is_ancestor_delegation r || lists r DNAME))

-- the closest encloser of x that the record shows: the longest proper ancestor of x at or below which its owner or its next
-- name stands, so that it exists (RFC 4592 section 3.3.1)
abbrev pub shown_encloser : NsecRecord → Name → Option Name
shown_encloser r x = find (λ a. is_at_or_above a r.owner || is_at_or_above a r.next) (proper_ancestors x)

-- the wildcard at this encloser passes a test: the wildcard that would answer in place of x (RFC 4592 section 3.3.1)
abbrev pub wildcard_is : (Name → Bool) → NsecRecord → Name → Bool
wildcard_is test r x = option_map_or (λ e. test (wildcard_under e)) (shown_encloser r x) false

module _ (apex : Name) where
  -- it is of the zone: its owner is the apex or below it
  abbrev pub is_of_zone : NsecRecord → Bool
  is_of_zone r = is_at_or_above apex r.owner

  -- x, a name below the apex, would come after the owner and before the next name (RFC 4035 section 5.4). The next name
  -- of the last record is the apex, and every name after its owner comes before that (RFC 4034 section 4.1.1)
  abbrev pub covers : NsecRecord → Name → Bool
  covers r x = is_of_zone r && is_above apex x && is_before name_cmp r.owner x && (is_before name_cmp x r.next || name_eq r.next apex)

  -- x doesn't exist: no set is there (RFC 4035 section 5.4), and nothing below it, for else the next name would be
  -- there (RFC 4592 section 2.2.2)
  abbrev pub denies_name : NsecRecord → Name → Bool
  denies_name r x = may_apply_to r x && covers r x && not (is_above x r.next)

  -- x is an empty non-terminal: no set is there, but the next name is below it (RFC 4592 section 2.2.2)
  abbrev pub shows_empty : NsecRecord → Name → Bool
  shows_empty r x = may_apply_to r x && covers r x && is_above x r.next

  -- it is that of the apex of a zone, as SOA tells, or of this one
  abbrev pub is_of_apex : NsecRecord → Bool
  is_of_apex r = lists r SOA || name_eq r.owner apex

  -- the record of the side of a zone cut that has no say on t: the parent's for any type but DS (RFC 6840 section 4.1), and the
  -- child's for DS (RFC 4035 section 5.2). The root has no parent
  abbrev pub is_wrong_side : NsecRecord → ℕ → Bool
  is_wrong_side r t = cond (t == DS) (is_of_apex r && not (is_root r.owner)) (is_ancestor_delegation r)

  -- x, a name of the zone, owns no set of type t: the record is that of x, and shows neither t (RFC 4035 section 5.4) nor an alias,
  -- which would answer for t (RFC 6840 section 4.3)
  abbrev pub denies_type : NsecRecord → Name → ℕ → Bool
  denies_type r x t = is_of_zone r && name_eq r.owner x && not (shows_type r t) && not (lists r CNAME) && not (is_wrong_side r t)

  -- x, a name below the apex, is a delegation without DS, by the parent's record: NS shows that it is one, and neither DS nor SOA
  -- (RFC 4035 section 5.2, RFC 6840 section 4.4)
  abbrev pub shows_unsigned_delegation : NsecRecord → Name → Bool
  shows_unsigned_delegation r x = is_above apex r.owner && name_eq r.owner x && lists r NS && not (lists r DS) && not (lists r SOA)

-- ---- the records of a response

module _ (apex : Name) (rs : List NsecRecord) where
  -- a record denies x
  abbrev pub is_denied : Name → Bool
  is_denied x = list_any (λ r. denies_name apex r x) rs

  -- a record shows that x owns no set of type t, or none at all
  abbrev pub is_bare : ℕ → Name → Bool
  is_bare t x = list_any (λ r. denies_type apex r x t || shows_empty apex r x) rs

  -- a record denies x, and the wildcard that would answer in its place, under the closest encloser that this record
  -- shows, passes a test
  abbrev pub denied_and_wildcard : Name → (Name → Bool) → Bool
  denied_and_wildcard x test = list_any (λ r. denies_name apex r x && wildcard_is test r x) rs

  -- a name error: x doesn't exist, and nor does the wildcard that would answer in its place (RFC 4035 sections 3.1.3.2
  -- and 5.4)
  abbrev pub proves_name_error : Name → Bool
  proves_name_error x = denied_and_wildcard x is_denied

  -- no data at a name that owns sets (RFC 4035 sections 3.1.3.1 and 5.4)
  abbrev pub proves_no_data : Name → ℕ → Bool
  proves_no_data x t = list_any (λ r. denies_type apex r x t) rs

  -- no data at a name that owns no set (RFC 4592 section 2.2.2)
  abbrev pub proves_empty_non_terminal : Name → Bool
  proves_empty_non_terminal x = list_any (λ r. shows_empty apex r x) rs

  -- no data by a wildcard: x doesn't exist, and the wildcard that answers in its place owns no set of type t, or none
  -- at all (RFC 4035 sections 3.1.3.4 and 5.4)
  abbrev pub proves_wildcard_no_data : Name → ℕ → Bool
  proves_wildcard_no_data x t = denied_and_wildcard x (is_bare t)

  -- any of the three: an answer without data that is no error
  abbrev pub proves_empty_answer : Name → ℕ → Bool
  proves_empty_answer x t = proves_no_data x t || proves_empty_non_terminal x || proves_wildcard_no_data x t

  -- an answer that was made from the wildcard at e: x doesn't exist, and e is its closest encloser (RFC 4035 sections
  -- 3.1.3.3 and 5.3.4)
  abbrev pub proves_wildcard_answer : Name → Name → Bool
  proves_wildcard_answer x e = denied_and_wildcard x (name_eq (wildcard_under e))

  -- the closest encloser of x that the first record shows which denies x
  abbrev pub denied_encloser : Name → Option Name
  denied_encloser x = option_and_then (λ r. shown_encloser r x) (find (λ r. denies_name apex r x) rs)

  -- an unsigned delegation (RFC 4035 section 5.2)
  abbrev pub proves_unsigned_delegation : Name → Bool
  proves_unsigned_delegation x = list_any (λ r. shows_unsigned_delegation apex r x) rs
