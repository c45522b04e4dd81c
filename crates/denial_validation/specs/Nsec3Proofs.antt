-- What NSEC3 records prove to a validator. It knows the NSEC3 records of a response, whose signatures it has verified and which have
-- all the same parameters (`Nsec3Parameters` says which these are), the hash by these parameters, the apex of the zone, which is the
-- name that signed them, and what was asked. It knows no zone.
use Rattle.std.specs.Prelude.{ℕ, Bool, true, false, ◌&&◌, ◌||◌, not, cond, List, ◌==◌, Option, None, find, filter, length, reverse, option_map}
use Rattle.std.specs.List.{list_any}
use Rattle.std.specs.Option.{option_map_or}
use Rattle.zone_proto.specs.HashedOwners.{hashed_owner}
use Rattle.zone_proto.specs.Names.{Name, base_name, name_cmp, name_eq, is_above, is_at_or_above, is_root, proper_ancestors, wildcard_under, suffixes}
use Rattle.zone_proto.specs.Order.{is_before, is_upto}
use Rattle.zone_proto.specs.Types.{NS, CNAME, SOA, DS, ANY, DNAME}
use Rattle.denial_validation.specs.declared.proof.Proof.{Proof}
use Rattle.denial_validation.specs.declared.proof.Proof.TheVariants.{WildcardAnswer}
use Rattle.denial_validation.specs.Encloser.{next_closer}
use Rattle.denial_validation.specs.Nsec3Records.{Nsec3Record}

-- ---- one record

-- its bit map lists the type
abbrev pub lists : Nsec3Record → ℕ → Bool
lists r t = list_any (λ u. u == t) r.types

-- it lists none: that of a name without sets (RFC 5155 section 7.1)
abbrev pub lists_none : Nsec3Record → Bool
lists_none r = not (list_any (λ t. true) r.types)

-- it is of this zone, and of no name that hands on what is below it: no DNAME, and NS only beside SOA (RFC 5155 section 8.3)
abbrev pub is_of_encloser : Nsec3Record → Bool
is_of_encloser r = not (lists r DNAME) && (not (lists r NS) || lists r SOA)

-- it shows an unsigned delegation: NS, and neither DS nor SOA (RFC 5155 section 8.9)
abbrev pub is_of_unsigned : Nsec3Record → Bool
is_of_unsigned r = lists r NS && not (lists r DS) && not (lists r SOA)

-- an owner and the next cover a third: it stands between the two, or past the ends of the last pair, whose next is the first
abbrev pub goes_over : Name → Name → Name → Bool
goes_over o n x = (is_before name_cmp o x && is_before name_cmp x n) || (is_upto name_cmp n o && (is_before name_cmp o x || is_before name_cmp x n))

-- the record has this owner, if there is one
abbrev pub has_owner : Nsec3Record → Option Name → Bool
has_owner r o = option_map_or (name_eq r.owner) o false

module _ (apex : Name) where
  -- the record of the side of a zone cut that has no say on type t of the name x: the parent's for any type but DS (RFC 6840 section
  -- 4.1), and the child's for DS (RFC 4035 section 5.2), as SOA tells, or the apex. The root has no parent
  abbrev pub is_wrong_side : Nsec3Record → Name → ℕ → Bool
  is_wrong_side r x t = cond (t == DS) ((lists r SOA || name_eq x apex) && not (is_root x)) (lists r NS && not (lists r SOA))

  -- the record of the name x says that x owns no set of type t: none at all, or neither t nor an alias, which would answer for t (RFC
  -- 5155 sections 8.5 and 8.6). A name that owns a set has an answer to ANY
  abbrev pub denies_type : Nsec3Record → Name → ℕ → Bool
  denies_type r x t = not (is_wrong_side r x t) && (lists_none r || (not (t == ANY) && not (lists r t) && not (lists r CNAME)))

  -- the record's owner and the next one cover an owner, if there is one
  abbrev pub covers_owner : Nsec3Record → Option Name → Bool
  covers_owner r o = option_map_or (goes_over r.owner (hashed_owner apex r.next)) o false

-- ---- names by their digests

module _ (apex : Name) (hash : Name → Option (List ℕ)) where
  -- the owner of the NSEC3 record of x (RFC 5155 section 3)
  abbrev pub owner_of : Name → Option Name
  owner_of x = option_map (hashed_owner apex) (hash x)

  -- the record is that of x (RFC 5155 section 1.3)
  abbrev pub matches : Nsec3Record → Name → Bool
  matches r x = has_owner r (owner_of x)

  -- the record covers x: the digest of x falls between that of the owner and the next one (RFC 5155 section 1.3).
  -- Owners are in the order of their digests
  abbrev pub covers : Nsec3Record → Name → Bool
  covers r x = covers_owner apex r (owner_of x)

  -- ---- the records of a response

  module _ (rs : List Nsec3Record) where
    -- a record matches x
    abbrev pub is_matched : Name → Bool
    is_matched x = list_any (λ r. matches r x) rs

    -- one matches x that is of this zone, and of no name that hands on what is below it
    abbrev pub is_encloser : Name → Bool
    is_encloser x = list_any (λ r. matches r x && is_of_encloser r) rs

    -- one matches x that is of a name which does: the parent's at a zone cut, or that of a DNAME (RFC 6840 section 4.1)
    abbrev pub is_handing_on : Name → Bool
    is_handing_on x = list_any (λ r. matches r x && not (is_of_encloser r)) rs

    -- one matches x and denies the type
    abbrev pub is_denied : Name → ℕ → Bool
    is_denied x t = list_any (λ r. matches r x && denies_type apex r x t) rs

    -- a record covers x
    abbrev pub is_covered : Name → Bool
    is_covered x = list_any (λ r. covers r x) rs

    -- one with the flag Opt-Out does
    abbrev pub is_opted_out : Name → Bool
    is_opted_out x = list_any (λ r. covers r x && r.opt_out) rs

    -- x is below a zone cut or a DNAME: an ancestor of it, not above the apex, hands it on
    abbrev pub is_handed_on : Name → Bool
    is_handed_on x = list_any (λ a. is_at_or_above apex a && is_handing_on a) (proper_ancestors x)

    -- the closest encloser of x that they show: its longest proper ancestor, not above the apex, that a record matches (RFC 5155
    -- section 8.3)
    abbrev pub shown_encloser : Name → Option Name
    shown_encloser x = find (λ a. is_at_or_above apex a && is_matched a) (proper_ancestors x)

    -- the closest encloser proof of x, below the apex (RFC 5155 section 8.3): no record matches x, one matches the closest encloser and
    -- is of this zone, and one that passes a test covers the next closer name; and the encloser passes a test
    abbrev pub encloser_and : (Nsec3Record → Bool) → Name → (Name → Bool) → Bool
    encloser_and cover x rest =
        is_above apex x && not (is_matched x)
        && option_map_or (λ e. is_encloser e && option_map_or (λ c. list_any (λ r. covers r c && cover r) rs) (next_closer x e) false && rest e) (shown_encloser x) false

    -- the closest encloser that they prove: the one that they show, where the proof stands
    abbrev pub proved_encloser : Name → Option Name
    proved_encloser x = cond (encloser_and (λ r. true) x (λ e. true)) (shown_encloser x) None

    -- a name error: the closest encloser proof, and the wildcard at the encloser is covered (RFC 5155 section 8.4)
    abbrev pub proves_name_error : Name → Bool
    proves_name_error x = encloser_and (λ r. true) x (λ e. is_covered (wildcard_under e))

    -- no data at a name of the zone that has a record (RFC 5155 section 8.5, and 8.6 first sentence)
    abbrev pub proves_no_data : Name → ℕ → Bool
    proves_no_data x t = is_at_or_above apex x && is_denied x t

    -- opt-out may leave x out, so that the records don't tell whether there is an unsigned delegation at or below x: no DS there (RFC
    -- 5155 section 8.6, second sentence), and nothing else that is signed
    abbrev pub proves_opted_out : Name → Bool
    proves_opted_out x = encloser_and (λ r. r.opt_out) x (λ e. true)

    -- no data by a wildcard: the closest encloser proof, and a record matches the wildcard at the encloser and denies
    -- the type (RFC 5155 section 8.7)
    abbrev pub proves_wildcard_no_data : Name → ℕ → Bool
    proves_wildcard_no_data x t = encloser_and (λ r. true) x (λ e. is_denied (wildcard_under e) t)

    -- any of the three: an answer without data that is no error
    abbrev pub proves_empty_answer : Name → ℕ → Bool
    proves_empty_answer x t = proves_no_data x t || proves_opted_out x || proves_wildcard_no_data x t

    -- an answer that was made from the wildcard at e, a proper ancestor that isn't above the apex: the name next closer
    -- to e is covered, so that no name closer to x exists (RFC 5155 section 8.8)
    abbrev pub proves_wildcard_answer : Name → Name → Bool
    proves_wildcard_answer x e = is_at_or_above apex e && is_above e x && option_map_or is_covered (next_closer x e) false

    -- of x and its ancestors, below the apex, the shortest that a record covers. It is the next closer name of the
    -- encloser from whose wildcard an answer may have been made: where the records are of one zone, those closer to x
    -- don't exist
    abbrev pub covered_closer : Name → Option Name
    covered_closer x = find is_covered (reverse (filter (is_above apex) (suffixes x)))

    -- the wildcard answer by this encloser
    abbrev pub wildcard_answer : Name → Option Proof
    wildcard_answer x = option_map (λ c. WildcardAnswer (length (base_name c)) (is_opted_out c)) (covered_closer x)

    -- an unsigned delegation below the apex, by its own record (RFC 5155 section 8.9)
    abbrev pub shows_unsigned_delegation : Name → Bool
    shows_unsigned_delegation x = is_above apex x && list_any (λ r. matches r x && is_of_unsigned r) rs

    -- an unsigned delegation: by its record, or as one that opt-out leaves out (RFC 5155 section 8.9)
    abbrev pub proves_unsigned_delegation : Name → Bool
    proves_unsigned_delegation x = shows_unsigned_delegation x || proves_opted_out x
