-- Worked examples of wildcards, chains of aliases and queries of ANY, computed from the definitions
use Rattle.std.proofs.Common.{◌≡◌, ℕ, true, false, List, [], ◌∷◌, map, drop, ◌+◌, refl}
use Rattle.std.specs.Prelude.{codes, Some, None}
use Rattle.zone_proto.specs.declared.rdata.RData.TheVariants as V
use Rattle.zone_proto.specs.declared.record.Record.{Record}
use Rattle.zone_proto.specs.Keys.{key}
use Rattle.zone_proto.specs.Names.{Name, asterisk_label, wildcard_under}
use Rattle.zone_proto.specs.Sets.{RRset}
use Rattle.zone_proto.specs.Types.{A, NS, CNAME, MX, TXT, SRV, NSEC, ANY, IN}
use Rattle.zone_map.specs.Zones.{Sets}
use Rattle.zone_map.specs.Wildcards.{asked_wildcard, found}
use Rattle.zone_map.specs.Chains.{chain, chain_searches}
use Rattle.zone_map.specs.AnyTypes.{any_type}
use Rattle.zone_lookup.specs.Replies.{negative_answer, IsReply, one_set, answered, negative, name_exists, nx_domain}
use Rattle.zone_lookup.proofs.Examples.{apex, at_apex, record_with, set_with, server, unsigned}

-- ---- a wildcard at the apex, one under b, and a wildcard at a cut (RFC 4592)

abbrev address : ℕ → Record
address last = record_with (wildcard_under apex) (V.A (192 ∷ 0 ∷ 2 ∷ last ∷ []))

abbrev in_b : List ℕ → Name
in_b label = label ∷ at_apex (codes "b")

-- its owner is spelled in capitals, its records have a TTL of their own, and it has two signatures, of which the
-- wildcard owns one
abbrev wildcard_set : RRset
wildcard_set = record {
  owner = asterisk_label ∷ codes "EXAMPLE" ∷ codes "COM" ∷ [];
  record_type = A;
  class = IN;
  ttl = 300;
  serial = 7;
  records = address 1 ∷ [];
  signatures = record_with (asterisk_label ∷ codes "EXAMPLE" ∷ codes "COM" ∷ []) server ∷ record_with apex server ∷ [];
}

abbrev wildcard_in_b : RRset
wildcard_in_b = set_with (wildcard_under (at_apex (codes "b"))) A (V.A (192 ∷ 0 ∷ 2 ∷ 2 ∷ []))

abbrev wildcard_at_cut : RRset
wildcard_at_cut = set_with (wildcard_under (at_apex (codes "n"))) NS server

abbrev wildcards : Sets
wildcards =
    (key (wildcard_under apex) A, wildcard_set)
    ∷ (key (wildcard_under (at_apex (codes "b"))) A, wildcard_in_b)
    ∷ (key (wildcard_under (at_apex (codes "n"))) NS, wildcard_at_cut)
    ∷ []

-- the wildcard at the closest encloser answers
encloser_wildcard : found wildcards false (in_b (codes "a")) A ≡ Some (record { owner = in_b (codes "a"); record_type = A; class = IN; ttl = 60; serial = 0; records = record_with (in_b (codes "a")) (V.A (192 ∷ 0 ∷ 2 ∷ 2 ∷ [])) ∷ []; signatures = [] })
encloser_wildcard = refl

-- a wildcard may answer for a name of several labels
wildcard_above : asked_wildcard wildcards (codes "x" ∷ codes "y" ∷ at_apex (codes "c")) ≡ Some (wildcard_under apex)
wildcard_above = refl

-- it doesn't where its type isn't there, and no wildcard farther up is asked; but the name is then answered for as one
-- that is there (RFC 4592 section 2.2.1)
type_of_no_wildcard : found wildcards false (in_b (codes "a")) TXT ≡ None
type_of_no_wildcard = refl

starred_but_typeless : negative_answer apex wildcards (in_b (codes "a")) ≡ name_exists
starred_but_typeless = refl

-- nor does it answer for a name that exists, or below one
abbrev text_in_b : Sets
text_in_b = (key (wildcard_under apex) A, wildcard_set) ∷ (key (in_b (codes "x")) TXT, set_with (in_b (codes "x")) TXT server) ∷ []

beside_text : found text_in_b false (in_b (codes "x")) A ≡ None
beside_text = refl

empty_name : found text_in_b false (at_apex (codes "b")) A ≡ None
empty_name = refl

below_empty_name : found text_in_b false (in_b (codes "y")) A ≡ None
below_empty_name = refl

denied_below_empty_name : negative_answer apex text_in_b (in_b (codes "y")) ≡ nx_domain
denied_below_empty_name = refl

-- a name that owns NSEC alone doesn't exist, and where none does, no wildcard is asked
abbrev nsec_in_b : Sets
nsec_in_b = (key (at_apex (codes "b")) NSEC, set_with (at_apex (codes "b")) NSEC server) ∷ []

no_name_exists : asked_wildcard nsec_in_b (in_b (codes "y")) ≡ None
no_name_exists = refl

passed_over : asked_wildcard ((key (wildcard_under apex) A, wildcard_set) ∷ nsec_in_b) (in_b (codes "y")) ≡ Some (wildcard_under apex)
passed_over = refl

-- outside the zone too a wildcard that exists comes before the refusal
wildcard_outside : negative_answer apex ((key (wildcard_under (drop 1 apex)) TXT, set_with (wildcard_under (drop 1 apex)) TXT server) ∷ []) (codes "net" ∷ drop 1 apex) ≡ name_exists
wildcard_outside = refl

-- the queried name owns the records, with the set's TTL, and the signature that the wildcard owned
renamed_with_signatures : found wildcards true (at_apex (codes "q")) A ≡ Some (record {
  owner = at_apex (codes "q");
  record_type = A;
  class = IN;
  ttl = 300;
  serial = 0;
  records = record (record_with (at_apex (codes "q")) (V.A (192 ∷ 0 ∷ 2 ∷ 1 ∷ []))) { ttl = 300 } ∷ [];
  signatures = record_with (at_apex (codes "q")) server ∷ record_with apex server ∷ [];
})
renamed_with_signatures = refl

-- a wildcard's own set is found as it is, and a name that begins with `*` has no other wildcard
wildcard_itself : found wildcards false (wildcard_under apex) A ≡ Some wildcard_set
wildcard_itself = refl

starred_name : found wildcards false (wildcard_under (at_apex (codes "c"))) A ≡ None
starred_name = refl

-- a referral that a wildcard gives is renamed too
renamed_referral : found wildcards false (codes "x" ∷ at_apex (codes "n")) A ≡ Some (record (set_with (codes "x" ∷ at_apex (codes "n")) NS server) { serial = 0 })
renamed_referral = refl

-- the wildcard at the root is the last
root_wildcard : asked_wildcard ((key (wildcard_under []) A, wildcard_set) ∷ []) (at_apex (codes "q")) ≡ Some (wildcard_under [])
root_wildcard = refl

-- ---- aliases (RFC 1034 section 3.6.2)

abbrev c : ℕ → Name
c i = (i ∷ []) ∷ []

abbrev alias_set : Name → Name → RRset
alias_set n target = set_with n CNAME (V.CNAME target)

-- 97 leads to 98, and so on up to 107
abbrev aliases : Sets
aliases = map (λ i. (key (c i) CNAME, alias_set (c i) (c (i + 1)))) (97 ∷ 98 ∷ 99 ∷ 100 ∷ 101 ∷ 102 ∷ 103 ∷ 104 ∷ 105 ∷ 106 ∷ [])

eight_sets : chain aliases false (c 97) (alias_set (c 97) (c 98)) A ≡ map (λ i. alias_set (c i) (c (i + 1))) (97 ∷ 98 ∷ 99 ∷ 100 ∷ 101 ∷ 102 ∷ 103 ∷ 104 ∷ [])
eight_sets = refl

seven_searches : chain_searches aliases false (c 97) (alias_set (c 97) (c 98)) A ≡ 7
seven_searches = refl

-- the last two: the target of the second has no set, but is searched
two_sets : chain aliases false (c 105) (alias_set (c 105) (c 106)) A ≡ alias_set (c 105) (c 106) ∷ alias_set (c 106) (c 107) ∷ []
two_sets = refl

two_searches : chain_searches aliases false (c 105) (alias_set (c 105) (c 106)) A ≡ 2
two_searches = refl

-- a name that leads to itself is not searched again
abbrev loop : Sets
loop = (key (c 97) CNAME, alias_set (c 97) (c 97)) ∷ []

stays_alone : chain loop false (c 97) (alias_set (c 97) (c 97)) A ≡ alias_set (c 97) (c 97) ∷ []
stays_alone = refl

no_search : chain_searches loop false (c 97) (alias_set (c 97) (c 97)) A ≡ 0
no_search = refl

-- a query for CNAME is answered by the set alone
alias_asked_for : IsReply unsigned [] aliases false (c 97) CNAME (answered (one_set (alias_set (c 97) (c 98))) [])
alias_asked_for = record { more = []; found = refl; sections = refl }

-- ---- ANY (RFC 8482 section 4.1)

abbrev typed : ℕ → ℕ → Sets
typed t u = (key apex t, set_with apex t server) ∷ (key apex u, set_with apex u server) ∷ []

mail_before_text : any_type (typed MX TXT) apex ≡ MX
mail_before_text = refl

least_of_others : any_type (typed TXT SRV) apex ≡ TXT
least_of_others = refl

nothing_owned : any_type (typed TXT SRV) (at_apex (codes "www")) ≡ A
nothing_owned = refl

last_type : any_type ((key apex 65535, set_with apex 65535 server) ∷ []) apex ≡ 65535
last_type = refl

any_is_answered : IsReply unsigned apex (typed MX TXT) false apex ANY (answered (one_set (set_with apex MX server)) [])
any_is_answered = record { more = []; found = refl; sections = refl }

no_name_for_any : IsReply unsigned apex (typed MX TXT) false (at_apex (codes "www")) ANY (negative nx_domain)
no_name_for_any = refl
