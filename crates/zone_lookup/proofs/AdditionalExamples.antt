-- Worked examples of additional records and of ANAME, computed from the definitions
use Rattle.std.proofs.Common.{◌≡◌, false, [], ◌∷◌, refl}
use Rattle.std.specs.Prelude.{codes, Some, None}
use Rattle.zone_proto.specs.declared.rdata.RData.{RData}
use Rattle.zone_proto.specs.declared.rdata.RData.TheVariants as V
use Rattle.zone_proto.specs.Keys.{key}
use Rattle.zone_proto.specs.Names.{Name}
use Rattle.zone_proto.specs.Sets.{RRset}
use Rattle.zone_proto.specs.Types.{A, NS, CNAME, MX, TXT, AAAA, ANAME}
use Rattle.zone_map.specs.Zones.{Sets}
use Rattle.zone_lookup.specs.Additionals.{next_name, AreSearchedNames, AreAdditionals, AreSearches, alias_sets}
use Rattle.zone_lookup.specs.Flattening.{flattened}
use Rattle.zone_lookup.specs.Replies.{IsReply, one_set, chained, answered}
use Rattle.zone_lookup.proofs.Examples.{apex, at_apex, record_with, set_with, unsigned}

abbrev mail : Name
mail = at_apex (codes "mail")

abbrev m : Name
m = at_apex (codes "m")

abbrev h : Name
h = at_apex (codes "h")

abbrev a : Name
a = at_apex (codes "a")

abbrev b : Name
b = at_apex (codes "b")

abbrev address : RData
address = V.A (192 ∷ 0 ∷ 2 ∷ 7 ∷ [])

abbrev long_address : RData
long_address = V.AAAA (32 ∷ 1 ∷ 13 ∷ 184 ∷ 0 ∷ 0 ∷ 0 ∷ 0 ∷ 0 ∷ 0 ∷ 0 ∷ 0 ∷ 0 ∷ 0 ∷ 0 ∷ 7 ∷ [])

-- ---- a mail exchange that is an alias (RFC 1035 section 3.3.9)

abbrev exchange : RRset
exchange = set_with mail MX (V.MX (record { preference = 10; exchange = m }))

abbrev alias : RRset
alias = set_with m CNAME (V.CNAME h)

abbrev post : Sets
post = (key h A, set_with h A address) ∷ (key h AAAA, set_with h AAAA long_address) ∷ (key m CNAME, alias) ∷ (key mail MX, exchange) ∷ []

leads_to_exchange : next_name MX exchange ≡ Some m
leads_to_exchange = refl

-- data of another type than the one that is asked for lead nowhere, and neither does an alias that was asked for
leads_nowhere : next_name TXT exchange ≡ None
leads_nowhere = refl

alias_asked_for : next_name CNAME alias ≡ None
alias_asked_for = refl

-- both runs pass the alias, which is listed once
exchange_has_addresses : AreAdditionals post false mail MX m (alias ∷ set_with h A address ∷ set_with h AAAA long_address ∷ [])
exchange_has_addresses = (m ∷ h ∷ [], (refl, refl, (refl, refl, tt)), (m ∷ h ∷ [], (refl, refl, (refl, refl, tt)), refl))

four_names : AreSearches post false mail MX m 4
four_names = (m ∷ h ∷ [], 2, (refl, refl, (refl, refl, tt)), (m ∷ h ∷ [], 0, (refl, refl, (refl, refl, tt)), refl, refl), refl)

-- ---- a name server below the cut: the referral is found for its addresses, and is listed once

abbrev cut : RRset
cut = set_with b NS (V.NS (codes "ns" ∷ b))

abbrev delegated : Sets
delegated = (key b NS, cut) ∷ (key (codes "ns" ∷ b) A, set_with (codes "ns" ∷ b) A address) ∷ []

glue_is_not_found : AreAdditionals delegated false b NS (codes "ns" ∷ b) (cut ∷ [])
glue_is_not_found = ((codes "ns" ∷ b) ∷ [], (refl, refl, tt), ((codes "ns" ∷ b) ∷ [], (refl, refl, tt), refl))

-- ---- runs that come back, and runs that end at a name without a set

abbrev leads : Name → Name → RRset
leads n target = set_with n ANAME (V.ANAME target)

abbrev ring : Sets
ring = (key a ANAME, leads a b) ∷ (key b ANAME, leads b a) ∷ []

queried_name_is_seen : AreSearchedNames ring false (a ∷ []) A (Some b) (b ∷ [])
queried_name_is_seen = (refl, refl, refl)

ring_ends : AreAdditionals ring false a A b (leads b a ∷ [])
ring_ends = (b ∷ [], (refl, refl, refl), refl)

abbrev lost : Sets
lost = (key a ANAME, leads a b) ∷ (key b CNAME, set_with b CNAME (V.CNAME m)) ∷ []

-- the last name is searched, though nothing is found for it
ends_without_set : AreAdditionals lost false a A b (set_with b CNAME (V.CNAME m) ∷ [])
ends_without_set = (b ∷ m ∷ [], (refl, refl, (refl, refl, tt)), refl)

two_names : AreSearches lost false a A b 2
two_names = (b ∷ m ∷ [], 0, (refl, refl, (refl, refl, tt)), refl, refl)

two_aliases : alias_sets lost ≡ 2
two_aliases = refl

-- ---- ANAME

abbrev at_300 : RRset
at_300 = record (leads a h) { ttl = 300 }

abbrev hosted : Sets
hosted = (key a ANAME, at_300) ∷ (key b CNAME, set_with b CNAME (V.CNAME a)) ∷ (key h A, set_with h A address) ∷ []

-- the owner of the ANAME set has the address with the lesser TTL, and the ANAME set comes first among the additional
-- sets
flattened_alone : IsReply unsigned apex hosted false a A (answered (one_set (record (set_with a A address) { serial = 0 })) (at_300 ∷ set_with h A address ∷ []))
flattened_alone = record { more = set_with h A address ∷ []; found = (h ∷ [], (refl, refl, tt), refl); sections = refl }

-- a chain that ends with it stays
chain_stays : IsReply unsigned apex hosted false b A (answered (chained (set_with b CNAME (V.CNAME a) ∷ at_300 ∷ [])) (at_300 ∷ set_with h A address ∷ []))
chain_stays = record { more = set_with h A address ∷ []; found = (h ∷ [], (refl, refl, tt), refl); sections = refl }

-- where the last additional set has no addresses the answer has no records
nothing_taken : IsReply unsigned apex lost false a A (answered (one_set (record (set_with a A address) { serial = 0; records = [] })) (leads a b ∷ set_with b CNAME (V.CNAME m) ∷ []))
nothing_taken = record { more = set_with b CNAME (V.CNAME m) ∷ []; found = (b ∷ m ∷ [], (refl, refl, (refl, refl, tt)), refl); sections = refl }

-- an ANAME to itself leads nowhere, and is the answer
leads_to_itself : IsReply unsigned apex ((key a ANAME, leads a a) ∷ []) false a A (answered (one_set (leads a a)) [])
leads_to_itself = record { more = []; found = ([], refl, refl); sections = refl }

-- where ANAME is asked for it is not flattened
aname_asked_for : IsReply unsigned apex ring false a ANAME (answered (one_set (leads a b)) (leads b a ∷ leads a b ∷ []))
aname_asked_for = record { more = leads b a ∷ leads a b ∷ []; found = (b ∷ a ∷ [], (refl, refl, (refl, refl, refl)), (b ∷ a ∷ [], (refl, refl, (refl, refl, refl)), refl)); sections = refl }

-- the signatures are those of the flattened set
signed_alone : flattened (λ s. record_with s.owner (V.A (0 ∷ 0 ∷ 0 ∷ 0 ∷ [])) ∷ []) at_300 A (set_with h A address)
    ≡ record (set_with a A address) { serial = 0; signatures = record_with a (V.A (0 ∷ 0 ∷ 0 ∷ 0 ∷ [])) ∷ [] }
signed_alone = refl
