-- The first path of the README (examples/first-path.txt), computed by the definitions: the octets of its input are answered by the
-- octets of its output
use Rattle.std.proofs.Common.{◌≡◌, ◌++◌, ◌+◌, ℕ, List, [], ◌∷◌, Bool, true, Option, Some, None, Ok, Err, codes, pos, refl, sym, subst, inl}
use Rattle.std.specs.Fmt.{digits}
use Rattle.zone_proto.specs.declared.rdata.RData.{RData}
use Rattle.zone_proto.specs.declared.rdata.RData.TheVariants as V
use Rattle.zone_proto.specs.declared.record.Record.{Record}
use Rattle.zone_proto.specs.declared.response_code.ResponseCode.TheVariants as code
use Rattle.zone_proto.specs.Keys.{key}
use Rattle.zone_proto.specs.Names.{Name}
use Rattle.zone_proto.specs.Sets.{RRset}
use Rattle.zone_proto.specs.Types.{A, NS, SOA, IN}
use Rattle.zone_handler.specs.declared.auth_lookup.AuthLookup.{AuthLookup}
use Rattle.zone_handler.specs.declared.auth_lookup.AuthLookup.TheVariants as answer
use Rattle.zone_handler.specs.declared.control_flow.LookupControlFlow.{LookupControlFlow}
use Rattle.zone_handler.specs.declared.control_flow.LookupControlFlow.TheVariants.{Continue}
use Rattle.lookup_types.specs.declared.lookup_error.LookupError.{LookupError}
use Rattle.lookup_types.specs.declared.lookup_error.LookupError.TheVariants as lookup_error
use Rattle.lookup_types.specs.declared.lookup_options.LookupOptions.{LookupOptions}
use Rattle.zone_handler.specs.declared.lookup_records.LookupRecords.TheVariants as section
use Rattle.zone_lookup.specs.Replies.{one_set, answered, negative, nx_domain}
use Rattle.zone_in_memory.specs.Lookup.{IsLookup}
use Rattle.zonectl_commands.specs.Lines.{lines_of}
use Rattle.zonectl_commands.specs.Transcripts.{AnswersLine, IsTranscript}
use Rattle.zonectl_session.specs.declared.session.Served.{Served}
use Rattle.zonectl_session.specs.Replies.{yes}
use Rattle.zonectl_session.specs.Sessions.{first_session, IsAnswer}
use Rattle.zonectl_session.specs.Steps.{lookup_reply, signature_of, with_sets}

-- ---- the lines

abbrev about : List ℕ
about = codes "# A zone with an address and a delegation, and three queries."

abbrev soa : List ℕ
soa = codes "add example.com. 3600 SOA ns.example.com. host.example.com. 1 7200 600 86400 300"

abbrev address : List ℕ
address = codes "add www.example.com. 60 A 192.0.2.1"

abbrev delegation : List ℕ
delegation = codes "add sub.example.com. 60 NS ns.example.com."

abbrev blank : List ℕ
blank = codes ""

abbrev about_address : List ℕ
about_address = codes "# The address is there: the answer is its record."

abbrev ask_address : List ℕ
ask_address = codes "lookup www.example.com. A"

abbrev about_referral : List ℕ
about_referral = codes "# This name stands below the delegation: the answer is a referral, the NS record of sub."

abbrev ask_referral : List ℕ
ask_referral = codes "lookup a.sub.example.com. A"

abbrev about_denial : List ℕ
about_denial = codes "# No such name is there."

abbrev ask_denial : List ℕ
ask_denial = codes "lookup no.example.com. A"

abbrev input : List ℕ
input =
    codes "# A zone with an address and a delegation, and three queries.\n"
    ++ codes "add example.com. 3600 SOA ns.example.com. host.example.com. 1 7200 600 86400 300\n"
    ++ codes "add www.example.com. 60 A 192.0.2.1\n"
    ++ codes "add sub.example.com. 60 NS ns.example.com.\n"
    ++ codes "\n"
    ++ codes "# The address is there: the answer is its record.\n"
    ++ codes "lookup www.example.com. A\n"
    ++ codes "# This name stands below the delegation: the answer is a referral, the NS record of sub.\n"
    ++ codes "lookup a.sub.example.com. A\n"
    ++ codes "# No such name is there.\n"
    ++ codes "lookup no.example.com. A\n"

input_lines : lines_of input ≡ Some about ∷ Some soa ∷ Some address ∷ Some delegation ∷ Some blank ∷ Some about_address ∷ Some ask_address ∷ Some about_referral ∷ Some ask_referral ∷ Some about_denial ∷ Some ask_denial ∷ []
input_lines = refl

-- ---- the zone

abbrev apex : Name
apex = codes "example" ∷ codes "com" ∷ []

abbrev server : Name
server = codes "ns" ∷ apex

abbrev record_with : Name → ℕ → RData → Record
record_with n ttl d = record { name = n; dns_class = record { 0 = IN }; ttl = ttl; rdata = d }

abbrev set_with : ℕ → ℕ → Record → RRset
set_with t serial r = record { owner = r.name; record_type = t; class = IN; ttl = r.ttl; serial = serial; records = r ∷ []; signatures = [] }

abbrev soa_record : Record
soa_record = record_with apex 3600 (V.SOA (record { mname = server; rname = codes "host" ∷ apex; serial = 1; refresh = pos 7200; retry = pos 600; expire = pos 86400; minimum = 300 }))

abbrev www : Record
www = record_with (codes "www" ∷ apex) 60 (V.A (192 ∷ 0 ∷ 2 ∷ 1 ∷ []))

abbrev sub : Record
sub = record_with (codes "sub" ∷ apex) 60 (V.NS server)

-- the SOA is taken when the zone has none yet, whose serial is 0
abbrev soa_set : RRset
soa_set = set_with SOA 0 soa_record

abbrev www_set : RRset
www_set = set_with A 1 www

abbrev sub_set : RRset
sub_set = set_with NS 1 sub

-- the session before the first line, and those after each `add`
abbrev empty : Served
empty = first_session apex

abbrev with_soa : Served
with_soa = with_sets empty ((key soa_record.name SOA, soa_set) ∷ [])

abbrev with_address : Served
with_address = with_sets empty ((key soa_record.name SOA, soa_set) ∷ (key www.name A, www_set) ∷ [])

abbrev full : Served
full = with_sets empty ((key soa_record.name SOA, soa_set) ∷ (key sub.name NS, sub_set) ∷ (key www.name A, www_set) ∷ [])

-- ---- the steps of the lookups

abbrev unsigned : LookupOptions
unsigned = record { dnssec_ok = Bool.false }

abbrev Step : Type 0
Step = LookupControlFlow AuthLookup LookupError

-- an answer that has one set, and nothing beside it
abbrev with_set : RRset → Step
with_set set = Continue (Ok (answer.Records (section.Records unsigned set) None))

abbrev no_name : Step
no_name = Continue (Err (lookup_error.ResponseCode code.NXDomain))

address_found : IsLookup signature_of full.zone (codes "www" ∷ apex) A unsigned 0 (with_set www_set)
address_found = inl (answered (one_set www_set) [], record { more = []; found = refl; sections = refl }, (answer.Records (section.Records unsigned www_set) None, refl, (section.Records unsigned www_set, None, refl, refl, refl)))

referred : IsLookup signature_of full.zone (codes "a" ∷ codes "sub" ∷ apex) A unsigned 0 (with_set sub_set)
referred = inl (answered (one_set sub_set) [], record { more = []; found = refl; sections = refl }, (answer.Records (section.Records unsigned sub_set) None, refl, (section.Records unsigned sub_set, None, refl, refl, refl)))

absent : IsLookup signature_of full.zone (codes "no" ∷ apex) A unsigned 0 no_name
absent = inl (negative nx_domain, refl, refl)

-- ---- the answer to each line, whatever its number

about_answered : (n : ℕ) → AnswersLine IsAnswer empty n (Some about) ([]) true empty
about_answered n = inl (refl, refl, refl)

soa_answered : (n : ℕ) → AnswersLine IsAnswer empty n (Some soa) (codes "yes\n") true with_soa
soa_answered n = inl ((yes, inl (refl, refl), refl), refl)

address_answered : (n : ℕ) → AnswersLine IsAnswer with_soa n (Some address) (codes "yes\n") true with_address
address_answered n = inl ((yes, inl (refl, refl), refl), refl)

delegation_answered : (n : ℕ) → AnswersLine IsAnswer with_address n (Some delegation) (codes "yes\n") true full
delegation_answered n = inl ((yes, inl (refl, refl), refl), refl)

blank_answered : (n : ℕ) → AnswersLine IsAnswer full n (Some blank) ([]) true full
blank_answered n = inl (refl, refl, refl)

about_address_answered : (n : ℕ) → AnswersLine IsAnswer full n (Some about_address) ([]) true full
about_address_answered n = inl (refl, refl, refl)

ask_address_answered : (n : ℕ) → AnswersLine IsAnswer full n (Some ask_address) (codes "answer 1\nwww.example.com. 60 IN A 192.0.2.1\nadditional 0\n") true full
unfolding digits
ask_address_answered n = inl ((lookup_reply (with_set www_set), ((with_set www_set, address_found, refl), refl), refl), refl)

about_referral_answered : (n : ℕ) → AnswersLine IsAnswer full n (Some about_referral) ([]) true full
about_referral_answered n = inl (refl, refl, refl)

ask_referral_answered : (n : ℕ) → AnswersLine IsAnswer full n (Some ask_referral) (codes "answer 1\nsub.example.com. 60 IN NS ns.example.com.\nadditional 0\n") true full
unfolding digits
ask_referral_answered n = inl ((lookup_reply (with_set sub_set), ((with_set sub_set, referred, refl), refl), refl), refl)

about_denial_answered : (n : ℕ) → AnswersLine IsAnswer full n (Some about_denial) ([]) true full
about_denial_answered n = inl (refl, refl, refl)

ask_denial_answered : (n : ℕ) → AnswersLine IsAnswer full n (Some ask_denial) (codes "error NXDomain\n") true full
unfolding digits
ask_denial_answered n = inl ((lookup_reply (no_name), ((no_name, absent, refl), refl), refl), refl)

-- ---- one line after the other

next : (s u t : Served) (n : ℕ) (line : List ℕ) (lines : List (Option (List ℕ))) (text more : List ℕ) → AnswersLine IsAnswer s n (Some line) text true u → IsTranscript IsAnswer u (n + 1) lines more true t → IsTranscript IsAnswer s n (Some line ∷ lines) (text ++ more) true t
next s u t n line lines text more first others = (u, text, more, true, true, first, others, refl, refl)

abbrev lines_ask_denial : List (Option (List ℕ))
lines_ask_denial = Some ask_denial ∷ []

abbrev text_ask_denial : List ℕ
text_ask_denial = codes "error NXDomain\n" ++ []

from_ask_denial : IsTranscript IsAnswer full 11 lines_ask_denial text_ask_denial true full
from_ask_denial = next full full full 11 ask_denial [] (codes "error NXDomain\n") [] (ask_denial_answered 11) (refl, refl, refl)

abbrev lines_about_denial : List (Option (List ℕ))
lines_about_denial = Some about_denial ∷ lines_ask_denial

abbrev text_about_denial : List ℕ
text_about_denial = text_ask_denial

from_about_denial : IsTranscript IsAnswer full 10 lines_about_denial text_about_denial true full
from_about_denial = next full full full 10 about_denial lines_ask_denial ([]) text_ask_denial (about_denial_answered 10) from_ask_denial

abbrev lines_ask_referral : List (Option (List ℕ))
lines_ask_referral = Some ask_referral ∷ lines_about_denial

abbrev text_ask_referral : List ℕ
text_ask_referral = codes "answer 1\nsub.example.com. 60 IN NS ns.example.com.\nadditional 0\n" ++ text_about_denial

from_ask_referral : IsTranscript IsAnswer full 9 lines_ask_referral text_ask_referral true full
from_ask_referral = next full full full 9 ask_referral lines_about_denial (codes "answer 1\nsub.example.com. 60 IN NS ns.example.com.\nadditional 0\n") text_about_denial (ask_referral_answered 9) from_about_denial

abbrev lines_about_referral : List (Option (List ℕ))
lines_about_referral = Some about_referral ∷ lines_ask_referral

abbrev text_about_referral : List ℕ
text_about_referral = text_ask_referral

from_about_referral : IsTranscript IsAnswer full 8 lines_about_referral text_about_referral true full
from_about_referral = next full full full 8 about_referral lines_ask_referral ([]) text_ask_referral (about_referral_answered 8) from_ask_referral

abbrev lines_ask_address : List (Option (List ℕ))
lines_ask_address = Some ask_address ∷ lines_about_referral

abbrev text_ask_address : List ℕ
text_ask_address = codes "answer 1\nwww.example.com. 60 IN A 192.0.2.1\nadditional 0\n" ++ text_about_referral

from_ask_address : IsTranscript IsAnswer full 7 lines_ask_address text_ask_address true full
from_ask_address = next full full full 7 ask_address lines_about_referral (codes "answer 1\nwww.example.com. 60 IN A 192.0.2.1\nadditional 0\n") text_about_referral (ask_address_answered 7) from_about_referral

abbrev lines_about_address : List (Option (List ℕ))
lines_about_address = Some about_address ∷ lines_ask_address

abbrev text_about_address : List ℕ
text_about_address = text_ask_address

from_about_address : IsTranscript IsAnswer full 6 lines_about_address text_about_address true full
from_about_address = next full full full 6 about_address lines_ask_address ([]) text_ask_address (about_address_answered 6) from_ask_address

abbrev lines_blank : List (Option (List ℕ))
lines_blank = Some blank ∷ lines_about_address

abbrev text_blank : List ℕ
text_blank = text_about_address

from_blank : IsTranscript IsAnswer full 5 lines_blank text_blank true full
from_blank = next full full full 5 blank lines_about_address ([]) text_about_address (blank_answered 5) from_about_address

abbrev lines_delegation : List (Option (List ℕ))
lines_delegation = Some delegation ∷ lines_blank

abbrev text_delegation : List ℕ
text_delegation = codes "yes\n" ++ text_blank

from_delegation : IsTranscript IsAnswer with_address 4 lines_delegation text_delegation true full
from_delegation = next with_address full full 4 delegation lines_blank (codes "yes\n") text_blank (delegation_answered 4) from_blank

abbrev lines_address : List (Option (List ℕ))
lines_address = Some address ∷ lines_delegation

abbrev text_address : List ℕ
text_address = codes "yes\n" ++ text_delegation

from_address : IsTranscript IsAnswer with_soa 3 lines_address text_address true full
from_address = next with_soa with_address full 3 address lines_delegation (codes "yes\n") text_delegation (address_answered 3) from_delegation

abbrev lines_soa : List (Option (List ℕ))
lines_soa = Some soa ∷ lines_address

abbrev text_soa : List ℕ
text_soa = codes "yes\n" ++ text_address

from_soa : IsTranscript IsAnswer empty 2 lines_soa text_soa true full
from_soa = next empty with_soa full 2 soa lines_address (codes "yes\n") text_address (soa_answered 2) from_address

abbrev lines_about : List (Option (List ℕ))
lines_about = Some about ∷ lines_soa

abbrev text_about : List ℕ
text_about = text_soa

from_about : IsTranscript IsAnswer empty 1 lines_about text_about true full
from_about = next empty empty full 1 about lines_soa ([]) text_soa (about_answered 1) from_soa

abbrev output : List ℕ
output =
    codes "yes\n"
    ++ codes "yes\n"
    ++ codes "yes\n"
    ++ codes "answer 1\n"
    ++ codes "www.example.com. 60 IN A 192.0.2.1\n"
    ++ codes "additional 0\n"
    ++ codes "answer 1\n"
    ++ codes "sub.example.com. 60 IN NS ns.example.com.\n"
    ++ codes "additional 0\n"
    ++ codes "error NXDomain\n"

written : text_about ≡ output
written = refl

first_path : IsTranscript IsAnswer (first_session apex) 1 (lines_of input) output true full
first_path =
    let P : List (Option (List ℕ)) → Type 0 = λ ls. IsTranscript IsAnswer empty 1 ls text_about true full in
    let Q : List ℕ → Type 0 = λ text. IsTranscript IsAnswer empty 1 (lines_of input) text true full in
    subst Q written (subst P (sym input_lines) from_about)
