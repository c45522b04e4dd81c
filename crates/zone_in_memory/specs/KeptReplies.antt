-- How an answer keeps the sections of a reply: whole sets, with the options that say whether their signatures are lent
use Rattle.std.specs.Prelude.{◌≡◌, ◌≢◌, List, [], Option, MatchOption}
use Rattle.zone_proto.specs.Sets.{RRset}
use Rattle.lookup_types.specs.declared.lookup_options.LookupOptions.{LookupOptions}
use Rattle.zone_handler.specs.declared.auth_lookup.AuthLookup.{AuthLookup}
use Rattle.zone_handler.specs.declared.auth_lookup.AuthLookup.TheVariants as answer
use Rattle.zone_handler.specs.declared.lookup_records.LookupRecords.{LookupRecords}
use Rattle.zone_handler.specs.declared.lookup_records.LookupRecords.TheVariants as section
use Rattle.zone_handler.specs.Answers.{KeepsMany}
use Rattle.zone_lookup.specs.Replies.{Answers, one_set, chained, Reply, answered}

-- one set is kept by itself, and a chain as several sets
abbrev pub KeepsAnswers : LookupOptions → Answers → LookupRecords → Type 0
KeepsAnswers options (one_set s) kept = kept ≡ section.Records options s
KeepsAnswers options (chained sets) kept = KeepsMany options sets kept

-- the additional sets are kept as several, and the section is left out exactly where there are none
abbrev pub KeepsAdditionals : LookupOptions → List RRset → Option LookupRecords → Type 0
KeepsAdditionals options sets o = MatchOption o (sets ≡ []) (λ kept. (sets ≢ []) × KeepsMany options sets kept)

-- an answer with these two sections
abbrev pub HasSections : LookupOptions → Answers → List RRset → AuthLookup → Type 0
HasSections options answers more a = (kept : LookupRecords) × (additionals : Option LookupRecords) × (a ≡ answer.Records kept additionals) × KeepsAnswers options answers kept × KeepsAdditionals options more additionals

-- an answer whose sections are those of a reply
abbrev pub SaysAnswer : LookupOptions → (Reply → Type 0) → AuthLookup → Type 0
SaysAnswer options IsTheReply a = (answers : Answers) × (more : List RRset) × IsTheReply (answered answers more) × HasSections options answers more a
