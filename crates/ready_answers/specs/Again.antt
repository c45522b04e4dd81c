-- Responses to queries that ask the same
use Rattle.std.specs.Prelude.{◌≡◌, Bool, Option, option_map}
use Rattle.message_reading.specs.declared.query.Query.{Query}
use Rattle.message_reading.specs.declared.query.Extension.{Extension}
use Rattle.message_writing.specs.declared.response.Response.{Response}

-- what a query says by EDNS that its response repeats: whether there is an OPT record (RFC 6891 section 6.1.1), and its DO bit (RFC 3225
-- section 3)
abbrev pub said_by : Option Extension → Option Bool
said_by e = option_map (λ (x : Extension). x.dnssec_ok) e

-- The second response answers a query whose question, in the case of its letters, and whose EDNS are those of the query that the first
-- one answers; all else of the two is the same.
pub record IsAskedAgain (before after : Response) (q : Query) : Type 0 where
  pub query : after.query.now ≡ q
  pub question : q.question ≡ before.query.now.question
  pub extension : said_by q.extension ≡ said_by before.query.now.extension
  pub authoritative : after.authoritative ≡ before.authoritative
  pub code : after.code ≡ before.code
  pub size : after.size ≡ before.size
  pub answers : after.answers.now ≡ before.answers.now
  pub authorities : after.authorities.now ≡ before.authorities.now
  pub glue : after.glue.now ≡ before.glue.now
  pub additionals : after.additionals.now ≡ before.additionals.now
