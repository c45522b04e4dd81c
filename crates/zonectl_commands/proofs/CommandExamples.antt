-- Lines, computed by their definitions
use Rattle.std.proofs.Common.{◌≡◌, [], ◌∷◌, true, false, Some, None, codes, refl}
use Rattle.zone_proto.specs.declared.nx_proof_kind.NxProofKind.TheVariants as kind
use Rattle.zonectl_commands.specs.declared.command.Command.TheVariants as command
use Rattle.zonectl_commands.specs.Commands.{said_by}
use Rattle.zonectl_commands.specs.Lines.{lines_of}

blank : said_by (codes " ") ≡ Some None
blank = refl

comment : said_by (codes "#drop a. A") ≡ Some None
comment = refl

drop : said_by (codes "drop A.b. A") ≡ Some (Some (command.Drop (record { name = (codes "a") ∷ (codes "b") ∷ []; record_type = record { 0 = 1 } })))
drop = refl

query : said_by (codes "lookup a. AAAA dnssec") ≡ Some (Some (command.Lookup ((codes "a") ∷ []) (record { 0 = 28 }) (record { dnssec_ok = true })))
query = refl

hashed : said_by (codes "kind nsec3 aabb 12 optout") ≡ Some (Some (command.Kind (Some (kind.Nsec3 1 (170 ∷ 187 ∷ []) 12 true))))
hashed = refl

unsalted : said_by (codes "kind nsec3 - 0") ≡ Some (Some (command.Kind (Some (kind.Nsec3 1 [] 0 false))))
unsalted = refl

-- bad lines: another case, a word too many, and one too few
upper : said_by (codes "CIRCLE") ≡ None
upper = refl

too_many : said_by (codes "circle a.") ≡ None
too_many = refl

too_few : said_by (codes "deny a.") ≡ None
too_few = refl

-- a blank line, one carriage return taken away and another kept, an octet above 126, and a last line without an end
input : lines_of (10 ∷ 97 ∷ 13 ∷ 13 ∷ 10 ∷ 127 ∷ 10 ∷ 98 ∷ 13 ∷ []) ≡ Some [] ∷ Some (97 ∷ 13 ∷ []) ∷ None ∷ Some (98 ∷ 13 ∷ []) ∷ []
input = refl
