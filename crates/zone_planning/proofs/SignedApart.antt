-- Octets to be signed tell what they are made of
use Rattle.std.proofs.Common.{◌≡◌, ℕ, List, ◌++◌, length, refl, sym, ap, ◌∙◌, append_assoc, arith, length-append}
use Rattle.zone_proto.specs.Names.{lower, wire_form}
use Rattle.zone_proto.specs.Sets.{RRset}
use Rattle.zone_proto.specs.declared.rdata.signing.RRSIG.{RRSIG}
use Rattle.zone_proto.proofs.Names.Lower.{IsLowerName-lower}
use Rattle.message_writing.specs.DataText.{fixed_text}
use Rattle.zone_planning.specs.Canonical.{canonical_set}
use Rattle.zone_planning.specs.ReadBack.{SignedDataTellApart, AskedAreSome}
use Rattle.zone_planning.specs.SignedData.{front_text, set_text, signed_data, records_text}
use Rattle.zone_planning.proofs.Apart.{parts_apart, wire_apart, records_apart}

-- in parts: the numbers, the signer, and the records
abbrev records_of : RRSIG → RRset → List ℕ
records_of r s = records_text (wire_form (lower s.owner)) s.record_type r.original_ttl (canonical_set s.records)

parts : (r : RRSIG) (s : RRset) → signed_data r s ≡ fixed_text r ++ (wire_form (lower r.signer_name) ++ records_of r s)
unfolding signed_data front_text set_text
parts r s = append_assoc (fixed_text r) (wire_form (lower r.signer_name)) (records_of r s)

pub signed_apart : SignedDataTellApart
signed_apart r r' s s' named other e =
    let first = parts_apart (fixed_text r) (fixed_text r') (wire_form (lower r.signer_name) ++ records_of r s) (wire_form (lower r'.signer_name) ++ records_of r' s') refl (sym (parts r s) ∙ e ∙ parts r' s') in
    let second = wire_apart (lower r.signer_name) (lower r'.signer_name) (records_of r s) (records_of r' s') (IsLowerName-lower r.signer_name named.signer).name (IsLowerName-lower r'.signer_name other.signer).name first.1 in
    let third = records_apart (lower s.owner) (lower s'.owner) (IsLowerName-lower s.owner named.owner).name (IsLowerName-lower s'.owner other.owner).name s.record_type s'.record_type r.original_ttl r'.original_ttl (canonical_set s.records) (canonical_set s'.records) second.1 in
    record { numbers = first.0; signer = second.0; texts = third.texts; owner = third.owner; types = third.types }

pub asked_are_some : AskedAreSome
asked_are_some r s =
    let count : length (signed_data r s) ≡ length (fixed_text r ++ (wire_form (lower r.signer_name) ++ records_of r s)) = ap length (parts r s) in
    omega (arith, count, length-append (fixed_text r) (wire_form (lower r.signer_name) ++ records_of r s))
