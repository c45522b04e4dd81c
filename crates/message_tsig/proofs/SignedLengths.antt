-- How many octets a message has with its TSIG
use Rattle.std.proofs.Common.{◌≡◌, ℕ, ◌+◌, ◌%◌, ◌-◌, ◌≤◌, List, [], ◌∷◌, length, take, drop, refl, ◌∙◌, arith, length-append, length-drop}
use Rattle.std.proofs.lemmas.List.{length-map, length-take}
use Rattle.std.specs.Char.{to_ascii_lowercase}
use Rattle.std.specs.Prelude.{min}
use Rattle.zone_proto.specs.Names.{Name, lower, wire_form, wire_length}
use Rattle.message_hmac.specs.Algorithms.{size_by}
use Rattle.message_hmac.proofs.Lengths.{length_of_mac}
use Rattle.message_tsig.specs.declared.key.Key.{Key}
use Rattle.message_tsig.specs.declared.tsig.Tsig.{Tsig}
use Rattle.message_tsig.specs.Keys.{algorithm_name}
use Rattle.message_tsig.specs.Replies.{header_text}
use Rattle.message_tsig.specs.Requests.{request_mac, request_stamp, signed_request}
use Rattle.message_tsig.specs.Signing.{Signing, response_mac, response_stamp, signed_message, text_in, tsig_size}
use Rattle.message_tsig.specs.Texts.{short_at, with_additionals}
use Rattle.message_tsig.specs.Tsigs.{data_text, record_text, request_text}

-- ---- a TSIG record

wire_is : (n : Name) → length (wire_form n) ≡ wire_length n
wire_is [] = refl
wire_is (l ∷ ls) = omega (arith, wire_is ls, length-append l (wire_form ls))

lower_is : (n : Name) → wire_length (lower n) ≡ wire_length n
lower_is [] = refl
lower_is (l ∷ ls) = omega (arith, lower_is ls, length-map l to_ascii_lowercase)

length_of_data : (t : Tsig) → length (data_text t) ≡ wire_length t.algorithm + length t.mac + length t.other + 16
unfolding data_text
length_of_data t =
    let name : length (wire_form (lower t.algorithm)) ≡ wire_length t.algorithm = wire_is (lower t.algorithm) ∙ lower_is t.algorithm in
    simp length-append (omega (arith, name))

pub length_of_record : (t : Tsig) → length (record_text t) ≡ wire_length t.name + wire_length t.algorithm + length t.mac + length t.other + 26
unfolding record_text
length_of_record t =
    let name : length (wire_form (lower t.name)) ≡ wire_length t.name = wire_is (lower t.name) ∙ lower_is t.name in
    simp length-append (omega (arith, name, length_of_data t))

-- ---- a message with one

length_of_header : (n : ℕ) (m : List ℕ) → length (with_additionals n m) ≤ 12 + (length m - 12)
length_of_header n m =
    let front : length (take 10 m) ≡ min 10 (length m) = length-take 10 m in
    let back : length (drop 12 m) ≡ length m - 12 = length-drop 12 m in
    simp length-append (omega (arith, front, back))

added : (whole front own most size : ℕ) → whole ≡ front + own → front ≤ most → own ≡ size → whole ≤ most + size
added whole front own most size e within same = omega arith

pub length_of_signed : (k : Key) (now : ℕ) (s : Signing) (m : List ℕ) → length (signed_message k now s m) ≤ 12 + (length m - 12) + tsig_size k
length_of_signed k now s m =
    let t : Tsig = record (response_stamp k now s) { mac = response_mac k now s m } in
    let front : List ℕ = with_additionals ((short_at 10 m + 1) % 65536) m in
    let header : length front ≤ 12 + (length m - 12) = length_of_header ((short_at 10 m + 1) % 65536) m in
    let own : length (record_text t) ≡ wire_length k.name + wire_length (algorithm_name k.algorithm) + length (response_mac k now s m) + 0 + 26 = length_of_record t in
    let mac : length (response_mac k now s m) ≡ size_by k.algorithm = length_of_mac k.algorithm k.secret (text_in s.prior (response_stamp k now s) m) in
    let both : length (signed_message k now s m) ≡ length front + length (record_text t) = length-append front (record_text t) in
    added (length (signed_message k now s m)) (length front) (length (record_text t)) (12 + (length m - 12)) (tsig_size k) both header (omega (arith, own, mac))

pub length_of_request : (k : Key) (now fudge : ℕ) (m : List ℕ) → length (signed_request k now fudge m) ≤ 12 + (length m - 12) + tsig_size k
length_of_request k now fudge m =
    let t : Tsig = record (request_stamp k now fudge m) { mac = request_mac k now fudge m } in
    let front : List ℕ = with_additionals ((short_at 10 m + 1) % 65536) m in
    let header : length front ≤ 12 + (length m - 12) = length_of_header ((short_at 10 m + 1) % 65536) m in
    let own : length (record_text t) ≡ wire_length k.name + wire_length (algorithm_name k.algorithm) + length (request_mac k now fudge m) + 0 + 26 = length_of_record t in
    let mac : length (request_mac k now fudge m) ≡ size_by k.algorithm = length_of_mac k.algorithm k.secret (request_text (request_stamp k now fudge m) m) in
    let both : length (signed_request k now fudge m) ≡ length front + length (record_text t) = length-append front (record_text t) in
    added (length (signed_request k now fudge m)) (length front) (length (record_text t)) (12 + (length m - 12)) (tsig_size k) both header (omega (arith, own, mac))

-- ---- a header alone

pub length_of_header_alone : (m : List ℕ) → length (header_text m) ≤ 12
unfolding header_text
length_of_header_alone m =
    let front : length (take 2 m) ≡ min 2 (length m) = length-take 2 m in
    simp length-append (omega (arith, front))
