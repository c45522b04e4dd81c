use Rattle.std.proofs.Common.{◌≡◌, IfOk, string_bytes, ℕ, List, Option, Bor, subst}
use Rattle.std.specs.Prelude.{option_map}
use Rattle.zone_file_writer.proofs.HostTexts.{relay_more}
use Rattle.zone_file_writer.proofs.hosts.push_relay.Goals as goal

pub returns-in_ok-write-in-len1-up : goal.returns-in_ok-write-in-len1-up
returns-in_ok-write-in-len1-up c =
    let IsRest : Option (List ℕ × List ℕ) → Type 0 =
    λ x. IfOk c.push_host.result
    (λ (rest : Option (Bor (List ℕ))).
    option_map {T = Bor (List ℕ)} {U = List ℕ × List ℕ} (λ r. (string_bytes c.push_host.new.text, r.now)) rest ≡ x) in
    subst IsRest
    (relay_more (string_bytes c.args.text.now) (string_bytes c.write.new.self) c.args.octets.now c.in-len1-up.len_at_least c.in_ok-write-in-len1-up.ensures.bytes)
    c.push_host.ensures
