use Rattle.std.proofs.Common.{◌≡◌, length, rules}
use Rattle.line_text.proofs.AddressTexts.{ipv6_of_sixteen}
use Rattle.line_text.proofs.addresses.Ipv6TextDisplay.fmt.Goals as goal

pub returns-clause-writes : goal.returns-clause-writes
returns-clause-writes g c =
    let len : length c.args.self.now.0.now ≡ 16 = search rules in
    rw (ipv6_of_sixteen c.args.self.now.0.now len) c.write.ensures.writes
