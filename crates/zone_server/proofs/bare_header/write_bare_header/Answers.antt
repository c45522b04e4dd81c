use Rattle.zone_server.proofs.BareHeaderBack.{bare_length, bare_written}
use Rattle.zone_server.proofs.bare_header.write_bare_header.Goals as goal

pub returns-clause-header : goal.returns-clause-header
returns-clause-header c =
    bare_written c.write_octets.result c.args.header c.args.code c.write_octets.new.out.items c.requires.opcode c.requires.code c.write_octets.ensures

pub returns-clause-length : goal.returns-clause-length
returns-clause-length c = bare_length c.write_octets.result c.args.header c.args.code c.write_octets.new.out.items c.write_octets.ensures
