use Rattle.std.proofs.Common.{◌≡◌, ◌∙◌, sym}
use Rattle.zone_map.proofs.Neighbours.{from_key, below_where_none, below_where_some, read, unread}
use Rattle.zone_map.proofs.record_map.RecordMap.owns_from.Goals as goal

pub returns-in-Some : goal.returns-in-Some
returns-in-Some c =
    let is : c.from.result ≡ from_key c.args.least.now c.self.inside.sets = c.from.ensures.sets in
    record {
      owned =
          below_where_some c.args.least.now c.args.self.now c.self.inside.sets c.from.result c.requires c.from.ensures.ordered c.self.view_is is
          (c.in-Some.first.now, c.in-Some.field-0-1.now) c.next.new.self c.zone_of.result c.in-Some.ensures.steps c.zone_of.ensures.0 c.zone_of.ensures.1;
      counted =
          c.add_one.ensures
          ∙ read c.args.least.now c.args.self.now c.self.inside.sets c.from.result c.requires c.self.view_is is c.args.reads.now c.next.new.self
          (c.in-Some.first.now, c.in-Some.field-0-1.now) c.in-Some.ensures.steps;
    }

pub returns-in-None : goal.returns-in-None
returns-in-None c =
    let is : c.from.result ≡ from_key c.args.least.now c.self.inside.sets = c.from.ensures.sets in
    record {
      owned = sym (below_where_none c.args.least.now c.args.self.now c.self.inside.sets c.from.result c.requires c.from.ensures.ordered c.self.view_is is c.in-None.ensures.steps.0);
      counted = unread c.args.least.now c.args.self.now c.self.inside.sets c.from.result c.requires c.self.view_is is c.args.reads.now c.in-None.ensures.steps.0;
    }
