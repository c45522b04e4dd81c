use Rattle.std.proofs.Common.{rules, ◌≡◌, ℕ, Bool, true, false, is_some, unwrap_or, refl, ap, sym, ◌∙◌, subst}
use Rattle.std.specs.Prelude.{Option, Some, None, Result}
use Rattle.zone_proto.specs.Results.{IsInsertion}
use Rattle.zone_proto.specs.declared.error.ProtoError.{ProtoError}
use Rattle.zone_proto.specs.declared.record.Record.{Record}
use Rattle.zone_proto.specs.declared.rr_key.RrKey.{RrKey}
use Rattle.zone_proto.specs.Data.{type_of}
use Rattle.zone_proto.specs.Names.{lower, IsName}
use Rattle.zone_proto.specs.Sets.{RRset}
use Rattle.zone_map.specs.Upserts.{clashes, with_record}
use Rattle.zone_map.specs.Zones.{Sets, set_at, owns, IsZone}
use Rattle.zone_map.proofs.CnamesAlone.{alone_after}
use Rattle.zone_map.proofs.Upserting.{clash_is_not_taken, free_is_inserted, IsZone-after, IsZone-or_same, IsZone-with_record}
use Rattle.zone_map.proofs.record_map.RecordMap.upsert.Goals as goal

-- what is at the least key of a record's owner, for its type, says whether the record clashes there
clashes_there : (m : Sets) (r : Record) (least key : RrKey) (t : ℕ) (found b : Bool) → least ≡ key → key.name ≡ lower r.name → t ≡ type_of r.rdata → found ≡ clashes m least.name t → found ≡ b
    → clashes m (lower r.name) (type_of r.rdata) ≡ b
clashes_there m r least key t found b made name kind asked is = cc

-- where its own type isn't owned there, its set isn't there
absent_there : (m : Sets) (r : Record) (least key : RrKey) (t : ℕ) → least ≡ key → key.name ≡ lower r.name → t ≡ type_of r.rdata → owns m least.name t ≡ false → set_at m (lower r.name) (type_of r.rdata) ≡ None
absent_there m r least key t made name kind none = nothing (set_at m (lower r.name) (type_of r.rdata)) cc
  where
    nothing : (o : Option RRset) → is_some o ≡ false → o ≡ None
    nothing None h = refl
    nothing (Some s) h = cc

-- the least key of a record's owner has a name that is one
named_there : (r : Record) (least key : RrKey) → least ≡ key → key.name ≡ lower r.name → IsName least.name → IsName (lower r.name)
named_there r least key made name named = subst IsName (ap (λ (k : RrKey). k.name) made ∙ name) named

-- the sets of a zone stay those of one
zone_after : (m n : Sets) (r : Record) (serial : ℕ) (res : Result Bool ProtoError) → IsName (lower r.name) → IsInsertion m (with_record m r serial) res n → IsZone m → IsZone n
zone_after m n r serial res named h zone =
    IsZone-after (λ k. k) m n (unwrap_or (with_record m r serial) m) res zone (IsZone-or_same m (with_record m r serial) zone (λ k e. IsZone-with_record m r serial k zone named e)) h.after h.same

pub insert_into-requires-clause-named : goal.insert_into-requires-clause-named
insert_into-requires-clause-named c = named_there c.args.record _ _ c.new-key.ensures.value c.in_ok-new.ensures.ok c.new-key.ensures.named.name

pub insert_new-requires-clause-named : goal.insert_new-requires-clause-named
insert_new-requires-clause-named c = named_there c.args.record _ _ c.new-key.ensures.value c.in_ok-new.ensures.ok c.new-key.ensures.named.name

pub returns-then-standing-2-clause-zone : goal.returns-then-standing-2-clause-zone
returns-then-standing-2-clause-zone c =
    zone_after c.args.self.now c.insert_into.new.self c.args.record c.args.serial c.insert_into.result (named_there c.args.record _ _ c.new-key.ensures.value c.in_ok-new.ensures.ok c.new-key.ensures.named.name) c.insert_into.ensures

pub returns-else-standing-2-clause-zone : goal.returns-else-standing-2-clause-zone
returns-else-standing-2-clause-zone c =
    zone_after c.args.self.now c.insert_new.new.self c.args.record c.args.serial c.insert_new.result (named_there c.args.record _ _ c.new-key.ensures.value c.in_ok-new.ensures.ok c.new-key.ensures.named.name) c.insert_new.ensures

pub insert_new-requires-clause-absent : goal.insert_new-requires-clause-absent
insert_new-requires-clause-absent c =
    absent_there c.args.self.now c.args.record _ _ _ c.new-key.ensures.value c.in_ok-new.ensures.ok c.record_type-record_type.ensures (c.standing_at-standing.ensures.absent c.if-standing-2.false)

pub returns-then-standing-clause-insertion : goal.returns-then-standing-clause-insertion
returns-then-standing-clause-insertion c =
    let m = c.args.self.now in
    let r = c.args.record in
    let clash = clashes_there m r _ _ _ _ true c.new-key.ensures.value c.in_ok-new.ensures.ok c.record_type-record_type.ensures c.standing_at-standing.ensures.clashes c.if-standing.true in
    let kept = clash_is_not_taken m c.args.dns_class.0 r c.args.serial clash in
    record { answer = ap is_some (sym kept); after = ap (λ made. unwrap_or made m) (sym kept); err = tt; same = tt }

pub returns-then-standing-2-clause-cnames : goal.returns-then-standing-2-clause-cnames
returns-then-standing-2-clause-cnames c =
    let free = clashes_there c.args.self.now c.args.record _ _ _ _ false c.new-key.ensures.value c.in_ok-new.ensures.ok c.record_type-record_type.ensures c.standing_at-standing.ensures.clashes c.if-standing.false in
    alone_after c.args.self.now c.insert_into.new.self c.args.record c.args.serial c.insert_into.result free c.insert_into.ensures.after c.insert_into.ensures.same

pub returns-else-standing-2-clause-cnames : goal.returns-else-standing-2-clause-cnames
returns-else-standing-2-clause-cnames c =
    let free = clashes_there c.args.self.now c.args.record _ _ _ _ false c.new-key.ensures.value c.in_ok-new.ensures.ok c.record_type-record_type.ensures c.standing_at-standing.ensures.clashes c.if-standing.false in
    alone_after c.args.self.now c.insert_new.new.self c.args.record c.args.serial c.insert_new.result free c.insert_new.ensures.after c.insert_new.ensures.same

pub returns-then-standing-2-clause-insertion : goal.returns-then-standing-2-clause-insertion
returns-then-standing-2-clause-insertion c =
    let free = clashes_there c.args.self.now c.args.record _ _ _ _ false c.new-key.ensures.value c.in_ok-new.ensures.ok c.record_type-record_type.ensures c.standing_at-standing.ensures.clashes c.if-standing.false in
    free_is_inserted c.args.self.now c.insert_into.new.self c.args.dns_class.0 c.args.record c.args.serial c.insert_into.result (search rules) free c.insert_into.ensures

pub returns-else-standing-2-clause-insertion : goal.returns-else-standing-2-clause-insertion
returns-else-standing-2-clause-insertion c =
    let free = clashes_there c.args.self.now c.args.record _ _ _ _ false c.new-key.ensures.value c.in_ok-new.ensures.ok c.record_type-record_type.ensures c.standing_at-standing.ensures.clashes c.if-standing.false in
    free_is_inserted c.args.self.now c.insert_new.new.self c.args.dns_class.0 c.args.record c.args.serial c.insert_new.result (search rules) free c.insert_new.ensures
