use Rattle.std.proofs.Common.{◌≡◌, ◌∙◌, sym, ap, refl, true, false, rules}
use Rattle.zone_proto.specs.Names.{same_name}
use Rattle.zone_proto.specs.Data.{type_of}
use Rattle.zone_proto.specs.Sets.{RRset}
use Rattle.zone_proto.specs.SetInside.{set_of}
use Rattle.zone_proto.specs.Insertion.{is_refused}
use Rattle.zone_proto.proofs.SetLaws.{IsSet-with, inserted_taken, inserted_refused}
use Rattle.zone_proto.proofs.record_set.RecordSet.insert.Goals as goal

pub invariant_of-self-2 : goal.invariant_of-self-2
invariant_of-self-2 c =
    let owner : same_name c.args.new.name c.self.inside.name ≡ true =
    ap (λ (s : RRset). same_name c.args.new.name s.owner) c.self.view_is ∙ c.requires.owner in
    let kind : type_of c.args.new.rdata ≡ c.self.inside.record_type.0 =
    c.requires.kind ∙ sym (ap (λ (s : RRset). s.record_type) c.self.view_is) in
    let new : is_refused c.self.inside.records.items c.args.new.rdata ≡ false =
    ap (λ rs. is_refused rs c.args.new.rdata) (sym c.as_slice.ensures.value) ∙ sym c.is_refused.ensures ∙ c.if-is_refused.false in
    record {
      set = rw c.in_ok-put_record.ensures.ok (IsSet-with c.self.inside.name c.self.inside.record_type.0 c.self.inside.records.items c.args.new owner kind c.self.invariant.set new);
      signed = c.self.invariant.signed;
    }

pub returns : goal.returns
returns c =
    let kind : type_of c.args.new.rdata ≡ c.self.inside.record_type.0 =
    c.requires.kind ∙ sym (ap (λ (s : RRset). s.record_type) c.self.view_is) in
    let new : is_refused c.self.inside.records.items c.args.new.rdata ≡ false =
    ap (λ rs. is_refused rs c.args.new.rdata) (sym c.as_slice.ensures.value) ∙ sym c.is_refused.ensures ∙ c.if-is_refused.false in
    let taken = inserted_taken (set_of c.self.inside) c.args.new c.args.serial c.self.invariant.set kind new in
    record {
      answer = search rules;
      after = rw (c.has_taken.ensures, ← c.self.view_is, taken, c.in_ok-put_record.ensures.ok) refl;
      err = tt;
      same = tt;
    }

pub returns-then-is_refused : goal.returns-then-is_refused
returns-then-is_refused c =
    let kind : type_of c.args.new.rdata ≡ c.self.inside.record_type.0 =
    c.requires.kind ∙ sym (ap (λ (s : RRset). s.record_type) c.self.view_is) in
    let refused : is_refused c.self.inside.records.items c.args.new.rdata ≡ true =
    ap (λ rs. is_refused rs c.args.new.rdata) (sym c.as_slice.ensures.value) ∙ sym c.is_refused.ensures ∙ c.if-is_refused.true in
    let kept = inserted_refused (set_of c.self.inside) c.args.new c.args.serial c.self.invariant.set kind refused in
    record { answer = rw (← c.self.view_is, kept) refl; after = rw (← c.self.view_is, kept) refl; err = tt; same = tt }
