use Rattle.std.proofs.Common.{rules, ◌≡◌, ap, sym, ◌∙◌, map, length, ◌≤◌, arith}
use Rattle.std.proofs.lemmas.List.{take_all}
use Rattle.zone_proto.specs.declared.record.Record.{Record}
use Rattle.zone_proto.specs.Data.{type_of}
use Rattle.zone_proto.specs.Types.{RRSIG}
use Rattle.zone_proto.specs.Sets.{set_under}
use Rattle.zone_map.specs.Wildcards.{renamed, renamed_signature}
use Rattle.zone_map.proofs.Renaming.{renamed_data}
use Rattle.zone_map.proofs.wildcard.renamed.Goals as goal
use Rattle.zone_map.proofs.wildcard.renamed.Goals.{then-signed+else-loop-rrsig-test, else-signed}

pub insert_rrsig-requires : goal.insert_rrsig-requires
insert_rrsig-requires c =
    let stored : type_of c.rrsig-item.result.rdata ≡ RRSIG = search rules in
    record { kind = ap (λ (r : Record). type_of r.rdata) c.in_ok-renamed_signature.ensures.made ∙ ap type_of (renamed_data c.args.wildcard_name.now c.args.name.now c.rrsig-item.result) ∙ stored }

pub returns-clause-made : goal.returns-clause-made
returns-clause-made c =
    let owner = c.from-owner.ensures ∙ c.in_ok-clone.ensures.copy.ok in
    let made : c.in_ok-made.made ≡ set_under c.args.name.now c.args.set.now.ttl c.args.set.now =
    c.in_ok-made.ensures.ok ∙ (λ i. set_under (owner i) (c.ttl.ensures i) c.args.set.now) in
    elim c.if-signed.branch [
      | then-signed+else-loop-rrsig-test w ↦
          let all : length w.rrsigs-rrsig-items.result.now ≤ w.loop-rrsig.rrsig-index = omega (arith, w.loop-rrsig-test.false) in
          w.made-is ∙ w.loop-rrsig.invariant
          ∙ ap (λ rs. record (set_under c.args.name.now c.args.set.now.ttl c.args.set.now) { signatures = map (renamed_signature c.args.wildcard_name.now c.args.name.now) rs })
          (take_all w.loop-rrsig.rrsig-index w.rrsigs-rrsig-items.result.now all ∙ w.rrsigs-rrsig-items.ensures.value)
          ∙ ap (λ b. renamed b c.args.wildcard_name.now c.args.name.now c.args.set.now) (sym w.if-signed.true)
      | else-signed w ↦ w.made-is ∙ made ∙ ap (λ b. renamed b c.args.wildcard_name.now c.args.name.now c.args.set.now) (sym w.if-signed.false)
    ]
