use Rattle.std.proofs.Common.{◌≡◌, sym, ap, ◌∙◌}
use Rattle.std.specs.Prelude.{Some, None, option_copied, option_map}
use Rattle.zone_proto.specs.declared.rr_key.RrKey.{RrKey}
use Rattle.zone_proto.specs.Types.{NS}
use Rattle.zone_map.specs.Zones.{set_at}
use Rattle.zone_response.specs.Descent.{diversion_above, diversion_of}
use Rattle.zone_response.proofs.TurnWalk.{of_above, of_itself, own_turn}
use Rattle.zone_response.proofs.descent.diversion.Goals as goal

pub returns-in-Some-clause-ok : goal.returns-in-Some-clause-ok
returns-in-Some-clause-ok g c =
    let t = c.args.record_type.0 in
    of_above c.args.origin.now c.args.inner.now.records c.args.name.now t (diversion_of c.in-Some.turning)
    (ap (option_map diversion_of) (sym c.in-Some.is) ∙ c.in_ok-turning.ensures.ok t)

pub returns-in-Some-own_cut-clause-ok : goal.returns-in-Some-own_cut-clause-ok
returns-in-Some-own_cut-clause-ok g c =
    let origin = c.args.origin.now in
    let m = c.args.inner.now.records in
    let x = c.args.name.now in
    let t = c.args.record_type.0 in
    let nothing : None ≡ diversion_above origin m x t x = ap (option_map diversion_of) (sym c.in_default.is) ∙ c.in_ok-turning.ensures.ok t in
    let ns : option_copied c.read_node_sets-here.result.ns ≡ set_at m x NS = c.read_node_sets-here.ensures.ns ∙ ap (λ (k : RrKey). set_at m k.name NS) c.in_ok-key.ensures.copy.ok in
    own_turn origin m x t (Some c.in-Some-own_cut.cut.now) c.requires (ap option_copied (sym c.in-Some-own_cut.is) ∙ c.own_cut.ensures m ns)
    ∙ of_itself origin m x t nothing

pub returns-clause-ok : goal.returns-clause-ok
returns-clause-ok g c =
    let origin = c.args.origin.now in
    let m = c.args.inner.now.records in
    let x = c.args.name.now in
    let t = c.args.record_type.0 in
    let nothing : None ≡ diversion_above origin m x t x = ap (option_map diversion_of) (sym c.in_default.is) ∙ c.in_ok-turning.ensures.ok t in
    let ns : option_copied c.read_node_sets-here.result.ns ≡ set_at m x NS = c.read_node_sets-here.ensures.ns ∙ ap (λ (k : RrKey). set_at m k.name NS) c.in_ok-key.ensures.copy.ok in
    own_turn origin m x t None c.requires (ap option_copied (sym c.in-None.is) ∙ c.own_cut.ensures m ns)
    ∙ of_itself origin m x t nothing
