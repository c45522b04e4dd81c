use Rattle.std.proofs.Common.{◌≡◌, List, map, ap, subst}
use Rattle.std.specs.Borrow.{Bor}
use Rattle.std.specs.Ordering.{is_eq}
use Rattle.std.specs.Prelude.{slice_index_or}
use Rattle.std.proofs.lemmas.List.Elements.{Contains-get_or}
use Rattle.zone_proto.specs.declared.rr_key.RrKey.{RrKey}
use Rattle.zone_proto.proofs.Members.{In, Contains-In, In-Contains, In-map}
use Rattle.zone_proto.proofs.Ordering.KeyOrder.{key_same}
use Rattle.zone_verify.proofs.nsec.has_key.Goals as goal

pub returns-in-Ok : goal.returns-in-Ok
returns-in-Ok c = λ _.
    let keys : List (Bor RrKey) = c.args.keys.now in
    let names : List RrKey = map (λ k. k.now) keys in
    let i = c.in-Ok.field-0 in
    let there : Bor RrKey = slice_index_or keys i c.args.key in
    let same : there.now ≡ c.args.key.now = key_same there.now c.args.key.now (ap is_eq (c.in-Ok.ensures.ok c.args.key)) in
    In-Contains c.args.key.now names
    (subst (λ (k : RrKey). In k names) same (In-map (λ (k : Bor RrKey). k.now) there keys (Contains-In there keys (Contains-get_or keys i c.args.key c.in-Ok.ensures.bound))))
