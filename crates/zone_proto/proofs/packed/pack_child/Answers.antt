use Rattle.std.proofs.Common.{◌≡◌, [], ◌∷◌, ◌++◌, List, ℕ, ap, ◌∙◌, append_assoc}
use Rattle.zone_proto.specs.Names.{Name}
use Rattle.zone_proto.specs.Octets.{written}
use Rattle.zone_proto.specs.Packing.{packing, name_of}
use Rattle.zone_proto.proofs.Names.Packings.{is_packing, is_name_of}
use Rattle.zone_proto.proofs.packed.pack_child.Goals as goal

pub returns-clause-packing : goal.returns-clause-packing
returns-clause-packing c =
    let n : Name = name_of c.args.octets.now in
    let l : List ℕ = c.args.label.now in
    let all : written c.push.new.self ≡ packing (l ∷ n) =
    c.in_ok-push.ensures
    ∙ ap (λ z. z ++ 0 ∷ []) (c.in_ok-extend_from_slice-2.ensures
    ∙ ap (λ z. z ++ l) (c.in_ok-extend_from_slice.ensures ∙ λ i. c.in_ok-child.ensures i ++ c.requires.packing.octets i))
    ∙ append_assoc (packing n) l (0 ∷ []) in
    is_packing (written c.push.new.self) (l ∷ n) (c.requires.label, c.requires.packing.packable) all

pub returns-clause-name : goal.returns-clause-name
returns-clause-name c =
    let n : Name = name_of c.args.octets.now in
    let l : List ℕ = c.args.label.now in
    let all : written c.push.new.self ≡ packing (l ∷ n) =
    c.in_ok-push.ensures
    ∙ ap (λ z. z ++ 0 ∷ []) (c.in_ok-extend_from_slice-2.ensures
    ∙ ap (λ z. z ++ l) (c.in_ok-extend_from_slice.ensures ∙ λ i. c.in_ok-child.ensures i ++ c.requires.packing.octets i))
    ∙ append_assoc (packing n) l (0 ∷ []) in
    is_name_of (written c.push.new.self) (l ∷ n) (c.requires.label, c.requires.packing.packable) all
