use Rattle.std.proofs.Common.{◌≡◌, ℕ, map, length, get_or, sym, ap, ◌∙◌, arith}
use Rattle.std.proofs.Math.Numerals.{add-one}
use Rattle.std.proofs.Math.ListN.{get_or-map}
use Rattle.std.proofs.lemmas.List.{length-map}
use Rattle.zone_denial.specs.Covering.{next_around}
use Rattle.zone_denial.specs.HashedNames.{hashed}
use Rattle.zone_denial.specs.Nsec3Sets.{hashed_cmp}
use Rattle.zone_denial.proofs.Ascending.{Ascends-from_sorted}
use Rattle.zone_denial.proofs.Hashed.HashedNames.{hashed_order}
use Rattle.zone_denial.proofs.Hashed.NextAround.{next_at, first_at}
use Rattle.zone_denial.proofs.nsec3_sets.next_name.Goals as goal
use Rattle.zone_denial.proofs.nsec3_sets.next_name.Goals.{then-i-held, else-i-held}

pub returns : goal.returns
returns c =
    let hs = c.args.held.now in
    let i = c.args.i in
    let r = c.index-held-next.result in
    let own : get_or (map hashed hs) i (hashed r) ≡ hashed (get_or hs i r) = get_or-map hashed hs i r in
    let a = Ascends-from_sorted hashed_cmp (map hashed hs) c.requires.ascending in
    let there : hashed r ≡ get_or (map hashed hs) c.if-i-held.next (hashed r) = ap hashed c.index-held-next.is ∙ sym (get_or-map hashed hs c.if-i-held.next r) in
    let long : length (map hashed hs) ≡ length hs = length-map hs hashed in
    let next : get_or (map hashed hs) c.if-i-held.next (hashed r) ≡ next_around hashed_cmp (map hashed hs) (get_or (map hashed hs) i (hashed r)) = elim c.if-i-held.branch [
      | then-i-held w ↦ ap (λ (k : ℕ). get_or (map hashed hs) k (hashed r)) (w.next-is ∙ add-one i) ∙ sym (next_at hashed_order (map hashed hs) i (hashed r) a (omega (arith, w.if-i-held.true, long)))
      | else-i-held w ↦ ap (λ (k : ℕ). get_or (map hashed hs) k (hashed r)) w.next-is ∙ sym (first_at hashed_order (map hashed hs) i (hashed r) a (omega (arith, c.requires.place, long)) (omega (arith, w.if-i-held.false, long)))
    ] in
    there ∙ next ∙ ap (next_around hashed_cmp (map hashed hs)) own
