use Rattle.std.proofs.Common.{Bor, ◌≡◌, ◌≤◌, ◌+◌, ◌⊎◌, List, true, false, length, map, ap, ◌∙◌, subst}
use Rattle.std.specs.Prelude.{OnOk, IfErr, option_copied}
use Rattle.std.proofs.lemmas.Result.{IfOk-weaker}
use Rattle.zone_proto.specs.Names.{Name, base_name}
use Rattle.zone_proto.specs.Sets.{RRset}
use Rattle.lookup_types.specs.declared.lookup_error.LookupError.TheVariants.{Memory}
use Rattle.zone_response.specs.Denials.{denial, have_owners_by}
use Rattle.zone_response.specs.HashedDenials.{absent_sets, absent_hashed, present_sets, present_hashed, hashed_by}
use Rattle.zone_response.specs.Queries.{zone_of}
use Rattle.zone_response.proofs.ProofSteps.{hash_in, owners_by_hash, absent_by_hash, absent_names_by_hash, present_by_hash, present_names_by_hash}
use Rattle.zone_response.proofs.denials.denial.Goals as goal

pub returns-in-Some-below_root-clause-ok : goal.returns-in-Some-below_root-clause-ok
returns-in-Some-below_root-clause-ok g c =
    let z = zone_of g.S.Signer.signature_of g.H.Nsec3Hash.digest_of c.args.zone.now in
    let x = c.args.name.now in
    let k = z.nx_proof_kind in
    let q = c.in-Some.query in
    let wildcard = option_copied c.args.wildcard in
    IfOk-weaker c.absent_sets.result (λ sets. map (λ (b : Bor RRset). b.now) sets.items ≡ absent_sets z.origin z.denials (hashed_by (hash_in z q)) q.qname.now (base_name c.in-Some-below_root.wildcard.now))
    (λ sets. map (λ (b : Bor RRset). b.now) sets.items ≡ denial z x wildcard) (λ sets h. h ∙ absent_by_hash z x k q wildcard c.in-Some-below_root.wildcard.now c.in-Some.ensures c.in-Some-below_root.ensures) c.absent_sets.ensures.ok

pub returns-in-Some-below_root-clause-hashed : goal.returns-in-Some-below_root-clause-hashed
returns-in-Some-below_root-clause-hashed g c =
    let z = zone_of g.S.Signer.signature_of g.H.Nsec3Hash.digest_of c.args.zone.now in
    let x = c.args.name.now in
    let k = z.nx_proof_kind in
    let q = c.in-Some.query in
    let wildcard = option_copied c.args.wildcard in
    let names = absent_hashed z.origin z.denials (hashed_by (hash_in z q)) q.qname.now (base_name c.in-Some-below_root.wildcard.now) in
    let same = absent_names_by_hash z x k q wildcard c.in-Some-below_root.wildcard.now c.in-Some.ensures c.in-Some-below_root.ensures in
    subst (λ b. OnOk c.absent_sets.result (b ≡ true)) (owners_by_hash z x k q c.in-Some.ensures names ∙ ap (have_owners_by z k) same) c.absent_sets.ensures.hashed

pub returns-in-Some-below_root-clause-counted : goal.returns-in-Some-below_root-clause-counted
returns-in-Some-below_root-clause-counted g c =
    let z = zone_of g.S.Signer.signature_of g.H.Nsec3Hash.digest_of c.args.zone.now in
    let x = c.args.name.now in
    let k = z.nx_proof_kind in
    let q = c.in-Some.query in
    let wildcard = option_copied c.args.wildcard in
    let same = absent_names_by_hash z x k q wildcard c.in-Some-below_root.wildcard.now c.in-Some.ensures c.in-Some-below_root.ensures in
    subst (λ (names : List Name). c.absent_sets.new.hashes ≤ c.args.hashes.now + length names) same c.absent_sets.ensures.counted

pub returns-in-Some-below_root-clause-err : goal.returns-in-Some-below_root-clause-err
returns-in-Some-below_root-clause-err g c =
    let z = zone_of g.S.Signer.signature_of g.H.Nsec3Hash.digest_of c.args.zone.now in
    let x = c.args.name.now in
    let k = z.nx_proof_kind in
    let q = c.in-Some.query in
    let wildcard = option_copied c.args.wildcard in
    let names = absent_hashed z.origin z.denials (hashed_by (hash_in z q)) q.qname.now (base_name c.in-Some-below_root.wildcard.now) in
    let same = absent_names_by_hash z x k q wildcard c.in-Some-below_root.wildcard.now c.in-Some.ensures c.in-Some-below_root.ensures in
    subst (λ b. IfErr c.absent_sets.result (λ e. (e ≡ Memory) ⊎ (b ≡ false))) (owners_by_hash z x k q c.in-Some.ensures names ∙ ap (have_owners_by z k) same) c.absent_sets.ensures.err

pub returns-in-None-below_root-clause-ok : goal.returns-in-None-below_root-clause-ok
returns-in-None-below_root-clause-ok g c =
    let z = zone_of g.S.Signer.signature_of g.H.Nsec3Hash.digest_of c.args.zone.now in
    let x = c.args.name.now in
    let k = z.nx_proof_kind in
    let q = c.in-Some.query in
    let wildcard = option_copied c.args.wildcard in
    IfOk-weaker c.present_sets.result (λ sets. map (λ (b : Bor RRset). b.now) sets.items ≡ present_sets z.origin z.denials (hashed_by (hash_in z q)) q.qname.now)
    (λ sets. map (λ (b : Bor RRset). b.now) sets.items ≡ denial z x wildcard) (λ sets h. h ∙ present_by_hash z x k q wildcard c.in-Some.ensures c.in-None-below_root.ensures) c.present_sets.ensures.ok

pub returns-in-None-below_root-clause-hashed : goal.returns-in-None-below_root-clause-hashed
returns-in-None-below_root-clause-hashed g c =
    let z = zone_of g.S.Signer.signature_of g.H.Nsec3Hash.digest_of c.args.zone.now in
    let x = c.args.name.now in
    let k = z.nx_proof_kind in
    let q = c.in-Some.query in
    let wildcard = option_copied c.args.wildcard in
    let names = present_hashed z.origin z.denials (hashed_by (hash_in z q)) q.qname.now in
    let same = present_names_by_hash z x k q wildcard c.in-Some.ensures c.in-None-below_root.ensures in
    subst (λ b. OnOk c.present_sets.result (b ≡ true)) (owners_by_hash z x k q c.in-Some.ensures names ∙ ap (have_owners_by z k) same) c.present_sets.ensures.hashed

pub returns-in-None-below_root-clause-counted : goal.returns-in-None-below_root-clause-counted
returns-in-None-below_root-clause-counted g c =
    let z = zone_of g.S.Signer.signature_of g.H.Nsec3Hash.digest_of c.args.zone.now in
    let x = c.args.name.now in
    let k = z.nx_proof_kind in
    let q = c.in-Some.query in
    let wildcard = option_copied c.args.wildcard in
    let same = present_names_by_hash z x k q wildcard c.in-Some.ensures c.in-None-below_root.ensures in
    subst (λ (names : List Name). c.present_sets.new.hashes ≤ c.args.hashes.now + length names) same c.present_sets.ensures.counted

pub returns-in-None-below_root-clause-err : goal.returns-in-None-below_root-clause-err
returns-in-None-below_root-clause-err g c =
    let z = zone_of g.S.Signer.signature_of g.H.Nsec3Hash.digest_of c.args.zone.now in
    let x = c.args.name.now in
    let k = z.nx_proof_kind in
    let q = c.in-Some.query in
    let wildcard = option_copied c.args.wildcard in
    let names = present_hashed z.origin z.denials (hashed_by (hash_in z q)) q.qname.now in
    let same = present_names_by_hash z x k q wildcard c.in-Some.ensures c.in-None-below_root.ensures in
    subst (λ b. IfErr c.present_sets.result (λ e. (e ≡ Memory) ⊎ (b ≡ false))) (owners_by_hash z x k q c.in-Some.ensures names ∙ ap (have_owners_by z k) same) c.present_sets.ensures.err
