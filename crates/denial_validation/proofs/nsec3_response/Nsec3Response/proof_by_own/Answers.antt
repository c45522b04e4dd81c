use Rattle.std.proofs.Common.{Some, refl, sym, ◌∙◌}
use Rattle.std.specs.Prelude.{if◌then◌else◌}
use Rattle.std.proofs.lemmas.Result.{IfOk-weaker}
use Rattle.denial_validation.specs.declared.proof.Proof.TheVariants.{UnsignedDelegation, NoData}
use Rattle.denial_validation.specs.Nsec3Proofs.{proves_no_data, wildcard_answer}
use Rattle.denial_validation.specs.Nsec3Responses.{hash_of}
use Rattle.denial_validation.proofs.Nsec3Sums.{with_own}
use Rattle.denial_validation.proofs.nsec3_response.Nsec3Response.proof_by_own.Goals as goal

pub returns-then-shows_own_delegation-clause-ok : goal.returns-then-shows_own_delegation-clause-ok
returns-then-shows_own_delegation-clause-ok g c =
    let apex = c.args.self.now.apex in
    let hash = hash_of g.H.Nsec3Hash.digest_of c.args.self.now in
    let rs = c.args.self.now.records in
    let x = c.args.self.now.name in
    let t = c.args.record_type.0 in
    sym
    (with_own apex hash rs x t c.requires.here c.requires.matched c.shows_own_delegation.result (proves_no_data apex hash rs x t) c.shows_own_delegation.ensures refl
    ∙ (λ i. if c.if-shows_own_delegation.true i then Some UnsignedDelegation else (if proves_no_data apex hash rs x t then Some NoData else wildcard_answer apex hash rs x)))

pub returns-then-proves_no_data-clause-ok : goal.returns-then-proves_no_data-clause-ok
returns-then-proves_no_data-clause-ok g c =
    let apex = c.args.self.now.apex in
    let hash = hash_of g.H.Nsec3Hash.digest_of c.args.self.now in
    let rs = c.args.self.now.records in
    let x = c.args.self.now.name in
    let t = c.args.record_type.0 in
    sym
    (with_own apex hash rs x t c.requires.here c.requires.matched c.shows_own_delegation.result c.proves_no_data.result c.shows_own_delegation.ensures c.proves_no_data.ensures
    ∙ (λ i. if c.if-shows_own_delegation.false i then Some UnsignedDelegation else (if c.if-proves_no_data.true i then Some NoData else wildcard_answer apex hash rs x)))

pub returns-clause-ok : goal.returns-clause-ok
returns-clause-ok g c =
    let apex = c.args.self.now.apex in
    let hash = hash_of g.H.Nsec3Hash.digest_of c.args.self.now in
    let rs = c.args.self.now.records in
    let x = c.args.self.now.name in
    let t = c.args.record_type.0 in
    let sum =
    with_own apex hash rs x t c.requires.here c.requires.matched c.shows_own_delegation.result c.proves_no_data.result c.shows_own_delegation.ensures c.proves_no_data.ensures
    ∙ (λ i. if c.if-shows_own_delegation.false i then Some UnsignedDelegation else (if c.if-proves_no_data.false i then Some NoData else wildcard_answer apex hash rs x)) in
    IfOk-weaker c.wildcard_answer.result _ _ (λ p is. is ∙ sym sum) c.wildcard_answer.ensures.ok
