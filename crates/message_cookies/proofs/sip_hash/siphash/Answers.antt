use Rattle.std.proofs.Common.{◌≡◌, ◌++◌, ◌/◌, ◌∙◌, ap, arith, length, refl}
use Rattle.message_cookies.specs.SipHash.{compressed, initial, finalized, padded, siphash, state_after, word_at}
use Rattle.message_cookies.proofs.Padding.{state_more, words_of_both}
use Rattle.message_cookies.proofs.sip_hash.siphash.Goals as goal

pub loop-i-init : goal.loop-i-init
unfolding state_after
loop-i-init c = refl

pub loop-i-preserved : goal.loop-i-preserved
loop-i-preserved c = c.compressed-state.ensures
    ∙ (λ j. compressed (c.loop-i.invariant j) (c.word.ensures j)) ∙ state_more _ _ c.loop-i.i

pub returns : goal.returns
unfolding siphash
returns c =
    let all : c.loop-i.i ≡ length (padded (c.args.first.now ++ c.args.second.now)) / 8
    = omega (arith, words_of_both c.args.first.now c.args.second.now, c.loop-i-test.false, c.loop-i.auto.i-end) in
    let begun : c.initial-state.result ≡ initial (word_at c.args.key 0) (word_at c.args.key 1)
    = c.initial-state.ensures ∙ (λ j. initial (c.key_word.ensures j) (c.key_word-2.ensures j)) in
    c.finalized.ensures ∙ ap finalized (c.loop-i.invariant
    ∙ (λ j. state_after (begun j) (padded (c.args.first.now ++ c.args.second.now)) (all j)))
