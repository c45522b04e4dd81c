-- Texts of replies behind a text
use Rattle.std.proofs.Common.{◌≡◌, ℕ, List, ◌++◌, cond, OnOk, Ok, Err, Result, is_ok, subst, sym, ap, ◌∙◌}
use Rattle.zonectl_session.specs.Replies.{Reply, reply_text}
use Rattle.zonectl_session.specs.Steps.{Adds}

-- a reply comes after a text once its own text was pushed, if that was done
pub pushed : (IsReply : Reply → Type 0) (reply : Reply) (before after : List ℕ) {E : Type 0} (done : Result (Unit {0}) E)
    → after ≡ cond (is_ok done) (before ++ reply_text reply) before → IsReply reply → OnOk done (Adds IsReply before after)
pushed IsReply reply before after (Ok x) is_text is_reply = (reply, is_reply, is_text)
pushed IsReply reply before after (Err e) is_text is_reply = tt

-- a text that is pushed comes after another, if that was done
pub text_pushed : (text before after : List ℕ) {E : Type 0} (done : Result (Unit {0}) E)
    → after ≡ cond (is_ok done) (before ++ text) before → OnOk done (after ≡ before ++ text)
text_pushed text before after (Ok x) is_text = is_text
text_pushed text before after (Err e) is_text = tt

-- a reply of what comes of an arm
pub arm_pushed : (IsReply : Reply → Type 0) (reply : Reply) (before text after : List ℕ) {E : Type 0} (done result : Result (Unit {0}) E)
    → result ≡ done → after ≡ text → text ≡ cond (is_ok done) (before ++ reply_text reply) before → IsReply reply → OnOk result (Adds IsReply before after)
arm_pushed IsReply reply before text after done result result_is after_is is_text is_reply =
    subst (λ r. OnOk r (Adds IsReply before after)) (sym result_is) (pushed IsReply reply before after done (after_is ∙ is_text) is_reply)

-- the same of a text that was written
pub written : (IsReply : Reply → Type 0) (reply : Reply) (before text after : List ℕ) {E : Type 0} (done : Result (Unit {0}) E)
    → OnOk done (after ≡ before ++ text) → text ≡ reply_text reply → IsReply reply → OnOk done (Adds IsReply before after)
written IsReply reply before text after (Ok x) is_text same_text is_reply = (reply, is_reply, is_text ∙ ap (λ t. before ++ t) same_text)
written IsReply reply before text after (Err e) is_text same_text is_reply = tt
