-- A command carried out by what serves its kind
use Rattle.std.proofs.Common.{◌≡◌, ℕ, List, OnOk, Ok, Err, Result, subst, sym, refl}
use Rattle.zonectl_session.specs.declared.session.Served.{Served}
use Rattle.zonectl_commands.specs.declared.command.Command.{Command}
use Rattle.zonectl_session.specs.Replies.{Reply}
use Rattle.zonectl_session.specs.Steps.{Adds, Carries}

pub carried : (old new : Served) (command known : Command) → command ≡ known → (before after : List ℕ) {E : Type 0} (done : Result (Unit {0}) E)
    → OnOk done (Carries old known before after new) → OnOk done (Carries old command before after new)
carried old new command known is before after done carries = subst (λ (k : Command). OnOk done (Carries old k before after new)) (sym is) carries

-- a reply to what changes nothing
pub unchanged : {S : Type 0} (old : S) (IsReply : Reply → Type 0) (before after : List ℕ) {E : Type 0} (done : Result (Unit {0}) E)
    → OnOk done (Adds IsReply before after) → OnOk done (Adds (λ reply. IsReply reply × (old ≡ old)) before after)
unchanged old IsReply before after (Ok x) adds = (adds.0, (adds.1, refl), adds.2)
unchanged old IsReply before after (Err e) adds = tt
