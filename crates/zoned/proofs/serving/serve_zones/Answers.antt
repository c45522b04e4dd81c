use Rattle.std.proofs.Common.{sym, subst}
use Rattle.std.specs.Prelude.{OnErr, OnOk}
use Rattle.zone_database.specs.Zones.{IsServed}
use Rattle.zone_server.specs.Serving.{Serves}
use Rattle.zone_server.specs.Stopping.{BreaksOff}
use Rattle.zone_server.proofs.StoppedFrames.{nothing_breaks}
use Rattle.zone_server.proofs.WrittenFronts.{on_err}
use Rattle.zoned.specs.Zones.{server_of}
use Rattle.zoned.proofs.serving.serve_zones.Goals as goal

pub returns-clause-served : goal.returns-clause-served
returns-clause-served g c =
    let served = subst (IsServed c.args.zones.now) (sym c.in_ok-zones.ensures) c.in_ok-served.ensures in
    subst
    (λ zs. OnOk c.serve_frames.result
    (Serves (record { zones = zs; policies = c.args.policies.now }) c.args.mode (g.R.Read.remaining c.args.input.now)
    (g.R.Read.remaining c.serve_frames.new.input) (g.W.Write.contents c.args.output.now) (g.W.Write.contents c.serve_frames.new.output)))
    served c.serve_frames.ensures.served

pub returns-clause-broken_off : goal.returns-clause-broken_off
returns-clause-broken_off g c =
    let served = subst (IsServed c.args.zones.now) (sym c.in_ok-zones.ensures) c.in_ok-served.ensures in
    subst
    (λ zs. OnErr c.serve_frames.result
    (BreaksOff (record { zones = zs; policies = c.args.policies.now }) c.args.mode (g.R.Read.remaining c.args.input.now)
    (g.R.Read.remaining c.serve_frames.new.input) (g.W.Write.contents c.args.output.now) (g.W.Write.contents c.serve_frames.new.output)))
    served c.serve_frames.ensures.broken_off

pub returns-in_err-served-clause-broken_off : goal.returns-in_err-served-clause-broken_off
returns-in_err-served-clause-broken_off g c =
    let s = server_of c.args.zones.now c.args.policies.now in
    let r = g.R.Read.remaining c.args.input.now in
    let h = g.W.Write.contents c.args.output.now in
    on_err c.from_residual.result (BreaksOff s c.args.mode r r h h) (nothing_breaks s c.args.mode r h)

pub returns-in_err-zones-clause-broken_off : goal.returns-in_err-zones-clause-broken_off
returns-in_err-zones-clause-broken_off g c =
    let s = server_of c.args.zones.now c.args.policies.now in
    let r = g.R.Read.remaining c.args.input.now in
    let h = g.W.Write.contents c.args.output.now in
    on_err c.from_residual-in_err-zones.result (BreaksOff s c.args.mode r r h h) (nothing_breaks s c.args.mode r h)
