use Rattle.std.proofs.Common.{◌≡◌}
use Rattle.ats_transmit.specs.Sending.{last_end}
use Rattle.ats_transmit.proofs.Due.{due_at}
use Rattle.ats_transmit.proofs.Held.{none-held}
use Rattle.ats_transmit.proofs.port.Port.due.Goals as goal

pub returns-in_err-time : goal.returns-in_err-time
returns-in_err-time g c =
    rw (c.from_residual.ensures, ← c.self.view_is) (none-held c.self.inside.waiting c.in_err-time.ensures)

pub returns : goal.returns
returns g c =
    let time = c.in_ok-time.time.0 in
    let waiting = c.self.inside.waiting in
    let sent = c.self.inside.past in
    let free : c.end.result.0 ≡ last_end sent = c.end.ensures in
    rw (← c.self.view_is) (due_at waiting sent time c.max.result c.in_ok-time.ensures (rw free at c.max.ensures))
