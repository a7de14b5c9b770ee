use Rattle.std.proofs.Common.{sym, ap, ◌∙◌}
use Rattle.ats_pcap.specs.Reading.{Reading}
use Rattle.ats_pcap.proofs.Stands.{stopped_stands}
use Rattle.ats_pcap.proofs.reader.Reader.feed.Goals as goal

pub returns-in-Some-clause-stands : goal.returns-in-Some-clause-stands
returns-in-Some-clause-stands c = λ bytes h.
    stopped_stands c.args.self.now.failure c.args.self.now.position c.in-Some.failure bytes c.args.piece.now
    (sym (ap (λ (r : Reading). r.failure) c.self.view_is) ∙ c.in-Some.is) h
