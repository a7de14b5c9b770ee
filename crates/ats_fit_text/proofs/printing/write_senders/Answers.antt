use Rattle.std.proofs.Common.{None, arith}
use Rattle.ats_network.specs.Network.{senders_of}
use Rattle.ats_network.specs.SenderView.{sender_of}
use Rattle.ats_fit.specs.declared.measured.Measured.{Measured}
use Rattle.ats_fit_text.specs.Text.{sender_line}
use Rattle.ats_fit_text.proofs.Lines.{next_line, all_lines}
use Rattle.ats_fit_text.proofs.printing.write_senders.Goals as goal

none : Measured
none = record { frames = 0; sizes = None; burst_bits = None }

pub loop-sender-preserved : goal.loop-sender-preserved
unfolding none
loop-sender-preserved c =
    next_line sender_line (senders_of c.args.network.now) c.args.measured.now c.loop-sender.sender
    (sender_of c.sender.result) none c.args.out.now.items c.loop-sender.out.items c.write_sender.new.out.items
    c.requires (omega (arith, c.senders-sender-end.ensures.value))
    c.sender.ensures.value c.loop-sender.invariant c.in_ok-write_sender.ensures

pub returns : goal.returns
returns c =
    all_lines sender_line (senders_of c.args.network.now) c.args.measured.now c.loop-sender.sender
    c.args.out.now.items c.loop-sender.out.items (omega (arith, c.senders-sender-end.ensures.value))
    c.loop-sender.invariant
