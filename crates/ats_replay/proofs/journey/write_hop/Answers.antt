use Rattle.std.proofs.Common.{append_assoc}
use Rattle.ats_replay.specs.Departures.{hop_line}
use Rattle.ats_replay.proofs.journey.write_hop.Goals as goal

pub returns : goal.returns
unfolding hop_line
returns c =
    simp (
      c.in_ok-extend_from_slice.ensures.items,
      c.bytes.ensures,
      c.put-3.ensures.text,
      c.put_port.ensures.text,
      c.put-2.ensures.text,
      c.put_number.ensures.text,
      c.arrival.ensures,
      c.put_verdict.ensures.text,
      c.verdict.ensures,
      c.put_sent.ensures.text,
      c.sent.ensures,
      c.put.ensures.text,
      c.new-line.ensures,
      append_assoc,
    )
