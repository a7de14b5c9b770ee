use Rattle.std.proofs.Common.{length, sym, ◌∙◌}
use Rattle.ats_pcap.proofs.Records.{whole_bytes}
use Rattle.ats_pcap.proofs.record.whole_size.Goals as goal

pub captured_of-requires : goal.captured_of-requires
captured_of-requires c =
    (whole_bytes c.args.form (length c.args.bytes.now) c.args.bytes.now
    (sym c.is_whole.ensures ∙ c.if-not-is_whole.false)).0
