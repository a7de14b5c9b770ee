use Rattle.std.proofs.Common.{◌++◌, ℕ, List, ap, ◌∙◌}
use Rattle.std.specs.Prelude.{codes, decimal}
use Rattle.ats_network.specs.SenderView.{sender_of}
use Rattle.ats_fit_text.specs.Text.{burst_text, kind_text, sender_line, sizes_text}
use Rattle.ats_fit_text.proofs.Lines.{line_written}
use Rattle.ats_fit_text.proofs.printing.write_sender.Goals as goal

pub returns : goal.returns
unfolding sender_line
returns c =
    let m = c.args.measured.now in
    let s = sender_of c.args.sender.now in
    line_written c.args.out.now.items (kind_text m.burst_bits) s.name (codes " frames ") (decimal m.frames)
    (codes " octets ") (sizes_text m.sizes) (burst_text s.burst_bits m.burst_bits) (codes "\n")
    c.extend_from_slice.new.self.items c.extend_from_slice-2.new.self.items c.write_number.new.out.items
    c.extend_from_slice-3.new.self.items c.write_sizes.new.out.items c.write_burst.new.out.items
    c.extend_from_slice-4.new.self.items
    (c.in_ok-extend_from_slice.ensures.items
    ∙ ap (λ (l : List ℕ). c.args.out.now.items ++ l) c.kind.ensures)
    (c.in_ok-extend_from_slice-2.ensures.items
    ∙ ap (λ (l : List ℕ). c.extend_from_slice.new.self.items ++ l) (c.bytes.ensures.value ∙ c.name.ensures))
    c.in_ok-write_number.ensures c.in_ok-extend_from_slice-3.ensures.items c.in_ok-write_sizes.ensures
    (c.in_ok-write_burst.ensures
    ∙ ap (λ (n : ℕ). c.write_sizes.new.out.items ++ burst_text n m.burst_bits) c.declared_burst.ensures)
    c.in_ok-extend_from_slice-4.ensures.items
