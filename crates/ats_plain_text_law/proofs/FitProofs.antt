use Rattle.std.proofs.Common.{◌≡◌, ◌∙◌, ℕ, List, [], ◌++◌, Option, Some, None, sym, ap, append_assoc}
use Rattle.std.specs.Prelude.{codes, decimal, length, zip}
use Rattle.std.specs.List.{flat_map}
use Rattle.ats_network.specs.Network.{DeclaredNetwork, senders_of}
use Rattle.ats_network.specs.Sender.{Sender}
use Rattle.ats_trace.specs.declared.journey.Release.{Release}
use Rattle.ats_fit.specs.Over.{senders_over}
use Rattle.ats_fit.specs.declared.measured.Measured.{Measured}
use Rattle.ats_fit.specs.declared.measured.Sizes.{Sizes}
use Rattle.ats_fit_text.specs.Text.{burst_text, fit_text, kind_text, sender_line, sizes_text, total_line}
use Rattle.ats_plain_text_law.specs.Fits.{FitIsWritten, SendersAreMeasured}

-- What `fit` prints.

-- the line of a sender, by its least burst and its sizes
abbrev line_by : Sender → ℕ → Option ℕ → Option Sizes → List ℕ
line_by s frames burst sizes =
    kind_text burst ++ s.name ++ codes " frames " ++ decimal frames ++ codes " octets " ++ sizes_text sizes
    ++ burst_text s.burst_bits burst ++ codes "\n"

-- the line of a sender up to its octets
abbrev front : List ℕ → Sender → Measured → List ℕ
front kind s m = kind ++ s.name ++ codes " frames " ++ decimal m.frames

sized : (line a b c d end : List ℕ) → line ++ a ++ (b ++ c ++ d) ++ [] ++ end ≡ line ++ a ++ b ++ c ++ d ++ end
sized line a b c d end = simp append_assoc

bursting : (line a b c d e f g h end : List ℕ) → line ++ a ++ (b ++ c ++ d) ++ (e ++ f ++ g ++ h) ++ end
    ≡ line ++ a ++ b ++ c ++ d ++ e ++ f ++ g ++ h ++ end
bursting line a b c d e f g h end = simp append_assoc

idle : (line a b c d e f end : List ℕ) → line ++ a ++ b ++ (c ++ d ++ e ++ f) ++ end
    ≡ line ++ (a ++ b ++ c) ++ d ++ e ++ f ++ end
idle line a b c d e f end = simp append_assoc

senders : SendersAreMeasured
unfolding sender_line
senders = record {
  flow = λ s m sizes none some. ap (λ (b : Option ℕ). line_by s m.frames b m.sizes) none
      ∙ ap (line_by s m.frames None) some
      ∙ sized (front (codes "flow ") s m) (codes " octets ") (decimal sizes.least) (codes " ") (decimal sizes.greatest)
      (codes "\n");
  idle_flow = λ s m none idle. ap (λ (b : Option ℕ). line_by s m.frames b m.sizes) none
      ∙ ap (line_by s m.frames None) idle ∙ simp append_assoc;
  stream = λ s m burst sizes is some. ap (λ (b : Option ℕ). line_by s m.frames b m.sizes) is
      ∙ ap (line_by s m.frames (Some burst)) some
      ∙ bursting (front (codes "stream ") s m) (codes " octets ") (decimal sizes.least) (codes " ")
      (decimal sizes.greatest) (codes " burst ") (decimal burst) (codes " of ") (decimal s.burst_bits) (codes "\n");
  idle_stream = λ s m burst is none_sent. ap (λ (b : Option ℕ). line_by s m.frames b m.sizes) is
      ∙ ap (line_by s m.frames (Some burst)) none_sent
      ∙ idle (front (codes "stream ") s m) (codes " octets ") (codes "- -") (codes " burst ") (decimal burst)
      (codes " of ") (decimal s.burst_bits) (codes "\n");
}

text_is : (network : DeclaredNetwork) (releases : List Release) (measured : List Measured)
    → fit_text network releases measured
    ≡ flat_map sender_line (zip (senders_of network) measured)
    ++ codes "total frames " ++ decimal (length releases) ++ codes " streams " ++ decimal (length network.streams)
    ++ codes " over " ++ decimal (senders_over network measured) ++ codes "\n"
unfolding fit_text total_line
text_is network releases measured = simp append_assoc

pub fit_is_written : FitIsWritten
fit_is_written = record {
  senders = senders;
  all = λ network releases text. (
    (λ is. (is.measured, is.are, is.printed ∙ text_is network releases is.measured)),
    (λ is. record {
      measured = is.0;
      are = is.1;
      printed = is.2 ∙ sym (text_is network releases is.0);
    }),
  );
}
