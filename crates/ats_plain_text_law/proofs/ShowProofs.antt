use Rattle.std.proofs.Common.{◌≡◌, ◌∙◌, ℕ, ◌+◌, ◌-◌, Bool, true, false, List, [], ◌∷◌, ◌++◌, length, Option, append-nil}
use Rattle.std.proofs.Common.{append_assoc, ap, arith, refl}
use Rattle.std.specs.Prelude.{◌==◌, codes, decimal, if◌then◌else◌}
use Rattle.std.specs.Fmt.{digits}
use Rattle.std.specs.List.{enumerate_from, flat_map, list_all, range_with_len}
use Rattle.std.specs.Option.{option_map}
use Rattle.std.proofs.lemmas.Bool.{and_from, and_parts, eq-eqb, eqb-true, ne_eqb}
use Rattle.ats_topology.specs.Topology.{DeclaredTopology}
use Rattle.ats_topology.specs.declared.port.Port.{Port}
use Rattle.ats_port_names.specs.PortName.{name_of}
use Rattle.ats_streams.specs.Branches.{leg_at, legs_of, routes_of}
use Rattle.ats_streams.specs.declared.branch.Branch.{Branch}
use Rattle.ats_network.specs.Listeners.{station_of}
use Rattle.ats_network.specs.Rates.{committed_at, scheduled_at}
use Rattle.ats_network.specs.Sender.{stream_sender}
use Rattle.ats_network_text.specs.Text.{are_declared, behind_commas, classes_text, committed_text, hop_text}
use Rattle.ats_network_text.specs.Text.{listener_line, path_text, port_line, rates_line, rates_text, sender_line}
use Rattle.ats_network_text.specs.Text.{show_text, stream_line, totals_line}
use Rattle.ats_plain_text_law.specs.Shows.{PortsAreWritten, RatesAreShown, SendersAreShown, ShowIsWritten}

-- What `show` prints.

-- the line of a port up to its latency
abbrev front : DeclaredTopology → ℕ → Port → List ℕ
front t n port =
    codes "port " ++ decimal n ++ codes " " ++ name_of t port ++ codes " " ++ decimal port.ps_per_bit ++ codes " "
    ++ decimal port.latency.0

-- the line of a port, by whether its latency is one number
abbrev port_by : DeclaredTopology → ℕ → Port → Bool → List ℕ
port_by t n port is_one =
    front t n port ++ (if is_one then [] else (codes " " ++ decimal port.earliest.0)) ++ codes "\n"

two : (line a b end : List ℕ) → line ++ (a ++ b) ++ end ≡ line ++ a ++ b ++ end
two line a b end = simp append_assoc

ports : PortsAreWritten
unfolding port_line
ports = record {
  name = λ t port. refl;
  by_number = λ t p. refl;
  one_latency = λ t n port no_less.
      ap (port_by t n port) (eq-eqb (port.latency.0 - port.earliest.0) 0 (omega (arith, no_less)))
      ∙ ap (λ (line : List ℕ). line ++ codes "\n") (append-nil (front t n port));
  two_latencies = λ t n port less.
      ap (port_by t n port) (ne_eqb (port.latency.0 - port.earliest.0) 0 (λ none. omega (arith, less, none)))
      ∙ two (front t n port) (codes " ") (decimal port.earliest.0) (codes "\n");
}

-- what stands behind a text only where a test fails
behind : (b : Bool) (x y : List ℕ) → x ++ (if b then [] else y) ≡ (if b then x else (x ++ y))
behind true x y = append-nil x
behind false x y = refl

-- a name that is made of three texts, in a row with the others
named : (word a b c d e f end : List ℕ) → word ++ (a ++ b ++ c) ++ d ++ e ++ f ++ end
    ≡ word ++ a ++ b ++ c ++ d ++ e ++ f ++ end
named word a b c d e f end = simp append_assoc

eight : (a b c d e f g h : List ℕ) → (a ++ b ++ c ++ d) ++ (e ++ f ++ g ++ h) ≡ a ++ b ++ c ++ d ++ e ++ f ++ g ++ h
eight a b c d e f g h = simp append_assoc

class_zero : classes_text (0 ∷ []) ≡ codes "0"
unfolding classes_text digits
class_zero = refl

senders : SendersAreShown
unfolding classes_text sender_line
senders = record {
  no_class = refl;
  classes = λ class classes.
      behind (list_all (λ c. c == class) classes) (decimal class) (behind_commas classes);
  stream = λ t s. refl;
  listener = λ t s leg. named (codes "listener ") s.name (codes " ")
      (station_of t (leg_at (routes_of s.ports s.branches) leg)) (codes " ")
      (classes_text (leg_at (legs_of s.classes s.branches) leg))
      (path_text t (leg_at (legs_of s.ports s.branches) leg)) (codes "\n");
  flow = λ t f.
      ap (λ (class : List ℕ). codes "flow " ++ f.name ++ codes " " ++ class ++ path_text t f.path ++ codes "\n")
      class_zero
      ∙ ap (λ (line : List ℕ). line ++ path_text t f.path ++ codes "\n")
      (append_assoc (codes "flow " ++ f.name) (codes " ") (codes "0"));
}

rates : RatesAreShown
unfolding rates_line
rates = record {
  as_declared = λ s c. (
    (λ is. let both = and_parts (c.rate == s.rate) (c.burst_bits == s.burst_bits) is in
        (eqb-true c.rate s.rate both.0, eqb-true c.burst_bits s.burst_bits both.1)),
    (λ same. and_from (c.rate == s.rate) (c.burst_bits == s.burst_bits) (eq-eqb c.rate s.rate same.0)
        (eq-eqb c.burst_bits s.burst_bits same.1)),
  );
  first = λ t s port none. ap (λ (before : Option ℕ). are_declared s (option_map (λ b. scheduled_at t b s) before)
      (committed_at t port s)) none;
  later = λ t s port before is. ap (λ (b : Option ℕ). are_declared s (option_map (λ b. scheduled_at t b s) b)
      (committed_at t port s)) is;
  none_first = λ t s port none same.
      ap (λ (before : Option ℕ). rates_text s (option_map (λ b. scheduled_at t b s) before) (committed_at t port s))
      none
      ∙ ap (λ (b : Bool). if b then [] else committed_text (committed_at t port s)) same;
  told_first = λ t s port none other.
      ap (λ (before : Option ℕ). rates_text s (option_map (λ b. scheduled_at t b s) before) (committed_at t port s))
      none
      ∙ ap (λ (b : Bool). if b then [] else committed_text (committed_at t port s)) other;
  told_later = λ t s port before is.
      ap (λ (b : Option ℕ). rates_text s (option_map (λ b. scheduled_at t b s) b) (committed_at t port s)) is
      ∙ eight (codes " ") (decimal (scheduled_at t before s).rate) (codes ":")
      (decimal (scheduled_at t before s).burst_bits) (codes " ") (decimal (committed_at t port s).rate) (codes ":")
      (decimal (committed_at t port s).burst_bits);
  no_line = λ t s all. ap (λ (b : Bool). if b then []
      else (codes "rates " ++ s.name ++ flat_map (hop_text t s) s.ports ++ codes "\n")) all;
  line = λ t s all. ap (λ (b : Bool). if b then []
      else (codes "rates " ++ s.name ++ flat_map (hop_text t s) s.ports ++ codes "\n")) all;
}

-- lines by the numbers of branches are lines by number
by_number : (f : ℕ → List ℕ) (n : ℕ) (branches : List Branch)
    → flat_map (λ (b : ℕ × Branch). f b.0) (enumerate_from n branches)
    ≡ flat_map f (range_with_len n (length branches))
by_number f n [] = refl
by_number f n (b ∷ branches) = ap (λ (rest : List ℕ). f n ++ rest) (by_number f (n + 1) branches)

pub show_is_written : ShowIsWritten
unfolding show_text totals_line
show_is_written = record {
  ports = ports;
  senders = senders;
  rates = rates;
  stream = λ t s. ap (λ (lines : List ℕ). stream_line t s ++ lines ++ rates_line t (stream_sender s))
      (by_number (listener_line t s) 1 s.branches);
  all = λ network. simp append_assoc;
}
