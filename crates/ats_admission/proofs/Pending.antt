-- What is kept while a stream waits for its judgement.
use Rattle.std.proofs.Common.{◌≡◌, ℕ, ◌<◌, List, [], ◌∷◌, map, length, get_or, Some}
use Rattle.std.proofs.Common.{None, sym, ap, subst, ◌∙◌, arith, length-append}
use Rattle.std.specs.Option.{option_map}
use Rattle.std.proofs.lemmas.List.{get_or-map, get_or-set_same, length-map, length-set}
use Rattle.std.proofs.lemmas.Option.{same_Some}
use Rattle.ats_facts.proofs.Lists.{all_left}
use Rattle.ats_num.specs.Places.{place_of}
use Rattle.ats_num.proofs.Numbered.{place_of-lt}
use Rattle.ats_streams.specs.Stream.{DeclaredStream, with_class}
use Rattle.ats_network.specs.Edits.{no_stream, stream_named, with_class_at}
use Rattle.ats_network.specs.Network.{DeclaredNetwork, IsNetwork}
use Rattle.ats_network.specs.Pushes.{with_stream}
use Rattle.ats_network.specs.Sender.{flow_sender, stream_sender}
use Rattle.ats_network.specs.Senders.{IsSender, no_sender}
use Rattle.ats_network.specs.Tables.{stream_names}
use Rattle.ats_network.proofs.SenderLemmas.{each_is_sender}
use Rattle.ats_bound.specs.Reason.{reason_of}
use Rattle.ats_requests.proofs.Keeps.{less_has_no_reason}
use Rattle.ats_admission_shares.specs.PortShares.{stream_at, without_at}
use Rattle.ats_admission_state.specs.Kept.{AreLeastBeside, IsKept, IsKeptBeside, KeptState, WasKept}
use Rattle.ats_admission_state.proofs.Beside.{bounds_stay_beside}
use Rattle.ats_admission_state.proofs.Last.{less_by}
use Rattle.ats_admission.specs.Sessions.{IsPending, IsSession}
use Rattle.ats_admission.proofs.Classed.{over, remove-set, without_last}

-- what is kept of all is kept beside each path
all_beside : (network : DeclaredNetwork) (path : List ℕ) (kept : KeptState) → IsKept network kept
    → IsKeptBeside network path kept
all_beside network path kept is = record {
  keeps = is.keeps;
  bounds = record {
    count = is.bounds.count;
    each = λ port class within least most off. is.bounds.each port class within least most;
  };
}

-- a stream that entered waits
pub entered_waits : (network : DeclaredNetwork) (stream : DeclaredStream) (kept : KeptState) → IsSession network kept
    → IsPending (with_stream network stream) (length network.streams) kept
entered_waits network stream kept is =
    let less = without_last network stream in
    record {
      last = sym (length-append network.streams (stream ∷ []));
      free = ap reason_of less ∙ is.certified.free;
      beside = subst (λ (t : DeclaredNetwork).
          IsKeptBeside t (stream_at (with_stream network stream) (length network.streams)).ports kept) (sym less)
          (all_beside network (stream_at (with_stream network stream) (length network.streams)).ports kept is.kept);
    }

-- so it does as it is read
pub in_waits : (network between : DeclaredNetwork) (stream : DeclaredStream) (n : ℕ) (kept : KeptState)
    → IsSession network kept → n ≡ length network.streams → between ≡ with_stream network stream
    → IsPending between n kept
in_waits network between stream n kept is number entered =
    subst (λ (t : DeclaredNetwork). IsPending t n kept) (sym entered)
    (subst (λ (m : ℕ). IsPending (with_stream network stream) m kept) (sym number)
    (entered_waits network stream kept is))

-- and with another class
classed_waits : (network : DeclaredNetwork) (n class : ℕ) (kept : KeptState) → IsPending network n kept
    → IsPending (with_class_at network n class) n kept
classed_waits network n class kept is =
    let old : DeclaredStream = stream_at network n in
    let within : n < length network.streams = omega (arith, is.last) in
    let less : without_at (with_class_at network n class) n ≡ without_at network n =
    ap (over network) (remove-set network.streams n (with_class old class)) in
    let now : stream_at (with_class_at network n class) n ≡ with_class old class =
    get_or-set_same network.streams n (with_class old class) no_stream within in
    record {
      last = is.last ∙ sym (length-set network.streams n (with_class old class));
      free = ap reason_of less ∙ is.free;
      beside = subst (λ (t : DeclaredNetwork). IsKeptBeside t (stream_at (with_class_at network n class) n).ports kept)
          (sym less)
          (subst (λ (s : DeclaredStream). IsKeptBeside (without_at network n) s.ports kept) (sym now) is.beside);
    }

pub set_waits : (n class : ℕ) (between new : DeclaredNetwork) (kept : KeptState) → IsPending between n kept
    → new ≡ with_class_at between n class → IsPending new n kept
set_waits n class between new kept is set_is =
    subst (λ (t : DeclaredNetwork). IsPending t n kept) (sym set_is) (classed_waits between n class kept is)

-- where the others are the same, a stream of the same path waits
pub still_waits : (n : ℕ) (network : DeclaredNetwork) (old new : KeptState) → IsPending network n old
    → IsKeptBeside (without_at network n) (stream_at network n).ports new → IsPending network n new
still_waits n network old new is beside =
    record { last = is.last; free = is.free; beside = beside }

-- the number of a name is that of a stream
named_within : (network : DeclaredNetwork) (name : List ℕ) (n : ℕ)
    → place_of name (stream_names network.streams) ≡ Some n → n < length network.streams
named_within network name n found =
    let long = length-map network.streams (λ (s : DeclaredStream). s.name) in
    let inside = place_of-lt name (stream_names network.streams) n found in
    omega (arith, long, inside)

-- nothing stands against a session's network without a stream of it
pub free_without : (network : DeclaredNetwork) (name : List ℕ) (n : ℕ) (kept : KeptState) → IsSession network kept
    → place_of name (stream_names network.streams) ≡ Some n → reason_of (without_at network n) ≡ None
free_without network name n kept is found =
    less_has_no_reason network (without_at network n) (stream_at network n)
    (less_by network n (named_within network name n found)) is.certified.rules is.certified.free

-- what is kept of a session, once a stream is taken out of its network
pub was_kept : (network new : DeclaredNetwork) (name : List ℕ) (n : ℕ) (x : DeclaredStream) (kept : KeptState)
    → IsSession network kept → place_of name (stream_names network.streams) ≡ Some n → x ≡ stream_at network n
    → new ≡ without_at network n → WasKept new n x kept
was_kept network new name n x kept is found stream without =
    let within : n < length network.streams = named_within network name n found in
    let beside : AreLeastBeside (without_at network n) (stream_at network n).ports kept.bounds =
    (bounds_stay_beside network (without_at network n) (stream_at network n) kept.bounds
    (less_by network n within)).left (all_beside network (stream_at network n).ports kept is.kept).bounds in
    record {
      keeps = record {
        old = network;
        rules = is.certified.rules;
        within = within;
        stream = sym stream;
        without = without;
        keeps = is.kept.keeps;
      };
      bounds = subst (λ (t : DeclaredNetwork). AreLeastBeside t x.ports kept.bounds) (sym without)
          (subst (λ (s : DeclaredStream). AreLeastBeside (without_at network n) s.ports kept.bounds) (sym stream)
          beside);
    }

-- each stream of a network keeps a sender's rules
pub stream_keeps : (network : DeclaredNetwork) (n : ℕ) → IsNetwork network → n < length network.streams
    → IsSender network.topology (stream_sender (stream_at network n))
stream_keeps network n is within =
    subst (IsSender network.topology) (get_or-map stream_sender network.streams n no_stream no_sender within)
    (all_left (IsSender network.topology) (map stream_sender network.streams) (map flow_sender network.flows)
    (each_is_sender network is) n no_sender (omega (arith, length-map network.streams stream_sender, within)))

-- what is taken out by a name is the stream of its number
pub taken_is : (network : DeclaredNetwork) (name : List ℕ) (n : ℕ) (x : DeclaredStream)
    → place_of name (stream_names network.streams) ≡ Some n → Some x ≡ stream_named network.streams name
    → x ≡ stream_at network n
taken_is network name n x found taken =
    same_Some x (stream_at network n)
    (taken ∙ ap (option_map (λ (k : ℕ). get_or network.streams k no_stream)) found)
