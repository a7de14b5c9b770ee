-- What the words of laws and clauses come to.
use Rattle.std.proofs.Common.{◌≡◌, ℕ, List, [], ◌∷◌, ◌⊎◌, inl, inr, refl, sym, arith}
use Rattle.std.specs.Prelude.{Contains, slice_index_or}
use Rattle.std.proofs.lemmas.List.Elements.{All-contains, Contains-append_right, Contains-get_or}
use Rattle.ats_io.specs.Outside.{Rose}
use Rattle.ats_command_input.specs.Command.{Command, Shape, Show, Bound, Explain, Check, Replay, Unknown, file_words}
use Rattle.ats_command_input.specs.Command.{Capture, Conform, Admit, Generate, Settings, Buffers, Peaks}
use Rattle.ats_command_input.specs.Command.{LrqBound, LrqCheck, LrqShape, Record, Witness, Releases, Fit}
use Rattle.ats_command_due.specs.Due.{Reaches}
use Rattle.ats_answer_law.specs.Due.{Told}
use Rattle.ats_answer_law.specs.Meant.{NothingLessIsMeant}

-- the first of some names
first : (net : List ℕ) (rest : List (List ℕ)) (name : List ℕ) → name ≡ net → Contains (net ∷ rest) name
first net rest name is = (0, omega (arith), sym is)

-- one of the further ones
further : (net : List ℕ) (rest : List (List ℕ)) (name : List ℕ) → Contains rest name → Contains (net ∷ rest) name
further net rest name among = Contains-append_right (net ∷ []) rest name among

-- one of two, of which the second is come to where something holds
either : {Holds : Type 0} (net file name : List ℕ) → (name ≡ net) ⊎ ((name ≡ file) × Holds)
    → Contains (net ∷ file ∷ []) name
either net file name (inl is) = first net (file ∷ []) name is
either net file name (inr later) = further net (file ∷ []) name (first file [] name later.0)

-- one of three
any_of : {Second Third : Type 0} (net certificate schedule name : List ℕ)
    → (name ≡ net) ⊎ (((name ≡ certificate) × Second) ⊎ ((name ≡ schedule) × Third))
    → Contains (net ∷ certificate ∷ schedule ∷ []) name
any_of net certificate schedule name (inl is) = first net (certificate ∷ schedule ∷ []) name is
any_of net certificate schedule name (inr later) =
    further net (certificate ∷ schedule ∷ []) name (either certificate schedule name (elim later [
      | inl second ↦ inl second.0
      | inr third ↦ inr third
    ]))

-- a file that a command comes to is named by its words
reached : (told : Told) (command : Command) (name : List ℕ) → Reaches told command name
    → Contains (file_words command) name
reached told (Shape file) name is = first file [] name is
reached told (Show net) name is = first net [] name is
reached told (Bound net) name is = first net [] name is
reached told (Explain net) name is = first net [] name is
reached told (Settings net) name is = first net [] name is
reached told (Check net certificate) name is = either net certificate name is
reached told (Buffers net certificate) name is = either net certificate name is
reached told (Conform net schedule) name is = either net schedule name is
reached told (Admit net requests) name is = either net requests name is
reached told (Replay net schedule order) name is = either net schedule name is
reached told (Capture net station file order) name is = either net file name is
reached told (Generate net seed count) name is = first net [] name is
reached told (Peaks net certificate schedule order) name is = any_of net certificate schedule name is
reached told (LrqShape file) name is = first file [] name is
reached told (LrqBound net) name is = first net [] name is
reached told (LrqCheck net certificate) name is = either net certificate name is
reached told (Record net schedule order port) name is = either net schedule name is
reached told (Witness net stream) name is = first net [] name is
reached told (Releases net station file) name is = either net file name is
reached told (Fit net schedule) name is = either net schedule name is
reached told Unknown name is = absurd is

pub nothing_less_is_meant : NothingLessIsMeant
nothing_less_is_meant = record {
  delays = record {
    of_talkers = λ network rows releases run within journey among stream is keeps listener below bridges.
        let both = within journey among stream is keeps listener below bridges in (both.served, both.in_time);
    of_captured = λ network rows releases run within journey among stream is keeps.
        let both = within journey among stream is keeps in (both.served, both.in_time);
    of_all = λ network rows run within journey among stream is.
        let both = within journey among stream is in (both.served, both.in_time);
    by_least = λ network run within rows holds journey among stream is.
        let both = within (rows, holds) journey among stream is in (both.served, both.in_time);
    worst = λ network run within sender listener bound below is. within sender listener bound below is;
  };
  bridges = record {
    room = λ network port class bits room run legal keep time. room run legal
        (λ i below ranked.
        (let kept = keep i below ranked in record { talker = kept.0; here = kept.1; before = kept.2 })) time;
    groups = λ one other settings alike port offers known. alike.groups port offers known;
    sizes = λ one other settings alike port offer named long long_there.
        alike.sizes port offer named long long_there;
    regulated = λ shape conforms stream below. conforms stream below;
  };
  files = record {
    goes_on = λ told faults old new. (
      λ goes. (goes.holds, goes.counts),
      λ goes. record { holds = goes.0; counts = goes.1 },
    );
    risen = λ told command old new rose. rose;
    reached = reached;
    calm = λ command old new. (
      λ calm name among. All-contains (λ (name : List ℕ). ¬ Rose (old name) (new name)) (file_words command) name calm
          among,
      λ none k d below. none (slice_index_or (file_words command) k d)
          (Contains-get_or (file_words command) k d below),
    );
    texts = λ words. refl;
    words_name = λ words. refl;
  };
}
