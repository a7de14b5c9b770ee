use Rattle.std.proofs.Common.{◌≡◌, ◌⊎◌, inl, inr, ℕ, List, Ok, Err, refl, sym, ap, subst, ◌∙◌}
use Rattle.std.specs.Prelude.{◌↔◌, IsOk, Result}
use Rattle.ats_num.specs.Failure.{◌>>=◌}
use Rattle.ats_io.specs.Outside.{Rose}
use Rattle.ats_network.specs.Network.{DeclaredNetwork}
use Rattle.ats_command_input.specs.Answer.{Answer}
use Rattle.ats_command_input.specs.Input.{network_in, rows_in}
use Rattle.ats_command_input.specs.Port.{port_in}
use Rattle.ats_command_input.specs.Station.{station_in}
use Rattle.ats_command_due.specs.Due.{Declares, DeclaresPort, DeclaresRows, DeclaresStation}
use Rattle.ats_plain_answer_law.specs.Commands.{AnswersAreOfBytes, CommandsAreAnswered, FaultsAreOfReads, FilesDeclare}

-- The answer to each command, and at which of its files a fault may come.

answers : AnswersAreOfBytes
answers = record {
  shape = λ bytes file answer. (λ is. is, λ is. is);
  show = λ bytes net answer. (λ is. is, λ is. is);
  bound = λ bytes net answer. (λ is. is, λ is. is);
  explain = λ bytes net answer. (λ is. is, λ is. is);
  settings = λ bytes net answer. (λ is. is, λ is. is);
  check = λ bytes net certificate answer. (λ is. is, λ is. is);
  buffers = λ bytes net certificate answer. (λ is. is, λ is. is);
  conform = λ bytes net schedule answer. (λ is. is, λ is. is);
  admit = λ bytes net requests answer. (λ is. is, λ is. is);
  replay = λ bytes net schedule order answer. (λ is. is, λ is. is);
  capture = λ bytes net station file order answer. (λ is. is, λ is. is);
  generate = λ bytes net seed count answer. (λ is. is, λ is. is);
  peaks = λ bytes net certificate schedule order answer. (λ is. is, λ is. is);
  lrq_shape = λ bytes file answer. (λ is. is, λ is. is);
  lrq_bound = λ bytes net answer. (λ is. is, λ is. is);
  lrq_check = λ bytes net certificate answer. (λ is. is, λ is. is);
  of_port = λ bytes net schedule port order answer. (λ is. is, λ is. is);
  witness = λ bytes net name answer. (λ is. is, λ is. is);
  releases = λ bytes net station file answer. (λ is. is, λ is. is);
  fit = λ bytes net schedule answer. (λ is. is, λ is. is);
  no_command = λ bytes answer. (λ is. is, λ is. is);
}

-- what is read is a value
some_value : {A : Type 0} (read : Result A Answer) → IsOk read → (value : A) × (read ≡ Ok value)
some_value (Ok value) is = (value, refl)
some_value (Err due) is = absurd cc

is_read : {A : Type 0} (read : Result A Answer) (value : A) → read ≡ Ok value → IsOk read
is_read {A} read value is = subst (λ (r : Result A Answer). IsOk r) (sym is) refl

-- and where what goes on from it is read too, both are
two_values : {A B : Type 0} (read : Result A Answer) (go : A → Result B Answer) → IsOk (read >>= go)
    → (value : A) × (other : B) × (read ≡ Ok value) × (go value ≡ Ok other)
two_values (Ok value) go is = let other = some_value (go value) is in (value, other.0, refl, other.1)
two_values (Err due) go is = absurd cc

are_read : {A B : Type 0} (read : Result A Answer) (go : A → Result B Answer) (value : A) (other : B)
    → read ≡ Ok value → go value ≡ Ok other → IsOk (read >>= go)
are_read {A} {B} read go value other is are =
    is_read (read >>= go) other (ap (λ (r : Result A Answer). r >>= go) is ∙ are)

declaring : FilesDeclare
declaring = record {
  network = λ told net. (
    λ is bytes there. some_value (network_in net bytes) (is bytes there),
    λ is bytes there. let one = is bytes there in is_read (network_in net bytes) one.0 one.1,
  );
  station = λ told net station. (
    λ is bytes there. two_values (network_in net bytes)
        (λ (over : DeclaredNetwork). station_in over.topology station) (is bytes there),
    λ is bytes there. let one = is bytes there in
        are_read (network_in net bytes) (λ (over : DeclaredNetwork). station_in over.topology station) one.0 one.1
        one.2 one.3,
  );
  port = λ told net port. (
    λ is bytes there. two_values (network_in net bytes)
        (λ (over : DeclaredNetwork). port_in over.topology port) (is bytes there),
    λ is bytes there. let one = is bytes there in
        are_read (network_in net bytes) (λ (over : DeclaredNetwork). port_in over.topology port) one.0 one.1
        one.2 one.3,
  );
  rows = λ told net certificate. (
    λ is net_bytes bytes there also. two_values (network_in net net_bytes)
        (λ (over : DeclaredNetwork). rows_in over.topology certificate bytes) (is net_bytes there bytes also),
    λ is net_bytes there bytes also. let one = is net_bytes bytes there also in
        are_read (network_in net net_bytes)
        (λ (over : DeclaredNetwork). rows_in over.topology certificate bytes) one.0 one.1 one.2 one.3,
  );
}

-- a fault came at a file with this name, with one of two, or of three
at_one : (old new : List ℕ → ℕ) (file : List ℕ)
    → ((name : List ℕ) × (name ≡ file) × Rose (old name) (new name)) ↔ Rose (old file) (new file)
at_one old new file = (
  λ is. subst (λ (name : List ℕ). Rose (old name) (new name)) is.1 is.2,
  λ is. (file, refl, is),
)

at_two : (old new : List ℕ → ℕ) (first second : List ℕ) (Comes : Type 0)
    → ((name : List ℕ) × ((name ≡ first) ⊎ ((name ≡ second) × Comes)) × Rose (old name) (new name))
    ↔ (Rose (old first) (new first) ⊎ (Comes × Rose (old second) (new second)))
at_two old new first second Comes = (λ is. to is.0 is.1 is.2, from)
  where
    to : (name : List ℕ) → (name ≡ first) ⊎ ((name ≡ second) × Comes) → Rose (old name) (new name)
        → Rose (old first) (new first) ⊎ (Comes × Rose (old second) (new second))
    to name (inl is) rose = inl (subst (λ (n : List ℕ). Rose (old n) (new n)) is rose)
    to name (inr (is, comes)) rose = inr (comes, subst (λ (n : List ℕ). Rose (old n) (new n)) is rose)

    from : Rose (old first) (new first) ⊎ (Comes × Rose (old second) (new second))
        → (name : List ℕ) × ((name ≡ first) ⊎ ((name ≡ second) × Comes)) × Rose (old name) (new name)
    from (inl rose) = (first, inl refl, rose)
    from (inr (comes, rose)) = (second, inr (refl, comes), rose)

at_three : (old new : List ℕ → ℕ) (first second third : List ℕ) (Comes Goes : Type 0)
    → ((name : List ℕ) × ((name ≡ first) ⊎ (((name ≡ second) × Comes) ⊎ ((name ≡ third) × Goes)))
    × Rose (old name) (new name))
    ↔ (Rose (old first) (new first)
    ⊎ ((Comes × Rose (old second) (new second)) ⊎ (Goes × Rose (old third) (new third))))
at_three old new first second third Comes Goes = (λ is. to is.0 is.1 is.2, from)
  where
    to : (name : List ℕ) → (name ≡ first) ⊎ (((name ≡ second) × Comes) ⊎ ((name ≡ third) × Goes))
        → Rose (old name) (new name)
        → Rose (old first) (new first)
        ⊎ ((Comes × Rose (old second) (new second)) ⊎ (Goes × Rose (old third) (new third)))
    to name (inl is) rose = inl (subst (λ (n : List ℕ). Rose (old n) (new n)) is rose)
    to name (inr (inl (is, comes))) rose = inr (inl (comes, subst (λ (n : List ℕ). Rose (old n) (new n)) is rose))
    to name (inr (inr (is, goes))) rose = inr (inr (goes, subst (λ (n : List ℕ). Rose (old n) (new n)) is rose))

    from : Rose (old first) (new first)
        ⊎ ((Comes × Rose (old second) (new second)) ⊎ (Goes × Rose (old third) (new third)))
        → (name : List ℕ) × ((name ≡ first) ⊎ (((name ≡ second) × Comes) ⊎ ((name ≡ third) × Goes)))
        × Rose (old name) (new name)
    from (inl rose) = (first, inl refl, rose)
    from (inr (inl (comes, rose))) = (second, inr (inl (refl, comes)), rose)
    from (inr (inr (goes, rose))) = (third, inr (inr (refl, goes)), rose)

read_faults : FaultsAreOfReads
read_faults = record {
  shape = λ told file old new. at_one old new file;
  show = λ told net old new. at_one old new net;
  bound = λ told net old new. at_one old new net;
  explain = λ told net old new. at_one old new net;
  settings = λ told net old new. at_one old new net;
  check = λ told net certificate old new. at_two old new net certificate (Declares told net);
  buffers = λ told net certificate old new. at_two old new net certificate (Declares told net);
  conform = λ told net schedule old new. at_two old new net schedule (Declares told net);
  admit = λ told net requests old new. at_two old new net requests (Declares told net);
  replay = λ told net schedule order old new. at_two old new net schedule (Declares told net);
  capture = λ told net station file order old new. at_two old new net file (DeclaresStation told net station);
  generate = λ told net seed count old new. at_one old new net;
  peaks = λ told net certificate schedule order old new.
      at_three old new net certificate schedule (Declares told net) (DeclaresRows told net certificate);
  lrq_shape = λ told file old new. at_one old new file;
  lrq_bound = λ told net old new. at_one old new net;
  lrq_check = λ told net certificate old new. at_two old new net certificate (Declares told net);
  of_port = λ told net schedule port order old new. at_two old new net schedule (DeclaresPort told net port);
  witness = λ told net name old new. at_one old new net;
  releases = λ told net station file old new. at_two old new net file (DeclaresStation told net station);
  fit = λ told net schedule old new. at_two old new net schedule (Declares told net);
  no_command = λ told old new. (λ is. is.1, λ is. absurd is);
}

pub commands_are_answered : CommandsAreAnswered
commands_are_answered = record {
  answers = answers;
  declaring = declaring;
  read_faults = read_faults;
}
