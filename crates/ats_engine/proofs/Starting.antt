use Rattle.std.proofs.Common.{◌≡◌, ℕ, zero, suc, ◌+◌, ◌<◌, ◌≤◌, List, [], ◌∷◌, ◌++◌, length, get_or, IsPermutation}
use Rattle.std.proofs.Common.{refl, sym, ap, ◌∙◌, subst, inl, inr, arith, append_assoc, length-append, replicate}
use Rattle.std.specs.Prelude.{cond, count_by, take}
use Rattle.std.proofs.Math.Seq.{take-length}
use Rattle.std.proofs.lemmas.Bool.{cases_lt}
use Rattle.std.proofs.lemmas.List.{get_or_append_left, get_or_push, replicate_more}
use Rattle.ats_facts.proofs.Lists.{count_by-cons}
use Rattle.ats_topology.specs.Port.{port_at}
use Rattle.ats_network.specs.Network.{DeclaredNetwork, IsNetwork}
use Rattle.ats_network.specs.Senders.{sender_at}
use Rattle.ats_events.specs.Contents.{Contents}
use Rattle.ats_trace.specs.Releases.{AreReleases, HaveFewPorts}
use Rattle.ats_trace.specs.declared.journey.Release.{Release}
use Rattle.ats_run_records.specs.Progress.{Ledger, Progress, leg_opened, trunks_opened}
use Rattle.ats_run_records.specs.Progress as progress
use Rattle.ats_run_records.proofs.AllCounts.{length-firsts}
use Rattle.ats_transmit.specs.State.{PortState}
use Rattle.ats_transmit.specs.State as states
use Rattle.ats_engine_steps.specs.Course.{Course}
use Rattle.ats_engine_steps.specs.Invariant.{Holds}
use Rattle.ats_engine_steps.specs.Seen.{course_of}
use Rattle.ats_engine_steps.specs.declared.event.Event.{Event}
use Rattle.ats_engine_steps.specs.declared.stage.Stage.{Stage}
use Rattle.ats_engine_steps.specs.declared.stage.Stage.TheVariants.{Apart}
use Rattle.ats_engine_steps.specs.Ports.{passes, room_of}
use Rattle.ats_engine_proofs.specs.Opened.{IsFresh, IsOpened, released_from}
use Rattle.ats_engine.specs.Opened.{IsFirst}
use Rattle.ats_engine.specs.Opening.{IsOpening, MayBegin, given_to}
use Rattle.ats_engine.specs.Ready.{releases_in}
use Rattle.ats_engine.specs.Rooms.{AreCounts, IsOpenedPort, AreOpened, AreOpenedTo, count_at, count_in, goes_through}
use Rattle.ats_engine.specs.Rooms.{rooms_at}
use Rattle.ats_engine.specs.Setting.{Setting}
use Rattle.ats_engine_proofs.proofs.Entries.{holds-permuted}
use Rattle.ats_engine_proofs.proofs.Opened.{opened-holds}
use Rattle.ats_engine_proofs.proofs.Rows.{rows-all}
use Rattle.ats_engine.proofs.Released.{released, released-opened, trunks-first}
use Rattle.ats_engine.specs.Starts.{AreReleased}
use Rattle.ats_engine.specs.declared.opening.Opening.{Opening}
use Rattle.ats_engine.specs.declared.runner.Runner.{Runner}

-- a port's room is counted over trunks that were just opened as over their releases
trunks-counted : (network : DeclaredNetwork) (frame : ℕ) (releases : List Release) (port class : ℕ)
    → count_by (passes network port class) (trunks_opened network frame releases)
    ≡ count_at network releases port class
trunks-counted network frame [] port class = refl
trunks-counted network frame (r ∷ releases) port class =
    let one : ℕ = cond (goes_through port class (sender_at network r.sender)) 1 0 in
    count_by-cons (passes network port class) (leg_opened network frame r 0)
    (trunks_opened network (frame + 1) releases)
    ∙ ap (λ (n : ℕ). one + n) (trunks-counted network (frame + 1) releases port class)
    ∙ sym (count_by-cons (λ (s : Release). goes_through port class (sender_at network s.sender)) r releases)

room-counted : {T : Type 0} (network : DeclaredNetwork) (releases : List Release) (course : Course T) (port class : ℕ)
    → course.records ≡ (progress.opened network releases).legs
    → course.firsts ≡ (progress.opened network releases).firsts
    → room_of network course port class ≡ count_at network releases port class
room-counted network releases course port class records firsts =
    let few : length course.firsts ≡ length releases =
    ap (λ (ns : List ℕ). length ns) firsts ∙ length-firsts network (length releases) releases in
    ap (λ (n : ℕ). count_by (passes network port class) (take n course.records)) few
    ∙ ap (λ (ps : List Progress). count_by (passes network port class) (take (length releases) ps)) records
    ∙ ap (count_by (passes network port class)) (trunks-first network releases)
    ∙ trunks-counted network 0 releases port class

-- the count of each class among the counts of a port
each-room : (counts : List ℕ) (port class : ℕ) → class ≤ 7
    → get_or (rooms_at counts port) class 0 ≡ count_in counts port class
each-room counts port zero low = refl
each-room counts port (suc zero) low = refl
each-room counts port (suc (suc zero)) low = refl
each-room counts port (suc (suc (suc zero))) low = refl
each-room counts port (suc (suc (suc (suc zero)))) low = refl
each-room counts port (suc (suc (suc (suc (suc zero))))) low = refl
each-room counts port (suc (suc (suc (suc (suc (suc zero)))))) low = refl
each-room counts port (suc (suc (suc (suc (suc (suc (suc zero))))))) low = refl
each-room counts port (suc (suc (suc (suc (suc (suc (suc (suc class)))))))) low = absurd (omega arith)

-- one port more was opened
pub opened-more : {T : Type 0} (network : DeclaredNetwork) (releases : List Release) (tie : T) (n : ℕ)
    (counts : List ℕ) (old new : List (PortState T)) (standing : PortState T) → n < length network.topology.ports
    → AreCounts network releases counts → AreOpenedTo network releases tie n old
    → standing ≡ states.opened (port_at network.topology.ports n).ps_per_bit (rooms_at counts n) tie
    → new ≡ old ++ standing ∷ [] → AreOpenedTo network releases tie (n + 1) new
opened-more {T} network releases tie n counts old new standing within are opened is more =
    let Of : ℕ → PortState T → Type 0 = λ (port : ℕ) (s : PortState T). IsOpenedPort network releases tie port s in
    let last : IsOpenedPort network releases tie n standing = record {
      rooms = rooms_at counts n;
      fresh = is;
      each = λ class low. each-room counts n class low ∙ are.each n class within low;
    } in
    record {
      all = omega (
        arith,
        ap (λ (l : List (PortState T)). length l) more,
        length-append old (standing ∷ []),
        opened.all,
      );
      each = λ port below e. subst (λ (l : List (PortState T)). Of port (get_or l port e)) (sym more) (
          elim (cases_lt port n) as (λ _. Of port (get_or (old ++ standing ∷ []) port e)) [
            | inl less ↦ subst (Of port)
                (sym (get_or_append_left old (standing ∷ []) e port (omega (arith, less, opened.all))))
                (opened.each port less e)
            | inr least ↦ (let here : n ≡ port = omega arith in
                subst (λ (q : ℕ). Of q (get_or (old ++ standing ∷ []) q e)) here
                (subst (Of n) (sym (get_or_push old standing e n opened.all)) last))
          ]
          );
    }

-- the ports that were opened are fresh in a run that begins with them
pub ports-fresh : {T : Type 0} (network : DeclaredNetwork) (releases : List Release) (tie : T) (course : Course T)
    → AreOpened network releases tie course.ports → course.tie ≡ tie
    → course.records ≡ (progress.opened network releases).legs
    → course.firsts ≡ (progress.opened network releases).firsts
    → (port : ℕ) → port < length network.topology.ports → IsFresh network course port
ports-fresh {T} network releases tie course opened tied records firsts port within =
    let this = opened.each port within (states.opened 0 [] course.tie) in
    record {
      rooms = this.rooms;
      fresh = this.fresh
          ∙ ap (states.opened (port_at network.topology.ports port).ps_per_bit this.rooms) (sym tied);
      each = λ class low. this.each class low
          ∙ sym (room-counted network releases course port class records firsts);
    }

-- a run that is to begin is ready for its first event
pub ready-first : {T O P S : Type 0} (key : T → ℕ → ℕ → ℕ) (wait : P → ℕ → ℕ → ℕ) (releases : List Release) (order : O)
    (runner : Runner T P S) (agenda : Contents O Event) → IsNetwork runner.network.now
    → AreReleases runner.network.now releases → HaveFewPorts runner.network.now releases
    → runner.schedulers ≡ runner.network.now → IsOpened runner.network.now releases (course_of runner.state)
    → AreReleased runner.network.now releases order agenda → IsFirst key wait runner agenda
ready-first key wait releases order runner agenda rules are few schedulers start arrivals =
    let first = opened-holds key (wait runner.pace) runner.network.now releases (course_of runner.state)
    (released_from 0 releases) rules are few start refl in
    let entries : IsPermutation (released_from 0 releases) agenda.entries =
    subst (λ (l : List Release). IsPermutation (released_from 0 l) agenda.entries) (take-length releases)
    arrivals.entries in
    let same : releases_in runner.state.records ≡ releases = released first.shape in
    record {
      ready = record {
        holds = subst (λ (l : List Release). Holds key (wait runner.pace) runner.network.now l (course_of runner.state)
            agenda.entries) (sym same) (holds-permuted entries first);
        schedulers = schedulers;
        room = arrivals.capacity
            ∙ ap (λ (n : ℕ). n + length runner.network.now.topology.ports) (sym (rows-all first.shape));
      };
      last = arrivals.last;
    }

-- with the records of its releases, in which nothing has happened yet, it may begin
pub may-begin : {T O P : Type 0} (opening : Opening T O P) {setting : Setting T O P} {releases : List Release}
    {records : Ledger} → IsOpening releases opening → given_to opening releases ≡ setting
    → records ≡ progress.opened setting.network releases → MayBegin opening records
may-begin {T} {O} {P} opening {setting} {releases} is given fresh = record {
  releases = releases;
  is = is;
  fresh = fresh ∙ ap (λ (s : Setting T O P). progress.opened s.network releases) (sym given);
}

-- and it is the run of what it was opened with
pub setting-first : {T O P : Type 0} (opening : Opening T O P) {setting : Setting T O P} {releases : List Release}
    {records : Ledger} → given_to opening releases ≡ setting → records ≡ progress.opened setting.network releases
    → given_to opening (releases_in records) ≡ setting
setting-first opening {setting} {releases} given fresh =
    ap (λ (l : Ledger). given_to opening (releases_in l)) fresh
    ∙ ap (given_to opening) (released-opened setting.network releases)
    ∙ given

-- one leg more is apart
pub apart-more : (front old new : List Stage) (n m : ℕ) → n + 1 ≡ m → old ≡ front ++ replicate n Apart
    → new ≡ old ++ Apart ∷ [] → new ≡ front ++ replicate m Apart
apart-more front old new n m next so_far more =
    more ∙ ap (λ (stages : List Stage). stages ++ Apart ∷ []) so_far
    ∙ append_assoc front (replicate n Apart) (Apart ∷ [])
    ∙ ap (λ (stages : List Stage). front ++ stages) (replicate_more n Apart)
    ∙ ap (λ (k : ℕ). front ++ replicate k Apart) next
