use Rattle.std.proofs.Common.{◌≡◌, ◌<◌, ℕ, List, [], length, get_or, sym, ap, subst, ◌∙◌, arith}
use Rattle.std.specs.List.{remove}
use Rattle.std.proofs.lemmas.List.{get_or-map, length-map}
use Rattle.ats_streams.specs.Stream.{DeclaredStream}
use Rattle.ats_network.specs.Edits.{no_stream}
use Rattle.ats_network.specs.Network.{DeclaredNetwork}
use Rattle.ats_network.proofs.TableLemmas.{map-remove}
use Rattle.ats_admission_law.specs.Less.{IsLessBy}
use Rattle.ats_admission_users.specs.Users.{ListsPaths, UsersState}
use Rattle.ats_admission_shares.specs.PortShares.{stream_at, stream_paths, without_at}
use Rattle.ats_admission_state.specs.Routes.{RouteState, route_of, routes_of}
use Rattle.ats_admission_state.specs.Spares.{AreSpares}
use Rattle.ats_admission_state.proofs.Last.{less_by}
use Rattle.ats_admission_state.proofs.Spared.{spares_remove}
use Rattle.ats_admission_state.proofs.entering.leave.Goals as goal

-- the users once the stream is taken out
users_left : (network old : DeclaredNetwork) (n : ℕ) (x : DeclaredStream) (path : List ℕ) (before after : UsersState)
    → n < length old.streams → stream_at old n ≡ x → network ≡ without_at old n → path ≡ x.ports
    → ListsPaths (length old.topology.ports) (stream_paths old) before
    → ((ports : ℕ) (paths : List (List ℕ)) → ListsPaths ports paths before → get_or paths n [] ≡ path
    → ListsPaths ports (remove paths n) after)
    → ListsPaths (length network.topology.ports) (stream_paths network) after
users_left network old n x path before after within stream without read listed takes =
    let own : get_or (stream_paths old) n [] ≡ path =
    get_or-map (λ (s : DeclaredStream). s.ports) old.streams n no_stream [] within
    ∙ ap (λ (s : DeclaredStream). s.ports) stream ∙ sym read in
    subst (λ (t : DeclaredNetwork). ListsPaths (length t.topology.ports) (stream_paths t) after) (sym without)
    (subst (λ (paths : List (List ℕ)). ListsPaths (length old.topology.ports) paths after)
    (sym (map-remove (λ (s : DeclaredStream). s.ports) old.streams n))
    (takes (length old.topology.ports) (stream_paths old) listed own))

pub leave-requires-clause-users : goal.leave-requires-clause-users
leave-requires-clause-users c =
    users_left c.args.network.now c.requires.keeps.old c.args.number c.args.stream.now c.ports.result.now
    c.args.streams.now c.take.new.self c.requires.keeps.within c.requires.keeps.stream c.requires.keeps.without
    c.ports.ensures.value
    c.requires.keeps.keeps.users c.take.ensures

pub leave-requires-clause-before : goal.leave-requires-clause-before
leave-requires-clause-before c = record {
  old = c.requires.keeps.old;
  rules = c.requires.keeps.rules;
  is_less = subst (IsLessBy c.requires.keeps.old c.args.network.now) c.requires.keeps.stream
      (subst (λ (t : DeclaredNetwork). IsLessBy c.requires.keeps.old t (stream_at c.requires.keeps.old c.args.number))
      (sym c.requires.keeps.without) (less_by c.requires.keeps.old c.args.number c.requires.keeps.within));
  counted = c.requires.keeps.keeps.shares_are;
}

pub returns-clause-keeps : goal.returns-clause-keeps
returns-clause-keeps c = record {
  users = users_left c.args.network.now c.requires.keeps.old c.args.number c.args.stream.now c.ports.result.now
      c.args.streams.now c.take.new.self c.requires.keeps.within c.requires.keeps.stream c.requires.keeps.without
      c.ports.ensures.value
      c.requires.keeps.keeps.users c.take.ensures;
  shares_are = c.leave.ensures;
  routes_are = c.remove.ensures.items
      ∙ ap (λ (routes : List RouteState). remove routes c.args.number) c.requires.keeps.keeps.routes_are
      ∙ sym (map-remove route_of c.requires.keeps.old.streams c.args.number)
      ∙ sym (ap (λ (t : DeclaredNetwork). routes_of t) c.requires.keeps.without);
}

pub returns-clause-spares : goal.returns-clause-spares
returns-clause-spares c = λ bounds spared.
    let routes : List RouteState = c.args.routes.now.items in
    let spares : List ℕ = c.args.spares.now.items in
    let within : c.args.number < length routes = omega (
      arith,
      c.requires.keeps.within,
      ap (λ (all : List RouteState). length all) c.requires.keeps.keeps.routes_are,
      length-map c.requires.keeps.old.streams route_of,
    ) in
    subst (λ (left : List RouteState). AreSpares bounds left c.remove-2.new.self.items) (sym c.remove.ensures.items)
    (subst (AreSpares bounds (remove routes c.args.number)) (sym c.remove-2.ensures.items)
    (spares_remove bounds routes spares c.args.number within spared))
