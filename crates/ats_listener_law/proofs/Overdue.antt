-- Where streams have one listener each, the first that is overdue is told without it.
use Rattle.std.proofs.Common.{◌≡◌, ℕ, List, [], ◌∷◌, length, get_or, Option, None, sym, ap, subst}
use Rattle.std.proofs.Common.{◌∙◌, arith, length-append}
use Rattle.std.specs.Prelude.{Contains}
use Rattle.std.proofs.lemmas.List.Elements.{All-contains, All-nil}
use Rattle.std.proofs.Math.Seq.{get_or-append_seam}
use Rattle.ats_streams.specs.Stream.{DeclaredStream}
use Rattle.ats_network.specs.Listeners.{Listener}
use Rattle.ats_network.specs.Network.{DeclaredNetwork, HasOneListener}
use Rattle.ats_certificate.specs.Certificate.{IsInTime, MeetsDeadline, bound_along, bound_on}
use Rattle.ats_certificate.specs.declared.row.Row.{Row}
use Rattle.ats_certificate.proofs.OneSum.{one_listener_has_one_sum, sum_alone}
use Rattle.ats_tally.proofs.ListenerLemmas.{listeners_alone}
use Rattle.ats_bound.specs.First.{IsFirstBreach, IsFirstOverdue}
use Rattle.ats_listener_law.specs.OneListener.{IsFirstOverdueAlone, OneIsFirstOverdue}

-- the first that breaks a rule is one of the list
first_contained : {A : Type 0} (Rule : A → Type 0) (xs : List A) (x : A) → IsFirstBreach Rule xs x → Contains xs x
first_contained {A} Rule xs x h =
    subst (λ (l : List A). Contains l x) h.cut
    (length h.before, omega (arith, length-append h.before (x ∷ h.after)), get_or-append_seam h.before x h.after x)

-- of one it is that one
first_of_one : {A : Type 0} (Rule : A → Type 0) (y x : A) → IsFirstBreach Rule (y ∷ []) x → x ≡ y
first_of_one {A} Rule y x h = by (first_contained Rule (y ∷ []) x h)
  where
    by : Contains (y ∷ []) x → x ≡ y
    by (k, within, is) =
        let first : k ≡ 0 = omega (arith, within) in
        sym is ∙ ap (λ (n : ℕ). get_or (y ∷ []) n x) first

-- the one listener of a stream
abbrev alone_in : DeclaredStream → Listener
alone_in stream = record { name = None; leg = stream.ports; route = stream.ports }

branch_free : (network : DeclaredNetwork) (rows : List Row) (stream : DeclaredStream) → HasOneListener network
    → IsFirstBreach (IsInTime rows) network.streams stream → stream.branches ≡ []
branch_free network rows stream alone first =
    All-contains (λ (s : DeclaredStream). s.branches ≡ []) network.streams stream alone
    (first_contained (IsInTime rows) network.streams stream first)

to_alone : (network : DeclaredNetwork) (rows : List Row) (name : List ℕ) (listener : Option (List ℕ)) (along : ℕ)
    → HasOneListener network → IsFirstOverdue network rows name listener along
    → IsFirstOverdueAlone network rows name listener along
to_alone network rows name listener along alone h =
    let free : h.stream.branches ≡ [] = branch_free network rows h.stream alone h.first in
    let Meets : Listener → Type 0 = λ (l : Listener). MeetsDeadline h.stream (bound_on rows h.stream l.route) in
    let there : h.there ≡ alone_in h.stream =
    first_of_one Meets (alone_in h.stream) h.there
    (subst (λ (ls : List Listener). IsFirstBreach Meets ls h.there)
    (listeners_alone network.topology h.stream free) h.first_there) in
    record {
      unnamed = sym h.listener_is ∙ ap (λ (l : Listener). l.name) there;
      stream = h.stream;
      name_is = h.name_is;
      first = h.first;
      along_is = sum_alone rows h.stream free
          ∙ ap (λ (l : Listener). bound_on rows h.stream l.route) (sym there) ∙ h.along_is;
    }

from_alone : (network : DeclaredNetwork) (rows : List Row) (name : List ℕ) (listener : Option (List ℕ)) (along : ℕ)
    → HasOneListener network → IsFirstOverdueAlone network rows name listener along
    → IsFirstOverdue network rows name listener along
from_alone network rows name listener along alone h =
    let free : h.stream.branches ≡ [] = branch_free network rows h.stream alone h.first in
    let Meets : Listener → Type 0 = λ (l : Listener). MeetsDeadline h.stream (bound_on rows h.stream l.route) in
    let sum : bound_along rows h.stream ≡ bound_on rows h.stream h.stream.ports = sum_alone rows h.stream free in
    record {
      stream = h.stream;
      name_is = h.name_is;
      first = h.first;
      there = alone_in h.stream;
      listener_is = sym h.unnamed;
      first_there = record {
        before = [];
        after = [];
        cut = sym (listeners_alone network.topology h.stream free);
        kept = All-nil Meets;
        breaks = λ met. h.first.breaks ((one_listener_has_one_sum rows h.stream free).in_time.1
            (subst (MeetsDeadline h.stream) (sym sum) met));
      };
      along_is = sym sum ∙ h.along_is;
    }

pub one_is_first_overdue : OneIsFirstOverdue
one_is_first_overdue network rows name listener along alone =
    (to_alone network rows name listener along alone, from_alone network rows name listener along alone)
