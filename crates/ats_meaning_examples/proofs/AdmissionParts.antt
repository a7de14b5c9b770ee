use Rattle.std.proofs.Common.{◌≡◌, ℕ, true, sym, subst}
use Rattle.std.specs.Prelude.{Contains}
use Rattle.std.proofs.lemmas.List.Folds.{list_any_at}
use Rattle.ats_streams.specs.Stream.{DeclaredStream}
use Rattle.ats_network.specs.Sender.{stream_sender}
use Rattle.ats_certificate.specs.PortSums.{uses}
use Rattle.ats_admission_law.specs.Near.{shares}
use Rattle.ats_listener_law.proofs.Once.{uses_its_ports}
use Rattle.ats_meaning_examples.specs.Admissions.{AdmissionsAreMeant, AnsweringIsMeant, AskingIsMeant, NearIsMeant}
use Rattle.ats_meaning_examples.specs.Admissions.{BesideIsMeant, OneLessIsMeant}
use Rattle.ats_meaning_examples.proofs.RowParts.{some_passes}

-- What is asked and concluded of admissions, part by part.

one_less : OneLessIsMeant
one_less = record {
  streams = λ old new x. (
    λ is. (is.front, is.back, is.old_is, is.new_is),
    λ p. record { front = p.0; back = p.1; old_is = p.2; new_is = p.3 },
  );
  network = λ old new x. (
    λ is. (is.topology, is.most_ports, is.flows, is.streams),
    λ p. record { topology = p.0; most_ports = p.1; flows = p.2; streams = p.3 },
  );
  falls = λ old new place. (
    λ it. (it.used, it.load, it.wait, it.bound),
    λ p. record { used = p.0; load = p.1; wait = p.2; bound = p.3 },
  );
  same = λ old new place. (
    λ it. (it.sums, it.used, it.row),
    λ p. record { sums = p.0; used = p.1; row = p.2 },
  );
}

beside : BesideIsMeant
beside = record {
  least = λ network path bounds. (λ are. (are.count, are.each), λ p. record { count = p.0; each = p.1 });
  stay = λ old new x bounds. (λ it. (it.left, it.entered), λ p. record { left = p.0; entered = p.1 });
}

shared : (x s : DeclaredStream) → shares x s ≡ true → (port : ℕ) × Contains s.ports port × Contains x.ports port
shared x s is =
    let some = some_passes (λ (port : ℕ). uses port (stream_sender x)) s.ports is in
    (some.0, some.1, (uses_its_ports some.0 (stream_sender x)).0 some.2)

sharing : (x s : DeclaredStream) → (port : ℕ) × Contains s.ports port × Contains x.ports port → shares x s ≡ true
sharing x s both =
    list_any_at (λ (port : ℕ). uses port (stream_sender x)) s.ports both.1.0 both.0 both.1.1
    (subst (λ (port : ℕ). uses port (stream_sender x) ≡ true) (sym both.1.2)
    ((uses_its_ports both.0 (stream_sender x)).1 both.2))

near : NearIsMeant
near = record {
  sharing = λ x s. (shared x s, sharing x s);
  one = λ network x n. (λ is. (is.within, is.shares), λ p. record { within = p.0; shares = p.1 });
  all = λ network x numbers. (λ are. (are.near, are.complete), λ p. record { near = p.0; complete = p.1 });
}

answering : AnsweringIsMeant
answering = record {
  certified = λ network. (λ is. (is.rules, is.free), λ p. record { rules = p.0; free = p.1 });
  stays = λ old new. (
    λ it. (it.topology, it.most_ports, it.certified),
    λ p. record { topology = p.0; most_ports = p.1; certified = p.2 },
  );
  denied = λ network stream class. (
    λ is. (is.reason, is.refused),
    λ p. record { reason = p.0; refused = p.1 },
  );
  first = λ network stream class sum. (
    λ is. (is.is_class.least, is.is_class.most, is.accepted, is.lower),
    λ p. record { is_class = record { least = p.0; most = p.1 }; accepted = p.2; lower = p.3 },
  );
  reasons = λ network stream reasons. (
    λ are. (are.seven, are.each),
    λ p. record { seven = p.0; each = p.1 },
  );
}

asking : AskingIsMeant
asking = record {
  stream = λ network stream. (
    λ may. (may.rules, may.tree, may.short, may.one_listener, may.unidentified),
    λ p. record { rules = p.0; tree = p.1; short = p.2; one_listener = p.3; unidentified = p.4 },
  );
  with_class = λ network stream. (λ may. may, λ may. may);
  lowest = λ network stream. (λ may. may, λ may. may);
  withdrawn = λ network name. tt;
}

pub admissions_are_meant : AdmissionsAreMeant
admissions_are_meant =
    record { one_less = one_less; beside = beside; near = near; answering = answering; asking = asking }
