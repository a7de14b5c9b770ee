use Rattle.std.proofs.Common.{◌≡◌, List, Option, Some, None, ap, sym, subst, inr, ◌∙◌}
use Rattle.ats_network.specs.Network.{DeclaredNetwork, IsNetwork}
use Rattle.ats_certificate.specs.Certificate.{Holds}
use Rattle.ats_certificate.specs.Form.{AreRows}
use Rattle.ats_certificate.specs.declared.row.Row.{Row}
use Rattle.ats_tally.specs.Delays.{NetworkRows}
use Rattle.ats_checker.specs.Refusal.{refusal_of}
use Rattle.ats_checker.specs.declared.refusal.Refusal.{Refusal}
use Rattle.ats_checker.proofs.Refused.{refused_unless_holding}
use Rattle.ats_checker.proofs.Inside.{refusal_inside}
use Rattle.ats_soundness_law.proofs.TrueTime.{certificate_is_sound}
use Rattle.ats_checker.proofs.judgement.check.Goals as goal

-- what is found for the delays and tallies is so of the network and the rows that they are of
found_for : (network other : DeclaredNetwork) (rows others : List Row) (found : Option Refusal) → other ≡ network
    → others ≡ rows
    → found ≡ refusal_of other others → refusal_of network rows ≡ found
found_for network other rows others found n r is =
    sym (is ∙ ap (λ (m : DeclaredNetwork). refusal_of m others) n ∙ ap (refusal_of network) r)

given_none : {X : Type 0} (o : Option X) (x : X) → o ≡ Some x → o ≡ None → ⊥
given_none o x some none = cc

refused : (network : DeclaredNetwork) (rows : List Row) (refusal : Refusal) → IsNetwork network → AreRows rows
    → refusal_of network rows ≡ Some refusal → ¬ Holds network rows
refused network rows refusal is form found =
    λ holds. given_none (refusal_of network rows) refusal found
    ((refused_unless_holding network rows is form.ordered).1 holds)

accepted : (network : DeclaredNetwork) (rows : List Row) → IsNetwork network → AreRows rows
    → refusal_of network rows ≡ None → Holds network rows
accepted network rows is form none = (refused_unless_holding network rows is form.ordered).0 none

pub returns-in-Some-clause-fails : goal.returns-in-Some-clause-fails
returns-in-Some-clause-fails c =
    let rows : c.in_ok-delays.delays.rows ≡ c.args.certificate.now =
    ap (λ (d : NetworkRows). d.rows) c.in_ok-delays.ensures in
    inr (refused c.args.network.now c.args.certificate.now c.in-Some.refusal
    (subst IsNetwork c.in_ok-tallies.ensures c.first_refusal.ensures.rules)
    (subst AreRows rows c.first_refusal.ensures.form)
    (found_for c.args.network.now c.in_ok-tallies.tallies c.args.certificate.now c.in_ok-delays.delays.rows
    c.first_refusal.result
    c.in_ok-tallies.ensures rows c.first_refusal.ensures.refusal ∙ c.in-Some.is))

pub returns-in-Some-clause-inside : goal.returns-in-Some-clause-inside
returns-in-Some-clause-inside c inside =
    let rows : c.in_ok-delays.delays.rows ≡ c.args.certificate.now =
    ap (λ (d : NetworkRows). d.rows) c.in_ok-delays.ensures in
    refusal_inside c.args.network.now c.args.certificate.now
    (subst IsNetwork c.in_ok-tallies.ensures c.first_refusal.ensures.rules) inside c.in-Some.refusal
    (found_for c.args.network.now c.in_ok-tallies.tallies c.args.certificate.now c.in_ok-delays.delays.rows
    c.first_refusal.result
    c.in_ok-tallies.ensures rows c.first_refusal.ensures.refusal ∙ c.in-Some.is)

pub returns-clause-holds : goal.returns-clause-holds
returns-clause-holds c =
    let rows : c.in_ok-delays.delays.rows ≡ c.args.certificate.now =
    ap (λ (d : NetworkRows). d.rows) c.in_ok-delays.ensures in
    accepted c.args.network.now c.args.certificate.now
    (subst IsNetwork c.in_ok-tallies.ensures c.first_refusal.ensures.rules)
    (subst AreRows rows c.first_refusal.ensures.form)
    (found_for c.args.network.now c.in_ok-tallies.tallies c.args.certificate.now c.in_ok-delays.delays.rows
    c.first_refusal.result
    c.in_ok-tallies.ensures rows c.first_refusal.ensures.refusal ∙ c.in-None.is)

pub returns-clause-sound : goal.returns-clause-sound
returns-clause-sound c =
    let rows : c.in_ok-delays.delays.rows ≡ c.args.certificate.now =
    ap (λ (d : NetworkRows). d.rows) c.in_ok-delays.ensures in
    let is : IsNetwork c.args.network.now = subst IsNetwork c.in_ok-tallies.ensures c.first_refusal.ensures.rules in
    certificate_is_sound c.args.network.now c.args.certificate.now is
    (accepted c.args.network.now c.args.certificate.now is (subst AreRows rows c.first_refusal.ensures.form)
    (found_for c.args.network.now c.in_ok-tallies.tallies c.args.certificate.now c.in_ok-delays.delays.rows
    c.first_refusal.result
    c.in_ok-tallies.ensures rows c.first_refusal.ensures.refusal ∙ c.in-None.is))
