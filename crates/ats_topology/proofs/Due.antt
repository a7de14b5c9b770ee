use Rattle.std.proofs.Common.{◌≡◌, Option, None, Result, Ok, Err, IfErr, sym, ap, subst}
use Rattle.std.specs.Result.{IsErrAnd}
use Rattle.std.specs.Option.{option_or}
use Rattle.ats_num.specs.Failure.{IsDue}
use Rattle.ats_num.specs.declared.failure.Failure.{Failure}
use Rattle.ats_num.specs.declared.failure.Failure.TheVariants.{Fault, NoMemory}
use Rattle.ats_topology.specs.declared.fault.TopologyFault.{TopologyFault}

-- it is the first, before all others
pub due_first : (fault : Failure TopologyFault) (o p : Option TopologyFault) → IsDue fault o
    → IsDue fault (option_or o p)
due_first NoMemory o p h = tt
due_first (Fault f) o p h = ap (λ (q : Option TopologyFault). option_or q p) h

-- where there is none of an earlier kind, it is the first too
pub due_later : (fault : Failure TopologyFault) (o p : Option TopologyFault) → o ≡ None → IsDue fault p
    → IsDue fault (option_or o p)
due_later fault o p none h = subst (λ (q : Option TopologyFault). IsDue fault (option_or q p)) (sym none) h

-- the error that a call passed on is due
pub passed_on : {X : Type 0} (r : Result X (Failure TopologyFault)) (e : Failure TopologyFault)
    (due : Option TopologyFault) → IsErrAnd r (λ x. x ≡ e) → IsDue e due → IfErr r (λ fault. IsDue fault due)
passed_on (Ok x) e due is h = tt
passed_on (Err f) e due is h = subst (λ (x : Failure TopologyFault). IsDue x due) (sym is) h
