use Rattle.ats_admission_users.proofs.StateLemmas.{none_listed}
use Rattle.ats_admission_users.proofs.port_users.PortUsers.new.Goals as goal

pub returns : goal.returns
returns c =
    none_listed c.args.ports c.in_ok-empty_lists.field-0.items c.in_ok-empty_lists.ensures.count
    c.in_ok-empty_lists.ensures.empty
