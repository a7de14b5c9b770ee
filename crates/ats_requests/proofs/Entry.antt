-- What stands against an entry is why a stream can't be added.
use Rattle.std.proofs.Common.{◌≡◌, Bool, true, false, cond, Some, None, refl, sym, ap, ◌∙◌}
use Rattle.std.specs.Option.{option_map}
use Rattle.ats_network.specs.Pushes.{is_beyond, is_identity_taken, is_name_taken}
use Rattle.ats_network.specs.declared.fault.PushFault.TheVariants as fault
use Rattle.ats_requests.specs.Entry.{by_fault}
use Rattle.ats_requests.specs.Laws.{EntryIsPush}
use Rattle.ats_requests.specs.declared.denied.Denied.TheVariants.{NameTaken, Limit}

pub entry_is_push : EntryIsPush
entry_is_push network stream none =
    by (is_name_taken network stream.name) (is_beyond network stream)
    ∙ sym (ap (λ (b : Bool). option_map (by_fault NameTaken NameTaken Limit)
    (cond (is_name_taken network stream.name) (Some fault.NameTaken) (cond b (Some fault.IdentityTaken)
    (cond (is_beyond network stream) (Some fault.Limit) None))))
    (ap (is_identity_taken network.streams) none))
  where
    by : (a c : Bool) → cond a (Some NameTaken) (cond c (Some Limit) None)
        ≡ option_map (by_fault NameTaken NameTaken Limit) (cond a (Some fault.NameTaken)
        (cond c (Some fault.Limit) None))
    by true c = refl
    by false true = refl
    by false false = refl
