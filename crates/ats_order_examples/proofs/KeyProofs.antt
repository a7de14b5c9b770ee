use Rattle.std.proofs.Common.{◌<◌, refl, arith, lit<}
use Rattle.ats_trace.specs.Run.{IsRunBy}
use Rattle.ats_examples.specs.LegalRuns.{descending_key, frame_key, least_wait}
use Rattle.ats_examples.specs.Networks.{line_of_classes}
use Rattle.ats_examples.proofs.ChangeProofs.{no_transmission}
use Rattle.ats_examples.proofs.LegalProofs.{run_by}
use Rattle.ats_order_examples.specs.Keys.{KeysAreOfAll, LinksAreOfAll, PacesAreOfAll, TiesAreAcross, TiesAreOfAll}
use Rattle.ats_order_examples.specs.Orders.{just_released}

-- Keys and paces of any frames by the words themselves, and of three frames by computation.

ties : TiesAreOfAll
ties key sent = (λ h. h, λ h. h)

links : LinksAreOfAll
links port crossings = (
  λ is. (λ n x h. ((is.within n x h).earliest, (is.within n x h).latest), is.order),
  λ h. record {
    within = λ n x at. record { earliest = (h.0 n x at).0; latest = (h.0 n x at).1 };
    order = h.1;
  },
)

paces : PacesAreOfAll
paces = record {
  each = λ wait port crossings. (λ h. h, λ h. h);
  spread = λ port. refl;
  behind = λ end crossings. refl;
}

-- frame 0 starts before frame 1, so its key would have to be the lesser
not_turned : ¬ IsRunBy descending_key least_wait line_of_classes (just_released 1344000 672000)
not_turned h =
    let first : 4294967295 < 4294967294 =
    h.tie 0 (lit< tt) 0 no_transmission (lit< tt) 1 no_transmission (lit< tt) refl refl (lit< tt) in
    absurd (omega arith)

across : TiesAreAcross
across = record {
  by_frame = run_by frame_key least_wait line_of_classes (just_released 1344000 672000) refl refl refl;
  not_turned = not_turned;
}

pub keys_are_of_all : KeysAreOfAll
keys_are_of_all = record { ties = ties; links = links; paces = paces; across = across }
