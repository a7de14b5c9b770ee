use Rattle.std.proofs.Common.{◌≡◌, ◌++◌}
use Rattle.std.specs.List.{All}
use Rattle.std.specs.Vec.Iter.{into_iter_items}
use Rattle.ats_requests.specs.Requests.{MayAsk, after_all}
use Rattle.ats_admission_text.specs.Text.{answers_text}
use Rattle.ats_admission_text.proofs.printing.ask_all.Given as goal

-- with what is left to be asked, the text and the network at the end are those of all requests
abbrev pub invariant-loop-request : goal.invariant-loop-request
invariant-loop-request l = record {
  may : All (MayAsk l.session) (into_iter_items l.request-iterator);
  text : l.out.items ++ answers_text l.session (into_iter_items l.request-iterator)
      ≡ l.initial.out.items ++ answers_text l.initial.session l.fn.requests.items;
  end : after_all l.session (into_iter_items l.request-iterator)
      ≡ after_all l.initial.session l.fn.requests.items;
}
