use Rattle.std.proofs.Common.{refl}
use Rattle.ats_plain_law.specs.Bounds.{BoundsArePlain, MarginsArePlain, RowsArePlain, SeeingIsPlain, TotalsArePlain}

-- What ports see, which rows cover their place, and what is told of each listener.

seeing : SeeingIsPlain
seeing = record {
  has = λ port s. refl;
  class = λ topology port s. refl;
  rate = λ topology port s. refl;
  burst = λ topology port s. refl;
  least = λ topology port s. refl;
  greatest = λ topology port s. refl;
  all = λ topology port senders. refl;
  sums = λ network port class. refl;
  used = λ network port class. refl;
}

rows : RowsArePlain
rows = record {
  bound = λ port wait least. refl;
  fits = λ row. ((λ is. is), (λ is. is));
  enough = λ port row. ((λ is. is), (λ is. is));
  covers = λ network row. (
    (λ is. (is.sums, is.bound, is.load, is.wait)),
    (λ is. record { sums = is.0; bound = is.1; load = is.2; wait = is.3 }),
  );
  least = λ network row. ((λ is. (is.covers, is.least)), (λ is. record { covers = is.0; least = is.1 }));
  stay = λ port wait. refl;
  told = λ clock need. refl;
  need = λ network port wait. refl;
}

margins : MarginsArePlain
margins = record {
  sum = λ network s route. refl;
  deadline = λ network s route. refl;
  of = λ network one. refl;
  listeners = λ network. refl;
  each = λ network s. refl;
  all = λ network. refl;
  late = λ m. refl;
  no_slacker = λ a b. refl;
  tightest = λ all m. refl;
  first = λ network. refl;
}

totals : TotalsArePlain
totals = record {
  streams = λ network. refl;
  late = λ network. refl;
  over = λ network. refl;
  among = λ network s ports. refl;
  tightest = λ network. refl;
  name = λ network one. refl;
  listener = λ network one. refl;
  margin = λ network one. refl;
}

pub bounds_are_plain : BoundsArePlain
bounds_are_plain = record {
  seeing = seeing;
  rows = rows;
  margins = margins;
  totals = totals;
}
