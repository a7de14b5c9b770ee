use Rattle.ats_answer_law.specs.SameTexts.{HopsAreTheSame, PartsAreTheSame, SameTextsAreMeant, WholesAreTheSame}

-- What is the same where two texts are, both ways: each part is written out, and there are no others.

parts_are_the_same : PartsAreTheSame
parts_are_the_same = record {
  runs = λ run other behind beyond. (
    λ is. (is.runs, is.rests),
    λ is. record { runs = is.0; rests = is.1 },
  );
  reports = λ network run other sums others sender listener. (
    λ is. (is.summary, is.bound),
    λ is. record { summary = is.0; bound = is.1 },
  );
  lines = λ rows others s listener. (
    λ is. (is.bounds, is.sum),
    λ is. record { bounds = is.0; sum = is.1 },
  );
}

hops_are_the_same : HopsAreTheSame
hops_are_the_same = record {
  parts = λ parts others. (
    λ is. (is.lower, is.sender, is.bursts, is.higher, is.frame, is.latency, is.bound, is.stay),
    λ is. record {
      lower = is.0;
      sender = is.1;
      bursts = is.2;
      higher = is.3;
      frame = is.4;
      latency = is.5;
      bound = is.6;
      stay = is.7;
    },
  );
  hops = λ network other stream twin port. (
    λ is. (is.class, is.parts),
    λ is. record { class = is.0; parts = is.1 },
  );
  legs = λ network other stream twin listener. (
    λ is. (is.margin, is.hops),
    λ is. record { margin = is.0; hops = is.1 },
  );
}

wholes_are_the_same : WholesAreTheSame
wholes_are_the_same = record {
  reports = λ network run other sums others. (λ is. is, λ is. is);
  bounds = λ topology rows others s. (λ is. is, λ is. is);
  explained = λ network other stream twin. (λ is. is, λ is. is);
}

pub same_texts_are_meant : SameTextsAreMeant
same_texts_are_meant = record {
  parts = parts_are_the_same;
  hops = hops_are_the_same;
  wholes = wholes_are_the_same;
}
