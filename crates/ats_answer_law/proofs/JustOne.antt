-- To which commands just one answer is due.
use Rattle.ats_answer_law.specs.JustOne.{JustOneIsLeft}

pub just_one_is_left : JustOneIsLeft
just_one_is_left = record {
  always = record {
    shape = λ told file. tt;
    show = λ told net. tt;
    bound = λ told net. tt;
    explain = λ told net. tt;
    settings = λ told net. tt;
    check = λ told net certificate. tt;
    buffers = λ told net certificate. tt;
    conform = λ told net schedule. tt;
    admit = λ told net requests. tt;
    lrq_shape = λ told file. tt;
    lrq_bound = λ told net. tt;
    lrq_check = λ told net certificate. tt;
    releases = λ told net station file. tt;
    fit = λ told net schedule. tt;
    unknown = λ told. tt;
  };
  without_runs = record {
    replay = λ told net schedule order is. is;
    capture = λ told net station file order is. is;
    generate = λ told net seed count is. is;
    peaks = λ told net certificate schedule order is. is;
    recorded = λ told net schedule port order is. is;
    witness = λ told net name is. is;
  };
  only = λ told words answer is. (is.due, is.only);
}
