use Rattle.ats_engine_steps.specs.Course.{Course}
use Rattle.ats_engine_steps.specs.declared.state.State.{State}

-- the course that a state stands for
abbrev pub course_of : {T S : Type 0} → State T S → Course T
course_of state = record {
  stages = state.stages;
  records = state.records.legs;
  firsts = state.records.firsts;
  ports = state.ports.items;
  turns = state.turns.items;
  arrives_from = state.arrives_from.items;
  groups = state.groups;
  last = state.last;
  tie = state.tie;
}
