use Rattle.std.proofs.Common.{◌≡◌, reverse, vec_len}
use Rattle.goal_state.specs.Denotation.{answers_of}
use Rattle.goal_state.specs.Steps.{kept, template_kept, answers_kept}
use Rattle.goal_state.proofs.path.Path.cut.Given as goal

abbrev pub invariant-loop-last : goal.invariant-loop-last
invariant-loop-last l = record {
  choices : kept l.depth (reverse l.self.choices.items) ≡ kept l.depth (reverse l.initial.self.choices.items);
  template : template_kept l.depth (reverse l.self.choices.items) l.self.template ≡ template_kept l.depth (reverse l.initial.self.choices.items) l.initial.self.template;
  gathered : answers_kept l.depth (reverse l.self.choices.items) (answers_of l.self) ≡ answers_kept l.depth (reverse l.initial.self.choices.items) (answers_of l.initial.self);
  others : l.self ≡ record l.initial.self { choices = l.self.choices; template = l.self.template; gathered = l.self.gathered };
}

abbrev pub decreases-loop-last : goal.decreases-loop-last
decreases-loop-last l = vec_len l.self.choices
