use Rattle.std.proofs.Common.{◌∙◌, ◌++◌, ◌∷◌, [], subst, ap, refl}
use Rattle.goal_state.specs.Well.{TemplateFits}
use Rattle.goal_state.specs.Denotation.{state_of}
use Rattle.goal_moves.proofs.KeepLaws.{last_gathered, kept_last}
use Rattle.goal_moves.proofs.collecting.keep_answer.Goals as goal

pub copy_out-requires : goal.copy_out-requires
copy_out-requires c = subst (TemplateFits (state_of c.args.path.now)) c.requires.template c.requires.well.template

pub unreachable-requires : goal.unreachable-requires
unreachable-requires c =
    last_gathered c.args.compiled.now c.args.path.now c.args.template c.requires.template c.requires.well c.in_default.ensures.cases.0

pub returns : goal.returns
returns c = (
  kept_last c.args.compiled.now c.args.path.now _ c.args.template refl c.requires.template c.requires.well c.pop.new.self.items c.in-Some.answers c.push.new.list c.in-Some.ensures.items c.in_ok-push-2.ensures.ok
      (c.in_ok-push.ensures.ok ∙ ap (λ a. c.in-Some.answers.items ++ a ∷ []) c.in_ok-answer.ensures),
  refl,
)
