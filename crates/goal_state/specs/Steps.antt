-- What the steps of a path do.
use Rattle.std.specs.Prelude.{◌≡◌, ℕ, ◌≤◌, nat_lt, List, [], ◌∷◌, ◌++◌, length, reverse, Option, Some, None, if◌then◌else◌}
use Rattle.pl_terms.specs.Trees.{Tree}
use Rattle.pl_unify.specs.declared.word.Ref.{Ref}
use Rattle.pl_unify.specs.declared.store.Mark.{Mark}
use Rattle.goal_state.specs.declared.frames.Frame.{Frame}
use Rattle.goal_state.specs.declared.frames.Setting.{Setting}
use Rattle.goal_state.specs.declared.frames.Part.TheVariants.{Link}
use Rattle.goal_state.specs.Frames.{IsPut}
use Rattle.goal_state.specs.declared.choice.Choice.{Choice}
use Rattle.goal_state.specs.declared.choice.ChoiceKind.{ChoiceKind}
use Rattle.goal_state.specs.declared.path.Path.{Path}
use Rattle.goal_state.specs.Denotation.{outer_of, outer_answers}
use Rattle.goal_state.specs.Well.{floor_of}

-- a frame was put above its parent and the newest record's frame
pub record Put (old new : Path) (frame : Frame) (at : ℕ) : Type 0 where
  pub keep : ℕ
  pub put : IsPut old.frames new.frames keep frame at
  pub floor : floor_of (reverse old.choices.items) ≤ keep
  pub parent : frame.parent ≤ keep
  pub within : keep ≤ length old.frames
  pub others : new ≡ record old { frames = new.frames }

-- a frame that goes on at a place, with a setting
abbrev pub link_to : ℕ → ℕ → Setting → Frame
link_to parent ppc setting = record { parent = parent; ppc = ppc; part = Link; setting = setting }

-- a record was opened with a frame of its own
pub record Opened (old new : Path) (kind : ChoiceKind) (mark : Mark) (parent ppc : ℕ) (setting : Setting) (depth : ℕ) : Type 0 where
  pub rest : ℕ
  pub put : Put old (record old { frames = new.frames }) (link_to parent ppc setting) rest
  pub choices : new.choices.items ≡ old.choices.items ++ record { kind = kind; mark = mark; rest = rest; depth = depth } ∷ []
  pub others : new ≡ record old { frames = new.frames; choices = new.choices }

-- the records below a depth, the newest first
abbrev pub kept : ℕ → List Choice → List Choice
kept d [] = []
kept d (c ∷ cs) = if nat_lt c.depth d then c ∷ cs else kept d cs

-- the term that is collected around the records from a depth on
abbrev pub template_kept : ℕ → List Choice → Option Ref → Option Ref
template_kept d [] t = t
template_kept d (c ∷ cs) t = if nat_lt c.depth d then t else template_kept d cs (outer_of c.kind t)

-- the answers of the nested searches around them
abbrev pub answers_kept : ℕ → List Choice → List (List (Tree ℕ)) → List (List (Tree ℕ))
answers_kept d [] gs = gs
answers_kept d (c ∷ cs) gs = if nat_lt c.depth d then gs else answers_kept d cs (outer_answers c.kind gs)

abbrev pub place_in : Option Frame → ℕ × ℕ
place_in None = (0, 0)
place_in (Some fr) = (fr.parent, fr.ppc)
