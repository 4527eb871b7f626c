-- What one look at a term tells.
use Rattle.std.specs.Prelude.{ℕ, List, [], Bool, true, false, if◌then◌else◌}
use Rattle.pl_unify.specs.declared.word.Ref.{Ref}
use Rattle.pl_unify.specs.declared.word.View.{View}
use Rattle.pl_unify.specs.declared.word.View.TheVariants as V
use Rattle.builtin_model.specs.declared.error.Expected.TheVariants as E
use Rattle.builtin_model.specs.declared.row.TypeTest.{TypeTest}
use Rattle.builtin_model.specs.declared.row.TypeTest.TheVariants as T
use Rattle.builtin_model.specs.Deeds.{is_character}
use Rattle.pl_builtin_ends.specs.declared.done.Raised.TheVariants as R
use Rattle.pl_builtin_ends.specs.declared.done.Done.{Done}
use Rattle.pl_builtin_ends.specs.declared.done.Done.TheVariants as D

abbrev pub passes_view : TypeTest → View → Bool
passes_view T.Var (V.Var n) = true
passes_view T.Nonvar (V.Int z) = true
passes_view T.Nonvar (V.Name a) = true
passes_view T.Nonvar (V.Comp f k) = true
passes_view T.Atom (V.Name a) = true
passes_view T.Integer (V.Int z) = true
passes_view T.Number (V.Int z) = true
passes_view T.Atomic (V.Int z) = true
passes_view T.Atomic (V.Name a) = true
passes_view T.Compound (V.Comp f k) = true
passes_view T.Callable (V.Name a) = true
passes_view T.Callable (V.Comp f k) = true
passes_view _ _ = false

-- what put_char does with a name
abbrev pub put_done : List ℕ → Ref → Done
put_done name at = if is_character name then D.Yes else D.Raise (R.Type E.Character at)

abbrev pub name_bytes : List ℕ → List ℕ
name_bytes name = if is_character name then name else []
