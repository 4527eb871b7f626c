-- The texts of lists and errors are among those that built-in predicates make names of.
use Rattle.std.proofs.Common.{◌≡◌, ℕ, List, codes, refl, sym, subst}
use Rattle.value_model.specs.declared.EvalFault.{EvalFault}
use Rattle.value_model.specs.declared.EvalFault.TheVariants as V
use Rattle.builtin_model.specs.declared.error.Expected.{Expected}
use Rattle.builtin_model.specs.declared.error.Expected.TheVariants as E
use Rattle.builtin_model.specs.declared.error.Domain.{Domain}
use Rattle.builtin_model.specs.declared.error.Domain.TheVariants as D
use Rattle.builtin_model.specs.Faults.{expected_text, domain_text, evaluation_text}
use Rattle.pl_builtin_ends.specs.declared.done.Raised.{Raised}
use Rattle.pl_builtin_ends.specs.declared.done.Raised.TheVariants as R
use Rattle.pl_builtin_ends.specs.Made.{made_texts, HasText}
use Rattle.pl_builtin_terms.specs.ErrorTerms.{kind_text, detail_text}

pub nil-made : HasText made_texts (codes "[]")
unfolding made_texts
nil-made = refl

pub dot-made : HasText made_texts (codes ".")
unfolding made_texts
dot-made = refl

pub error-made : HasText made_texts (codes "error")
unfolding made_texts
error-made = refl

pub slash-made : HasText made_texts (codes "/")
unfolding made_texts
slash-made = refl

kind-is : (fault : Raised) → HasText made_texts (kind_text fault)
unfolding made_texts
kind-is R.Instantiation = refl
kind-is (R.Type e at) = refl
kind-is (R.Domain d at) = refl
kind-is R.MaxArity = refl
kind-is (R.NotEvaluable f k) = refl
kind-is (R.Evaluation e) = refl

expected-is : (e : Expected) → HasText made_texts (expected_text e)
unfolding made_texts
expected-is E.Atom = refl
expected-is E.Atomic = refl
expected-is E.Character = refl
expected-is E.Compound = refl
expected-is E.Integer = refl
expected-is E.List = refl

domain-is : (d : Domain) → HasText made_texts (domain_text d)
unfolding made_texts
domain-is D.NonEmptyList = refl
domain-is D.NotLessThanZero = refl
domain-is D.Order = refl

evaluation-is : (e : EvalFault) → HasText made_texts (evaluation_text e)
unfolding made_texts
evaluation-is V.Instantiation = refl
evaluation-is (V.NotEvaluable f k) = refl
evaluation-is V.Overflow = refl
evaluation-is V.ZeroDivisor = refl
evaluation-is V.Undefined = refl
evaluation-is V.NoMemory = refl

detail-is : (fault : Raised) → HasText made_texts (detail_text fault)
unfolding made_texts
detail-is R.Instantiation = refl
detail-is (R.Type e at) = expected-is e
detail-is (R.Domain d at) = domain-is d
detail-is R.MaxArity = refl
detail-is (R.NotEvaluable f k) = refl
detail-is (R.Evaluation e) = evaluation-is e

pub kind-made : (fault : Raised) (t : List ℕ) → t ≡ kind_text fault → HasText made_texts t
kind-made fault t e = subst (HasText made_texts) (sym e) (kind-is fault)

pub detail-made : (fault : Raised) (t : List ℕ) → t ≡ detail_text fault → HasText made_texts t
detail-made fault t e = subst (HasText made_texts) (sym e) (detail-is fault)
