use Rattle.std.proofs.Common.{◌≡◌, ◌∙◌, sym, ap, subst, get_or, ◌<◌, length}
use Rattle.std.proofs.lemmas.List.{get_or_read}
use Rattle.pl_unify.specs.declared.word.Word.TheVariants.{Var}
use Rattle.pl_unify.specs.Words.{no_word, WordIn}
use Rattle.pl_unify.proofs.Follow.{Nearer, nearer_next, own_free}
use Rattle.pl_unify.proofs.store.Store.resolve.Goals as goal
use Rattle.pl_unify.proofs.store.Store.resolve.Goals.{Else-m-n}

step : (c : Else-m-n) → Nearer c.self.inside.cells.items c.self.inside.vars.items c.self.inside.trail.items c.loop-word.word (Var c.in-Var-index.m)
step c =
    subst (Nearer _ _ _ c.loop-word.word) c.in-Var-index.is
    (nearer_next _ _ _ c.in-Var.n _ _ c.self.invariant.inside c.in-Var.is c.loop-word.invariant.within c.index.ensures
    (λ q. let e : Var c.in-Var-index.m ≡ Var c.in-Var.n = sym c.in-Var-index.is ∙ q in let same : c.in-Var-index.m ≡ c.in-Var.n = cc in c.if-m-n.false same))

pub loop-word-smaller : goal.loop-word-smaller
loop-word-smaller c = (step (goal.at.loop-word-smaller c).Else-m-n).nearer

pub loop-word-preserved : goal.loop-word-preserved
loop-word-preserved c = let k = step (goal.at.loop-word-preserved c).Else-m-n in record { same = k.same ∙ c.loop-word.invariant.same; within = k.within }

pub returns-in_default-index : goal.returns-in_default-index
returns-in_default-index c =
    let k : Nearer c.self.inside.cells.items c.self.inside.vars.items c.self.inside.trail.items c.loop-word.word c.index.result.now =
    nearer_next _ _ _ c.in-Var.n _ _ c.self.invariant.inside c.in-Var.is c.loop-word.invariant.within c.index.ensures (c.in_default-index.not-Var c.in-Var.n) in
    rw (← c.self.view_is) (record { same = k.same ∙ c.loop-word.invariant.same; within = k.within; free = λ n e. absurd (c.in_default-index.not-Var n e) })

pub returns-then-m-n-clause-free : goal.returns-then-m-n-clause-free
returns-then-m-n-clause-free c n e =
    let number : c.in-Var.n ≡ n = cc in
    let low : c.in-Var.n < length c.self.inside.vars.items = subst (WordIn _ _) c.in-Var.is c.loop-word.invariant.within in
    let read : c.index.result.now ≡ get_or c.self.inside.vars.items c.in-Var.n no_word = get_or_read _ _ _ low c.index.ensures no_word in
    rw (← c.self.view_is) (own_free c.self.inside.cells.items c.self.inside.vars.items c.self.inside.trail.items n c.self.invariant.inside
    (ap (λ k. get_or c.self.inside.vars.items k no_word) (sym number) ∙ (sym read ∙ (c.in-Var-index.is ∙ ap Var (c.if-m-n.true ∙ number)))))
