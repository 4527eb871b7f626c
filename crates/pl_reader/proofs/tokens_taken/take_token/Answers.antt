use Rattle.std.proofs.Common.{◌≡◌, ◌∷◌, List, ℕ, subst, sym, ap, ◌∙◌}
use Rattle.pl_ops.specs.Tables.{operator}
use Rattle.text_model.specs.Tokens.{Token as ModelToken}
use Rattle.text_model.specs.Reading.{relabelled}
use Rattle.pl_tokens.specs.Views.{token_view, kind_view}
use Rattle.pl_reader.specs.Moves.{SymbolIs}
use Rattle.pl_reader.specs.Numbering.{Met, met, met_after, lexeme_at, numbered_from}
use Rattle.pl_reader.specs.Reads.{Goes}
use Rattle.pl_reader.proofs.TokenSteps.{numbered-step}
use Rattle.pl_reader.proofs.tokens_taken.take_token.Goals as goal

pub returns-clause-goes : goal.returns-clause-goes
returns-clause-goes c = λ num following ts whole agrees are f g.
    let look = operator c.args.table.now in
    let m : Met = met c.args.variables.now in
    let l = kind_view c.args.token.now.kind in
    let now : met_after m l ≡ met c.symbol_of.new.variables = sym c.in_ok-symbol.ensures.met in
    let t : ModelToken ℕ = relabelled (token_view c.args.token.now) (lexeme_at m l) in
    let rest : List (ModelToken ℕ) = (numbered_from (met c.symbol_of.new.variables) ts).tokens in
    let P : List (ModelToken ℕ) → Type 0 = λ us. Goes num look following whole c.args.state us c.args.waiting.now.items c.args.contexts.now.items c.args.out.now.items in
    let same : (numbered_from m (token_view c.args.token.now ∷ ts)).tokens ≡ t ∷ rest = ap (λ r. r.tokens) (numbered-step m (token_view c.args.token.now) ts) ∙ ap (λ k. t ∷ (numbered_from k ts).tokens) now in
    let S : List ℕ → Type 0 = λ s. SymbolIs num c.in_ok-symbol.symbol s t.lexeme in
    c.in_ok-taken.ensures num t following rest whole are (subst S (sym c.text_of-text.ensures) (c.in_ok-symbol.ensures.symbol num agrees)) (f.first (met c.symbol_of.new.variables)) (f.second (met c.symbol_of.new.variables)) (subst P same g)
