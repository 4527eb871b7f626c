-- The orders of places and rows.
use Rattle.std.proofs.Common.{◌≡◌, ℕ, List, [], ◌∷◌, refl, sym, ap, ◌∙◌}
use Rattle.std.specs.Cmp.{IsTotalOrder}
use Rattle.std.specs.Ordering.{nat_cmp, ordering_then, is_eq}
use Rattle.std.specs.declared.cmp.Ordering.{Ordering}
use Rattle.std.specs.declared.cmp.Ordering.TheVariants.{Less, Equal, Greater}
use Rattle.std.specs.Cmp.Lexicographic.{texts_ties}
use Rattle.std.proofs.lemmas.Cmp.{on_total, then_total, nat_cmp_total, nat_list_cmp_total, ranked}
use Rattle.pl_atoms.proofs.Texts.{same_text-is}
use Rattle.pl_terms.specs.Order.{text_cmp}
use Rattle.unit_model.specs.Directives.{Text}
use Rattle.link_model.specs.Rows.{Row, row_cmp, put_by as put_row_by, put as put_row, in_order}
use Rattle.mod_visible.specs.Finding.{place_cmp}
use Rattle.mod_visible.specs.Ordered.{put_by, put, ordered}

both_equal : (r s : Ordering) → ordering_then r s ≡ Equal → (r ≡ Equal) × (s ≡ Equal)
both_equal Less s e = absurd cc
both_equal Equal s e = (refl, e)
both_equal Greater s e = absurd cc

numbers-same : (m n : ℕ) → nat_cmp m n ≡ Equal → m ≡ n
numbers-same m n e = ranked m n Equal (sym e)

texts-same : (s t : Text) → text_cmp s t ≡ Equal → s ≡ t
texts-same s t e = same_text-is s t (texts_ties s t ∙ ap is_eq e)

pub place_total : IsTotalOrder place_cmp
place_total = then_total (on_total (λ (p : ℕ × ℕ). p.0) nat_cmp_total) (on_total (λ (p : ℕ × ℕ). p.1) nat_cmp_total)

pub place_same : (a b : ℕ × ℕ) → place_cmp a b ≡ Equal → a ≡ b
place_same a b e =
    let h = both_equal (nat_cmp a.0 b.0) (nat_cmp a.1 b.1) e in
    let x = numbers-same a.0 b.0 h.0 in
    let y = numbers-same a.1 b.1 h.1 in
    ap (λ (n : ℕ). (n, a.1)) x ∙ ap (λ (n : ℕ). (b.0, n)) y

pub row_total : IsTotalOrder row_cmp
row_total =
    then_total (on_total (λ (r : Row). r.of) nat_list_cmp_total)
    (then_total (on_total (λ (r : Row). r.ind.name) nat_list_cmp_total)
    (then_total (on_total (λ (r : Row). r.ind.arity) nat_cmp_total) (on_total (λ (r : Row). r.definer) nat_list_cmp_total)))

abbrev made_row : Text → Text → ℕ → Text → Row
made_row m s a d = record { of = m; ind = record { name = s; arity = a }; definer = d }

pub row_same : (a b : Row) → row_cmp a b ≡ Equal → a ≡ b
row_same a b e =
    let h = both_equal (text_cmp a.of b.of) (ordering_then (text_cmp a.ind.name b.ind.name) (ordering_then (nat_cmp a.ind.arity b.ind.arity) (text_cmp a.definer b.definer))) e in
    let i = both_equal (text_cmp a.ind.name b.ind.name) (ordering_then (nat_cmp a.ind.arity b.ind.arity) (text_cmp a.definer b.definer)) h.1 in
    let j = both_equal (nat_cmp a.ind.arity b.ind.arity) (text_cmp a.definer b.definer) i.1 in
    ap (λ m. made_row m a.ind.name a.ind.arity a.definer) (texts-same a.of b.of h.0)
    ∙ ap (λ s. made_row b.of s a.ind.arity a.definer) (texts-same a.ind.name b.ind.name i.0)
    ∙ ap (λ n. made_row b.of b.ind.name n a.definer) (numbers-same a.ind.arity b.ind.arity j.0)
    ∙ ap (λ d. made_row b.of b.ind.name b.ind.arity d) (texts-same a.definer b.definer j.1)

-- ---- rows in order

put_row_by-is : (r : Ordering) (a b : Row) (rs put : List Row) → put_row_by r a b rs put ≡ put_by r a b rs put
put_row_by-is Less a b rs put = refl
put_row_by-is Equal a b rs put = refl
put_row_by-is Greater a b rs put = refl

put_row-is : (a : Row) (rs : List Row) → put_row a rs ≡ put row_cmp a rs
put_row-is a [] = refl
put_row-is a (b ∷ rs) = put_row_by-is (row_cmp a b) a b rs (put_row a rs) ∙ ap (put_by (row_cmp a b) a b rs) (put_row-is a rs)

pub in_order-is : (rs : List Row) → in_order rs ≡ ordered row_cmp rs
in_order-is [] = refl
in_order-is (a ∷ rs) = put_row-is a (in_order rs) ∙ ap (put row_cmp a) (in_order-is rs)
