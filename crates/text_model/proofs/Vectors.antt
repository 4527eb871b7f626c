-- Worked cases: written terms, and the first run of small texts.
use Rattle.std.proofs.Common.{◌≡◌, ℕ, List, [], ◌∷◌, refl, pos, negsuc}
use Rattle.std.specs.Prelude.{codes, false, true}
use Rattle.std.specs.Fmt.{digits}
use Rattle.std.specs.Str.{chars, is_utf8}
use Rattle.std.specs.Str.Lossy.{utf8_valid_len}
use lib.Utf8.{encode}
use Rattle.pl_terms.specs.Trees.{Tree, var, int, atom, comp, nil, cons}
use Rattle.pl_ops.specs.Tables.{Declaration, operator}
use Rattle.pl_ops.specs.Standard.{standard}
use Rattle.pl_ops.specs.declared.op.Kind.{Kind}
use Rattle.pl_ops.specs.declared.op.Kind.TheVariants.{Xfy as xfy, Yfx as yfx, Fy as fy, Xfx as xfx}
use Rattle.text_model.specs.Tokens.{name, stop, run, run_fault, cut_short, ended, next_run, skip, body, run_from}
use Rattle.text_model.specs.Writing.{written}
use Rattle.text_model.specs.declared.Quote.TheVariants.{Quoted as quotes}

abbrev declared : ℕ → Kind → List ℕ → Declaration
declared p k s = record { op = record { priority = p; kind = k }; name = s }

abbrev table : List Declaration
table = declared 1000 xfy (codes ",") ∷ declared 900 fy (codes "\\+") ∷ declared 700 xfx (codes "=") ∷ declared 500 yfx (codes "-") ∷ declared 200 fy (codes "-") ∷ declared 200 xfy (codes "^") ∷ declared 400 yfx (codes "mod") ∷ []

abbrev both : List ℕ → Tree (List ℕ) → Tree (List ℕ) → Tree (List ℕ)
both s a b = comp s (cons a (cons b nil))

abbrev single : List ℕ → Tree (List ℕ) → Tree (List ℕ)
single s a = comp s (cons a nil)

minus_minus : written (operator table) quotes 1200 (both (codes "-") (atom (codes "a")) (int (negsuc 0))) ≡ codes "a- -1"
unfolding digits
minus_minus = refl

left_nested : written (operator table) quotes 1200 (both (codes "-") (atom (codes "a")) (both (codes "-") (atom (codes "b")) (atom (codes "c")))) ≡ codes "a-(b-c)"
left_nested = refl

negation : written (operator table) quotes 1200 (both (codes "=") (atom (codes "a")) (single (codes "\\+") (atom (codes "b")))) ≡ codes "a=(\\+b)"
negation = refl

prefix_minus : written (operator table) quotes 1200 (single (codes "-") (int (pos 1))) ≡ codes "- 1"
unfolding digits
prefix_minus = refl

listed : written (operator table) quotes 1200 (both (codes ".") (atom (codes "-")) (both (codes ".") (both (codes ",") (var 1) (var 2)) (atom (codes "[]")))) ≡ codes "[-,(_G1,_G2)]"
unfolding digits
listed = refl

modulo : written (operator table) quotes 699 (both (codes "mod") (atom (codes "B C")) (atom (codes "mod"))) ≡ codes "'B C' mod (mod)"
modulo = refl

cut : next_run (codes " a b") 0 ≡ cut_short 1
unfolding run_from skip body chars utf8_valid_len is_utf8 encode
cut = refl

stray : next_run (codes "a `") 0 ≡ run_fault 2 2
unfolding run_from skip body chars utf8_valid_len is_utf8 encode
stray = refl

ill_formed : next_run (97 ∷ 39 ∷ 98 ∷ 255 ∷ []) 0 ≡ run_fault 1 3
unfolding run_from skip body chars utf8_valid_len is_utf8 encode
ill_formed = refl

float_fault : next_run (codes "x = 1.5.") 0 ≡ run_fault 4 4
unfolding run_from skip body chars utf8_valid_len is_utf8 encode
float_fault = refl

-- under the standard table
standard_minus : written (operator standard) quotes 1200 (both (codes "-") (single (codes "-") (int (pos 1))) (int (negsuc 0))) ≡ codes "- 1- -1"
unfolding standard digits
standard_minus = refl

standard_directive : written (operator standard) quotes 1200 (single (codes ":-") (single (codes "dynamic") (both (codes ",") (both (codes "/") (atom (codes "a")) (int (pos 1))) (atom (codes ":-"))))) ≡ codes ":- dynamic a/1,(:-)"
unfolding standard digits
standard_directive = refl

standard_not : written (operator standard) quotes 1200 (single (codes "\\+") (both (codes ",") (atom (codes "-")) (both (codes ".") (atom (codes "|")) (atom (codes "it's"))))) ≡ codes "\\+ ((-),['|'|'it\\'s'])"
unfolding standard digits
standard_not = refl

standard_arrow : written (operator standard) quotes 1200 (both (codes "===>") (atom (codes "a")) (atom (codes "b"))) ≡ codes "===>(a,b)"
unfolding standard digits
standard_arrow = refl

standard_least : written (operator standard) quotes 1200 (both (codes "^") (int (negsuc 9223372036854775807)) (single (codes "{}") (atom (codes "[]")))) ≡ codes "-9223372036854775808^{[]}"
unfolding standard digits
standard_least = refl

fact : next_run (codes "a.") 0 ≡ run (record { lexeme = name (codes "a"); byte = 0; direct = false } ∷ record { lexeme = stop; byte = 1; direct = true } ∷ []) 2
unfolding run_from skip body chars utf8_valid_len is_utf8 encode
fact = refl

comment_alone : next_run (codes "% x") 0 ≡ ended
unfolding run_from skip body chars utf8_valid_len is_utf8 encode
comment_alone = refl

too_great : next_run (codes "a(9223372036854775808).") 0 ≡ run_fault 3 2
unfolding run_from skip body chars utf8_valid_len is_utf8 encode
too_great = refl
