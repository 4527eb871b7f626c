-- A text gives the same facts wherever they agree with what was known.
use Rattle.std.proofs.Common.{ℕ, List, ◌++◌, refl, sym, subst, append-nil}
use Rattle.unit_model.specs.Facts.{Facts}
use Rattle.unit_model.specs.Directives.{Text}
use Rattle.unit_model.specs.Preparing.{Interface, State, start}
use Rattle.unit_model.specs.Prepared.{first_byte, Prepares, ends, goes_on, Prepared}
use Rattle.link_model.specs.Texts.{Agrees}
use Rattle.link_model.specs.Laws.{PreparingReadsNeeds}
use Rattle.needs_laws.proofs.States.{own_of, Follows, IsFresh, Fits, moved}
use Rattle.needs_laws.proofs.Steps.{step-leaves}

-- the facts that come agree with what was known, and come again wherever they agree
record IsAgain (before : List Interface) (text : Text) (k : ℕ) (s : State) (f : Facts Text) : Type 0 where
  agrees : Agrees before f
  again : (is : List Interface) → Agrees is f → Fits is s × Prepares text k (moved is s) f

module _ (before : List Interface) (text : Text) where
  prepares-again : {k : ℕ} {s : State} {f : Facts Text} → Prepares text k s f → Follows before s → Fits before s → IsAgain before text k s f
  prepares-again (ends {s = s} e none) h fits = record {
    agrees = record { needs = fits.needs; interfaces = fits.new };
    again = λ is g. (record { needs = g.needs; new = g.interfaces; fresh = subst (λ o. IsFresh (is ++ own_of s) o) (sym none) tt }, ends e none);
  }
  prepares-again (goes_on {s = s} {after = after} tokens t e r p rest) h fits =
      let l = step-leaves before t (first_byte tokens) s h fits after p in
      let q = prepares-again rest l.follows l.fits in record {
        agrees = q.agrees;
        again = λ is g.
            let a = q.again is g in
            let b = l.again is a.0 in
            (b.0, goes_on tokens t e r b.1 a.1);
      }

starts-again : (before : List Interface) (t : Text) (f : Facts Text) → Prepared before t f → IsAgain before t 0 (start before) f
starts-again before t f p = prepares-again before t p (record { known = sym (append-nil before); own = refl }) (record { needs = tt; new = tt; fresh = tt })

pub reads-needs : PreparingReadsNeeds
reads-needs = record {
  agrees = λ before t f p. (starts-again before t f p).agrees;
  same = λ before other t f p g. subst (λ l. Prepares t 0 (start l) f) (append-nil other) ((starts-again before t f p).again other g).1;
}
