-- Names that a run writes, in a table that grows.
use Rattle.std.proofs.Common.{◌≡◌, ℕ, ◌+◌, ◌<◌, ◌≤◌, List, [], Some, refl, sym, ap, ◌∙◌, subst, length, take, get_or, slice_get}
use Rattle.std.specs.List.{Contains}
use Rattle.std.proofs.lemmas.List.{take_all}
use Rattle.std.proofs.lemmas.Option.{slice_get-get_or, slice_get_within, get_or_from_slice_get}
use Rattle.pl_atoms.specs.Names.{IsFront, AreDistinct, with_text, with_texts}
use Rattle.pl_atoms.proofs.Numbers.{IsFront-itself, IsFront-trans, IsFront-grown, slice_get-front, with_texts-more}
use Rattle.pl_store.specs.Linked.{Linked, with_names}
use Rattle.pl_store.specs.Facts.{IsLinked, FactsStay}
use Rattle.naming_laws.specs.Translation.{written_names}
use Rattle.naming_laws.specs.SameRun.{HasNames}
use Rattle.naming_laws.proofs.Tables.{names-are-added}

contains-front : (old new : List (List ℕ)) (s : List ℕ) → IsFront old new → Contains old s → Contains new s
contains-front old new s front c =
    let at : slice_get old c.0 ≡ Some s = slice_get-get_or old c.0 s c.1 ∙ ap Some c.2 in
    let now : slice_get new c.0 ≡ Some s = slice_get-front old new front c.0 s at in
    (c.0, slice_get_within new c.0 s now, get_or_from_slice_get new c.0 s s now)

-- the names are there where the table has grown
pub has-front : (old new : List (List ℕ)) → IsFront old new → AreDistinct new → HasNames old → HasNames new
has-front old new front distinct h = record {
  distinct = distinct;
  written = λ k d l. contains-front old new (get_or written_names k d) front (h.written k d l);
}

-- the names are there once they were put in
pub written_there : (old new : List (List ℕ)) → AreDistinct old → new ≡ with_texts old written_names → HasNames new
written_there old new distinct e = subst HasNames (sym e) (names-are-added old distinct)

-- the first of some texts were put in
pub record Put (old new texts : List (List ℕ)) (i : ℕ) : Type 0 where
  pub front : IsFront old new
  pub names : new ≡ with_texts old (take i texts)

pub put-none : (names texts : List (List ℕ)) → Put names names texts 0
put-none names texts = record { front = IsFront-itself names; names = refl }

pub put-more : (old mid new texts : List (List ℕ)) (i : ℕ) (t : List ℕ) → i < length texts → Put old mid texts i → new ≡ with_text mid t → get_or texts i [] ≡ t → Put old new texts (i + 1)
put-more old mid new texts i t within h step is = record {
  front = IsFront-trans old mid new h.front (IsFront-grown mid new t step);
  names = with_texts-more texts i within t (sym is) old mid new h.names step;
}

pub put-all : (old new texts : List (List ℕ)) (i : ℕ) → length texts ≤ i → Put old new texts i → new ≡ with_texts old texts
put-all old new texts i few h = h.names ∙ ap (with_texts old) (take_all i texts few)

-- a program with more names is in order
pub more_names : FactsStay → (l t : Linked) (old new : List (List ℕ)) → with_names t old ≡ l → IsLinked l → IsFront old new → AreDistinct new → (IsLinked (with_names t new)) × (with_names t new ≡ with_names l new)
more_names stay l t old new whole linked front distinct =
    let same : with_names t new ≡ with_names l new = ap (λ x. with_names x new) whole in
    let names : l.names ≡ old = ap (λ (x : Linked). x.names) (sym whole) in
    (subst IsLinked (sym same) (stay l new linked (subst (λ ns. IsFront ns new) (sym names) front) distinct), same)
