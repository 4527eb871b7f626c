-- Runs of tokens taken one after another.
use Rattle.std.proofs.Common.{◌≡◌, ℕ, List, ◌∷◌, length, Bool, true, false, Option, Some, None, Result, Ok, Err, refl, sym, ap, ◌∙◌, subst, inl, inr, nat_eq, if◌then◌else◌, eqb-true}
use Rattle.pl_terms.specs.Trees.{Tree}
use Rattle.pl_ops.specs.Tables.{operator}
use Rattle.text_model.specs.Tokens.{Run, run, run_fault, cut_short, ended, next_run}
use Rattle.pl_tokens.specs.declared.token.Token.{Token}
use Rattle.pl_tokens.specs.declared.token.TokenFault.{TokenFault}
use Rattle.pl_tokens.specs.declared.token.TokenFault.TheVariants.{Fault as TokenFaultOf, NoMemory as NoTokenMemory}
use Rattle.pl_tokens.specs.Views.{tokens_view}
use Rattle.pl_tokens.specs.Reader.{Reader, start_of, run_of, past_run}
use Rattle.pl_tokens.specs.Runs.{fault_run}
use Rattle.unit_model.specs.Facts.{Facts}
use Rattle.unit_model.specs.Directives.{Text}
use Rattle.unit_model.specs.Preparing.{Interface, State, Opened, Next, start, table_in, facts_of, step}
use Rattle.unit_model.specs.Prepared.{ReadsRun, first_byte, Prepares, ends, goes_on, Prepared, Faults, no_token, unfinished, no_term, wrong_term, left_open, later, FirstFault}
use Rattle.prep_texts.specs.declared.draft.Draft.{Draft}
use Rattle.prep_texts.specs.Seen.{Seen, seen, next_seen, Alike, inside_seen}
use Rattle.prep_texts.specs.Drafts.{state_of, IsWell}
use Rattle.prep_texts.specs.Taking.{TakesRun, FailsRun}
use Rattle.prep_texts.proofs.SeenLaws.{table-alike, step-alike}

-- ---- where the loop stands

-- what is prepared or faulty from here on is so from the start on
pub record Going (known : List Interface) (text : List ℕ) (reader : Reader) (d : Draft) : Type 0 where
  pub place : reader ≡ record { text = text; at = reader.at; direct = false; minus = false }
  pub model : State
  pub alike : Alike model (state_of known d)
  pub prepared : (f : Facts Text) → Prepares text reader.at model f → Prepares text 0 (start known) f
  pub faulty : (n byte : ℕ) → Faults text reader.at model n byte → Faults text 0 (start known) n byte
  pub well : IsWell d

pub going-start : (known : List Interface) (text : List ℕ) (reader : Reader) (d : Draft) → reader ≡ start_of text → Alike (start known) (state_of known d) → IsWell d → Going known text reader d
going-start known text reader d is alike well =
    subst (λ r. Going known text r d) (sym is) (record { place = refl; model = start known; alike = alike; prepared = λ f p. p; faulty = λ n b p. p; well = well })

reached : (r : Next) (w : Seen) → next_seen r ≡ Ok w → (s : State) × (r ≡ Ok s) × (seen s ≡ w)
reached (Err n) w h = absurd (cc)
reached (Ok s) w h = let same : seen s ≡ w = cc in (s, refl, same)

failed : (r : Next) (n : ℕ) → next_seen r ≡ Err n → r ≡ Err n
failed (Err m) n h = let same : m ≡ n = cc in ap (λ k. Err k) same
failed (Ok s) n h = absurd (cc)

module _ (known : List Interface) (text : List ℕ) (reader : Reader) (d : Draft) (so_far : Going known text reader d) where
  looks : operator (table_in so_far.model) ≡ operator (table_in (state_of known d))
  looks = table-alike so_far.model (state_of known d) so_far.alike

  here : (r : Run) → run_of reader ≡ r → next_run text reader.at ≡ r
  here r h = ap run_of (sym so_far.place) ∙ h

  steps : (t : Tree Text) (byte : ℕ) → next_seen (step t byte so_far.model) ≡ next_seen (step t byte (state_of known d))
  steps = step-alike so_far.model (state_of known d) so_far.alike

  module _ (ts : List Token) (next : ℕ) (runs : run_of reader ≡ run (tokens_view ts) next) where
    pub going-on : (after : Reader) (new : Draft) → after ≡ past_run reader next → TakesRun (tokens_view ts) (state_of known d) (state_of known new) → IsWell new → Going known text after new
    going-on after new moved takes well =
        let found = reached (step takes.term (first_byte (tokens_view ts)) so_far.model) (seen (state_of known new)) (steps takes.term (first_byte (tokens_view ts)) ∙ takes.leads) in
        let reads : ReadsRun (operator (table_in so_far.model)) (tokens_view ts) takes.term = subst (λ f. ReadsRun f (tokens_view ts) takes.term) (sym looks) takes.reads in
        let is = here (run (tokens_view ts) next) runs in
        subst (λ r. Going known text r new) (sym moved) (record {
          place = ap (λ r. past_run r next) so_far.place;
          model = found.0;
          alike = found.2;
          prepared = λ f p. so_far.prepared f (goes_on (tokens_view ts) takes.term is reads found.1 p);
          faulty = λ n b p. so_far.faulty n b (later (tokens_view ts) takes.term is reads found.1 p);
          well = well;
        })

    pub run-fails : (n byte : ℕ) → FailsRun (tokens_view ts) (state_of known d) n byte → FirstFault known text n byte
    run-fails n byte (inl h) =
        let is = here (run (tokens_view ts) next) runs in
        let none : (t : Tree Text) → ReadsRun (operator (table_in so_far.model)) (tokens_view ts) t → ⊥ = λ t r. h.none t (subst (λ f. ReadsRun f (tokens_view ts) t) looks r) in
        let P : ℕ → ℕ → Type 0 = λ m b. Faults text reader.at so_far.model m b in
        so_far.faulty n byte (subst (λ m. P m byte) (sym h.number) (subst (P 5) (sym h.first) (no_term (tokens_view ts) is none)))
    run-fails n byte (inr h) =
        let is = here (run (tokens_view ts) next) runs in
        let reads : ReadsRun (operator (table_in so_far.model)) (tokens_view ts) h.term = subst (λ f. ReadsRun f (tokens_view ts) h.term) (sym looks) h.reads in
        let wrong = failed (step h.term (first_byte (tokens_view ts)) so_far.model) n (steps h.term (first_byte (tokens_view ts)) ∙ h.wrong) in
        let P : ℕ → Type 0 = λ b. Faults text reader.at so_far.model n b in
        so_far.faulty n byte (subst P (sym h.first) (wrong_term (tokens_view ts) h.term is reads wrong))

  pub token-fails : (n byte : ℕ) → run_of reader ≡ fault_run n byte → FirstFault known text n byte
  token-fails n byte h = so_far.faulty n byte (go (nat_eq n 6) refl)
    where
      go : (b : Bool) → nat_eq n 6 ≡ b → Faults text reader.at so_far.model n byte
      go true e =
          let six : n ≡ 6 = eqb-true n 6 e in
          let P : ℕ → Type 0 = λ m. Faults text reader.at so_far.model m byte in
          subst P (sym six) (unfinished (here (cut_short byte) (h ∙ ap (λ b. if b then cut_short byte else run_fault n byte) e)))
      go false e = no_token (here (run_fault n byte) (h ∙ ap (λ b. if b then cut_short byte else run_fault n byte) e))

  inside-none : (i : Option Opened) → inside_seen i ≡ None → i ≡ None
  inside-none None h = refl
  inside-none (Some o) h = absurd (cc)

  module _ (over : run_of reader ≡ ended) where
    pub all-prepared : d.section ≡ None → Prepared known text (facts_of (state_of known d))
    all-prepared none =
        let inside : so_far.model.inside ≡ None = inside-none so_far.model.inside (ap (λ (v : Seen). v.inside) so_far.alike ∙ ap (λ o. inside_seen (Rattle.prep_texts.specs.Drafts.inside_of d.names o d.entries d.table)) none) in
        let P : Facts Text → Type 0 = λ f. Prepared known text f in
        subst P (ap facts_seen so_far.alike) (so_far.prepared (facts_of so_far.model) (ends (here ended over) inside))
      where
        facts_seen : Seen → Facts Text
        facts_seen v = record { needs = v.needs; sections = record { kind = Rattle.unit_model.specs.Facts.body; byte = 0; of = Rattle.std.proofs.Common.codes "user"; entries = v.user } ∷ v.sections }

    pub left-open : (o : Rattle.prep_texts.specs.declared.draft.OpenSection.OpenSection) → d.section ≡ Some o → FirstFault known text 7 (length text)
    left-open o some = go so_far.model.inside refl
      where
        go : (i : Option Opened) → so_far.model.inside ≡ i → FirstFault known text 7 (length text)
        go None e =
            let h : inside_seen so_far.model.inside ≡ inside_seen (Rattle.prep_texts.specs.Drafts.inside_of d.names d.section d.entries d.table) = ap (λ (v : Seen). v.inside) so_far.alike in
            absurd (not_none (ap inside_seen (sym e) ∙ h ∙ ap (λ s. inside_seen (Rattle.prep_texts.specs.Drafts.inside_of d.names s d.entries d.table)) some))
          where
            not_none : {A : Type 0} {a : A} → None ≡ Some a → ⊥
            not_none h = cc
        go (Some p) e = so_far.faulty 7 (length text) (left_open p (here ended over) e)

-- ---- answers of calls

pub token-error : {A : Type 0} (f : TokenFault) (r : Result A Rattle.prep_texts.specs.declared.fault.PrepFault.PrepFault) (n byte : ℕ) (reader after : Reader)
    → Rattle.std.specs.Prelude.IsErrAnd r (λ e. e ≡ Rattle.prep_texts.specs.Faults.token_fault f) → r ≡ Err (Rattle.prep_texts.specs.declared.fault.PrepFault.TheVariants.Fault n byte)
    → Rattle.pl_tokens.specs.Runs.TakesRun reader (Err f) after → run_of reader ≡ fault_run n byte
token-error (TokenFaultOf m b) (Ok a) n byte reader after given is takes = absurd (cc)
token-error (TokenFaultOf m b) (Err e) n byte reader after given is takes =
    let number : m ≡ n = cc in
    let place : b ≡ byte = cc in
    takes.0 ∙ ap (λ k. fault_run k b) number ∙ ap (fault_run n) place
token-error NoTokenMemory (Ok a) n byte reader after given is takes = absurd (cc)
token-error NoTokenMemory (Err e) n byte reader after given is takes = absurd (cc)

pub same-error : {A B E : Type 0} (f g : E) (r : Result A E) → Rattle.std.specs.Prelude.IsErrAnd r (λ e. e ≡ f) → r ≡ Err g → ◌≡◌ {A = Result B E} (Err f) (Err g)
same-error f g (Ok a) given is = absurd (cc)
same-error f g (Err e) given is = let same : f ≡ g = cc in ap (λ x. Err x) same

pub at-end : (o : Option (List Token)) (reader after : Reader) → ((ts : List Token) → o ≡ Some ts → ⊥) → Rattle.pl_tokens.specs.Runs.TakesRun reader (Ok o) after → run_of reader ≡ ended
at-end None reader after none takes = takes.0
at-end (Some ts) reader after none takes = absurd (none ts refl)

pub is-none : {A : Type 0} (o : Option A) → Rattle.std.specs.Prelude.is_some o ≡ false → o ≡ None
is-none None h = refl
is-none (Some a) h = absurd (cc)

pub is-there : {A : Type 0} (o : Option A) → Rattle.std.specs.Prelude.is_some o ≡ true → (a : A) × (o ≡ Some a)
is-there None h = absurd (cc)
is-there (Some a) h = (a, refl)
