-- What a token does, from what the code found of it.
use Rattle.std.proofs.Common.{◌≡◌, ℕ, List, Bool, true, false, ◌&&◌, ◌||◌, Option, Some, None, refl, sym, ap, ◌∙◌, subst, if◌then◌else◌}
use Rattle.std.specs.Prelude.{codes, is_some}
use Rattle.pl_ops.specs.Tables.{Operators, same_text}
use Rattle.pl_ops.specs.declared.op.Op.{Op as Operator}
use Rattle.text_model.specs.Tokens.{Lexeme, name, integer, punctuation, Token as ModelToken}
use Rattle.text_model.specs.Grammar.{operand, before, calls}
use Rattle.pl_terms.specs.Trees.{atom, int}
use Rattle.text_model.specs.Reading.{Move, at_operand, at_operator, is_call, is_closer, prefix_of, infix_of, postfix_of, name_move, minus_move, negative, first_of, operand_move}
use Rattle.pl_tokens.specs.declared.token.TokenKind.TheVariants.{Int as Numeral}
use Rattle.pl_atoms.specs.declared.names.NameId.{NameId}
use Rattle.pl_terms.specs.declared.cell.Cell.TheVariants.{Int, Name}
use Rattle.pl_reader.specs.Stands.{id}
use Rattle.pl_reader.specs.Moves.{MoveIs, SymbolIs, KindIs}
use Rattle.pl_reader.specs.declared.machine.ParseItem.TheVariants.{Operand}
use Rattle.pl_reader.specs.declared.classes.Symbol.TheVariants.{Word, Number, Mark}
use Rattle.pl_reader.specs.declared.classes.ItemMove.{ItemMove}

module _ (num : List ℕ → ℕ) (look : Operators) where
  abbrev pub signed : ℕ → ItemMove
  signed n = record { item = Operand (Int (negative look n)); more = 1; to_operand = false }

  abbrev signed_move : ℕ → Move
  signed_move n = record { item = operand (int (negative look n)); more = 1; place = at_operator }

  when_signed : (b : Bool) (n : ℕ) (r : Option ItemMove) → r ≡ (if b then Some (signed n) else None) → MoveIs num r (if b then Some (signed_move n) else None)
  when_signed true n r e = let P : Option ItemMove → Type 0 = λ x. MoveIs num x (Some (signed_move n)) in subst P (sym e) (refl, refl, refl)
  when_signed false n r e = let P : Option ItemMove → Type 0 = λ x. MoveIs num x None in subst P (sym e) tt

  pub minus_int : (s : List ℕ) (n : ℕ) (l : Lexeme ℕ) (byte : ℕ) (d e : Bool) (r : Option ItemMove) → KindIs (Numeral n) l → d ≡ e → r ≡ (if same_text s (codes "-") && d then Some (signed n) else None) → MoveIs num r (minus_move look s (record { lexeme = l; byte = byte; direct = e }))
  minus_int s n (integer m) byte d e r h k is =
      when_signed (same_text s (codes "-") && e) m r (is ∙ ap (λ x. if same_text s (codes "-") && x then Some (signed n) else None) k ∙ ap (λ x. if same_text s (codes "-") && e then Some (signed x) else None) h)
  minus_int s n _ byte d e r h k is = absurd h

  pub first_some : (m k : Option Move) (x : ItemMove) → MoveIs num (Some x) m → MoveIs num (Some x) (first_of look m k)
  first_some None k x h = absurd h
  first_some (Some m) k x h = h

  -- a name by what is known of it
  abbrev name_by : List ℕ → Bool → Bool → Option Operator → Bool → Option Move
  name_by s called closed o other =
      if called then Some (record { item = calls s; more = 1; place = at_operand })
      else if (if is_some o || other then closed else true) then Some (record { item = operand (atom s); more = 0; place = at_operator })
      else elim o [ None ↦ None | Some p ↦ Some (record { item = before p s; more = 0; place = at_operand }) ]

  abbrev plain : NameId → ItemMove
  plain n = record { item = Operand (Name n); more = 0; to_operand = false }

  name_other : (s : List ℕ) (n : NameId) (other : Bool) (r : Option ItemMove) → n ≡ id num s → r ≡ (if other then None else Some (plain n)) → MoveIs num r (name_by s false false None other)
  name_other s n true r h e = let P : Option ItemMove → Type 0 = λ x. MoveIs num x None in subst P (sym e) tt
  name_other s n false r h e = let P : Option ItemMove → Type 0 = λ x. MoveIs num x (Some (record { item = operand (atom s); more = 0; place = at_operator })) in subst P (sym e) (ap (λ x. Rattle.std.proofs.Common.◌∷◌ (Name x) Rattle.std.proofs.Common.[]) (sym h), refl, refl)

  pub name_plain : (s : List ℕ) (n : NameId) (t : ModelToken ℕ) (r : Option ItemMove) → false ≡ is_call t → false ≡ is_closer t → None ≡ prefix_of look s → r ≡ (if is_some (infix_of look s) || is_some (postfix_of look s) then None else Some (plain n)) → n ≡ id num s → MoveIs num r (name_move look s t)
  name_plain s n t r call close none is h =
      let other = is_some (infix_of look s) || is_some (postfix_of look s) in
      let same : name_by s false false None other ≡ name_move look s t =
      ap (λ b. name_by s b false None other) call ∙ ap (λ b. name_by s (is_call t) b None other) close ∙ ap (λ o. name_by s (is_call t) (is_closer t) o other) none in
      subst (MoveIs num r) same (name_other s n other r h is)

  pub at_word : (n : NameId) (text : List ℕ) (l : Lexeme ℕ) (t u : ModelToken ℕ) (r : Option ItemMove) → SymbolIs num (Word n) text l → (n ≡ id num text → MoveIs num r (operand_move look (name text) t u)) → MoveIs num r (operand_move look l t u)
  at_word n text (name s) t u r h m = subst (λ x. MoveIs num r (operand_move look (name x) t u)) h.1 (m (h.0 ∙ ap (id num) (sym h.1)))
  at_word n text _ t u r h m = absurd h

  pub at_number : (n : ℕ) (text : List ℕ) (l : Lexeme ℕ) (t u : ModelToken ℕ) (r : Option ItemMove) → SymbolIs num (Number n) text l → MoveIs num r (operand_move look (integer n) t u) → MoveIs num r (operand_move look l t u)
  at_number n text (integer k) t u r h m = subst (λ x. MoveIs num r (operand_move look (integer x) t u)) h m
  at_number n text _ t u r h m = absurd h

  pub at_mark : (n : ℕ) (text : List ℕ) (l : Lexeme ℕ) (t u : ModelToken ℕ) (r : Option ItemMove) → SymbolIs num (Mark n) text l → MoveIs num r (operand_move look (punctuation n) t u) → MoveIs num r (operand_move look l t u)
  at_mark n text (punctuation k) t u r h m = subst (λ x. MoveIs num r (operand_move look (punctuation x) t u)) h m
  at_mark n text _ t u r h m = absurd h
