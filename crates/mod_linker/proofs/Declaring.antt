-- Modes, entry by entry.
use Rattle.std.proofs.Common.{◌≡◌, ℕ, ◌+◌, ◌<◌, List, [], ◌∷◌, length, take, get_or, Bool, nat_eq, ap, sym, ◌∙◌}
use Rattle.std.specs.Map.{lookup}
use Rattle.std.specs.Option.{option_or}
use Rattle.std.proofs.lemmas.List.{map-append}
use Rattle.program_model.specs.Saying.{modes_in, modes_said}
use Rattle.mod_faults.proofs.Units.{more_taken}
use Rattle.mod_linker.specs.declared.items.Item.{Item}
use Rattle.mod_linker.specs.declared.key.Key.{Key}
use Rattle.mod_linker.specs.Items.{item_view, items_view}
use Rattle.mod_linker.specs.Keys.{ind_of, same_key, AreDeclared}
use Rattle.mod_linker.proofs.Saying.{modes-push}

pub declared-more : (items : List Item) (k : ℕ) (x : Item) (table new : List (Key × List Bool)) → k < length items → x ≡ get_or items k x → AreDeclared (items_view (take k items)) table
    → ((j : Key) → lookup (same_key j) new ≡ option_or (modes_in nat_eq j.home (ind_of j) (item_view x).of (item_view x).what) (lookup (same_key j) table)) → AreDeclared (items_view (take (k + 1) items)) new
declared-more items k x table new lt is h step = λ j.
    step j ∙ ap (option_or (modes_in nat_eq j.home (ind_of j) (item_view x).of (item_view x).what)) (h j)
    ∙ sym (modes-push nat_eq j.home (ind_of j) (items_view (take k items)) (item_view x))
    ∙ ap (λ l. modes_said nat_eq l j.home (ind_of j)) (sym (ap items_view (more_taken items k x lt is) ∙ map-append item_view (take k items) (x ∷ [])))
