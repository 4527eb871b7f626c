-- Where a goal runs (ISO/IEC 13211-2, 6.1): environments, and the arguments of metapredicates.
use Rattle.std.specs.Prelude.{List, [], ◌∷◌, codes, Bool, true, false, if◌then◌else◌}
use Rattle.pl_atoms.specs.Names.{same_text}
use Rattle.pl_terms.specs.Trees.{Tree, atom, comp, Trees, nil, cons}
use Rattle.builtin_model.specs.Naming.{Naming}
use Rattle.builtin_model.specs.Faults.{term_of_two}

pub record Environment (N : Type 0) : Type 0 where
  -- the lookup module
  pub lookup : N
  -- the calling context
  pub context : N
  -- the caller, which is the calling context of the clause's own call
  pub caller : N

-- where the goals among the arguments of control constructs run
abbrev pub argument_place : {N : Type 0} → Environment N → Environment N
argument_place env = record { lookup = env.context; context = env.context; caller = env.caller }

-- where the body of a clause of module d runs that is called in a context, and is one of a metapredicate or not
abbrev pub body_place : {N : Type 0} → N → N → Bool → Environment N
body_place d context true = record { lookup = d; context = d; caller = context }
body_place d context false = record { lookup = d; context = d; caller = d }

module _ {N : Type 0} (n : Naming N) where
  -- M:T with M an atom
  abbrev pub is_qualified : Tree N → Bool
  is_qualified (comp f (cons (atom m) (cons t nil))) = same_text (n.text f) (codes ":")
  is_qualified _ = false

  abbrev pub in_context : N → Bool → Tree N → Tree N
  in_context context true t = if is_qualified t then t else term_of_two n (codes ":") (atom context) t
  in_context context false t = t

  -- the arguments of a metapredicate that is called in a context
  abbrev pub qualified : List Bool → N → Trees N → Trees N
  qualified [] context ts = ts
  qualified (b ∷ bs) context nil = nil
  qualified (b ∷ bs) context (cons t ts) = cons (in_context context b t) (qualified bs context ts)
