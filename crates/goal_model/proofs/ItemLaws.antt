-- The goals of a body bring no exits, and replacements keep exits and cuts.
use Rattle.std.proofs.Common.{◌≡◌, ℕ, Bool, true, false, List, [], ◌∷◌, ◌++◌, refl, sym, ap, ◌∙◌, subst, append_assoc, map, codes, if◌then◌else◌}
use Rattle.pl_terms.specs.Trees.{Tree, var, int, atom, comp, nil, cons}
use Rattle.solver_model.specs.Search.{Call, Cut, Pop, Fail, Catches, FrameOf, outs_of, pops}
use Rattle.solver_model.specs.Configurations.{AllBelow, Clear, ItemsOk}
use Rattle.solver_model.proofs.FrameLaws.{append-nil}
use Rattle.builtin_model.specs.Naming.{Naming}
use Rattle.goal_model.specs.Program.{Program}
use Rattle.goal_model.specs.Environments.{Environment}
use Rattle.goal_model.specs.Bodies.{Goal, is_named, flat}
use Rattle.goal_model.specs.Table.{Items, Recovery, shown, item_under, body_items, prolog}

pub pops-under : {N : Type 0} (bs : List (ℕ × Tree N)) (items : Items N) → pops (map (item_under bs) items) ≡ pops items
pops-under bs [] = refl
pops-under bs (Call g ∷ items) = pops-under bs items
pops-under bs (Cut d ∷ items) = pops-under bs items
pops-under bs (Pop d ∷ items) = ap (λ l. d ∷ l) (pops-under bs items)
pops-under bs (Fail ∷ items) = pops-under bs items

module _ {N : Type 0} (n : Naming N) where
  -- a conjunction, or one goal
  by_parts : (b : Bool) (l r one rest : Items N) → pops (l ++ (r ++ rest)) ≡ pops rest → pops (one ++ rest) ≡ pops rest → pops ((if b then l ++ r else one) ++ rest) ≡ pops rest
  by_parts true l r one rest h k = ap pops (append_assoc l r rest) ∙ h
  by_parts false l r one rest h k = k

  pub pops-flat : (t : Tree N) (env : Environment N) (d : ℕ) (rest : Items N) → pops (flat n t env d ++ rest) ≡ pops rest
  pops-flat (var v) env d rest = refl
  pops-flat (int z) env d rest = refl
  pops-flat (atom s) env d rest = refl
  pops-flat (comp f nil) env d rest = refl
  pops-flat (comp f (cons l nil)) env d rest = refl
  pops-flat (comp f (cons l (cons r (cons t ts)))) env d rest = refl
  pops-flat (comp f (cons l (cons r nil))) env d rest =
      by_parts (is_named n f (codes ",")) (flat n l env d) (flat n r env d)
      (Call (record { tree = comp f (cons l (cons r nil)); env = env; reach = d }) ∷ [])
      rest
      (pops-flat l env d (flat n r env d ++ rest) ∙ pops-flat r env d rest)
      refl

  -- the goals of a body alone
  pub pops-goals : (t : Tree N) (env : Environment N) (d : ℕ) → pops (flat n t env d) ≡ []
  pops-goals t env d = ap pops (sym (append-nil (flat n t env d))) ∙ pops-flat t env d []

  pub pops-body : (t : Tree N) (env : Environment N) (d : ℕ) (rest : Items N) → pops (body_items n t env d ++ rest) ≡ pops rest
  pops-body (var v) env d rest = refl
  pops-body (int z) env d rest = refl
  pops-body (atom s) env d rest = go (is_named n s (codes "true"))
    where
      go : (b : Bool) → pops ((if b then [] else flat n (atom s) env d) ++ rest) ≡ pops rest
      go true = refl
      go false = refl
  pops-body (comp f ts) env d rest = pops-flat (comp f ts) env d rest

module _ {N : Type 0} (n : Naming N) (same : N → N → Bool) where
  module _ (p : Program N) (fs : List (FrameOf (prolog n same p))) where
    -- what stands before the rest is as good as the rest
    pub record Fits (items rest : Items N) : Type 0 where
      pub ok : ItemsOk (prolog n same p) fs items
      pub exits : pops items ≡ pops rest

    pub Clear-before : (d : ℕ) (items rest : Items N) → pops items ≡ pops rest → Clear (prolog n same p) fs d rest → Clear (prolog n same p) fs d items
    Clear-before d items rest e h = (subst (AllBelow (prolog n same p) d) (sym e) h.0, h.1)

    one_fits : (g : Goal N) (rest : Items N) → Clear (prolog n same p) fs g.reach rest → ItemsOk (prolog n same p) fs rest → Fits (Call g ∷ [] ++ rest) rest
    one_fits g rest h ok = record { ok = (h, ok); exits = refl }

    parts_fit : (b : Bool) (l r one rest : Items N) → Fits (l ++ (r ++ rest)) rest → Fits (one ++ rest) rest → Fits ((if b then l ++ r else one) ++ rest) rest
    parts_fit true l r one rest h k = record { ok = subst (ItemsOk (prolog n same p) fs) (sym (append_assoc l r rest)) h.ok; exits = ap pops (append_assoc l r rest) ∙ h.exits }
    parts_fit false l r one rest h k = k

    pub flat_fits : (t : Tree N) (env : Environment N) (d : ℕ) (rest : Items N) → Clear (prolog n same p) fs d rest → ItemsOk (prolog n same p) fs rest → Fits (flat n t env d ++ rest) rest
    flat_fits (var v) env d rest h ok = record { ok = (h, ok); exits = refl }
    flat_fits (int z) env d rest h ok = record { ok = (h, ok); exits = refl }
    flat_fits (atom s) env d rest h ok = record { ok = (h, ok); exits = refl }
    flat_fits (comp f nil) env d rest h ok = record { ok = (h, ok); exits = refl }
    flat_fits (comp f (cons l nil)) env d rest h ok = record { ok = (h, ok); exits = refl }
    flat_fits (comp f (cons l (cons r (cons t ts)))) env d rest h ok = record { ok = (h, ok); exits = refl }
    flat_fits (comp f (cons l (cons r nil))) env d rest h ok =
        let second = flat_fits r env d rest h ok in
        let first = flat_fits l env d (flat n r env d ++ rest) (Clear-before d (flat n r env d ++ rest) rest second.exits h) second.ok in
        parts_fit (is_named n f (codes ",")) (flat n l env d) (flat n r env d)
        (Call (record { tree = comp f (cons l (cons r nil)); env = env; reach = d }) ∷ [])
        rest
        (record { ok = first.ok; exits = first.exits ∙ second.exits })
        (record { ok = (h, ok); exits = refl })

    pub body_fits : (t : Tree N) (env : Environment N) (d : ℕ) (rest : Items N) → Clear (prolog n same p) fs d rest → ItemsOk (prolog n same p) fs rest → Fits (body_items n t env d ++ rest) rest
    body_fits (var v) env d rest h ok = flat_fits (var v) env d rest h ok
    body_fits (int z) env d rest h ok = flat_fits (int z) env d rest h ok
    body_fits (atom s) env d rest h ok = go (is_named n s (codes "true"))
      where
        go : (b : Bool) → Fits ((if b then [] else flat n (atom s) env d) ++ rest) rest
        go true = record { ok = ok; exits = refl }
        go false = record { ok = (h, ok); exits = refl }
    body_fits (comp f ts) env d rest h ok = flat_fits (comp f ts) env d rest h ok

    pub ItemsOk-under : (bs : List (ℕ × Tree N)) (items : Items N) → ItemsOk (prolog n same p) fs items → ItemsOk (prolog n same p) fs (map (item_under bs) items)
    ItemsOk-under bs [] h = tt
    ItemsOk-under bs (Call g ∷ items) h = (Clear-before g.reach (map (item_under bs) items) items (pops-under bs items) h.0, ItemsOk-under bs items h.1)
    ItemsOk-under bs (Cut d ∷ items) h = (Clear-before d (map (item_under bs) items) items (pops-under bs items) h.0, ItemsOk-under bs items h.1)
    ItemsOk-under bs (Pop d ∷ items) h = (subst (AllBelow (prolog n same p) d) (sym (pops-under bs items)) h.0, ItemsOk-under bs items h.1)
    ItemsOk-under bs (Fail ∷ items) h = ItemsOk-under bs items h

-- a catch in front changes nothing of the items
pub ItemsOk-catch : {N : Type 0} (n : Naming N) (same : N → N → Bool) (p : Program N) (e : ℕ) (r : Recovery N) (fs : List (FrameOf (prolog n same p))) (items : Items N) → ItemsOk (prolog n same p) fs items → ItemsOk (prolog n same p) (Catches e r ∷ fs) items
ItemsOk-catch n same p e r fs [] h = tt
ItemsOk-catch n same p e r fs (Call g ∷ items) h = (h.0, ItemsOk-catch n same p e r fs items h.1)
ItemsOk-catch n same p e r fs (Cut d ∷ items) h = (h.0, ItemsOk-catch n same p e r fs items h.1)
ItemsOk-catch n same p e r fs (Pop d ∷ items) h = (h.0, ItemsOk-catch n same p e r fs items h.1)
ItemsOk-catch n same p e r fs (Fail ∷ items) h = ItemsOk-catch n same p e r fs items h

-- what a built-in predicate shows is output alone
pub outs_of-shown : {N : Type 0} (bytes : List ℕ) → outs_of (shown {N = N} bytes) ≡ shown bytes
outs_of-shown [] = refl
outs_of-shown (b ∷ bytes) = refl
