-- The modules that exist, by the names of interfaces.
use Rattle.std.proofs.Common.{◌≡◌, ℕ, ◌+◌, ◌<◌, ◌≤◌, List, [], ◌∷◌, ◌++◌, length, map, take, get_or, Bool, true, false, ◌||◌, cond, refl, sym, ap, subst, ◌∙◌}
use Rattle.std.specs.List.{flat_map, filter_map, list_any}
use Rattle.std.proofs.lemmas.Bool.{or_left}
use Rattle.std.proofs.lemmas.List.{append-nil, map-append, take_more, take_all}
use Rattle.std.proofs.lemmas.List.Concat.{flat_map-append}
use Rattle.std.proofs.lemmas.List.Folds.{list_any-append}
use Rattle.pl_atoms.specs.Names.{same_text, with_text, with_texts}
use Rattle.pl_atoms.proofs.Texts.{list_any-map, same_text-is, same_text-itself}
use Rattle.unit_model.specs.Facts.{section_by}
use Rattle.unit_model.specs.Directives.{Text}
use Rattle.unit_model.specs.Encoding.{text_at}
use Rattle.unit_model.specs.Preparing.{Interface}
use Rattle.unit_model.specs.Views.{section_view}
use Rattle.unit_model.specs.declared.facts.SectionKind.{SectionKind}
use Rattle.unit_model.specs.declared.facts.SectionKind.TheVariants.{Interface as IsInterface, Body as IsBody}
use Rattle.unit_model.specs.declared.facts.Section.{Section}
use Rattle.unit_format.specs.Views.{unit_facts}
use Rattle.unit_format.specs.declared.unit.Unit.{Unit as ReadUnit}
use Rattle.unit_model.specs.Known.{interface_of, interfaces_of}
use Rattle.link_model.specs.Places.{user, system}
use Rattle.mod_visible.specs.Existing.{interface_name, interface_names, unit_interfaces, always}
use Rattle.mod_visible.specs.Visibility.{AreModules}

-- ---- interned texts

with_texts-append : (texts xs ys : List Text) → with_texts texts (xs ++ ys) ≡ with_texts (with_texts texts xs) ys
with_texts-append texts [] ys = refl
with_texts-append texts (x ∷ xs) ys = with_texts-append (with_text texts x) xs ys

same_text-back : (s t : Text) → same_text s t ≡ same_text t s
same_text-back s t = go (same_text s t) refl (same_text t s) refl
  where
    go : (a : Bool) → same_text s t ≡ a → (b : Bool) → same_text t s ≡ b → same_text s t ≡ same_text t s
    go true e true f = e ∙ sym f
    go false e false f = e ∙ sym f
    go true e false f = absurd (let g : false ≡ true = sym f ∙ subst (λ x. same_text t x ≡ true) (sym (same_text-is s t e)) (same_text-itself t) in cc)
    go false e true f = absurd (let g : false ≡ true = sym e ∙ subst (λ x. same_text s x ≡ true) (sym (same_text-is t s f)) (same_text-itself s) in cc)

or_false : (b : Bool) → (b || false) ≡ b
or_false true = refl
or_false false = refl

or_assoc : (a b c : Bool) → ((a || b) || c) ≡ (a || (b || c))
or_assoc true b c = refl
or_assoc false b c = refl

any_with_text : (m t : Text) (texts : List Text) → list_any (same_text m) (with_text texts t) ≡ (list_any (same_text m) texts || same_text t m)
any_with_text m t texts = go (list_any (same_text t) texts) refl (same_text m t) refl ∙ ap (λ b. list_any (same_text m) texts || b) (same_text-back m t)
  where
    go : (b : Bool) → list_any (same_text t) texts ≡ b → (c : Bool) → same_text m t ≡ c → list_any (same_text m) (cond b texts (texts ++ t ∷ [])) ≡ (list_any (same_text m) texts || same_text m t)
    go false e c f = list_any-append (same_text m) texts (t ∷ []) ∙ ap (λ x. list_any (same_text m) texts || x) (or_false (same_text m t))
    go true e false f = sym (or_false (list_any (same_text m) texts)) ∙ ap (λ x. list_any (same_text m) texts || x) (sym f)
    go true e true f =
        let there : list_any (same_text m) texts ≡ true = subst (λ x. list_any (same_text x) texts ≡ true) (sym (same_text-is m t f)) e in
        there ∙ sym (or_left (list_any (same_text m) texts) (same_text m t) there)

any_with_texts : (m : Text) (texts ts : List Text) → list_any (same_text m) (with_texts texts ts) ≡ (list_any (same_text m) texts || list_any (λ t. same_text t m) ts)
any_with_texts m texts [] = sym (or_false (list_any (same_text m) texts))
any_with_texts m texts (t ∷ ts) =
    any_with_texts m (with_text texts t) ts ∙ ap (λ b. b || list_any (λ x. same_text x m) ts) (any_with_text m t texts)
    ∙ or_assoc (list_any (same_text m) texts) (same_text t m) (list_any (λ x. same_text x m) ts)

-- ---- names of interfaces

names_of-sections : (names : List Text) (ss : List Section) → interface_names names ss ≡ map (λ (i : Interface). i.of) (filter_map interface_of (map (section_by (text_at names)) (map section_view ss)))
names_of-sections names [] = refl
names_of-sections names (s ∷ ss) = go s.kind refl (names_of-sections names ss)
  where
    rest : List Interface
    rest = filter_map interface_of (map (section_by (text_at names)) (map section_view ss))

    go : (k : SectionKind) → s.kind ≡ k → interface_names names ss ≡ map (λ (i : Interface). i.of) (filter_map interface_of (map (section_by (text_at names)) (map section_view ss)))
        → interface_names names (s ∷ ss) ≡ map (λ (i : Interface). i.of) (filter_map interface_of (map (section_by (text_at names)) (map section_view (s ∷ ss))))
    go IsInterface e ih = rw e (ap (λ (l : List Text). text_at names s.module.0 ∷ l) ih)
    go IsBody e ih = rw e ih

names_of-units : (us : List ReadUnit) → unit_interfaces us ≡ map (λ (i : Interface). i.of) (flat_map interfaces_of (map unit_facts us))
names_of-units [] = refl
names_of-units (u ∷ us) =
    ap (λ l. l ++ unit_interfaces us) (names_of-sections u.names u.facts.sections)
    ∙ ap (λ l. map (λ (i : Interface). i.of) (interfaces_of (unit_facts u)) ++ l) (names_of-units us)
    ∙ sym (map-append (λ (i : Interface). i.of) (interfaces_of (unit_facts u)) (flat_map interfaces_of (map unit_facts us)))

-- ---- the loops

pub sections_more : (names start old new : List Text) (ss : List Section) (k : ℕ) (s : Section) → k < length ss → s ≡ get_or ss k s → old ≡ with_texts start (interface_names names (take k ss)) → new ≡ with_texts old (interface_name names s)
    → new ≡ with_texts start (interface_names names (take (k + 1) ss))
sections_more names start old new ss k s lt is h step =
    step ∙ ap (λ l. with_texts l (interface_name names s)) h ∙ sym (with_texts-append start (interface_names names (take k ss)) (interface_name names s))
    ∙ ap (λ l. with_texts start (interface_names names (take k ss) ++ l)) (sym (append-nil (interface_name names s)))
    ∙ ap (with_texts start) (sym (flat_map-append (interface_name names) (take k ss) (s ∷ [])))
    ∙ ap (λ (x : Section). with_texts start (interface_names names (take k ss ++ x ∷ []))) is
    ∙ ap (λ l. with_texts start (interface_names names l)) (sym (take_more ss k s lt))

pub units_more : (start old new : List Text) (us : List ReadUnit) (k : ℕ) (u : ReadUnit) (ss : List Section) → k < length us → u ≡ get_or us k u → ss ≡ u.facts.sections
    → old ≡ with_texts start (unit_interfaces (take k us)) → new ≡ with_texts old (interface_names u.names ss) → new ≡ with_texts start (unit_interfaces (take (k + 1) us))
units_more start old new us k u ss lt is sections h step =
    let one : ReadUnit → List Text = λ x. interface_names x.names x.facts.sections in
    step ∙ ap (λ l. with_texts old (interface_names u.names l)) sections ∙ ap (λ l. with_texts l (one u)) h ∙ sym (with_texts-append start (unit_interfaces (take k us)) (one u))
    ∙ ap (λ l. with_texts start (unit_interfaces (take k us) ++ l)) (sym (append-nil (one u)))
    ∙ ap (with_texts start) (sym (flat_map-append one (take k us) (u ∷ [])))
    ∙ ap (λ (x : ReadUnit). with_texts start (unit_interfaces (take k us ++ x ∷ []))) is
    ∙ ap (λ l. with_texts start (unit_interfaces l)) (sym (take_more us k u lt))

pub units_all : (us : List ReadUnit) (k : ℕ) (ms : List Text) → length us ≤ k → ms ≡ with_texts always (unit_interfaces (take k us)) → AreModules (map unit_facts us) ms
units_all us k ms le h m =
    let is = λ (i : Interface). i.of in
    let all = flat_map interfaces_of (map unit_facts us) in
    let test = λ (t : Text). same_text t m in
    ap (list_any (same_text m)) (h ∙ ap (λ l. with_texts always (unit_interfaces l)) (take_all k us le))
    ∙ any_with_texts m always (unit_interfaces us)
    ∙ ap (λ l. list_any (same_text m) always || list_any test l) (names_of-units us)
    ∙ ap (λ b. list_any (same_text m) always || b) (list_any-map is test all)
    ∙ ap (λ b. (same_text m user || b) || list_any (λ (i : Interface). test i.of) all) (or_false (same_text m system))
    ∙ or_assoc (same_text m user) (same_text m system) (list_any (λ (i : Interface). test i.of) all)
