-- Units link to the whole of their texts.
use Rattle.std.proofs.Common.{◌≡◌, List, [], ◌∷◌, ◌++◌, length, refl, sym, ap, subst, ◌∙◌, append_assoc}
use Rattle.std.specs.List.{flat_map}
use Rattle.std.proofs.lemmas.List.{append-nil}
use Rattle.unit_model.specs.Facts.{Facts}
use Rattle.unit_model.specs.Directives.{Text}
use Rattle.unit_model.specs.Prepared.{PreparingIsDecided}
use Rattle.link_model.specs.Places.{steps, places_of}
use Rattle.link_model.specs.Seeing.{causes}
use Rattle.link_model.specs.Faults.{unmet, repeated, missing, clashes, split_at, first_link, least}
use Rattle.link_model.specs.Texts.{known, AllAgree, Whole, prep_fault, linked, WholeFrom, all_prepared, faulty, one_more}
use Rattle.link_model.specs.Laws.{PreparedApart, PreparedTogether, PreparingReadsNeeds, WholeOfUnits, WholeIsOne}
use Rattle.link_model.proofs.TogetherLaws.{nil_parts, apart_is}

whole_is : (before : List (Facts Text)) (ts : List Text) (us : List (Facts Text)) → PreparedTogether before ts us → WholeFrom before ts (linked (before ++ us) (first_link (before ++ us)))
whole_is before [] [] h = subst (λ l. WholeFrom before [] (linked l (first_link l))) (sym (append-nil before)) (all_prepared before)
whole_is before [] (u ∷ us) h = absurd h
whole_is before (t ∷ ts) [] h = absurd h
whole_is before (t ∷ ts) (u ∷ us) h =
    let rest = subst (λ l. WholeFrom (before ++ u ∷ []) ts (linked l (first_link l))) (append_assoc before (u ∷ []) us) (whole_is (before ++ u ∷ []) ts us h.1) in
    one_more before t ts u (linked (before ++ u ∷ us) (first_link (before ++ u ∷ us))) h.0 rest

module _ (reads : PreparingReadsNeeds) where
  all_agree : (before : List (Facts Text)) (ts : List Text) (us : List (Facts Text)) → PreparedTogether before ts us → AllAgree before us
  all_agree before [] [] h = tt
  all_agree before [] (u ∷ us) h = absurd h
  all_agree before (t ∷ ts) [] h = absurd h
  all_agree before (t ∷ ts) (u ∷ us) h = (reads.agrees (known before) t u h.0, all_agree (before ++ u ∷ []) ts us h.1)

  joined : (before : List (Facts Text)) (ts : List Text) (us : List (Facts Text)) → PreparedApart ts us → AllAgree before us → PreparedTogether before ts us
  joined before [] [] h a = tt
  joined before [] (u ∷ us) h a = absurd h
  joined before (t ∷ ts) [] h a = absurd h
  joined before (t ∷ ts) (u ∷ us) h a = (reads.same h.0.0 (known before) t u h.0.1 a.0, joined (before ++ u ∷ []) ts us h.1 a.1)

pub whole_of : PreparingReadsNeeds → WholeOfUnits
whole_of reads = record {
  apart = λ ts us h none.
      let ps = places_of 0 us in
      let a = nil_parts (unmet us ++ repeated us ++ flat_map (missing ps) ps ++ clashes (causes ps)) (flat_map (λ x. split_at x.0 x.1) (steps [] ps)) none in
      let b = nil_parts (unmet us ++ repeated us ++ flat_map (missing ps) ps) (clashes (causes ps)) a.0 in
      let c = nil_parts (unmet us ++ repeated us) (flat_map (missing ps) ps) b.0 in
      let d = nil_parts (unmet us) (repeated us) c.0 in
      subst (λ w. WholeFrom [] ts w) (ap (λ l. linked us (least l)) none) (whole_is [] ts us (joined reads [] ts us h ((apart_is us).0 (d.0, d.1))));
  together = λ ts us h.
      let n = (apart_is us).1 (all_agree reads [] ts us h) in
      (n.0, n.1, whole_is [] ts us h);
}

one_whole : PreparingIsDecided → (us : List (Facts Text)) (ts : List Text) (v w : Whole) → WholeFrom us ts v → WholeFrom us ts w → v ≡ w
one_whole decided _ _ _ _ (all_prepared us) (all_prepared _) = refl
one_whole decided _ _ _ _ (faulty us t ts n byte h) (faulty _ _ _ m b k) =
    let e = (decided (known us) t).one_fault n m byte b h k in
    ap (λ x. prep_fault x (length us) byte) e.0 ∙ ap (prep_fault m (length us)) e.1
one_whole decided _ _ _ _ (faulty us t ts n byte h) (one_more _ _ _ g w k r) = absurd ((decided (known us) t).not_both g n byte k h)
one_whole decided _ _ _ _ (one_more us t ts f v h r) (faulty _ _ _ m b k) = absurd ((decided (known us) t).not_both f m b h k)
one_whole decided _ _ _ _ (one_more us t ts f v h r) (one_more _ _ _ g w k s) =
    let e : g ≡ f = (decided (known us) t).one_value g f k h in
    one_whole decided (us ++ f ∷ []) ts v w r (subst (λ x. WholeFrom (us ++ x ∷ []) ts w) e s)

pub whole_is_one : WholeIsOne
whole_is_one decided ts v w h k = one_whole decided [] ts v w h k
