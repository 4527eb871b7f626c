use Rattle.std.proofs.Common.{List, length, get_or, ap, sym, subst, ◌∙◌, ◌≡◌, ◌<◌, arith}
use Rattle.std.proofs.lemmas.List.{length-map, get_or-map}
use Rattle.mod_visible.specs.declared.takers.Taker.{Taker}
use Rattle.mod_visible.specs.declared.takers.Link.{Link}
use Rattle.mod_visible.specs.Takers.{takers_in, IsLast}
use Rattle.mod_visible.proofs.SpreadLaws.{IsWalked, sources, walk_start, walk_more, walk_end, walk_less}
use Rattle.mod_visible.proofs.closing.Closing.spread.Goals as goal

takers_long : (links : List Link) → length (takers_in links) ≡ length links
takers_long links = length-map links (λ (l : Link). l.taker)

sources_long : (links : List Link) → length (sources (takers_in links)) ≡ length (takers_in links)
sources_long links = length-map (takers_in links) (λ (t : Taker). t.source)

pub loop-at-init : goal.loop-at-init
loop-at-init c =
    let links = c.args.takers.now.links.items in
    let last = subst (λ n. IsLast (sources (takers_in links)) n c.args.source c.last-at.result) (sym (takers_long links)) (subst (IsLast (sources (takers_in links)) (length links) c.args.source) (sym c.last-at.ensures) (c.requires.last c.args.source)) in
    walk_start c.args.source (takers_in links) c.args.given c.args.self.now.found.keys c.args.self.now.causes.items c.last-at.result last (sources_long links)

pub link-link-requires : goal.link-link-requires
link-link-requires c =
    let links = c.args.takers.now.links.items in
    let w = subst (IsWalked c.args.source (takers_in links) c.args.given c.args.self.now.found.keys c.args.self.now.causes.items c.loop-at.self.found.keys c.loop-at.self.causes.items) c.in-Some.is c.loop-at.invariant in
    omega (arith, w.next.0, sources_long links, takers_long links)

pub loop-at-preserved : goal.loop-at-preserved
loop-at-preserved c =
    let links = c.args.takers.now.links.items in
    let j = c.in-Some.place in
    let l = c.link-link.result in
    let w = subst (IsWalked c.args.source (takers_in links) c.args.given c.args.self.now.found.keys c.args.self.now.causes.items c.loop-at.self.found.keys c.loop-at.self.causes.items) c.in-Some.is c.loop-at.invariant in
    let within : j < length links = omega (arith, w.next.0, sources_long links, takers_long links) in
    let taker_is : get_or (takers_in links) j l.taker ≡ l.taker = get_or-map (λ (x : Link). x.taker) links j l l.taker within ∙ ap (λ (x : Link). x.taker) c.link-link.ensures in
    walk_more c.args.source (takers_in links) c.args.given c.args.self.now.found.keys c.args.self.now.causes.items c.loop-at.self.found.keys c.take.new.self.found.keys c.loop-at.self.causes.items c.take.new.self.causes.items j l.taker l.earlier
    w taker_is (c.requires.earlier j l within c.link-link.ensures) (sources_long links) c.in_ok-take.ensures.found c.in_ok-take.ensures.causes

pub loop-at-smaller : goal.loop-at-smaller
loop-at-smaller c =
    let links = c.args.takers.now.links.items in
    let j = c.in-Some.place in
    let l = c.link-link.result in
    let w = subst (IsWalked c.args.source (takers_in links) c.args.given c.args.self.now.found.keys c.args.self.now.causes.items c.loop-at.self.found.keys c.loop-at.self.causes.items) c.in-Some.is c.loop-at.invariant in
    let within : j < length links = omega (arith, w.next.0, sources_long links, takers_long links) in
    subst (λ o. Rattle.mod_visible.proofs.SpreadLaws.left_measure l.earlier < Rattle.mod_visible.proofs.SpreadLaws.left_measure o) (sym c.in-Some.is)
    (walk_less c.args.source (takers_in links) c.args.given c.args.self.now.found.keys c.args.self.now.causes.items c.loop-at.self.found.keys c.loop-at.self.causes.items j l.taker l.earlier (c.requires.earlier j l within c.link-link.ensures))

pub returns : goal.returns
returns c =
    let links = c.args.takers.now.links.items in
    walk_end c.args.source (takers_in links) c.args.given c.args.self.now.found.keys c.args.self.now.causes.items c.loop-at.self.found.keys c.loop-at.self.causes.items
    (subst (IsWalked c.args.source (takers_in links) c.args.given c.args.self.now.found.keys c.args.self.now.causes.items c.loop-at.self.found.keys c.loop-at.self.causes.items) c.in_default.is c.loop-at.invariant)
