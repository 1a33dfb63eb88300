-- Nothing is found before the first element, each element gives its name a place, and behind the last all are found.
use Rattle.dm_boot.proofs.Imports.{◌+◌, ℕ, List, None, Some, if◌then◌else◌, bytes_eq, refl, ap, sym, ◌∙◌, drop, Items, items_view, view, is_named, option_or, place_in, element_place, element_place_from}
use Rattle.dm_boot.proofs.Elements.{element_at, no_more}
use Rattle.dm_boot.proofs.Named.{or_none, put_more}
use Rattle.dm_boot.proofs.document.places_of.Goals as goal

pub loop-i-init : goal.loop-i-init
unfolding element_place
loop-i-init c = λ q. rw c.new-places.ensures.empty refl

pub loop-i-preserved : goal.loop-i-preserved
loop-i-preserved c = λ q.
    let vs = c.args.items.now in
    let i = c.loop-i.i in
    let old = place_in c.loop-i.places q in
    let rest = element_place_from (i + 1) q (items_view (drop (i + 1) vs)) in
    put_more (is_named q (view c.index-items-i.result)) old (place_in c.set_place.new.places q) rest i
    (c.in_ok-set_place.ensures.ok q ∙ ap (λ (name : List ℕ). option_or old (if bytes_eq name q then Some i else None)) c.text_at.ensures)
    ∙ ap (λ (ts : Items). option_or old (element_place_from i q ts)) (sym (element_at vs i c.index-items-i.result c.loop-i-test.true c.index-items-i.is))
    ∙ c.loop-i.invariant q

pub returns : goal.returns
returns c = λ q.
    let vs = c.args.items.now in
    let i = c.loop-i.i in
    sym (or_none (place_in c.loop-i.places q))
    ∙ ap (λ (ts : Items). option_or (place_in c.loop-i.places q) (element_place_from i q ts)) (sym (no_more vs i c.loop-i-test.false))
    ∙ c.loop-i.invariant q
