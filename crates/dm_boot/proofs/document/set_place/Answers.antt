-- A name that has no place gets this one.
use Rattle.dm_boot.proofs.Imports.{◌≡◌, ◌∙◌, None, ap, sym, hash_map_updates_str, bytes_eq-Decides, bytes_eq, place_in}
use Rattle.dm_boot.proofs.Named.{is_absent, is_put}
use Rattle.dm_boot.proofs.document.set_place.Goals as goal

pub returns-in_ok-insert-clause-ok : goal.returns-in_ok-insert-clause-ok
returns-in_ok-insert-clause-ok c = λ q.
    let absent : place_in c.args.places.now c.args.name.now ≡ None = is_absent (place_in c.args.places.now c.args.name.now) (sym c.contains_key.ensures ∙ c.if-not-contains_key.true) in
    hash_map_updates_str c.args.name.now c.args.places.now c.insert.new.map _ c.in_ok-insert.ensures.updates q
    ∙ is_put (bytes_eq c.args.name.now q) (place_in c.args.places.now q) c.args.place
    (λ same. ap (place_in c.args.places.now) (sym ((bytes_eq-Decides c.args.name.now q).0 same)) ∙ absent)
