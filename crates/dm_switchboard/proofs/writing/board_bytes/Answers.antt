use Rattle.dm_switchboard.proofs.Imports.{◌≡◌, ◌∙◌, length, sym, arith, listed, named}
use Rattle.std.proofs.lemmas.List.{length-map}
use Rattle.dm_switchboard.proofs.Loops.{whole_put}
use Rattle.dm_switchboard.proofs.writing.board_bytes.Goals as goal

pub returns-clause-put : goal.returns-clause-put
returns-clause-put c =
    let es = c.args.names.now.entries in
    let count : c.count_of-count.result ≡ length (listed es) = c.count_of-count.ensures.count ∙ sym (length-map es named) in
    whole_put (listed es) c.args.sent c.args.moves c.count_of-count.result c.in_ok-bytes.bytes.items c.extend_with_names.new.out.items count c.in_ok-bytes.ensures.put c.in_ok-extend_with_names.ensures.ok

pub returns-clause-fits : goal.returns-clause-fits
returns-clause-fits c =
    let es = c.args.names.now.entries in
    record { few = omega (arith, c.requires, length-map es named); names = c.in_ok-extend_with_names.ensures.fits; sent = c.front_bytes.ensures.sent; moves = c.front_bytes.ensures.moves }
