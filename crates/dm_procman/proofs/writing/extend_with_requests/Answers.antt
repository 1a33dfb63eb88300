use Rattle.dm_procman.proofs.Names.{◌≤◌, ◌++◌, ◌∙◌, length, get_or, take, ap, subst, arith}
use Rattle.std.specs.List.{All, flat_map}
use Rattle.std.proofs.lemmas.List.{take_all}
use Rattle.dm_procman.specs.Packed.{FitsRequest, request}
use Rattle.dm_packet.proofs.Writes.{all_next, pieces_next, then_put}
use Rattle.dm_procman.proofs.Loops.{no_request}
use Rattle.dm_procman.proofs.writing.extend_with_requests.Goals as goal

pub loop-request-preserved : goal.loop-request-preserved
loop-request-preserved c =
    let xs = c.args.pending.now in
    let l = c.loop-request in
    let put = then_put c.args.out.now.items l.out.items c.extend_with_request.new.out.items (flat_map request.spell (take l.request-index xs)) (request.spell (get_or xs l.request-index no_request)) l.invariant.0 c.in_ok-extend_with_request.ensures.ok in
    (rw (pieces_next request.spell xs l.request-index no_request c.loop-request-test.true) put, all_next FitsRequest xs l.request-index no_request c.loop-request-test.true l.invariant.1 c.in_ok-extend_with_request.ensures.fits)

pub returns-clause-ok : goal.returns-clause-ok
returns-clause-ok c =
    let xs = c.args.pending.now in
    let past : length xs ≤ c.loop-request.request-index = omega (arith, c.loop-request-test.false) in
    c.loop-request.invariant.0 ∙ ap (λ ys. c.args.out.now.items ++ flat_map request.spell ys) (take_all c.loop-request.request-index xs past)

pub returns-clause-fits : goal.returns-clause-fits
returns-clause-fits c =
    let xs = c.args.pending.now in
    let past : length xs ≤ c.loop-request.request-index = omega (arith, c.loop-request-test.false) in
    subst (All FitsRequest) (take_all c.loop-request.request-index xs past) c.loop-request.invariant.1
