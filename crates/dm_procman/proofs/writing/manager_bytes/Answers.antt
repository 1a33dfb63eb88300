use Rattle.dm_procman.proofs.Names.{◌≡◌, length, arith}
use Rattle.dm_procman.proofs.Loops.{whole_put}
use Rattle.dm_procman.proofs.writing.manager_bytes.Goals as goal

pub returns-clause-put : goal.returns-clause-put
returns-clause-put c =
    let children : c.count_of-child_count.result ≡ length c.args.children.now = omega arith in
    let requests : c.count_of-request_count.result ≡ length c.args.pending.now = omega arith in
    whole_put c.args.counts c.args.children.now c.args.board c.args.pending.now c.count_of-child_count.result c.count_of-request_count.result
    c.in_ok-bytes.bytes.items c.extend_with_children.new.out.items c.extend_with_board.new.out.items c.extend_with_requests.new.out.items children requests
    c.in_ok-bytes.ensures.put c.in_ok-extend_with_children.ensures.ok c.in_ok-extend_with_board.ensures.ok c.in_ok-extend_with_requests.ensures.ok
