use Rattle.std.specs.Prelude.{List, map}
use Rattle.std.proofs.Common.{ap, ◌∙◌}
use Rattle.std.proofs.lemmas.Result.{on_ok_weaker}
use Rattle.dm_link.specs.declared.Link.{Link}
use Rattle.dm_link.specs.Plain.{plain_link}
use Rattle.dm_onekernel.specs.declared.boot.BootImage.{BootImage}
use Rattle.dm_onekernel.specs.Service.{with_created}
use Rattle.dm_replay.specs.State.{one_kernel}
use Rattle.dm_replay.proofs.Beginning.{image_at, image_there}
use Rattle.dm_onekernel.proofs.Making.{image_fits}
use Rattle.dm_replay.proofs.kernel.Kernel.begin.Goals as goal

pub stand-requires-clause-image : goal.stand-requires-clause-image
stand-requires-clause-image c =
    let images = c.args.boot.now.images in
    let x : BootImage = c.index-as_slice-from.result in
    let there = image_there images c.as_slice.result.now c.args.process.now.image c.from.result x c.as_slice.ensures c.from.ensures c.requires.image c.index-as_slice-from.is in
    image_fits images c.args.process.now.image x c.requires.images there

pub returns-clause-state : goal.returns-clause-state
returns-clause-state c =
    let images = c.args.boot.now.images in
    let s = one_kernel c.args.boot.now c.args.self.now in
    let p = c.args.process.now in
    let x : BootImage = c.index-as_slice-from.result in
    let there = image_there images c.as_slice.result.now p.image c.from.result x c.as_slice.ensures c.from.ensures c.requires.image c.index-as_slice-from.is in
    on_ok_weaker c.stand.result
    (λ e i at.
    e
    ∙ ap (λ (i : BootImage). with_created s p.pid i (map plain_link c.as_slice-2.result.now)) (image_at images p.image x i there at)
    ∙ ap (λ (links : List Link). with_created s p.pid i (map plain_link links)) c.as_slice-2.ensures)
    c.stand.ensures.state
