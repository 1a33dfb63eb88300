use Rattle.dm_processor.proofs.Names.{◌*◌, ap, arith}
use Rattle.dm_processor.proofs.Copies.{image_in}
use Rattle.dm_processor.proofs.flat_bytes.Flat.from_image.Goals as goal

pub returns : goal.returns
returns c = record {
  ok =
      image_in c.args.image.now c.in_ok-bytes.bytes.items _ c.write_at.new.bytes (256 * c.args.blocks) _ c.in_ok-bytes.bytes.len (ap (λ n. 256 * n) c.from.ensures) c.requires.fits c.in_ok-bytes.ensures.items c.deref_mut.ensures.value c.write_at.ensures (omega (arith, c.in_ok-bytes.ensures.len, c.from.ensures));
}
