-- One more link is placed.
use Rattle.dm_syscall.proofs.Names.{◌∙◌, false, General, Link}
use Rattle.dm_syscall.proofs.Receives.{place_next}
use Rattle.dm_syscall.proofs.receive.place_links.Goals as goal

-- what is read past the end
abbrev nothing : Link
nothing =
    record {
      addr = record { pid = record { home = 0; num = 0 }; at = 0; moves = 0 };
      kind = General;
      to_kernel = false;
      code = 0;
      channel = 0;
      area = record { base = 0; len = 0; read = false; write = false };
    }

pub loop-i-preserved : goal.loop-i-preserved
loop-i-preserved c =
    place_next (record { regs = c.loop-i.regs; table = c.loop-i.table }) (record { regs = c.place_link.new.regs; table = c.place_link.new.table }) c.args.links.now c.loop-i.i nothing c.loop-i-test.true
    (λ j. record { regs = c.place_link.ensures.regs j; table = c.place_link.ensures.table j })
    ∙ c.loop-i.invariant
