-- A process that hasn't executed anything yet.
use Rattle.std.specs.Prelude.{ℕ, false, List, [], replicate}
use Rattle.std.specs.declared.option.Option.{Option}
use Rattle.dm_link.specs.declared.Pid.{Pid}
use Rattle.dm_link.specs.declared.Link.{Link}
use Rattle.dm_process.specs.declared.process.Process.{Process}
use Rattle.dm_process.specs.declared.process.Status.TheVariants.{Ready}

-- it has this memory and these links; registers and counts are zero, and no message waits for it
abbrev pub begun_process : Pid → List ℕ → List (Option Link) → Process
begun_process p memory table =
    record {
      pid = p;
      regs = record { r = replicate 16 0; pc = 0 };
      memory = memory;
      table = table;
      status = Ready;
      stopped = false;
      sent = 0;
      moves = 0;
      queue = [];
    }
