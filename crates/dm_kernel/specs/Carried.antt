-- A turn that freezes a process or a server finds that it can be carried whole.
use Rattle.std.specs.Prelude.{◌≡◌, ◌≢◌, ⊤, ℕ, ◌==◌, false, List, [], ◌∷◌}
use Rattle.std.specs.declared.option.Option.{Option}
use Rattle.std.specs.declared.option.Option.TheVariants.{None, Some}
use Rattle.dm_message.specs.declared.Message.{Message}
use Rattle.dm_message.specs.declared.What.{What}
use Rattle.dm_message.specs.declared.What.TheVariants as what
use Rattle.dm_records.specs.declared.record.Record.TheVariants.{Here, Frozen, Incoming, Forward}
use Rattle.dm_migrate.specs.Departure.{CanMove}
use Rattle.dm_kernel.specs.State.{KernelState, KernelKnown}

-- where a message tells its receiver to move to another machine than this one, this holds
abbrev pub WhereSentOff : ℕ → What → Type 0 → Type 0
WhereSentOff here (what.Migrate machine) P = machine ≢ here → P
WhereSentOff here (what.User code channel body links) P = ⊤
WhereSentOff here what.Stop P = ⊤
WhereSentOff here what.Resume P = ⊤
WhereSentOff here what.Kill P = ⊤
WhereSentOff here (what.Read base len) P = ⊤
WhereSentOff here (what.Write base bytes) P = ⊤
WhereSentOff here (what.Block bytes) P = ⊤
WhereSentOff here what.Written P = ⊤
WhereSentOff here what.Gone P = ⊤
WhereSentOff here (what.Create image links) P = ⊤
WhereSentOff here (what.Created pid) P = ⊤
WhereSentOff here what.NoRoom P = ⊤
WhereSentOff here (what.Update about) P = ⊤
WhereSentOff here (what.Ask pid blocks moves size asker) P = ⊤
WhereSentOff here (what.Refuse pid free_slots free_blocks) P = ⊤
WhereSentOff here (what.PullState pid chunk) P = ⊤
WhereSentOff here (what.State pid chunk last bytes) P = ⊤
WhereSentOff here (what.PullBlock pid block) P = ⊤
WhereSentOff here (what.Memory pid block bytes) P = ⊤
WhereSentOff here (what.AllTaken pid) P = ⊤
WhereSentOff here (what.Restart pid) P = ⊤
WhereSentOff here (what.Move machine) P = machine ≢ here → P
WhereSentOff here (what.Moved outcome) P = ⊤
WhereSentOff here (what.CallOff pid) P = ⊤
WhereSentOff here (what.Bury pid) P = ⊤

-- what is here, and is told to move to another machine, can be carried
abbrev pub KnownIsWhole : ℕ → What → Option KernelKnown → Type 0
KnownIsWhole here w None = ⊤
KnownIsWhole here w (Some (Here r)) = WhereSentOff here w (CanMove r)
KnownIsWhole here w (Some (Frozen leaving)) = ⊤
KnownIsWhole here w (Some (Incoming arriving)) = ⊤
KnownIsWhole here w (Some (Forward machine moves)) = ⊤

-- so it is with the receiver of a message, if that is no kernel
abbrev pub FreezesReceiverWhole : KernelState → Message → Type 0
FreezesReceiverWhole s m =
    (m.to.pid.num == 0) ≡ false → KnownIsWhole s.here m.what (s.records m.to.pid)

-- and with that of the message at an inbox's front
abbrev pub FreezesWhole : KernelState → List Message → Type 0
FreezesWhole s [] = ⊤
FreezesWhole s (m ∷ rest) = FreezesReceiverWhole s m
