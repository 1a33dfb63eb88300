use Rattle.dm_replay.proofs.kernel.Kernel.set_stopped.Goals as goal

pub returns-clause-sound : goal.returns-clause-sound
returns-clause-sound c = λ n h f.
    c.put_back.ensures.sound n h
    (record {
      pid = f.pid;
      lawful = record {
        home = f.lawful.home;
        registers = f.lawful.registers;
        size = f.lawful.size;
        links = f.lawful.links;
        slots = f.lawful.slots;
        status = f.lawful.status;
        queue = f.lawful.queue;
      };
      sent = f.sent;
    })
