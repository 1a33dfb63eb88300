use Rattle.dm_kernel.proofs.kernel.Kernel.handle.Goals as goal

pub for_process-requires-clause-acts : goal.for_process-requires-clause-acts
for_process-requires-clause-acts c = λ x h. c.requires.processes c.args.message.to.pid x h
