-- What the process manager does, without places.
use Rattle.std.specs.declared.option.Option.{Option}
use Rattle.std.specs.declared.option.Option.TheVariants.{Some}
use Rattle.dm_message.specs.declared.Message.{Message}
use Rattle.dm_message.specs.Plain.{PlainMessage, plain_message}
use Rattle.dm_onekernel.specs.Options.{bind}
use Rattle.dm_onekernel.specs.Manager as one
use Rattle.dm_procman.specs.Managing.{Managing, plain_manager}

-- the manager and its message, as the kernel without machines has them
abbrev pub plain_taken : Managing → Option Message → Option one.ManagerTook
plain_taken g m = Some (record { manager = plain_manager g; message = bind m plain_message })

-- what the kernel without machines makes of the message
abbrev pub plainly_taken : Managing → Option PlainMessage → Option one.ManagerTook
plainly_taken g m = bind m (λ m. one.manager_takes (plain_manager g) g.machines g.images m m.what)
