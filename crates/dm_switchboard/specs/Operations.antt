-- What requests to the switchboard ask for.
use Rattle.std.specs.Prelude.{ℕ, ◌==◌, if◌then◌else◌}
use Rattle.std.specs.declared.option.Option.{Option}
use Rattle.std.specs.declared.option.Option.TheVariants.{None, Some}
use Rattle.dm_switchboard.specs.declared.requests.Operation.{Operation}
use Rattle.dm_switchboard.specs.declared.requests.Operation.TheVariants.{Register, LookUp}

-- the first byte of a request's body: 1 registers a name, 2 looks one up
abbrev pub operation_of : ℕ → Option Operation
operation_of byte = if byte == 1 then Some Register else if byte == 2 then Some LookUp else None
