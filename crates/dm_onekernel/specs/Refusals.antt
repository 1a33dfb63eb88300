-- Refusals in order: of the checks that a call makes, the first that fails gives the reply.
use Rattle.std.specs.Prelude.{Bool, if◌then◌else◌, List, [], ◌∷◌}
use Rattle.std.specs.declared.option.Option.{Option}
use Rattle.std.specs.declared.option.Option.TheVariants.{None, Some}
use Rattle.dm_onekernel.specs.declared.label.Reply.{Reply}

pub record Check : Type 0 where
  pub fails : Bool
  pub reply : Reply

abbrev pub first_failed : List Check → Option Reply
first_failed [] = None
first_failed (c ∷ cs) = if c.fails then Some c.reply else first_failed cs
