use Rattle.std.proofs.Common.{ap, subst, sym, ◌∙◌}
use Rattle.std.specs.Option.{option_copied}
use Rattle.dm_message.specs.Lawful.{IsLawfulMessage}
use Rattle.dm_message.specs.Plain.{plain_message}
use Rattle.dm_replay.specs.State.{plain_held}
use Rattle.dm_replay.proofs.kernel.Kernel.copy_of.Goals as goal

pub returns-in_ok-copy-in-Some-clause-gives : goal.returns-in_ok-copy-in-Some-clause-gives
returns-in_ok-copy-in-Some-clause-gives c = λ b.
    ap plain_held (sym c.get.ensures ∙ ap option_copied c.in-Some.is) ∙ ap plain_message (sym (c.in_ok-copy-in-Some.ensures ∙ c.get-in-Some.ensures))

pub returns-in_ok-copy-in-Some-clause-fit : goal.returns-in_ok-copy-in-Some-clause-fit
returns-in_ok-copy-in-Some-clause-fit c = λ n h. subst IsLawfulMessage (sym (c.in_ok-copy-in-Some.ensures ∙ c.get-in-Some.ensures)) (h.bag c.args.id _ (sym c.get.ensures ∙ ap option_copied c.in-Some.is)).lawful
