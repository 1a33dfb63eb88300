use Rattle.dm_statebytes.proofs.Names.{ap, ◌∙◌, arith, shell_of_bytes}
use Rattle.dm_statebytes.proofs.Shells.{is_found, shell_again}
use Rattle.dm_statebytes.proofs.Sizes.{is_short}
use Rattle.dm_statebytes.proofs.unpack.Goals as goal

pub returns-clause-found : goal.returns-clause-found
returns-clause-found c = is_found c.args.bytes.now c.args.cap c.state_at.result c.requires.cap (λ i. omega (arith, c.type_inv.bytes i)) c.state_at.ensures

pub returns-clause-only : goal.returns-clause-only
returns-clause-only c = λ s lawful fits spelled. c.state_at.ensures ∙ ap (λ b. shell_of_bytes b c.args.cap) spelled ∙ shell_again c.args.cap s c.requires.cap lawful fits

pub returns-clause-size : goal.returns-clause-size
returns-clause-size c = is_short c.args.bytes.now c.args.cap c.state_at.result c.requires.cap (λ i. omega (arith, c.type_inv.bytes i)) c.state_at.ensures
