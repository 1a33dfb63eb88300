-- What is done to a child.
use Rattle.dm_message.specs.declared.What.{What}
use Rattle.dm_message.specs.declared.What.TheVariants as what
use Rattle.dm_procman.specs.declared.requests.Control.{Control}
use Rattle.dm_procman.specs.declared.requests.Control.TheVariants.{Stop, Resume, Kill}

-- what its kernel is told
abbrev pub what_of : Control → What
what_of Stop = what.Stop
what_of Resume = what.Resume
what_of Kill = what.Kill
