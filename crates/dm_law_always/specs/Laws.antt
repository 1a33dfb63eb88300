-- What holds wherever the rule leads.
use Rattle.std.specs.Prelude.{◌≡◌, ◌≤◌, true, is_some, List, ◌++◌, length}
use Rattle.dm_onekernel.specs.declared.boot.Boot.{Boot}
use Rattle.dm_onekernel.specs.Boot.{IsValid}
use Rattle.dm_schedule.specs.declared.Step.{Step}
use Rattle.dm_line.specs.declared.line.Line.{Line}
use Rattle.dm_line.specs.Todo.{Todo}
use Rattle.dm_law_rule.specs.Good.{IsRun}
use Rattle.dm_law_rule.specs.Point.{Point, first_point}
use Rattle.dm_law_rule.specs.Rule.{group_of}
use Rattle.dm_law_rule.specs.Laws.{Leads, IsStep}
use Rattle.dm_law_always.specs.Fits.{KernelFits}
use Rattle.dm_law_always.specs.KnownStands.{KnownStands}
use Rattle.dm_law_always.specs.Found.{Found}

-- wherever the rule leads, each directive has its group
abbrev pub GoesOnAlways : Type 0
GoesOnAlways =
    (b : Boot) (es : List Step) (pt : Point) (e : Step) → IsValid b → Leads b (first_point b) es pt → IsStep pt.kernel.machines e → is_some (group_of b pt e) ≡ true

-- wherever the rule leads, links lead somewhere, areas and data moves lie within memories, and each message of the kernel
-- without machines is of a kind that its receiver can take
abbrev pub FitsAlways : Type 0
FitsAlways = (b : Boot) (es : List Step) (pt : Point) → IsValid b → Leads b (first_point b) es pt → KernelFits pt.kernel

-- wherever the rule leads, what each machine knows of processes agrees with the kernel without machines, and a process stands
-- once in the ring of the machine that has it, and in no other ring
abbrev pub KnownAlways : Type 0
KnownAlways = (b : Boot) (es : List Step) (pt : Point) → IsValid b → Leads b (first_point b) es pt → KnownStands pt.kernel pt.view

-- wherever the rule leads, each message stands where its receiver is known, and each address names a machine that there is
abbrev pub FoundAlways : Type 0
FoundAlways = (b : Boot) (es : List Step) (pt : Point) → IsValid b → Leads b (first_point b) es pt → Found pt

-- from where a run stands, with what is left to do, two runs of as many groups say the same and come to the same
abbrev pub RuleDecides : Type 0
RuleDecides =
    (b : Boot) (pt : Point) (t : Todo) (gs hs : List (List Line)) (end fin : Point) (left rest : Todo) → IsRun b pt t gs end left → IsRun b pt t hs fin rest → length gs ≡ length hs
    → (gs ≡ hs) × (end ≡ fin) × (left ≡ rest)

-- of two runs the one with fewer groups is the beginning of the other, which goes on from there
abbrev pub ShorterBegins : Type 0
ShorterBegins =
    (b : Boot) (pt : Point) (t : Todo) (gs hs : List (List Line)) (end fin : Point) (left rest : Todo) → IsRun b pt t gs end left → IsRun b pt t hs fin rest → length gs ≤ length hs
    → (more : List (List Line)) × (hs ≡ gs ++ more) × IsRun b end left more fin rest
