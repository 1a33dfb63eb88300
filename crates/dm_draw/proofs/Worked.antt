-- Worked draws.
use Rattle.dm_draw.proofs.Names.{◌≡◌, List, [], ◌∷◌, refl, BootProcess, Pid, drawn, stepped, directive_drawn, directives_by, directives_drawn, state_behind, own_directives_drawn, own_drawn}
use Rattle.dm_link.specs.Names.{pid_of}
use Rattle.dm_schedule.specs.declared.Directive.TheVariants as directive
use Rattle.dm_schedule.specs.declared.Step.TheVariants as step

-- seed 0 draws 167951807, so a round
first_of_zero : stepped 0 ≡ 1442695040888963407
unfolding stepped
first_of_zero = refl

a_round : directives_drawn 2 0 1 ≡ directive.Round ∷ []
unfolding directives_by directive_drawn state_behind drawn stepped
a_round = refl

-- of one's own system it is a calling off: of the first of its processes, at machine 1
abbrev a_process : Pid → BootProcess
a_process p = record { pid = p; name = []; image = 0; links = [] }

abbrev processes : List BootProcess
processes = a_process (pid_of 0 3) ∷ a_process (pid_of 1 3) ∷ []

a_calloff : own_directives_drawn 2 processes 0 1 ≡ directive.One (step.CallOff (pid_of 0 3) 1) ∷ []
unfolding directives_by own_drawn state_behind drawn stepped
a_calloff = refl

-- without processes a turn in its place, and on one machine that turn is machine 0's
no_process : own_directives_drawn 1 [] 0 2 ≡ directive.One (step.Turn 0) ∷ directive.Round ∷ []
unfolding directives_by own_drawn state_behind drawn stepped
no_process = refl

on_one_machine : own_directives_drawn 1 (a_process (pid_of 0 3) ∷ a_process (pid_of 0 4) ∷ []) 11 6
    ≡ directive.One (step.Turn 0) ∷ directive.One (step.Turn 0) ∷ directive.Round ∷ directive.Round ∷ directive.One (step.Migrate (pid_of 0 3) 0) ∷ directive.One (step.CallOff (pid_of 0 4) 0) ∷ []
unfolding directives_by own_drawn state_behind drawn stepped
on_one_machine = refl

on_three_machines : own_directives_drawn 3 (a_process (pid_of 0 3) ∷ a_process (pid_of 1 3) ∷ a_process (pid_of 2 3) ∷ []) 1961134619 5
    ≡ directive.One (step.CallOff (pid_of 1 3) 1) ∷ directive.One (step.Turn 0) ∷ directive.One (step.Turn 1) ∷ directive.One (step.CallOff (pid_of 1 3) 2) ∷ directive.One (step.Turn 1) ∷ []
unfolding directives_by own_drawn state_behind drawn stepped
on_three_machines = refl
