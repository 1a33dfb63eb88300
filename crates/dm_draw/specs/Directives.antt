-- The directives of a drill.
use Rattle.std.specs.Prelude.{◌≢◌, ⊤, ◌<◌, ℕ, zero, suc, ◌+◌, ◌-◌, ◌%◌, ◌==◌, nat_lt, if◌then◌else◌, List, [], ◌∷◌, ◌++◌}
use Rattle.dm_link.specs.Names.{pid_of}
use Rattle.dm_schedule.specs.declared.Step.TheVariants as step
use Rattle.dm_schedule.specs.declared.Directive.{Directive}
use Rattle.dm_schedule.specs.declared.Directive.TheVariants as directive
use Rattle.dm_onekernel.specs.Boot.{first_number}
use Rattle.dm_draw.specs.Draw.{drawn, stepped}

-- a directive, and the state of the generator behind it
pub record Drawn : Type 0 where
  pub directive : Directive
  pub state : ℕ

-- the operands of each kind are drawn from left to right
abbrev pub turn_drawn : ℕ → ℕ → Drawn
turn_drawn machines x = record { directive = directive.One (step.Turn (drawn machines x)); state = stepped x }

abbrev pub tick_drawn : ℕ → ℕ → Drawn
tick_drawn machines x = record { directive = directive.One (step.Tick (drawn machines x)); state = stepped x }

-- one of the two first processes of a machine is to move
abbrev pub migrate_drawn : ℕ → ℕ → Drawn
migrate_drawn machines x = record {
  directive = directive.One (step.Migrate (pid_of (drawn machines x) (first_number + drawn 2 (stepped x))) (drawn machines (stepped (stepped x))));
  state = stepped (stepped (stepped x));
}

-- a packet goes from one machine to another
abbrev pub deliver_drawn : ℕ → ℕ → Drawn
deliver_drawn machines x = record {
  directive = directive.One (step.Deliver (drawn machines x) ((drawn machines x + 1 + drawn (machines - 1) (stepped x)) % machines) (drawn 64 (stepped (stepped x))));
  state = stepped (stepped (stepped x));
}

abbrev pub round_drawn : ℕ → Drawn
round_drawn x = record { directive = directive.Round; state = x }

-- of eight, three are turns, one a tick, one a migration, one a delivery and two rounds
abbrev pub of_eight : ℕ → ℕ → ℕ → Drawn
of_eight machines d x =
    if nat_lt d 3 then turn_drawn machines x
    else if d == 3 then tick_drawn machines x
    else if d == 4 then migrate_drawn machines x
    else if d == 5 then deliver_drawn machines x
    else round_drawn x

unfoldable pub directive_drawn : ℕ → ℕ → Drawn
directive_drawn machines x = of_eight machines (drawn 8 x) (stepped x)

-- the state of the generator behind so many directives, where each is drawn so
unfoldable pub state_behind : (ℕ → Drawn) → ℕ → ℕ → ℕ
state_behind draw x zero = x
state_behind draw x (suc n) = (draw (state_behind draw x n)).state

-- so many directives, where each is drawn so
unfoldable pub directives_by : (ℕ → Drawn) → ℕ → ℕ → List Directive
directives_by draw x zero = []
directives_by draw x (suc n) = directives_by draw x n ++ (draw (state_behind draw x n)).directive ∷ []

-- so many directives of a drill whose system is drawn too
abbrev pub directives_drawn : ℕ → ℕ → ℕ → List Directive
directives_drawn machines x n = directives_by (directive_drawn machines) x n

-- a directive for so many machines, an elementary one or a round
abbrev pub IsDrawn : ℕ → Directive → Type 0
IsDrawn machines (directive.One (step.Turn m)) = m < machines
IsDrawn machines (directive.One (step.Tick m)) = m < machines
IsDrawn machines (directive.One (step.Deliver a b k)) = (a < machines) × (b < machines) × (a ≢ b)
IsDrawn machines (directive.One (step.Migrate p m)) = m < machines
IsDrawn machines (directive.One (step.CallOff p m)) = m < machines
IsDrawn machines directive.Round = ⊤
IsDrawn machines (directive.Spin n) = ⊥
IsDrawn machines directive.Settle = ⊥
IsDrawn machines (directive.Rest n) = ⊥
