-- What follows of a spin of no rounds, and of one, computed: with no packet on any wire.
use Rattle.std.specs.Prelude.{◌==◌}
use Rattle.dm_line.specs.Todo.{Seen}
use Rattle.dm_line.specs.declared.pass.Pass.TheVariants.{Rest}
use Rattle.dm_law_runs.proofs.Names.{◌≡◌, ℕ, Bool, true, false, [], ◌∷◌, refl, Option, None, Some, Step, Directive, Round, all_of, following}

abbrev nothing : ℕ → ℕ → Option ℕ
nothing a c = None

abbrev no_mail : ℕ → Bool
no_mail m = false

-- no process can be served, either
abbrev calm : Seen
calm = record { first = nothing; mail = no_mail; serves = no_mail; quiet = true }

-- a process of machine 1 can
abbrev serving : Seen
serving = record { first = nothing; mail = no_mail; serves = λ m. m == 1; quiet = true }

-- the directive behind a spin of no rounds follows, and nothing where there is none
no_rounds : following 2 calm (all_of (Directive.Spin 0 ∷ Directive.One (Step.Tick 1) ∷ [])) ≡ Some (record { step = Step.Tick 1; left = all_of [] })
no_rounds = refl

none_left : following 2 calm (all_of (Directive.Spin 0 ∷ Directive.Spin 0 ∷ [])) ≡ None
none_left = refl

-- a spin of one round is a round
one_round : following 2 calm (all_of (Directive.Spin 0 ∷ Directive.Spin 1 ∷ [])) ≡ following 2 calm (all_of (Directive.Round ∷ []))
one_round = refl

first_turn : following 2 calm (all_of (Directive.Spin 1 ∷ [])) ≡ Some (record { step = Step.Turn 0; left = record { pairs = []; machines = 1 ∷ []; pass = Round 0; directives = [] } })
first_turn = refl

-- a settle where all is quiet is passed over as well
settled : following 2 calm (all_of (Directive.Settle ∷ Directive.One (Step.Tick 1) ∷ [])) ≡ Some (record { step = Step.Tick 1; left = all_of [] })
settled = refl

-- so is a rest where all is at rest, and one of no passes
rested : following 2 calm (all_of (Directive.Rest 3 ∷ Directive.Rest 0 ∷ Directive.One (Step.Tick 1) ∷ [])) ≡ Some (record { step = Step.Tick 1; left = all_of [] })
rested = refl

-- else only the machine takes its turn that has such a process, in as many passes as there are
rest_turn : following 2 serving (all_of (Directive.Rest 2 ∷ [])) ≡ Some (record { step = Step.Turn 1; left = record { pairs = []; machines = []; pass = Rest 1; directives = [] } })
rest_turn = refl

rest_again : following 2 serving (record { pairs = []; machines = []; pass = Rest 1; directives = [] }) ≡ Some (record { step = Step.Turn 1; left = record { pairs = []; machines = []; pass = Rest 0; directives = [] } })
rest_again = refl

rest_behind : following 2 serving (record { pairs = []; machines = []; pass = Rest 0; directives = Directive.One (Step.Tick 1) ∷ [] }) ≡ Some (record { step = Step.Tick 1; left = all_of [] })
rest_behind = refl

-- and a pass is over in its midst where all is at rest by then
rest_amid : following 2 calm (record { pairs = []; machines = 0 ∷ 1 ∷ []; pass = Rest 5; directives = Directive.One (Step.Tick 1) ∷ [] }) ≡ Some (record { step = Step.Tick 1; left = all_of [] })
rest_amid = refl
