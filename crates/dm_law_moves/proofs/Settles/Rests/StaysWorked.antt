-- What comes of directives where all is at rest, computed.
use Rattle.dm_law_moves.proofs.Names.{◌≡◌, ℕ, zero, suc, List, [], ◌∷◌, ◌++◌, ⊤, refl, Option, None, Some, pid_of, id_of, instruction, Boot, bind, Step, Line, Load, MessageKind, Todo, all_of, next_step, Point, first_point}
use Rattle.dm_law_rule.proofs.Names.{Directive}
use Rattle.dm_law_moves.proofs.Names.{group_of, hi, groups, SaysNothing}

-- where directives lead, in at most so many groups
abbrev ended : ℕ → Boot → Point → Todo → Option Point
ended zero b pt t = None
ended (suc k) b pt t = elim (next_step 2 pt t) [ None ↦ Some pt | Some n ↦ bind (group_of b pt n.step) (λ w. ended k b w.point n.left) ]

-- a process of machine 0 sends a message to one of machine 1, whose acknowledgement is put twice; both end, and all comes to rest
abbrev rested : Option Point
rested = ended 20 hi (first_point hi) (all_of (Directive.One (Step.Turn 0) ∷ Directive.One (Step.Deliver 0 1 0) ∷ Directive.One (Step.Deliver 0 1 0) ∷ Directive.Rest 9 ∷ []))

-- then nothing comes of these
abbrev others : List Step
others = Step.Turn 0 ∷ Step.Turn 1 ∷ Step.Tick 0 ∷ Step.Deliver 0 1 0 ∷ Step.Deliver 1 0 0 ∷ Step.Deliver 1 0 1 ∷ Step.Deliver 0 1 5 ∷ Step.CallOff (pid_of 1 3) 0 ∷ []

abbrev AllNothing : Boot → Point → List Step → Type 0
AllNothing b pt [] = ⊤
AllNothing b pt (e ∷ es) = elim (group_of b pt e) [ None ↦ ⊥ | Some w ↦ SaysNothing pt.view e w.lines × AllNothing b w.point es ]

abbrev NothingFrom : Option Point → Type 0
NothingFrom None = ⊥
NothingFrom (Some pt) = AllNothing hi pt others

pub nothing_comes : NothingFrom rested
unfolding instruction
nothing_comes = (refl, (refl, (refl, (refl, (refl, (refl, (refl, (refl, tt))))))))

-- in these words, and of a directive to move a process something comes
pub comes_so : bind rested (λ pt. groups hi pt (others ++ Step.Migrate (pid_of 1 3) 0 ∷ []))
    ≡ Some ((Line.Head (Step.Turn 0) ∷ Line.Idle 0 ∷ [])
    ∷ (Line.Head (Step.Turn 1) ∷ Line.Idle 1 ∷ [])
    ∷ (Line.Head (Step.Tick 0) ∷ Line.Resent 0 0 ∷ [])
    ∷ (Line.Head (Step.Deliver 0 1 0) ∷ Line.Old 0 1 0 ∷ Line.Packet 1 0 2 (Load.Ack 1) ∷ [])
    ∷ (Line.Head (Step.Deliver 1 0 0) ∷ Line.Acked 1 0 1 ∷ [])
    ∷ (Line.Head (Step.Deliver 1 0 1) ∷ Line.Acked 1 0 1 ∷ [])
    ∷ (Line.Head (Step.Deliver 0 1 5) ∷ Line.Nothing ∷ [])
    ∷ (Line.Head (Step.CallOff (pid_of 1 3) 0) ∷ Line.NoCall (pid_of 1 3) ∷ [])
    ∷ (Line.Head (Step.Migrate (pid_of 1 3) 0) ∷ Line.Put 0 1 (id_of (pid_of 0 0) 0) MessageKind.Migrate (pid_of 1 3) ∷ Line.Packet 0 1 1 (Load.Data 1) ∷ [])
    ∷ [])
unfolding instruction
comes_so = refl
