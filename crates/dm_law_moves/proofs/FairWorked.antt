-- Waiting in a ring, computed on a worked case: two processes of one machine, of which the first is served while the second could be.
use Rattle.dm_law_moves.proofs.Names.{◌≡◌, ℕ, List, [], ◌∷◌, ◌∙◌, true, refl, sym, subst, Some, pid_of, Label, Boot, OneKernel, Pid, Step, Line, Point, first_point, moved, after_line, option_map_or}
use Rattle.std.specs.Prelude.{◌<◌}
use Rattle.dm_processor.specs.Instructions.{instruction}
use Rattle.dm_onekernel.specs.declared.boot.Format.TheVariants.{One}
use Rattle.dm_onekernel.specs.Step as kernel
use Rattle.dm_law_moves.specs.Fair.{StaysIn, Waits, stands_in}
use Rattle.dm_law_moves.proofs.Fair.{nobody_starves}

abbrev two : Boot
two = record {
  numbers = 1048576;
  quantum = 16;
  format = One;
  machines = record { slots = 4; blocks = 16 } ∷ [];
  images = record { bytes = 1 ∷ 2 ∷ 0 ∷ 16 ∷ 1 ∷ 3 ∷ 0 ∷ 2 ∷ 20 ∷ 0 ∷ 0 ∷ 2 ∷ 20 ∷ 0 ∷ 0 ∷ 1 ∷ []; blocks = 1 } ∷ [];
  processes = record { pid = pid_of 0 3; name = []; image = 0; links = [] } ∷ record { pid = pid_of 0 4; name = []; image = 0; links = [] } ∷ [];
}

abbrev head : Line
head = Line.Head (Step.Turn 0)

abbrev ran : Line
ran = Line.Label (Label.Ran (pid_of 0 3) 2)

abbrev out : Line
out = Line.Label (Label.Out (pid_of 0 3) 0)

abbrev stepped : OneKernel → Label → OneKernel
stepped s l = option_map_or (λ t. t) (kernel.step s l) s

abbrev at : Point
at = moved (first_point two) head (first_point two).kernel

abbrev behind_ran : Point
behind_ran = moved at ran (stepped at.kernel (Label.Ran (pid_of 0 3) 2))

abbrev behind_out : Point
behind_out = moved behind_ran out (stepped behind_ran.kernel (Label.Out (pid_of 0 3) 0))

stays_by : (pt q : Point) (m : ℕ) (p : Pid) (l : Line) (ls : List Line) → after_line pt l ≡ Some q → stands_in pt m p ≡ true → StaysIn q m p ls → StaysIn pt m p (l ∷ ls)
stays_by pt q m p l ls e there h = (there, λ next f. let g : Some q ≡ Some next = sym e ∙ f in let same : q ≡ next = cc in subst (λ (z : Point). StaysIn z m p ls) same h)

waits : Waits two 0 (pid_of 0 4) (first_point two) (Step.Turn 0 ∷ []) behind_out 1
unfolding instruction
waits = (
  record { lines = head ∷ ran ∷ out ∷ []; point = behind_out },
  0,
  refl,
  stays_by (first_point two) at 0 (pid_of 0 4) head (ran ∷ out ∷ []) refl refl
      (stays_by at behind_ran 0 (pid_of 0 4) ran (out ∷ []) refl refl (stays_by behind_ran behind_out 0 (pid_of 0 4) out [] refl refl refl)),
  refl,
  refl,
  (refl, refl),
)

-- it waited once, and there are two in the ring
pub fewer : 1 < 2
fewer = nobody_starves two 0 (pid_of 0 4) (first_point two) (Step.Turn 0 ∷ []) behind_out 1 refl waits
