-- What a settle puts, computed: a message goes along a stale address, is sent on once, and its sender is told.
use Rattle.dm_law_moves.proofs.Names.{◌≡◌, ℕ, zero, suc, ◌+◌, Bool, true, List, [], ◌∷◌, refl, Option, None, Some, pid_of, id_of, instruction, Boot, bind, Step, Next, Todo, all_of, next_step, Point, first_point, group_of, Known}
use Rattle.dm_law_rule.proofs.Names.{Directive}
use Rattle.dm_law_moves.proofs.Names.{Forward, Here, hi, count, one_each, weight_of, is_light, says_put}

-- at most so many groups of directives: how many messages they put, and where they lead
record Came : Type 0 where
  puts : ℕ
  point : Point

abbrev on_from : Option Next → Came → (Next → Option Came) → Option Came
on_from None x go = Some x
on_from (Some n) x go = go n

abbrev comes : ℕ → Boot → Todo → Came → Option Came
comes zero b t x = None
comes (suc k) b t x = on_from (next_step 2 x.point t) x (λ n. bind (group_of b x.point n.step) (λ w. comes k b n.left (record { puts = x.puts + count says_put w.lines; point = w.point })))

-- what there is to see before and behind a settle: the messages on their way, whether the first of process 0.3's is such that the law
-- speaks of it, and what machines know of the process that it is for
record Seen : Type 0 where
  puts : ℕ
  way : ℕ
  light : Bool
  here : Known
  there : Known

abbrev seen : Came → Seen
seen x = record {
  puts = x.puts;
  way = weight_of one_each 2 x.point.view;
  light = is_light (x.point.view.told (id_of (pid_of 0 3) 0));
  here = x.point.view.known 0 (pid_of 1 3);
  there = x.point.view.known 1 (pid_of 1 3);
}

-- process 1.3 moves to machine 0, and all comes to rest; then process 0.3 sends it a message, to machine 1
abbrev before : List Directive
before = Directive.One (Step.Migrate (pid_of 1 3) 0) ∷ Directive.Settle ∷ Directive.One (Step.Turn 0) ∷ []

abbrev from_there : Option Came → Option Came
from_there o = bind o (λ x. comes 20 hi (all_of (Directive.Settle ∷ [])) (record { puts = 0; point = x.point }))

pub on_its_way : bind (comes 60 hi (all_of before) (record { puts = 0; point = first_point hi })) (λ x. Some (record (seen x) { puts = 0 })) ≡ Some (record { puts = 0; way = 1; light = true; here = Here; there = Forward 0 1 })
unfolding instruction
on_its_way = refl

-- of two machines: at most (2 - 1) (2 + 1) messages are put for this one, and two are: itself again, and the update
pub sent_on : bind (from_there (comes 60 hi (all_of before) (record { puts = 0; point = first_point hi }))) (λ x. Some (seen x)) ≡ Some (record { puts = 2; way = 0; light = true; here = Here; there = Forward 0 1 })
unfolding instruction
sent_on = refl
