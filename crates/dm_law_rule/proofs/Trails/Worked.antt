-- A worked migration: the trail of a process that moves, and the addresses that name it.
use Rattle.dm_law_rule.proofs.Names.{◌≡◌, ◌&&◌, ℕ, zero, suc, Bool, true, false, List, [], ◌∷◌, refl, Option, None, Some, Place, pid_of, id_of, instruction, Boot, bind, Step, Directive, Known, Here, Incoming, Forward, Slot, Receiver, Child}
use Rattle.dm_law_rule.proofs.Names.{Todo, Next, all_of, next_step, group_of, Trodden, first_trodden, along, leads}
use Rattle.dm_law_rule.proofs.Worked.{hi}

-- so many elementary directives of a schedule, one group after the other
abbrev on_from : Option Next → Trodden → (Next → Option Trodden) → Option Trodden
on_from None x go = Some x
on_from (Some n) x go = go n

abbrev treads : Boot → ℕ → Todo → Trodden → Option Trodden
treads b zero left x = Some x
treads b (suc k) left x =
    on_from (next_step 2 x.point left) x (λ n. bind (group_of b x.point n.step) (λ w. bind (along x w.lines) (λ y. treads b k n.left y)))

-- what is said of the process that moves: its trail, what both machines know of it, where its link, the manager's link and its
-- message lead, and that from all three the forwards lead to it in one step
record Seen : Type 0 where
  trail : List ℕ
  there : Known
  before : Known
  link : Place
  child : Place
  message : Place
  found : Bool

abbrev found_from : Trodden → Place → Bool
found_from x place = leads false x.point.view (pid_of 1 3) 1 place.moves place.at

abbrev seen : Option Trodden → Option Seen
seen None = None
seen (Some x) =
    Some (record {
      trail = x.trails (pid_of 1 3);
      there = x.point.view.known 0 (pid_of 1 3);
      before = x.point.view.known 1 (pid_of 1 3);
      link = x.point.addresses (Slot (pid_of 0 3) 0);
      child = x.point.addresses (Child 2);
      message = x.point.addresses (Receiver (id_of (pid_of 0 3) 0));
      found = found_from x (x.point.addresses (Slot (pid_of 0 3) 0)) && (found_from x (x.point.addresses (Child 2)) && found_from x (x.point.addresses (Receiver (id_of (pid_of 0 3) 0))));
    })

abbrev there_and_back : List Directive
there_and_back = Directive.One (Step.Migrate (pid_of 1 3) 0) ∷ Directive.Spin 9 ∷ Directive.One (Step.Migrate (pid_of 1 3) 1) ∷ Directive.Spin 10 ∷ []

-- its message was sent on, and it isn't restarted yet
pub sent_on : seen (treads hi 300 (all_of (Directive.One (Step.Migrate (pid_of 1 3) 0) ∷ Directive.Spin 7 ∷ [])) (first_trodden hi))
    ≡ Some (record { trail = 1 ∷ 0 ∷ []; there = Incoming 1; before = Forward 0 1; link = record { at = 1; moves = 0 }; child = record { at = 1; moves = 0 }; message = record { at = 0; moves = 1 }; found = true })
unfolding instruction
sent_on = refl

-- it has moved, and moved back
pub moved_back : seen (treads hi 300 (all_of there_and_back) (first_trodden hi))
    ≡ Some (record { trail = 1 ∷ 0 ∷ 1 ∷ []; there = Forward 1 2; before = Here; link = record { at = 1; moves = 0 }; child = record { at = 0; moves = 1 }; message = record { at = 1; moves = 2 }; found = true })
unfolding instruction
moved_back = refl
