-- The steps with places, computed on worked cases.
use Rattle.dm_law_places.proofs.Names.{◌≡◌, ℕ, List, [], ◌∷◌, refl, take, drop, option_map, Option, None, Some, Addr, Link, pid_of, link_at, Message, What, Reply, id_of, Process, begun_process, instruction, One, Label, bind, hi, Placed}
use Rattle.dm_law_places.proofs.Names.{placed_start, placed_step, MsgId, Outcome, answer_id, id_eq, if◌then◌else◌}

-- labels in order, each on its machine
abbrev steps : Placed → List (ℕ × Label) → Option Placed
steps l [] = Some l
steps l (e ∷ es) = bind (placed_step e.0 One hi.images l e.1) (λ m. steps m es)

-- a process of machine 0 has sent "hi" to one of machine 1: the message says both places
abbrev first_half : List (ℕ × Label)
first_half = (0, Label.Ran (pid_of 0 3) 2) ∷ (0, Label.Send (pid_of 0 3) (id_of (pid_of 0 3) 0)) ∷ []

abbrev sent : Message
sent =
    record {
      id = id_of (pid_of 0 3) 0;
      to = record { pid = pid_of 1 3; at = 1; moves = 0 };
      sender = record { pid = pid_of 0 3; at = 0; moves = 0 };
      what = What.User 7 0 (record { items = 104 ∷ 105 ∷ [] }) (record { items = [] });
    }

pub message_has_places : bind (steps (placed_start hi) first_half) (λ l. l.bag (id_of (pid_of 0 3) 0)) ≡ Some sent
unfolding instruction
message_has_places = refl

-- the other receives it
abbrev second_half : List (ℕ × Label)
second_half = (1, Label.Ran (pid_of 1 3) 3) ∷ (1, Label.Wait (pid_of 1 3)) ∷ (1, Label.Receive (pid_of 1 3) (id_of (pid_of 0 3) 0)) ∷ []

abbrev bytes_there : Option Process → Option (List ℕ)
bytes_there o = option_map (λ x. take 2 (drop 64 x.memory)) o

pub body_is_received : bind (bind (steps (placed_start hi) first_half) (λ l. steps l second_half)) (λ l. bytes_there (l.processes (pid_of 1 3))) ≡ Some (104 ∷ 105 ∷ [])
unfolding instruction
body_is_received = refl

pub message_is_gone : bind (bind (steps (placed_start hi) first_half) (λ l. steps l second_half)) (λ l. option_map (λ m. m.id.n) (l.bag (id_of (pid_of 0 3) 0))) ≡ None
unfolding instruction
message_is_gone = refl

-- a process that has come to machine 2 by its fifth move makes a link: it leads there
abbrev moved_process : Process
moved_process = record (begun_process (pid_of 0 3) (20 ∷ 0 ∷ 0 ∷ 3 ∷ []) (None ∷ None ∷ [])) { moves = 5 }

abbrev alone : Placed
alone = record (placed_start hi) { processes = λ p. Some moved_process }

abbrev address_in : Option Link → Option Addr
address_in o = option_map (λ w. w.addr) o

pub made_link_leads_here : bind (placed_step 2 One [] alone (Label.Call (pid_of 0 3) 3 Reply.Done)) (λ l. bind (l.processes (pid_of 0 3)) (λ x. address_in (link_at x.table 0))) ≡ Some (record { pid = pid_of 0 3; at = 2; moves = 5 })
unfolding instruction
made_link_leads_here = refl

-- a request of the manager's that a process move is in the bag
abbrev request : MsgId
request = id_of (pid_of 0 2) 4

abbrev manager_there : Addr
manager_there = record { pid = pid_of 0 2; at = 0; moves = 0 }

abbrev with_request : Placed
with_request =
    record (placed_start hi) {
      bag = λ i. if id_eq request i then Some (record { id = request; to = record { pid = pid_of 0 3; at = 0; moves = 0 }; sender = manager_there; what = What.Move 1 }) else None;
    }

pub asker_is_kept : bind (placed_step 0 One hi.images with_request (Label.Asked request)) (λ l. l.notes (pid_of 0 3)) ≡ Some (record { n = 4; addr = manager_there })
asker_is_kept = refl

-- its answer comes from where the process is then, and nobody waits for it any more
abbrev answered : Option Placed
answered = steps with_request ((0, Label.Asked request) ∷ (1, Label.Answered request Outcome.Stayed) ∷ [])

pub answer_has_places : bind answered (λ l. l.bag (answer_id request)) ≡ Some (record { id = answer_id request; to = manager_there; sender = record { pid = pid_of 0 3; at = 1; moves = 0 }; what = What.Moved Outcome.Stayed })
answer_has_places = refl

pub nobody_waits : bind answered (λ l. l.notes (pid_of 0 3)) ≡ None
nobody_waits = refl
