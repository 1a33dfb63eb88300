-- What has come has moved once more, and is there, as the kernel with places has it.
use Rattle.dm_law_mirror.proofs.Names.{◌≡◌, ◌∙◌, ◌+◌, Bool, true, false, [], refl, ap, sym, subst, if◌then◌else◌, option_map, Option, None, Some, Pid, pid_eq, pid_eq-same, Process, Board, Managing, Resident, Boot, Point, Run, Line, Stage, moved}
use Rattle.dm_law_mirror.proofs.Names.{Placed, MirrorsPoint, resident_at, is_server, switchboard, manager, process_restarted, absent_moved, plain_process, Life, life_sort, false≢true, is_some}
use Rattle.dm_resident.specs.Residents as residents
use Rattle.dm_law_mirror.proofs.Gone.{living_sort}
use Rattle.dm_law_mirror.proofs.Residents.{OfBoard, OfManager, OfProcess, SameSystem, board_others, made_apart, manager_others, process_at, process_there, resident_same, same_manager, server_none, who}

-- what is at the place of p is this
abbrev processes_with : Placed → Pid → Resident → Pid → Option Process
processes_with l p (Resident.Process x) = λ q. if pid_eq p q then Some x else l.processes q
processes_with l p (Resident.Board v) = l.processes
processes_with l p (Resident.Manager g) = l.processes

abbrev board_with : Placed → Resident → Board
board_with l (Resident.Process x) = l.board
board_with l (Resident.Board v) = v
board_with l (Resident.Manager g) = l.board

abbrev manager_with : Placed → Resident → Managing
manager_with l (Resident.Process x) = l.manager
manager_with l (Resident.Board v) = l.manager
manager_with l (Resident.Manager g) = g

abbrev pub with_resident : Placed → Pid → Resident → Placed
with_resident l p r = record l { processes = processes_with l p r; board = board_with l r; manager = manager_with l r }

pub record CameOn (pt : Point) (l : Placed) (p : Pid) (r : Resident) : Type 0 where
  pub mirrors : MirrorsPoint (moved pt (Line.Migration Stage.Restarted p) pt.kernel) (with_resident l p (residents.moved r))
  pub here : resident_at (with_resident l p (residents.moved r)) p ≡ Some (residents.moved r)
  pub others : (q : Pid) → pid_eq p q ≡ false → resident_at (with_resident l p (residents.moved r)) q ≡ resident_at l q
  pub system : SameSystem l (with_resident l p (residents.moved r))

came_process : (pt : Point) (l : Placed) (p : Pid) (x : Process) → is_server p ≡ false → MirrorsPoint pt l → l.processes p ≡ Some x → CameOn pt l p (Resident.Process x)
came_process pt l p x off h there =
    let y : Process = record x { moves = x.moves + 1; queue = [] } in
    let on : Placed = with_resident l p (Resident.Process y) in
    record {
      mirrors = process_restarted pt l p x off h there;
      here = process_at on p off ∙ ap (λ (c : Bool). option_map Resident.Process (if c then Some y else l.processes p)) (pid_eq-same p);
      others = λ q apart. resident_same l on q (ap (λ (c : Bool). if c then Some y else l.processes q) apart) refl refl;
      system = same_manager l on refl;
    }

came_board : (b : Boot) (pt : Point) (l : Placed) → l.processes switchboard ≡ None → MirrorsPoint pt l → CameOn pt l switchboard (Resident.Board l.board)
came_board b pt l none h =
    let on : Placed = with_resident l switchboard (residents.moved (Resident.Board l.board)) in
    record { mirrors = absent_moved pt l switchboard none h; here = refl; others = λ q apart. board_others l on q refl refl apart; system = same_manager l on refl }

came_manager : (b : Boot) (pt : Point) (l : Placed) → l.processes manager ≡ None → MirrorsPoint pt l → CameOn pt l manager (Resident.Manager l.manager)
came_manager b pt l none h =
    let on : Placed = with_resident l manager (residents.moved (Resident.Manager l.manager)) in
    record { mirrors = absent_moved pt l manager none h; here = refl; others = λ q apart. manager_others l on q refl refl apart; system = record { machines = refl; images = refl } }

-- whoever has come; the kernel and the places are those of the run, whatever line came before
pub came_on : (b : Boot) (run pt : Point) (l : Placed) (p : Pid) (r : Resident) → Run b run → MirrorsPoint run l → MirrorsPoint pt l → resident_at l p ≡ Some r → CameOn pt l p r
came_on b run pt l p r h before mirrors e = elim (who p) [
  | OfProcess off ↦
      let (x, is, there) = process_there l p r off e in
      subst (CameOn pt l p) (sym is) (came_process pt l p x off mirrors there)
  | OfBoard at_board ↦
      let none = server_none b run l p h before (ap is_server at_board) in
      let f : Resident.Board l.board ≡ r = let g : Some (Resident.Board l.board) ≡ Some r = subst (λ (q : Pid). resident_at l q ≡ Some r) at_board e in cc in
      subst (λ (q : Pid). CameOn pt l q r) (sym at_board) (subst (CameOn pt l switchboard) f (came_board b pt l (ap l.processes (sym at_board) ∙ none) mirrors))
  | OfManager at_manager ↦
      let none = server_none b run l p h before (ap is_server at_manager) in
      let f : Resident.Manager l.manager ≡ r = let g : Some (Resident.Manager l.manager) ≡ Some r = subst (λ (q : Pid). resident_at l q ≡ Some r) at_manager e in cc in
      subst (λ (q : Pid). CameOn pt l q r) (sym at_manager) (subst (CameOn pt l manager) f (came_manager b pt l (ap l.processes (sym at_manager) ∙ none) mirrors))
]

-- what is at a place hasn't ended
some_sort : (o : Option Life) → life_sort o ≡ Some false → is_some o ≡ true
some_sort None e = cc
some_sort (Some life) e = refl

pub not_over : (b : Boot) (pt : Point) (l : Placed) (p : Pid) (r : Resident) → Run b pt → MirrorsPoint pt l → resident_at l p ≡ Some r → life_sort (pt.kernel.processes p) ≡ Some false → ⊥
not_over b pt l p r run h e over = elim (who p) [
  | OfProcess off ↦
      let (x, is, there) = process_there l p r off e in
      living_sort (pt.kernel.processes p) (plain_process x) (h.plain.processes p ∙ ap (option_map plain_process) there) over
  | OfBoard at_board ↦ false≢true (sym (made_apart b pt p run (some_sort (pt.kernel.processes p) over)) ∙ ap is_server at_board)
  | OfManager at_manager ↦ false≢true (sym (made_apart b pt p run (some_sort (pt.kernel.processes p) over)) ∙ ap is_server at_manager)
]
