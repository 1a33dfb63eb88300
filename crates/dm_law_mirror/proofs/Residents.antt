-- What is where a process or a server is, as the kernel with places has it: by who it is, and where it stays.
use Rattle.dm_law_mirror.proofs.Names.{◌≡◌, ◌∙◌, ◌||◌, ℕ, Bool, true, false, List, [], ◌∷◌, ◌++◌, refl, ap, sym, subst, inl, inr, cases_Bool, if◌then◌else◌, Option, None, Some, option_map, Pid, pid_eq, pid_eq-is, MsgId, Message, Asker, Process, Board, Managing}
use Rattle.dm_law_mirror.proofs.Names.{Resident, OneKernel, View, Addresses, Placed, Mirrors, HereStands, AreMessages, cargo_of, is_server, switchboard, manager, or-left, or-right, resident_at, ◌==◌, false≢true, nat_tests, arith}
use Rattle.dm_law_mirror.proofs.Names.{CanBeCarried, IsOfSystem, Boot, Point, Run, is_some, MoveNote, IsLawfulProcess, length, ◌/◌, ◌*◌, ◌≤◌, Life, PlainProcess, plain_process, pid_eq-same, none_some}
use Rattle.dm_onekernel.specs.Step as kernel
use Rattle.dm_resident.specs.Residents as residents
use Rattle.dm_kernel.specs.State as machine
use Rattle.dm_law_rule.specs.View as view
pub use Rattle.dm_law_places.proofs.Any.AnyGroup.{no_server as made_no_server}

pub not_board : (p : Pid) → is_server p ≡ false → pid_eq p switchboard ≡ false
not_board p off = or-left (pid_eq p switchboard) (pid_eq p manager) off

pub not_manager : (p : Pid) → is_server p ≡ false → pid_eq p manager ≡ false
not_manager p off = or-right (pid_eq p switchboard) (pid_eq p manager) off

-- a process, or one of the servers
pub data Who (p : Pid) : Type 0 where
  OfProcess : is_server p ≡ false → Who p
  OfBoard : p ≡ switchboard → Who p
  OfManager : p ≡ manager → Who p

pub who : (p : Pid) → Who p
who p = elim (cases_Bool (pid_eq p switchboard)) [
  | inl board ↦ OfBoard (pid_eq-is p switchboard board)
  | inr off ↦ elim (cases_Bool (pid_eq p manager)) [
    | inl is ↦ OfManager (pid_eq-is p manager is)
    | inr other ↦ OfProcess (ap (λ (c : Bool). c || pid_eq p manager) off ∙ other)
  ]
]

pub process_at : (l : Placed) (p : Pid) → is_server p ≡ false → resident_at l p ≡ option_map Resident.Process (l.processes p)
process_at l p off =
    ap (λ (c : Bool). if c then Some (Resident.Board l.board) else if pid_eq p manager then Some (Resident.Manager l.manager) else option_map Resident.Process (l.processes p)) (not_board p off)
    ∙ ap (λ (c : Bool). if c then Some (Resident.Manager l.manager) else option_map Resident.Process (l.processes p)) (not_manager p off)

-- where processes and servers stay, so does what is there
pub resident_same : (l u : Placed) (p : Pid) → u.processes p ≡ l.processes p → u.board ≡ l.board → u.manager ≡ l.manager → resident_at u p ≡ resident_at l p
resident_same l u p e f g = λ i. if pid_eq p switchboard then Some (Resident.Board (f i)) else if pid_eq p manager then Some (Resident.Manager (g i)) else option_map Resident.Process (e i)

-- the process back
process_some : (o : Option Process) (x : Process) → option_map Resident.Process o ≡ Some (Resident.Process x) → o ≡ Some x
process_some None x e = cc
process_some (Some y) x e = cc

process_as : (o : Option Process) (r : Resident) → option_map Resident.Process o ≡ Some r → (x : Process) × (r ≡ Resident.Process x) × (o ≡ Some x)
process_as None r e = none_some r e
process_as (Some x) r e = let f : Resident.Process x ≡ r = cc in (x, sym f, refl)

pub process_there : (l : Placed) (p : Pid) (r : Resident) → is_server p ≡ false → resident_at l p ≡ Some r → (x : Process) × (r ≡ Resident.Process x) × (l.processes p ≡ Some x)
process_there l p r off e = process_as (l.processes p) r (sym (process_at l p off) ∙ e)

-- a process that is here
pub record ProcessHere (l : Placed) (p : Pid) (queue : List MsgId) (r : Resident) : Type 0 where
  pub process : Process
  pub is : r ≡ Resident.Process process
  pub waits : List Message
  pub there : l.processes p ≡ Some (record process { queue = waits })
  pub messages : AreMessages l.bag queue process.queue

pub process_here : (l : Placed) (p : Pid) (queue : List MsgId) (r : Resident) → is_server p ≡ false → HereStands l p queue r → ProcessHere l p queue r
process_here l p queue (Resident.Process x) off h =
    record { process = x; is = refl; waits = h.0.0; there = process_some (l.processes p) (record x { queue = h.0.0 }) (sym (process_at l p off) ∙ h.0.1); messages = h.1 }
process_here l p queue (Resident.Board v) off h = let e = process_there l p (Resident.Board v) off h.0.1 in let f : Resident.Board v ≡ Resident.Process e.0 = e.1 in cc
process_here l p queue (Resident.Manager v) off h = let e = process_there l p (Resident.Manager v) off h.0.1 in let f : Resident.Manager v ≡ Resident.Process e.0 = e.1 in cc

pub here_process : (l : Placed) (p : Pid) (queue : List MsgId) (x : Process) (q : List Message) → is_server p ≡ false → l.processes p ≡ Some (record x { queue = q }) → AreMessages l.bag queue x.queue → HereStands l p queue (Resident.Process x)
here_process l p queue x q off e messages = ((q, process_at l p off ∙ ap (option_map Resident.Process) e), messages)

-- the servers that are here
pub board_here : (l : Placed) (queue : List MsgId) (r : Resident) → HereStands l switchboard queue r → r ≡ Resident.Board l.board
board_here l queue (Resident.Process x) h = let e : Some (Resident.Board l.board) ≡ Some (Resident.Process (record x { queue = h.0.0 })) = h.0.1 in cc
board_here l queue (Resident.Board v) h = let e : Some (Resident.Board l.board) ≡ Some (Resident.Board v) = h.0.1 in cc
board_here l queue (Resident.Manager v) h = let e : Some (Resident.Board l.board) ≡ Some (Resident.Manager v) = h.0.1 in cc

pub manager_here : (l : Placed) (queue : List MsgId) (r : Resident) → HereStands l manager queue r → r ≡ Resident.Manager l.manager
manager_here l queue (Resident.Process x) h = let e : Some (Resident.Manager l.manager) ≡ Some (Resident.Process (record x { queue = h.0.0 })) = h.0.1 in cc
manager_here l queue (Resident.Board v) h = let e : Some (Resident.Manager l.manager) ≡ Some (Resident.Board v) = h.0.1 in cc
manager_here l queue (Resident.Manager v) h = let e : Some (Resident.Manager l.manager) ≡ Some (Resident.Manager v) = h.0.1 in cc

-- whatever waits for it, it is the same otherwise
pub cargo_queue : (q : List Message) (r : Resident) (asker : Option Asker) → cargo_of (residents.with_queue q r) asker ≡ cargo_of r asker
cargo_queue q (Resident.Process x) asker = refl
cargo_queue q (Resident.Board v) asker = refl
cargo_queue q (Resident.Manager v) asker = refl

pub moved_queue : (q : List Message) (r : Resident) → residents.moved (residents.with_queue q r) ≡ residents.moved r
moved_queue q (Resident.Process x) = refl
moved_queue q (Resident.Board v) = refl
moved_queue q (Resident.Manager v) = refl

-- it bears this name, and has moved as often as the lines say
pub record IsOf (v : View) (p : Pid) (r : Resident) : Type 0 where
  pub name : residents.name_of r ≡ p
  pub moves : residents.moves_of r ≡ v.moves p

of_board : (v : View) (p : Pid) (x : Board) (r : Resident) → p ≡ switchboard → x.moves ≡ v.moves switchboard → Some (Resident.Board x) ≡ Some r → IsOf v p r
of_board v p x r at_board moves e =
    let f : Resident.Board x ≡ r = cc in
    record { name = sym (ap residents.name_of f) ∙ sym at_board; moves = sym (ap residents.moves_of f) ∙ moves ∙ sym (ap v.moves at_board) }

of_manager : (v : View) (p : Pid) (x : Managing) (r : Resident) → p ≡ manager → x.moves ≡ v.moves manager → Some (Resident.Manager x) ≡ Some r → IsOf v p r
of_manager v p x r at_manager moves e =
    let f : Resident.Manager x ≡ r = cc in
    record { name = sym (ap residents.name_of f) ∙ sym at_manager; moves = sym (ap residents.moves_of f) ∙ moves ∙ sym (ap v.moves at_manager) }

of_process : (s : OneKernel) (v : View) (a : Addresses) (l : Placed) (p : Pid) (r : Resident) → Mirrors s v a l → is_server p ≡ false → resident_at l p ≡ Some r → IsOf v p r
of_process s v a l p r h off e =
    let (x, is, there) = process_there l p r off e in
    let g = h.places.process p x there in
    record { name = ap residents.name_of is ∙ g.pid; moves = ap residents.moves_of is ∙ g.moves }

pub resident_is : (s : OneKernel) (v : View) (a : Addresses) (l : Placed) (p : Pid) (r : Resident) → Mirrors s v a l → resident_at l p ≡ Some r → IsOf v p r
resident_is s v a l p r h e = elim (who p) [
  | OfProcess off ↦ of_process s v a l p r h off e
  | OfBoard at_board ↦ of_board v p l.board r at_board h.places.board_moves (subst (λ (q : Pid). resident_at l q ≡ Some r) at_board e)
  | OfManager at_manager ↦ of_manager v p l.manager r at_manager h.places.manager_moves (subst (λ (q : Pid). resident_at l q ≡ Some r) at_manager e)
]

-- so it is with what is here, whatever waits for it
queue_of_it : (v : View) (p : Pid) (q : List Message) (r : Resident) → IsOf v p (residents.with_queue q r) → IsOf v p r
queue_of_it v p q (Resident.Process x) h = record { name = h.name; moves = h.moves }
queue_of_it v p q (Resident.Board x) h = record { name = h.name; moves = h.moves }
queue_of_it v p q (Resident.Manager x) h = record { name = h.name; moves = h.moves }

pub here_is : (s : OneKernel) (v : View) (a : Addresses) (l : Placed) (p : Pid) (queue : List MsgId) (r : Resident) → Mirrors s v a l → HereStands l p queue r → IsOf v p r
here_is s v a l p queue r h here = queue_of_it v p here.0.0 r (resident_is s v a l p (residents.with_queue here.0.0 r) h here.0.1)

-- only a process stands in a ring
pub ring_is : (l : Placed) (p : Pid) (queue : List MsgId) (ring : List Pid) (r : Resident) → HereStands l p queue r → machine.ring_with ring p r ≡ view.ring_with ring p
ring_is l p queue ring r here = elim (who p) [
  | OfProcess off ↦
      let h = process_here l p queue r off here in
      ap (machine.ring_with ring p) h.is ∙ sym (ap (λ (c : Bool). if c then ring else ring ++ p ∷ []) off)
  | OfBoard at_board ↦
      let e = board_here l queue r (subst (λ (q : Pid). HereStands l q queue r) at_board here) in
      ap (machine.ring_with ring p) e ∙ sym (ap (view.ring_with ring) at_board)
  | OfManager at_manager ↦
      let e = manager_here l queue r (subst (λ (q : Pid). HereStands l q queue r) at_manager here) in
      ap (machine.ring_with ring p) e ∙ sym (ap (view.ring_with ring) at_manager)
]

-- what is anywhere, without the messages that wait for it
pub here_bare : (l : Placed) (p : Pid) (r : Resident) → resident_at l p ≡ Some r → HereStands l p [] (residents.with_queue [] r)
here_bare l p (Resident.Process x) there = ((x.queue, there), refl)
here_bare l p (Resident.Board v) there = (([], there), refl)
here_bare l p (Resident.Manager g) there = (([], there), refl)

pub blocks_queue : (q : List Message) (r : Resident) → residents.blocks_of (residents.with_queue q r) ≡ residents.blocks_of r
blocks_queue q (Resident.Process x) = refl
blocks_queue q (Resident.Board v) = refl
blocks_queue q (Resident.Manager g) = refl

-- a kernel with places of the same system
pub record SameSystem (l u : Placed) : Type 0 where
  pub machines : u.manager.machines ≡ l.manager.machines
  pub images : u.manager.images ≡ l.manager.images

pub same_manager : (l u : Placed) → u.manager ≡ l.manager → SameSystem l u
same_manager l u e = record { machines = ap (λ (g : Managing). g.machines) e; images = ap (λ (g : Managing). g.images) e }

pub same_system : (l : Placed) → SameSystem l l
same_system l = record { machines = refl; images = refl }

pub carried_same : (l u : Placed) (cap : ℕ) (r : Resident) → SameSystem l u → CanBeCarried cap l.manager.machines l.manager.images r → CanBeCarried cap u.manager.machines u.manager.images r
carried_same l u cap r same h = subst (λ (n : ℕ). CanBeCarried cap n u.manager.images r) (sym same.machines) (subst (λ (n : ℕ). CanBeCarried cap l.manager.machines n r) (sym same.images) h)

pub of_system_queue : (q : List Message) (cap machines images : ℕ) (r : Resident) → IsOfSystem cap machines images r → IsOfSystem cap machines images (residents.with_queue q r)
of_system_queue q cap machines images (Resident.Process x) h = h
of_system_queue q cap machines images (Resident.Board v) h = h
of_system_queue q cap machines images (Resident.Manager v) h = h

-- a server is none of the others
pub server_apart : (p q : Pid) → is_server p ≡ true → is_server q ≡ false → pid_eq p q ≡ false
server_apart p q on off = elim (cases_Bool (pid_eq p q)) [
  | inl same ↦ absurd (false≢true (sym off ∙ ap is_server (sym (pid_eq-is p q same)) ∙ on))
  | inr apart ↦ apart
]

-- what was made is no server
pub made_apart : (b : Boot) (pt : Point) (p : Pid) → Run b pt → is_some (pt.kernel.processes p) ≡ true → is_server p ≡ false
made_apart b pt p run there = let least = run.based.phased.sane.sound.made.least p there in grind (arith, nat_tests)

-- nor what is asked to move
pub asked_apart : (b : Boot) (pt : Point) (p : Pid) (n : MoveNote) → Run b pt → pt.kernel.notes p ≡ Some n → is_server p ≡ false
asked_apart b pt p n run is = let x = run.based.phased.sane.sound.notes.lives p n is in made_apart b pt p run (ap is_some x.1)

-- the blocks of a process
pub lawful_blocks : (x : Process) → IsLawfulProcess x → (length x.memory / 256 == 0) ≡ false
lawful_blocks x h =
    let n : ℕ = h.size.0 in
    let e : length x.memory ≡ 256 * n = h.size.1 in
    let least : 1 ≤ n = h.size.2 in
    let d : length x.memory / 256 ≡ n = omega (arith, e) in
    grind (arith, nat_tests, d, least)

apart_swap : (p q : Pid) → pid_eq p q ≡ false → pid_eq q p ≡ false
apart_swap p q off = elim (cases_Bool (pid_eq q p)) [
  | inl same ↦ absurd (false≢true (sym off ∙ ap (pid_eq p) (pid_eq-is q p same) ∙ pid_eq-same p))
  | inr apart ↦ apart
]

-- where one server is another the others stay
pub board_others : (l u : Placed) (q : Pid) → u.processes q ≡ l.processes q → u.manager ≡ l.manager → pid_eq switchboard q ≡ false → resident_at u q ≡ resident_at l q
board_others l u q e g off =
    let no_board : pid_eq q switchboard ≡ false = apart_swap switchboard q off in
    ap (λ (c : Bool). if c then Some (Resident.Board u.board) else if pid_eq q manager then Some (Resident.Manager u.manager) else option_map Resident.Process (u.processes q)) no_board
    ∙ (λ i. if pid_eq q manager then Some (Resident.Manager (g i)) else option_map Resident.Process (e i))
    ∙ sym (ap (λ (c : Bool). if c then Some (Resident.Board l.board) else if pid_eq q manager then Some (Resident.Manager l.manager) else option_map Resident.Process (l.processes q)) no_board)

pub manager_others : (l u : Placed) (q : Pid) → u.processes q ≡ l.processes q → u.board ≡ l.board → pid_eq manager q ≡ false → resident_at u q ≡ resident_at l q
manager_others l u q e f off =
    let no_manager : pid_eq q manager ≡ false = apart_swap manager q off in
    ap (λ (c : Bool). if pid_eq q switchboard then Some (Resident.Board u.board) else if c then Some (Resident.Manager u.manager) else option_map Resident.Process (u.processes q)) no_manager
    ∙ (λ i. if pid_eq q switchboard then Some (Resident.Board (f i)) else option_map Resident.Process (e i))
    ∙ sym (ap (λ (c : Bool). if pid_eq q switchboard then Some (Resident.Board l.board) else if c then Some (Resident.Manager l.manager) else option_map Resident.Process (l.processes q)) no_manager)

-- no server is a process
pub server_none : (b : Boot) (pt : Point) (l : Placed) (p : Pid) → Run b pt → Mirrors pt.kernel pt.view pt.addresses l → is_server p ≡ true → l.processes p ≡ None
server_none b pt l p run h on = none (l.processes p) refl (pt.kernel.processes p) refl
  where
    alive_some : (o : Option Life) (x : PlainProcess) → kernel.alive o ≡ Some x → is_some o ≡ true
    alive_some None x e = cc
    alive_some (Some life) x e = refl

    none : (o : Option Process) → l.processes p ≡ o → (s : Option Life) → pt.kernel.processes p ≡ s → o ≡ None
    none None e s f = refl
    none (Some x) e s f =
        let alive : kernel.alive (pt.kernel.processes p) ≡ Some (plain_process x) = h.plain.processes p ∙ ap (option_map plain_process) e in
        absurd (false≢true (sym (made_apart b pt p run (alive_some (pt.kernel.processes p) (plain_process x) alive)) ∙ on))
