-- The kernel before any process begins.
use Rattle.std.specs.Prelude.{◌≡◌, ℕ, zero, suc, ◌+◌, ◌*◌, ◌<◌, ◌≤◌, ◌==◌, if◌then◌else◌, Bool, true, false, List, [], ◌∷◌, ◌++◌, length, map, option_map, replicate, slice_index}
use Rattle.std.proofs.Common.{inl, inr, refl, sym, subst, ap, arith, ◌∙◌}
use Rattle.std.proofs.lemmas.Bool.{and_parts, cases_Bool}
use Rattle.std.proofs.lemmas.Bool.Decides.{nat_tests}
use Rattle.std.proofs.lemmas.List.Elements.{All-nil}
use Rattle.std.specs.BTreeMap.{BTreeMap, get, is_at}
use Rattle.std.specs.Map.{lookup}
use Rattle.std.specs.declared.option.Option.TheVariants.{None, Some}
use Rattle.dm_link.specs.declared.Pid.{Pid}
use Rattle.dm_link.specs.Names.{pid_cmp}
use Rattle.dm_message.specs.declared.MsgId.{MsgId}
use Rattle.dm_onekernel.specs.declared.boot.Boot.{Boot}
use Rattle.dm_onekernel.specs.declared.boot.BootProcess.{BootProcess}
use Rattle.dm_onekernel.specs.Boot.{IsValid, process_is_valid, processes_are_valid, starting_at}
use Rattle.dm_onekernel.specs.Start.{start}
use Rattle.dm_procman.specs.Lawful.{IsLawfulManager}
use Rattle.dm_procman.specs.Managing.{Managing, child_at_home, plain_child, plain_manager, starting}
use Rattle.dm_switchboard.specs.Board.{Board, plain_board}
use Rattle.dm_switchboard.specs.Lawful.{IsLawfulBoard, IsLawfulNamed}
use Rattle.dm_replay.specs.declared.kernel.Kernel.{Kernel}
use Rattle.dm_replay.specs.declared.kernel.Note.{Note}
use Rattle.dm_replay.specs.Begun.{started}
use Rattle.dm_replay.specs.Living.{alive_of, at, life_of}
use Rattle.dm_replay.specs.Named.{held}
use Rattle.dm_replay.specs.Sound.{IsOf, IsSound}
use Rattle.dm_replay.specs.State.{one_kernel, plain_held, plain_note}
use Rattle.dm_replay.proofs.Beginning.{few_of_home}
use Rattle.dm_onekernel.proofs.Lawful.{few_machines, home_of}

-- so much of each number below n
abbrev sum_to : ℕ → (ℕ → ℕ) → ℕ
sum_to zero f = 0
sum_to (suc n) f = sum_to n f + f n

sum_less : (n : ℕ) (f g : ℕ → ℕ) → ((i : ℕ) → f i ≤ g i) → sum_to n f ≤ sum_to n g
sum_less zero f g le = omega arith
sum_less (suc n) f g le = let h = sum_less n f g le in let k = le n in omega (arith, h, k)

eq_is : (i j : ℕ) → (i == j) ≡ true → i ≡ j
eq_is i j e = grind (arith, nat_tests)

sum_more : (n : ℕ) (f g : ℕ → ℕ) (j : ℕ) → ((i : ℕ) → f i ≤ g i) → j < n → f j + 1 ≤ g j → sum_to n f + 1 ≤ sum_to n g
sum_more zero f g j le within more = absurd (omega (arith, within))
sum_more (suc n) f g j le within more = elim (cases_Bool (j == n)) [
  | inl same ↦
      let here : f n + 1 ≤ g n = subst (λ m. f m + 1 ≤ g m) (eq_is j n same) more in
      omega (arith, sum_less n f g le, here)
  | inr apart ↦ omega (arith, sum_more n f g j le (grind (arith, nat_tests)) more, le n)
]

sum_within : (n k : ℕ) (f : ℕ → ℕ) → n ≤ k → ((i : ℕ) → i < k → f i ≤ 64) → sum_to n f ≤ n * 64
sum_within zero k f le h = omega arith
sum_within (suc n) k f le h = let r = sum_within n k f (omega (arith, le)) h in let one = h n (omega (arith, le)) in omega (arith, r, one)

one_of : (c : Bool) (n : ℕ) → c ≡ true → n + 1 ≤ (if c then 1 else 0) + n
one_of true n e = omega arith
one_of false n e = absurd (cc)

-- the processes of all machines
all_processes : (b : Boot) (earlier ps : List BootProcess) → processes_are_valid b earlier ps ≡ true → length ps ≤ sum_to (length b.machines) (λ m. starting_at m ps)
all_processes b earlier [] h = omega arith
all_processes b earlier (p ∷ ps) h =
    let parts = and_parts (process_is_valid b (starting_at p.pid.home earlier) p) (processes_are_valid b (earlier ++ p ∷ []) ps) h in
    let home : p.pid.home < length b.machines = home_of b (starting_at p.pid.home earlier) p parts.0 in
    let itself : (p.pid.home == p.pid.home) ≡ true = grind (arith, nat_tests) in
    let mine : starting_at p.pid.home ps + 1 ≤ starting_at p.pid.home (p ∷ ps) = one_of (p.pid.home == p.pid.home) (starting_at p.pid.home ps) itself in
    let others : (m : ℕ) → starting_at m ps ≤ starting_at m (p ∷ ps) = λ m. omega arith in
    omega (arith, all_processes b (earlier ++ p ∷ []) ps parts.1, sum_more (length b.machines) (λ m. starting_at m ps) (λ m. starting_at m (p ∷ ps)) p.pid.home others home mine)

few_processes : (b : Boot) → IsValid b → length b.processes ≤ 1024
few_processes b valid =
    let all = all_processes b [] b.processes valid.processes in
    let most = sum_within (length b.machines) (length b.machines) (λ m. starting_at m b.processes) (omega arith) (λ m h. few_of_home b m valid h) in
    let few = few_machines (length b.machines) valid.few_machines in
    omega (arith, all, most, few)

-- they are the manager's children
children_plain : (ps : List BootProcess) → map plain_child (map child_at_home ps) ≡ map (λ (p : BootProcess). p.pid) ps
children_plain [] = refl
children_plain (p ∷ ps) = ap (λ (qs : List Pid). p.pid ∷ qs) (children_plain ps)

children_all : (ps : List BootProcess) → length (map child_at_home ps) ≡ length ps
children_all [] = refl
children_all (p ∷ ps) = ap suc (children_all ps)

manager_starts : (b : Boot) → plain_manager (starting b) ≡ (start b).manager
manager_starts b = λ j. record (start b).manager { children = children_plain b.processes j }

none_made : (n m : ℕ) → slice_index (replicate n 0) m ≡ 0
none_made zero m = refl
none_made (suc n) zero = refl
none_made (suc n) (suc m) = none_made n m

no_note : (notes : BTreeMap Pid Note) (q : Pid) → notes.entries ≡ [] → get pid_cmp notes q ≡ None
no_note notes q e = ap (λ (es : List (Pid × Note)). lookup (is_at (pid_cmp q)) es) e

-- what a kernel has in which nothing has begun
pub record IsEmpty (b : Boot) (k : Kernel) : Type 0 where
  pub processes : (q : Pid) → at k.processes q ≡ None
  pub made : k.made ≡ replicate 16 0
  pub bag : (i : MsgId) → held k.bag i ≡ None
  pub notes : k.notes.entries ≡ []
  pub noted : (i : MsgId) → held k.noted i ≡ None
  pub board : k.board ≡ record { names = []; sent = 0; moves = 0 }
  pub manager : k.manager ≡ starting b

pub state_empty : (b : Boot) (k : Kernel) → IsEmpty b k → one_kernel b k ≡ started b []
state_empty b k h = λ j. record (started b []) {
  processes = λ q. ap life_of (h.processes q) j;
  made = λ m. (ap (λ (xs : List ℕ). slice_index xs m) h.made ∙ none_made 16 m) j;
  bag = λ i. ap plain_held (h.bag i) j;
  notes = λ q. ap (option_map plain_note) (no_note k.notes q h.notes) j;
  noted = λ i. h.noted i j;
  switchboard = ap plain_board h.board j;
  manager = (ap plain_manager h.manager ∙ manager_starts b) j;
}

pub sound_empty : (b : Boot) (k : Kernel) → IsValid b → IsLawfulManager k.manager → IsEmpty b k → IsSound 0 k
sound_empty b k valid lawful h =
    let none = ap (λ (g : Managing). g.sent) h.manager in
    let few = few_processes b valid in
    let children : length k.manager.children ≡ length b.processes = ap (λ (g : Managing). length g.children) h.manager ∙ children_all b.processes in
    let unsent = ap (λ (g : Board). g.sent) h.board in
    record {
      processes = λ p x e. absurd (let no : None ≡ Some x = sym (ap alive_of (h.processes p)) ∙ e in cc);
      bag = λ i m e. absurd (let no : None ≡ Some m = sym (h.bag i) ∙ e in cc);
      notes = λ p n e. absurd (let no : None ≡ Some n = sym (no_note k.notes p h.notes) ∙ e in cc);
      noted = λ i p e. absurd (let no : None ≡ Some p = sym (h.noted i) ∙ e in cc);
      made = λ m. let none : slice_index k.made m ≡ 0 = ap (λ (xs : List ℕ). slice_index xs m) h.made ∙ none_made 16 m in omega (arith, none);
      board = subst IsLawfulBoard (sym h.board) (All-nil IsLawfulNamed);
      board_sent = omega (arith, unsent);
      manager = lawful;
      manager_sent = omega (arith, none);
      children = omega (arith, few, children);
    }
