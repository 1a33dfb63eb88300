-- Wherever the rule leads, what is known of the size of a server stands; and so it is small enough to be carried.
use Rattle.dm_law_always.proofs.Names.{◌≡◌, ℕ, zero, suc, ◌+◌, ◌≤◌, ◌==◌, ◌&&◌, Bool, true, false, List, [], ◌∷◌, length, refl, ap, sym, subst, arith, nat_tests, if◌then◌else◌, Pid, Boot, IsValid, Step, Leads, Point, first_point, Here, Incoming, Unknown, IsStep, BootProcess, is_server, known_at, pid_eq}
use Rattle.dm_line.specs.Each.{sum_below}
use Rattle.dm_law_always.specs.Sizes.{SizesAlways, SizeStands, server_size, routed_to, waiting_at}
use Rattle.dm_law_always.proofs.Found.Core.{LineCore, lines_of_core}
use Rattle.dm_law_always.proofs.Goes.Runs.{Both, both_group, both_start}
use Rattle.dm_law_always.proofs.RunsAlways.{run_start, run_group}
use Rattle.dm_law_always.proofs.Sizes.Groups.{size_group}
use Rattle.dm_law_always.proofs.Sizes.Kept.{Server}
use Rattle.dm_law_always.proofs.Sizes.Servers.{start_size}
use Rattle.dm_law_always.proofs.Sizes.Walks.{Keeps}

-- before the first line nothing waits, and nothing was routed
sum_none : (n : ℕ) → sum_below (λ a. 0) n ≡ 0
sum_none zero = refl
sum_none (suc n) = let h = sum_none n in omega (arith, h)

here_or_not : (c : Bool) (from : ℕ) → (if c then Here else Unknown) ≡ Incoming from → ⊥
here_or_not true from e = cc
here_or_not false from e = cc

none_comes : (ps : List BootProcess) (m : ℕ) (p : Pid) (from : ℕ) → known_at ps m p ≡ Incoming from → ⊥
none_comes [] m p from e = here_or_not ((m == 0) && is_server p) from e
none_comes (q ∷ qs) m p from e = by (pid_eq q.pid p && (q.pid.home == m)) (none_comes qs m p from) e
  where
    by : (c : Bool) → (known_at qs m p ≡ Incoming from → ⊥) → (if c then Here else known_at qs m p) ≡ Incoming from → ⊥
    by true rest f = cc
    by false rest f = rest f

nothing_waits : (n : ℕ) (b : Boot) (p : Pid) (m : ℕ) → waiting_at n (first_point b).view p m ≡ 0
nothing_waits n b p m = ap (λ (k : ℕ). 0 + (k + 0)) (sum_none n)

nothing_routed : (n : ℕ) (b : Boot) (p : Pid) (m : ℕ) → routed_to n (first_point b).view p m ≡ 0
nothing_routed n b p m = sum_none n

starts : (n : ℕ) (b : Boot) (p : Pid) → IsValid b → Server n p → Keeps 0 n p (first_point b)
starts n b p valid server =
    let small : server_size (first_point b).kernel p ≤ 536870912 = start_size b p valid server.is in
    record {
      outside = λ a c le. refl;
      home = λ m. omega arith;
      within = λ m. (let x = nothing_waits n b p m in let y = nothing_routed n b p m in omega (arith, x, y));
      grown = λ few m has. (let x = nothing_waits n b p m in let y = nothing_routed n b p m in omega (arith, x, y, small));
      carried = λ few m from is come. absurd (none_comes b.processes m p from is);
      asked = λ come m from is. absurd (none_comes b.processes m p from is);
      small = λ few. omega (arith, small);
    }

-- behind each group
record Sized (b : Boot) (p : Pid) (pt : Point) : Type 0 where
  both : Both b pt
  size : Keeps 0 (length b.machines) p pt

sized_on : (b : Boot) (p : Pid) (es : List Step) (pt end : Point) → IsValid b → Server (length b.machines) p → Leads b pt es end → Sized b p pt → Sized b p end
sized_on b p [] pt end valid server leads h = subst (Sized b p) leads h
sized_on b p (d ∷ ds) pt end valid server (w, fit, is, more) h =
    let run = h.both.run in
    let machines = run.based.machines in
    sized_on b p ds w.point end valid server more (record {
      both = both_group run_group b pt d w valid fit is h.both;
      size = size_group (length b.machines) p b pt d w server (subst (λ (n : ℕ). IsStep n d) machines fit) is run.based.phased run.based.known run.based.held (subst (λ (n : ℕ). LineCore n pt) machines (lines_of_core pt.kernel.machines pt run.kept)) h.size;
    })

pub few_machines : (b : Boot) → IsValid b → length b.machines ≤ 16
few_machines b valid = let e = valid.few_machines in grind (arith, nat_tests)

pub sizes_always : SizesAlways
sizes_always b es pt p valid leads few is =
    let n = length b.machines in
    let server : Server n p = record { is = is; few = few_machines b valid } in
    let h = sized_on b p es (first_point b) pt valid server leads (record { both = both_start run_start b valid; size = starts n b p valid server }) in
    let z = h.size in
    let machines : n ≡ pt.kernel.machines = sym h.both.run.based.machines in
    let stands : SizeStands n pt.kernel pt.view p = record { within = z.within; grown = z.grown few; carried = z.carried few } in
    (subst (λ (k : ℕ). SizeStands k pt.kernel pt.view p) machines stands, z.small few)
