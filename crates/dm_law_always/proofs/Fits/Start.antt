-- All fits where a run begins, and wherever it comes.
use Rattle.dm_law_always.proofs.Names.{◌≡◌, ℕ, zero, suc, ◌+◌, ◌*◌, ◌-◌, ◌≤◌, ◌==◌, ◌&&◌, ◌||◌, Bool, true, false, not, List, [], ◌∷◌, ◌++◌, length, map, replicate, refl, ap, ◌∙◌, sym, subst, is_some, nat_le, nat_lt, inl, inr, arith}
use Rattle.dm_law_always.proofs.Names.{if◌then◌else◌, slice_get, option_map, Option, None, Some, cases_Bool, false≢true, nat_tests, length-append, length-replicate, Link, Pid, pid_eq, plain_link, MsgId, BootImage, BootProcess, Boot, Label}
use Rattle.dm_law_always.proofs.Names.{IsValid, switchboard, manager, starting_at, processes_are_valid, process_is_valid, links_are_valid, link_is_valid, leads_to_process, leads_to_server, controls_child, process_named, memory_size}
use Rattle.dm_law_always.proofs.Names.{area_is_empty, blocks_of_image, PlainProcess, Life, Alive, OneKernel, start, begun, memory_of, first_life, life_at, pid_eq-same, Sound, Each, has_bytes, gives_no_right, LinkFits, ProcessFits, KernelFits}
use Rattle.dm_law_always.proofs.Names.{by_step, Changes, PlainMessage, PlainWhat, Why, Called, with_sent, without_message, answer_to, pid_of, first_number, pid_eq-is, WhatFits, none_some}
use Rattle.dm_law_rule.proofs.Changes.{Next}
use Rattle.dm_onekernel.specs.Step as kernel
use Rattle.dm_onekernel.specs.Receiving as receiving
use Rattle.dm_onekernel.specs.Pieces as pieces
use Rattle.dm_law_always.proofs.Fits.Rises.{both, Each-on, out_fits, put_fits, end_fits}
use Rattle.dm_law_always.proofs.Fits.Creates.{begun_fits, created_fits, no_space_fits, ran_fits, goes_fits, call_goes, send_goes, next_is, completing_is}
use Rattle.dm_law_always.proofs.Fits.Serves.{changed_fits, goes_same, gone_fits, read_fits, write_fits, landed_fits, asked_fits, move_ended_fits}
use Rattle.dm_law_always.proofs.Fits.Constants.{InOrder, board_row, manager_row}

-- each step keeps that all fits
abbrev is_ran : Label → Bool
is_ran (Label.Ran p k) = true
is_ran _ = false

rows_fit : (r e : MsgId → ℕ) (s : OneKernel) (l : Label) → is_ran l ≡ false → Sound r e s → InOrder s.manager → KernelFits s → Changes KernelFits s l
rows_fit r e s l off h order fits =
    let what : (id : MsgId) (m : PlainMessage) (w : PlainWhat) → m.what ≡ w → s.bag id ≡ Some m → WhatFits s id m w = λ id m w is there. subst (WhatFits s id m) is (fits.messages id m there) in
    record {
      ran = λ p k x m is runs. absurd (false≢true (sym off ∙ ap is_ran is));
      replies = λ p n k c d y is w. call_goes s p (kernel.Calls k (Called.Replies d y)) y (next_is s p (kernel.Calls k (Called.Replies d y)) fits w.is) (λ z f. f) fits;
      sends = λ p id k m y is same w. call_sends s p k m y w fits;
      waits = λ p k y is w. call_goes s p (kernel.Calls k (Called.Waits y)) y (next_is s p (kernel.Calls k (Called.Waits y)) fits w.is) (λ z f. f) fits;
      outputs = λ p word k v y is w. call_goes s p (kernel.Calls k (Called.Outputs v y)) y (next_is s p (kernel.Calls k (Called.Outputs v y)) fits w.is) (λ z f. f) fits;
      ends = λ p y next is w. end_fits s p y fits;
      receives = λ p id y is c e.
          (let w = completing_is s p id (receiving.Receives y) fits e in
          let g = w.fits in
          goes_fits (without_message s id) p w.x y w.alive w.still (record { memory = g.memory; slots = g.slots; move = g.move }) (out_fits s id fits));
      refuses = λ p id c d y is w e. (let w = completing_is s p id (receiving.Refuses d y) fits e in goes_fits s p w.x y w.alive w.still w.fits fits);
      dropped = λ id m y is w off. out_fits s id fits;
      gone = λ id m y is w v answer. put_fits (without_message s id) (answer_to m v) (gone_fits r e s id m m.what v refl answer (fits.messages id m w.there) w.there h) (out_fits s id fits);
      asked = λ id m x machine is w move. asked_fits s id m machine (what id m (PlainWhat.Move machine) move w.there) fits;
      answered = λ id o p n is w. move_ended_fits r e s id p n o w.noted w.notes h fits;
      stops = λ id m x b is w mild. changed_fits s id m x (record x { stopped = b }) w.alive refl (goes_same s m.to x (record x { stopped = b }) (omega arith) refl refl w.alive fits) fits;
      kills = λ id m x is w kill. end_fits (without_message s id) m.to Why.Killed (out_fits s id fits);
      reads = λ id m x base len is w read. read_fits r e s id m x base len read (what id m (PlainWhat.Read base len) read w.there) w.there w.alive h fits;
      writes = λ id m x base bytes is w write. write_fits r e s id m x base bytes write (what id m (PlainWhat.Write base bytes) write w.there) w.there w.alive h fits;
      lands = λ id m x n y is w mild last. landed_fits r e s id m x (pieces.Next n y) w.there w.alive last h fits;
      done = λ id m x c y is w mild last. landed_fits r e s id m x (pieces.Done c y) w.there w.alive last h fits;
      board = λ id m k is there to took. board_row s id m m.what k (fits.messages id m there) took fits;
      manager = λ id m k is there to took. manager_row r e s id m m.what k (h.entered.named id m there) there (fits.messages id m there) took h order fits;
      creates = λ id child m image links i is w found name.
          created_fits r e s id m child i links image (what id m (PlainWhat.Create image links) w.what w.there) w.there (pid_eq-is child (pid_of m.to.home (first_number + s.made m.to.home)) name) h fits;
      no_room = λ id a b m image links is w. no_space_fits r e s id m image links (what id m (PlainWhat.Create image links) w.what w.there) w.there h fits;
    }
  where
    call_sends : (s : OneKernel) (p : Pid) (k : ℕ) (m : PlainMessage) (y : PlainProcess) → Next s p (kernel.Calls k (Called.Sends m y)) → KernelFits s → KernelFits (with_sent (kernel.goes_on s p y) (Some m))
    call_sends s p k m y w fits =
        let (z, sent, pending, counted) = w.so.counts in
        send_goes s p (kernel.Calls k (Called.Sends m y)) m y (next_is s p (kernel.Calls k (Called.Sends m y)) fits w.is) (λ z f. f) (ap (λ (i : MsgId). i.from) counted.id) fits

pub fits_step : (r e : MsgId → ℕ) (s t : OneKernel) (l : Label) → kernel.step s l ≡ Some t → Sound r e s → InOrder s.manager → KernelFits s → KernelFits t
fits_step r e s t (Label.Ran p k) is h order fits = ran_fits s t p k is fits
fits_step r e s t l is h order fits = by_step KernelFits s t l (rows_fit r e s l refl h order fits) is

-- an image's process has the bytes of its blocks
memory_long : (i : BootImage) → 256 * i.blocks ≤ length (memory_of i)
memory_long i =
    let a = length-append i.bytes (replicate (256 * i.blocks - length i.bytes) 0) in
    let b : length (replicate (256 * i.blocks - length i.bytes) 0) ≡ 256 * i.blocks - length i.bytes = length-replicate {A = ℕ} (256 * i.blocks - length i.bytes) 0 in
    omega (arith, a, b)

begins_with : (b : Boot) (p : BootProcess) (n : ℕ) (o : Option BootImage) → is_some o ≡ true → nat_le n (256 * blocks_of_image o) ≡ true → has_bytes n (option_map (λ (image : BootImage). Alive (begun b.format image (map plain_link p.links))) o) ≡ true
begins_with b p n o h1 h2 = search (arith, memory_long)

pub get_some : {X : Type 0} (xs : List X) (k : ℕ) → nat_lt k (length xs) ≡ true → is_some (slice_get xs k) ≡ true
get_some [] k e = absurd (let f : nat_lt k 0 ≡ false = grind (arith, nat_tests) in false≢true (sym f ∙ e))
get_some (x ∷ xs) zero e = refl
get_some (x ∷ xs) (suc k) e = get_some xs k (let f : nat_lt k (length xs) ≡ true = grind (arith, nat_tests) in f)

-- each process of the list has an image, and links of the file
abbrev ProcessIs : Boot → BootProcess → Type 0
ProcessIs b p = (is_some (slice_get b.images p.image) ≡ true) × (links_are_valid b p.links ≡ true)

process_is : (b : Boot) (others : ℕ) (p : BootProcess) → process_is_valid b others p ≡ true → ProcessIs b p
process_is b others p h = search (arith, both, p.pid.home, b.machines, p.pid.num, p.image, b.images, p.links, b.format, get_some)

processes_are : (b : Boot) (earlier ps : List BootProcess) → processes_are_valid b earlier ps ≡ true → Each (ProcessIs b) ps
processes_are b earlier [] h = tt
processes_are b earlier (p ∷ ps) h =
    let k = both (process_is_valid b (starting_at p.pid.home earlier) p) (processes_are_valid b (earlier ++ p ∷ []) ps) h in
    (process_is b (starting_at p.pid.home earlier) p k.0, processes_are b (earlier ++ p ∷ []) ps k.1)

-- a process that the file names has the memory of its image
named_by : (b : Boot) (c : Bool) (r p : BootProcess) (o : Option BootProcess) (l : Option Life) (n : ℕ) → (if c then Some r else o) ≡ Some p → ProcessIs b r → nat_le n (memory_size b (Some p)) ≡ true → (o ≡ Some p → has_bytes n l ≡ true)
    → has_bytes n (if c then first_life b r else l) ≡ true
named_by b c r p o l n h1 h2 h3 h4 = search (arith, begins_with, b.images, r.image)

named_has : (b : Boot) (ps : List BootProcess) (q : Pid) (p : BootProcess) (n : ℕ) → Each (ProcessIs b) ps → process_named q ps ≡ Some p → nat_le n (memory_size b (Some p)) ≡ true → has_bytes n (life_at b ps q) ≡ true
named_has b [] q p n is e le = none_some p e
named_has b (r ∷ rs) q p n is e le = named_by b (pid_eq r.pid q) r p (process_named q rs) (life_at b rs q) n e is.0 le (λ f. named_has b rs q p n is.1 f le)

-- links of the file
empty_gives : (a : _) → area_is_empty a ≡ true → gives_no_right a ≡ true
empty_gives a h = (both (a.len == 0) (not a.read && not a.write) (both (a.base == 0) ((a.len == 0) && (not a.read && not a.write)) h).1).1

server_gives : (l : Link) → leads_to_server l ≡ true → gives_no_right l.area ≡ true
server_gives l h = empty_gives l.area (both (l.code == 0) (area_is_empty l.area) (both (l.addr.at == 0) ((l.code == 0) && area_is_empty l.area) h).1).1

leads_by : (b : Boot) (l : Link) (c d : Bool) → pid_eq l.addr.pid switchboard ≡ c → pid_eq l.addr.pid manager ≡ d → Each (ProcessIs b) b.processes
    → (if c then leads_to_server l else if d then leads_to_server l || controls_child b l else leads_to_process b l (process_named l.addr.pid b.processes)) ≡ true → LinkFits (life_at b b.processes) (plain_link l)
leads_by b l c d h1 h2 h3 h4 = search (arith, server_gives, l.addr.pid, l.area, l.area.base, l.area.len, b.processes, both, empty_gives, named_has)

link_fits_first : (b : Boot) (l : Link) → Each (ProcessIs b) b.processes → link_is_valid b l ≡ true → LinkFits (life_at b b.processes) (plain_link l)
link_fits_first b l is h = search (arith, both, l.addr.moves, l.to_kernel, l.channel, leads_by, l.addr.pid)

links_fit_first : (b : Boot) (ls : List Link) → Each (ProcessIs b) b.processes → links_are_valid b ls ≡ true → Each (LinkFits (life_at b b.processes)) (map plain_link ls)
links_fit_first b [] is h = tt
links_fit_first b (l ∷ ls) is h = let k = both (link_is_valid b l) (links_are_valid b ls) h in (link_fits_first b l is k.0, links_fit_first b ls is k.1)

-- processes of the file
first_is : (b : Boot) (p : BootProcess) (x : PlainProcess) (o : Option BootImage) → ProcessIs b p → Each (ProcessIs b) b.processes → option_map (λ (image : BootImage). Alive (begun b.format image (map plain_link p.links))) o ≡ Some (Alive x) → ProcessFits (life_at b b.processes) x
first_is b p x None one is e = cc
first_is b p x (Some i) one is e =
    let f : begun b.format i (map plain_link p.links) ≡ x = cc in
    subst (ProcessFits (life_at b b.processes)) f (begun_fits (life_at b b.processes) b.format i (map plain_link p.links) (links_fit_first b p.links is one.1))

lives_fit : (b : Boot) (ps : List BootProcess) (q : Pid) (x : PlainProcess) → Each (ProcessIs b) ps → Each (ProcessIs b) b.processes → life_at b ps q ≡ Some (Alive x) → ProcessFits (life_at b b.processes) x
lives_fit b [] q x some is e = cc
lives_fit b (p ∷ ps) q x some is e = elim (cases_Bool (pid_eq p.pid q)) [
  | inl same ↦ first_is b p x (slice_get b.images p.image) some.0 is (sym (ap (λ (c : Bool). if c then first_life b p else life_at b ps q) same) ∙ e)
  | inr apart ↦ lives_fit b ps q x some.1 is (sym (ap (λ (c : Bool). if c then first_life b p else life_at b ps q) apart) ∙ e)
]

first_has : (b : Boot) (p : BootProcess) → ProcessIs b p → has_bytes 0 (first_life b p) ≡ true
first_has b p is = begins_with b p 0 (slice_get b.images p.image) is.0 (let f : nat_le 0 (256 * blocks_of_image (slice_get b.images p.image)) ≡ true = grind (arith, nat_tests) in f)

has_if : (b : Boot) (c : Bool) (p : BootProcess) (l : Option Life) → has_bytes 0 (first_life b p) ≡ true → (c ≡ false → has_bytes 0 l ≡ true) → has_bytes 0 (if c then first_life b p else l) ≡ true
has_if b c p l h1 h2 = search arith

children_made : (b : Boot) (ps : List BootProcess) → Each (ProcessIs b) ps → Each (λ (p : BootProcess). has_bytes 0 (life_at b ps p.pid) ≡ true) ps
children_made b [] is = tt
children_made b (p ∷ ps) is = (
  has_if b (pid_eq p.pid p.pid) p (life_at b ps p.pid) (first_has b p is.0) (λ e. absurd (false≢true (sym e ∙ pid_eq-same p.pid))),
  Each-on (λ (q : BootProcess). has_bytes 0 (life_at b ps q.pid) ≡ true) (λ (q : BootProcess). has_bytes 0 (life_at b (p ∷ ps) q.pid) ≡ true) (λ q h. has_if b (pid_eq p.pid q.pid) p (life_at b ps q.pid) (first_has b p is.0) (λ e. h)) ps (children_made b ps is.1),
)

map_each : {X Y : Type 0} (P : Y → Type 0) (f : X → Y) (xs : List X) → Each (λ x. P (f x)) xs → Each P (map f xs)
map_each P f [] h = tt
map_each P f (x ∷ xs) h = (h.0, map_each P f xs h.1)

pub start_fits : (b : Boot) → IsValid b → KernelFits (start b)
start_fits b valid = search (arith, processes_are, b.processes, valid.processes, lives_fit, map_each, children_made)
