-- The parts of a system are the finest that each link keeps to.
use Rattle.std.proofs.Common.{◌≡◌, ℕ, zero, suc, ◌+◌, ◌-◌, ◌<◌, ◌≤◌, ◌==◌, ◌&&◌, ◌||◌, Bool, true, false, not, List, [], ◌∷◌, ◌++◌, length, refl, ap, sym, ◌∙◌, subst, inl, inr, arith, slice_get, nat_lt, nat_le}
use Rattle.std.specs.Prelude.{if◌then◌else◌}
use Rattle.std.specs.declared.option.Option.TheVariants.{None, Some}
use Rattle.std.proofs.lemmas.Bool.{and_parts, cases_Bool}
use Rattle.std.proofs.lemmas.List.Quantifiers.{position-Some}
use Rattle.dm_processor.proofs.Names.{nat_tests}
use Rattle.dm_link.specs.declared.Link.{Link}
use Rattle.dm_link.specs.declared.Pid.{Pid}
use Rattle.dm_link.specs.Names.{pid_eq}
use Rattle.dm_onekernel.specs.declared.boot.Boot.{Boot}
use Rattle.dm_onekernel.specs.declared.boot.BootProcess.{BootProcess}
use Rattle.dm_onekernel.specs.Boot.{area_is_empty, controls_child, is_general, leads_somewhere, leads_to_process, leads_to_server, link_is_valid, links_are_valid, process_is_valid, process_named, processes_are_valid, slots_of, starting_at, switchboard, manager, first_number}
use Rattle.dm_parts.specs.Laws.{EachKeeps, FirstNames, LinksKeepToParts, PartsAreFinest, SamePart}
use Rattle.dm_parts.specs.Parts.{alone, child_place, joins, parts_of, place_of}
use Rattle.dm_parts.proofs.Joins.{Fine, Together, Sound, alone_fine, alone_sound, link_fine, link_sound, links_by, links_sound, processes_by, processes_join}

pub get_within : {X : Type 0} (xs : List X) (n : ℕ) (x : X) → slice_get xs n ≡ Some x → n < length xs
get_within [] n x e = cc
get_within (y ∷ ys) zero x e = omega arith
get_within (y ∷ ys) (suc n) x e = let k = get_within ys n x e in omega (arith, k)

pub links_valid_at : (b : Boot) (ls : List Link) (n : ℕ) (l : Link) → links_are_valid b ls ≡ true → slice_get ls n ≡ Some l → link_is_valid b l ≡ true
links_valid_at b [] n l h e = cc
links_valid_at b (m ∷ ls) zero l h e = let k : m ≡ l = cc in subst (λ (v : Link). link_is_valid b v ≡ true) k (and_parts (link_is_valid b m) (links_are_valid b ls) h).0
links_valid_at b (m ∷ ls) (suc n) l h e = links_valid_at b ls n l (and_parts (link_is_valid b m) (links_are_valid b ls) h).1 e

process_links : (b : Boot) (others : ℕ) (p : BootProcess) → process_is_valid b others p ≡ true → links_are_valid b p.links ≡ true
process_links b others p h =
    let one = and_parts (nat_lt p.pid.home (length b.machines)) ((p.pid.num == first_number + others) && (nat_lt p.image (length b.images) && (nat_le (length p.links) (slots_of b.format) && links_are_valid b p.links))) h in
    let two = and_parts (p.pid.num == first_number + others) (nat_lt p.image (length b.images) && (nat_le (length p.links) (slots_of b.format) && links_are_valid b p.links)) one.1 in
    let three = and_parts (nat_lt p.image (length b.images)) (nat_le (length p.links) (slots_of b.format) && links_are_valid b p.links) two.1 in
    (and_parts (nat_le (length p.links) (slots_of b.format)) (links_are_valid b p.links) three.1).1

pub processes_valid_at : (b : Boot) (earlier ps : List BootProcess) (n : ℕ) (p : BootProcess) → processes_are_valid b earlier ps ≡ true → slice_get ps n ≡ Some p → links_are_valid b p.links ≡ true
processes_valid_at b earlier [] n p h e = cc
processes_valid_at b earlier (q ∷ ps) zero p h e =
    let k : q ≡ p = cc in
    subst (λ (v : BootProcess). links_are_valid b v.links ≡ true) k (process_links b (starting_at q.pid.home earlier) q (and_parts (process_is_valid b (starting_at q.pid.home earlier) q) (processes_are_valid b (earlier ++ q ∷ []) ps) h).0)
processes_valid_at b earlier (q ∷ ps) (suc n) p h e = processes_valid_at b (earlier ++ q ∷ []) ps n p (and_parts (process_is_valid b (starting_at q.pid.home earlier) q) (processes_are_valid b (earlier ++ q ∷ []) ps) h).1 e

-- the child that a control link's code names is one of the file's
controls : (b : Boot) (l : Link) → controls_child b l ≡ true → (nat_le 1 l.code ≡ true) × (nat_le l.code (length b.processes) ≡ true)
controls b l h =
    let codes = nat_le 1 l.code && nat_le l.code (length b.processes) in
    let one = and_parts (pid_eq l.addr.pid manager) ((l.addr.at == 0) && (is_general l.kind && ((l.channel == 0) && (area_is_empty l.area && codes)))) h in
    let two = and_parts (l.addr.at == 0) (is_general l.kind && ((l.channel == 0) && (area_is_empty l.area && codes))) one.1 in
    let three = and_parts (is_general l.kind) ((l.channel == 0) && (area_is_empty l.area && codes)) two.1 in
    let four = and_parts (l.channel == 0) (area_is_empty l.area && codes) three.1 in
    let five = and_parts (area_is_empty l.area) codes four.1 in
    and_parts (nat_le 1 l.code) (nat_le l.code (length b.processes)) five.1

pub controls_least : (b : Boot) (l : Link) → controls_child b l ≡ true → 1 ≤ l.code
controls_least b l h = let least = (controls b l h).0 in grind (arith, nat_tests)

pub controls_within : (b : Boot) (l : Link) → controls_child b l ≡ true → l.code ≤ length b.processes
controls_within b l h = let most = (controls b l h).1 in grind (arith, nat_tests)

pub server_code : (l : Link) → leads_to_server l ≡ true → (l.code == 0) ≡ true
server_code l h = (and_parts (l.code == 0) (area_is_empty l.area) (and_parts (l.addr.at == 0) ((l.code == 0) && area_is_empty l.area) h).1).0

pub or_second : (a b : Bool) → a ≡ false → (a || b) ≡ true → b ≡ true
or_second a b e h = grind (arith, nat_tests)

child_within : (b : Boot) (l : Link) (other : ℕ) (c : Bool) → (l.code == 0) ≡ c → (leads_to_server l || controls_child b l) ≡ true → (if c then None else Some (l.code - 1)) ≡ Some other → other ≤ length b.processes
child_within b l other true e h is = cc
child_within b l other false e h is = elim (cases_Bool (leads_to_server l)) [
  | inl server ↦ absurd (let z : true ≡ false = sym (server_code l server) ∙ e in cc)
  | inr control ↦
      let le = controls_within b l (or_second (leads_to_server l) (controls_child b l) control h) in
      let same : l.code - 1 ≡ other = cc in
      omega (arith, le, same)
]

-- what stands behind the last
nobody : BootProcess
nobody = record { pid = switchboard; name = []; image = 0; links = [] }

place_within : (ps : List BootProcess) (q : Pid) (i : ℕ) → place_of ps q ≡ Some i → i < length ps
place_within ps q i e = (position-Some (λ p. pid_eq p.pid q) ps i nobody e).0

within_by : (b : Boot) (l : Link) (other : ℕ) (c d : Bool) → (if c then leads_to_server l else if d then leads_to_server l || controls_child b l else leads_to_process b l (process_named l.addr.pid b.processes)) ≡ true
    → (if c then Some (length b.processes) else if d then child_place l.code else place_of b.processes l.addr.pid) ≡ Some other → other ≤ length b.processes
within_by b l other true d h is = let same : length b.processes ≡ other = cc in omega (arith, same)
within_by b l other false true h is = child_within b l other (l.code == 0) refl h is
within_by b l other false false h is = let lt = place_within b.processes l.addr.pid other is in omega (arith, lt)

pub leads : (b : Boot) (l : Link) → link_is_valid b l ≡ true → leads_somewhere b l ≡ true
leads b l h =
    let one = and_parts (l.addr.moves == 0) (not l.to_kernel && (nat_le l.channel 31 && leads_somewhere b l)) h in
    let two = and_parts (not l.to_kernel) (nat_le l.channel 31 && leads_somewhere b l) one.1 in
    (and_parts (nat_le l.channel 31) (leads_somewhere b l) two.1).1

joins_within : (b : Boot) (l : Link) (other : ℕ) → link_is_valid b l ≡ true → joins b l ≡ Some other → other ≤ length b.processes
unfolding joins
joins_within b l other h is = within_by b l other (pid_eq l.addr.pid switchboard) (pid_eq l.addr.pid manager) (leads b l h) is

pub parts_sound : (b : Boot) → Sound (length b.processes) (parts_of b)
parts_sound b =
    processes_by (Sound (length b.processes)) b 0 b.processes (alone 0 (length b.processes + 1)) (λ p n at e is qs h. links_sound (length b.processes) b at p.links qs h) (alone_sound (length b.processes))

same_part : (b : Boot) (u v : ℕ) → Together (parts_of b) u v → SamePart b u v
same_part b u v t = record { number = t.number; first = t.first; second = t.second }

pub links_keep_to_parts : LinksKeepToParts
links_keep_to_parts b place other valid j =
    let last = length b.processes in
    let holder = get_within b.processes place j.process j.holder in
    let link = links_valid_at b j.process.links j.slot j.link (processes_valid_at b [] b.processes place j.process valid.processes j.holder) j.held in
    let out = joins_within b j.link other link j.joins in
    same_part b place other
    (processes_join last b place other j.link place j.slot j.process 0 b.processes (alone 0 (last + 1)) (omega (arith, holder)) out j.joins j.held j.holder (omega arith) (alone_sound last))

-- joins keep to sides
record FineSound (last : ℕ) (side : ℕ → ℕ) (parts : List ℕ) : Type 0 where
  sound : Sound last parts
  fine : Fine side parts

parts_fine : (b : Boot) (side : ℕ → ℕ) → EachKeeps b side → FineSound (length b.processes) side (parts_of b)
parts_fine b side keeps =
    let last = length b.processes in
    processes_by (FineSound last side) b 0 b.processes (alone 0 (last + 1))
    (λ p n at e is qs h. links_by (FineSound last side) b at p.links qs (λ l m held ps g. record {
      sound = link_sound last ps at (joins b l) g.sound;
      fine = link_fine side ps at (joins b l) g.sound.named
          (λ other o. keeps at other (record { process = p; holder = (let here : at ≡ n = omega arith in ap (slice_get b.processes) here ∙ e); slot = m; link = l; held = held; joins = o })) g.fine;
    }) h)
    (record { sound = alone_sound last; fine = alone_fine side last })

pub parts_are_finest : PartsAreFinest
parts_are_finest b side i j keeps same = (parts_fine b side keeps).fine.fine i j same.number same.first same.second

pub first_names : FirstNames
first_names b i number e = (parts_sound b).named.named i number e
