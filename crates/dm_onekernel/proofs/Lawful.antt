-- What begins is lawful: the links of a boot file can be enclosed, and so a process of them can be carried.
use Rattle.std.specs.Prelude.{◌≡◌, ℕ, zero, suc, ◌+◌, ◌-◌, ◌*◌, ◌<◌, ◌≤◌, ◌⊎◌, Bool, true, false, not, ◌==◌, ◌&&◌, ◌||◌, nat_le, if◌then◌else◌, List, [], ◌∷◌, ◌++◌, length, map, replicate, slice_get}
use Rattle.std.proofs.Common.{refl, sym, subst, ap, arith, inl, inr, ◌∙◌}
use Rattle.std.proofs.lemmas.Bool.{and_parts}
use Rattle.std.proofs.lemmas.Bool.Decides.{nat_tests}
use Rattle.std.proofs.lemmas.Grind.{common_steps}
use Rattle.std.proofs.lemmas.List.Elements.{All-append, All-cons, All-map, All-nil}
use Rattle.std.specs.List.{All}
use Rattle.std.specs.declared.option.Option.{Option}
use Rattle.std.specs.declared.option.Option.TheVariants.{None, Some}
use Rattle.dm_link.specs.declared.Link.{Link}
use Rattle.dm_link.specs.declared.Pid.{Pid}
use Rattle.dm_link.specs.Lawful.{IsLawfulEnclosed, IsMachine}
use Rattle.dm_link.specs.Names.{pid_eq}
use Rattle.dm_linktable.proofs.ReceiverOrder.{pid_eq_same}
use Rattle.dm_message.specs.Lawful.{IsLawfulMessage}
use Rattle.dm_process.specs.Lawful.{IsLawfulProcess, SlotIsLawful}
use Rattle.dm_onekernel.specs.declared.boot.Boot.{Boot}
use Rattle.dm_onekernel.specs.declared.boot.BootImage.{BootImage}
use Rattle.dm_onekernel.specs.declared.boot.BootProcess.{BootProcess}
use Rattle.dm_onekernel.specs.declared.boot.Format.{Format}
use Rattle.dm_onekernel.specs.declared.boot.Format.TheVariants.{One, Two}
use Rattle.dm_onekernel.specs.Boot.{IsValid, blocks_of_image, controls_child, image_is_valid, images_are_valid, leads_somewhere, leads_to_process, leads_to_server, link_is_valid, links_are_valid, manager, memory_size, process_is_valid, process_named, processes_are_valid, slots_of, starting_at, switchboard}
use Rattle.dm_onekernel.specs.Start.{memory_of, slots_with}
use Rattle.dm_onekernel.specs.Child.{child_of}
use Rattle.dm_onekernel.proofs.Making.{image_fits}

pub none_lawful : (n : ℕ) → All SlotIsLawful (replicate n None)
none_lawful zero = All-nil SlotIsLawful
none_lawful (suc n) = All-cons SlotIsLawful None (replicate n None) tt (none_lawful n)

-- a process that begins
pub enough : (f : Format) → 3 ≤ slots_of f
enough One = omega arith
enough Two = omega arith

many : (f : Format) → (slots_of f ≡ 32) ⊎ (slots_of f ≡ 128)
many One = inl refl
many Two = inr refl

slots_length : (slots : ℕ) (links : List Link) → length links ≤ slots → length (slots_with slots links) ≡ slots
slots_length slots links h = grind (arith, common_steps)

memory_length : (i : BootImage) → image_is_valid i ≡ true → (length (memory_of i) ≡ 256 * i.blocks) × (1 ≤ i.blocks) × (i.blocks ≤ 256)
memory_length i valid = (grind (arith, common_steps, nat_tests), grind (arith, nat_tests), grind (arith, nat_tests))

slots_lawfully : (slots : ℕ) (links : List Link) → All IsLawfulEnclosed links → All SlotIsLawful (slots_with slots links)
slots_lawfully slots links h =
    All-append SlotIsLawful (map Some links) (replicate (slots - length links) None) (All-map SlotIsLawful Some links h) (none_lawful (slots - length links))

pub child_lawfully : (b : Boot) (p : Pid) (i : BootImage) (links : List Link) → IsMachine p.home → image_is_valid i ≡ true → length links ≤ slots_of b.format → All IsLawfulEnclosed links
    → IsLawfulProcess (child_of b p i links)
child_lawfully b p i links home valid few lawful =
    let size : (length (memory_of i) ≡ 256 * i.blocks) × (1 ≤ i.blocks) × (i.blocks ≤ 256) = memory_length i valid in
    let all : length (slots_with (slots_of b.format) links) ≡ slots_of b.format = slots_length (slots_of b.format) links few in
    record {
      home = home;
      registers = refl;
      size = (i.blocks, size.0, size.1, size.2);
      links = slots_lawfully (slots_of b.format) links lawful;
      slots = subst (λ (n : ℕ). (n ≡ 32) ⊎ (n ≡ 128)) (sym all) (many b.format);
      status = tt;
      queue = All-nil IsLawfulMessage;
    }

-- where a link of a boot file leads
record Leads (l : Link) : Type 0 where
  home : l.addr.pid.home ≤ 15
  at : l.addr.at ≤ 15
  area : l.area.base + l.area.len ≤ 65536

either : {A : Type 0} (b c : Bool) → (b || c) ≡ true → (b ≡ true → A) → (c ≡ true → A) → A
either true c e h k = h refl
either false c e h k = k e

chosen : {A : Type 0} (test x y : Bool) → (if test then x else y) ≡ true → (test ≡ true → x ≡ true → A) → (test ≡ false → y ≡ true → A) → A
chosen true x y e h k = h refl e
chosen false x y e h k = k refl e

to_server : (l : Link) → l.addr.pid.home ≡ 0 → leads_to_server l ≡ true → Leads l
to_server l home h = record { home = omega arith; at = grind (arith, nat_tests); area = grind (arith, nat_tests) }

to_child : (b : Boot) (l : Link) → l.addr.pid.home ≡ 0 → controls_child b l ≡ true → Leads l
to_child b l home h = record { home = omega arith; at = grind (arith, nat_tests); area = grind (arith, nat_tests) }

-- a process of the boot file is on a machine of it
named_or : (b : Boot) (test : Bool) (q : Pid) (x p : BootProcess) (rest : Option BootProcess) → pid_eq x.pid q ≡ test → x.pid.home < length b.machines → (if test then Some x else rest) ≡ Some p
    → (rest ≡ Some p → (pid_eq p.pid q ≡ true) × (p.pid.home < length b.machines)) → (pid_eq p.pid q ≡ true) × (p.pid.home < length b.machines)
named_or b true q x p rest is home e h =
    let same : x ≡ p = cc in subst (λ (p : BootProcess). (pid_eq p.pid q ≡ true) × (p.pid.home < length b.machines)) same (is, home)
named_or b false q x p rest is home e h = h e

pub home_of : (b : Boot) (others : ℕ) (p : BootProcess) → process_is_valid b others p ≡ true → p.pid.home < length b.machines
home_of b others p valid = grind (arith, nat_tests)

named_home : (b : Boot) (q : Pid) (earlier ps : List BootProcess) (p : BootProcess) → processes_are_valid b earlier ps ≡ true → process_named q ps ≡ Some p
    → (pid_eq p.pid q ≡ true) × (p.pid.home < length b.machines)
named_home b q earlier [] p valid e = absurd (cc)
named_home b q earlier (x ∷ xs) p valid e =
    let parts : (process_is_valid b (starting_at x.pid.home earlier) x ≡ true) × (processes_are_valid b (earlier ++ x ∷ []) xs ≡ true) =
    and_parts (process_is_valid b (starting_at x.pid.home earlier) x) (processes_are_valid b (earlier ++ x ∷ []) xs) valid
    in
    named_or b (pid_eq x.pid q) q x p (process_named q xs) refl (home_of b (starting_at x.pid.home earlier) x parts.0) e (named_home b q (earlier ++ x ∷ []) xs p parts.1)

few_blocks : (i : BootImage) → image_is_valid i ≡ true → i.blocks ≤ 256
few_blocks i valid = grind (arith, nat_tests)

blocks_within : (images : List BootImage) (n : ℕ) (o : Option BootImage) → images_are_valid images ≡ true → slice_get images n ≡ o → blocks_of_image o ≤ 256
blocks_within images n None valid e = omega arith
blocks_within images n (Some i) valid e = few_blocks i (image_fits images n i valid e)

leads_within : (at home area base len blocks machines : ℕ) → ((at == home) && nat_le (base + len) area) ≡ true → area ≡ 256 * blocks → blocks ≤ 256 → home < machines → machines ≤ 16
    → (at ≤ 15) × (base + len ≤ 65536)
leads_within at home area base len blocks machines h a b c d = (grind (arith, nat_tests), grind (arith, nat_tests))

to_process : (b : Boot) (l : Link) (o : Option BootProcess) → IsValid b → length b.machines ≤ 16 → process_named l.addr.pid b.processes ≡ o → leads_to_process b l o ≡ true → Leads l
to_process b l None valid few e h = absurd (cc)
to_process b l (Some p) valid few e h =
    let named : (pid_eq p.pid l.addr.pid ≡ true) × (p.pid.home < length b.machines) = named_home b l.addr.pid [] b.processes p valid.processes e in
    let same : p.pid ≡ l.addr.pid = pid_eq_same p.pid l.addr.pid named.0 in
    let home : p.pid.home ≡ l.addr.pid.home = ap (λ (q : Pid). q.home) same in
    let less : p.pid.home < length b.machines = named.1 in
    let both : (l.addr.at ≤ 15) × (l.area.base + l.area.len ≤ 65536) =
    leads_within l.addr.at p.pid.home (memory_size b (Some p)) l.area.base l.area.len (blocks_of_image (slice_get b.images p.image)) (length b.machines) h refl
    (blocks_within b.images p.image (slice_get b.images p.image) valid.images refl)
    less
    few
    in
    record { home = omega arith; at = both.0; area = both.1 }

home_zero : (p q : Pid) → q.home ≡ 0 → pid_eq p q ≡ true → p.home ≡ 0
home_zero p q none e = ap (λ (p : Pid). p.home) (pid_eq_same p q e) ∙ none

leads : (b : Boot) (l : Link) → IsValid b → length b.machines ≤ 16 → leads_somewhere b l ≡ true → Leads l
leads b l valid few h =
    chosen (pid_eq l.addr.pid switchboard) (leads_to_server l) _ h (λ is to. to_server l (home_zero l.addr.pid switchboard refl is) to)
    (λ no k.
    chosen (pid_eq l.addr.pid manager) (leads_to_server l || controls_child b l) (leads_to_process b l (process_named l.addr.pid b.processes)) k
    (λ is to.
    either (leads_to_server l) (controls_child b l) to (to_server l (home_zero l.addr.pid manager refl is)) (to_child b l (home_zero l.addr.pid manager refl is)))
    (λ nor to. to_process b l (process_named l.addr.pid b.processes) valid few refl to))

is_false : (b : Bool) → not b ≡ true → b ≡ false
is_false true e = absurd (cc)
is_false false e = refl

link_lawfully : (b : Boot) (l : Link) → IsValid b → length b.machines ≤ 16 → link_is_valid b l ≡ true → IsLawfulEnclosed l
link_lawfully b l valid few h =
    let one : ((l.addr.moves == 0) ≡ true) × ((not l.to_kernel && (nat_le l.channel 31 && leads_somewhere b l)) ≡ true) =
    and_parts (l.addr.moves == 0) (not l.to_kernel && (nat_le l.channel 31 && leads_somewhere b l)) h
    in
    let two : (not l.to_kernel ≡ true) × ((nat_le l.channel 31 && leads_somewhere b l) ≡ true) = and_parts (not l.to_kernel) (nat_le l.channel 31 && leads_somewhere b l) one.1 in
    let three : (nat_le l.channel 31 ≡ true) × (leads_somewhere b l ≡ true) = and_parts (nat_le l.channel 31) (leads_somewhere b l) two.1 in
    let channel : nat_le l.channel 31 ≡ true = three.0 in
    let to : Leads l = leads b l valid few three.1 in
    record {
      link = record { addr = record { home = to.home; at = to.at }; channel = grind (arith, nat_tests); area = to.area };
      not_to_kernel = is_false l.to_kernel two.0;
    }

pub links_lawfully : (b : Boot) (ls : List Link) → IsValid b → length b.machines ≤ 16 → links_are_valid b ls ≡ true → All IsLawfulEnclosed ls
links_lawfully b [] valid few h = All-nil IsLawfulEnclosed
links_lawfully b (l ∷ ls) valid few h =
    let parts : (link_is_valid b l ≡ true) × (links_are_valid b ls ≡ true) = and_parts (link_is_valid b l) (links_are_valid b ls) h in
    All-cons IsLawfulEnclosed l ls (link_lawfully b l valid few parts.0) (links_lawfully b ls valid few parts.1)

pub links_of : (b : Boot) (others : ℕ) (p : BootProcess) → process_is_valid b others p ≡ true → (length p.links ≤ slots_of b.format) × (links_are_valid b p.links ≡ true)
links_of b others p valid = (grind (arith, nat_tests), grind (arith, nat_tests))

pub few_machines : (n : ℕ) → nat_le n 16 ≡ true → n ≤ 16
few_machines n h = grind (arith, nat_tests)
