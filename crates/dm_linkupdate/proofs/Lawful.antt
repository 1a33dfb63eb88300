-- A lawful process that is told of another place is lawful.
use Rattle.dm_linkupdate.proofs.Names.{ℕ, Bool, true, false, if◌then◌else◌, List, map, length, length-map, All-map, All, Option, None, Some, Pid, Addr, Link, IsMachine, IsLawfulAddr, IsLawfulEnclosed, is_behind, relocated, retargeted}
use Rattle.dm_linkupdate.proofs.Names.{retargeted_link, retargeted_slot, Process, Status, Ready, Waiting, Moving, IsLawfulProcess, IsLawfulStatus, SlotIsLawful, applied, status_after}

either : (behind : Bool) (at moves : ℕ) (a : Addr) → IsMachine at → IsLawfulAddr a → IsLawfulAddr (if behind then relocated at moves a else a)
either true at moves a m l = record { home = l.home; at = m }
either false at moves a m l = l

addr_lawful : (about : Pid) (at moves : ℕ) (a : Addr) → IsMachine at → IsLawfulAddr a → IsLawfulAddr (retargeted about at moves a)
addr_lawful about at moves a m l = either (is_behind about moves a) at moves a m l

link_lawful : (about : Pid) (at moves : ℕ) (x : Link) → IsMachine at → IsLawfulEnclosed x → IsLawfulEnclosed (retargeted_link about at moves x)
link_lawful about at moves x m l =
    record {
      link = record { addr = addr_lawful about at moves x.addr m l.link.addr; channel = l.link.channel; area = l.link.area };
      not_to_kernel = l.not_to_kernel;
    }

slot_lawful : (about : Pid) (at moves : ℕ) (slot : Option Link) → IsMachine at → SlotIsLawful slot → SlotIsLawful (retargeted_slot about at moves slot)
slot_lawful about at moves None m l = l
slot_lawful about at moves (Some x) m l = link_lawful about at moves x m l

slots_lawful : (about : Pid) (at moves : ℕ) (slots : List (Option Link)) → IsMachine at → All SlotIsLawful slots → All SlotIsLawful (map (retargeted_slot about at moves) slots)
slots_lawful about at moves slots m l = All-map SlotIsLawful (retargeted_slot about at moves) slots (λ k d within. slot_lawful about at moves _ m (l k d within))

status_lawful : (about : Pid) (at moves size : ℕ) (s : Status) → IsMachine at → IsLawfulStatus size s → IsLawfulStatus size (status_after about at moves s)
status_lawful about at moves size Ready m l = l
status_lawful about at moves size (Waiting mask base room) m l = l
status_lawful about at moves size (Moving dir owner base own left pending) m l = (addr_lawful about at moves owner m l.0, l.1, l.2, l.3, l.4)

pub applied_lawful : (about : Pid) (at moves : ℕ) (p : Process) → IsMachine at → IsLawfulProcess p → IsLawfulProcess (applied about at moves p)
applied_lawful about at moves p m l =
    record {
      home = l.home;
      registers = l.registers;
      size = l.size;
      links = slots_lawful about at moves p.table m l.links;
      slots = rw (length-map p.table (retargeted_slot about at moves)) l.slots;
      status = status_lawful about at moves (length p.memory) p.status m l.status;
      queue = l.queue;
    }
