-- A machine as the boot file has it.
use Rattle.dm_node.proofs.Names.{◌≡◌, ℕ, suc, Bool, List, length, sym, ap, inl, inr, ◌∙◌, arith, if◌then◌else◌, replicate, get_or-replicate, get_or_past, leb_tells, Message, Sending, fresh_sending, Receiving, fresh_receiving, Boot}
use Rattle.dm_node.proofs.Names.{KernelState, nat_lt, node_opened, receiver_at, sender_at}
use Rattle.dm_kernel.specs.Begun as kernel

sixteen_senders : (numbers c : ℕ) → sender_at (replicate 16 (fresh_sending numbers)) c ≡ fresh_sending (if nat_lt c 16 then numbers else 0)
sixteen_senders numbers c =
    elim (leb_tells (suc c) 16) [
      | inl e ↦ get_or-replicate 16 c (fresh_sending numbers) (fresh_sending 0) e.1 ∙ sym (ap (λ (b : Bool). fresh_sending {M = Message} (if b then numbers else 0)) e.0)
      | inr e ↦ get_or_past (replicate 16 (fresh_sending numbers)) c (fresh_sending 0) (let g = e.1 in omega (arith, g)) ∙ sym (ap (λ (b : Bool). fresh_sending {M = Message} (if b then numbers else 0)) e.0)
    ]

sixteen_receivers : (c : ℕ) → receiver_at (replicate 16 fresh_receiving) c ≡ fresh_receiving
sixteen_receivers c =
    elim (leb_tells (suc c) 16) [
      | inl e ↦ get_or-replicate 16 c fresh_receiving fresh_receiving e.1
      | inr e ↦ get_or_past (replicate 16 fresh_receiving) c fresh_receiving (let g = e.1 in omega (arith, g))
    ]

pub begun : (k : KernelState) (machines : ℕ) (senders : List (Sending Message)) (receivers : List (Receiving Message)) (b : Boot) (m : ℕ) → k ≡ kernel.opened b m → machines ≡ length b.machines
    → senders ≡ replicate 16 (fresh_sending b.numbers) → receivers ≡ replicate 16 fresh_receiving
    → record { kernel = k; machines = machines; numbers = b.numbers; home = 0; senders = sender_at senders; receivers = receiver_at receivers } ≡ node_opened b m
begun k machines senders receivers b m e f g h =
    λ i.
    record {
      kernel = e i;
      machines = f i;
      numbers = b.numbers;
      home = 0;
      senders = λ c. (ap (λ xs. sender_at xs c) g ∙ sixteen_senders b.numbers c) i;
      receivers = λ c. (ap (λ xs. receiver_at xs c) h ∙ sixteen_receivers c) i;
    }
