-- What the message says, and what becomes of it.
use Rattle.dm_syscall.proofs.Names.{◌≡◌, ◌∙◌, Some, None, ap, sym, refl, map, length, plain_link, Message, plain_process, receive_refusals, received_regs, written_at, first_failed, Placed, place_links, receives}
use Rattle.dm_syscall.specs.declared.Completed.TheVariants as completed
use Rattle.dm_process.specs.declared.process.Status.TheVariants as status
use Rattle.dm_syscall.proofs.Receives.{Says, completes_saying}
use Rattle.dm_syscall.proofs.receive.complete.Goals as goal

pub returns-in-Some : goal.returns-in-Some
returns-in-Some c =
    λ m at.
    let same : m ≡ c.at-message.result.now = cc in
    let said : Says m.what c.in-User.code c.in-User.channel c.as_slice.result.now c.as_slice-in-User.result.now =
    rw (ap (λ (m : Message). m.what) same ∙ c.in-User.is) (refl, refl, sym c.as_slice.ensures.value, sym c.as_slice-in-User.ensures.value)
    in
    let why : first_failed (receive_refusals (plain_process c.args.process.now) c.args.cap c.as_slice.result.now (map plain_link c.as_slice-in-User.result.now)) ≡ Some c.in-Some.refusal =
    sym c.receive_refusal-refusal.ensures ∙ c.in-Some.is
    in
    completes_saying c.args.process.now c.args.place m.id c.args.base c.args.cap m.what c.in-User.code c.in-User.channel c.as_slice.result.now c.as_slice-in-User.result.now (Some c.in-Some.refusal)
    (record { completed = c.refuse.result; process = c.refuse.new.process })
    said
    why
    (λ i. record { completed = sym c.refuse.ensures.completed i; process = sym c.refuse.ensures.process i })

pub returns-in-None : goal.returns-in-None
returns-in-None c =
    λ m at.
    let same : m ≡ c.at-message.result.now = cc in
    let said : Says m.what c.in-User.code c.in-User.channel c.as_slice.result.now c.as_slice-in-User.result.now =
    rw (ap (λ (m : Message). m.what) same ∙ c.in-User.is) (refl, refl, sym c.as_slice.ensures.value, sym c.as_slice-in-User.ensures.value)
    in
    let why : first_failed (receive_refusals (plain_process c.args.process.now) c.args.cap c.as_slice.result.now (map plain_link c.as_slice-in-User.result.now)) ≡ None =
    sym c.receive_refusal-refusal.ensures ∙ c.in-None.is
    in
    let len : length c.as_slice.result.now ≡ c.len.result = ap length c.as_slice.ensures.value ∙ sym c.len.ensures.value in
    let count : length c.as_slice-in-User.result.now ≡ c.len-in-None.result = ap length c.as_slice-in-User.ensures.value ∙ sym c.len-in-None.ensures.value in
    let came : received_regs c.args.process.now.regs c.in-User.code c.in-User.channel (length c.as_slice.result.now) (length c.as_slice-in-User.result.now) ≡ c.set_received.new.regs =
    (λ i. received_regs c.args.process.now.regs c.in-User.code c.in-User.channel (len i) (count i)) ∙ sym c.set_received.ensures
    in
    let placed : Placed = place_links (record { regs = received_regs c.args.process.now.regs c.in-User.code c.in-User.channel (length c.as_slice.result.now) (length c.as_slice-in-User.result.now); table = c.args.process.now.table }) 5 c.as_slice-in-User.result.now in
    let regs : placed.regs ≡ c.place_links.new.regs = let h = c.place_links.ensures.regs in cc in
    let table : placed.table ≡ c.place_links.new.table = let h = c.place_links.ensures.table in cc in
    let memory : written_at c.args.process.now.memory c.args.base c.as_slice.result.now ≡ c.copy_in.new.self = let h = c.copy_in.ensures in cc in
    let d : receives c.args.process.now c.args.place m.id c.args.base c.in-User.code c.in-User.channel c.as_slice.result.now c.as_slice-in-User.result.now
    ≡ record { completed = completed.Received c.at-message.result.now.id; process = record c.args.process.now { regs = c.place_links.new.regs; memory = c.copy_in.new.self; table = c.place_links.new.table; status = status.Ready; queue = c.take.new.self } } =
    λ i. record {
      completed = completed.Received (ap (λ (m : Message). m.id) same i);
      process = record c.args.process.now { regs = regs i; memory = memory i; table = table i; status = status.Ready; queue = sym c.take.ensures.rest i };
    }
    in
    completes_saying c.args.process.now c.args.place m.id c.args.base c.args.cap m.what c.in-User.code c.in-User.channel c.as_slice.result.now c.as_slice-in-User.result.now None
    (record { completed = completed.Received c.at-message.result.now.id; process = record c.args.process.now { regs = c.place_links.new.regs; memory = c.copy_in.new.self; table = c.place_links.new.table; status = status.Ready; queue = c.take.new.self } })
    said
    why
    d
