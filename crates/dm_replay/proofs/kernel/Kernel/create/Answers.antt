use Rattle.std.specs.Prelude.{◌≡◌, ◌+◌, List, map, slice_index, true}
use Rattle.std.proofs.Common.{ap, arith, refl, rules, subst, sym, ◌∙◌}
use Rattle.std.specs.declared.option.Option.TheVariants.{None, Some}
use Rattle.dm_link.specs.declared.Link.{Link}
use Rattle.dm_link.specs.Lawful.{IsMachine}
use Rattle.dm_link.specs.Plain.{plain_link}
use Rattle.dm_message.specs.declared.Message.{Message}
use Rattle.dm_message.specs.declared.What.TheVariants as what
use Rattle.dm_message.specs.Lawful.{IsLawfulMessage}
use Rattle.dm_message.specs.Plain as plain
use Rattle.dm_message.specs.Plain.{PlainMessage, plain_message}
use Rattle.dm_onekernel.specs.declared.boot.BootImage.{BootImage}
use Rattle.dm_onekernel.specs.Boot.{first_number}
use Rattle.dm_onekernel.specs.Kernel.{OneKernel, with_sent}
use Rattle.dm_onekernel.specs.Options.{bind, when}
use Rattle.dm_onekernel.specs.Pieces.{answer_to}
use Rattle.dm_onekernel.specs.Service.{creates, creates_of, with_created}
use Rattle.dm_replay.specs.Begun.{asked_in, is_kernel}
use Rattle.dm_replay.specs.Sound.{IsSound}
use Rattle.dm_replay.specs.State.{one_kernel, put_in}
use Rattle.dm_replay.proofs.Bag.{enters, is_plain}
use Rattle.dm_replay.proofs.Giving.{becomes_gives}
use Rattle.dm_onekernel.proofs.Lawful.{enough}
use Rattle.dm_onekernel.proofs.Making.{image_fits}
use Rattle.dm_replay.proofs.MoveRows.{answer_lawfully, is_asked, made_home, made_row, made_so, said}
use Rattle.dm_replay.proofs.Rows.{passes, refused, weaker}
use Rattle.dm_replay.proofs.kernel.Kernel.create.Goals as goal

pub returns-in_err-message-clause-gives : goal.returns-in_err-message-clause-gives
returns-in_err-message-clause-gives c =
    let s = one_kernel c.args.boot.now c.args.self.now in
    passes c.from_residual.result c.in_err-message.field-0.0 _ _ c.from_residual.ensures
    (refused c.in_err-message.field-0.0 (s.bag c.args.id) (λ (m : PlainMessage). creates s c.args.id m c.args.child m.what) (c.in_err-message.ensures.gives c.args.boot.now))

pub returns-in_default-clause-gives : goal.returns-in_default-clause-gives
returns-in_default-clause-gives c =
    let b = c.args.boot.now in
    let s = one_kernel b c.args.self.now in
    let m : Message = c.in_ok-message.message in
    let none : asked_in b.images m.what ≡ None = search rules in
    made_row s c.args.id m c.args.child (c.in_ok-message.ensures.gives b) ∙ ap (λ o. bind o (λ (r : BootImage × List Link). creates_of s c.args.id (said m plain.NoRoom) c.args.child (map plain_link r.1) r.0)) none

pub makes-requires-clause-sound : goal.makes-requires-clause-sound
makes-requires-clause-sound c = subst (λ n. IsSound n c.take_message.new.self) (sym c.in_ok-message.ensures.stays.labels) (c.in_ok-message.ensures.sound c.args.self.now.labels c.requires.sound)

pub makes-requires-clause-room : goal.makes-requires-clause-room
makes-requires-clause-room c = let same = c.in_ok-message.ensures.stays.labels in omega (arith, same, c.requires.room)

pub returns-then-not-makes-clause-gives : goal.returns-then-not-makes-clause-gives
returns-then-not-makes-clause-gives c =
    let b = c.args.boot.now in
    let t = one_kernel b c.take_message.new.self in
    let m : Message = c.in_ok-message.message in
    let some : asked_in b.images m.what ≡ Some (c.in-Some.image.now, c.in-Some.links.now) = search rules in
    made_so (one_kernel b c.args.self.now) t c.args.id m c.args.child c.in-Some.image.now c.in-Some.links.now c.makes.result (c.in_ok-message.ensures.out b) (c.in_ok-message.ensures.gives b) some c.makes.ensures
    ∙ ap (λ h. when h (with_sent (with_created t c.args.child c.in-Some.image.now (map plain_link c.in-Some.links.now)) (Some (answer_to (said m plain.NoRoom) (plain.Created c.args.child))))) c.if-not-makes.true

pub stand-requires-clause-home : goal.stand-requires-clause-home
stand-requires-clause-home c =
    let m : Message = c.in_ok-message.message in
    let same = made_home (is_kernel c.args.boot.now m.to.pid) c.args.child m.to.pid.home (first_number + slice_index c.take_message.new.self.made m.to.pid.home) (sym c.makes.ensures ∙ c.if-not-makes.false) in
    let lawful = c.in_ok-message.ensures.fit c.args.self.now.labels c.requires.sound in
    let home = lawful.to.home in
    omega (arith, same, home)

pub stand-requires-clause-counts : goal.stand-requires-clause-counts
stand-requires-clause-counts c = let few = (c.in_ok-message.ensures.sound c.args.self.now.labels c.requires.sound).made c.args.child.home in omega (arith, few, c.requires.room)

pub stand-requires-clause-image : goal.stand-requires-clause-image
stand-requires-clause-image c =
    let m : Message = c.in_ok-message.message in
    let some : asked_in c.args.boot.now.images m.what ≡ Some (c.in-Some.image.now, c.in-Some.links.now) = search rules in
    let k = is_asked c.args.boot.now.images m.what c.in-Some.image.now c.in-Some.links.now (c.in_ok-message.ensures.fit c.args.self.now.labels c.requires.sound).what some in
    image_fits c.args.boot.now.images k.image c.in-Some.image.now c.requires.valid.images k.there

pub stand-requires-clause-links : goal.stand-requires-clause-links
stand-requires-clause-links c =
    let m : Message = c.in_ok-message.message in
    let some : asked_in c.args.boot.now.images m.what ≡ Some (c.in-Some.image.now, c.in-Some.links.now) = search rules in
    let k = is_asked c.args.boot.now.images m.what c.in-Some.image.now c.in-Some.links.now (c.in_ok-message.ensures.fit c.args.self.now.labels c.requires.sound).what some in
    let few = k.few in
    let room = enough c.args.boot.now.format in
    omega (arith, few, room)

pub put_message-requires : goal.put_message-requires
put_message-requires c =
    let m : Message = c.in_ok-message.message in
    let lawful = c.in_ok-message.ensures.fit c.args.self.now.labels c.requires.sound in
    let same = made_home (is_kernel c.args.boot.now m.to.pid) c.args.child m.to.pid.home (first_number + slice_index c.take_message.new.self.made m.to.pid.home) (sym c.makes.ensures ∙ c.if-not-makes.false) in
    subst IsLawfulMessage (sym c.answer.ensures) (answer_lawfully m (what.Created c.args.child) lawful refl (subst IsMachine (sym same) lawful.to.home))

pub returns-clause-gives : goal.returns-clause-gives
returns-clause-gives c =
    let b = c.args.boot.now in
    let t = one_kernel b c.take_message.new.self in
    let m : Message = c.in_ok-message.message in
    let g : Message = c.answer.result in
    let i : BootImage = c.in-Some.image.now in
    let links : List Link = c.in-Some.links.now in
    let some : asked_in b.images m.what ≡ Some (i, links) = search rules in
    let says : plain_message g ≡ Some (answer_to (said m plain.NoRoom) (plain.Created c.args.child)) = ap plain_message c.answer.ensures in
    becomes_gives c.put_message.result b c.stand.new.self c.put_message.new.self (λ (u : OneKernel). put_in u (Some g)) _ c.put_message.ensures.state c.put_message.ensures.memory
    (made_so (one_kernel b c.args.self.now) t c.args.id m c.args.child i links c.makes.result (c.in_ok-message.ensures.out b) (c.in_ok-message.ensures.gives b) some c.makes.ensures
    ∙ ap (λ h. when h (with_sent (with_created t c.args.child i (map plain_link links)) (Some (answer_to (said m plain.NoRoom) (plain.Created c.args.child))))) c.if-not-makes.false
    ∙ ap (λ o. Some (with_sent (with_created t c.args.child i (map plain_link links)) o)) (sym says)
    ∙ ap Some (sym (enters (with_created t c.args.child i (map plain_link links)) (Some g) (is_plain g _ says)))
    ∙ ap (λ (u : OneKernel). Some (put_in u (Some g))) (sym c.in_ok-stand.ensures.state))

pub returns-clause-sound : goal.returns-clause-sound
returns-clause-sound c =
    let m : Message = c.in_ok-message.message in
    let some : asked_in c.args.boot.now.images m.what ≡ Some (c.in-Some.image.now, c.in-Some.links.now) = search rules in
    let k = is_asked c.args.boot.now.images m.what c.in-Some.image.now c.in-Some.links.now (c.in_ok-message.ensures.fit c.args.self.now.labels c.requires.sound).what some in
    let few = (c.in_ok-message.ensures.sound c.args.self.now.labels c.requires.sound).made c.args.child.home in
    c.put_message.ensures.sound (c.args.self.now.labels + 1)
    (c.in_ok-stand.ensures.sound (c.args.self.now.labels + 1) (weaker c.args.self.now.labels (c.args.self.now.labels + 1) c.take_message.new.self (omega arith) (c.in_ok-message.ensures.sound c.args.self.now.labels c.requires.sound)) k.lawful (omega (arith, few)))
