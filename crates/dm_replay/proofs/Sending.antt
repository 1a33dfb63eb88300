-- A message that goes out enters the bag under its own name.
use Rattle.std.specs.Prelude.{◌≡◌, true, false, is_some}
use Rattle.std.proofs.Common.{refl, ap}
use Rattle.std.specs.declared.option.Option.{Option}
use Rattle.std.specs.declared.option.Option.TheVariants.{None, Some}
use Rattle.dm_message.specs.declared.Message.{Message}
use Rattle.dm_message.specs.declared.MsgId.{MsgId}
use Rattle.dm_message.specs.Ids.{id_eq}
use Rattle.dm_message.specs.Plain.{PlainWhat, plain_message, plain_what, with_what}
use Rattle.dm_onekernel.specs.Kernel.{OneKernel, with_sent}
use Rattle.dm_onekernel.specs.Options.{bind, when}

named_by : (id : MsgId) (m : Message) (o : Option PlainWhat) (u : OneKernel) → id_eq id m.id ≡ true → is_some o ≡ true → bind (with_what m o) (λ w. when (id_eq id w.id) (with_sent u (Some w))) ≡ Some (with_sent u (with_what m o))
named_by id m None u e h = absurd (cc)
named_by id m (Some w) u e h = ap (λ c. when c (with_sent u (with_what m (Some w)))) e

pub goes_out : (id : MsgId) (m : Message) (u : OneKernel) → id_eq id m.id ≡ true → is_some (plain_what m.what) ≡ true → bind (plain_message m) (λ w. when (id_eq id w.id) (with_sent u (Some w))) ≡ Some (with_sent u (plain_message m))
goes_out id m u e h = named_by id m (plain_what m.what) u e h

other_by : (id : MsgId) (m : Message) (o : Option PlainWhat) (u : OneKernel) → id_eq id m.id ≡ false → bind (with_what m o) (λ w. when (id_eq id w.id) (with_sent u (Some w))) ≡ None
other_by id m None u e = refl
other_by id m (Some w) u e = ap (λ c. when c (with_sent u (with_what m (Some w)))) e

pub other_name : (id : MsgId) (m : Message) (u : OneKernel) → id_eq id m.id ≡ false → bind (plain_message m) (λ w. when (id_eq id w.id) (with_sent u (Some w))) ≡ None
other_name id m u e = other_by id m (plain_what m.what) u e
