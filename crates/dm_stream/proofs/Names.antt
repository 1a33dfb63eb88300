-- What the proofs of this crate name of what lies below it.
pub use Rattle.circular_buffer.specs.Buffer.{buffer}
pub use Rattle.std.proofs.Common.{Bool, List, None, Option, Some, [], ap, append-nil, arith, drop, false, if◌then◌else◌, inl, inr, is_some, length, max, nat_lt, refl, replicate, slice_get, slice_set, subst, suc, sym, take, true, zero, ℕ}
pub use Rattle.std.proofs.Common.{◌++◌, ◌+◌, ◌-◌, ◌<◌, ◌^◌, ◌∙◌, ◌∷◌, ◌≡◌, ◌≢◌, ◌≤◌, ◌⊎◌}
pub use Rattle.std.proofs.lemmas.Bool.{cases_Bool, cases_eq}
pub use Rattle.std.proofs.lemmas.Bool.Decides.{nat_tests}
pub use Rattle.std.proofs.lemmas.Grind.{common_steps}
pub use Rattle.std.proofs.lemmas.List.{take-append-le, take_all}
pub use Rattle.std.proofs.lemmas.Option.{gets, slice_get_within}
pub use Rattle.std.specs.Prelude.{IsSome}
pub use Rattle.dm_stream.specs.Order.{IsThere, IsUnderWayOrThere, MayCome, StreamStands}
pub use Rattle.dm_stream.specs.Packets.{Ack, Data, HasCome, HasData, HasHeard, Load, Packet, just_put, marked}
unfoldable pub use Rattle.dm_stream.specs.Packets.{delivered_at, load_at}
pub use Rattle.dm_stream.specs.Receiving.{Receiving, kept_once, kept_under, moved_up, next, once, place}
pub use Rattle.dm_stream.specs.Rest.{IsAllDelivered, IsAllThere, IsAnswerHeard, IsAnswered, IsAtRest}
pub use Rattle.dm_stream.specs.Sending.{Sending, due, given_count, outstanding, window}
pub use Rattle.dm_stream.specs.Stream.{Acknowledge, Deliver, DeliverBack, Event, Give, GoAgain, GoOut, OtherAck, OtherData, Stream, TakeKept, arrives, data_packet, gives, goes_again, goes_out, happens, hears, is_worn, run, start}
