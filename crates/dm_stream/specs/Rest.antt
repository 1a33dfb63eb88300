-- What holds of a stream where nothing is under way any more.
use Rattle.std.specs.Prelude.{◌≡◌, ℕ, ◌<◌, ◌⊎◌, length, None}
use Rattle.dm_stream.specs.Sending.{due}
use Rattle.dm_stream.specs.Receiving.{next}
use Rattle.dm_stream.specs.Packets.{HasCome, HasAck, HasHeard, IsDelivered}
use Rattle.dm_stream.specs.Stream.{Stream}

module _ {M : Type 0} where
  -- all that was taken is acknowledged: an acknowledgement of the last count was sent; where nothing was taken, none need be
  abbrev pub IsAnswered : Stream M → Type 0
  IsAnswered w = (w.receiver.count ≡ 0) ⊎ HasAck w.back w.receiver.count

  -- and it was delivered
  abbrev pub IsAnswerHeard : Stream M → Type 0
  IsAnswerHeard w = (w.receiver.count ≡ 0) ⊎ HasHeard w.back w.receiver.count

  -- nothing is under way: no message is due, none that is kept is next, some packet of each message that went out has been
  -- delivered, and an acknowledgement of all that was taken
  pub record IsAtRest (w : Stream M) : Type 0 where
    pub none_due : due w.sender ≡ None
    pub none_next : next w.receiver ≡ None
    pub all_came : (n : ℕ) → n < w.sender.gone → HasCome w.out n
    pub count_heard : IsAnswerHeard w

  -- each machine has done its part, and each packet of both wires was delivered
  pub record IsAllDelivered (w : Stream M) : Type 0 where
    pub none_due : due w.sender ≡ None
    pub none_next : next w.receiver ≡ None
    pub answered : IsAnswered w
    pub out : IsDelivered w.out
    pub back : IsDelivered w.back

  -- all that was given is taken and acknowledged
  pub record IsAllThere (w : Stream M) : Type 0 where
    pub taken : w.taken ≡ w.given
    pub acked : w.sender.acked ≡ length w.given
