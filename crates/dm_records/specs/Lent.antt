-- What becomes of the records once a borrow of one ends.
use Rattle.std.specs.Prelude.{◌≡◌, IsSome}
use Rattle.std.specs.declared.option.Option.{Option}
use Rattle.std.specs.Borrow.{LendsIf, LendsSo, MutBor, Fml}
use denote.RattleType.{RattleType}
use Rattle.dm_link.specs.declared.Pid.{Pid}
use Rattle.dm_records.specs.declared.record.Record.{Record}
use Rattle.dm_records.specs.declared.record.Record.TheVariants.{Here, Frozen, Incoming}
use Rattle.dm_records.specs.declared.records.Records.{Records}
use Rattle.dm_records.specs.contracts.record.Record.{the_row as record_row}
use Rattle.dm_records.specs.contracts.records.Records.{the_row}
use Rattle.dm_records.specs.Records.{at, with_record, here_of, frozen_of, incoming_of, KeepsPreds}

-- the record of p ends with the last value behind r
abbrev pub LendsRecord : (H L A : RattleType) → MutBor (Records H.Denot L.Denot A.Denot) → Pid → Option (MutBor (Record H.Denot L.Denot A.Denot)) → Fml
LendsRecord H L A s p r =
    LendsSo (the_row H L A) (record_row H L A) s r (λ n w. IsSome (at s.now p) → ((q : Pid) → at n q ≡ with_record (at s.now) p w q) × KeepsPreds s.now n) (λ n. ((q : Pid) → at n q ≡ at s.now q) × KeepsPreds s.now n)

-- a record ends with the last value behind r
abbrev pub LendsProcess : (H L A : RattleType) → MutBor (Record H.Denot L.Denot A.Denot) → Option (MutBor H.Denot) → Fml
LendsProcess H L A s r = LendsIf (record_row H L A) H s r Here s.now

abbrev pub LendsLeaving : (H L A : RattleType) → MutBor (Record H.Denot L.Denot A.Denot) → Option (MutBor L.Denot) → Fml
LendsLeaving H L A s r = LendsIf (record_row H L A) L s r Frozen s.now

abbrev pub LendsArriving : (H L A : RattleType) → MutBor (Record H.Denot L.Denot A.Denot) → Option (MutBor A.Denot) → Fml
LendsArriving H L A s r = LendsIf (record_row H L A) A s r Incoming s.now

-- the process p, which is here, ends as the last value behind r
abbrev pub LendsHere : (H L A : RattleType) → MutBor (Records H.Denot L.Denot A.Denot) → Pid → Option (MutBor H.Denot) → Fml
LendsHere H L A s p r =
    LendsSo (the_row H L A) H s r (λ n w. IsSome (here_of (at s.now p)) → ((q : Pid) → at n q ≡ with_record (at s.now) p (Here w) q) × KeepsPreds s.now n) (λ n. ((q : Pid) → at n q ≡ at s.now q) × KeepsPreds s.now n)

-- the process p, which leaves, ends as the last value behind r
abbrev pub LendsFrozen : (H L A : RattleType) → MutBor (Records H.Denot L.Denot A.Denot) → Pid → Option (MutBor L.Denot) → Fml
LendsFrozen H L A s p r =
    LendsSo (the_row H L A) L s r (λ n w. IsSome (frozen_of (at s.now p)) → ((q : Pid) → at n q ≡ with_record (at s.now) p (Frozen w) q) × KeepsPreds s.now n) (λ n. ((q : Pid) → at n q ≡ at s.now q) × KeepsPreds s.now n)

-- what has come of p ends as the last value behind r
abbrev pub LendsIncoming : (H L A : RattleType) → MutBor (Records H.Denot L.Denot A.Denot) → Pid → Option (MutBor A.Denot) → Fml
LendsIncoming H L A s p r =
    LendsSo (the_row H L A) A s r (λ n w. IsSome (incoming_of (at s.now p)) → ((q : Pid) → at n q ≡ with_record (at s.now) p (Incoming w) q) × KeepsPreds s.now n) (λ n. ((q : Pid) → at n q ≡ at s.now q) × KeepsPreds s.now n)
