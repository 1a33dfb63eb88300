-- Names, kinds and codes, read back from their words.
use Rattle.dm_text.proofs.Names.{◌≡◌, ℕ, ◌^◌, ◌<◌, ◌≤◌, Bool, true, false, [], ◌∷◌, ◌++◌, refl, ◌∙◌, append_assoc, arith, Some, decimal, append-nil, Pid, MsgId, MessageKind, word_of, Outcome, code_of_outcome, reply_code, why_code, Why}
use Rattle.dm_text.proofs.Names.{pid_word, id_word, mark, pieces, read_number, read_pid, read_id, read_kind, read_reply, read_why, read_outcome, reply_with, why_with, outcome_with, message_numbered, message_named, PidFits, IdFits}
use Rattle.dm_message.specs.declared.Outcome.TheVariants as ends
use Rattle.dm_message.specs.declared.kind.MessageKind.TheVariants as kind
use Rattle.dm_processor.specs.declared.registers.Fault.TheVariants as fault
use Rattle.dm_onekernel.specs.declared.label.Reply.{Reply}
use Rattle.dm_onekernel.specs.declared.label.Reply.TheVariants as reply
use Rattle.dm_onekernel.specs.declared.label.Why.TheVariants as why
use Rattle.dm_text.proofs.Pieces.{free, above, above-append, above-le, free-above, free-append, pieces-free, pieces-next}
use Rattle.dm_text.proofs.Numbers.{above-decimal, read-decimal}

pub below_u8 : (n : ℕ) → n < 2 ^ 8 → n < 10 ^ 64
below_u8 n h = omega arith

pub below_u16 : (n : ℕ) → n < 2 ^ 16 → n < 10 ^ 64
below_u16 n h = omega arith

pub below_u64 : (n : ℕ) → n < 2 ^ 64 → n < 10 ^ 64
below_u64 n h = omega arith

pub below_u32 : (n : ℕ) → n < 2 ^ 32 → n < 10 ^ 64
below_u32 n h = omega arith

pub below_u128 : (n : ℕ) → n < 2 ^ 128 → n < 10 ^ 64
below_u128 n h = omega arith

pub read_u8_back : (n : ℕ) → n < 2 ^ 8 → read_number (2 ^ 8) (decimal n) ≡ Some n
read_u8_back n h = read-decimal (2 ^ 8) n h (below_u8 n h)

pub read_u16_back : (n : ℕ) → n < 2 ^ 16 → read_number (2 ^ 16) (decimal n) ≡ Some n
read_u16_back n h = read-decimal (2 ^ 16) n h (below_u16 n h)

pub read_u64_back : (n : ℕ) → n < 2 ^ 64 → read_number (2 ^ 64) (decimal n) ≡ Some n
read_u64_back n h = read-decimal (2 ^ 64) n h (below_u64 n h)

pub read_u32_back : (n : ℕ) → n < 2 ^ 32 → read_number (2 ^ 32) (decimal n) ≡ Some n
read_u32_back n h = read-decimal (2 ^ 32) n h (below_u32 n h)

pub read_u128_back : (n : ℕ) → n < 2 ^ 128 → read_number (2 ^ 128) (decimal n) ≡ Some n
read_u128_back n h = read-decimal (2 ^ 128) n h (below_u128 n h)

-- the bytes of a number lie above any byte before the digits
pub word_decimal : (s n : ℕ) → s ≤ 47 → n < 10 ^ 64 → above s (decimal n) ≡ true
word_decimal s n l h = above-le s 47 (decimal n) l (above-decimal n h)

pid_pieces : (p : Pid) → pid_word p ≡ decimal p.home ++ 46 ∷ decimal p.num
pid_pieces p = append_assoc (decimal p.home) (46 ∷ []) (decimal p.num)

pub word_pid : (s : ℕ) (p : Pid) → s ≤ 45 → PidFits p → above s (pid_word p) ≡ true
word_pid s p l h =
    rw (pid_pieces p) (above-append s (decimal p.home) (46 ∷ decimal p.num) (word_decimal s p.home (omega arith) (below_u8 p.home h.0)) (above-le s 45 (46 ∷ decimal p.num) l (word_decimal 45 p.num (omega arith) (below_u32 p.num h.1))))

pub read_pid_back : (p : Pid) → PidFits p → read_pid (pid_word p) ≡ Some p
unfolding read_pid
read_pid_back p h =
    let f : free 46 (decimal p.home) ≡ true = free-above 46 (decimal p.home) (word_decimal 46 p.home (omega arith) (below_u8 p.home h.0)) in
    let g : free 46 (decimal p.num) ≡ true = free-above 46 (decimal p.num) (word_decimal 46 p.num (omega arith) (below_u32 p.num h.1)) in
    rw (pid_pieces p, pieces-next 46 (decimal p.home) (decimal p.num) f, pieces-free 46 (decimal p.num) g, read_u8_back p.home h.0, read_u32_back p.num h.1) refl

id_pieces : (i : MsgId) → id_word i ≡ pid_word i.from ++ 35 ∷ (decimal i.n ++ mark i.answer)
id_pieces i = append_assoc (pid_word i.from ++ 35 ∷ []) (decimal i.n) (mark i.answer) ∙ append_assoc (pid_word i.from) (35 ∷ []) (decimal i.n ++ mark i.answer)

above_mark : (b : Bool) → above 32 (mark b) ≡ true
above_mark true = refl
above_mark false = refl

pub word_id : (i : MsgId) → IdFits i → above 32 (id_word i) ≡ true
word_id i h =
    rw (id_pieces i) (above-append 32 (pid_word i.from) (35 ∷ (decimal i.n ++ mark i.answer)) (word_pid 32 i.from (omega arith) h.0) (above-append 32 (decimal i.n) (mark i.answer) (word_decimal 32 i.n (omega arith) (below_u32 i.n h.1)) (above_mark i.answer)))

free_mark : (b : Bool) → free 35 (mark b) ≡ true
free_mark true = refl
free_mark false = refl

numbered_back : (p : Pid) (n : ℕ) (b : Bool) → n < 2 ^ 32 → message_numbered (Some p) (pieces 33 (decimal n ++ mark b)) ≡ Some (message_named b p n)
numbered_back p n true h =
    let f : free 33 (decimal n) ≡ true = free-above 33 (decimal n) (word_decimal 33 n (omega arith) (below_u32 n h)) in
    rw (pieces-next 33 (decimal n) [] f, pieces-free 33 [] refl, read_u32_back n h) refl
numbered_back p n false h =
    let f : free 33 (decimal n) ≡ true = free-above 33 (decimal n) (word_decimal 33 n (omega arith) (below_u32 n h)) in
    rw (append-nil (decimal n), pieces-free 33 (decimal n) f, read_u32_back n h) refl

pub read_id_back : (i : MsgId) → IdFits i → read_id (id_word i) ≡ Some i
unfolding read_id
read_id_back i h =
    let f : free 35 (pid_word i.from) ≡ true = free-above 35 (pid_word i.from) (word_pid 35 i.from (omega arith) h.0) in
    let d : free 35 (decimal i.n) ≡ true = free-above 35 (decimal i.n) (word_decimal 35 i.n (omega arith) (below_u32 i.n h.1)) in
    let g : free 35 (decimal i.n ++ mark i.answer) ≡ true = free-append 35 (decimal i.n) (mark i.answer) d (free_mark i.answer) in
    rw (id_pieces i, pieces-next 35 (pid_word i.from) (decimal i.n ++ mark i.answer) f, pieces-free 35 (decimal i.n ++ mark i.answer) g, read_pid_back i.from h.0, numbered_back i.from i.n i.answer h.1) refl

pub word_kind : (k : MessageKind) → above 32 (word_of k) ≡ true
word_kind kind.User = refl
word_kind kind.Stop = refl
word_kind kind.Resume = refl
word_kind kind.Kill = refl
word_kind kind.Read = refl
word_kind kind.Write = refl
word_kind kind.Block = refl
word_kind kind.Written = refl
word_kind kind.Gone = refl
word_kind kind.Create = refl
word_kind kind.Created = refl
word_kind kind.NoRoom = refl
word_kind kind.Migrate = refl
word_kind kind.Update = refl
word_kind kind.Ask = refl
word_kind kind.Refuse = refl
word_kind kind.PullState = refl
word_kind kind.State = refl
word_kind kind.PullBlock = refl
word_kind kind.Memory = refl
word_kind kind.AllTaken = refl
word_kind kind.Restart = refl
word_kind kind.Move = refl
word_kind kind.Moved = refl
word_kind kind.CallOff = refl
word_kind kind.Bury = refl

pub read_kind_back : (k : MessageKind) → read_kind (word_of k) ≡ Some k
unfolding read_kind
read_kind_back kind.User = refl
read_kind_back kind.Stop = refl
read_kind_back kind.Resume = refl
read_kind_back kind.Kill = refl
read_kind_back kind.Read = refl
read_kind_back kind.Write = refl
read_kind_back kind.Block = refl
read_kind_back kind.Written = refl
read_kind_back kind.Gone = refl
read_kind_back kind.Create = refl
read_kind_back kind.Created = refl
read_kind_back kind.NoRoom = refl
read_kind_back kind.Migrate = refl
read_kind_back kind.Update = refl
read_kind_back kind.Ask = refl
read_kind_back kind.Refuse = refl
read_kind_back kind.PullState = refl
read_kind_back kind.State = refl
read_kind_back kind.PullBlock = refl
read_kind_back kind.Memory = refl
read_kind_back kind.AllTaken = refl
read_kind_back kind.Restart = refl
read_kind_back kind.Move = refl
read_kind_back kind.Moved = refl
read_kind_back kind.CallOff = refl
read_kind_back kind.Bury = refl

reply_small : (r : Reply) → reply_code r < 2 ^ 8
reply_small reply.Done = omega arith
reply_small reply.NoLink = omega arith
reply_small reply.TableFull = omega arith
reply_small reply.BadKind = omega arith
reply_small reply.BadRange = omega arith
reply_small reply.NoRight = omega arith
reply_small reply.TooLong = omega arith
reply_small reply.Gone = omega arith
reply_small reply.NotCopyable = omega arith

reply_back : (r : Reply) → reply_with (Some (reply_code r)) ≡ Some r
reply_back reply.Done = refl
reply_back reply.NoLink = refl
reply_back reply.TableFull = refl
reply_back reply.BadKind = refl
reply_back reply.BadRange = refl
reply_back reply.NoRight = refl
reply_back reply.TooLong = refl
reply_back reply.Gone = refl
reply_back reply.NotCopyable = refl

pub read_reply_back : (r : Reply) → read_reply (decimal (reply_code r)) ≡ Some r
unfolding read_reply
read_reply_back r = rw (read_u8_back (reply_code r) (reply_small r)) (reply_back r)

pub word_reply : (r : Reply) → above 32 (decimal (reply_code r)) ≡ true
word_reply r = word_decimal 32 (reply_code r) (omega arith) (below_u8 (reply_code r) (reply_small r))

why_small : (y : Why) → why_code y < 2 ^ 8
why_small why.Exit = omega arith
why_small (why.Fault fault.OutOfRange) = omega arith
why_small (why.Fault fault.UnknownOpcode) = omega arith
why_small (why.Fault fault.Unaligned) = omega arith
why_small why.UnknownCall = omega arith
why_small why.Killed = omega arith

why_back : (y : Why) → why_with (Some (why_code y)) ≡ Some y
why_back why.Exit = refl
why_back (why.Fault fault.OutOfRange) = refl
why_back (why.Fault fault.UnknownOpcode) = refl
why_back (why.Fault fault.Unaligned) = refl
why_back why.UnknownCall = refl
why_back why.Killed = refl

pub read_why_back : (y : Why) → read_why (decimal (why_code y)) ≡ Some y
unfolding read_why
read_why_back y = rw (read_u8_back (why_code y) (why_small y)) (why_back y)

pub word_why : (y : Why) → above 32 (decimal (why_code y)) ≡ true
word_why y = word_decimal 32 (why_code y) (omega arith) (below_u8 (why_code y) (why_small y))

pub outcome_small : (o : Outcome) → code_of_outcome o < 2 ^ 8
outcome_small ends.Done = omega arith
outcome_small ends.Stayed = omega arith
outcome_small ends.Ended = omega arith

outcome_back : (o : Outcome) → outcome_with (Some (code_of_outcome o)) ≡ Some o
outcome_back ends.Done = refl
outcome_back ends.Stayed = refl
outcome_back ends.Ended = refl

pub read_outcome_back : (o : Outcome) → read_outcome (decimal (code_of_outcome o)) ≡ Some o
unfolding read_outcome
read_outcome_back o = rw (read_u8_back (code_of_outcome o) (outcome_small o)) (outcome_back o)

pub word_outcome : (o : Outcome) → above 32 (decimal (code_of_outcome o)) ≡ true
word_outcome o = word_decimal 32 (code_of_outcome o) (omega arith) (below_u8 (code_of_outcome o) (outcome_small o))
