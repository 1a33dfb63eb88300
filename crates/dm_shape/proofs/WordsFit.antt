-- The words that lines are printed with are of their sorts.
use Rattle.dm_shape.proofs.Imports.{◌≡◌, ◌≢◌, ℕ, suc, ◌-◌, ◌*◌, ◌/◌, ◌%◌, ◌^◌, ◌<◌, ◌≤◌, ◌==◌, nat_lt, nat_le, nat_eq, Bool, true, false, ◌&&◌, List, [], ◌∷◌, length, drop, get_or, refl, ap, ◌∙◌, arith}
use Rattle.dm_shape.proofs.Imports.{codes, is_some, decimal, All, list_all, ends_with, nat_tests, Pid, Kind, MsgId, MessageKind, word_of, Outcome, code_of_outcome, Direction, FromArea, IntoArea, reply_code, why_code, Reply, Why}
use Rattle.dm_shape.proofs.Imports.{Stage, Standing, standing_word, direction_word, go_word, hex, hex_digit, kind_word, rights_word, PidFits, IdFits, IsByte, read_number, stage_word, pid_word, id_word, read_u8_back, read_u32_back}
use Rattle.dm_shape.proofs.Imports.{read_u64_back, read_u128_back, read_pid_back, read_id_back, outcome_small, is_hex_digit, spells, is_of, choose}
use lib.Pointwise.{pointwise}
use Rattle.dm_link.specs.declared.Kind.TheVariants as kind_
use Rattle.dm_message.specs.declared.kind.MessageKind.TheVariants as kind
use Rattle.dm_processor.specs.declared.registers.Fault.TheVariants as fault
use Rattle.dm_onekernel.specs.declared.label.Reply.TheVariants as reply
use Rattle.dm_onekernel.specs.declared.label.Why.TheVariants as why
use Rattle.dm_line.specs.declared.line.Stage.TheVariants as stage
use Rattle.dm_line.specs.declared.end_line.Standing.TheVariants as standing
use Rattle.dm_shape.specs.declared.choice.Choice.TheVariants as choice
use Rattle.dm_shape.specs.declared.sort.Sort.TheVariants as sort

pub machine_fits : (m : ℕ) → m < 2 ^ 8 → is_of sort.Machine (decimal m) ≡ true
unfolding is_of
machine_fits m h = ap is_some (read_u8_back m h)

pub number_fits : (n : ℕ) → n < 2 ^ 32 → is_of sort.Number (decimal n) ≡ true
unfolding is_of
number_fits n h = ap is_some (read_u32_back n h)

pub packet_fits : (n : ℕ) → n < 2 ^ 64 → is_of sort.Packet (decimal n) ≡ true
unfolding is_of
packet_fits n h = ap is_some (read_u64_back n h)

pub groups_fit : (n : ℕ) → n < 2 ^ 128 → is_of sort.Groups (decimal n) ≡ true
unfolding is_of
groups_fit n h = ap is_some (read_u128_back n h)

pub process_fits : (p : Pid) → PidFits p → is_of sort.Process (pid_word p) ≡ true
unfolding is_of
process_fits p h = ap is_some (read_pid_back p h)

pub message_fits : (i : MsgId) → IdFits i → is_of sort.Message (id_word i) ≡ true
unfolding is_of
message_fits i h = ap is_some (read_id_back i h)

pub small_fits : (n : ℕ) → n < 2 ^ 8 → is_of sort.Number (decimal n) ≡ true
small_fits n h = number_fits n (omega arith)

pub short_fits : (n : ℕ) → n < 2 ^ 16 → is_of sort.Number (decimal n) ≡ true
short_fits n h = number_fits n (omega arith)

reply_small : (r : Reply) → reply_code r < 2 ^ 8
reply_small reply.Done = omega arith
reply_small reply.NoLink = omega arith
reply_small reply.TableFull = omega arith
reply_small reply.BadKind = omega arith
reply_small reply.BadRange = omega arith
reply_small reply.NoRight = omega arith
reply_small reply.TooLong = omega arith
reply_small reply.Gone = omega arith
reply_small reply.NotCopyable = omega arith

pub reply_fits : (r : Reply) → is_of sort.Number (decimal (reply_code r)) ≡ true
reply_fits r = small_fits (reply_code r) (reply_small r)

why_small : (y : Why) → why_code y < 2 ^ 8
why_small why.Exit = omega arith
why_small (why.Fault fault.OutOfRange) = omega arith
why_small (why.Fault fault.UnknownOpcode) = omega arith
why_small (why.Fault fault.Unaligned) = omega arith
why_small why.UnknownCall = omega arith
why_small why.Killed = omega arith

pub why_fits : (y : Why) → is_of sort.Number (decimal (why_code y)) ≡ true
why_fits y = small_fits (why_code y) (why_small y)

pub outcome_fits : (o : Outcome) → is_of sort.Number (decimal (code_of_outcome o)) ≡ true
outcome_fits o = small_fits (code_of_outcome o) (outcome_small o)

pub kind_fits : (k : MessageKind) → is_of sort.Kind (word_of k) ≡ true
unfolding is_of
kind_fits kind.User = refl
kind_fits kind.Stop = refl
kind_fits kind.Resume = refl
kind_fits kind.Kill = refl
kind_fits kind.Read = refl
kind_fits kind.Write = refl
kind_fits kind.Block = refl
kind_fits kind.Written = refl
kind_fits kind.Gone = refl
kind_fits kind.Create = refl
kind_fits kind.Created = refl
kind_fits kind.NoRoom = refl
kind_fits kind.Migrate = refl
kind_fits kind.Update = refl
kind_fits kind.Ask = refl
kind_fits kind.Refuse = refl
kind_fits kind.PullState = refl
kind_fits kind.State = refl
kind_fits kind.PullBlock = refl
kind_fits kind.Memory = refl
kind_fits kind.AllTaken = refl
kind_fits kind.Restart = refl
kind_fits kind.Move = refl
kind_fits kind.Moved = refl
kind_fits kind.CallOff = refl
kind_fits kind.Bury = refl

pub stage_fits : (s : Stage) → is_of (choose choice.Stage) (stage_word s) ≡ true
unfolding is_of
stage_fits stage.Frozen = refl
stage_fits stage.Asked = refl
stage_fits stage.Accepted = refl
stage_fits stage.StateTaken = refl
stage_fits stage.MemoryTaken = refl
stage_fits stage.Left = refl
stage_fits stage.Restarted = refl

pub six_fits : is_of (choose choice.Six) (codes "6") ≡ true
unfolding is_of
six_fits = refl

pub data_fits : is_of (choose choice.Load) (codes "data") ≡ true
unfolding is_of
data_fits = refl

pub ack_fits : is_of (choose choice.Load) (codes "ack") ≡ true
unfolding is_of
ack_fits = refl

pub at_fits : is_of (choose choice.At) (codes "at") ≡ true
unfolding is_of
at_fits = refl

pub moves_fits : is_of (choose choice.Moves) (codes "moves") ≡ true
unfolding is_of
moves_fits = refl

pub code_fits : is_of (choose choice.Code) (codes "code") ≡ true
unfolding is_of
code_fits = refl

pub channel_fits : is_of (choose choice.Channel) (codes "channel") ≡ true
unfolding is_of
channel_fits = refl

pub area_fits : is_of (choose choice.Area) (codes "area") ≡ true
unfolding is_of
area_fits = refl

pub ended_fits : is_of (choose choice.Ended) (codes "ended") ≡ true
unfolding is_of
ended_fits = refl

pub ready_fits : is_of (choose choice.Ready) (codes "ready") ≡ true
unfolding is_of
ready_fits = refl

pub waiting_fits : is_of (choose choice.Waiting) (codes "waiting") ≡ true
unfolding is_of
waiting_fits = refl

pub moving_fits : is_of (choose choice.Moving) (codes "moving") ≡ true
unfolding is_of
moving_fits = refl

pub standing_fits : (s : Standing) → is_of (choose choice.Standing) (standing_word s) ≡ true
unfolding is_of
standing_fits standing.Here = refl
standing_fits standing.Leaving = refl
standing_fits standing.Arriving = refl

pub go_fits : (b : Bool) → is_of (choose choice.Going) (go_word b) ≡ true
unfolding is_of
go_fits true = refl
go_fits false = refl

pub link_kind_fits : (k : Kind) → is_of (choose choice.LinkKind) (kind_word k) ≡ true
unfolding is_of
link_kind_fits kind_.General = refl
link_kind_fits kind_.Reply = refl

pub rights_fit : (r w : Bool) → is_of (choose choice.Rights) (rights_word r w) ≡ true
unfolding is_of
rights_fit false false = refl
rights_fit true false = refl
rights_fit false true = refl
rights_fit true true = refl

-- which way a data move goes is written as a number
pub direction_fits : (d : Direction) → is_of sort.Number (direction_word d) ≡ true
unfolding is_of read_number
direction_fits FromArea = refl
direction_fits IntoArea = refl

-- bytes in hexadecimal
digit_is : (n : ℕ) → n < 16 → is_hex_digit (hex_digit n) ≡ true
digit_is n h = grind (arith, nat_tests)

hex_digits : (bs : List ℕ) → All IsByte bs → list_all is_hex_digit (hex bs) ≡ true
hex_digits [] h = refl
hex_digits (b ∷ bs) h =
    let first : b < 2 ^ 8 = h 0 b (omega arith) in
    rw (digit_is (b / 16) (omega arith), digit_is (b % 16) (omega arith), hex_digits bs (λ k d l. h (suc k) d (omega arith))) refl

hex_length : (bs : List ℕ) → length (hex bs) ≡ 2 * length bs
hex_length [] = refl
hex_length (b ∷ bs) = let e : length (hex bs) ≡ 2 * length bs = hex_length bs in omega arith

pub spells_hex : (most : ℕ) (bs : List ℕ) → All IsByte bs → 0 < length bs → length bs ≤ most → spells most (hex bs) ≡ true
spells_hex most bs h some few =
    let l : length (hex bs) ≡ 2 * length bs = hex_length bs in
    let even : (length (hex bs) % 2 == 0) ≡ true = grind (arith, nat_tests, l) in
    let more : nat_lt 0 (length (hex bs)) ≡ true = grind (arith, nat_tests, l) in
    let less : nat_le (length (hex bs)) (2 * most) ≡ true = grind (arith, nat_tests, l) in
    rw (hex_digits bs h, even, more, less) refl

zero_digit : (n : ℕ) → (48 == hex_digit n) ≡ true → n ≡ 0
zero_digit n e = grind (arith, nat_tests, e)

both_zero : (b : ℕ) → b ≢ 0 → ((48 == hex_digit (b / 16)) && ((48 == hex_digit (b % 16)) && true)) ≡ false
both_zero b h = by_tests (48 == hex_digit (b / 16)) (48 == hex_digit (b % 16)) refl refl
  where
    by_tests : (s t : Bool) → (48 == hex_digit (b / 16)) ≡ s → (48 == hex_digit (b % 16)) ≡ t → (s && (t && true)) ≡ false
    by_tests true true e f = let x : b / 16 ≡ 0 = zero_digit (b / 16) e in let y : b % 16 ≡ 0 = zero_digit (b % 16) f in absurd (h (omega arith))
    by_tests true false e f = refl
    by_tests false t e f = refl

drop_two : (x y : ℕ) (xs : List ℕ) (k n : ℕ) → k ≡ suc (suc n) → drop k (x ∷ y ∷ xs) ≡ drop n xs
drop_two x y xs k n e = ap (λ (j : ℕ). drop j (x ∷ y ∷ xs)) e

last_shows : (bs : List ℕ) → 0 < length bs → get_or bs (length bs - 1) 0 ≢ 0 → ends_with nat_eq (hex bs) (codes "00") ≡ false
last_shows [] some h = absurd (omega arith)
last_shows (b ∷ []) some h = both_zero b h
last_shows (b ∷ c ∷ cs) some h =
    let l : length (hex (c ∷ cs)) ≡ 2 * length (c ∷ cs) = hex_length (c ∷ cs) in
    let e : length (hex (b ∷ c ∷ cs)) - 2 ≡ suc (suc (length (hex (c ∷ cs)) - 2)) = omega (arith, l) in
    let k : length (b ∷ c ∷ cs) - 1 ≡ suc (length (c ∷ cs) - 1) = omega arith in
    let g : get_or (c ∷ cs) (length (c ∷ cs) - 1) 0 ≢ 0 = λ p. h (ap (λ (j : ℕ). get_or (b ∷ c ∷ cs) j 0) k ∙ p) in
    ap (λ xs. pointwise nat_eq (codes "00") xs) (drop_two (hex_digit (b / 16)) (hex_digit (b % 16)) (hex (c ∷ cs)) (length (hex (b ∷ c ∷ cs)) - 2) (length (hex (c ∷ cs)) - 2) e)
    ∙ last_shows (c ∷ cs) (omega arith) g

pub block_fits : (bs : List ℕ) → All IsByte bs → 0 < length bs → length bs ≤ 256 → get_or bs (length bs - 1) 0 ≢ 0 → is_of sort.Block (hex bs) ≡ true
unfolding is_of
block_fits bs h some few last = rw (spells_hex 256 bs h some few, last_shows bs some last) refl

pub name_fits : (bs : List ℕ) → All IsByte bs → 0 < length bs → length bs ≤ 16 → is_of sort.Name (hex bs) ≡ true
unfolding is_of
name_fits bs h some few = spells_hex 16 bs h some few
