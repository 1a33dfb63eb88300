-- The values of operands, from left to right.
use Rattle.std.specs.Prelude.{ℕ, Bool, ◌&&◌, nat_lt, nat_le, if◌then◌else◌, Option, Some, None, Result, Ok, Err, List, [], ◌∷◌}
use Rattle.dm_link.specs.declared.Pid.{Pid}
use Rattle.dm_schedule.specs.declared.LineFault.{LineFault}
use Rattle.dm_schedule.specs.declared.LineFault.TheVariants.{WrongCount, NotANumber, OutOfRange}
use Rattle.dm_schedule.specs.Keywords.{Operand, Machine, Process, Packet, Rounds}
use Rattle.dm_schedule.specs.Numbers.{number_of_word, process_of}

-- the values of an operand
abbrev pub Value : Operand → Type 0
Value Machine = ℕ
Value Process = Pid
Value Packet = ℕ
Value Rounds = ℕ

-- the values of some operands
abbrev pub Values : List Operand → Type 0
Values [] = Unit {0}
Values (o ∷ os) = Value o × Values os

-- a value that must be there, and in its range
abbrev pub within : {A : Type 0} → (A → Bool) → Option A → Result A LineFault
within fits None = Err NotANumber
within fits (Some x) = if fits x then Ok x else Err OutOfRange

-- the value of an operand that is written as a word, with so many machines: a machine is below their number; so is the home of a
-- process, whose number is below 2^32; the place of a packet is below 2^32; and there are 1 to 65,536 rounds or passes
abbrev pub value_of : ℕ → (o : Operand) → List ℕ → Result (Value o) LineFault
value_of machines Machine word = within (λ m. nat_lt m machines) (number_of_word word)
value_of machines Process word = within (λ p. nat_lt p.home machines && nat_le p.num 4294967295) (process_of word)
value_of machines Packet word = within (λ k. nat_le k 4294967295) (number_of_word word)
value_of machines Rounds word = within (λ n. nat_le 1 n && nat_le n 65536) (number_of_word word)

-- what follows a value, or the fault in its place
infixl 10 ◌>>=◌
abbrev pub ◌>>=◌ : {A B : Type 0} → Result A LineFault → (A → Result B LineFault) → Result B LineFault
(Ok x) >>= f = f x
(Err fault) >>= f = Err fault

-- the values of some operands, each written as a word
abbrev pub values_of : ℕ → (os : List Operand) → List (List ℕ) → Result (Values os) LineFault
values_of machines [] [] = Ok tt
values_of machines [] (w ∷ ws) = Err WrongCount
values_of machines (o ∷ os) [] = Err WrongCount
values_of machines (o ∷ os) (w ∷ ws) = do
  v ← value_of machines o w
  vs ← values_of machines os ws
  Ok (v, vs)
