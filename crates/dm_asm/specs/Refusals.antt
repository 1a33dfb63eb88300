-- The numbers of the reasons, and results that are refused with one.
use Rattle.std.specs.Prelude.{ℕ, ◌≡◌, List, ◌++◌, Result, Ok, Err}
use Rattle.dm_memory.specs.declared.NoMemory.{NoMemory}
use Rattle.dm_asm.specs.declared.refusals.Why.{Why}
use Rattle.dm_asm.specs.declared.refusals.Why.TheVariants.{UnknownWord, BadRegister, BadNumber, OutOfRange, UnknownLabel, LabelTwice, OperandCount, TooLong}
use Rattle.dm_asm.specs.declared.refusals.Stop.{Stop}
use Rattle.dm_asm.specs.declared.refusals.Stop.TheVariants as stops

-- the number of a reason
abbrev pub why_code : Why → ℕ
why_code UnknownWord = 1
why_code BadRegister = 2
why_code BadNumber = 3
why_code OutOfRange = 4
why_code UnknownLabel = 5
why_code LabelTwice = 6
why_code OperandCount = 7
why_code TooLong = 8

-- what follows a value, or the reason why there is none
infixl 10 ◌>>=◌
abbrev pub ◌>>=◌ : {A B : Type 0} → Result A Why → (A → Result B Why) → Result B Why
(Ok x) >>= f = f x
(Err why) >>= f = Err why

-- bytes behind others
abbrev pub bytes_behind : List ℕ → Result (List ℕ) Why → Result (List ℕ) Why
bytes_behind bytes more = more >>= λ m. Ok (bytes ++ m)

-- a stop is for want of memory
abbrev pub IsWant : Stop → Type 0
IsWant stop = (no : NoMemory) × (stop ≡ stops.NoMemory no)

-- a stop is for this reason, or for want of memory
abbrev pub Stops : {A : Type 0} → Stop → Result A Why → Type 0
Stops (stops.Fault why) wanted = wanted ≡ Err why
Stops (stops.NoMemory _) wanted = Unit {0}

-- a value, seen as what is wanted, or a stop
abbrev pub Gives : {A B : Type 0} → (A → B) → Result A Stop → Result B Why → Type 0
Gives seen (Ok x) wanted = wanted ≡ Ok (seen x)
Gives seen (Err stop) wanted = Stops stop wanted
