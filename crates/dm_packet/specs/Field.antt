-- Fields of a packet, and how they are put together.
use Rattle.std.specs.Prelude.{ℕ, zero, suc, Bool, List, [], ◌∷◌, ◌++◌, length, take, drop, nat_le, nat_lt, ◌==◌, ◌&&◌, if◌then◌else◌, Ok, Err}
use Rattle.std.specs.declared.result.Result.{Result}
use Rattle.std.specs.List.{flat_map}
use Rattle.byteorder.specs.Endian.{big_bytes, big_number}
use Rattle.dm_packet.specs.declared.PacketError.{PacketError}
use Rattle.dm_packet.specs.declared.PacketError.TheVariants.{Limit, Missing, Version}

infixl 10 ◌>>=◌
abbrev pub ◌>>=◌ : {A B : Type 0} → Result A PacketError → (A → Result B PacketError) → Result B PacketError
(Ok x) >>= f = f x
(Err e) >>= f = Err e

-- how a field's values are spelled, and how a value and the bytes behind it are read, or the first rule that is broken
pub record Field (X : Type 0) : Type 0 where
  pub spell : X → List ℕ
  pub read : List ℕ → Result (X × List ℕ) PacketError

-- a number of n bytes, the highest first
abbrev pub number : ℕ → Field ℕ
number n = record {
  spell = λ x. big_bytes n x;
  read = λ bytes. if nat_lt (length bytes) n then Err Missing else Ok (big_number n bytes, drop n bytes);
}

-- n bytes as they are
abbrev pub run : ℕ → Field (List ℕ)
run n = record {
  spell = λ xs. xs;
  read = λ bytes. if nat_lt (length bytes) n then Err Missing else Ok (take n bytes, drop n bytes);
}

-- a field whose values pass a test, or break a rule
abbrev pub tested : {X : Type 0} → Field X → (X → Bool) → PacketError → Field X
tested f test rule = record {
  spell = f.spell;
  read = λ bytes. f.read bytes >>= λ x. if test x.0 then Ok x else Err rule;
}

-- a number of so many bytes between two limits
abbrev pub number_within : ℕ → ℕ → ℕ → Field ℕ
number_within size least most = tested (number size) (λ n. nat_le least n && nat_le n most) Limit

-- the version of a format
abbrev pub version : ℕ → Field ℕ
version n = tested (number 1) (λ v. v == n) Version

-- one field, and another, whose form may hang on the first
abbrev pub both : {X Y : Type 0} → Field X → (X → Field Y) → Field (X × Y)
both f g = record {
  spell = λ p. f.spell p.0 ++ (g p.0).spell p.1;
  read = λ bytes. f.read bytes >>= λ x. (g x.0).read x.1 >>= λ y. Ok ((x.0, y.0), y.1);
}

-- the same bytes, as another value
abbrev pub made : {X Y : Type 0} → Field X → (X → Y) → (Y → X) → Field Y
made f make parts = record {
  spell = λ y. f.spell (parts y);
  read = λ bytes. f.read bytes >>= λ x. Ok (make x.0, x.1);
}

abbrev pub read_times : {X : Type 0} → (List ℕ → Result (X × List ℕ) PacketError) → ℕ → List ℕ → Result (List X × List ℕ) PacketError
read_times read zero bytes = Ok ([], bytes)
read_times read (suc n) bytes = read bytes >>= λ first. read_times read n first.1 >>= λ others. Ok (first.0 ∷ others.0, others.1)

-- a field n times
abbrev pub repeated_field : {X : Type 0} → Field X → ℕ → Field (List X)
repeated_field f n = record {
  spell = λ xs. flat_map f.spell xs;
  read = λ bytes. read_times f.read n bytes;
}

-- a number, and a list with so many elements
abbrev pub counted : {X : Type 0} → Field ℕ → (ℕ → Field (List X)) → Field (List X)
counted count elements = made (both count elements) (λ p. p.1) (λ xs. (length xs, xs))
