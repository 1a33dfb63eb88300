-- Numbers as words, and the steps of a migration, read back.
use Rattle.dm_text.proofs.Names.{◌≡◌, ℕ, ◌^◌, ◌<◌, true, refl, arith, Some, decimal, Stage, read_stage, stage_word}
use Rattle.dm_line.specs.declared.line.Stage.TheVariants as stage
use Rattle.dm_text.proofs.Pieces.{above}
use Rattle.dm_text.proofs.WordsBack.{below_u8, below_u16, below_u32, below_u64, word_decimal}

pub word_u8 : (n : ℕ) → n < 2 ^ 8 → above 32 (decimal n) ≡ true
word_u8 n h = word_decimal 32 n (omega arith) (below_u8 n h)

pub word_u16 : (n : ℕ) → n < 2 ^ 16 → above 32 (decimal n) ≡ true
word_u16 n h = word_decimal 32 n (omega arith) (below_u16 n h)

pub word_u32 : (n : ℕ) → n < 2 ^ 32 → above 32 (decimal n) ≡ true
word_u32 n h = word_decimal 32 n (omega arith) (below_u32 n h)

pub word_u64 : (n : ℕ) → n < 2 ^ 64 → above 32 (decimal n) ≡ true
word_u64 n h = word_decimal 32 n (omega arith) (below_u64 n h)

pub word_stage : (s : Stage) → above 32 (stage_word s) ≡ true
word_stage stage.Frozen = refl
word_stage stage.Asked = refl
word_stage stage.Accepted = refl
word_stage stage.StateTaken = refl
word_stage stage.MemoryTaken = refl
word_stage stage.Left = refl
word_stage stage.Restarted = refl

pub read_stage_back : (s : Stage) → read_stage (stage_word s) ≡ Some s
unfolding read_stage
read_stage_back stage.Frozen = refl
read_stage_back stage.Asked = refl
read_stage_back stage.Accepted = refl
read_stage_back stage.StateTaken = refl
read_stage_back stage.MemoryTaken = refl
read_stage_back stage.Left = refl
read_stage_back stage.Restarted = refl
