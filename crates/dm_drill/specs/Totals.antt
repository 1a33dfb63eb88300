-- How many groups and lines of each sort a drill has printed.
use Rattle.std.specs.Prelude.{ℕ, List}
use Rattle.dm_drill.specs.Kinds.{KindTotal}

pub record Totals : Type 0 where
  pub groups : ℕ
  pub puts : ℕ
  pub packets : ℕ
  pub taken : ℕ
  pub repeated : ℕ
  pub early : ℕ
  pub received : ℕ
  pub moved : ℕ
  pub stayed : ℕ
  pub forwarded : ℕ
  pub held : ℕ
  -- of the messages that were put, a total for each kind, by the kinds' numbers
  pub kinds : List KindTotal
