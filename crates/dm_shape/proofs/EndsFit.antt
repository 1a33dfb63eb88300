-- Each line at the end of a run has the shape of its row.
use Rattle.dm_shape.proofs.Imports.{◌≡◌, ℕ, zero, suc, ◌<◌, true, false, List, [], ◌∷◌, length, map, refl, arith, list_all, Link, MsgId, EndLine, end_words, link_words}
use Rattle.dm_shape.proofs.Imports.{AllFit, EndFits, left_out, link_row, message_word, registers_row, spellings, IsFull, ends_so, fit, is_row, link_sorts, numbers, row_of, is_of}
use Rattle.dm_line.specs.declared.end_line.Doing.TheVariants as doing
use Rattle.dm_line.specs.declared.end_line.EndLine.TheVariants as end
use Rattle.dm_shape.specs.declared.shape.Shape.TheVariants as shape
use Rattle.dm_shape.specs.declared.shape.EndShape.TheVariants as end_shape
use Rattle.dm_shape.specs.declared.sort.Sort.TheVariants as sort
use Rattle.dm_shape.proofs.Listed.{has_row, listed}
use Rattle.dm_shape.proofs.WordsFit.{machine_fits, number_fits, process_fits, message_fits, groups_fit, small_fits, why_fits, at_fits, moves_fits, code_fits, channel_fits, area_fits, ended_fits, ready_fits, waiting_fits, moving_fits, standing_fits, go_fits, link_kind_fits, rights_fit, direction_fits, block_fits, name_fits}

-- the words of a link
link_fits : (l : Link) → AllFit (link_row l) → fit link_sorts false (link_words l) ≡ true
link_fits l h =
    rw (
      link_kind_fits l.kind,
      process_fits l.addr.pid h.1.0,
      at_fits,
      machine_fits l.addr.at h.1.1.1.0,
      moves_fits,
      number_fits l.addr.moves h.1.1.1.1.1.0,
      code_fits,
      number_fits l.code h.1.1.1.1.1.1.1.0,
      channel_fits,
      small_fits l.channel h.1.1.1.1.1.1.1.1.1.0,
      area_fits,
      number_fits l.area.base h.1.1.1.1.1.1.1.1.1.1.1.0,
      number_fits l.area.len h.1.1.1.1.1.1.1.1.1.1.1.1.0,
      rights_fit l.area.read l.area.write,
    ) refl

-- so many numbers, and one more
numbers_fit : (So : Type 0) (n k : ℕ) (xs : List ℕ) → length xs ≡ n → AllFit (registers_row So xs k) → fit (numbers (suc n)) false (spellings (registers_row So xs k)) ≡ true
numbers_fit So zero k [] e h = rw (number_fits k h.0.1) refl
numbers_fit So zero k (x ∷ xs) e h = absurd (omega (arith, e))
numbers_fit So (suc n) k [] e h = absurd (omega (arith, e))
numbers_fit So (suc n) k (x ∷ xs) e h = rw (number_fits x h.0) (numbers_fit So n k xs (omega (arith, e)) h.1)

-- names of messages, one or more
are_messages : (ids : List MsgId) → AllFit (map message_word ids) → list_all (is_of sort.Message) (spellings (map message_word ids)) ≡ true
are_messages [] h = refl
are_messages (i ∷ is) h = rw (message_fits i h.0, are_messages is h.1) refl

ids_fit : (ids : List MsgId) → AllFit (map message_word ids) → 0 < length ids → ends_so true (spellings (map message_word ids)) ≡ true
ids_fit [] h l = absurd (omega arith)
ids_fit (i ∷ is) h l = are_messages (i ∷ is) h

pub end_has_row : (e : EndLine) → EndFits e → IsFull e → has_row (end_words e) ≡ true
end_has_row end.Final h f = listed (λ x. is_row (row_of x) (end_words end.Final)) (shape.End end_shape.Final) (refl)
end_has_row (end.Ended p y) h f = listed (λ x. is_row (row_of x) (end_words (end.Ended p y))) (shape.End end_shape.Ended) (rw (process_fits p h.1.0, ended_fits, why_fits y) refl)
end_has_row (end.Process p m s doing.Ready go sent) h f = listed (λ x. is_row (row_of x) (end_words (end.Process p m s doing.Ready go sent))) (shape.End end_shape.Ready) (rw (
  process_fits p h.1.0,
  at_fits,
  machine_fits m h.1.1.1.0,
  standing_fits s,
  ready_fits,
  go_fits go,
  number_fits sent h.1.1.1.1.1.1.1.0,
) refl)
end_has_row (end.Process p m s (doing.Waiting a b c) go sent) h f = listed (λ x. is_row (row_of x) (end_words (end.Process p m s (doing.Waiting a b c) go sent))) (shape.End end_shape.Waiting) (rw (
  process_fits p h.1.0,
  at_fits,
  machine_fits m h.1.1.1.0,
  standing_fits s,
  waiting_fits,
  number_fits a h.1.1.1.1.1.1.0,
  number_fits b h.1.1.1.1.1.1.1.0,
  number_fits c h.1.1.1.1.1.1.1.1.0,
  go_fits go,
  number_fits sent h.1.1.1.1.1.1.1.1.1.1.0,
) refl)
end_has_row (end.Process p m s (doing.Moving d q a b c) go sent) h f = listed (λ x. is_row (row_of x) (end_words (end.Process p m s (doing.Moving d q a b c) go sent))) (shape.End end_shape.Moving) (rw (
  process_fits p h.1.0,
  at_fits,
  machine_fits m h.1.1.1.0,
  standing_fits s,
  moving_fits,
  direction_fits d,
  process_fits q h.1.1.1.1.1.1.1.0,
  number_fits a h.1.1.1.1.1.1.1.1.0,
  number_fits b h.1.1.1.1.1.1.1.1.1.0,
  number_fits c h.1.1.1.1.1.1.1.1.1.1.0,
  go_fits go,
  number_fits sent h.1.1.1.1.1.1.1.1.1.1.1.1.0,
) refl)
end_has_row (end.Registers p r pc) h f = listed (λ x. is_row (row_of x) (end_words (end.Registers p r pc))) (shape.End end_shape.Registers) (rw (process_fits p h.1.0, numbers_fit (length r ≡ 16) 16 pc r (left_out (length r ≡ 16) r pc h.1.1) h.1.1) refl)
end_has_row (end.Memory p k bytes) h f = listed (λ x. is_row (row_of x) (end_words (end.Memory p k bytes))) (shape.End end_shape.Memory) (rw (process_fits p h.1.0, small_fits k h.1.1.0, block_fits bytes.items h.1.1.1.0 f.0 f.1 f.2) refl)
end_has_row (end.Link p slot l) h f = listed (λ x. is_row (row_of x) (end_words (end.Link p slot l))) (shape.End end_shape.Link) (rw (process_fits p h.1.0, small_fits slot h.1.1.0, link_fits l h.1.1.1) refl)
end_has_row (end.Server p sent) h f = listed (λ x. is_row (row_of x) (end_words (end.Server p sent))) (shape.End end_shape.Server) (rw (process_fits p h.1.0, number_fits sent h.1.1.0) refl)
end_has_row (end.Place p m s) h f = listed (λ x. is_row (row_of x) (end_words (end.Place p m s))) (shape.End end_shape.Place) (rw (process_fits p h.1.0, at_fits, machine_fits m h.1.1.1.0, standing_fits s) refl)
end_has_row (end.Name name l) h f = listed (λ x. is_row (row_of x) (end_words (end.Name name l))) (shape.End end_shape.Name) (rw (name_fits name.items h.1.0 f.0 f.1, link_fits l h.1.1) refl)
end_has_row (end.Child n p m) h f = listed (λ x. is_row (row_of x) (end_words (end.Child n p m))) (shape.End end_shape.Child) (rw (number_fits n h.1.0, process_fits p h.1.1.0, at_fits, machine_fits m h.1.1.1.1.0) refl)
end_has_row (end.Pending i) h f = listed (λ x. is_row (row_of x) (end_words (end.Pending i))) (shape.End end_shape.Pending) (rw (message_fits i h.1.0) refl)
end_has_row (end.Queue p ids) h f = listed (λ x. is_row (row_of x) (end_words (end.Queue p ids))) (shape.End end_shape.Queue) (rw (process_fits p h.1.0, ids_fit ids h.1.1 f) refl)
end_has_row (end.Holding m p ids) h f = listed (λ x. is_row (row_of x) (end_words (end.Holding m p ids))) (shape.End end_shape.Holding) (rw (machine_fits m h.1.0, process_fits p h.1.1.0, ids_fit ids h.1.1.1 f) refl)
end_has_row (end.Inbox m ids) h f = listed (λ x. is_row (row_of x) (end_words (end.Inbox m ids))) (shape.End end_shape.Inbox) (rw (machine_fits m h.1.0, ids_fit ids h.1.1 f) refl)
end_has_row (end.Stream a b ids) h f = listed (λ x. is_row (row_of x) (end_words (end.Stream a b ids))) (shape.End end_shape.Stream) (rw (machine_fits a h.1.0, machine_fits b h.1.1.0, ids_fit ids h.1.1.1 f) refl)
end_has_row (end.Groups g) h f = listed (λ x. is_row (row_of x) (end_words (end.Groups g))) (shape.End end_shape.Groups) (rw (groups_fit g h.1.0) refl)
