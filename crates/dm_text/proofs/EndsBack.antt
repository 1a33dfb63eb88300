-- Lines at the end of a run, read back from their words.
use Rattle.dm_text.proofs.Names.{◌≡◌, ℕ, ◌+◌, ◌==◌, Bool, true, false, List, [], ◌∷◌, ◌++◌, length, take, map, refl, ap, sym, ◌∙◌, arith, Some, None, eq-eqb, get_or_push, length_push, take-append_seam, Kind}
use Rattle.dm_text.proofs.Names.{General, Reply, Link, Pid, MsgId, Direction, FromArea, IntoArea, EndLine, Standing, end_words, link_words, kind_word, rights_word, standing_word, direction_word, go_word, read_standing}
use Rattle.dm_text.proofs.Names.{read_direction, read_go, read_link_kind, read_rights, read_link, link_from, registers_from, read_u32, read_id, all_read, end_of_words, line_of_words, EndFits, AllFit, LineWord, only_if}
use Rattle.dm_text.proofs.Names.{message_word, sized, link_row, spellings}
use Rattle.dm_line.specs.declared.end_line.Doing.TheVariants as doing
use Rattle.dm_line.specs.declared.end_line.EndLine.TheVariants as end
use Rattle.dm_line.specs.declared.end_line.Standing.TheVariants as standing
use Rattle.dm_text.proofs.Pieces.{above, AreWords}
use Rattle.dm_text.proofs.WordsBack.{below_u128, word_decimal, read_u8_back, read_u32_back, read_u128_back, word_pid, read_pid_back, word_id, read_id_back, word_why, read_why_back}
use Rattle.dm_text.proofs.Fields.{word_u8, word_u32}
use Rattle.dm_text.proofs.Hex.{word_hex, read_hex_back}

word_standing : (s : Standing) → above 32 (standing_word s) ≡ true
word_standing standing.Here = refl
word_standing standing.Leaving = refl
word_standing standing.Arriving = refl

read_standing_back : (s : Standing) → read_standing (standing_word s) ≡ Some s
unfolding read_standing
read_standing_back standing.Here = refl
read_standing_back standing.Leaving = refl
read_standing_back standing.Arriving = refl

word_direction : (d : Direction) → above 32 (direction_word d) ≡ true
word_direction FromArea = refl
word_direction IntoArea = refl

read_direction_back : (d : Direction) → read_direction (direction_word d) ≡ Some d
unfolding read_direction
read_direction_back FromArea = refl
read_direction_back IntoArea = refl

word_go : (b : Bool) → above 32 (go_word b) ≡ true
word_go true = refl
word_go false = refl

read_go_back : (b : Bool) → read_go (go_word b) ≡ Some b
unfolding read_go
read_go_back true = refl
read_go_back false = refl

word_link_kind : (k : Kind) → above 32 (kind_word k) ≡ true
word_link_kind General = refl
word_link_kind Reply = refl

read_link_kind_back : (k : Kind) → read_link_kind (kind_word k) ≡ Some k
unfolding read_link_kind
read_link_kind_back General = refl
read_link_kind_back Reply = refl

word_rights : (r w : Bool) → above 32 (rights_word r w) ≡ true
word_rights false false = refl
word_rights true false = refl
word_rights false true = refl
word_rights true true = refl

read_rights_back : (r w : Bool) → read_rights (rights_word r w) ≡ Some (r, w)
unfolding read_rights
read_rights_back false false = refl
read_rights_back true false = refl
read_rights_back false true = refl
read_rights_back true true = refl

link_words_are : (l : Link) → AllFit (link_row l) → AreWords (link_words l)
link_words_are l h = (
  word_link_kind l.kind,
  (
    word_pid 32 l.addr.pid (omega arith) h.1.0,
    (
      refl,
      (
        word_u8 l.addr.at h.1.1.1.0,
        (
          refl,
          (
            word_u32 l.addr.moves h.1.1.1.1.1.0,
            (
              refl,
              (
                word_u32 l.code h.1.1.1.1.1.1.1.0,
                (
                  refl,
                  (
                    word_u8 l.channel h.1.1.1.1.1.1.1.1.1.0,
                    (
                      refl,
                      (
                        word_u32 l.area.base h.1.1.1.1.1.1.1.1.1.1.1.0,
                        (
                          word_u32 l.area.len h.1.1.1.1.1.1.1.1.1.1.1.1.0,
                          (
                            word_rights l.area.read l.area.write,
                            tt,
                          ),
                        ),
                      ),
                    ),
                  ),
                ),
              ),
            ),
          ),
        ),
      ),
    ),
  ),
)

-- the mark that isn't printed
unmarked : (l : Link) → l.to_kernel ≡ false → link_from l.kind l.addr.pid l.addr.at l.addr.moves l.code l.channel l.area.base l.area.len (l.area.read, l.area.write) ≡ l
unmarked l h = ap (λ (b : Bool). record l { to_kernel = b }) (sym h)

read_link_back : (l : Link) → AllFit (link_row l) → read_link (link_words l) ≡ Some l
unfolding read_link
read_link_back l h =
    rw (
      read_link_kind_back l.kind,
      read_pid_back l.addr.pid h.1.0,
      read_u8_back l.addr.at h.1.1.1.0,
      read_u32_back l.addr.moves h.1.1.1.1.1.0,
      read_u32_back l.code h.1.1.1.1.1.1.1.0,
      read_u8_back l.channel h.1.1.1.1.1.1.1.1.1.0,
      read_u32_back l.area.base h.1.1.1.1.1.1.1.1.1.1.1.0,
      read_u32_back l.area.len h.1.1.1.1.1.1.1.1.1.1.1.1.0,
      read_rights_back l.area.read l.area.write,
    )
    (ap (λ (x : Link). Some x) (unmarked l h.1.1.1.1.1.1.1.1.1.1.1.1.1.0.0))

ids_words : (ids : List MsgId) → AllFit (map message_word ids) → AreWords (spellings (map message_word ids))
ids_words [] h = tt
ids_words (i ∷ is) h = (word_id i h.0, ids_words is h.1)

ids_back : (ids : List MsgId) → AllFit (map message_word ids) → all_read read_id (spellings (map message_word ids)) ≡ Some ids
ids_back [] h = refl
ids_back (i ∷ is) h = rw (read_id_back i h.0, ids_back is h.1) refl

-- the words of some registers, and of the last number with what it leaves out
abbrev pub registers_row : Type 0 → List ℕ → ℕ → List LineWord
registers_row So r pc = map (sized 32) r ++ only_if So (sized 32 pc) ∷ []

registers_words : (So : Type 0) (r : List ℕ) (pc : ℕ) → AllFit (registers_row So r pc) → AreWords (spellings (registers_row So r pc))
registers_words So [] pc h = (word_u32 pc h.0.1, tt)
registers_words So (x ∷ xs) pc h = (word_u32 x h.0, registers_words So xs pc h.1)

-- the numbers before the last, and the last
all_back_push : (So : Type 0) (r : List ℕ) (pc : ℕ) → AllFit (registers_row So r pc) → all_read read_u32 (spellings (registers_row So r pc)) ≡ Some (r ++ pc ∷ [])
all_back_push So [] pc h = rw (read_u32_back pc h.0.1) refl
all_back_push So (x ∷ xs) pc h = rw (read_u32_back x h.0, all_back_push So xs pc h.1) refl

pub left_out : (So : Type 0) (r : List ℕ) (pc : ℕ) → AllFit (registers_row So r pc) → So
left_out So [] pc h = h.0.0
left_out So (x ∷ xs) pc h = left_out So xs pc h.1

registers_split : (p : Pid) (r : List ℕ) (pc : ℕ) → length r ≡ 16 → registers_from p (r ++ pc ∷ []) ≡ Some (end.Registers p r pc)
registers_split p r pc h =
    let e : (length (r ++ pc ∷ []) == 17) ≡ true = eq-eqb (length (r ++ pc ∷ [])) 17 (length_push r pc ∙ ap (λ n. n + 1) h) in
    let t : take 16 (r ++ pc ∷ []) ≡ r = ap (λ n. take n (r ++ pc ∷ [])) (sym h) ∙ take-append_seam r (pc ∷ []) in
    rw (e, t, get_or_push r pc 0 16 h) refl

registers_back : (p : Pid) (r : List ℕ) (pc : ℕ) → EndFits (end.Registers p r pc) → end_of_words (end_words (end.Registers p r pc)) ≡ Some (end.Registers p r pc)
registers_back p r pc h = rw (read_pid_back p h.1.0, all_back_push (length r ≡ 16) r pc h.1.1) (registers_split p r pc (left_out (length r ≡ 16) r pc h.1.1))

pub end_words_are : (e : EndLine) → EndFits e → AreWords (end_words e)
end_words_are end.Final h = (refl, tt)
end_words_are (end.Ended p y) h = (refl, (word_pid 32 p (omega arith) h.1.0, (refl, (word_why y, tt))))
end_words_are (end.Process p m s doing.Ready go sent) h = (refl, (word_pid 32 p (omega arith) h.1.0, (refl, (word_u8 m h.1.1.1.0, (word_standing s, (refl, (word_go go, (word_u32 sent h.1.1.1.1.1.1.1.0, tt))))))))
end_words_are (end.Process p m s (doing.Waiting a b c) go sent) h = (
  refl,
  (
    word_pid 32 p (omega arith) h.1.0,
    (
      refl,
      (
        word_u8 m h.1.1.1.0,
        (
          word_standing s,
          (
            refl,
            (
              word_u32 a h.1.1.1.1.1.1.0,
              (
                word_u32 b h.1.1.1.1.1.1.1.0,
                (
                  word_u32 c h.1.1.1.1.1.1.1.1.0,
                  (word_go go, (word_u32 sent h.1.1.1.1.1.1.1.1.1.1.0, tt)),
                ),
              ),
            ),
          ),
        ),
      ),
    ),
  ),
)
end_words_are (end.Process p m s (doing.Moving d q a b c) go sent) h = (
  refl,
  (
    word_pid 32 p (omega arith) h.1.0,
    (
      refl,
      (
        word_u8 m h.1.1.1.0,
        (
          word_standing s,
          (
            refl,
            (
              word_direction d,
              (
                word_pid 32 q (omega arith) h.1.1.1.1.1.1.1.0,
                (word_u32 a h.1.1.1.1.1.1.1.1.0, (word_u32 b h.1.1.1.1.1.1.1.1.1.0, (word_u32 c h.1.1.1.1.1.1.1.1.1.1.0, (word_go go, (word_u32 sent h.1.1.1.1.1.1.1.1.1.1.1.1.0, tt))))),
              ),
            ),
          ),
        ),
      ),
    ),
  ),
)
end_words_are (end.Registers p r pc) h = (refl, (word_pid 32 p (omega arith) h.1.0, registers_words (length r ≡ 16) r pc h.1.1))
end_words_are (end.Memory p k bytes) h = (refl, (word_pid 32 p (omega arith) h.1.0, (word_u8 k h.1.1.0, (word_hex bytes.items, tt))))
end_words_are (end.Link p slot l) h = (refl, (word_pid 32 p (omega arith) h.1.0, (word_u8 slot h.1.1.0, link_words_are l h.1.1.1)))
end_words_are (end.Server p sent) h = (refl, (word_pid 32 p (omega arith) h.1.0, (word_u32 sent h.1.1.0, tt)))
end_words_are (end.Place p m s) h = (refl, (word_pid 32 p (omega arith) h.1.0, (refl, (word_u8 m h.1.1.1.0, (word_standing s, tt)))))
end_words_are (end.Name name l) h = (refl, (word_hex name.items, link_words_are l h.1.1))
end_words_are (end.Child n p m) h = (refl, (word_u32 n h.1.0, (word_pid 32 p (omega arith) h.1.1.0, (refl, (word_u8 m h.1.1.1.1.0, tt)))))
end_words_are (end.Pending i) h = (refl, (word_id i h.1.0, tt))
end_words_are (end.Queue p ids) h = (refl, (word_pid 32 p (omega arith) h.1.0, ids_words ids h.1.1))
end_words_are (end.Holding m p ids) h = (refl, (word_u8 m h.1.0, (word_pid 32 p (omega arith) h.1.1.0, ids_words ids h.1.1.1)))
end_words_are (end.Inbox m ids) h = (refl, (word_u8 m h.1.0, ids_words ids h.1.1))
end_words_are (end.Stream a b ids) h = (refl, (word_u8 a h.1.0, (word_u8 b h.1.1.0, ids_words ids h.1.1.1)))
end_words_are (end.Groups g) h = (refl, (word_decimal 32 g (omega arith) (below_u128 g h.1.0), tt))

pub end_back : (e : EndLine) → EndFits e → end_of_words (end_words e) ≡ Some e
end_back end.Final h = refl
end_back (end.Ended p y) h = rw (read_pid_back p h.1.0, read_why_back y) refl
end_back (end.Process p m s doing.Ready go sent) h = rw (read_pid_back p h.1.0, read_u8_back m h.1.1.1.0, read_standing_back s, read_go_back go, read_u32_back sent h.1.1.1.1.1.1.1.0) refl
end_back (end.Process p m s (doing.Waiting a b c) go sent) h =
    rw (
      read_pid_back p h.1.0,
      read_u8_back m h.1.1.1.0,
      read_standing_back s,
      read_u32_back a h.1.1.1.1.1.1.0,
      read_u32_back b h.1.1.1.1.1.1.1.0,
      read_u32_back c h.1.1.1.1.1.1.1.1.0,
      read_go_back go,
      read_u32_back sent h.1.1.1.1.1.1.1.1.1.1.0,
    ) refl
end_back (end.Process p m s (doing.Moving d q a b c) go sent) h =
    rw (
      read_pid_back p h.1.0,
      read_u8_back m h.1.1.1.0,
      read_standing_back s,
      read_direction_back d,
      read_pid_back q h.1.1.1.1.1.1.1.0,
      read_u32_back a h.1.1.1.1.1.1.1.1.0,
      read_u32_back b h.1.1.1.1.1.1.1.1.1.0,
      read_u32_back c h.1.1.1.1.1.1.1.1.1.1.0,
      read_go_back go,
      read_u32_back sent h.1.1.1.1.1.1.1.1.1.1.1.1.0,
    ) refl
end_back (end.Registers p r pc) h = registers_back p r pc h
end_back (end.Memory p k bytes) h = rw (read_pid_back p h.1.0, read_u8_back k h.1.1.0, read_hex_back bytes.items h.1.1.1.0) refl
end_back (end.Link p slot l) h = rw (read_pid_back p h.1.0, read_u8_back slot h.1.1.0, read_link_back l h.1.1.1) refl
end_back (end.Server p sent) h = rw (read_pid_back p h.1.0, read_u32_back sent h.1.1.0) refl
end_back (end.Place p m s) h = rw (read_pid_back p h.1.0, read_u8_back m h.1.1.1.0, read_standing_back s) refl
end_back (end.Name name l) h = rw (read_hex_back name.items h.1.0, read_link_back l h.1.1) refl
end_back (end.Child n p m) h = rw (read_u32_back n h.1.0, read_pid_back p h.1.1.0, read_u8_back m h.1.1.1.1.0) refl
end_back (end.Pending i) h = rw (read_id_back i h.1.0) refl
end_back (end.Queue p ids) h = rw (read_pid_back p h.1.0, ids_back ids h.1.1) refl
end_back (end.Holding m p ids) h = rw (read_u8_back m h.1.0, read_pid_back p h.1.1.0, ids_back ids h.1.1.1) refl
end_back (end.Inbox m ids) h = rw (read_u8_back m h.1.0, ids_back ids h.1.1) refl
end_back (end.Stream a b ids) h = rw (read_u8_back a h.1.0, read_u8_back b h.1.1.0, ids_back ids h.1.1.1) refl
end_back (end.Groups g) h = rw (read_u128_back g h.1.0) refl

-- a line at the end is none of a group
pub not_of_group : (e : EndLine) → line_of_words (end_words e) ≡ None
not_of_group end.Final = refl
not_of_group (end.Ended p y) = refl
not_of_group (end.Process p m s d go sent) = refl
not_of_group (end.Registers p r pc) = refl
not_of_group (end.Memory p k bytes) = refl
not_of_group (end.Link p slot l) = refl
not_of_group (end.Server p sent) = refl
not_of_group (end.Place p m s) = refl
not_of_group (end.Name name l) = refl
not_of_group (end.Child n p m) = refl
not_of_group (end.Pending i) = refl
not_of_group (end.Queue p ids) = refl
not_of_group (end.Holding m p ids) = refl
not_of_group (end.Inbox m ids) = refl
not_of_group (end.Stream a b ids) = refl
not_of_group (end.Groups g) = refl
