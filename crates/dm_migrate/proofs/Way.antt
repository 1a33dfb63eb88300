-- Piece by piece, from the first chunk to the process or the server.
use Rattle.dm_migrate.proofs.Names.{ℕ, zero, suc, ◌≡◌, ◌+◌, ◌-◌, ◌*◌, ◌/◌, ◌<◌, ◌≤◌, ◌==◌, Bool, true, false, not, nat_lt, if◌then◌else◌, List, [], ◌++◌, length, take, drop, Option, Some, ap, sym, subst, ◌∙◌, refl, arith, take-add, take_all}
use Rattle.dm_migrate.proofs.Names.{nat_tests, Asker, Message, What, Process, IsLawfulProcess, IsLawfulShell, shell_of, shell_of_bytes, Ok, FitsShell, shell_is_lawful, shell_back, shell_ended, lawful_size, Wanted, Chunk, Block, Nothing}
use Rattle.dm_migrate.proofs.Names.{Arrival, IsNextPiece, after_block, after_chunk, moved_board, moved_manager, pull, restarted, revived_from, server_of_bytes, with_piece, memory_come, state_come, CanMove, IsReadAgain, HasBlock, HasChunk}
use Rattle.dm_migrate.proofs.Names.{block_of, chunk_bytes, chunk_of, is_last, memory_of, state_of, ArrivesWhole, ComesByPieces, ComesWhole, CanCome, Goes, HasPiece, IsOfSystem, Cargo, cargo_of, coming, count_of_pieces, moved, piece_for}
use Rattle.std.specs.Prelude.{option_map}
use Rattle.dm_link.specs.declared.Pid.{Pid}
use Rattle.dm_message.specs.declared.What.TheVariants as what
use Rattle.dm_switchboard.specs.Board.{Board}
use Rattle.dm_switchboard.specs.Packed.{IsSpelledBoard, board_of_bytes, board_spelling}
use Rattle.dm_procman.specs.Managing.{Managing}
use Rattle.dm_procman.specs.Packed.{IsSpelledManager, manager_of_bytes, manager_spelling}
use Rattle.dm_resident.specs.declared.Resident.{Resident}
use Rattle.dm_resident.specs.declared.Resident.TheVariants as resident
use Rattle.dm_migrate.proofs.Coming.{is_process}
use Rattle.dm_migrate.proofs.Pieces.{all_state, memory_waits}
use Rattle.dm_migrate.proofs.Servers.{board_again, board_some, in_system, manager_again, manager_elsewhere, manager_some}

-- a part more of a list
one_more : (xs : List ℕ) (n m : ℕ) → take n xs ++ take m (drop n xs) ≡ take (n + m) xs
one_more xs n m = sym (take-add n m xs)

state_after : (last : Bool) (blocks : ℕ) (s : List ℕ) (k : ℕ) → last ≡ is_last s k → take (512 * k) s ++ chunk_bytes s k ≡ state_come (after_chunk k last blocks) s
state_after true blocks s k e =
    let i : length s ≤ 512 * k + 512 = grind (arith, nat_tests, e) in
    one_more s (512 * k) 512 ∙ take_all (512 * k + 512) s i ∙ sym (all_state (blocks == 0) s)
state_after false blocks s k e =
    let n : 512 * k + 512 ≡ 512 * (k + 1) = omega arith in
    one_more s (512 * k) 512 ∙ ap (λ (x : ℕ). take x s) n

memory_after : (more : Bool) (m : List ℕ) (k : ℕ) → more ≡ nat_lt (k + 1) (length m / 256) → length m ≡ 256 * (length m / 256) → take (256 * k) m ++ take 256 (drop (256 * k) m) ≡ memory_come (if more then Block (k + 1) else Nothing) m
memory_after true m k e w =
    let n : 256 * k + 256 ≡ 256 * (k + 1) = omega arith in
    one_more m (256 * k) 256 ∙ ap (λ (x : ℕ). take x m) n
memory_after false m k e w =
    let j : length m / 256 ≤ k + 1 = grind (arith, nat_tests, e) in
    let i : length m ≤ 256 * k + 256 = omega (arith, j, w) in
    one_more m (256 * k) 256 ∙ take_all (256 * k + 256) m i

state_stays : (more : Bool) (s : List ℕ) (k : ℕ) → s ≡ state_come (if more then Block (k + 1) else Nothing) s
state_stays true s k = refl
state_stays false s k = refl

-- its memory is one of 1 to 256 whole blocks
record IsWhole (p : Process) : Type 0 where
  all : length p.memory ≡ 256 * (length p.memory / 256)
  least : 1 ≤ length p.memory / 256
  most : length p.memory / 256 ≤ 256

whole_memory : (p : Process) → CanMove (resident.Process p) → IsWhole p
whole_memory p h =
    let n : ℕ = h.lawful.size.0 in
    let e : length p.memory ≡ 256 * n = h.lawful.size.1 in
    let d : length p.memory / 256 ≡ n = omega (arith, e) in
    record {
      all = omega (arith, e, d);
      least = omega (arith, d, h.lawful.size.2);
      most = omega (arith, d, h.lawful.size.3);
    }

read_again : (p : Process) → IsReadAgain (resident.Process p) → shell_of_bytes (state_of (resident.Process p)) (length p.table) ≡ Ok (shell_of p)
unfolding IsReadAgain
read_again p again = shell_ended (length p.table) (state_of (resident.Process p)) (shell_of p) again

board_read : (b : Board) → IsReadAgain (resident.Board b) → board_of_bytes (board_spelling b) ≡ Ok b
unfolding IsReadAgain
board_read b again = again

manager_read : (g : Managing) → IsReadAgain (resident.Manager g) → manager_of_bytes g.machines g.images (manager_spelling g) ≡ Ok g
unfolding IsReadAgain
manager_read g again = again

-- behind the last chunk the first block is there, where there are blocks
first_block : (none : Bool) (c : Cargo) → (length c.memory / 256 == 0) ≡ none → HasPiece c (if none then Nothing else Block 0)
first_block true c e = tt
first_block false c e = grind (arith, nat_tests, e)

piece_after_chunk : (last : Bool) (c : Cargo) (cap k : ℕ) → CanCome c cap → last ≡ is_last c.state k → HasPiece c (after_chunk k last (length c.memory / 256))
piece_after_chunk true c cap k h e = first_block (length c.memory / 256 == 0) c refl
piece_after_chunk false c cap k h e = grind (arith, nat_tests, e)

piece_after_block : (more : Bool) (c : Cargo) (cap k : ℕ) → CanCome c cap → more ≡ nat_lt (k + 1) (length c.memory / 256) → HasPiece c (if more then Block (k + 1) else Nothing)
piece_after_block true c cap k h e =
    let j : k + 1 < length c.memory / 256 = grind (arith, nat_tests, e) in
    omega (arith, h.whole, j)
piece_after_block false c cap k h e = tt

module _ (c : Cargo) (source cap : ℕ) (held : List Message) (h : CanCome c cap) where
  chunk_asked : (k : ℕ) → HasChunk c.state k → IsNextPiece (coming c source cap held (Chunk k)) (chunk_of c.pid c.state k)
  chunk_asked k n = record {
    pid = refl;
    wanted = refl;
    whole = c.state;
    state = (let s = h.state source in record {
      size = s.size;
      process = λ is. let x = s.process is in record { shell = x.shell; read = x.read; pid = x.pid; blocks = x.blocks; moves = x.moves };
      server = s.server;
    });
    number = n;
    before = refl;
    here = refl;
    last = refl;
  }

  chunk_taken : (k : ℕ) → HasChunk c.state k → with_piece (coming c source cap held (Chunk k)) (chunk_of c.pid c.state k) ≡ Some (coming c source cap held (after_chunk k (is_last c.state k) (length c.memory / 256)))
  chunk_taken k n = λ i. Some (record {
    pid = c.pid;
    source = source;
    blocks = length c.memory / 256;
    moves = c.moves;
    size = length c.state;
    asker = c.asker;
    cap = cap;
    state = state_after (is_last c.state k) (length c.memory / 256) c.state k refl i;
    memory = sym (memory_waits (is_last c.state k) k c.memory h.whole) i;
    wanted = after_chunk k (is_last c.state k) (length c.memory / 256);
    held = held;
  })

  block_taken : (k : ℕ) → HasBlock c.memory k → with_piece (coming c source cap held (Block k)) (block_of c.pid c.memory k) ≡ Some (coming c source cap held (after_block k (length c.memory / 256)))
  block_taken k n = λ i. Some (record {
    pid = c.pid;
    source = source;
    blocks = length c.memory / 256;
    moves = c.moves;
    size = length c.state;
    asker = c.asker;
    cap = cap;
    state = state_stays (nat_lt (k + 1) (length c.memory / 256)) c.state k i;
    memory = memory_after (nat_lt (k + 1) (length c.memory / 256)) c.memory k refl h.whole i;
    wanted = after_block k (length c.memory / 256);
    held = held;
  })

  pub by_pieces : ComesByPieces c source cap held
  by_pieces = record {
    begins = refl;
    first = omega (arith, h.some);
    chunk_asked = chunk_asked;
    chunk_taken = chunk_taken;
    after_chunk = λ k n. piece_after_chunk (is_last c.state k) c cap k h refl;
    block_asked = λ k n. (refl, refl);
    block_taken = block_taken;
    after_block = λ k n. piece_after_block (nat_lt (k + 1) (length c.memory / 256)) c cap k h refl;
  }

  -- nothing or another block is asked for after a block
  no_more : (k : ℕ) → k + 1 ≡ length c.memory / 256 → after_block k (length c.memory / 256) ≡ Nothing
  no_more k e = grind (arith, nat_tests, e)

  one_block_more : (k : ℕ) → k + 1 < length c.memory / 256 → after_block k (length c.memory / 256) ≡ Block (k + 1)
  one_block_more k e = grind (arith, nat_tests, e)

  block_there : (k : ℕ) → HasBlock c.memory k → piece_for c (what.PullBlock c.pid k) ≡ Some (block_of c.pid c.memory k)
  block_there k n = grind (arith, nat_tests, n)

  chunk_there : (k : ℕ) → HasChunk c.state k → piece_for c (what.PullState c.pid k) ≡ Some (chunk_of c.pid c.state k)
  chunk_there k n = grind (arith, nat_tests, n)

  blocks_go : (n k : ℕ) → suc n + k ≡ length c.memory / 256 → Goes c (suc n) (coming c source cap held (Block k)) (what.PullBlock c.pid k) (coming c source cap held Nothing)
  blocks_go zero k e =
      let b : HasBlock c.memory k = omega (arith, e, h.whole) in (
        block_of c.pid c.memory k,
        coming c source cap held (after_block k (length c.memory / 256)),
        block_there k b,
        (refl, refl),
        block_taken k b,
        subst (λ (w : Wanted). Goes c zero (coming c source cap held w) (pull c.pid w) (coming c source cap held Nothing)) (sym (no_more k (omega (arith, e)))) (refl, refl),
      )
  blocks_go (suc n) k e =
      let b : HasBlock c.memory k = omega (arith, e, h.whole) in (
        block_of c.pid c.memory k,
        coming c source cap held (after_block k (length c.memory / 256)),
        block_there k b,
        (refl, refl),
        block_taken k b,
        subst (λ (w : Wanted). Goes c (suc n) (coming c source cap held w) (pull c.pid w) (coming c source cap held Nothing)) (sym (one_block_more k (omega (arith, e)))) (blocks_go n (k + 1) (omega (arith, e))),
      )

  -- behind the last chunk come all blocks, if there are any
  all_blocks : (n : ℕ) → n ≡ length c.memory / 256 → Goes c n (coming c source cap held (if n == 0 then Nothing else Block 0)) (pull c.pid (if n == 0 then Nothing else Block 0)) (coming c source cap held Nothing)
  all_blocks zero e = (refl, refl)
  all_blocks (suc n) e =
      let some : (suc n == 0) ≡ false = grind (arith, nat_tests) in
      subst (λ (none : Bool). Goes c (suc n) (coming c source cap held (if none then Nothing else Block 0)) (pull c.pid (if none then Nothing else Block 0)) (coming c source cap held Nothing)) (sym some)
      (blocks_go n 0 (omega (arith, e)))

  behind_last : (n : ℕ) → n ≡ length c.memory / 256
      → Goes c n (coming c source cap held (after_chunk 0 true (length c.memory / 256))) (pull c.pid (after_chunk 0 true (length c.memory / 256))) (coming c source cap held Nothing)
  behind_last n e =
      subst (λ (m : ℕ). Goes c n (coming c source cap held (if m == 0 then Nothing else Block 0)) (pull c.pid (if m == 0 then Nothing else Block 0)) (coming c source cap held Nothing)) e (all_blocks n e)

  last_chunk : (k : ℕ) → length c.state ≤ 512 * (k + 1) → is_last c.state k ≡ true
  last_chunk k e = grind (arith, nat_tests, e)

  not_last_chunk : (k : ℕ) → 512 * (k + 1) < length c.state → is_last c.state k ≡ false
  not_last_chunk k e = grind (arith, nat_tests, e)

  chunks_go : (d k n : ℕ) → length c.state ≤ 512 * (k + suc d) → 512 * (k + d) < length c.state → n ≡ suc d + length c.memory / 256 → Goes c n (coming c source cap held (Chunk k)) (what.PullState c.pid k) (coming c source cap held Nothing)
  chunks_go d k zero e f g = absurd (omega (arith, g))
  chunks_go zero k (suc n) e f g =
      let b : HasChunk c.state k = omega (arith, f) in (
        chunk_of c.pid c.state k,
        coming c source cap held (after_chunk k (is_last c.state k) (length c.memory / 256)),
        chunk_there k b,
        chunk_asked k b,
        chunk_taken k b,
        subst (λ (l : Bool). Goes c n (coming c source cap held (after_chunk k l (length c.memory / 256))) (pull c.pid (after_chunk k l (length c.memory / 256))) (coming c source cap held Nothing)) (sym (last_chunk k (omega (arith, e))))
            (behind_last n (omega (arith, g))),
      )
  chunks_go (suc d) k (suc n) e f g =
      let b : HasChunk c.state k = omega (arith, f) in (
        chunk_of c.pid c.state k,
        coming c source cap held (after_chunk k (is_last c.state k) (length c.memory / 256)),
        chunk_there k b,
        chunk_asked k b,
        chunk_taken k b,
        subst (λ (l : Bool). Goes c n (coming c source cap held (after_chunk k l (length c.memory / 256))) (pull c.pid (after_chunk k l (length c.memory / 256))) (coming c source cap held Nothing)) (sym (not_last_chunk k (omega (arith, f))))
            (chunks_go d (k + 1) n (omega (arith, e)) (omega (arith, f)) (omega (arith, g))),
      )

  goes_whole : Goes c (count_of_pieces c) (coming c source cap held (Chunk 0)) (what.PullState c.pid 0) (coming c source cap held Nothing)
  goes_whole =
      chunks_go ((length c.state + 511) / 512 - 1) 0 (count_of_pieces c) (omega (arith, h.some)) (omega (arith, h.some)) (omega (arith, h.some))

not_both : (b : Bool) → b ≡ true → b ≡ false → ⊥
not_both b t f = let e : true ≡ false = sym t ∙ f in absurd (cc e)

-- a process has a block
has_block : (p : Process) → CanMove (resident.Process p) → not (length p.memory / 256 == 0) ≡ true
has_block p h = is_process (length p.memory / 256) (whole_memory p h).least

-- what moves of what can move
pub can_come : (r : Resident) (cap machines images : ℕ) (asker : Option Asker) → CanMove r → IsOfSystem cap machines images r → CanCome (cargo_of r asker) cap
can_come (resident.Process p) cap machines images asker h e = record {
  state = λ source. record {
    size = refl;
    process = λ is. record { shell = shell_of p; read = ap (shell_of_bytes (state_of (resident.Process p))) e ∙ read_again p h.again; pid = refl; blocks = refl; moves = refl };
    server = λ is. absurd (not_both (not (length p.memory / 256 == 0)) (has_block p h) is);
  };
  some = h.some;
  whole = (whole_memory p h).all;
}
can_come (resident.Board b) cap machines images asker h e = record {
  state = λ source. record {
    size = refl;
    process = λ is. absurd cc;
    server = λ is. record { board = λ named. (b, board_read b h.again, h.moves); manager = λ named. absurd cc };
  };
  some = h.some;
  whole = omega arith;
}
can_come (resident.Manager g) cap machines images asker h e = record {
  state = λ source. record {
    size = refl;
    process = λ is. absurd cc;
    server = λ is. record {
      board = λ named. absurd cc;
      manager = λ named m n. (in_system m n g, manager_elsewhere (manager_spelling g) g m n (manager_read g h.again), h.moves);
    };
  };
  some = h.some;
  whole = omega arith;
}

-- what has come is a process or a server
abbrev comes_as : (is : Bool) (machines images : ℕ) (pid : Pid) (state memory : List ℕ) (cap : ℕ) → Option Resident
comes_as is machines images pid state memory cap = if is then option_map resident.Process (revived_from (shell_of_bytes state cap) memory) else server_of_bytes machines images pid state

pub comes_back : (r : Resident) (source cap machines images : ℕ) (asker : Option Asker) (held : List Message) → CanMove r → IsOfSystem cap machines images r
    → restarted machines images (coming (cargo_of r asker) source cap held Nothing) ≡ Some (moved r)
comes_back (resident.Process p) source cap machines images asker held h e =
    let read : shell_of_bytes (state_of (resident.Process p)) cap ≡ Ok (shell_of p) = ap (shell_of_bytes (state_of (resident.Process p))) e ∙ read_again p h.again in
    ap (λ (is : Bool). comes_as is machines images p.pid (state_of (resident.Process p)) p.memory cap) (has_block p h) ∙ ap (λ r. option_map resident.Process (revived_from r p.memory)) read
comes_back (resident.Board b) source cap machines images asker held h e = ap moved_board (board_read b h.again)
comes_back (resident.Manager g) source cap machines images asker held h e =
    let same : manager_of_bytes machines images (manager_spelling g) ≡ manager_of_bytes g.machines g.images (manager_spelling g) = λ i. manager_of_bytes (sym e.0 i) (sym e.1 i) (manager_spelling g) in
    ap moved_manager (same ∙ manager_read g h.again)

pub comes_whole : (r : Resident) (source cap machines images : ℕ) (asker : Option Asker) (held : List Message) → CanMove r → IsOfSystem cap machines images r → ComesWhole r source cap machines images asker held
comes_whole r source cap machines images asker held h e = record {
  pieces = by_pieces (cargo_of r asker) source cap held (can_come r cap machines images asker h e);
  whole = comes_back r source cap machines images asker held h e;
}

-- it has no more blocks than a memory
few_blocks : (r : Resident) → CanMove r → length (memory_of r) / 256 ≤ 256
few_blocks (resident.Process p) h = (whole_memory p h).most
few_blocks (resident.Board b) h = omega arith
few_blocks (resident.Manager g) h = omega arith

pub arrives : (r : Resident) (cap machines images : ℕ) (asker : Option Asker) → CanMove r → IsOfSystem cap machines images r → ArrivesWhole r cap machines images asker
arrives r cap machines images asker h e =
    let c : Cargo = cargo_of r asker in
    record {
      may_ask = (few_blocks r h, h.moves);
      arrives = λ source old new a asked answers. let end : Arrival = coming c source cap [] Nothing in (
        end,
        subst (λ (w : What). Goes c (count_of_pieces c) a w end) (sym answers.3)
            (subst (λ (x : Arrival). Goes c (count_of_pieces c) x (what.PullState c.pid 0) end) (sym answers.2) (goes_whole c source cap [] (can_come r cap machines images asker h e))),
        comes_back r source cap machines images asker [] h e,
      );
    }

is_read_again : (p : Process) → IsLawfulProcess p → IsLawfulShell (length p.table) (shell_of p) → FitsShell (shell_of p) → IsReadAgain (resident.Process p)
unfolding IsReadAgain
is_read_again p l s f = shell_back (length p.table) (shell_of p) l.slots s f

board_is_read_again : (b : Board) → IsSpelledBoard b → IsReadAgain (resident.Board b)
unfolding IsReadAgain
board_is_read_again b h = board_again b h

manager_is_read_again : (g : Managing) → IsSpelledManager g.machines g.images g → IsReadAgain (resident.Manager g)
unfolding IsReadAgain
manager_is_read_again g h = manager_again g h

-- every lawful process can move
pub process_can_move : (p : Process) → IsLawfulProcess p → FitsShell (shell_of p) → p.moves < 4294967295 → CanMove (resident.Process p)
process_can_move p l f m =
    let s : IsLawfulShell (length p.table) (shell_of p) = shell_is_lawful p l in
    let size = lawful_size (length p.table) (shell_of p) l.slots s in
    record {
      lawful = l;
      moves = m;
      again = is_read_again p l s f;
      some = omega (arith, size.0);
      most = omega (arith, size.1);
    }

-- so can each server that is spelled
pub board_can_move : (b : Board) → IsSpelledBoard b → b.moves < 4294967295 → length (state_of (resident.Board b)) ≤ 4294967295 → CanMove (resident.Board b)
board_can_move b h m most = record { lawful = h.lawful; moves = m; again = board_is_read_again b h; some = board_some b; most = most }

pub manager_can_move : (g : Managing) → IsSpelledManager g.machines g.images g → g.moves < 4294967295 → length (state_of (resident.Manager g)) ≤ 4294967295 → CanMove (resident.Manager g)
manager_can_move g h m most = record { lawful = h.lawful; moves = m; again = manager_is_read_again g h; some = manager_some g; most = most }
