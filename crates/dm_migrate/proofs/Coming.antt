-- What stands after a chunk has come.
use Rattle.dm_migrate.proofs.Names.{ℕ, ◌≡◌, ◌⊎◌, ◌+◌, ◌*◌, ◌/◌, ◌<◌, ◌≤◌, ◌==◌, Bool, true, false, not, if◌then◌else◌, List, ◌++◌, length, take, ap, subst, sym, ◌∙◌, refl, arith, nat_tests, IsLawfulProcess, IsLawfulStatus, Shell, IsLawfulShell, shell_of_bytes, Arrival, IsNextChunk}
use Rattle.dm_migrate.proofs.Names.{IsServerState, IsShellFor, IsStateFor, after_chunk, revived, with_chunk, Result, Ok, Err, IfOk, StateBytesError, Wanted, Block, Nothing, IsComing, IsStage, Parts, come_of, memory_come, state_come}
use Rattle.dm_migrate.proofs.Pieces.{put, within, goes_on, chunk_come, last_come, length-put, memory_waits}

abbrev pub chunk_put : Parts → ℕ → Bool → List ℕ → Parts
chunk_put a k ends bytes = record a { state = put a.state (512 * k) bytes; wanted = after_chunk k ends (length a.memory / 256) }

-- the state bytes that have come before this chunk
before : (a : Parts) (k : ℕ) (ends : Bool) (bytes : List ℕ) → IsNextChunk (come_of a) a.pid k ends bytes → state_come a.wanted a.state ≡ take (512 * k) a.state
before a k ends bytes n = ap (λ w. state_come w a.state) n.wanted

pub fits : (a : Parts) (k : ℕ) (ends : Bool) (bytes : List ℕ) → IsNextChunk (come_of a) a.pid k ends bytes → 512 * k + length bytes ≤ length a.state
fits a k ends bytes n = within a.state n.whole bytes k n.state.size n.number n.here

-- behind the last chunk its state is there whole
last_stage : (none : Bool) (x : Arrival) (state memory : List ℕ) → (length memory / 256 == 0) ≡ none → IsStateFor x state → IsStage x state memory (if none then Nothing else Block 0)
last_stage true x state memory e h = h
last_stage false x state memory e h = (grind (arith, nat_tests, e), h)

stage : (a : Parts) (k : ℕ) (ends : Bool) (bytes : List ℕ) → IsComing a → IsNextChunk (come_of a) a.pid k ends bytes → IsStage (come_of (chunk_put a k ends bytes)) (put a.state (512 * k) bytes) a.memory (after_chunk k ends (length a.memory / 256))
stage a k true bytes h n =
    let w : put a.state (512 * k) bytes ≡ n.whole = last_come a.state n.whole bytes k n.state.size n.number n.here n.last (sym (before a k true bytes n) ∙ n.before) in
    last_stage (length a.memory / 256 == 0) (come_of (chunk_put a k true bytes)) (put a.state (512 * k) bytes) a.memory refl
    (record {
      size = refl;
      process = λ is. let s = n.state.process is in record { shell = s.shell; read = ap (λ x. shell_of_bytes x a.cap) w ∙ s.read; pid = s.pid; blocks = s.blocks; moves = s.moves };
      server = λ is. subst (IsServerState a.pid) (sym w) (n.state.server is);
    })
stage a k false bytes h n =
    let g : 512 * (k + 1) < length a.state = (goes_on a.state n.whole bytes k n.state.size n.number n.here n.last).1 in
    omega (arith, g, length-put a.state bytes (512 * k) (fits a k false bytes n))

pub chunk_after : (a : Parts) (k : ℕ) (ends : Bool) (bytes : List ℕ) → IsComing a → IsNextChunk (come_of a) a.pid k ends bytes → IsComing (chunk_put a k ends bytes)
chunk_after a k ends bytes h n = record {
  cap = h.cap;
  moves = h.moves;
  size = omega (arith, h.size, length-put a.state bytes (512 * k) (fits a k ends bytes n));
  whole = h.whole;
  most = h.most;
  stage = stage a k ends bytes h n;
}

pub chunk_view : (a : Parts) (k : ℕ) (ends : Bool) (bytes : List ℕ) → IsComing a → IsNextChunk (come_of a) a.pid k ends bytes → come_of (chunk_put a k ends bytes) ≡ with_chunk (come_of a) k ends bytes
chunk_view a k ends bytes h n i = record {
  pid = a.pid;
  source = a.source;
  blocks = (come_of a).blocks;
  moves = a.moves;
  size = length-put a.state bytes (512 * k) (fits a k ends bytes n) i;
  asker = a.asker;
  cap = a.cap;
  state = (chunk_come ends (length a.memory / 256) a.state n.whole bytes k n.state.size n.number n.here n.last ∙ ap (λ (x : List ℕ). x ++ bytes) (sym (before a k ends bytes n))) i;
  memory = (memory_waits ends k a.memory h.whole ∙ ap (λ w. memory_come w a.memory) (sym n.wanted)) i;
  wanted = after_chunk k ends (length a.memory / 256);
  held = a.held;
}

-- what has come is lawful, once all has
pub lawful_after : (a : Parts) (s : Shell) → IsComing a → s.blocks ≡ length a.memory / 256 → IsLawfulShell a.cap s → IsLawfulProcess (revived s a.memory)
lawful_after a s h e l =
    let n : length a.memory ≡ 256 * s.blocks = omega (arith, e, h.whole) in
    record {
      home = l.home;
      registers = l.registers;
      size = (s.blocks, n, l.blocks.0, l.blocks.1);
      links = l.links;
      slots = subst (λ (c : ℕ). (c ≡ 32) ⊎ (c ≡ 128)) (sym l.slots) h.cap;
      status = subst (λ (size : ℕ). IsLawfulStatus size s.status) (sym n) l.status;
      queue = λ k d i. absurd (omega (arith, i));
    }

abbrev blocks_read : Result Shell StateBytesError → ℕ
blocks_read (Ok s) = s.blocks
blocks_read (Err bad) = 0

-- what holds of a success holds of the value
pub of_ok : {A E : Type 0} (P : A → Type 0) (r : Result A E) (x : A) → r ≡ Ok x → IfOk r P → P x
of_ok P r x e h = subst (λ r. IfOk r P) e h

-- what has blocks is a process
pub is_process : (blocks : ℕ) → 1 ≤ blocks → not (blocks == 0) ≡ true
is_process blocks some = grind (arith, nat_tests, some)

-- where all has come, the state bytes are of what comes
pub state_whole : (a : Parts) → IsComing a → a.wanted ≡ Nothing → IsStateFor (come_of a) a.state
state_whole a h n = subst (λ (w : Wanted). IsStage (come_of a) a.state a.memory w) n h.stage

pub shell_whole : (a : Parts) → IsComing a → a.wanted ≡ Nothing → 1 ≤ length a.memory / 256 → IsShellFor (come_of a) a.state
shell_whole a h n some = (state_whole a h n).process (is_process (length a.memory / 256) some)

pub all_come : (a : Parts) (s : Shell) (bytes : List ℕ) → IsComing a → a.wanted ≡ Nothing → 1 ≤ length a.memory / 256 → bytes ≡ a.state → shell_of_bytes bytes a.cap ≡ Ok s → IsLawfulShell a.cap s → IsLawfulProcess (revived s a.memory)
all_come a s bytes h n some b r l =
    let for : IsShellFor (come_of a) a.state = shell_whole a h n some in
    let same : shell_of_bytes bytes a.cap ≡ Ok for.shell = ap (λ (x : List ℕ). shell_of_bytes x a.cap) b ∙ for.read in
    lawful_after a s h (ap blocks_read (sym r ∙ same) ∙ for.blocks) l
