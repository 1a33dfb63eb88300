use Rattle.dm_migrate.proofs.Names.{ℕ, ◌*◌, ◌/◌, Bool, List, length, ◌≡◌, ◌∙◌, sym, ap, ap₂, subst, Arrival, IsNextChunk, after_chunk, with_chunk, IsComing, Parts, come_of, memory_in, Wanted}
use Rattle.dm_migrate.proofs.arriving.Arriving.put_chunk.Goals as goal
use Rattle.dm_migrate.proofs.Pieces.{put}
use Rattle.dm_migrate.proofs.Coming.{chunk_after, chunk_view, fits}

-- what is there, and what is asked for, in the words of the fields
abbrev parts : (c : goal.After-self-1) → Parts
parts c = record { pid = c.self.inside.pid; source = c.self.inside.source; moves = c.self.inside.moves; asker = c.self.inside.asker; cap = c.self.inside.cap; state = c.self.inside.state.items; memory = memory_in c.self.inside.body; wanted = c.self.inside.wanted; held = c.self.inside.held.items }

next : (a : Parts) (x : Arrival) (k : ℕ) (ends : Bool) (bytes : List ℕ) → come_of a ≡ x → IsNextChunk x x.pid k ends bytes → IsNextChunk (come_of a) a.pid k ends bytes
next a x k ends bytes v n = subst (λ (y : Arrival). IsNextChunk y y.pid k ends bytes) (sym v) n

-- as many blocks as it has
blocks_are : (a : Parts) (x : Arrival) (blocks : ℕ) → come_of a ≡ x → blocks ≡ x.blocks → blocks ≡ length a.memory / 256
blocks_are a x blocks v is = is ∙ ap (λ (y : Arrival). y.blocks) (sym v)

-- src/arriving.rt:184:9
pub put_at-requires : goal.put_at-requires
put_at-requires c =
    let a : Parts = record { pid = c.self.inside.pid; source = c.self.inside.source; moves = c.self.inside.moves; asker = c.self.inside.asker; cap = c.self.inside.cap; state = c.self.inside.state.items; memory = memory_in c.self.inside.body; wanted = c.self.inside.wanted; held = c.self.inside.held.items } in
    fits a c.args.chunk c.args.last c.args.bytes.now (next a c.args.self.now c.args.chunk c.args.last c.args.bytes.now c.self.view_is c.requires)

-- src/arriving.rt:180:5
pub invariant_of-self : goal.invariant_of-self
invariant_of-self c =
    let after : IsComing _ = chunk_after (parts c) c.args.chunk c.args.last c.args.bytes.now c.self.invariant.0 (next (parts c) c.args.self.now c.args.chunk c.args.last c.args.bytes.now c.self.view_is c.requires) in
    let asks : c.after_chunk-self-inside.result ≡ after_chunk c.args.chunk c.args.last (length (memory_in c.self.inside.body) / 256) =
    c.after_chunk-self-inside.ensures ∙ ap (after_chunk c.args.chunk c.args.last) (blocks_are (parts c) c.args.self.now c.blocks-blocks.result c.self.view_is c.blocks-blocks.ensures) in (
      subst (λ (s : List ℕ). IsComing (record (parts c) { state = s; wanted = c.after_chunk-self-inside.result })) (sym c.put_at.ensures)
          (subst (λ (w : Wanted). IsComing (record (parts c) { state = put c.self.inside.state.items (512 * c.args.chunk) c.args.bytes.now; wanted = w })) (sym asks) after),
      c.self.invariant.1,
    )

-- src/arriving.rt:180:5
pub returns : goal.returns
returns c =
    let asks : c.after_chunk-self-inside.result ≡ after_chunk c.args.chunk c.args.last (length (memory_in c.self.inside.body) / 256) =
    c.after_chunk-self-inside.ensures ∙ ap (after_chunk c.args.chunk c.args.last) (blocks_are (parts c) c.args.self.now c.blocks-blocks.result c.self.view_is c.blocks-blocks.ensures) in
    ap₂ (λ (s : List ℕ) (w : Wanted). come_of (record (parts c) { state = s; wanted = w })) c.put_at.ensures asks
    ∙ chunk_view (parts c) c.args.chunk c.args.last c.args.bytes.now c.self.invariant.0 (next (parts c) c.args.self.now c.args.chunk c.args.last c.args.bytes.now c.self.view_is c.requires)
    ∙ ap (λ (x : Arrival). with_chunk x c.args.chunk c.args.last c.args.bytes.now) c.self.view_is
