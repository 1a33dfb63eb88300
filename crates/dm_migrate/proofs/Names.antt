-- What the proofs of this crate name of what lies below it.
pub use Rattle.std.proofs.Common.{ap₂, slice_index_or, ◌==◌, not}
pub use Rattle.std.proofs.lemmas.List.{length-take, map-append, nil_from_length, take_at, take_min, take_rest}
pub use Rattle.std.proofs.lemmas.List.Elements.{All-append, All-cons, All-map}
pub use Rattle.std.specs.Vec.Iter.{into_iter_items}
pub use Rattle.std.specs.declared.result.Result.{Result}
pub use Rattle.std.specs.declared.result.Result.TheVariants.{Err, Ok}
pub use Rattle.dm_processor.proofs.Names.{length-append, length-take-le, replicate, take-add}
pub use Rattle.dm_message.specs.Plain.{PlainWhat, plain_message, plain_what, with_what}
pub use Rattle.dm_message.specs.declared.Asker.{Asker}
pub use Rattle.dm_message.specs.declared.What.{What}
pub use Rattle.dm_linktable.proofs.Names.{map, vec_capacity, vec_len}
pub use Rattle.dm_process.proofs.Names.{min}
pub use Rattle.dm_statebytes.proofs.Lawful.{shell_is_lawful}
pub use Rattle.dm_statebytes.proofs.Names.{All, Bool, FitsShell, IfOk, IsLawfulMessage, IsLawfulProcess, IsLawfulShell, IsLawfulStatus, IsMachine, List, Message, None, Option, Process, Some, [], ap, arith, common_steps, drop, false, get_or}
pub use Rattle.dm_statebytes.proofs.Names.{if◌then◌else◌, length, length-drop, nat_lt, nat_tests, refl, set, shell_of, shell_of_bytes, subst, suc, sym, take, take_all, true, zero, ℕ, ◌*◌, ◌++◌, ◌+◌, ◌-◌, ◌/◌, ◌<◌, ◌∙◌, ◌∷◌, ◌≡◌, ◌≤◌, ◌⊎◌}
pub use Rattle.dm_statebytes.proofs.Shells.{shell_back, shell_ended}
pub use Rattle.dm_statebytes.proofs.Sizes.{lawful_size}
pub use Rattle.dm_statebytes.specs.declared.Shell.{Shell}
pub use Rattle.dm_statebytes.specs.declared.StateBytesError.{StateBytesError}
pub use Rattle.dm_migrate.specs.Arrival.{Arrival, IsNextChunk, IsNextPiece, IsServerState, IsShellFor, IsStateFor, after_block, after_chunk, memory_come, pull, restarted, revived, revived_from, server_of_bytes, moved_board, moved_manager, is_process_coming, state_come, with_chunk, with_piece}
pub use Rattle.dm_migrate.specs.Cargo.{Cargo, cargo_of}
pub use Rattle.dm_migrate.specs.Coming.{IsBody, IsComing, IsStage, Parts, come_of, memory_in}
pub use Rattle.dm_migrate.specs.Departure.{CanMove, Departure, sent_on}
unfoldable pub use Rattle.dm_resident.specs.Packed.{IsReadAgain}
pub use Rattle.dm_migrate.specs.Pieces.{HasBlock, HasChunk, block_of, chunk_bytes, chunk_of, is_last}
pub use Rattle.dm_migrate.specs.Way.{ArrivesWhole, CanCome, ComesByPieces, ComesWhole, Goes, HasPiece, IsOfSystem, coming, count_of_pieces, piece_for}
pub use Rattle.dm_migrate.specs.declared.arriving.Wanted.{Wanted}
pub use Rattle.dm_migrate.specs.declared.arriving.Wanted.TheVariants.{Block, Chunk, Nothing}
pub use Rattle.dm_resident.specs.Residents.{process_of, board_of, manager_of, name_of, moves_of, memory_of, blocks_of, queue_of, with_queue, moved}
pub use Rattle.dm_resident.specs.Lawful.{HasFewAddresses, IsLawfulResident}
pub use Rattle.dm_resident.specs.Packed.{state_of}
